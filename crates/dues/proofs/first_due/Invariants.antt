use Rattle.std.proofs.Common.{◌≡◌, ◌+◌, ◌≤◌, map, length, take, drop}
use Rattle.shelf.specs.Contents.{contents, room}
use Rattle.desk.specs.Records.{entry_of}
use Rattle.dues.proofs.DueItems.{Heads}
use Rattle.dues.proofs.first_due.Given as goal

-- some first places are still to be looked at, and of those behind them what is due stands on the shelf
abbrev pub invariant-loop-place : goal.invariant-loop-place
invariant-loop-place l =
    let rest = l.place-iterator.iter.iter.rest.now in
    (l.place-iterator.iter.count ≡ 0)
    × (rest ≡ take (length rest) l.places)
    × (room l.shelf ≡ 128)
    × (length (contents l.shelf) + length rest ≤ length l.places)
    × Heads l.minute (length rest) (map entry_of (drop (length rest) l.places)) (contents l.shelf)
