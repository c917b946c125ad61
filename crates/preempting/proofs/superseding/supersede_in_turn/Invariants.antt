use Rattle.std.proofs.Common.{◌≡◌, length, take}
use Rattle.shelf.specs.Contents.{contents}
use Rattle.desk.specs.Desks.{view}
use Rattle.posting.specs.Postable.{with_lines}
use Rattle.defending.specs.LinedUp.{lined}
use Rattle.defending.proofs.ShelfReads.{GoesThrough}
use Rattle.preempting.specs.Visits.{ShortShown, superseding}
use Rattle.preempting.proofs.Folds.{visits}
use Rattle.preempting.proofs.superseding.supersede_in_turn.Given as goal

-- the entries come in the shelf's order, and those that came were visited
abbrev pub invariant-loop-one : goal.invariant-loop-one
invariant-loop-one l =
    let v = view l.initial.ledger.desk in
    let ls = visits (superseding l.minute l.request) (take (length l.yielded) (lined v.places (contents l.defenders))) v.lines in
    GoesThrough (contents l.defenders) l.initial.one-iterator
    × (view l.ledger.desk ≡ with_lines v ls)
    × ShortShown l.request ls l.short
