use Rattle.std.proofs.Common.{◌≡◌, ◌*◌, ◌≤◌, length, take}
use Rattle.shelf.specs.Contents.{contents}
use Rattle.desk.specs.Desks.{view}
use Rattle.defending.specs.LinedUp.{lined}
use Rattle.defending.proofs.CountingLines.{Counted}
use Rattle.defending.proofs.ShelfReads.{GoesThrough}
use Rattle.defending.proofs.size.preemption_size.Given as goal

-- the entries come in the shelf's order, and those that came are counted
abbrev pub invariant-loop-next : goal.invariant-loop-next
invariant-loop-next l =
    GoesThrough (contents l.shelf) l.initial.next-iterator
    × (length l.short ≡ 31)
    × (length l.granted ≡ 31)
    × (l.lines ≤ 31 * length l.yielded)
    × Counted l.request (view l.desk).lines (lined (view l.desk).places (take (length l.yielded) (contents l.shelf))) l.short l.granted l.lines
