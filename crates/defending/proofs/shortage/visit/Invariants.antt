use Rattle.defending.proofs.VisitDays.{Visiting}
use Rattle.defending.proofs.shortage.visit.Given as goal

abbrev pub invariant-loop-k : goal.invariant-loop-k
invariant-loop-k l = Visiting l.one l.request l.fn.short l.short-items l.days l.k
