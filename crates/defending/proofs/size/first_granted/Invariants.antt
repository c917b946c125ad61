use Rattle.std.proofs.Common.{◌+◌, min, get_or, drop}
use Rattle.defending.proofs.DayByDay.{SetUntil}
use Rattle.defending.proofs.size.first_granted.Given as goal

abbrev pub invariant-loop-mw : goal.invariant-loop-mw
invariant-loop-mw l = SetUntil (λ i. min (get_or l.desk.free.now (l.request.start + i) 0) l.request.mw) l.request.length (drop l.request.start l.desk.free.now) l.mw-items l.mw-index
