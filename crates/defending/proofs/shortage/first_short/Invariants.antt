use Rattle.std.proofs.Common.{◌+◌, ◌-◌, get_or, drop}
use Rattle.defending.proofs.DayByDay.{SetUntil}
use Rattle.defending.proofs.shortage.first_short.Given as goal

abbrev pub invariant-loop-mw : goal.invariant-loop-mw
invariant-loop-mw l = SetUntil (λ i. l.request.mw - get_or l.desk.free.now (l.request.start + i) 0) l.request.length (drop l.request.start l.desk.free.now) l.mw-items l.mw-index
