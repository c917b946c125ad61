use Rattle.std.proofs.Common.{◌+◌, min, get_or}
use Rattle.desk.specs.Records.{held_on}
use Rattle.defending.proofs.DayByDay.{SetUntil}
use Rattle.defending.proofs.size.grant_more.Given as goal

abbrev pub invariant-loop-k : goal.invariant-loop-k
invariant-loop-k l = SetUntil (λ i. min (get_or l.fn.granted i 0 + held_on (l.request.start + i) l.one) l.request.mw) l.request.length l.fn.granted l.granted-items l.k
