use Rattle.std.proofs.Common.{◌≡◌, take, sum_by}
use Rattle.desk.specs.Records.{held_on, aside_on}
use Rattle.desk.proofs.sums.held_and_aside.Given as goal

abbrev pub invariant-loop-one : goal.invariant-loop-one
invariant-loop-one l = (l.held ≡ sum_by (held_on l.day) (take l.one-index l.places)) × (l.aside ≡ sum_by (aside_on l.day) (take l.one-index l.places))
