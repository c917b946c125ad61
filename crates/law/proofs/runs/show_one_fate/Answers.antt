use Rattle.law.proofs.MatchStarts.{one_fate, only_one}
use Rattle.law.proofs.runs.show_one_fate.Goals as goal

pub returns : goal.returns
returns c = record { fate = one_fate; alone = only_one }
