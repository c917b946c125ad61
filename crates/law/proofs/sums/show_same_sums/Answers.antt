use Rattle.law.proofs.OwnSums.{same_sums}
use Rattle.law.proofs.sums.show_same_sums.Goals as goal

pub returns : goal.returns
returns c = same_sums
