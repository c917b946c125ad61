use Rattle.law.proofs.AccountsHold.{no_megawatt_lost}
use Rattle.law.proofs.runs.show_no_megawatt_lost.Goals as goal

pub returns : goal.returns
returns c = no_megawatt_lost
