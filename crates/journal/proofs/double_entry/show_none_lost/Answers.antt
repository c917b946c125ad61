use Rattle.journal.proofs.Conservation.{none_lost}
use Rattle.journal.proofs.double_entry.show_none_lost.Goals as goal

pub returns : goal.returns
returns c = none_lost
