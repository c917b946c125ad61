use Rattle.examples.proofs.AlwaysOpenLaws.{always_open_lawful}
use Rattle.examples.proofs.show_always_open.Goals as goal

pub returns : goal.returns
returns c = always_open_lawful
