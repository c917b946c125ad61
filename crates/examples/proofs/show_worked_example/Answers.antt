use Rattle.examples.proofs.Works.{worked_example}
use Rattle.examples.proofs.show_worked_example.Goals as goal

pub returns : goal.returns
returns c = worked_example
