use Rattle.examples.proofs.Witnessed.{witness}
use Rattle.examples.proofs.show_witness.Goals as goal

pub returns : goal.returns
returns c = witness
