use Rattle.visits.proofs.Closed.{closed_form}
use Rattle.visits.proofs.show_closed_form.Goals as goal

pub returns : goal.returns
returns c = closed_form
