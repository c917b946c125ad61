use Rattle.law.proofs.BeginsWhenDue.{begins_exactly_when_due}
use Rattle.law.proofs.runs.show_begins_when_due.Goals as goal

pub returns : goal.returns
returns c = begins_exactly_when_due
