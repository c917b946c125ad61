use Rattle.visits.proofs.Stopping.{stopping_changes_nothing}
use Rattle.visits.proofs.show_stopping_changes_nothing.Goals as goal

pub returns : goal.returns
returns c = stopping_changes_nothing
