use Rattle.law.proofs.KeptOverRuns.{every_call_keeps}
use Rattle.law.proofs.runs.show_every_call_keeps.Goals as goal

pub returns : goal.returns
returns c = every_call_keeps
