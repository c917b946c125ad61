use Rattle.law.proofs.LineByLine.{only_submits_take}
use Rattle.law.proofs.TakenInTurn.{taken_in_turn}
use Rattle.law.proofs.runs.show_taken_in_turn.Goals as goal

pub returns : goal.returns
returns c = record { rightly = taken_in_turn; only = only_submits_take }
