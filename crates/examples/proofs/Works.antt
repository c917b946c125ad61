-- The worked example computes to its rows.
use Rattle.std.proofs.Common.{refl}
use Rattle.journal.specs.Accounts.{balance, into, out_of}
use Rattle.law.specs.View.{find}
use Rattle.law.specs.Posting.{post, by_day, each_day, largest}
use Rattle.law.specs.Places.{seat, some}
use Rattle.law.specs.Preemption.{wanted, taken, supersede_all, give_all, in_turn, holdings}
use Rattle.law.specs.Calls.{stop_if, if_so, earliest, first_due, step, run}
use Rattle.examples.specs.Worked.{WorkedExample}

pub worked_example : WorkedExample
unfolding wanted run step post by_day each_day taken supersede_all give_all in_turn holdings find seat some largest stop_if if_so balance into out_of earliest first_due
worked_example = record {
  set_aside = refl;
  holder_meanwhile = refl;
  challenger_meanwhile = refl;
  holder_challenged = refl;
  by_the_other = refl;
  challenger_competing = refl;
  answer_by = refl;
  match_accepted = refl;
  match_late = refl;
  holder_after = refl;
  challenger_after = refl;
  nothing_free = refl;
  nothing_aside = refl;
  holder_confirmed = refl;
  holder_longer = refl;
  challenger_offered = refl;
}
