-- A sheet that is open throughout: it ranks as the firm sheet does, and no minute is too late.
use Rattle.std.specs.Prelude.{true, ◌||◌}
use Rattle.terms.specs.Words.{is_pending, is_confirmed}
use Rattle.sheets.specs.Rules.{Rules}
use Rattle.firm.specs.Firm.{firm}

-- rank, turn, right, answer-by and confirm time are the firm sheet's; every request is carried and in time, and every
-- pending or confirmed record is open
abbrev pub always_open : Rules
always_open = record {
  carries = λ c. true;
  outranks = firm.outranks;
  gives_before = firm.gives_before;
  may_match = firm.may_match;
  in_time = λ c minute days. true;
  is_open = λ c d minute days. is_pending d.state || is_confirmed d.state;
  answer_by = firm.answer_by;
  confirm_time = firm.confirm_time;
}
