-- The non-firm sheet keeps the laws.
use Rattle.std.proofs.Common.{arith}
use Rattle.std.proofs.lemmas.Bool.Decides.{nat_tests}
use Rattle.sheets.specs.Laws.{Lawful}
use Rattle.sheets.proofs.TurnLaws.{turn_one_first, turn_in_line, turn_pending_first}
use Rattle.firm.specs.Firm.{firm_order}
use Rattle.nonfirm.specs.NonFirm.{nonfirm}

pub nonfirm_lawful : Lawful nonfirm
nonfirm_lawful = record {
  one_first = λ a b _ _. turn_one_first firm_order a b;
  in_line = λ a b c _ _ _. turn_in_line firm_order a b c;
  pending_first = λ a b _ _. turn_pending_first firm_order a b;
  right_confirmed = λ c d _ _ right. grind (arith, nat_tests);
  right_outranked = λ c d _ _ right. grind (arith, nat_tests);
  right_not_network = λ c d _ _ right. grind (arith, nat_tests);
  raised_stands = λ c d _ _ right. grind (arith, nat_tests);
  answer_later = λ c d minute days _ _ _ in_time. (omega arith, omega arith);
  confirm_later = λ d _. grind (arith, nat_tests);
}
