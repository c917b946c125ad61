-- The sheet that is open throughout keeps the laws.
use Rattle.std.proofs.Common.{arith}
use Rattle.sheets.specs.Laws.{Lawful}
use Rattle.firm.specs.FirmLaws.{firm_lawful}
use Rattle.examples.specs.AlwaysOpen.{always_open}

pub always_open_lawful : Lawful always_open
always_open_lawful = record {
  one_first = firm_lawful.one_first;
  in_line = firm_lawful.in_line;
  pending_first = firm_lawful.pending_first;
  right_confirmed = firm_lawful.right_confirmed;
  right_outranked = firm_lawful.right_outranked;
  right_not_network = firm_lawful.right_not_network;
  raised_stands = firm_lawful.raised_stands;
  answer_later = λ c d minute days _ _ _ in_time. (omega arith, omega arith);
  confirm_later = firm_lawful.confirm_later;
}
