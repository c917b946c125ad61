-- What the clerk finds of a record that a challenger meets.
use Rattle.std.specs.Prelude.{ℕ, Bool, true, false, Some, None, Option}
use Rattle.terms.specs.declared.request.Request.{Request}
use Rattle.terms.specs.declared.request.Standing.{Standing}
use Rattle.terms.specs.Days.{Days}
use Rattle.firm.specs.Firm.{firm, firm_open_until}
use Rattle.findings.specs.declared.Finding.{Finding}

-- until when the record may match, if it may
abbrev pub granted_until : Bool → ℕ → Option ℕ
granted_until true last = Some last
granted_until false last = None

abbrev pub found : Request → Standing → ℕ → Days → Finding
found c d minute days = record {
  outranked = firm.outranks c d;
  open_until = firm_open_until c d days;
  match_until = granted_until (firm.may_match c d) (firm.answer_by c d minute days);
}
