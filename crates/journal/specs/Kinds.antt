-- The kinds of journal lines and their numbers.
use Rattle.std.specs.Prelude.{ℕ, Bool, true, false}
use Rattle.journal.specs.declared.line.LineKind.{LineKind}
use Rattle.journal.specs.declared.line.LineKind.TheVariants.{Posted, Granted, Superseded, Recalled, SetAside, Lost, Kept, Extended, Ceded, Released, Flown}

abbrev pub line_number : LineKind → ℕ
line_number Posted = 1
line_number Granted = 2
line_number Superseded = 3
line_number Recalled = 4
line_number SetAside = 5
line_number Lost = 6
line_number Kept = 7
line_number Extended = 8
line_number Ceded = 9
line_number Released = 10
line_number Flown = 11

-- lines by which somebody gives way to a challenger
abbrev pub gives_way : LineKind → Bool
gives_way Posted = false
gives_way Granted = false
gives_way Superseded = true
gives_way Recalled = true
gives_way SetAside = true
gives_way Lost = false
gives_way Kept = false
gives_way Extended = false
gives_way Ceded = false
gives_way Released = false
gives_way Flown = false
