-- A challenger whose last match has closed.
use Rattle.std.specs.Prelude.{◌≡◌, ℕ, ◌<◌, true, false, List, length, Some, None, Option, slice_index_or}
use Rattle.sheets.specs.Rules.{Rules}
use Rattle.journal.specs.declared.line.Line.{Line}
use Rattle.law.specs.View.{Entry, is, nobody}
use Rattle.law.specs.Places.{match_open}
use Rattle.law.specs.Calls.{close_if_last}

-- no match is open any more, and the challenger stands in a place
pub record ToClose (es : List Entry) (b j : ℕ) : Type 0 where
  pub none_open : match_open es ≡ false
  pub within : j < length es
  pub stands : is b (slice_index_or es j nobody) ≡ true

-- the challenger's place, none where nothing closes
abbrev pub ClosesAt : List Entry → ℕ → Option ℕ → Type 0
ClosesAt es b None = (R : Rules) (minute : ℕ) (ls : List Line) → close_if_last R minute ls b es ≡ es
ClosesAt es b (Some j) = ToClose es b j
