-- The place of the earliest item that is due.
use Rattle.std.specs.Prelude.{◌≡◌, ℕ, ◌<◌, true, false, List, length, Some, None, Option, slice_index_or}
use Rattle.law.specs.View.{Entry, nobody}
use Rattle.law.specs.Places.{some}
use Rattle.law.specs.Calls.{is_due, first_due}

-- nothing fell due before the minute
pub record NoneDue (es : List Entry) (minute : ℕ) : Type 0 where
  pub none : some (is_due minute) es ≡ false
  pub first : first_due minute es ≡ nobody

-- the earliest item due before the minute stands in this place
pub record DueAt (es : List Entry) (minute i : ℕ) : Type 0 where
  pub within : i < length es
  pub first : first_due minute es ≡ slice_index_or es i nobody
  pub due : is_due minute (slice_index_or es i nobody) ≡ true

abbrev pub IsFirstDue : List Entry → ℕ → Option ℕ → Type 0
IsFirstDue es minute None = NoneDue es minute
IsFirstDue es minute (Some i) = DueAt es minute i
