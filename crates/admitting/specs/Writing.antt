-- What a call writes of what it makes.
use Rattle.std.specs.Prelude.{◌≡◌, ℕ}
use Rattle.law.specs.View.{View}
use Rattle.law.specs.Calls.{Call, Made, Answer, minute_of, new_top, written}

-- every call at this minute that accepts no new AREF answers so of what it makes, and leaves the book so
abbrev pub Writes : View → ℕ → Made → Answer → View → Type 0
Writes v minute made answer after = (c : Call) → minute_of c ≡ minute → new_top c v.top ≡ v.top → (answer, after) ≡ written c v made
