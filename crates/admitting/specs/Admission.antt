-- What the first refusals say of a call, in the words of the rules.
use Rattle.std.specs.Prelude.{◌≡◌, ℕ, ◌<◌, ◌≤◌, Bool, true, false, List, length, Ok, Err, Result, slice_index_or}
use Rattle.terms.specs.declared.refusal.Refusal.{Refusal}
use Rattle.terms.specs.declared.words.State.{State}
use Rattle.terms.specs.Words.{is_pending, is_challenged}
use Rattle.sheets.specs.Laws.{last_minute}
use Rattle.sheets.specs.Rules.{Rules}
use Rattle.law.specs.View.{View, Entry, is, find, nobody}
use Rattle.law.specs.Calls.{Call, Made, refused, by_aref, minute_of, is_settle, makes_of, asked}
use Rattle.admitting.specs.declared.MustBe.{MustBe}
use Rattle.admitting.specs.declared.MustBe.TheVariants.{Pending, Challenged}

-- is a record in the state that a call is for?
abbrev pub is_in : MustBe → State → Bool
is_in Pending = is_pending
is_in Challenged = is_challenged

-- whoever stands in a place
abbrev pub entry_at : List Entry → ℕ → Entry
entry_at es i = slice_index_or es i nobody

-- the living record of an AREF stands in a place
pub record Found (es : List Entry) (a i : ℕ) : Type 0 where
  pub within : i < length es
  pub stands : is a (entry_at es i) ≡ true
  pub found : find a es ≡ entry_at es i

-- a call at this minute that settles or does not is refused so, or is past the minute and what is due
abbrev pub Begun : View → ℕ → Bool → Result (Unit {0}) Refusal → Type 0
Begun v minute settles (Ok _) = (minute ≤ last_minute) × ((R : Rules) (c : Call) → minute_of c ≡ minute → is_settle c ≡ settles → asked R c v ≡ makes_of R c v)
Begun v minute settles (Err e) = (R : Rules) (c : Call) → minute_of c ≡ minute → is_settle c ≡ settles → asked R c v ≡ refused e

-- a call by AREF, which goes on as f says with the record that it finds
pub record ByAref (R : Rules) (v : View) (minute a : ℕ) (wanted : MustBe) (c : Call) (f : Entry → Made) : Type 0 where
  pub at_minute : minute_of c ≡ minute
  pub settles_not : is_settle c ≡ false
  pub is_by_aref : makes_of R c v ≡ by_aref (is_in wanted) a v f

-- the record of an AREF stands in a place, in the state that the call is for, and the call goes on with it
pub record AtPlace (v : View) (minute a : ℕ) (wanted : MustBe) (i : ℕ) : Type 0 where
  pub early : minute ≤ last_minute
  pub within : i < length v.places
  pub stands : is a (entry_at v.places i) ≡ true
  pub found : find a v.places ≡ entry_at v.places i
  pub state : is_in wanted (entry_at v.places i).standing.state ≡ true
  pub goes : (R : Rules) (c : Call) (f : Entry → Made) → ByAref R v minute a wanted c f → asked R c v ≡ f (entry_at v.places i)

-- a call by AREF is refused so, or comes to a place
abbrev pub ComesTo : View → ℕ → ℕ → MustBe → Result ℕ Refusal → Type 0
ComesTo v minute a wanted (Ok i) = AtPlace v minute a wanted i
ComesTo v minute a wanted (Err e) = (R : Rules) (c : Call) (f : Entry → Made) → ByAref R v minute a wanted c f → asked R c v ≡ refused e
