-- What a record loses to its challenger, and what it is then.
use Rattle.std.specs.Prelude.{◌≡◌, ℕ, true, cond, List}
use Rattle.terms.specs.declared.words.State.{State}
use Rattle.terms.specs.declared.words.State.TheVariants.{Confirmed, Gone}
use Rattle.journal.specs.declared.line.Line.{Line}
use Rattle.law.specs.View.{Entry, aref_of, start_of, length_of, living, find}
use Rattle.law.specs.Posting.{by_day}
use Rattle.law.specs.Preemption.{empty}
use Rattle.law.specs.Calls.{lose}
use Rattle.admitting.specs.Admission.{Found}

-- on each day of its term what was set aside of a record goes to its challenger
abbrev pub lost : ℕ → Entry → List Line → List Line
lost minute e ls = by_day (lose minute (aref_of e) e.against) (start_of e) (length_of e) ls

-- a record is gone if it has nothing left, else confirmed
abbrev pub left_as : List Line → Entry → State
left_as ls e = cond (empty ls e) Gone Confirmed

-- whoever lives under an AREF stands in the place
abbrev pub PlaceOf : List Entry → ℕ → ℕ → Type 0
PlaceOf es b j = living (find b es) ≡ true → Found es b j
