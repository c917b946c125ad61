-- What every book keeps, from its opening on.
use Rattle.std.specs.Prelude.{◌≡◌, ℕ, suc, ◌+◌, ◌<◌, ◌≤◌, true, length}
use Rattle.std.specs.List.{AllByRecursion}
use Rattle.terms.specs.Days.{Days}
use Rattle.terms.specs.Words.{is_challenged, is_competing}
use Rattle.journal.specs.Accounts.{held, aside, balance, brought, NeverBelowZero, NamesBelow}
use Rattle.law.specs.View.{View, Entry, aref_of, start_of, length_of, living, find, count, posted_on}

-- the record lives, and the day lies in its term
abbrev pub InTerm : Entry → ℕ → Type 0
InTerm e day = (living e ≡ true) × (start_of e ≤ day) × (day < start_of e + length_of e)

-- a term of at most 31 days inside the posted days, of at least one day where the record lives
abbrev pub Termed : Days → Entry → Type 0
Termed days e = (length_of e ≤ 31) × (start_of e + length_of e ≤ length days.amounts) × (living e ≡ true → 1 ≤ length_of e)

-- AREFs in the places are among those accepted
abbrev pub AcceptedBy : ℕ → Entry → Type 0
AcceptedBy top e = (aref_of e ≤ top) × (e.against ≤ top)

pub record Kept (v : View) : Type 0 where
  -- no account was ever below zero, and all AREFs in the journal were accepted
  pub solvent : NeverBelowZero v.lines
  pub named : NamesBelow (suc v.top) v.lines
  -- the journal brought what is posted, at most 20,000 MW on each of at most 400 days
  pub posted : (day : ℕ) → brought v.lines day ≡ posted_on v.days day
  pub amounts : (day : ℕ) → posted_on v.days day ≤ 20000
  pub days : length v.days.amounts ≤ 400
  pub prescheduled : length v.days.preschedule ≡ length v.days.amounts
  -- whoever holds MW on a day is a living record with that day in its term
  pub holders : (a day : ℕ) → 0 < balance v.lines (held a) day → InTerm (find a v.places) day
  -- what is set aside of a for b is so in both terms, while a is challenged by b and b is competing
  pub challenged : (a b day : ℕ) → 0 < balance v.lines (aside a b) day →
      InTerm (find a v.places) day × (is_challenged (find a v.places).standing.state ≡ true) × ((find a v.places).against ≡ b)
  pub competing : (a b day : ℕ) → 0 < balance v.lines (aside a b) day →
      InTerm (find b v.places) day × (is_competing (find b v.places).standing.state ≡ true)
  -- living records have different AREFs
  pub once : (a : ℕ) → count a v.places ≤ 1
  pub terms : AllByRecursion (Termed v.days) v.places
  pub accepted : AllByRecursion (AcceptedBy v.top) v.places
