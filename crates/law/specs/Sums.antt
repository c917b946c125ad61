-- The four sums of a day: by the records of a book, and by the accounts of its journal.
use Rattle.std.specs.Prelude.{◌≡◌, ℕ, suc, ◌+◌, cond, List, [], ◌∷◌}
use Rattle.journal.specs.declared.line.Line.{Line}
use Rattle.journal.specs.Accounts.{free, flown, held, aside, balance, held_below, aside_below}
use Rattle.law.specs.View.{View, Entry, aref_of, living, posted_on}
use Rattle.law.specs.Keeps.{Kept}

-- what the living records hold on a day
abbrev pub held_in : List Entry → List Line → ℕ → ℕ
held_in [] ls day = 0
held_in (e ∷ es) ls day = cond (living e) (balance ls (held (aref_of e)) day) 0 + held_in es ls day

-- what is set aside of the living records for their challengers on a day
abbrev pub aside_in : List Entry → List Line → ℕ → ℕ
aside_in [] ls day = 0
aside_in (e ∷ es) ls day = cond (living e) (balance ls (aside (aref_of e) e.against) day) 0 + aside_in es ls day

-- the sums over records are the sums over accounts, and the four add up to what was posted
pub record FourSums (v : View) (day : ℕ) : Type 0 where
  pub holdings : held_in v.places v.lines day ≡ held_below (suc v.top) v.lines day
  pub asides : aside_in v.places v.lines day ≡ aside_below (suc v.top) v.lines day
  pub whole : balance v.lines free day + held_in v.places v.lines day + aside_in v.places v.lines day + balance v.lines flown day ≡ posted_on v.days day

abbrev pub SameSums : Type 0
SameSums = (v : View) → Kept v → (day : ℕ) → FourSums v day
