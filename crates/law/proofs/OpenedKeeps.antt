-- A book newly opened keeps what every book keeps.
use Rattle.std.proofs.Common.{◌≡◌, ℕ, zero, suc, ◌<◌, ◌≤◌, List, length, replicate, arith}
use Rattle.std.specs.List.{AllByRecursion}
use Rattle.std.proofs.lemmas.Bool.{false≢true}
use Rattle.terms.specs.Days.{Days}
use Rattle.journal.specs.Accounts.{Account, held, aside, sort, balance}
use Rattle.law.specs.View.{nobody, posted_on}
use Rattle.law.specs.Keeps.{Kept, Termed, AcceptedBy}
use Rattle.law.specs.Opened.{postings, opened}
use Rattle.law.proofs.Finds.{count-nobody}
use Rattle.law.proofs.Postings.{postings_only, posting_solvent, posting_names, postings_bring, postings_elsewhere}

pub all_alike : {X : Type 0} (P : X → Type 0) (n : ℕ) (x : X) → P x → AllByRecursion P (replicate n x)
all_alike P zero x p = tt
all_alike P (suc n) x p = (p, all_alike P n x p)

-- days that a book can be opened over
pub record Fit (days : Days) : Type 0 where
  pub few : length days.amounts ≤ 400
  pub alike : length days.preschedule ≡ length days.amounts
  pub small : (day : ℕ) → posted_on days day ≤ 20000

none_there : (amounts : List ℕ) (x : Account) (day : ℕ) → 1 < sort x → 0 < balance (postings 0 amounts) x day → ⊥
none_there amounts x day h p = let z = postings_elsewhere amounts x day h in omega arith

pub kept_opened : (days : Days) (places room : ℕ) → Fit days → Kept (opened days places room)
kept_opened days places room f = record {
  solvent = posting_solvent (postings 0 days.amounts) (postings_only 0 days.amounts);
  named = posting_names (postings 0 days.amounts) (postings_only 0 days.amounts);
  posted = postings_bring days.amounts;
  amounts = f.small;
  days = f.few;
  prescheduled = f.alike;
  holders = λ a day p. absurd (none_there days.amounts (held a) day (omega arith) p);
  challenged = λ a b day p. absurd (none_there days.amounts (aside a b) day (omega arith) p);
  competing = λ a b day p. absurd (none_there days.amounts (aside a b) day (omega arith) p);
  once = λ a. omega (arith, count-nobody a places);
  terms = all_alike (Termed days) places nobody (omega arith, omega arith, λ l. absurd (false≢true l));
  accepted = all_alike (AcceptedBy 0) places nobody (omega arith, omega arith);
}
