-- The law of matches: what is set aside is wholly aside, comes back whole, or goes whole to the challenger.
use Rattle.std.specs.Prelude.{◌≡◌, ℕ, ◌+◌, ◌<◌, ◌≤◌, Bool, true, false, cond, ◌&&◌, ◌⊎◌, List, [], ◌∷◌, ◌++◌, ◌==◌}
use Rattle.std.specs.List.{AllByRecursion}
use Rattle.terms.specs.declared.request.Request.{Request}
use Rattle.terms.specs.Days.{Days}
use Rattle.terms.specs.Limits.{sellable}
use Rattle.sheets.specs.Laws.{Lawful}
use Rattle.sheets.specs.Rules.{Rules}
use Rattle.journal.specs.declared.line.Line.{Line}
use Rattle.journal.specs.declared.line.LineKind.{LineKind}
use Rattle.journal.specs.declared.line.LineKind.TheVariants.{Posted, Granted, Superseded, Recalled, SetAside, Lost, Kept, Extended, Ceded, Released, Flown}
use Rattle.journal.specs.Accounts.{aside, balance}
use Rattle.law.specs.View.{View, find}
use Rattle.law.specs.Opened.{opened}
use Rattle.law.specs.Calls.{Call, submit, minute_of, step, run}
use Rattle.law.specs.TurnLaw.{IsChecked}

-- lines by which what was aside comes back
abbrev pub comes_back : LineKind → Bool
comes_back Posted = false
comes_back Granted = false
comes_back Superseded = false
comes_back Recalled = false
comes_back SetAside = false
comes_back Lost = false
comes_back Kept = true
comes_back Extended = false
comes_back Ceded = false
comes_back Released = false
comes_back Flown = false

-- lines by which it goes to the challenger
abbrev pub goes_over : LineKind → Bool
goes_over Posted = false
goes_over Granted = false
goes_over Superseded = false
goes_over Recalled = false
goes_over SetAside = false
goes_over Lost = true
goes_over Kept = false
goes_over Extended = false
goes_over Ceded = false
goes_over Released = false
goes_over Flown = false

-- the MW of the lines of some kind about a and b on a day
unfoldable pub noted : (LineKind → Bool) → ℕ → ℕ → ℕ → List Line → ℕ
noted p a b day [] = 0
noted p a b day (l ∷ ls) = cond (p l.kind && (l.day == day && (b == l.b && a == l.a))) l.mw 0 + noted p a b day ls

-- of the MW s day that were set aside of a for b on each day: they are wholly aside; they came back whole; they went over whole
abbrev pub WhollyAside : (ℕ → ℕ) → ℕ → ℕ → List Line → Type 0
WhollyAside s a b ls = (day : ℕ) → (balance ls (aside a b) day ≡ s day) × (noted comes_back a b day ls ≡ 0) × (noted goes_over a b day ls ≡ 0)

abbrev pub WhollyKept : (ℕ → ℕ) → ℕ → ℕ → List Line → Type 0
WhollyKept s a b ls = (day : ℕ) → (balance ls (aside a b) day ≡ 0) × (noted comes_back a b day ls ≡ s day) × (noted goes_over a b day ls ≡ 0)

abbrev pub WhollyLost : (ℕ → ℕ) → ℕ → ℕ → List Line → Type 0
WhollyLost s a b ls = (day : ℕ) → (balance ls (aside a b) day ≡ 0) × (noted comes_back a b day ls ≡ 0) × (noted goes_over a b day ls ≡ s day)

-- in one of the calls from v on they came back whole, no later than the last minute, and just after it r did not
-- outrank the record; and so it stays
pub record CameBack (R : Rules) (r : Request) (last : ℕ) (s : ℕ → ℕ) (a : ℕ) (v : View) (calls : List Call) : Type 0 where
  pub early : List Call
  pub call : Call
  pub late : List Call
  pub split : calls ≡ early ++ call ∷ late
  pub until : WhollyAside s a r.aref (run R early v).lines
  pub returned : WhollyKept s a r.aref (step R call (run R early v)).1.lines
  pub in_time : minute_of call ≤ last
  pub stands : R.outranks r (find a (step R call (run R early v)).1.places).standing ≡ false
  pub ever_after : WhollyKept s a r.aref (run R calls v).lines

-- in one of the calls from v on they went over whole; and so it stays
pub record WentOver (R : Rules) (r : Request) (s : ℕ → ℕ) (a : ℕ) (v : View) (calls : List Call) : Type 0 where
  pub early : List Call
  pub call : Call
  pub late : List Call
  pub split : calls ≡ early ++ call ∷ late
  pub until : WhollyAside s a r.aref (run R early v).lines
  pub went : WhollyLost s a r.aref (step R call (run R early v)).1.lines
  pub ever_after : WhollyLost s a r.aref (run R calls v).lines

-- what a submit set aside from a for its challenger has one of the three fates after any further calls; its last minute is
-- the answer-by given at the submit
abbrev pub OneFate : Type 0
OneFate = (R : Rules) → Lawful R → (days : Days) (places room : ℕ) (before : List Call) (minute : ℕ) (r : Request) (after : List Call) (a day : ℕ) →
    AllByRecursion IsChecked before → sellable r ≡ true → AllByRecursion IsChecked after →
    let v = run R before (opened days places room) in
    let w = (step R (submit minute r) v).1 in
    let s : ℕ → ℕ = λ k. balance w.lines (aside a r.aref) k in
    balance v.lines (aside a r.aref) day < s day →
    WhollyAside s a r.aref (run R after w).lines ⊎ (CameBack R r (R.answer_by r (find a v.places).standing minute v.days) s a w after ⊎ WentOver R r s a w after)

-- and no two of these
abbrev pub OnlyOneFate : Type 0
OnlyOneFate = (s : ℕ → ℕ) (a b day : ℕ) (ls : List Line) → 0 < s day →
    (WhollyAside s a b ls → WhollyKept s a b ls → ⊥) × (WhollyAside s a b ls → WhollyLost s a b ls → ⊥) × (WhollyKept s a b ls → WhollyLost s a b ls → ⊥)
