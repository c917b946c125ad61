-- The law of turn: over every list of calls nothing is taken from anyone out of turn.
use Rattle.std.specs.Prelude.{◌≡◌, ℕ, ◌<◌, Bool, true, false, List, ◌∷◌, ◌++◌, ◌≢◌}
use Rattle.std.specs.List.{AllByRecursion}
use Rattle.terms.specs.declared.request.Request.{Request}
use Rattle.terms.specs.Days.{Days}
use Rattle.terms.specs.Limits.{sellable}
use Rattle.sheets.specs.Laws.{Lawful}
use Rattle.sheets.specs.Rules.{Rules}
use Rattle.journal.specs.declared.line.Line.{Line}
use Rattle.journal.specs.declared.line.LineKind.{LineKind}
use Rattle.journal.specs.declared.line.LineKind.TheVariants.{Posted, Granted, Superseded, Recalled, SetAside, Lost, Kept, Extended, Ceded, Released, Flown}
use Rattle.journal.specs.Kinds.{gives_way}
use Rattle.law.specs.View.{View, find}
use Rattle.law.specs.Opened.{opened}
use Rattle.law.specs.Posting.{holding}
use Rattle.law.specs.Preemption.{defends, short}
use Rattle.law.specs.Calls.{Call, submit, confirm, withdraw, match, decline, settle, step, run}

-- only checked requests are submitted
abbrev pub IsChecked : Call → Type 0
IsChecked (submit t r) = sellable r ≡ true
IsChecked (confirm t a) = Unit {0}
IsChecked (withdraw t a) = Unit {0}
IsChecked (match t a) = Unit {0}
IsChecked (decline t a) = Unit {0}
IsChecked (settle t) = Unit {0}

-- just before the submit of r, in v, AREF a has a pending or confirmed record that r outranks and that is open to it
abbrev pub OpenTo : Rules → ℕ → Request → View → ℕ → Type 0
OpenTo R minute r v a = defends R minute r v.days (find a v.places) ≡ true

-- in v, e is earlier in turn than a
abbrev pub Earlier : Rules → View → ℕ → ℕ → Type 0
Earlier R v e a = (e ≢ a) × (R.gives_before (find e v.places).standing (find a v.places).standing ≡ true)

-- after the submit, which led from v to w, every defender earlier in turn than a holds nothing on a day
abbrev pub EarlierBare : Rules → ℕ → Request → View → View → ℕ → ℕ → Type 0
EarlierBare R minute r v w a day = (e : ℕ) → OpenTo R minute r v e → Earlier R v e a → holding w.lines e day ≡ 0

-- what is asked of a line l that the submit wrote after the lines ms, of which xs are its own
abbrev pub RightlyTaken : Rules → ℕ → Request → View → View → List Line → List Line → Line → LineKind → Type 0
RightlyTaken R minute r v w xs ms l Posted = ⊥
RightlyTaken R minute r v w xs ms l Granted = Unit {0}
-- a superseded record held MW, before its first line, on a day that was short, and there every earlier defender is bare
RightlyTaken R minute r v w xs ms l Superseded = (l.b ≡ r.aref) × OpenTo R minute r v l.a ×
    (AllByRecursion (λ x. x.kind ≡ Superseded → x.a ≢ l.a) xs → (day : ℕ) × (0 < holding ms l.a day) × (0 < short r day ms) × EarlierBare R minute r v w l.a day)
-- on a day recalled or set aside every earlier defender is bare
RightlyTaken R minute r v w xs ms l Recalled = (l.b ≡ r.aref) × OpenTo R minute r v l.a × EarlierBare R minute r v w l.a l.day
RightlyTaken R minute r v w xs ms l SetAside = (l.b ≡ r.aref) × OpenTo R minute r v l.a × EarlierBare R minute r v w l.a l.day
RightlyTaken R minute r v w xs ms l Lost = ⊥
RightlyTaken R minute r v w xs ms l Kept = ⊥
RightlyTaken R minute r v w xs ms l Extended = ⊥
RightlyTaken R minute r v w xs ms l Ceded = ⊥
RightlyTaken R minute r v w xs ms l Released = ⊥
RightlyTaken R minute r v w xs ms l Flown = ⊥

-- of every submit after every list of calls, each line that it wrote was rightly taken
abbrev pub TakenInTurn : Type 0
TakenInTurn = (R : Rules) → Lawful R → (days : Days) (places room : ℕ) (calls : List Call) (minute : ℕ) (r : Request) →
    AllByRecursion IsChecked calls →
    let v = run R calls (opened days places room) in
    let w = (step R (submit minute r) v).1 in
    (xs zs : List Line) (l : Line) → w.lines ≡ (v.lines ++ xs) ++ l ∷ zs → RightlyTaken R minute r v w xs (v.lines ++ xs) l l.kind

abbrev pub is_submit : Call → Bool
is_submit (submit t r) = true
is_submit (confirm t a) = false
is_submit (withdraw t a) = false
is_submit (match t a) = false
is_submit (decline t a) = false
is_submit (settle t) = false

-- no other call writes a line by which somebody gives way
abbrev pub OnlySubmitsTake : Type 0
OnlySubmitsTake = (R : Rules) (days : Days) (places room : ℕ) (calls : List Call) (c : Call) → is_submit c ≡ false →
    let v = run R calls (opened days places room) in
    (xs zs : List Line) (l : Line) → (step R c v).1.lines ≡ (v.lines ++ xs) ++ l ∷ zs → gives_way l.kind ≡ false
