-- Preemption in closed form: what each defender gives and what the challenger is granted, told from the lines before the
-- submit and the order of turn alone.
use Rattle.std.specs.Prelude.{◌≡◌, ℕ, zero, suc, ◌+◌, ◌-◌, ◌<◌, min, Bool, cond, not, ◌&&◌, ◌||◌, List, [], ◌∷◌, ◌++◌, ◌==◌, nat_le, nat_lt}
use Rattle.std.specs.List.{AllByRecursion}
use Rattle.terms.specs.declared.request.Request.{Request}
use Rattle.terms.specs.Days.{Days}
use Rattle.terms.specs.Words.{is_pending}
use Rattle.sheets.specs.Rules.{Rules}
use Rattle.sheets.specs.Laws.{Lawful}
use Rattle.journal.specs.declared.line.Line.{Line}
use Rattle.journal.specs.declared.line.LineKind.{LineKind}
use Rattle.journal.specs.declared.line.LineKind.TheVariants.{Granted, Superseded, Recalled, SetAside}
use Rattle.law.specs.View.{View, Entry, aref_of, start_of, length_of}
use Rattle.law.specs.Opened.{opened}
use Rattle.law.specs.Posting.{each_day, holding, free_on}
use Rattle.law.specs.Preemption.{wanted, holdings, defenders, preempt}
use Rattle.law.specs.Calls.{Call, run}
use Rattle.law.specs.TurnLaw.{IsChecked}

-- the shortage that a defender meets on a day of the challenger's term: what the MW asked for are above what is free and
-- what the defenders earlier in turn hold; none on other days
abbrev pub shortage_met : Request → List Line → List Entry → ℕ → ℕ
shortage_met r ls earlier day =
    cond (nat_le r.start day && nat_lt day (r.start + r.length)) (wanted r day - (free_on ls day + holdings ls earlier day)) 0

-- does a defender hold MW on a day on which it meets a shortage?
abbrev pub is_needed : Request → List Line → List Entry → Entry → Bool
is_needed r ls earlier d =
    not (each_day (λ day. (holding ls (aref_of d) day == 0) || shortage_met r ls earlier day == 0) (start_of d) (length_of d))

-- a pending defender is superseded exactly where it is needed, and then gives all that it holds
abbrev pub is_superseded : Request → List Line → List Entry → Entry → Bool
is_superseded r ls earlier d = is_pending d.standing.state && is_needed r ls earlier d

-- a confirmed defender gives on a day the lesser of what it holds and the shortage that it meets
abbrev pub gives_on : Request → List Line → List Entry → Entry → ℕ → ℕ
gives_on r ls earlier d day = min (holding ls (aref_of d) day) (shortage_met r ls earlier day)

-- what is superseded on a day in all, of defenders in turn
unfoldable pub superseded_on : Request → List Line → List Entry → List Entry → ℕ → ℕ
superseded_on r ls earlier [] day = 0
superseded_on r ls earlier (d ∷ ds) day =
    cond (is_superseded r ls earlier d) (holding ls (aref_of d) day) 0 + superseded_on r ls (earlier ++ d ∷ []) ds day

-- the challenger is granted on a day the lesser of its MW and what is free once the superseded MW are free
abbrev pub granted_on : Request → List Line → List Entry → ℕ → ℕ
granted_on r ls ds day = min (free_on ls day + superseded_on r ls [] ds day) (wanted r day)

-- a line for each of n days from a day on on which 1 MW or more moves
unfoldable pub lines_by_day : ℕ → LineKind → ℕ → ℕ → (ℕ → ℕ) → ℕ → ℕ → List Line
lines_by_day minute kind a b mw day zero = []
lines_by_day minute kind a b mw day (suc n) =
    cond (mw day == 0) [] (record { minute = minute; kind = kind; a = a; b = b; day = day; mw = mw day } ∷ [])
    ++ lines_by_day minute kind a b mw (suc day) n

-- the superseded lines: by defender in turn, then by day of its term
unfoldable pub superseded_lines : ℕ → Request → List Line → List Entry → List Entry → List Line
superseded_lines minute r ls earlier [] = []
superseded_lines minute r ls earlier (d ∷ ds) =
    cond (is_superseded r ls earlier d) (lines_by_day minute Superseded (aref_of d) r.aref (λ day. holding ls (aref_of d) day) (start_of d) (length_of d)) []
    ++ superseded_lines minute r ls (earlier ++ d ∷ []) ds

-- the lines of what confirmed defenders give, by defender in turn, then by day: set aside if it may match, else recalled
unfoldable pub given_lines : Rules → ℕ → Request → List Line → List Entry → List Entry → List Line
given_lines R minute r ls earlier [] = []
given_lines R minute r ls earlier (d ∷ ds) =
    cond (is_pending d.standing.state) []
    (lines_by_day minute (cond (R.may_match r d.standing) SetAside Recalled) (aref_of d) r.aref (gives_on r ls earlier d) (start_of d) (length_of d))
    ++ given_lines R minute r ls (earlier ++ d ∷ []) ds

-- the lines of a preemption in their order: superseded, granted by day, recalled and set aside
abbrev pub preemption_lines : Rules → ℕ → Request → View → List Line
preemption_lines R minute r v =
    let ds = defenders R minute r v in
    superseded_lines minute r v.lines [] ds
    ++ (lines_by_day minute Granted 0 r.aref (granted_on r v.lines ds) r.start r.length
    ++ given_lines R minute r v.lines [] ds)

-- on every book that checked calls lead to, under every lawful sheet, a request with a new AREF preempts by these lines
abbrev pub ClosedForm : Type 0
ClosedForm = (R : Rules) → Lawful R → (days : Days) (places room : ℕ) (calls : List Call) (minute : ℕ) (r : Request) →
    AllByRecursion IsChecked calls →
    let v = run R calls (opened days places room) in
    v.top < r.aref → preempt R minute r v ≡ v.lines ++ preemption_lines R minute r v
