-- A preemption under way: what is known of a defender when it is visited, and of what is still short.
use Rattle.std.specs.Prelude.{◌≡◌, ℕ, ◌+◌, ◌<◌, ◌≤◌, true, cond, List, length, slice_index}
use Rattle.std.specs.List.{AllByRecursion}
use Rattle.terms.specs.declared.request.Request.{Request}
use Rattle.terms.specs.Words.{is_pending}
use Rattle.sheets.specs.Rules.{Rules}
use Rattle.shelf.specs.declared.defender.Defender.{Defender}
use Rattle.journal.specs.declared.line.Line.{Line}
use Rattle.law.specs.View.{View, Entry, aref_of, start_of, length_of, living}
use Rattle.law.specs.Posting.{holding}
use Rattle.desk.specs.declared.memory.Desk.{Desk}
use Rattle.desk.specs.Desks.{view}
use Rattle.defending.specs.LinedUp.{entry_at}
use Rattle.law.specs.Preemption.{short, supersede, give}

-- a record that may give way to r: it lives, is not the challenger's, and holds MW in its term alone, which lies inside the
-- posted days
pub record StandsReady (r : Request) (v : View) (e : Entry) : Type 0 where
  pub lives : living e ≡ true
  pub other : aref_of e ≡ r.aref → ⊥
  pub own_term : (day : ℕ) → 0 < holding v.lines (aref_of e) day → (start_of e ≤ day) × (day < start_of e + length_of e)
  pub some_days : 1 ≤ length_of e
  pub month : length_of e ≤ 31
  pub inside : start_of e + length_of e ≤ length v.days.amounts

-- amounts by day from the challenger's start on show what is still short
pub record ShortShown (r : Request) (ls : List Line) (amounts : List ℕ) : Type 0 where
  pub days : length amounts ≡ 31
  pub shows : (k : ℕ) → k < r.length → slice_index amounts k ≡ short r (r.start + k) ls

-- a pending defender is superseded if it meets a shortage; a confirmed one is not visited yet
abbrev pub superseding : ℕ → Request → Entry → List Line → List Line
superseding minute r d ls = cond (is_pending d.standing.state) (supersede minute r d ls) ls

-- a confirmed defender gives; a pending one has given already
abbrev pub giving : Rules → ℕ → Request → Entry → List Line → List Line
giving R minute r d ls = cond (is_pending d.standing.state) ls (give R minute r d ls)

-- the defenders on a shelf stand ready in their places
abbrev pub AllReady : Request → Desk → List Defender → Type 0
AllReady r d xs = AllByRecursion (λ x. (x.place < length d.places.now) × StandsReady r (view d) (entry_at (view d).places x.place)) xs
