-- What confirmed defenders give: on each day the lesser of what they hold and what is short.
use Rattle.std.specs.Prelude.{◌≡◌, ℕ, ◌+◌, ◌<◌, ◌≤◌, min, Bool, true, false, cond, List, [], ◌∷◌, map, length, Some, None, Option, ◌≢◌, slice_set}
use Rattle.std.specs.List.{AllByRecursion}
use Rattle.terms.specs.declared.request.Request.{Request}
use Rattle.terms.specs.declared.words.State.TheVariants.{Challenged}
use Rattle.terms.specs.Days.{Days}
use Rattle.terms.specs.Words.{is_pending}
use Rattle.sheets.specs.Rules.{Rules}
use Rattle.journal.specs.declared.line.Line.{Line}
use Rattle.journal.specs.declared.line.LineKind.{LineKind}
use Rattle.journal.specs.declared.line.LineKind.TheVariants.{Recalled, SetAside}
use Rattle.journal.specs.Accounts.{aside, balance}
use Rattle.shelf.specs.declared.defender.Defender.{Defender}
use Rattle.law.specs.View.{View, Entry, aref_of, start_of, length_of, living}
use Rattle.law.specs.Posting.{post, holding}
use Rattle.law.specs.Preemption.{short, defends, none_aside, meets_shortage}
use Rattle.desk.specs.declared.memory.Desk.{Desk}
use Rattle.desk.specs.Desks.{view}
use Rattle.posting.specs.declared.sides.Side.{Side}
use Rattle.posting.specs.declared.sides.Side.TheVariants.{Held, Aside}
use Rattle.defending.specs.LinedUp.{entry_at, lined}
use Rattle.moving.specs.Midway.{with_places}
use Rattle.preempting.specs.Visits.{AllReady, giving}
use Rattle.preempting.specs.declared.giving.Giving.{Giving}

-- with the right of first refusal what is given is set aside, without it is recalled
abbrev pub given_kind : Bool → LineKind
given_kind right = cond right SetAside Recalled

-- where what is given goes: aside in its own place, or to the challenger's
abbrev pub taker_side : Giving → Side
taker_side g = cond g.right (Aside g.place) (Held g.challenger)

-- what is given on a day
abbrev pub given_on : Giving → Request → ℕ → List Line → List Line
given_on g r day ls = post g.minute (given_kind g.right) g.aref r.aref day (min (holding ls g.aref day) (short r day ls)) ls

-- the giver stands in its place, challenged by the taker where it has the right, and the taker stands in its own
pub record Giveable (d : Desk) (g : Giving) (r : Request) : Type 0 where
  pub within : g.place < length d.places.now
  pub who : aref_of (entry_at (view d).places g.place) ≡ g.aref
  pub lives : living (entry_at (view d).places g.place) ≡ true
  pub starts : start_of (entry_at (view d).places g.place) ≡ g.start
  pub month : g.days ≤ 31
  pub inside : g.start + g.days ≤ length (view d).days.amounts
  pub against : g.right ≡ true → (entry_at (view d).places g.place).against ≡ r.aref
  pub taker_within : g.challenger < length d.places.now
  pub taker : aref_of (entry_at (view d).places g.challenger) ≡ r.aref
  pub taker_lives : living (entry_at (view d).places g.challenger) ≡ true
  pub taker_starts : start_of (entry_at (view d).places g.challenger) ≡ r.start
  pub other : g.aref ≡ r.aref → ⊥

-- a defender whose match is opened by r
abbrev pub challenged_by : Rules → ℕ → Request → Days → Entry → Entry
challenged_by R minute r days e = record {
  standing = record { request = e.standing.request; state = Challenged; queued = e.standing.queued };
  due = R.answer_by r e.standing minute days;
  against = r.aref;
}

-- a defender is challenged where something of it is aside
abbrev pub after_giving : Rules → ℕ → Request → Days → List Line → Entry → Entry
after_giving R minute r days ls e = cond (defends R minute r days e) (cond (none_aside ls r.aref e) e (challenged_by R minute r days e)) e

-- the challenger's record stands in its place
pub record Seated (v : View) (r : Request) (c : ℕ) : Type 0 where
  pub within : c < length v.places
  pub who : aref_of (entry_at v.places c) ≡ r.aref
  pub lives : living (entry_at v.places c) ≡ true
  pub starts : start_of (entry_at v.places c) ≡ r.start

-- the record e in place p gives to the challenger in place c
abbrev pub giving_of : Rules → ℕ → Request → ℕ → ℕ → Entry → Giving
giving_of R minute r c p e = record { minute = minute; right = R.may_match r e.standing; aref = aref_of e; place = p; challenger = c; start = start_of e; days = length_of e }

-- a visit begins: a pending record and one that meets no shortage are passed over; another is challenged if it has the right,
-- and gives
abbrev pub Begun : Rules → ℕ → Request → ℕ → ℕ → View → Desk → Option Giving → Type 0
Begun R minute r c p v d None = (view d ≡ v) × (giving R minute r (entry_at v.places p) v.lines ≡ v.lines)
Begun R minute r c p v d (Some g) =
    (g ≡ giving_of R minute r c p (entry_at v.places p))
    × (is_pending (entry_at v.places p).standing.state ≡ false)
    × (meets_shortage r (entry_at v.places p) v.lines ≡ true)
    × (view d ≡ with_places v (cond g.right (slice_set v.places p (challenged_by R minute r v.days (entry_at v.places p))) v.places))
    × Giveable d g r

-- the book after defenders gave by these lines
abbrev pub given_view : Rules → ℕ → Request → View → List Line → View
given_view R minute r v ls = record { days = v.days; room = v.room; lines = ls; places = map (after_giving R minute r v.days ls) v.places; clock = v.clock; top = v.top }

-- no two of the records have one AREF
abbrev pub Apart : List Entry → Type 0
Apart [] = Unit {0}
Apart (e ∷ es) = AllByRecursion (λ x. aref_of e ≢ aref_of x) es × Apart es

-- what is asked of the defenders on a shelf before they give: each stands ready and defends, and no two are one
pub record LinedToGive (R : Rules) (minute : ℕ) (r : Request) (d : Desk) (xs : List Defender) : Type 0 where
  pub ready : AllReady r d xs
  pub defend : AllByRecursion (λ x. defends R minute r (view d).days (entry_at (view d).places x.place) ≡ true) xs
  pub apart : Apart (lined (view d).places xs)
  pub none_aside_yet : (a day : ℕ) → balance (view d).lines (aside a r.aref) day ≡ 0
