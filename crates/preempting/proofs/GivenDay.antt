-- What is given on one day: the posting may be made, and the day is that much less short.
use Rattle.std.proofs.Common.{◌≡◌, ℕ, ◌+◌, ◌-◌, ◌<◌, ◌≤◌, min, Bool, true, false, cond, ◌&&◌, eqb, ltb, leb, ◌⊎◌, List, length, get_or, take, set, sum, sym, refl, ap, ◌∙◌, subst, inl, inr, arith}
use Rattle.std.proofs.lemmas.List.{get_or-map, get_or-set_same, get_or-set_other, length-set, length-take-le, get_or-take, drop-set-lt}
use Rattle.std.proofs.lemmas.List.Sums.{sum_by-set, sum_by-take-drop, get_or-le-sum_by}
use Rattle.std.proofs.lemmas.Bool.{cases_eq, eq-eqb, ne_eqb, and_left, and_right, lt-leb, le-ltb, cond-false}
use Rattle.terms.specs.declared.request.Request.{Request}
use Rattle.journal.specs.declared.line.Line.{Line}
use Rattle.journal.specs.declared.line.LineKind.TheVariants.{Recalled, SetAside}
use Rattle.journal.specs.Accounts.{Account, free, held, aside, sort, from, to, balance, NeverBelowZero}
use Rattle.law.specs.View.{View, Entry, aref_of, start_of, living, nobody, posted_on}
use Rattle.law.specs.Posting.{post, holding, free_on}
use Rattle.law.specs.Preemption.{short, taken}
use Rattle.law.proofs.PostingEffects.{balance-post, taken_post}
use Rattle.law.proofs.SoundLines.{Fine, fine_post}
use Rattle.desk.specs.declared.memory.Desk.{Desk}
use Rattle.desk.specs.Desks.{view}
use Rattle.desk.specs.Records.{entry_of}
use Rattle.posting.specs.declared.sides.Side.TheVariants as sides
use Rattle.posting.specs.Postable.{Showing, Postable, with_lines}
use Rattle.posting.specs.Sides.{unread, place, There, Reach, stands, account}
use Rattle.posting.proofs.OneLine.{none_posted}
use Rattle.posting.proofs.ShownPut.{stands_is, reach_is}
use Rattle.defending.specs.LinedUp.{entry_at}
use Rattle.moving.specs.Midway.{Midway}
use Rattle.moving.proofs.Bounds.{fine_below, account_bound}
use Rattle.moving.proofs.Midways.{midway_from}
use Rattle.moving.proofs.Walks.{length-post, to_inner}
use Rattle.visits.proofs.OneVisit.{as_short, less_short_by}
use Rattle.preempting.specs.declared.giving.Giving.{Giving}
use Rattle.preempting.specs.Giving.{Giveable, given_kind, given_on, taker_side}
use Rattle.preempting.specs.Visits.{ShortShown}

pub from_given : (c : Bool) (a b : ℕ) → from (given_kind c) a b ≡ held a
from_given true a b = refl
from_given false a b = refl

-- of the first n amounts one is less
pub sum_less : (xs : List ℕ) (n i m : ℕ) → i < n → n ≤ length xs → m ≤ get_or xs i 0 → sum (take n (set xs i (get_or xs i 0 - m))) + m ≡ sum (take n xs)
sum_less xs n i m h long le =
    let s = sum_by-set (λ (x : ℕ). x) xs i (get_or xs i 0 - m) 0 (omega arith) in
    let a = sum_by-take-drop (λ (x : ℕ). x) (set xs i (get_or xs i 0 - m)) n in
    let b = sum_by-take-drop (λ (x : ℕ). x) xs n in
    let d = ap (λ (ys : List ℕ). sum ys) (drop-set-lt n xs i (get_or xs i 0 - m) h) in
    omega arith

-- where they come to nothing each is nothing
pub sum_none : (xs : List ℕ) (n : ℕ) → n ≤ length xs → sum (take n xs) ≡ 0 → (k : ℕ) → k < n → get_or xs k 0 ≡ 0
sum_none xs n long e k h =
    let g = get_or-le-sum_by (λ (x : ℕ). x) (take n xs) k 0 (omega (arith, length-take-le n xs long)) in
    omega (arith, get_or-take n xs k 0 h)

-- a posting of what is given makes its day that much less short, and no other
module _ (r : Request) (c : Bool) (t a day m : ℕ) (ls : List Line) (fine : NeverBelowZero ls) (paid : m ≤ holding ls a day) where
  abbrev after : List Line
  after = post t (given_kind c) a r.aref day m ls

  free_stays : (b : Bool) (k : ℕ) → free_on (post t (given_kind b) a r.aref day m ls) k ≡ free_on ls k
  free_stays true k = let e = balance-post ls fine t SetAside a r.aref day m paid free k (omega arith) in let z = none (eqb day k) in omega arith
    where
      none : (b : Bool) → cond (b && false) m 0 ≡ 0
      none true = refl
      none false = refl
  free_stays false k = let e = balance-post ls fine t Recalled a r.aref day m paid free k (omega arith) in let z = none (eqb day k) in omega arith
    where
      none : (b : Bool) → cond (b && false) m 0 ≡ 0
      none true = refl
      none false = refl

  takes : (b : Bool) (k : ℕ) → taken r.aref k (post t (given_kind b) a r.aref day m ls) ≡ taken r.aref k ls + cond (eqb r.aref r.aref && eqb day k) m 0
  takes true k = taken_post r.aref k t SetAside a r.aref day m ls
  takes false k = taken_post r.aref k t Recalled a r.aref day m ls

  pub shorter_day : short r day (post t (given_kind c) a r.aref day m ls) ≡ short r day ls - m
  shorter_day = less_short_by r ls day m ls after (let e = free_stays c day in let f = takes c day in let f' = rw (eq-eqb r.aref r.aref refl, eq-eqb day day refl) at f in omega arith)

  pub same_day : (k : ℕ) → (day ≡ k → ⊥) → short r k (post t (given_kind c) a r.aref day m ls) ≡ short r k ls
  same_day k ne = as_short r ls k ls after (let e = free_stays c k in let f = takes c k in let f' = rw (eq-eqb r.aref r.aref refl, ne_eqb day k ne) at f in omega arith)

module _ (d : Desk) (M : Midway d) (g : Giving) (r : Request) (may : Giveable d g r) (day : ℕ) (lo : g.start ≤ day) (hi : day < g.start + g.days) where
  abbrev ls : List Line
  ls = (view d).lines

  entry_here : (i : ℕ) → i < length d.places.now → entry_of (place d.places.now i) ≡ entry_at (view d).places i
  entry_here i h = sym (get_or-map entry_of d.places.now i unread nobody h)

  who_gives : aref_of (entry_of (place d.places.now g.place)) ≡ g.aref
  who_gives = ap aref_of (entry_here g.place may.within) ∙ may.who

  starts_here : start_of (entry_of (place d.places.now g.place)) ≡ g.start
  starts_here = ap start_of (entry_here g.place may.within) ∙ may.starts

  pub there_giver : There (length d.free.now) d.places.now (sides.Held g.place) day
  there_giver = (may.within, omega (arith, starts_here), omega (arith, starts_here, may.month), ap living (entry_here g.place may.within) ∙ may.lives)

  gives : account d.places.now (sides.Held g.place) ≡ from (given_kind g.right) g.aref r.aref
  gives = ap held who_gives ∙ sym (from_given g.right g.aref r.aref)

  pub giver_reached : Reach (length d.free.now) d.places.now (sides.Held g.place) day
  giver_reached = reach_is (balance ls) d.free.now d.places.now M.showing.shown M.once (sides.Held g.place) day there_giver

  pub giver_has : stands d.free.now d.places.now (sides.Held g.place) day ≡ holding ls g.aref day
  giver_has = stands_is (balance ls) d.free.now d.places.now M.showing.shown M.once (sides.Held g.place) day there_giver (λ q. let z : ◌≡◌ {A = ℕ} 0 1 = cc in omega arith)
      ∙ ap (λ (n : ℕ). holding ls n day) who_gives

  -- outside the challenger's term nothing is given
  pub nothing_given : (day < r.start) ⊎ (r.start + r.length ≤ day) → given_on g r day (view d).lines ≡ (view d).lines
  nothing_given out = none_posted _ _ _ _ _ _ _ (omega (arith, none out))
    where
      none : (day < r.start) ⊎ (r.start + r.length ≤ day) → short r day ls ≡ 0
      none (inl h) = cond-false _ _ 0 (and_left (leb r.start day) (ltb day (r.start + r.length)) (lt-leb _ _ h))
      none (inr h) = cond-false _ _ 0 (and_right (leb r.start day) (ltb day (r.start + r.length)) (le-ltb _ _ h))

  -- in its term
  module _ (early : r.start ≤ day) (late : day < r.start + r.length) (month : r.length ≤ 31) (amounts : List ℕ) (W : ShortShown r (view d).lines amounts) (mw : ℕ)
      (is : mw ≡ min (stands d.free.now d.places.now (sides.Held g.place) day) (get_or amounts (day - r.start) 0)) where
    same_short : get_or amounts (day - r.start) 0 ≡ short r day ls
    same_short = W.shows (day - r.start) (omega arith) ∙ (let z : r.start + (day - r.start) ≡ day = omega arith in ap (λ (k : ℕ). short r k ls) z)

    pub amount_is : mw ≡ min (holding (view d).lines g.aref day) (short r day (view d).lines)
    amount_is = is ∙ (ap (λ (n : ℕ). min n (get_or amounts (day - r.start) 0)) giver_has ∙ ap (λ (n : ℕ). min (holding ls g.aref day) n) same_short)

    pub posts_it : post g.minute (given_kind g.right) g.aref r.aref day mw (view d).lines ≡ given_on g r day (view d).lines
    posts_it = ap (λ (n : ℕ). post g.minute (given_kind g.right) g.aref r.aref day n ls) amount_is

    gets : (c : Bool) → g.right ≡ c → (account d.places.now (cond c (sides.Aside g.place) (sides.Held g.challenger)) ≡ to (given_kind c) g.aref r.aref)
        × There (length d.free.now) d.places.now (cond c (sides.Aside g.place) (sides.Held g.challenger)) day
    gets true q = ((ap (λ (n : ℕ). aside n (place d.places.now g.place).against) who_gives ∙ ap (λ (n : ℕ). aside g.aref n) (ap (λ (e : Entry). e.against) (entry_here g.place may.within) ∙ may.against q)), there_giver)
    gets false q =
        let e = entry_here g.challenger may.taker_within in (
          ap held (ap aref_of e ∙ may.taker),
          (may.taker_within, omega (arith, ap start_of e, may.taker_starts), omega (arith, ap start_of e, may.taker_starts), ap living e ∙ may.taker_lives),
        )

    fine_given : (n : ℕ) × Fine n (posted_on (view d).days) (post g.minute (given_kind g.right) g.aref r.aref day mw (view d).lines)
    fine_given =
        let f = fine_below (posted_on (view d).days) ls M.solvent M.posted (g.aref + r.aref) in
        let e = from_given g.right g.aref r.aref in (
          f.0,
          fine_post f.0 (posted_on (view d).days) g.minute (given_kind g.right) g.aref r.aref day mw ls f.2
              (subst (λ (x : Account). mw ≤ balance ls x day) (sym e) (omega (arith, amount_is))) (subst (λ (x : Account). 0 < sort x) (sym e) (omega arith)) (omega (arith, f.1)) (omega (arith, f.1)),
        )

    pub given_postable : length (given_on g r day (view d).lines) ≤ (view d).room →
        Postable d g.minute (given_kind g.right) g.aref r.aref (sides.Held g.place) (taker_side g) day mw
    given_postable roomy =
        let e = from_given g.right g.aref r.aref in
        let f = fine_given.1 in
        record {
          solvent = M.solvent;
          once = M.once;
          gives = gives;
          gets = λ h. (gets g.right refl).0;
          not_flown = λ q. let z : ◌≡◌ {A = ℕ} 0 1 = cc in omega arith;
          at_giver = there_giver;
          at_taker = λ h. (gets g.right refl).1;
          paid = subst (λ (x : Account). mw ≤ balance ls x day) (sym e) (omega (arith, amount_is));
          fits = omega (arith, account_bound _ f.solvent (to (given_kind g.right) g.aref r.aref) (to_inner (given_kind g.right) g.aref r.aref) day, f.whole day, M.amounts day);
          roomy = λ h.
              let q = length-post g.minute (given_kind g.right) g.aref r.aref day mw ls in
              let q' = rw (ne_eqb mw 0 (λ (z : mw ≡ 0). omega arith)) at q in
              omega (arith, ap length posts_it, length-take-le d.used d.lines.now M.showing.written);
        }

    pub given_midway : (e : Desk) → Showing e → view e ≡ with_lines (view d) (post g.minute (given_kind g.right) g.aref r.aref day mw (view d).lines) → Midway e
    given_midway e S V = midway_from d e M S (ap (λ (w : View). w.days) V) (sym (ap (λ (w : View). w.places) V)) fine_given.0 (subst (Fine fine_given.0 (posted_on (view d).days)) (sym (ap (λ (w : View). w.lines) V)) fine_given.1)

    pub given_short : ShortShown r (given_on g r day (view d).lines) (set amounts (day - r.start) (get_or amounts (day - r.start) 0 - mw))
    given_short = subst (λ ms. ShortShown r ms (set amounts (day - r.start) (get_or amounts (day - r.start) 0 - mw))) posts_it (record {
      days = length-set amounts _ _ ∙ W.days;
      shows = λ k l. go k l (cases_eq k (day - r.start));
    })
      where
        paid : mw ≤ holding ls g.aref day
        paid = omega (arith, amount_is)

        go : (k : ℕ) → k < r.length → (k ≡ day - r.start) ⊎ (k ≡ day - r.start → ⊥) → get_or (set amounts (day - r.start) (get_or amounts (day - r.start) 0 - mw)) k 0 ≡ short r (r.start + k) (post g.minute (given_kind g.right) g.aref r.aref day mw ls)
        go k l (inl e) =
            let z : r.start + k ≡ day = omega arith in
            let s = shorter_day r g.right g.minute g.aref day mw ls M.solvent paid in
            rw (e, get_or-set_same amounts (day - r.start) (get_or amounts (day - r.start) 0 - mw) 0 (omega (arith, W.days)))
            (omega (arith, same_short, s, ap (λ (n : ℕ). short r n (post g.minute (given_kind g.right) g.aref r.aref day mw ls)) (let z' : r.start + (day - r.start) ≡ day = omega arith in z')))
        go k l (inr ne) =
            let n : day ≡ r.start + k → ⊥ = λ (q : day ≡ r.start + k). ne (omega arith) in
            get_or-set_other amounts (day - r.start) k _ 0 ne ∙ (W.shows k l ∙ sym (same_day r g.right g.minute g.aref day mw ls M.solvent paid (r.start + k) n))
