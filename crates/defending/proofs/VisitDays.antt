-- A visit, day by day of the request's term.
use Rattle.std.proofs.Common.{◌≡◌, ℕ, ◌+◌, ◌-◌, ◌<◌, ◌≤◌, min, true, false, ◌&&◌, ltb, leb, ◌⊎◌, List, length, get_or, take, set, sym, ap, ◌∙◌, inl, inr, arith}
use Rattle.std.proofs.lemmas.Bool.{and_parts, and_from, leb-true, le-leb, ltb-true, lt-ltb, cond-true, cond-false, cases_Bool}
use Rattle.terms.specs.declared.request.Request.{Request}
use Rattle.law.specs.Posting.{busy_days}
use Rattle.desk.specs.declared.record.Record.{Record}
use Rattle.desk.specs.Records.{held_on}
use Rattle.defending.specs.Shortage.{short_on, gives_here, HoldsInTerm}
use Rattle.defending.proofs.BusyDays.{busy_yes, busy_no, busy_shift, busy_first, busy_both}
use Rattle.defending.proofs.DayByDay.{SetUntil, set_next}

-- on a day of the term
pub short_inside : (r : Request) (amounts : List ℕ) (k : ℕ) → k < r.length → short_on r amounts (r.start + k) ≡ get_or amounts k 0
short_inside r amounts k h =
    let e : r.start + k - r.start ≡ k = omega arith in
    cond-true _ _ _ (and_from (leb r.start (r.start + k)) (ltb (r.start + k) (r.start + r.length)) (le-leb _ _ (omega arith)) (lt-ltb _ _ (omega arith)))
    ∙ ap (λ i. get_or amounts i 0) e

-- something is short only there
pub short_in_term : (r : Request) (amounts : List ℕ) (day : ℕ) → 0 < short_on r amounts day → (r.start ≤ day) × (day < r.start + r.length)
short_in_term r amounts day h = go (cases_Bool (leb r.start day && ltb day (r.start + r.length)))
  where
    go : ((leb r.start day && ltb day (r.start + r.length)) ≡ true) ⊎ ((leb r.start day && ltb day (r.start + r.length)) ≡ false) → (r.start ≤ day) × (day < r.start + r.length)
    go (inl e) = let w = and_parts (leb r.start day) (ltb day (r.start + r.length)) e in (leb-true _ _ w.0, ltb-true _ _ w.1)
    go (inr e) = let z : ⊥ = omega (arith, cond-false _ (get_or amounts (day - r.start) 0) 0 e) in absurd z

-- a record that holds nothing outside its own term gives on its own days alone
pub own_days : (one : Record) (r : Request) (amounts : List ℕ) → HoldsInTerm one →
    busy_days (gives_here one r amounts) r.start r.length ≡ busy_days (gives_here one r amounts) one.standing.request.start one.standing.request.length
own_days one r amounts h = busy_both (gives_here one r amounts) _ _ _ _ (λ k p. short_in_term r amounts k (omega arith)) (λ k p. h k (omega arith))

-- after a visit of the days before k
pub record Visiting (one : Record) (r : Request) (before short : List ℕ) (days k : ℕ) : Type 0 where
  pub taken : SetUntil (λ i. get_or before i 0 - held_on (r.start + i) one) r.length before short k
  pub counted : days ≡ busy_days (gives_here one r before) r.start k

module _ (one : Record) (r : Request) (before short : List ℕ) (days k : ℕ) (V : Visiting one r before short days k) (here : k < length short) (in_term : k < r.length)
    (x : ℕ) (left : x ≡ get_or short k 0 - held_on (r.start + k) one) (m : ℕ) (least : m ≡ min (held_on (r.start + k) one) (get_or short k 0)) where
  gives : gives_here one r before (r.start + k) ≡ m
  gives = ap (λ n. min (held_on (r.start + k) one) n) (short_inside r before k in_term ∙ sym (V.taken.untouched k (omega arith) in_term)) ∙ sym least

  next : SetUntil (λ i. get_or before i 0 - held_on (r.start + i) one) r.length before (set short k x) (k + 1)
  next = set_next _ r.length before short k x V.taken here (left ∙ ap (λ n. n - held_on (r.start + k) one) (V.taken.untouched k (omega arith) in_term))

  pub visiting_some : 0 < m → Visiting one r before (set short k x) (days + 1) (k + 1)
  visiting_some h = record { taken = next; counted = sym (busy_yes (gives_here one r before) r.start k (omega (arith, gives)) ∙ ap (λ n. n + 1) (sym V.counted)) }

  pub visiting_none : m ≤ 0 → Visiting one r before (set short k x) days (k + 1)
  visiting_none h = record { taken = next; counted = V.counted ∙ sym (busy_no (gives_here one r before) r.start k (omega (arith, gives))) }

-- what a record holds on its own days, as memory has it
pub held_inside : (one : Record) (k : ℕ) → k < 31 → held_on (one.standing.request.start + k) one ≡ get_or one.held k 0
held_inside one k h =
    let s = one.standing.request.start in
    let e : one.standing.request.start + k - one.standing.request.start ≡ k = omega arith in
    cond-true _ _ _ (and_from (leb s (s + k)) (ltb (s + k - s) 31) (le-leb _ _ (omega arith)) (lt-ltb _ _ (omega arith))) ∙ ap (λ i. get_or one.held i 0) e

pub held_days : (one : Record) (n : ℕ) → n ≤ 31 → length one.held ≡ 31 → busy_days (λ k. get_or (take n one.held) k 0) 0 (length (take n one.held)) ≡ busy_days (λ day. held_on day one) one.standing.request.start n
held_days one n few month =
    busy_first one.held n (omega arith)
    ∙ busy_shift _ _ 0 one.standing.request.start n (λ k l. let e : 0 + k ≡ k = omega arith in ap (λ i. get_or one.held i 0) e ∙ sym (held_inside one k (omega arith)))
