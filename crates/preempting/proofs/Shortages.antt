-- What memory has of a defender that is visited, and of what is short, is what the accounts say.
use Rattle.std.proofs.Common.{◌≡◌, ℕ, zero, suc, ◌+◌, ◌-◌, ◌<◌, ◌≤◌, min, Bool, true, false, cond, not, ◌&&◌, ◌||◌, eqb, ltb, leb, ◌⊎◌, List, length, get_or, sym, refl, ap, ◌∙◌, subst, inl, inr, arith}
use Rattle.std.proofs.ByRecursion.{All-get_or}
use Rattle.std.proofs.lemmas.List.{get_or-map}
use Rattle.std.proofs.lemmas.Bool.{cases_Bool, cases_eq, eq-eqb, ne_eqb, and_parts, leb-true, ltb-true, cond-true, cond-false}
use Rattle.terms.specs.declared.request.Request.{Request}
use Rattle.journal.specs.declared.line.Line.{Line}
use Rattle.journal.specs.Accounts.{balance}
use Rattle.law.specs.View.{Entry, aref_of, start_of, length_of, living, nobody}
use Rattle.law.specs.Posting.{busy_days, each_day, holding}
use Rattle.law.specs.Preemption.{short, meets_shortage}
use Rattle.law.proofs.ShrinkingShortage.{each_true, each_false}
use Rattle.desk.specs.declared.memory.Desk.{Desk}
use Rattle.desk.specs.declared.record.Record.{Record}
use Rattle.desk.specs.Desks.{view}
use Rattle.desk.specs.Records.{entry_of, held_on}
use Rattle.desk.specs.Soundness.{Shows}
use Rattle.desk.proofs.AmountsShown.{shown}
use Rattle.posting.specs.Postable.{Showing}
use Rattle.defending.specs.LinedUp.{entry_at}
use Rattle.defending.specs.Shortage.{short_on, gives_here, HoldsInTerm}
use Rattle.preempting.specs.Visits.{StandsReady, ShortShown}

-- some of n days have something exactly where not each has nothing
pub busy_or_none : (f : ℕ → ℕ) (p : ℕ → Bool) → ((k : ℕ) → eqb (f k) 0 ≡ p k) → (s n : ℕ) → eqb (busy_days f s n) 0 ≡ each_day p s n
unfolding busy_days
busy_or_none f p h s n = go (cases_Bool (each_day p s n))
  where
    none : (m : ℕ) → ((k : ℕ) → s ≤ k → k < s + m → p k ≡ true) → busy_days f s m ≡ 0
    none zero q = refl
    none (suc m) q = let z = ap (λ (c : Bool). cond {A = ℕ} c 0 1) (h (s + m) ∙ q (s + m) (omega arith) (omega arith)) in omega (arith, none m (λ k lo hi. q k lo (omega arith)))

    one : (m k : ℕ) → s ≤ k → k < s + m → p k ≡ false → 0 < busy_days f s m
    one zero k lo hi q = let z : ⊥ = omega arith in absurd z
    one (suc m) k lo hi q = last (cases_eq k (s + m)) (λ (l : k < s + m). one m k lo l q)
      where
        last : (k ≡ s + m) ⊎ (k ≡ s + m → ⊥) → (k < s + m → 0 < busy_days f s m) → 0 < busy_days f s m + cond (eqb (f (s + m)) 0) 0 1
        last (inl e) ih = let z = ap (λ (c : Bool). cond {A = ℕ} c 0 1) (ap (λ (i : ℕ). eqb (f i) 0) (sym e) ∙ (h k ∙ q)) in omega arith
        last (inr ne) ih = omega (arith, ih (omega arith))

    go : (each_day p s n ≡ true) ⊎ (each_day p s n ≡ false) → eqb (busy_days f s n) 0 ≡ each_day p s n
    go (inl q) = eq-eqb _ 0 (none n (λ k lo hi. each_true p s n q k lo hi)) ∙ sym q
    go (inr q) = let w = each_false p s n q in ne_eqb _ 0 (λ (z : busy_days f s n ≡ 0). omega (arith, one n w.0 w.1 w.2 w.3)) ∙ sym q

lesser_none : (x y : ℕ) → eqb (min x y) 0 ≡ (eqb x 0 || eqb y 0)
lesser_none x y = go (cases_eq x 0) (cases_eq y 0)
  where
    go : (x ≡ 0) ⊎ (x ≡ 0 → ⊥) → (y ≡ 0) ⊎ (y ≡ 0 → ⊥) → eqb (min x y) 0 ≡ (eqb x 0 || eqb y 0)
    go (inl e) q = eq-eqb (min x y) 0 (omega arith) ∙ sym (ap (λ (c : Bool). c || eqb y 0) (eq-eqb x 0 e))
    go (inr n) (inl e) = eq-eqb (min x y) 0 (omega arith) ∙ sym (ap (λ (c : Bool). c || eqb y 0) (ne_eqb x 0 n) ∙ eq-eqb y 0 e)
    go (inr n) (inr m) = ne_eqb (min x y) 0 (λ (z : min x y ≡ 0). both z) ∙ sym (ap (λ (c : Bool). c || eqb y 0) (ne_eqb x 0 n) ∙ ne_eqb y 0 m)
      where
        both : min x y ≡ 0 → ⊥
        both z = let p : 0 < x = omega (arith, positive x n) in let q : 0 < y = omega (arith, positive y m) in omega arith
          where
            positive : (i : ℕ) → (i ≡ 0 → ⊥) → 0 < i
            positive zero f = absurd (f refl)
            positive (suc i) f = omega arith

-- amounts that show what is short show it on every day
pub short_on_is : (r : Request) (ls : List Line) (amounts : List ℕ) → ShortShown r ls amounts → (day : ℕ) → short_on r amounts day ≡ short r day ls
short_on_is r ls amounts S day = go (cases_Bool (leb r.start day && ltb day (r.start + r.length)))
  where
    go : ((leb r.start day && ltb day (r.start + r.length)) ≡ true) ⊎ ((leb r.start day && ltb day (r.start + r.length)) ≡ false) → short_on r amounts day ≡ short r day ls
    go (inl q) =
        let w = and_parts (leb r.start day) (ltb day (r.start + r.length)) q in
        let lo = leb-true r.start day w.0 in let hi = ltb-true day (r.start + r.length) w.1 in
        let z : r.start + (day - r.start) ≡ day = omega arith in
        cond-true _ _ _ q ∙ (S.shows (day - r.start) (omega arith) ∙ ap (λ (i : ℕ). short r i ls) z)
    go (inr q) = cond-false _ _ _ q ∙ sym (cond-false _ _ _ q)

module _ (d : Desk) (S : Showing d) (r : Request) (i : ℕ) (h : i < length d.places.now) (u : Record) (ready : StandsReady r (view d) (entry_at (view d).places i)) where
  abbrev one : Record
  one = get_or d.places.now i u

  pub entry_is : entry_of (get_or d.places.now i u) ≡ entry_at (view d).places i
  entry_is = sym (get_or-map entry_of d.places.now i u nobody h)

  lives_here : living (entry_of one) ≡ true
  lives_here = ap living entry_is ∙ ready.lives

  own_day : (day : ℕ) → 0 < holding (view d).lines (aref_of (entry_of one)) day → (start_of (entry_of one) ≤ day) × (day < start_of (entry_of one) + length_of (entry_of one))
  own_day = subst (λ (e : Entry). (day : ℕ) → 0 < holding (view d).lines (aref_of e) day → (start_of e ≤ day) × (day < start_of e + length_of e)) (sym entry_is) ready.own_term

  pub held_now : (day : ℕ) → held_on day (get_or d.places.now i u) ≡ holding (view d).lines (aref_of (entry_at (view d).places i)) day
  held_now day =
      shown (start_of (entry_of one)) day one.held (λ k. holding (view d).lines (aref_of (entry_of one)) k)
      (λ j l. (All-get_or (Shows (balance (view d).lines)) d.places.now i u h S.shown.records).holds j l ∙ cond-true _ _ _ lives_here)
      (λ p. let w = own_day day p in (w.0, omega (arith, w.1, ap length_of entry_is, ready.month)))
      ∙ ap (λ (e : Entry). holding (view d).lines (aref_of e) day) entry_is

  pub holds_in_term : HoldsInTerm (get_or d.places.now i u)
  holds_in_term day p = own_day day (subst (λ (n : ℕ). 0 < n) (held_now day ∙ ap (λ (e : Entry). holding (view d).lines (aref_of e) day) (sym entry_is)) p)

  -- what a visit finds that the record gives is nothing exactly where it meets no shortage
  pub visit_finds : (amounts : List ℕ) → ShortShown r (view d).lines amounts → (n : ℕ) →
      n ≡ busy_days (gives_here (get_or d.places.now i u) r amounts) (start_of (entry_of (get_or d.places.now i u))) (length_of (entry_of (get_or d.places.now i u))) →
      eqb n 0 ≡ not (meets_shortage r (entry_at (view d).places i) (view d).lines)
  visit_finds amounts W n e =
      let ls = (view d).lines in let x = entry_at (view d).places i in
      ap (λ (j : ℕ). eqb j 0) e
      ∙ (busy_or_none (gives_here one r amounts) (λ day. eqb (holding ls (aref_of x) day) 0 || eqb (short r day ls) 0)
      (λ day. lesser_none (held_on day one) (short_on r amounts day) ∙ (ap (λ (j : ℕ). eqb j 0 || eqb (short_on r amounts day) 0) (held_now day) ∙ ap (λ (j : ℕ). eqb (holding ls (aref_of x) day) 0 || eqb j 0) (short_on_is r ls amounts W day)))
      (start_of (entry_of one)) (length_of (entry_of one))
      ∙ (ap (λ (y : Entry). each_day (λ day. eqb (holding ls (aref_of x) day) 0 || eqb (short r day ls) 0) (start_of y) (length_of y)) entry_is
      ∙ twice _))
    where
      twice : (b : Bool) → b ≡ not (not b)
      twice true = refl
      twice false = refl
