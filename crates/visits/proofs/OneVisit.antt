-- One visit: whether a defender is superseded, passed over or gives, each day is short by what it held less, and nobody
-- else among the defenders holds more or less.
use Rattle.std.proofs.Common.{◌≡◌, ℕ, zero, suc, ◌+◌, ◌-◌, ◌<◌, ◌≤◌, min, Bool, true, false, cond, ◌&&◌, ◌||◌, eqb, ltb, leb, ◌⊎◌, List, [], ◌∷◌, ◌++◌, sym, refl, ap, ◌∙◌, inl, inr, arith}
use Rattle.std.proofs.lemmas.List.{append-nil}
use Rattle.std.proofs.lemmas.Bool.{ne_eqb, eqb-true, cases_lt, or_cases, not-false}
use Rattle.terms.specs.declared.request.Request.{Request}
use Rattle.sheets.specs.Rules.{Rules}
use Rattle.journal.specs.declared.line.Line.{Line}
use Rattle.journal.specs.declared.line.LineKind.TheVariants.{Superseded, Recalled, SetAside}
use Rattle.journal.specs.Accounts.{free, held, same, from, to, balance, NeverBelowZero}
use Rattle.law.specs.View.{Entry, aref_of, start_of, length_of}
use Rattle.law.specs.Posting.{post, by_day, each_day, holding, free_on}
use Rattle.law.specs.Preemption.{wanted, taken, short, meets_shortage, supersede, give, holdings, brings_challenger}
use Rattle.law.proofs.ShrinkingShortage.{InTerm, each_true}
use Rattle.visits.specs.ClosedForm.{shortage_met, gives_on, lines_by_day}
use Rattle.visits.proofs.DayPostings.{DayStands, Moved, days_move}

-- a day lies in a term or outside it
pub term_cases : (s n k : ℕ) → ((s ≤ k) × (k < s + n)) ⊎ ((k < s) ⊎ (s + n ≤ k))
term_cases s n k = go (cases_lt k s) (cases_lt k (s + n))
  where
    go : (k < s) ⊎ (s ≤ k) → (k < s + n) ⊎ (s + n ≤ k) → ((s ≤ k) × (k < s + n)) ⊎ ((k < s) ⊎ (s + n ≤ k))
    go (inl p) q = inr (inl p)
    go (inr p) (inl q) = inl (p, q)
    go (inr p) (inr q) = inr (inr q)

-- the same test on each day
pub each_day_same : (p q : ℕ → Bool) → ((k : ℕ) → p k ≡ q k) → (s n : ℕ) → each_day p s n ≡ each_day q s n
unfolding each_day
each_day_same p q h s zero = refl
each_day_same p q h s (suc n) = rw (h s, each_day_same p q h (suc s) n)

-- what one defender more holds
pub holdings_push : (ls : List Line) (ds : List Entry) (d : Entry) (k : ℕ) → holdings ls (ds ++ d ∷ []) k ≡ holdings ls ds k + holding ls (aref_of d) k
unfolding holdings
holdings_push ls [] d k = omega arith
holdings_push ls (e ∷ ds) d k = let h = holdings_push ls ds d k in omega arith

module _ (r : Request) (ls : List Line) where
  -- the next defender meets a shortage less by what this one holds
  pub shortage_met_push : (earlier : List Entry) (d : Entry) (k : ℕ) → shortage_met r ls (earlier ++ d ∷ []) k ≡ shortage_met r ls earlier k - holding ls (aref_of d) k
  shortage_met_push earlier d k = go (leb r.start k && ltb k (r.start + r.length)) (holdings_push ls earlier d k)
    where
      go : (c : Bool) → holdings ls (earlier ++ d ∷ []) k ≡ holdings ls earlier k + holding ls (aref_of d) k →
          cond c (wanted r k - (free_on ls k + holdings ls (earlier ++ d ∷ []) k)) 0 ≡ cond c (wanted r k - (free_on ls k + holdings ls earlier k)) 0 - holding ls (aref_of d) k
      go true e = omega arith
      go false e = omega arith

  -- a day stays as short as it was where free and taken stay
  pub as_short : (k : ℕ) (ms ns : List Line) → free_on ns k + taken r.aref k ns ≡ free_on ms k + taken r.aref k ms → short r k ns ≡ short r k ms
  as_short k ms ns e = ap (λ i. cond (leb r.start k && ltb k (r.start + r.length)) (wanted r k - i) 0) e

  -- and gets less short by what free or taken gain
  pub less_short_by : (k h : ℕ) (ms ns : List Line) → free_on ns k + taken r.aref k ns ≡ free_on ms k + taken r.aref k ms + h → short r k ns ≡ short r k ms - h
  less_short_by k h ms ns e = go (leb r.start k && ltb k (r.start + r.length))
    where
      go : (c : Bool) → cond c (wanted r k - (free_on ns k + taken r.aref k ns)) 0 ≡ cond c (wanted r k - (free_on ms k + taken r.aref k ms)) 0 - h
      go true = omega arith
      go false = omega arith

  less_short_by_lesser : (k h : ℕ) (ms ns : List Line) → free_on ns k + taken r.aref k ns ≡ free_on ms k + taken r.aref k ms + min h (short r k ms) → short r k ns ≡ short r k ms - h
  less_short_by_lesser k h ms ns e = go (leb r.start k && ltb k (r.start + r.length)) e
    where
      go : (c : Bool) → free_on ns k + taken r.aref k ns ≡ free_on ms k + taken r.aref k ms + min h (cond c (wanted r k - (free_on ms k + taken r.aref k ms)) 0) →
          cond c (wanted r k - (free_on ns k + taken r.aref k ns)) 0 ≡ cond c (wanted r k - (free_on ms k + taken r.aref k ms)) 0 - h
      go true q = omega arith
      go false q = omega arith

  -- a day that stands is as short as it was
  pub short_stands : (k : ℕ) (ms ns : List Line) → DayStands r.aref k ms ns → short r k ns ≡ short r k ms
  short_stands k ms ns st = as_short k ms ns (let f = st.stands free (omega arith) in let g = st.taken_stands in omega arith)

  -- outside its term a defender holds nothing
  none_outside : (d : Entry) → InTerm r d ls → (k : ℕ) → (k < start_of d) ⊎ (start_of d + length_of d ≤ k) → holding ls (aref_of d) k ≡ 0
  none_outside d i k o = go o (cases_lt 0 (holding ls (aref_of d) k))
    where
      go : (k < start_of d) ⊎ (start_of d + length_of d ≤ k) → (0 < holding ls (aref_of d) k) ⊎ (holding ls (aref_of d) k ≤ 0) → holding ls (aref_of d) k ≡ 0
      go (inl p) (inl q) = let w = i k q in let z : ⊥ = omega arith in absurd z
      go (inr p) (inl q) = let w = i k q in let z : ⊥ = omega arith in absurd z
      go _ (inr q) = omega arith

  -- what a visit of d does, where d holds what it held before the submit
  pub record Effect (d : Entry) (ms ns : List Line) : Type 0 where
    pub solvent : NeverBelowZero ns
    pub less_short : (k : ℕ) → short r k ns ≡ short r k ms - holding ls (aref_of d) k
    pub others : (a k : ℕ) → (a ≡ aref_of d → ⊥) → (a ≡ r.aref → ⊥) → holding ns a k ≡ holding ms a k

  module _ (t : ℕ) (d : Entry) (i : InTerm r d ls) (ms : List Line) (fine : NeverBelowZero ms) (keeps : (k : ℕ) → holding ms (aref_of d) k ≡ holding ls (aref_of d) k) where
    -- a pending defender that meets a shortage is superseded whole
    superseded_whole : Moved t Superseded (aref_of d) r.aref (λ day. holding ls (aref_of d) day) (start_of d) (length_of d) ms (by_day (λ k ns. post t Superseded (aref_of d) r.aref k (holding ns (aref_of d) k) ns) (start_of d) (length_of d) ms)
    superseded_whole = days_move t Superseded (aref_of d) r.aref (omega arith) (λ k ns. holding ns (aref_of d) k) (λ day. holding ls (aref_of d) day) (start_of d) (length_of d) ms fine
        (λ k lo hi. omega (arith, keeps k)) (λ k lo hi ns st. st.stands (held (aref_of d)) (omega arith) ∙ keeps k)

    -- the lines that it writes, its effect, and what is free after it
    pub supersede_visit :
        (supersede t r d ms ≡ ms ++ cond (meets_shortage r d ms) (lines_by_day t Superseded (aref_of d) r.aref (λ day. holding ls (aref_of d) day) (start_of d) (length_of d)) [])
        × Effect d ms (supersede t r d ms)
        × ((k : ℕ) → free_on (supersede t r d ms) k ≡ free_on ms k + cond (meets_shortage r d ms) (holding ls (aref_of d) k) 0)
    supersede_visit = go (meets_shortage r d ms) refl superseded_whole
      where
        go : (c : Bool) → meets_shortage r d ms ≡ c → Moved t Superseded (aref_of d) r.aref (λ day. holding ls (aref_of d) day) (start_of d) (length_of d) ms (by_day (λ k ns. post t Superseded (aref_of d) r.aref k (holding ns (aref_of d) k) ns) (start_of d) (length_of d) ms) →
            (cond c (by_day (λ k ns. post t Superseded (aref_of d) r.aref k (holding ns (aref_of d) k) ns) (start_of d) (length_of d) ms) ms ≡ ms ++ cond c (lines_by_day t Superseded (aref_of d) r.aref (λ day. holding ls (aref_of d) day) (start_of d) (length_of d)) [])
            × Effect d ms (cond c (by_day (λ k ns. post t Superseded (aref_of d) r.aref k (holding ns (aref_of d) k) ns) (start_of d) (length_of d) ms) ms)
            × ((k : ℕ) → free_on (cond c (by_day (λ k ns. post t Superseded (aref_of d) r.aref k (holding ns (aref_of d) k) ns) (start_of d) (length_of d) ms) ms) k ≡ free_on ms k + cond c (holding ls (aref_of d) k) 0)
        go false e m = (sym (append-nil ms), record { solvent = fine; less_short = λ k. passed k (term_cases (start_of d) (length_of d) k); others = λ a k p q. refl }, λ k. omega arith)
          where
            passed : (k : ℕ) → ((start_of d ≤ k) × (k < start_of d + length_of d)) ⊎ ((k < start_of d) ⊎ (start_of d + length_of d ≤ k)) → short r k ms ≡ short r k ms - holding ls (aref_of d) k
            passed k (inr o) = omega (arith, none_outside d i k o)
            passed k (inl w) = or (or_cases (eqb (holding ms (aref_of d) k) 0) (eqb (short r k ms) 0) (each_true (λ j. eqb (holding ms (aref_of d) j) 0 || eqb (short r j ms) 0) (start_of d) (length_of d) (not-false _ e) k w.0 w.1))
              where
                or : (eqb (holding ms (aref_of d) k) 0 ≡ true) ⊎ (eqb (short r k ms) 0 ≡ true) → short r k ms ≡ short r k ms - holding ls (aref_of d) k
                or (inl x) = let z = eqb-true _ 0 x in omega (arith, keeps k)
                or (inr x) = let z = eqb-true (short r k ms) 0 x in omega arith
        go true e m = (m.writes, record { solvent = m.solvent; less_short = λ k. less k (term_cases (start_of d) (length_of d) k); others = λ a k p q. other a k p (term_cases (start_of d) (length_of d) k) }, λ k. freed k (term_cases (start_of d) (length_of d) k))
          where
            ns : List Line
            ns = by_day (λ k ns. post t Superseded (aref_of d) r.aref k (holding ns (aref_of d) k) ns) (start_of d) (length_of d) ms

            freed : (k : ℕ) → ((start_of d ≤ k) × (k < start_of d + length_of d)) ⊎ ((k < start_of d) ⊎ (start_of d + length_of d ≤ k)) → free_on ns k ≡ free_on ms k + holding ls (aref_of d) k
            freed k (inl w) = let z = m.moves k w.0 w.1 free (omega arith) in omega arith
            freed k (inr o) = let z = none_outside d i k o in let y = (m.elsewhen k o).stands free (omega arith) in omega arith

            took : (k : ℕ) → ((start_of d ≤ k) × (k < start_of d + length_of d)) ⊎ ((k < start_of d) ⊎ (start_of d + length_of d ≤ k)) → taken r.aref k ns ≡ taken r.aref k ms
            took k (inl w) = let z = m.takes_more k w.0 w.1 in omega arith
            took k (inr o) = (m.elsewhen k o).taken_stands

            less : (k : ℕ) → ((start_of d ≤ k) × (k < start_of d + length_of d)) ⊎ ((k < start_of d) ⊎ (start_of d + length_of d ≤ k)) → short r k ns ≡ short r k ms - holding ls (aref_of d) k
            less k c = less_short_by k (holding ls (aref_of d) k) ms ns (let z = freed k c in let y = took k c in omega arith)

            other : (a k : ℕ) → (a ≡ aref_of d → ⊥) → ((start_of d ≤ k) × (k < start_of d + length_of d)) ⊎ ((k < start_of d) ⊎ (start_of d + length_of d ≤ k)) → holding ns a k ≡ holding ms a k
            other a k p (inl w) = let z = m.moves k w.0 w.1 (held a) (omega arith) in let z' = rw (ne_eqb a (aref_of d) p) at z in omega arith
            other a k p (inr o) = (m.elsewhen k o).stands (held a) (omega arith)

    -- a confirmed defender gives on each day the lesser of what it holds and the shortage that it meets
    pub give_visit : (R : Rules) (earlier : List Entry) → ((k : ℕ) → short r k ms ≡ shortage_met r ls earlier k) →
        (give R t r d ms ≡ ms ++ lines_by_day t (cond (R.may_match r d.standing) SetAside Recalled) (aref_of d) r.aref (gives_on r ls earlier d) (start_of d) (length_of d))
        × Effect d ms (give R t r d ms)
    give_visit R earlier met = go (R.may_match r d.standing)
      where
        reads : (k : ℕ) (ns : List Line) → DayStands r.aref k ms ns → min (holding ns (aref_of d) k) (short r k ns) ≡ gives_on r ls earlier d k
        reads k ns st = let a = st.stands (held (aref_of d)) (omega arith) ∙ keeps k in let b = short_stands k ms ns st ∙ met k in rw (a, b)

        paid : (k : ℕ) → gives_on r ls earlier d k ≤ holding ms (aref_of d) k
        paid k = omega (arith, keeps k)

        -- free stays, what was taken gains what is given, and nobody else's holding changes
        effect : (c : Bool) (ns : List Line) → Moved t (cond c SetAside Recalled) (aref_of d) r.aref (gives_on r ls earlier d) (start_of d) (length_of d) ms ns → Effect d ms ns
        effect c ns m = record { solvent = m.solvent; less_short = λ k. less k (term_cases (start_of d) (length_of d) k); others = λ a k p q. other a k p q (term_cases (start_of d) (length_of d) k) }
          where
            free_stays : (b : Bool) (k x : ℕ) → balance ns free k + cond (same free (from (cond b SetAside Recalled) (aref_of d) r.aref)) x 0 ≡ balance ms free k + cond (same free (to (cond b SetAside Recalled) (aref_of d) r.aref)) x 0 → free_on ns k ≡ free_on ms k
            free_stays true k x e = omega arith
            free_stays false k x e = omega arith

            gains : (b : Bool) (k x : ℕ) → taken r.aref k ns ≡ taken r.aref k ms + cond (brings_challenger (cond b SetAside Recalled)) x 0 → taken r.aref k ns ≡ taken r.aref k ms + x
            gains true k x e = e
            gains false k x e = e

            stays : (b : Bool) (a k x : ℕ) → (a ≡ aref_of d → ⊥) → (a ≡ r.aref → ⊥) → balance ns (held a) k + cond (same (held a) (from (cond b SetAside Recalled) (aref_of d) r.aref)) x 0 ≡ balance ms (held a) k + cond (same (held a) (to (cond b SetAside Recalled) (aref_of d) r.aref)) x 0 → holding ns a k ≡ holding ms a k
            stays true a k x p q e = let e' = rw (ne_eqb a (aref_of d) p) at e in omega arith
            stays false a k x p q e = let e' = rw (ne_eqb a (aref_of d) p, ne_eqb a r.aref q) at e in omega arith

            less : (k : ℕ) → ((start_of d ≤ k) × (k < start_of d + length_of d)) ⊎ ((k < start_of d) ⊎ (start_of d + length_of d ≤ k)) → short r k ns ≡ short r k ms - holding ls (aref_of d) k
            less k (inl w) =
                let f = free_stays c k (gives_on r ls earlier d k) (m.moves k w.0 w.1 free (omega arith)) in
                let g = gains c k (gives_on r ls earlier d k) (m.takes_more k w.0 w.1) in
                let h : taken r.aref k ns ≡ taken r.aref k ms + min (holding ls (aref_of d) k) (short r k ms) = g ∙ ap (λ i. taken r.aref k ms + min (holding ls (aref_of d) k) i) (sym (met k)) in
                less_short_by_lesser k (holding ls (aref_of d) k) ms ns (rw (f, h) (sum (free_on ms k) (taken r.aref k ms) (min (holding ls (aref_of d) k) (short r k ms))))
              where
                sum : (x y z : ℕ) → x + (y + z) ≡ x + y + z
                sum x y z = omega arith
            less k (inr o) = short_stands k ms ns (m.elsewhen k o) ∙ (let z = none_outside d i k o in omega arith)

            other : (a k : ℕ) → (a ≡ aref_of d → ⊥) → (a ≡ r.aref → ⊥) → ((start_of d ≤ k) × (k < start_of d + length_of d)) ⊎ ((k < start_of d) ⊎ (start_of d + length_of d ≤ k)) → holding ns a k ≡ holding ms a k
            other a k p q (inl w) = stays c a k (gives_on r ls earlier d k) p q (m.moves k w.0 w.1 (held a) (omega arith))
            other a k p q (inr o) = (m.elsewhen k o).stands (held a) (omega arith)

        moved : (c : Bool) → Moved t (cond c SetAside Recalled) (aref_of d) r.aref (gives_on r ls earlier d) (start_of d) (length_of d) ms (by_day (λ k ns. post t (cond c SetAside Recalled) (aref_of d) r.aref k (min (holding ns (aref_of d) k) (short r k ns)) ns) (start_of d) (length_of d) ms)
        moved true = days_move t SetAside (aref_of d) r.aref (omega arith) (λ k ns. min (holding ns (aref_of d) k) (short r k ns)) (gives_on r ls earlier d) (start_of d) (length_of d) ms fine (λ k lo hi. paid k) (λ k lo hi ns st. reads k ns st)
        moved false = days_move t Recalled (aref_of d) r.aref (omega arith) (λ k ns. min (holding ns (aref_of d) k) (short r k ns)) (gives_on r ls earlier d) (start_of d) (length_of d) ms fine (λ k lo hi. paid k) (λ k lo hi ns st. reads k ns st)

        go : (c : Bool) → (by_day (λ k ns. post t (cond c SetAside Recalled) (aref_of d) r.aref k (min (holding ns (aref_of d) k) (short r k ns)) ns) (start_of d) (length_of d) ms
            ≡ ms ++ lines_by_day t (cond c SetAside Recalled) (aref_of d) r.aref (gives_on r ls earlier d) (start_of d) (length_of d))
            × Effect d ms (by_day (λ k ns. post t (cond c SetAside Recalled) (aref_of d) r.aref k (min (holding ns (aref_of d) k) (short r k ns)) ns) (start_of d) (length_of d) ms)
        go c = let m = moved c in (m.writes, effect c _ m)
