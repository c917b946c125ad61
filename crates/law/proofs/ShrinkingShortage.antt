-- Within one submit: days get no shorter, and nobody but the challenger gets more.
use Rattle.std.proofs.Common.{◌≡◌, ℕ, zero, suc, ◌+◌, ◌-◌, ◌<◌, ◌≤◌, min, Bool, true, false, cond, ◌&&◌, ◌||◌, eqb, ltb, leb, ◌⊎◌, List, refl, subst, inl, inr, arith}
use Rattle.std.proofs.lemmas.Bool.{eq-eqb, ne_eqb, eqb-true, cases_eq, cases_lt, and_parts, and_cases, or_cases, not-false}
use Rattle.terms.specs.declared.request.Request.{Request}
use Rattle.sheets.specs.Rules.{Rules}
use Rattle.journal.specs.declared.line.Line.{Line}
use Rattle.journal.specs.declared.line.LineKind.TheVariants.{Granted, Superseded, Recalled, SetAside}
use Rattle.journal.specs.Accounts.{free, held, NeverBelowZero}
use Rattle.law.specs.Preemption.{wanted, taken, short, meets_shortage, supersede, give}
use Rattle.law.specs.View.{Entry, aref_of, start_of, length_of}
use Rattle.law.specs.Posting.{post, by_day, each_day, holding, free_on}
use Rattle.law.proofs.SoundLines.{cond_never}
use Rattle.law.proofs.PostingEffects.{balance-post, less_post, from_post, taken_post}
use Rattle.law.proofs.Holders.{days_ind, days_each, solvent_post}

gives_out : (h h' m s s' k k' mw : ℕ) (c : Bool) → h' + m ≡ h → s' ≡ s → k' ≡ k + m → m ≡ min h (cond c (mw - (s + k)) 0) → 0 < cond c (mw - (s' + k')) 0 → h' ≡ 0
gives_out h h' m s s' k k' mw true a b c d e = omega arith
gives_out h h' m s s' k k' mw false a b c d e = let z : ⊥ = omega arith in absurd z

-- a test on each day of a term
pub each_true : (p : ℕ → Bool) (s d : ℕ) → each_day p s d ≡ true → (k : ℕ) → s ≤ k → k < s + d → p k ≡ true
unfolding each_day
each_true p s zero h k lo hi = let z : ⊥ = omega arith in absurd z
each_true p s (suc d) h k lo hi = go (λ (l : suc s ≤ k). each_true p (suc s) d (and_parts (p s) (each_day p (suc s) d) h).1 k l (omega arith)) (cases_eq s k)
  where
    go : (suc s ≤ k → p k ≡ true) → (s ≡ k) ⊎ (s ≡ k → ⊥) → p k ≡ true
    go ih (inl e) = subst (λ i. p i ≡ true) e (and_parts (p s) (each_day p (suc s) d) h).0
    go ih (inr ne) = ih (omega arith)

pub each_false : (p : ℕ → Bool) (s d : ℕ) → each_day p s d ≡ false → (k : ℕ) × (s ≤ k) × (k < s + d) × (p k ≡ false)
unfolding each_day
each_false p s zero h = let z : ◌≡◌ {A = ℕ} 0 1 = cc in let b : ⊥ = omega arith in absurd b
each_false p s (suc d) h = go (λ (q : each_day p (suc s) d ≡ false). each_false p (suc s) d q) (and_cases (p s) (each_day p (suc s) d) h)
  where
    go : (each_day p (suc s) d ≡ false → (k : ℕ) × (suc s ≤ k) × (k < suc s + d) × (p k ≡ false)) → (p s ≡ false) ⊎ (each_day p (suc s) d ≡ false) → (k : ℕ) × (s ≤ k) × (k < s + suc d) × (p k ≡ false)
    go ih (inl e) = (s, omega arith, omega arith, e)
    go ih (inr q) = let w = ih q in (w.0, omega arith, omega arith, w.3)

module _ (r : Request) where
  pub record Later (ms ns : List Line) : Type 0 where
    pub solvent : NeverBelowZero ns
    pub gain : (k : ℕ) → free_on ms k + taken r.aref k ms ≤ free_on ns k + taken r.aref k ns
    pub less : (a k : ℕ) → (a ≡ r.aref → ⊥) → holding ns a k ≤ holding ms a k

  pub later_refl : (ms : List Line) → NeverBelowZero ms → Later ms ms
  later_refl ms f = record { solvent = f; gain = λ k. omega arith; less = λ a k ne. omega arith }

  pub later_trans : (ls ms ns : List Line) → Later ls ms → Later ms ns → Later ls ns
  later_trans ls ms ns p q = record { solvent = q.solvent; gain = λ k. omega (arith, p.gain k, q.gain k); less = λ a k ne. omega (arith, p.less a k ne, q.less a k ne) }

  pub shorter : (ms ns : List Line) → Later ms ns → (k : ℕ) → short r k ns ≤ short r k ms
  shorter ms ns p k = go (leb r.start k && ltb k (r.start + r.length))
    where
      go : (c : Bool) → cond c (wanted r k - (free_on ns k + taken r.aref k ns)) 0 ≤ cond c (wanted r k - (free_on ms k + taken r.aref k ms)) 0
      go true = omega (arith, p.gain k)
      go false = omega arith

  -- the four kinds of line that a submit writes
  pub later_superseded : (t a k m : ℕ) (ms : List Line) → NeverBelowZero ms → m ≤ holding ms a k → Later ms (post t Superseded a r.aref k m ms)
  later_superseded t a k m ms f paid = record {
    solvent = solvent_post ms f t Superseded a r.aref k m paid;
    gain = λ j.
        let z : cond (eqb k j && false) m 0 ≡ 0 = cond_never (eqb k j) m in
        omega (arith, balance-post ms f t Superseded a r.aref k m paid free j (omega arith), taken_post r.aref j t Superseded a r.aref k m ms);
    less = λ c j ne. less_post ms f t Superseded a r.aref k m paid (held c) j (omega arith) refl;
  }

  pub later_granted : (t a k m : ℕ) (ms : List Line) → NeverBelowZero ms → m ≤ free_on ms k → Later ms (post t Granted a r.aref k m ms)
  later_granted t a k m ms f paid = record {
    solvent = solvent_post ms f t Granted a r.aref k m paid;
    gain = λ j.
        let z : cond (eqb k j && false) m 0 ≡ 0 = cond_never (eqb k j) m in
        let w : cond (eqb k j && true) m 0 ≡ cond (eqb r.aref r.aref && eqb k j) m 0 = rw (eq-eqb r.aref r.aref refl) (and_ever (eqb k j)) in
        omega (arith, balance-post ms f t Granted a r.aref k m paid free j (omega arith), taken_post r.aref j t Granted a r.aref k m ms);
    less = λ c j ne. less_post ms f t Granted a r.aref k m paid (held c) j (omega arith) (ne_eqb c r.aref ne);
  }
    where
      and_ever : (b : Bool) → cond (b && true) m 0 ≡ cond b m 0
      and_ever true = refl
      and_ever false = refl

  -- given is SetAside or Recalled
  pub later_given : (c : Bool) (t a k m : ℕ) (ms : List Line) → NeverBelowZero ms → m ≤ holding ms a k → Later ms (post t (cond c SetAside Recalled) a r.aref k m ms)
  later_given true t a k m ms f paid = record {
    solvent = solvent_post ms f t SetAside a r.aref k m paid;
    gain = λ j.
        let z : cond (eqb k j && false) m 0 ≡ 0 = cond_never (eqb k j) m in
        omega (arith, balance-post ms f t SetAside a r.aref k m paid free j (omega arith), taken_post r.aref j t SetAside a r.aref k m ms);
    less = λ c j ne. less_post ms f t SetAside a r.aref k m paid (held c) j (omega arith) refl;
  }
  later_given false t a k m ms f paid = record {
    solvent = solvent_post ms f t Recalled a r.aref k m paid;
    gain = λ j.
        let z : cond (eqb k j && false) m 0 ≡ 0 = cond_never (eqb k j) m in
        omega (arith, balance-post ms f t Recalled a r.aref k m paid free j (omega arith), taken_post r.aref j t Recalled a r.aref k m ms);
    less = λ c j ne. less_post ms f t Recalled a r.aref k m paid (held c) j (omega arith) (ne_eqb c r.aref ne);
  }

  -- what a giver gives on a short day: all, or what ends the shortage
  given_all : (c : Bool) (t a k : ℕ) (ms : List Line) → NeverBelowZero ms → (a ≡ r.aref → ⊥) →
      0 < short r k (post t (cond c SetAside Recalled) a r.aref k (min (holding ms a k) (short r k ms)) ms) →
      holding (post t (cond c SetAside Recalled) a r.aref k (min (holding ms a k) (short r k ms)) ms) a k ≡ 0
  given_all true t a k ms f ne p =
      let m = min (holding ms a k) (short r k ms) in
      let paid : m ≤ holding ms a k = omega arith in
      let z : cond (eqb k k && false) m 0 ≡ 0 = cond_never (eqb k k) m in
      let tk = taken_post r.aref k t SetAside a r.aref k m ms in
      let tk' = rw (eq-eqb r.aref r.aref refl, eq-eqb k k refl) at tk in
      gives_out _ _ _ _ _ _ _ _ _ (from_post ms f t SetAside a r.aref k m paid (omega arith) refl)
      (omega (arith, balance-post ms f t SetAside a r.aref k m paid free k (omega arith))) tk' refl p
  given_all false t a k ms f ne p =
      let m = min (holding ms a k) (short r k ms) in
      let paid : m ≤ holding ms a k = omega arith in
      let z : cond (eqb k k && false) m 0 ≡ 0 = cond_never (eqb k k) m in
      let tk = taken_post r.aref k t Recalled a r.aref k m ms in
      let tk' = rw (eq-eqb r.aref r.aref refl, eq-eqb k k refl) at tk in
      gives_out _ _ _ _ _ _ _ _ _ (from_post ms f t Recalled a r.aref k m paid (omega arith) (ne_eqb a r.aref ne))
      (omega (arith, balance-post ms f t Recalled a r.aref k m paid free k (omega arith))) tk' refl p

  -- d holds nothing on a day that is still short
  abbrev pub GivenUp : Entry → List Line → Type 0
  GivenUp d ms = (k : ℕ) → 0 < short r k ms → holding ms (aref_of d) k ≡ 0

  pub given_up_later : (d : Entry) (ms ns : List Line) → (aref_of d ≡ r.aref → ⊥) → Later ms ns → GivenUp d ms → GivenUp d ns
  given_up_later d ms ns ne p g k q = omega (arith, g k (omega (arith, shorter ms ns p k)), p.less (aref_of d) k ne)

  -- a record holds MW in its term alone
  abbrev pub InTerm : Entry → List Line → Type 0
  InTerm d ms = (k : ℕ) → 0 < holding ms (aref_of d) k → (start_of d ≤ k) × (k < start_of d + length_of d)

  in_or_none : (d : Entry) (ms : List Line) (k : ℕ) → InTerm d ms → (holding ms (aref_of d) k ≡ 0) ⊎ ((start_of d ≤ k) × (k < start_of d + length_of d))
  in_or_none d ms k h = go (cases_lt 0 (holding ms (aref_of d) k))
    where
      go : (0 < holding ms (aref_of d) k) ⊎ (holding ms (aref_of d) k ≤ 0) → (holding ms (aref_of d) k ≡ 0) ⊎ ((start_of d ≤ k) × (k < start_of d + length_of d))
      go (inl p) = inr (h k p)
      go (inr p) = inl (omega arith)

  module _ (R : Rules) (t : ℕ) (d : Entry) (ne : aref_of d ≡ r.aref → ⊥) where
    give_day : ℕ → List Line → List Line
    give_day k ms = post t (cond (R.may_match r d.standing) SetAside Recalled) (aref_of d) r.aref k (min (holding ms (aref_of d) k) (short r k ms)) ms

    pub later_give : (ls : List Line) → NeverBelowZero ls → Later ls (give R t r d ls)
    later_give ls f = days_ind _ (Later ls) (start_of d) (length_of d) (λ k ms lo hi p. later_trans ls ms _ p (later_given (R.may_match r d.standing) t (aref_of d) k _ ms p.solvent (omega arith))) ls (later_refl ls f)

    pub give_up : (ls : List Line) → NeverBelowZero ls → InTerm d ls → GivenUp d (give R t r d ls)
    give_up ls f h k q = go (in_or_none d ls k h)
      where
        L : Later ls (give R t r d ls)
        L = later_give ls f

        go : (holding ls (aref_of d) k ≡ 0) ⊎ ((start_of d ≤ k) × (k < start_of d + length_of d)) → holding (give R t r d ls) (aref_of d) k ≡ 0
        go (inl z) = omega (arith, L.less (aref_of d) k ne)
        go (inr w) = days_each _ NeverBelowZero (λ j ms. 0 < short r j ms → holding ms (aref_of d) j ≡ 0) (start_of d) (length_of d)
            (λ j ms lo hi p. solvent_given j ms p)
            (λ j ms p. given_all (R.may_match r d.standing) t (aref_of d) j ms p ne)
            (λ i j ms p g s. omega (arith, g (omega (arith, shorter ms _ (one j ms p) i)), (one j ms p).less (aref_of d) i ne))
            ls f k w.0 w.1 q
          where
            one : (j : ℕ) (ms : List Line) → NeverBelowZero ms → Later ms (post t (cond (R.may_match r d.standing) SetAside Recalled) (aref_of d) r.aref j (min (holding ms (aref_of d) j) (short r j ms)) ms)
            one j ms p = later_given (R.may_match r d.standing) t (aref_of d) j _ ms p (omega arith)

            solvent_given : (j : ℕ) (ms : List Line) → NeverBelowZero ms → NeverBelowZero (post t (cond (R.may_match r d.standing) SetAside Recalled) (aref_of d) r.aref j (min (holding ms (aref_of d) j) (short r j ms)) ms)
            solvent_given j ms p = (one j ms p).solvent

  module _ (t : ℕ) (d : Entry) (ne : aref_of d ≡ r.aref → ⊥) where
    sup_day : ℕ → List Line → List Line
    sup_day k ms = post t Superseded (aref_of d) r.aref k (holding ms (aref_of d) k) ms

    later_sup_days : (ls : List Line) → NeverBelowZero ls → Later ls (by_day (λ k ms. post t Superseded (aref_of d) r.aref k (holding ms (aref_of d) k) ms) (start_of d) (length_of d) ls)
    later_sup_days ls f = days_ind _ (Later ls) (start_of d) (length_of d) (λ k ms lo hi p. later_trans ls ms _ p (later_superseded t (aref_of d) k _ ms p.solvent (omega arith))) ls (later_refl ls f)

    pub later_supersede : (ls : List Line) → NeverBelowZero ls → Later ls (supersede t r d ls)
    later_supersede ls f = go (meets_shortage r d ls)
      where
        go : (c : Bool) → Later ls (cond c (by_day (λ k ms. post t Superseded (aref_of d) r.aref k (holding ms (aref_of d) k) ms) (start_of d) (length_of d) ls) ls)
        go true = later_sup_days ls f
        go false = later_refl ls f

    pub supersede_up : (ls : List Line) → NeverBelowZero ls → InTerm d ls → GivenUp d (supersede t r d ls)
    supersede_up ls f h k q = go (meets_shortage r d ls) refl q
      where
        all_of_it : List Line
        all_of_it = by_day (λ k ms. post t Superseded (aref_of d) r.aref k (holding ms (aref_of d) k) ms) (start_of d) (length_of d) ls

        whole : (holding ls (aref_of d) k ≡ 0) ⊎ ((start_of d ≤ k) × (k < start_of d + length_of d)) → holding (by_day (λ k ms. post t Superseded (aref_of d) r.aref k (holding ms (aref_of d) k) ms) (start_of d) (length_of d) ls) (aref_of d) k ≡ 0
        whole (inl z) = omega (arith, (later_sup_days ls f).less (aref_of d) k ne)
        whole (inr w) = days_each _ NeverBelowZero (λ j ms. holding ms (aref_of d) j ≡ 0) (start_of d) (length_of d)
            (λ j ms lo hi p. solvent_post ms p t Superseded (aref_of d) r.aref j (holding ms (aref_of d) j) (omega arith))
            (λ j ms p. omega (arith, from_post ms p t Superseded (aref_of d) r.aref j (holding ms (aref_of d) j) (omega arith) (omega arith) refl))
            (λ i j ms p g. omega (arith, (later_superseded t (aref_of d) j (holding ms (aref_of d) j) ms p (omega arith)).less (aref_of d) i ne))
            ls f k w.0 w.1

        go : (c : Bool) → meets_shortage r d ls ≡ c → 0 < short r k (cond c (by_day (λ k ms. post t Superseded (aref_of d) r.aref k (holding ms (aref_of d) k) ms) (start_of d) (length_of d) ls) ls) → holding (cond c (by_day (λ k ms. post t Superseded (aref_of d) r.aref k (holding ms (aref_of d) k) ms) (start_of d) (length_of d) ls) ls) (aref_of d) k ≡ 0
        go true e p = whole (in_or_none d ls k h)
        go false e p = un (in_or_none d ls k h)
          where
            un : (holding ls (aref_of d) k ≡ 0) ⊎ ((start_of d ≤ k) × (k < start_of d + length_of d)) → holding ls (aref_of d) k ≡ 0
            un (inl z) = z
            un (inr w) = or (or_cases (eqb (holding ls (aref_of d) k) 0) (eqb (short r k ls) 0) (each_true (λ j. eqb (holding ls (aref_of d) j) 0 || eqb (short r j ls) 0) (start_of d) (length_of d) (not-false _ e) k w.0 w.1))
              where
                or : (eqb (holding ls (aref_of d) k) 0 ≡ true) ⊎ (eqb (short r k ls) 0 ≡ true) → holding ls (aref_of d) k ≡ 0
                or (inl x) = eqb-true _ 0 x
                or (inr x) = let z = eqb-true (short r k ls) 0 x in let b : ⊥ = omega arith in absurd b
