-- What giving sets aside: of the giver alone, and something where it meets a shortage and has the right.
use Rattle.std.proofs.Common.{◌≡◌, ℕ, zero, suc, ◌+◌, ◌<◌, ◌≤◌, min, Bool, true, false, cond, ◌||◌, eqb, ◌⊎◌, List, [], ◌∷◌, sym, refl, ap, ◌∙◌, inl, inr, arith}
use Rattle.std.specs.List.{AllByRecursion}
use Rattle.std.proofs.lemmas.Bool.{eq-eqb, ne_eqb, or_right, not-true, false≢true}
use Rattle.terms.specs.declared.request.Request.{Request}
use Rattle.terms.specs.Words.{is_pending}
use Rattle.sheets.specs.Rules.{Rules}
use Rattle.journal.specs.declared.line.Line.{Line}
use Rattle.journal.specs.declared.line.LineKind.TheVariants.{Recalled, SetAside}
use Rattle.journal.specs.Accounts.{held, aside, balance, NeverBelowZero}
use Rattle.law.specs.View.{Entry, aref_of, start_of, length_of}
use Rattle.law.specs.Posting.{post, by_day, each_day, holding}
use Rattle.law.specs.Preemption.{short, meets_shortage, give, none_aside}
use Rattle.law.proofs.ShrinkingShortage.{each_true, each_false, later_give}
use Rattle.visits.proofs.DayPostings.{Moved, days_move}
use Rattle.visits.proofs.OneVisit.{term_cases, short_stands}
use Rattle.preempting.specs.Giving.{given_kind}
use Rattle.preempting.specs.Visits.{giving}
use Rattle.preempting.proofs.Folds.{visits}

module _ (R : Rules) (t : ℕ) (r : Request) (e : Entry) (ms : List Line) (fine : NeverBelowZero ms) where
  abbrev amount : ℕ → ℕ
  amount k = min (holding ms (aref_of e) k) (short r k ms)

  given_moved : (c : Bool) → Moved t (given_kind c) (aref_of e) r.aref amount (start_of e) (length_of e) ms
      (by_day (λ k ns. post t (given_kind c) (aref_of e) r.aref k (min (holding ns (aref_of e) k) (short r k ns)) ns) (start_of e) (length_of e) ms)
  given_moved true = days_move t SetAside (aref_of e) r.aref (omega arith) (λ k ns. min (holding ns (aref_of e) k) (short r k ns)) amount (start_of e) (length_of e) ms fine (λ k lo hi. omega arith)
      (λ k lo hi ns st. ap (λ (i : ℕ). min i (short r k ns)) (st.stands (held (aref_of e)) (omega arith)) ∙ ap (λ (i : ℕ). min (holding ms (aref_of e) k) i) (short_stands r ms k ms ns st))
  given_moved false = days_move t Recalled (aref_of e) r.aref (omega arith) (λ k ns. min (holding ns (aref_of e) k) (short r k ns)) amount (start_of e) (length_of e) ms fine (λ k lo hi. omega arith)
      (λ k lo hi ns st. ap (λ (i : ℕ). min i (short r k ns)) (st.stands (held (aref_of e)) (omega arith)) ∙ ap (λ (i : ℕ). min (holding ms (aref_of e) k) i) (short_stands r ms k ms ns st))

  -- of another, or without the right, nothing is set aside
  pub aside_stays : (a : ℕ) → (a ≡ aref_of e → ⊥) ⊎ (R.may_match r e.standing ≡ false) → (k : ℕ) → balance (give R t r e ms) (aside a r.aref) k ≡ balance ms (aside a r.aref) k
  aside_stays a other k = go (R.may_match r e.standing) refl (term_cases (start_of e) (length_of e) k)
    where
      go : (c : Bool) → R.may_match r e.standing ≡ c → ((start_of e ≤ k) × (k < start_of e + length_of e)) ⊎ ((k < start_of e) ⊎ (start_of e + length_of e ≤ k)) →
          balance (by_day (λ k ns. post t (given_kind c) (aref_of e) r.aref k (min (holding ns (aref_of e) k) (short r k ns)) ns) (start_of e) (length_of e) ms) (aside a r.aref) k ≡ balance ms (aside a r.aref) k
      go c q (inr out) = ((given_moved c).elsewhen k out).stands (aside a r.aref) (omega arith)
      go true q (inl w) =
          let ne : a ≡ aref_of e → ⊥ = elim other [ inl n ↦ n | inr z ↦ (λ x. false≢true (sym z ∙ q)) ] in
          let m = (given_moved true).moves k w.0 w.1 (aside a r.aref) (omega arith) in
          let m' = rw (eq-eqb r.aref r.aref refl, ne_eqb a (aref_of e) ne) at m in omega arith
      go false q (inl w) = let m = (given_moved false).moves k w.0 w.1 (aside a r.aref) (omega arith) in omega arith

  -- with the right, who meets a shortage has something aside
  pub some_aside : R.may_match r e.standing ≡ true → meets_shortage r e ms ≡ true → none_aside (give R t r e ms) r.aref e ≡ false
  some_aside right needed = go (R.may_match r e.standing) right
    where
      day : (k : ℕ) × (start_of e ≤ k) × (k < start_of e + length_of e) × ((eqb (holding ms (aref_of e) k) 0 || eqb (short r k ms) 0) ≡ false)
      day = each_false (λ k. eqb (holding ms (aref_of e) k) 0 || eqb (short r k ms) 0) (start_of e) (length_of e) (not-true _ needed)

      positive : (x y : ℕ) → (eqb x 0 || eqb y 0) ≡ false → 0 < min x y
      positive zero y q = absurd (false≢true (sym q))
      positive (suc x) zero q = absurd (false≢true (sym q ∙ or_right (eqb (suc x) 0) (eqb 0 0) refl))
      positive (suc x) (suc y) q = omega arith

      go : (c : Bool) → c ≡ true → none_aside (by_day (λ k ns. post t (given_kind c) (aref_of e) r.aref k (min (holding ns (aref_of e) k) (short r k ns)) ns) (start_of e) (length_of e) ms) r.aref e ≡ false
      go false q = absurd (false≢true q)
      go true q = fails _ (start_of e) (length_of e) day.0 day.1 day.2 (ne_eqb _ 0 (λ (z : _ ≡ 0). none z))
        where
          ns : List Line
          ns = by_day (λ k ns. post t (given_kind true) (aref_of e) r.aref k (min (holding ns (aref_of e) k) (short r k ns)) ns) (start_of e) (length_of e) ms

          none : balance ns (aside (aref_of e) r.aref) day.0 ≡ 0 → ⊥
          none z =
              let m = (given_moved true).moves day.0 day.1 day.2 (aside (aref_of e) r.aref) (omega arith) in
              let m' = rw (eq-eqb r.aref r.aref refl, eq-eqb (aref_of e) (aref_of e) refl) at m in
              omega (arith, positive (holding ms (aref_of e) day.0) (short r day.0 ms) day.3)

          fails : (p : ℕ → Bool) (s n k : ℕ) → s ≤ k → k < s + n → p k ≡ false → each_day p s n ≡ false
          fails p s n k lo hi q = out (each_day p s n) refl
            where
              out : (b : Bool) → each_day p s n ≡ b → b ≡ false
              out false e' = refl
              out true e' = absurd (false≢true (sym q ∙ each_true p s n e' k lo hi))

-- visits to others leave what is aside of a as it was
pub aside_unvisited : (R : Rules) (t : ℕ) (r : Request) (a : ℕ) (ds : List Entry) → AllByRecursion (λ e. (aref_of e ≡ r.aref → ⊥) × (a ≡ aref_of e → ⊥)) ds → (ls : List Line) → NeverBelowZero ls →
    (k : ℕ) → balance (visits (giving R t r) ds ls) (aside a r.aref) k ≡ balance ls (aside a r.aref) k
unfolding visits
aside_unvisited R t r a [] h ls fine k = refl
aside_unvisited R t r a (d ∷ ds) h ls fine k = go (λ (xs : List Line) (f : NeverBelowZero xs). aside_unvisited R t r a ds h.1 xs f k) (is_pending d.standing.state)
  where
    go : ((xs : List Line) → NeverBelowZero xs → balance (visits (giving R t r) ds xs) (aside a r.aref) k ≡ balance xs (aside a r.aref) k) →
        (p : Bool) → balance (visits (giving R t r) ds (cond p ls (give R t r d ls))) (aside a r.aref) k ≡ balance ls (aside a r.aref) k
    go ih true = ih ls fine
    go ih false = ih (give R t r d ls) (later_give r R t d h.0.0 ls fine).solvent ∙ aside_stays R t r d ls fine a (inl h.0.1) k
