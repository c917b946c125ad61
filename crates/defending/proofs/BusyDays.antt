-- On how many days there is something.
use Rattle.std.proofs.Common.{◌≡◌, ℕ, zero, suc, ◌+◌, ◌<◌, ◌≤◌, Bool, true, false, cond, eqb, ltb, ◌⊎◌, List, [], ◌∷◌, length, get_or, take, count_by, sym, refl, ap, ◌∙◌, subst, inl, inr, add-one, arith}
use Rattle.std.proofs.lemmas.Bool.{lt-ltb, le-ltb, eq-eqb, ne_eqb, eqb-true, eqb-false, cases_eq, cases_lt, cases_Bool}
use Rattle.std.proofs.lemmas.List.{get_or-take, length-take-le}
use Rattle.std.proofs.lemmas.List.Sums.{sum_by-cons}
use Rattle.law.specs.Posting.{each_day, busy_days}
use Rattle.law.proofs.ShrinkingShortage.{each_true, each_false}

pub busy_more : (f : ℕ → ℕ) (s n : ℕ) → busy_days f s (n + 1) ≡ busy_days f s n + cond (eqb (f (s + n)) 0) 0 1
unfolding busy_days
busy_more f s n = ap (busy_days f s) (add-one n)

-- one day more with something on it, or with nothing
pub busy_yes : (f : ℕ → ℕ) (s n : ℕ) → 0 < f (s + n) → busy_days f s (n + 1) ≡ busy_days f s n + 1
busy_yes f s n h = busy_more f s n ∙ ap (λ b. busy_days f s n + cond b 0 1) (ne_eqb (f (s + n)) 0 (λ (e : f (s + n) ≡ 0). omega arith))

pub busy_no : (f : ℕ → ℕ) (s n : ℕ) → f (s + n) ≤ 0 → busy_days f s (n + 1) ≡ busy_days f s n
busy_no f s n h = let e = ap (λ b. busy_days f s n + cond b 0 1) (eq-eqb (f (s + n)) 0 (omega arith)) in busy_more f s n ∙ (e ∙ omega arith)

pub busy_few : (f : ℕ → ℕ) (s n : ℕ) → busy_days f s n ≤ n
unfolding busy_days
busy_few f s zero = omega arith
busy_few f s (suc n) = go (busy_few f s n) (eqb (f (s + n)) 0)
  where
    go : busy_days f s n ≤ n → (b : Bool) → busy_days f s n + cond b 0 1 ≤ suc n
    go h true = omega arith
    go h false = omega arith

-- days on which there is the same, counted from different days on
pub busy_shift : (f g : ℕ → ℕ) (s t n : ℕ) → ((k : ℕ) → k < n → f (s + k) ≡ g (t + k)) → busy_days f s n ≡ busy_days g t n
unfolding busy_days
busy_shift f g s t zero h = refl
busy_shift f g s t (suc n) h = rw (busy_shift f g s t n (λ k l. h k (omega arith)), h n (omega arith))

pub busy_none : (f : ℕ → ℕ) (s n : ℕ) → ((k : ℕ) → s ≤ k → k < s + n → f k ≡ 0) → busy_days f s n ≡ 0
unfolding busy_days
busy_none f s zero h = refl
busy_none f s (suc n) h = rw (busy_none f s n (λ k lo hi. h k lo (omega arith)), h (s + n) (omega arith) (omega arith))

-- a day with something on it
pub busy_some : (f : ℕ → ℕ) (s n k : ℕ) → s ≤ k → k < s + n → 0 < f k → 0 < busy_days f s n
unfolding busy_days
busy_some f s zero k lo hi h = absurd (let z : ⊥ = omega arith in z)
busy_some f s (suc n) k lo hi h = go (λ l. busy_some f s n k lo l h) (cases_eq (s + n) k)
  where
    go : (k < s + n → 0 < busy_days f s n) → (s + n ≡ k) ⊎ (s + n ≡ k → ⊥) → 0 < busy_days f s n + cond (eqb (f (s + n)) 0) 0 1
    go before (inl e) = let p : 0 < f (s + n) = subst (λ i. 0 < f i) (sym e) h in rw (ne_eqb (f (s + n)) 0 (λ (q : f (s + n) ≡ 0). omega arith)) (omega arith)
    go before (inr e) = let b = before (omega arith) in omega arith

-- no day is busy exactly where each day has nothing
pub busy_nowhere : (f : ℕ → ℕ) (p : ℕ → Bool) → ((k : ℕ) → p k ≡ eqb (f k) 0) → (s n : ℕ) → each_day p s n ≡ eqb (busy_days f s n) 0
busy_nowhere f p same s n = go (cases_Bool (each_day p s n))
  where
    go : (each_day p s n ≡ true) ⊎ (each_day p s n ≡ false) → each_day p s n ≡ eqb (busy_days f s n) 0
    go (inl e) = e ∙ sym (eq-eqb _ 0 (busy_none f s n (λ k lo hi. eqb-true (f k) 0 (sym (same k) ∙ each_true p s n e k lo hi))))
    go (inr e) =
        let w = each_false p s n e in
        let some : 0 < f w.0 = positive (f w.0) (eqb-false (f w.0) 0 (sym (same w.0) ∙ w.3)) in
        let busy = busy_some f s n w.0 w.1 w.2 some in
        e ∙ sym (ne_eqb (busy_days f s n) 0 (λ (q : busy_days f s n ≡ 0). omega arith))
      where
        positive : (m : ℕ) → (m ≡ 0 → ⊥) → 0 < m
        positive m h = grind arith

busy_split : (f : ℕ → ℕ) (s m n : ℕ) → busy_days f s (m + n) ≡ busy_days f s m + busy_days f (s + m) n
unfolding busy_days
busy_split f s m zero = let e : m + 0 ≡ m = omega arith in ap (busy_days f s) e ∙ omega arith
busy_split f s m (suc n) =
    let e : m + suc n ≡ suc (m + n) = omega arith in
    let i : s + (m + n) ≡ s + m + n = omega arith in
    ap (busy_days f s) e ∙ (ap (λ k. busy_days f s (m + n) + cond (eqb (f k) 0) 0 1) i ∙ sums _ _ _ _ (busy_split f s m n))
  where
    sums : (x y z c : ℕ) → x ≡ y + z → x + c ≡ y + (z + c)
    sums x y z c h = omega arith

-- the first day, and the rest
pub busy_front : (f : ℕ → ℕ) (s n : ℕ) → busy_days f s (suc n) ≡ cond (eqb (f s) 0) 0 1 + busy_days f (suc s) n
unfolding busy_days
busy_front f s n =
    let e : suc n ≡ 1 + n = omega arith in
    let z : s + 0 ≡ s = omega arith in
    let o : s + 1 ≡ suc s = omega arith in
    ap (busy_days f s) e ∙ (busy_split f s 1 n ∙ (ap (λ k. 0 + cond (eqb (f k) 0) 0 1 + busy_days f (s + 1) n) z ∙ (ap (λ k. 0 + cond (eqb (f s) 0) 0 1 + busy_days f k n) o ∙ omega arith)))

one_day : (mw : ℕ) → ◌≡◌ {A = ℕ} (cond (ltb 0 mw) 1 0) (cond (eqb mw 0) 0 1)
one_day mw = go (cases_lt 0 mw)
  where
    go : (0 < mw) ⊎ (mw ≤ 0) → ◌≡◌ {A = ℕ} (cond (ltb 0 mw) 1 0) (cond (eqb mw 0) 0 1)
    go (inl some) = rw (lt-ltb 0 mw some, ne_eqb mw 0 (λ (e : mw ≡ 0). omega arith)) refl
    go (inr none) = rw (le-ltb 0 mw none, eq-eqb mw 0 (omega arith)) refl

-- of amounts by day, those above 0
pub busy_amounts : (amounts : List ℕ) → count_by (λ mw. ltb 0 mw) amounts ≡ busy_days (λ k. get_or amounts k 0) 0 (length amounts)
unfolding busy_days
busy_amounts [] = refl
busy_amounts (mw ∷ later) =
    let n = length later in
    let first = one_day mw in
    let rest = busy_shift (λ k. get_or (mw ∷ later) k 0) (λ k. get_or later k 0) (suc 0) 0 n (λ k h. let e : suc 0 + k ≡ suc (0 + k) = omega arith in ap (λ i. get_or (mw ∷ later) i 0) e) in
    omega (arith, sum_by-cons (λ x. cond (ltb 0 x) 1 0) mw later, first, busy_amounts later, rest, busy_front (λ k. get_or (mw ∷ later) k 0) 0 n)

-- of the first n amounts
pub busy_first : (amounts : List ℕ) (n : ℕ) → n ≤ length amounts → busy_days (λ k. get_or (take n amounts) k 0) 0 (length (take n amounts)) ≡ busy_days (λ k. get_or amounts k 0) 0 n
busy_first amounts n h =
    ap (busy_days (λ k. get_or (take n amounts) k 0) 0) (length-take-le n amounts h)
    ∙ busy_shift _ _ 0 0 n (λ k l. get_or-take n amounts (0 + k) 0 (omega arith))

-- days outside of which there is nothing, among more days
busy_among : (f : ℕ → ℕ) (s n rest : ℕ) → ((k : ℕ) → 0 < f k → (s ≤ k) × (k < s + n)) → busy_days f 0 (s + n + rest) ≡ busy_days f s n
busy_among f s n rest h =
    let a = busy_split f 0 (s + n) rest in
    let b = busy_split f 0 s n in
    let none_before = busy_none f 0 s (λ k lo hi. none k (inl (omega arith))) in
    let none_after = busy_none f (0 + (s + n)) rest (λ k lo hi. none k (inr (omega arith))) in
    let z : busy_days f (0 + s) n ≡ busy_days f s n = ap (λ i. busy_days f i n) (let e : 0 + s ≡ s = omega arith in e) in
    omega arith
  where
    none : (k : ℕ) → (k < s) ⊎ (s + n ≤ k) → f k ≡ 0
    none k o = go (cases_lt 0 (f k)) o
      where
        go : (0 < f k) ⊎ (f k ≤ 0) → (k < s) ⊎ (s + n ≤ k) → f k ≡ 0
        go (inl p) (inl q) = let w = h k p in let z : ⊥ = omega (arith, w.0) in absurd z
        go (inl p) (inr q) = let w = h k p in let z : ⊥ = omega (arith, w.1) in absurd z
        go (inr p) q = omega arith

-- of two spans outside of which there is nothing, each has as many busy days
pub busy_both : (f : ℕ → ℕ) (s n t m : ℕ) → ((k : ℕ) → 0 < f k → (s ≤ k) × (k < s + n)) → ((k : ℕ) → 0 < f k → (t ≤ k) × (k < t + m)) → busy_days f s n ≡ busy_days f t m
busy_both f s n t m h g =
    let e : s + n + (t + m) ≡ t + m + (s + n) = omega arith in
    sym (busy_among f s n (t + m) h) ∙ (ap (busy_days f 0) e ∙ busy_among f t m (s + n) g)
