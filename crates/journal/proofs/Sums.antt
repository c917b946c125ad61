-- Sums over the numbers below a bound.
use Rattle.std.proofs.Common.{◌≡◌, ℕ, zero, suc, ◌+◌, ◌<◌, ◌≤◌, Bool, true, false, cond, ◌&&◌, eqb, ◌⊎◌, refl, ap, ◌∙◌, inl, inr, arith}
use mathlib.Core.Path.{fun_ext}
use Rattle.std.proofs.lemmas.Bool.{eq-eqb, ne_eqb, cases_eq, cases_lt}
use Rattle.journal.specs.Accounts.{sum_below}

pub sum_below_add : (n : ℕ) (f g : ℕ → ℕ) → sum_below n (λ a. f a + g a) ≡ sum_below n f + sum_below n g
unfolding sum_below
sum_below_add zero f g = refl
sum_below_add (suc n) f g = let h = sum_below_add n f g in omega arith

pub sum_below_alike : (n : ℕ) (f g : ℕ → ℕ) → ((a : ℕ) → f a ≡ g a) → sum_below n f ≡ sum_below n g
sum_below_alike n f g h = ap (sum_below n) (fun_ext h)

pub sum_below_zero : (n : ℕ) → sum_below n (λ a. 0) ≡ 0
unfolding sum_below
sum_below_zero zero = refl
sum_below_zero (suc n) = let h = sum_below_zero n in omega arith

-- a sum with one place that is not zero
pub sum_below_past : (n x m : ℕ) → n ≤ x → sum_below n (λ a. cond (eqb a x) m 0) ≡ 0
unfolding sum_below
sum_below_past zero x m h = refl
sum_below_past (suc n) x m h =
    let ih = sum_below_past n x m (omega arith) in
    let e : eqb n x ≡ false = ne_eqb n x (λ (q : n ≡ x). omega arith) in
    rw e (omega arith)

pub sum_below_point : (n x m : ℕ) → x < n → sum_below n (λ a. cond (eqb a x) m 0) ≡ m
unfolding sum_below
sum_below_point zero x m h = omega arith
sum_below_point (suc n) x m h = go (λ (l : x < n). sum_below_point n x m l) (cases_eq n x)
  where
    go : (x < n → sum_below n (λ a. cond (eqb a x) m 0) ≡ m) → (n ≡ x) ⊎ (n ≡ x → ⊥) → sum_below n (λ a. cond (eqb a x) m 0) + cond (eqb n x) m 0 ≡ m
    go ih (inl e) = rw (eq-eqb n x e) (omega (arith, sum_below_past n x m (omega arith)))
    go ih (inr ne) = let q : x < n = omega arith in rw (ne_eqb n x ne) (omega (arith, ih q))

cond_and : (p t : Bool) (m : ℕ) → cond (p && t) m 0 ≡ cond p (cond t m 0) 0
cond_and true t m = refl
cond_and false t m = refl

pub sum_below_both : (n x m : ℕ) (t : Bool) → x < n → sum_below n (λ b. cond (eqb b x && t) m 0) ≡ cond t m 0
sum_below_both n x m t h = sum_below_alike n _ (λ b. cond (eqb b x) (cond t m 0) 0) (λ b. cond_and (eqb b x) t m) ∙ sum_below_point n x (cond t m 0) h

-- only the place x counts
pub sum_below_only : (n x : ℕ) (f : ℕ → ℕ) → x < n → ((b : ℕ) → (b ≡ x → ⊥) → f b ≡ 0) → sum_below n f ≡ f x
sum_below_only n x f h z = sum_below_alike n f (λ b. cond (eqb b x) (f x) 0) (λ b. go b (cases_eq b x)) ∙ sum_below_point n x (f x) h
  where
    go : (b : ℕ) → (b ≡ x) ⊎ (b ≡ x → ⊥) → f b ≡ cond (eqb b x) (f x) 0
    go b (inl e) = rw (eq-eqb b x e) (ap f e)
    go b (inr ne) = rw (ne_eqb b x ne) (z b ne)

-- a sum that is not zero has a part that is not
pub some_below : (n : ℕ) (f : ℕ → ℕ) → 0 < sum_below n f → (b : ℕ) × (0 < f b)
unfolding sum_below
some_below zero f h = let z : ⊥ = omega arith in absurd z
some_below (suc n) f h = go (λ (q : 0 < sum_below n f). some_below n f q) (cases_lt 0 (f n))
  where
    go : (0 < sum_below n f → (b : ℕ) × (0 < f b)) → (0 < f n) ⊎ (f n ≤ 0) → (b : ℕ) × (0 < f b)
    go ih (inl q) = (n, q)
    go ih (inr q) = ih (omega arith)
