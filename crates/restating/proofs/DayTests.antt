-- Tests of each day of a term, as loops make them.
use Rattle.std.proofs.Common.{◌≡◌, ℕ, zero, suc, ◌+◌, Bool, true, false, cond, ◌&&◌, eqb, ◌⊎◌, sym, refl, ap, ◌∙◌, inl, inr, arith}
use Rattle.std.proofs.lemmas.Bool.{ne_eqb, and_right, cases_Bool}
use Rattle.law.specs.Posting.{each_day, busy_days}

with_true : (b : Bool) → (b && true) ≡ b
with_true true = refl
with_true false = refl

-- the last day apart
each_last : (p : ℕ → Bool) (s n : ℕ) → each_day p s (suc n) ≡ (each_day p s n && p (s + n))
unfolding each_day
each_last p s zero = let e : s + 0 ≡ s = omega arith in rw e (with_true (p s))
each_last p s (suc n) = ap (λ (b : Bool). p s && b) (each_last p (suc s) n) ∙ (let e : suc s + n ≡ s + suc n = omega arith in rw e (sym (assoc (p s) (each_day p (suc s) n) (p (s + suc n)))))
  where
    assoc : (a b c : Bool) → ((a && b) && c) ≡ (a && (b && c))
    assoc true b c = refl
    assoc false b c = refl

-- where no day is counted, each day has nothing
pub none_busy : (f : ℕ → ℕ) (s n : ℕ) → eqb (busy_days f s n) 0 ≡ each_day (λ day. eqb (f day) 0) s n
unfolding busy_days each_day
none_busy f s zero = refl
none_busy f s (suc n) = go (none_busy f s n) (cases_Bool (eqb (f (s + n)) 0)) ∙ sym (each_last (λ day. eqb (f day) 0) s n)
  where
    busier : (m : ℕ) → eqb (m + 1) 0 ≡ false
    busier m = ne_eqb (m + 1) 0 (λ (z : m + 1 ≡ 0). omega arith)

    go : eqb (busy_days f s n) 0 ≡ each_day (λ day. eqb (f day) 0) s n → (eqb (f (s + n)) 0 ≡ true) ⊎ (eqb (f (s + n)) 0 ≡ false) → eqb (busy_days f s n + cond (eqb (f (s + n)) 0) 0 1) 0 ≡ (each_day (λ day. eqb (f day) 0) s n && eqb (f (s + n)) 0)
    go ih (inl q) = let e : busy_days f s n + 0 ≡ busy_days f s n = omega arith in rw q (ap (λ (m : ℕ). eqb m 0) e ∙ (ih ∙ sym (with_true (each_day (λ day. eqb (f day) 0) s n))))
    go ih (inr q) = rw q (busier (busy_days f s n) ∙ sym (and_right (each_day (λ day. eqb (f day) 0) s n) false refl))
