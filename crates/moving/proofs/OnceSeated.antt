-- Living records keep different AREFs when one of them is written anew.
use Rattle.std.proofs.Common.{◌≡◌, ℕ, zero, suc, ◌+◌, ◌<◌, ◌≤◌, Bool, true, false, cond, eqb, ◌⊎◌, List, [], ◌∷◌, length, get_or, set, sym, ap, ◌∙◌, inl, inr, arith}
use Rattle.std.proofs.lemmas.Bool.{cases_Bool, and_parts, and_from, eqb-true}
use Rattle.law.specs.View.{Entry, aref_of, is, living, count, nobody}

pub count_set : (a : ℕ) (es : List Entry) (i : ℕ) (x : Entry) → i < length es → count a (set es i x) + cond (is a (get_or es i nobody)) 1 0 ≡ count a es + cond (is a x) 1 0
unfolding count
count_set a [] i x h = omega arith
count_set a (e ∷ es) zero x h = omega arith
count_set a (e ∷ es) (suc i) x h = omega (arith, count_set a es i x (omega arith))

at_most_one : (b : Bool) → cond b 1 0 ≤ 1
at_most_one true = omega arith
at_most_one false = omega arith

-- the same record with other terms, or gone
pub once_restated : (es : List Entry) (i : ℕ) (x : Entry) → i < length es → ((a : ℕ) → count a es ≤ 1) →
    (living x ≡ true → (living (get_or es i nobody) ≡ true) × (aref_of x ≡ aref_of (get_or es i nobody))) → (a : ℕ) → count a (set es i x) ≤ 1
once_restated es i x h once same a = go (cases_Bool (is a x))
  where
    go : (is a x ≡ true) ⊎ (is a x ≡ false) → count a (set es i x) ≤ 1
    go (inl q) =
        let w = and_parts (living x) (eqb (aref_of x) a) q in
        let s = same w.0 in
        let y : is a (get_or es i nobody) ≡ true = and_from (living (get_or es i nobody)) _ s.0 (ap (λ (n : ℕ). eqb n a) (sym s.1) ∙ w.1) in
        let c = count_set a es i x h in
        let c' = rw (y, q) at c in
        omega (arith, once a)
    go (inr q) = let c = count_set a es i x h in let c' = rw q at c in omega (arith, once a)

-- a new AREF
pub once_entered : (es : List Entry) (i : ℕ) (x : Entry) → i < length es → ((a : ℕ) → count a es ≤ 1) → count (aref_of x) es ≡ 0 → (a : ℕ) → count a (set es i x) ≤ 1
once_entered es i x h once none a = go (cases_Bool (is a x))
  where
    go : (is a x ≡ true) ⊎ (is a x ≡ false) → count a (set es i x) ≤ 1
    go (inl q) =
        let e = eqb-true (aref_of x) a (and_parts (living x) (eqb (aref_of x) a) q).1 in
        let n : count a es ≡ 0 = ap (λ (k : ℕ). count k es) (sym e) ∙ none in
        let c = count_set a es i x h in let c' = rw q at c in omega arith
    go (inr q) = let c = count_set a es i x h in let c' = rw q at c in omega (arith, once a)
