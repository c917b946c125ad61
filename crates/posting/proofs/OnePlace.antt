-- Where each AREF lives at most once, two places of one living AREF are one place.
use Rattle.std.proofs.Common.{◌≡◌, ℕ, zero, suc, ◌<◌, ◌≤◌, true, List, [], ◌∷◌, length, get_or, refl, ap, arith}
use Rattle.law.specs.View.{Entry, is, count, nobody}

abbrev pub entry_at : List Entry → ℕ → Entry
entry_at es i = get_or es i nobody

some_count : (a i : ℕ) (es : List Entry) → i < length es → is a (entry_at es i) ≡ true → 0 < count a es
unfolding count
some_count a i [] h q = omega arith
some_count a zero (e ∷ es) h q = rw q (omega arith)
some_count a (suc i) (e ∷ es) h q = omega (arith, some_count a i es (omega arith) q)

pub one_place : (a i j : ℕ) (es : List Entry) → count a es ≤ 1 → i < length es → j < length es → is a (entry_at es i) ≡ true → is a (entry_at es j) ≡ true → i ≡ j
unfolding count
one_place a i j [] o h l p q = omega arith
one_place a zero zero (e ∷ es) o h l p q = refl
one_place a zero (suc j) (e ∷ es) o h l p q = let w = rw p at o in let s = some_count a j es (omega arith) q in let b : ⊥ = omega arith in absurd b
one_place a (suc i) zero (e ∷ es) o h l p q = let w = rw q at o in let s = some_count a i es (omega arith) p in let b : ⊥ = omega arith in absurd b
one_place a (suc i) (suc j) (e ∷ es) o h l p q = ap suc (one_place a i j es (omega arith) (omega arith) (omega arith) p q)
