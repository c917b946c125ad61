-- The earliest of some items: taken from the front or from the back, it is the same.
use Rattle.std.proofs.Common.{◌≡◌, true, false, cond, ◌⊎◌, List, [], ◌∷◌, refl, ap, ◌∙◌, inl, inr, arith}
use Rattle.std.proofs.lemmas.Bool.{cases_Bool, cond-true, cond-false}
use Rattle.std.proofs.lemmas.Bool.Decides.{nat_tests}
use Rattle.law.specs.View.{Entry}
use Rattle.law.specs.Calls.{sooner, earliest}

-- the one, unless the other is sooner
abbrev pub sooner_of : Entry → Entry → Entry
sooner_of d e = cond (sooner e d) e d

in_line : (a b c : Entry) → sooner a b ≡ true → sooner b c ≡ true → sooner a c ≡ true
in_line a b c p q = grind (arith, nat_tests)

not_in_line : (a b c : Entry) → sooner a b ≡ false → sooner b c ≡ false → sooner a c ≡ false
not_in_line a b c p q = grind (arith, nat_tests)

-- of three items it does not matter which two are compared first
regroup : (a b c : Entry) → sooner_of (sooner_of a b) c ≡ sooner_of a (sooner_of b c)
regroup a b c = go (cases_Bool (sooner b a)) (cases_Bool (sooner c b))
  where
    go : (sooner b a ≡ true) ⊎ (sooner b a ≡ false) → (sooner c b ≡ true) ⊎ (sooner c b ≡ false) → sooner_of (sooner_of a b) c ≡ sooner_of a (sooner_of b c)
    go (inl p) (inl q) = rw (cond-true (sooner b a) b a p, cond-true (sooner c b) c b q, cond-true (sooner c a) c a (in_line c b a q p)) refl
    go (inl p) (inr q) = rw (cond-true (sooner b a) b a p, cond-false (sooner c b) c b q, cond-true (sooner b a) b a p) refl
    go (inr p) (inl q) = rw (cond-false (sooner b a) b a p, cond-true (sooner c b) c b q) refl
    go (inr p) (inr q) = rw (cond-false (sooner b a) b a p, cond-false (sooner c b) c b q, cond-false (sooner b a) b a p, cond-false (sooner c a) c a (not_in_line c b a q p)) refl

pub earliest_after : (a b : Entry) (es : List Entry) → earliest (sooner_of a b) es ≡ sooner_of a (earliest b es)
unfolding earliest
earliest_after a b [] = refl
earliest_after a b (c ∷ es) = ap (λ (x : Entry). earliest x es) (regroup a b c) ∙ earliest_after a (sooner_of b c) es
