-- The entries of a shelf, gone through in the order in which they come off.
use Rattle.std.proofs.Common.{◌≡◌, ℕ, ◌-◌, List, [], ◌∷◌, Iter, map, sum_by, arith}
use Rattle.std.specs.List.{AllByRecursion, fold}
use Rattle.std.proofs.lemmas.List.Sums.{sum_by-cons}
use Rattle.std.proofs.lemmas.Iterator.{YieldsList}
use Rattle.std.specs.Iterator.Adapters.{rev_steps}
use Rattle.std.specs.Slice.Iter.{iter_steps_back}
use Rattle.std.specs.declared.iter.Rev.{Rev}

-- a walk over the slots from the last to the first gives the entries in that order
abbrev pub GoesThrough : {X : Type 0} → List X → Rev (Iter X) → Type 0
GoesThrough xs walk = YieldsList (rev_steps iter_steps_back) (λ x. x.now) walk xs

-- what is left once each entry's part is taken in turn
pub taken_in_turn : {X : Type 0} (f g : X → ℕ) (xs : List X) → AllByRecursion (λ x. g x ≡ f x) xs → (n : ℕ) → fold (λ a b. a - b) n (map g xs) ≡ n - sum_by f xs
taken_in_turn f g [] h n = omega arith
taken_in_turn f g (x ∷ xs) h n = omega (arith, taken_in_turn f g xs h.1 (n - g x), h.0, sum_by-cons f x xs)
