-- A loop that adds up a number of each element.
use Rattle.std.proofs.Common.{◌≡◌, ℕ, ◌+◌, ◌<◌, ◌≤◌, List, length, get_or, take, sum_by, arith}
use Rattle.std.proofs.lemmas.List.Sums.{sum_by_more, sum_by-take-le}

module _ {X : Type 0} (f : X → ℕ) (xs : List X) (i : ℕ) (d : X) (so_far one : ℕ) (here : i < length xs) (sum : so_far ≡ sum_by f (take i xs)) (next : one ≡ f (get_or xs i d)) where
  pub sum_more : so_far + one ≡ sum_by f (take (i + 1) xs)
  sum_more = omega (arith, sum_by_more f xs i d here)

  pub sum_stays_below : so_far + one ≤ sum_by f xs
  sum_stays_below = let m = sum_more in omega (arith, sum_by-take-le f xs (i + 1))
