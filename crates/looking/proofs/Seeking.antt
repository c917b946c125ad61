-- What a chain over the places finds is what the rules find of their entries.
use Rattle.std.proofs.Common.{◌≡◌, ℕ, suc, ◌+◌, Bool, true, false, cond, ◌||◌, ltb, List, [], ◌∷◌, map, length, Some, None, Option, position, ◌<◌, ◌≤◌, ◌⊎◌, inl, inr, refl, ap, ◌∙◌, arith}
use Rattle.std.specs.List.{list_any, position_or_len}
use Rattle.std.proofs.lemmas.Bool.{cases_lt, lt-ltb, le-ltb}
use Rattle.law.specs.View.{Entry}
use Rattle.law.specs.Places.{some}
use Rattle.desk.specs.declared.record.Record.{Record}
use Rattle.desk.specs.Records.{entry_of}
use Rattle.looking.specs.FirstPlace.{one_further, first_place}

-- an index that may be below a length, and both one further
both_further : (n m : ℕ) → cond {A = Option ℕ} (ltb (1 + n) (suc m)) (Some (1 + n)) None ≡ one_further (cond (ltb n m) (Some n) None)
both_further n m = go (cases_lt n m)
  where
    go : (n < m) ⊎ (m ≤ n) → cond {A = Option ℕ} (ltb (1 + n) (suc m)) (Some (1 + n)) None ≡ one_further (cond (ltb n m) (Some n) None)
    go (inl below) = rw (lt-ltb n m below, lt-ltb (1 + n) (suc m) (omega arith)) (ap (λ k. Some k) (omega arith))
    go (inr past) = rw (le-ltb n m past, le-ltb (1 + n) (suc m) (omega arith)) refl

-- the first place of a list whose first element is x
position_more : {X : Type 0} (q : X → Bool) (x : X) (xs : List X) → position q (x ∷ xs) ≡ cond (q x) (Some 0) (one_further (position q xs))
position_more q x xs = go (q x) refl
  where
    go : (b : Bool) → q x ≡ b → position q (x ∷ xs) ≡ cond (q x) (Some 0) (one_further (position q xs))
    go true e = rw (e, lt-ltb 0 (suc (length xs)) (omega arith)) refl
    go false e = rw e (both_further (position_or_len q xs) (length xs))

module _ (p : Entry → Bool) where
  pub some_by_records : (places : List Record) → list_any (λ r. p (entry_of r)) places ≡ some p (map entry_of places)
  unfolding some
  some_by_records [] = refl
  some_by_records (r ∷ rs) = ap (λ b. p (entry_of r) || b) (some_by_records rs)

  pub first_by_records : (places : List Record) → position (λ r. p (entry_of r)) places ≡ first_place p (map entry_of places)
  first_by_records [] = refl
  first_by_records (r ∷ rs) = position_more (λ x. p (entry_of x)) r rs ∙ ap (λ o. cond (p (entry_of r)) (Some 0) (one_further o)) (first_by_records rs)
