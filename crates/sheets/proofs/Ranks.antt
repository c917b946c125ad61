-- Tuples compared by `<` decide as criteria do: the first difference decides.
use Rattle.std.proofs.Common.{◌≡◌, ℕ, Bool, true, false, ◌&&◌, ◌||◌, not, List, [], ◌∷◌, map, Option, Some, None, Ordering, Less, Equal, Greater, refl, arith}
use Rattle.std.specs.Bool.{◌==◌}
use Rattle.std.specs.Prelude.{nat_lt, fold}
use Rattle.std.specs.Ordering.{is_lt, is_some_and, partial_ordering_then, nat_cmp, bool_cmp}
use Rattle.std.proofs.lemmas.Bool.Decides.{nat_tests}
use Rattle.terms.specs.declared.request.Standing.{Standing}
use Rattle.sheets.specs.Turn.{Criterion, lower, higher, first_in, bit}

-- how two records compare by a criterion
abbrev pub compared : Standing → Standing → Criterion → Option Ordering
compared a b (lower f) = Some (nat_cmp (f a) (f b))
compared a b (higher f) = Some (nat_cmp (f b) (f a))

-- and how they compare by a tuple of them, as the library's tuples do
abbrev pub in_tuple : List (Option Ordering) → Option Ordering
in_tuple os = fold partial_ordering_then (Some Equal) os

-- a tuple compares its first criterion and then the rest
first_then : (p : Option Ordering) (os : List (Option Ordering)) → fold partial_ordering_then p os ≡ partial_ordering_then p (in_tuple os)
first_then None [] = refl
first_then (Some Less) [] = refl
first_then (Some Equal) [] = refl
first_then (Some Greater) [] = refl
first_then None (o ∷ os) = first_then None os
first_then (Some Less) (o ∷ os) = first_then (Some Less) os
first_then (Some Equal) (o ∷ os) = refl
first_then (Some Greater) (o ∷ os) = first_then (Some Greater) os

by_lower : (x y : ℕ) (rest : Option Ordering) →
    is_some_and is_lt (partial_ordering_then (Some (nat_cmp x y)) rest) ≡ (nat_lt x y || (x == y && is_some_and is_lt rest))
by_lower x y rest = grind (arith, nat_tests)

by_higher : (x y : ℕ) (rest : Option Ordering) →
    is_some_and is_lt (partial_ordering_then (Some (nat_cmp y x)) rest) ≡ (nat_lt y x || (x == y && is_some_and is_lt rest))
by_higher x y rest = grind (arith, nat_tests)

-- the lower tuple is that of the record that the criteria put first
pub first_by_tuple : (cs : List Criterion) (a b : Standing) → is_some_and is_lt (in_tuple (map (compared a b) cs)) ≡ first_in cs a b
first_by_tuple [] a b = refl
first_by_tuple (lower f ∷ cs) a b =
    rw (first_then (Some (nat_cmp (f a) (f b))) (map (compared a b) cs))
    (rw (by_lower (f a) (f b) (in_tuple (map (compared a b) cs)))
    (rw (first_by_tuple cs a b) refl))
first_by_tuple (higher f ∷ cs) a b =
    rw (first_then (Some (nat_cmp (f b) (f a))) (map (compared a b) cs))
    (rw (by_higher (f a) (f b) (in_tuple (map (compared a b) cs)))
    (rw (first_by_tuple cs a b) refl))

-- marks compare as the numbers that they stand for
pub marks_compare : (a b : Bool) → bool_cmp a b ≡ nat_cmp (bit a) (bit b)
marks_compare false false = refl
marks_compare false true = refl
marks_compare true false = refl
marks_compare true true = refl

pub marks_compare_back : (a b : Bool) → bool_cmp (not a) (not b) ≡ nat_cmp (bit b) (bit a)
marks_compare_back false false = refl
marks_compare_back false true = refl
marks_compare_back true false = refl
marks_compare_back true true = refl
