-- The first place that passes a test.
use Rattle.std.specs.Prelude.{ℕ, suc, Bool, cond, List, [], ◌∷◌, Some, None, Option}
use Rattle.law.specs.View.{Entry}

abbrev pub one_further : Option ℕ → Option ℕ
one_further None = None
one_further (Some i) = Some (suc i)

-- its index from 0, none where no place passes
abbrev pub first_place : (Entry → Bool) → List Entry → Option ℕ
first_place p [] = None
first_place p (e ∷ es) = cond (p e) (Some 0) (one_further (first_place p es))
