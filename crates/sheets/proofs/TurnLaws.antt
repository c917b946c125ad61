-- Turn by criteria keeps the laws of turn, whatever a sheet's own criteria are.
use Rattle.std.proofs.Common.{◌≡◌, true, not, ◌≢◌, List, [], ◌∷◌, ◌++◌, arith}
use Rattle.std.proofs.lemmas.Bool.Decides.{nat_tests}
use Rattle.terms.specs.declared.request.Standing.{Standing}
use Rattle.terms.specs.declared.words.State.TheVariants.{Confirmed}
use Rattle.terms.specs.Words.{is_pending}
use Rattle.sheets.specs.Turn.{Criterion, lower, higher, first_in, turn_by, later_first, pending_of}

pub first_in_transitive : (cs : List Criterion) (a b c : Standing) → first_in cs a b ≡ true → first_in cs b c ≡ true → first_in cs a c ≡ true
first_in_transitive [] a b c p q = p
first_in_transitive (lower f ∷ cs) a b c p q = let rest = first_in_transitive cs a b c in grind (arith, nat_tests)
first_in_transitive (higher f ∷ cs) a b c p q = let rest = first_in_transitive cs a b c in grind (arith, nat_tests)

-- where the last criteria tell two records apart, exactly one of the two is first
pub exactly_one_first : (cs ds : List Criterion) (a b : Standing) → first_in ds a b ≡ not (first_in ds b a) →
    first_in (cs ++ ds) a b ≡ not (first_in (cs ++ ds) b a)
exactly_one_first [] ds a b h = h
exactly_one_first (lower f ∷ cs) ds a b h = let rest = exactly_one_first cs ds a b h in grind (arith, nat_tests)
exactly_one_first (higher f ∷ cs) ds a b h = let rest = exactly_one_first cs ds a b h in grind (arith, nat_tests)

pub one_later : (a b : Standing) → a.request.aref ≢ b.request.aref → first_in later_first a b ≡ not (first_in later_first b a)
one_later a b apart = grind (arith, nat_tests)

pub turn_one_first : (own : List Criterion) (a b : Standing) → a.request.aref ≢ b.request.aref → turn_by own a b ≡ not (turn_by own b a)
turn_one_first own a b apart = exactly_one_first (higher pending_of ∷ own) later_first a b (one_later a b apart)

pub turn_in_line : (own : List Criterion) (a b c : Standing) → turn_by own a b ≡ true → turn_by own b c ≡ true → turn_by own a c ≡ true
turn_in_line own = first_in_transitive (higher pending_of ∷ (own ++ later_first))

pub turn_pending_first : (own : List Criterion) (a b : Standing) → is_pending a.state ≡ true → b.state ≡ Confirmed → turn_by own a b ≡ true
turn_pending_first own a b p q = grind (arith, nat_tests)
