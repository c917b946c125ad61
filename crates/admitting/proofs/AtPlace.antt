-- Where each AREF lives at most once, what is found and changed by AREF stands in one place.
use Rattle.std.proofs.Common.{◌≡◌, ℕ, zero, suc, ◌<◌, ◌≤◌, true, false, cond, ◌⊎◌, List, [], ◌∷◌, length, set, Some, None, Option, sym, refl, ap, subst, inl, inr, arith}
use Rattle.std.proofs.lemmas.Bool.{cases_Bool}
use Rattle.law.specs.View.{Entry, is, find, count, nobody}
use Rattle.law.specs.Places.{change}
use Rattle.looking.specs.FirstPlace.{one_further, first_place}
use Rattle.admitting.specs.Admission.{entry_at, Found}

pub some_count : (a i : ℕ) (es : List Entry) → i < length es → is a (entry_at es i) ≡ true → 0 < count a es
unfolding count
some_count a i [] h q = omega arith
some_count a zero (e ∷ es) h q = rw q (omega arith)
some_count a (suc i) (e ∷ es) h q = omega (arith, some_count a i es (omega arith) q)

pub none_changed : (a : ℕ) (f : Entry → Entry) (es : List Entry) → count a es ≤ 0 → change a f es ≡ es
unfolding count
none_changed a f [] z = refl
none_changed a f (e ∷ es) z = go (λ q. none_changed a f es q) (cases_Bool (is a e))
  where
    go : (count a es ≤ 0 → change a f es ≡ es) → (is a e ≡ true) ⊎ (is a e ≡ false) → change a f (e ∷ es) ≡ e ∷ es
    go ih (inl w) = let y = rw w at z in let b : ⊥ = omega arith in absurd b
    go ih (inr w) = rw w (ap (λ (y : List Entry). e ∷ y) (ih (omega arith)))

-- a change of the one living record of an AREF is a change of its place
pub change_at : (a i : ℕ) (f : Entry → Entry) (es : List Entry) → count a es ≤ 1 → i < length es → is a (entry_at es i) ≡ true → change a f es ≡ set es i (f (entry_at es i))
unfolding count
change_at a i f [] o h q = refl
change_at a zero f (e ∷ es) o h q = rw q (ap (λ (x : List Entry). f e ∷ x) (none_changed a f es (let w = rw q at o in omega arith)))
change_at a (suc i) f (e ∷ es) o h q = go (λ z. change_at a i f es z (omega arith) q) (cases_Bool (is a e))
  where
    go : (count a es ≤ 1 → change a f es ≡ set es i (f (entry_at es i))) → (is a e ≡ true) ⊎ (is a e ≡ false) → change a f (e ∷ es) ≡ e ∷ set es i (f (entry_at es i))
    go ih (inl w) = let y = rw w at o in let s = some_count a i es (omega arith) q in let b : ⊥ = omega arith in absurd b
    go ih (inr w) = rw w (ap (λ (y : List Entry). e ∷ y) (ih (omega arith)))

-- the living record of an AREF is found in its place
pub find_at : (a i : ℕ) (es : List Entry) → count a es ≤ 1 → i < length es → is a (entry_at es i) ≡ true → find a es ≡ entry_at es i
unfolding count find
find_at a i [] o h q = refl
find_at a zero (e ∷ es) o h q = rw q
find_at a (suc i) (e ∷ es) o h q = go (λ z. find_at a i es z (omega arith) q) (cases_Bool (is a e))
  where
    go : (count a es ≤ 1 → find a es ≡ entry_at es i) → (is a e ≡ true) ⊎ (is a e ≡ false) → cond (is a e) e (find a es) ≡ entry_at es i
    go ih (inl w) = let y = rw w at o in let s = some_count a i es (omega arith) q in let b : ⊥ = omega arith in absurd b
    go ih (inr w) = rw w (ih (omega arith))

-- what a look for an AREF says of the place that it answers, or of all where it answers none
abbrev pub Sought : List Entry → ℕ → Option ℕ → Type 0
Sought es a None = find a es ≡ nobody
Sought es a (Some i) = Found es a i

further : (e : Entry) (es : List Entry) (a : ℕ) → is a e ≡ false → (o : Option ℕ) → Sought es a o → Sought (e ∷ es) a (one_further o)
unfolding find
further e es a w None s = rw w s
further e es a w (Some i) s = record { within = omega (arith, s.within); stands = s.stands; found = rw w s.found }

pub sought : (a : ℕ) (es : List Entry) → Sought es a (first_place (is a) es)
unfolding find
sought a [] = refl
sought a (e ∷ es) = go (sought a es) (cases_Bool (is a e))
  where
    go : Sought es a (first_place (is a) es) → (is a e ≡ true) ⊎ (is a e ≡ false) → Sought (e ∷ es) a (cond (is a e) (Some 0) (one_further (first_place (is a) es)))
    go ih (inl w) = rw w (record { within = omega arith; stands = w; found = rw w })
    go ih (inr w) = rw w (further e es a w (first_place (is a) es) ih)

-- the place that a look for an AREF answers
pub found_there : (a i : ℕ) (es : List Entry) → Some i ≡ first_place (is a) es → Found es a i
found_there a i es q = subst (Sought es a) (sym q) (sought a es)

pub found_nowhere : (a : ℕ) (es : List Entry) → None ≡ first_place (is a) es → find a es ≡ nobody
found_nowhere a es q = subst (Sought es a) (sym q) (sought a es)
