-- Who stands in the places after a change.
use Rattle.std.proofs.Common.{◌≡◌, ℕ, zero, suc, ◌+◌, ◌<◌, ◌≤◌, Bool, true, false, cond, eqb, ◌⊎◌, List, [], ◌∷◌, map, replicate, refl, ap, ◌∙◌, inl, inr, arith}
use Rattle.std.specs.List.{AllByRecursion}
use Rattle.std.proofs.ByRecursion.{All-weaker}
use Rattle.std.proofs.lemmas.Bool.{eq-eqb, ne_eqb, eqb-true, cases_Bool, and_parts, and_left, and_right, and_from, false≢true, not-true, and_cases, cond-true, cond-false}
use Rattle.terms.specs.Words.{is_gone}
use Rattle.law.specs.View.{Entry, aref_of, is, living, find, nobody, count}
use Rattle.law.specs.Places.{seat, some}

-- a change of places that moves no AREF and brings nobody back to life
pub record Tame (g : Entry → Entry) : Type 0 where
  pub same_aref : (e : Entry) → aref_of (g e) ≡ aref_of e
  pub stays_gone : (e : Entry) → living e ≡ false → living (g e) ≡ false

is_not : (g : Entry → Entry) → Tame g → (a : ℕ) (e : Entry) → is a e ≡ false → is a (g e) ≡ false
is_not g T a e h = go (and_cases (living e) (eqb (aref_of e) a) h)
  where
    go : (living e ≡ false) ⊎ (eqb (aref_of e) a ≡ false) → is a (g e) ≡ false
    go (inl q) = and_left (living (g e)) (eqb (aref_of (g e)) a) (T.stays_gone e q)
    go (inr q) = and_right (living (g e)) (eqb (aref_of (g e)) a) (rw (T.same_aref e) q)

-- a living record that stays living is found where it was
pub find-map : (g : Entry → Entry) → Tame g → (a : ℕ) (es : List Entry) → living (find a es) ≡ true → living (g (find a es)) ≡ true → find a (map g es) ≡ g (find a es)
unfolding find
find-map g T a [] h l = absurd (false≢true h)
find-map g T a (e ∷ es) h l = go (λ (p : living (find a es) ≡ true) (q : living (g (find a es)) ≡ true). find-map g T a es p q) (cases_Bool (is a e))
  where
    go : (living (find a es) ≡ true → living (g (find a es)) ≡ true → find a (map g es) ≡ g (find a es)) → (is a e ≡ true) ⊎ (is a e ≡ false) → cond (is a (g e)) (g e) (find a (map g es)) ≡ g (cond (is a e) e (find a es))
    go ih (inl q) =
        let w = and_parts (living e) (eqb (aref_of e) a) q in
        let m : living (g e) ≡ true = rw q at l in
        let n : is a (g e) ≡ true = and_from (living (g e)) (eqb (aref_of (g e)) a) m (rw (T.same_aref e) w.1) in
        rw (q, n)
    go ih (inr q) =
        let n = is_not g T a e q in
        rw (q, n) (ih (rw q at h) (rw q at l))

pub find_aref : (a : ℕ) (es : List Entry) → living (find a es) ≡ true → aref_of (find a es) ≡ a
unfolding find
find_aref a [] h = absurd (false≢true h)
find_aref a (e ∷ es) h = go (λ (p : living (find a es) ≡ true). find_aref a es p) (cases_Bool (is a e))
  where
    go : (living (find a es) ≡ true → aref_of (find a es) ≡ a) → (is a e ≡ true) ⊎ (is a e ≡ false) → aref_of (cond (is a e) e (find a es)) ≡ a
    go ih (inl q) = rw q (eqb-true (aref_of e) a (and_parts (living e) (eqb (aref_of e) a) q).1)
    go ih (inr q) = rw q (ih (rw q at h))

pub count_map : (g : Entry → Entry) → Tame g → (a : ℕ) (es : List Entry) → count a (map g es) ≤ count a es
unfolding count
count_map g T a [] = omega arith
count_map g T a (e ∷ es) = go (count_map g T a es) (cases_Bool (is a e))
  where
    one : (c : Bool) → cond c 1 0 ≤ 1
    one true = omega arith
    one false = omega arith

    go : count a (map g es) ≤ count a es → (is a e ≡ true) ⊎ (is a e ≡ false) → cond (is a (g e)) 1 0 + count a (map g es) ≤ cond (is a e) 1 0 + count a es
    go ih (inl q) = let z = one (is a (g e)) in rw q (omega arith)
    go ih (inr q) = rw (q, is_not g T a e q) (omega arith)

-- nobody living of an AREF above all
pub count_none : (n a : ℕ) (es : List Entry) → n < a → AllByRecursion (λ e. (aref_of e ≤ n) × (e.against ≤ n)) es → count a es ≡ 0
unfolding count
count_none n a [] h l = refl
count_none n a (e ∷ es) h l =
    let q : is a e ≡ false = and_right (living e) (eqb (aref_of e) a) (ne_eqb (aref_of e) a (λ (z : aref_of e ≡ a). omega arith)) in
    rw q (omega (arith, count_none n a es h l.1))

pub find_count : (a : ℕ) (es : List Entry) → living (find a es) ≡ true → 0 < count a es
unfolding count find
find_count a [] h = absurd (false≢true h)
find_count a (e ∷ es) h = go (λ (p : living (find a es) ≡ true). find_count a es p) (cases_Bool (is a e))
  where
    go : (living (find a es) ≡ true → 0 < count a es) → (is a e ≡ true) ⊎ (is a e ≡ false) → 0 < cond (is a e) 1 0 + count a es
    go ih (inl q) = rw q (omega arith)
    go ih (inr q) = rw q (omega (arith, ih (rw q at h)))

module _ (x : Entry) where
  pub find-seat_other : (a : ℕ) (es : List Entry) → (aref_of x ≡ a → ⊥) → find a (seat x es) ≡ find a es
  unfolding find seat
  find-seat_other a [] ne = refl
  find-seat_other a (e ∷ es) ne = go (find-seat_other a es ne) (cases_Bool (living e))
    where
      no : is a x ≡ false
      no = and_right (living x) (eqb (aref_of x) a) (ne_eqb (aref_of x) a ne)

      go : find a (seat x es) ≡ find a es → (living e ≡ true) ⊎ (living e ≡ false) → find a (cond (living e) (e ∷ seat x es) (x ∷ es)) ≡ cond (is a e) e (find a es)
      go ih (inl q) = rw (cond-true (living e) (e ∷ seat x es) (x ∷ es) q) (ap (λ f. cond (is a e) e f) ih)
      go ih (inr q) = rw (cond-false (living e) (e ∷ seat x es) (x ∷ es) q, no, cond-false (is a e) e (find a es) (and_left (living e) (eqb (aref_of e) a) q)) refl

  pub find-seat : (es : List Entry) → living x ≡ true → some (λ e. is_gone e.standing.state) es ≡ true → count (aref_of x) es ≡ 0 → find (aref_of x) (seat x es) ≡ x
  unfolding find seat some count
  find-seat [] l s c = absurd (false≢true s)
  find-seat (e ∷ es) l s c = go (λ (p : some (λ e. is_gone e.standing.state) es ≡ true) (q : count (aref_of x) es ≡ 0). find-seat es l p q) (cases_Bool (living e)) (cases_Bool (is (aref_of x) e))
    where
      yes' : is (aref_of x) x ≡ true
      yes' = and_from (living x) (eqb (aref_of x) (aref_of x)) l (eq-eqb (aref_of x) (aref_of x) refl)

      go : (some (λ e. is_gone e.standing.state) es ≡ true → count (aref_of x) es ≡ 0 → find (aref_of x) (seat x es) ≡ x) → (living e ≡ true) ⊎ (living e ≡ false) → (is (aref_of x) e ≡ true) ⊎ (is (aref_of x) e ≡ false) → find (aref_of x) (cond (living e) (e ∷ seat x es) (x ∷ es)) ≡ x
      go ih (inl q) (inl w) = let z = rw w at c in let b : ⊥ = omega arith in absurd b
      go ih (inl q) (inr w) = rw (cond-true (living e) (e ∷ seat x es) (x ∷ es) q, w) (ih (rw (not-true (is_gone e.standing.state) q) at s) (let z = rw w at c in omega arith))
      go ih (inr q) w = rw (cond-false (living e) (e ∷ seat x es) (x ∷ es) q, yes') refl

  pub count-seat : (a : ℕ) (es : List Entry) → count a (seat x es) ≤ cond (is a x) 1 0 + count a es
  unfolding count seat
  count-seat a [] = omega arith
  count-seat a (e ∷ es) = go (count-seat a es) (cases_Bool (living e))
    where
      go : count a (seat x es) ≤ cond (is a x) 1 0 + count a es → (living e ≡ true) ⊎ (living e ≡ false) → count a (cond (living e) (e ∷ seat x es) (x ∷ es)) ≤ cond (is a x) 1 0 + (cond (is a e) 1 0 + count a es)
      go ih (inl q) = rw (cond-true (living e) (e ∷ seat x es) (x ∷ es) q) (omega arith)
      go ih (inr q) = rw (cond-false (living e) (e ∷ seat x es) (x ∷ es) q) (omega arith)

pub count-nobody : (a n : ℕ) → count a (replicate n nobody) ≡ 0
unfolding count
count-nobody a zero = refl
count-nobody a (suc n) = omega (arith, count-nobody a n)

-- each living record is the one found under its AREF
pub all_found : (es : List Entry) → ((a : ℕ) → count a es ≤ 1) → AllByRecursion (λ e. living e ≡ true → find (aref_of e) es ≡ e) es
unfolding find count
all_found [] o = tt
all_found (x ∷ xs) o = (
  (λ l. rw (and_from (living x) (eqb (aref_of x) (aref_of x)) l (eq-eqb (aref_of x) (aref_of x) refl)) refl),
  All-weaker _ _ (λ e h l. tail e (h l) l (cases_Bool (is (aref_of e) x))) xs (all_found xs (λ a. omega (arith, o a))),
)
  where
    tail : (e : Entry) → find (aref_of e) xs ≡ e → living e ≡ true → (is (aref_of e) x ≡ true) ⊎ (is (aref_of e) x ≡ false) → cond (is (aref_of e) x) x (find (aref_of e) xs) ≡ e
    tail e h l (inl q) =
        let c = find_count (aref_of e) xs (ap living h ∙ l) in
        let w = o (aref_of e) in let y = rw q at w in let b : ⊥ = omega arith in absurd b
    tail e h l (inr q) = rw q h
