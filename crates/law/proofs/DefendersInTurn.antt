-- The defenders in turn, and what each line of a preemption was taken from.
use Rattle.std.proofs.Common.{◌≡◌, ℕ, Bool, true, false, cond, ◌≢◌, ◌⊎◌, List, [], ◌∷◌, ◌++◌, filter, sym, refl, ap, ◌∙◌, subst, inl, inr}
use mathlib.Core.List.Memᴰ
use mathlib.Core.List.{Memᴰ}
use Rattle.std.specs.List.{AllByRecursion}
use Rattle.std.proofs.ByRecursion.{All-weaker}
use Rattle.std.proofs.lemmas.Bool.{cases_Bool, false≢true}
use Rattle.sheets.specs.Rules.{Rules}
use Rattle.sheets.specs.Laws.{Possible, Lawful}
use Rattle.shelf.specs.Order.{Total, put, InOrder}
use Rattle.shelf.proofs.Lines.{stays_in_order}
use Rattle.law.specs.View.{Entry, aref_of, is, living, find}
use Rattle.law.specs.Preemption.{gives_before, in_turn}
use Rattle.law.proofs.AllPlaces.{all_in_turn}

pub all_mem : (P : Entry → Type 0) (es : List Entry) (x : Entry) → AllByRecursion P es → Memᴰ x es → P x
all_mem P [] x h m = elim m [ ]
all_mem P (e ∷ es) x h m = go (λ (n : Memᴰ x es). all_mem P es x h.1 n) (Memᴰ.cases_cons m)
  where
    go : (Memᴰ x es → P x) → (x ≡ e) ⊎ Memᴰ x es → P x
    go ih (inl q) = subst P (sym q) h.0
    go ih (inr q) = ih q

-- in turn
abbrev pub Sorted : Rules → List Entry → Type 0
Sorted R ds = InOrder (gives_before R) ds

-- no two of one AREF
abbrev pub Different : List Entry → Type 0
Different [] = Unit {0}
Different (d ∷ ds) = AllByRecursion (λ e. aref_of d ≡ aref_of e → ⊥) ds × Different ds

-- records that can exist
abbrev pub Lasting : List Entry → Type 0
Lasting es = AllByRecursion (λ e. Possible e.standing.request) es

module _ (R : Rules) (L : Lawful R) where
  turn_total : Total aref_of (λ e. Possible e.standing.request) (gives_before R)
  turn_total = record {
    one_first = λ a b p q ne. L.one_first a.standing b.standing p q ne;
    in_line = λ a b c p q r. L.in_line a.standing b.standing c.standing p q r;
  }

  pub sorted_in_turn : (ds : List Entry) → Different ds → Lasting ds → Sorted R (in_turn R ds)
  unfolding in_turn
  sorted_in_turn [] h l = tt
  sorted_in_turn (d ∷ ds) h l =
      stays_in_order aref_of (λ e. Possible e.standing.request) (gives_before R) turn_total (in_turn R ds) d
      (all_in_turn (λ e. Possible e.standing.request) R ds l.1) l.0
      (all_in_turn (λ e. aref_of e ≢ aref_of d) R ds (All-weaker _ _ (λ e n q. n (sym q)) ds h.0))
      (sorted_in_turn ds h.1 l.1)

pub sorted_split : (R : Rules) (pre : List Entry) (d : Entry) (rest : List Entry) → Sorted R (pre ++ d ∷ rest) → AllByRecursion (λ e. R.gives_before d.standing e.standing ≡ true) rest
sorted_split R [] d rest s = s.0
sorted_split R (x ∷ pre) d rest s = sorted_split R pre d rest s.1

-- whoever stands in the places and passes stands among the defenders
put_in : (before : Entry → Entry → Bool) (d x : Entry) (es : List Entry) → (x ≡ d) ⊎ Memᴰ x es → Memᴰ x (put before es d)
put_in before d x [] (inl q) = Memᴰ.head q
put_in before d x [] (inr m) = elim m [ ]
put_in before d x (e ∷ es) w = go (λ (u : (x ≡ d) ⊎ Memᴰ x es). put_in before d x es u) w (before e d)
  where
    go : ((x ≡ d) ⊎ Memᴰ x es → Memᴰ x (put before es d)) → (x ≡ d) ⊎ Memᴰ x (e ∷ es) → (c : Bool) → Memᴰ x (cond c (e ∷ put before es d) (d ∷ e ∷ es))
    go ih (inl q) false = Memᴰ.head q
    go ih (inl q) true = Memᴰ.tail (ih (inl q))
    go ih (inr m) false = Memᴰ.tail m
    go ih (inr m) true = behind (Memᴰ.cases_cons m)
      where
        behind : (x ≡ e) ⊎ Memᴰ x es → Memᴰ x (e ∷ put before es d)
        behind (inl q) = Memᴰ.head q
        behind (inr n) = Memᴰ.tail (ih (inr n))

pub in_turn_in : (R : Rules) (x : Entry) (es : List Entry) → Memᴰ x es → Memᴰ x (in_turn R es)
unfolding in_turn
in_turn_in R x [] m = elim m [ ]
in_turn_in R x (e ∷ es) m = go (λ (n : Memᴰ x es). in_turn_in R x es n) (Memᴰ.cases_cons m)
  where
    go : (Memᴰ x es → Memᴰ x (in_turn R es)) → (x ≡ e) ⊎ Memᴰ x es → Memᴰ x (put (gives_before R) (in_turn R es) e)
    go ih (inl q) = put_in (gives_before R) e x (in_turn R es) (inl q)
    go ih (inr n) = put_in (gives_before R) e x (in_turn R es) (inr (ih n))

pub kept_in : (p : Entry → Bool) (x : Entry) (es : List Entry) → p x ≡ true → Memᴰ x es → Memᴰ x (filter p es)
kept_in p x [] h m = elim m [ ]
kept_in p x (e ∷ es) h m = go (λ (n : Memᴰ x es). kept_in p x es h n) (Memᴰ.cases_cons m) (p e) refl
  where
    go : (Memᴰ x es → Memᴰ x (filter p es)) → (x ≡ e) ⊎ Memᴰ x es → (c : Bool) → p e ≡ c → Memᴰ x (cond c (e ∷ filter p es) (filter p es))
    go ih (inl q) true u = Memᴰ.head q
    go ih (inl q) false u = absurd (false≢true (sym u ∙ (ap p (sym q) ∙ h)))
    go ih (inr n) true u = Memᴰ.tail (ih n)
    go ih (inr n) false u = ih n

pub find_in : (a : ℕ) (es : List Entry) → living (find a es) ≡ true → Memᴰ (find a es) es
unfolding find
find_in a [] h = absurd (false≢true h)
find_in a (e ∷ es) h = go (λ (l : living (find a es) ≡ true). find_in a es l) (cases_Bool (is a e))
  where
    go : (living (find a es) ≡ true → Memᴰ (find a es) es) → (is a e ≡ true) ⊎ (is a e ≡ false) → Memᴰ (cond (is a e) e (find a es)) (e ∷ es)
    go ih (inl q) = rw q (Memᴰ.head refl)
    go ih (inr q) = rw q (Memᴰ.tail (ih (rw q at h)))
