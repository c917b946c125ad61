-- Whoever holds MW stands in the places, and holds them in its term; what is set aside is set aside of a challenged record for its challenger.
use Rattle.std.proofs.Common.{◌≡◌, ℕ, ◌+◌, ◌<◌, ◌≤◌, Bool, true, false, cond, eqb, ◌⊎◌, List, map, sym, refl, ap, ◌∙◌, subst, inl, inr}
use Rattle.std.proofs.lemmas.Bool.{eq-eqb, ne_eqb, eqb-true, cases_eq, cases_Bool, and_parts, and_from, and_right, false≢true, cond-true, cond-false}
use Rattle.terms.specs.declared.words.State.{State}
use Rattle.terms.specs.declared.words.State.TheVariants.{Confirmed, Accepted, Offered, Competing, Challenged, Gone}
use Rattle.terms.specs.Words.{is_pending, is_confirmed, is_challenged, is_competing}
use Rattle.journal.specs.declared.line.Line.{Line}
use Rattle.journal.specs.Accounts.{aside, balance}
use Rattle.law.specs.View.{Entry, aref_of, start_of, length_of, is, living, find, count}
use Rattle.law.specs.Places.{change}
use Rattle.law.specs.Posting.{holding}
use Rattle.law.proofs.Holders.{Supp, supp_into}
use Rattle.law.proofs.Finds.{Tame, find-map, find_aref}

abbrev pub Holding : Entry → ℕ → Type 0
Holding e k = (living e ≡ true) × (start_of e ≤ k) × (k < start_of e + length_of e)

abbrev pub Siding : Entry → ℕ → ℕ → Type 0
Siding e b k = Holding e k × (is_challenged e.standing.state ≡ true) × (e.against ≡ b)

abbrev pub Facing : Entry → ℕ → Type 0
Facing e k = Holding e k × (is_competing e.standing.state ≡ true)

abbrev pub Within : List Entry → ℕ → ℕ → Type 0
Within es a k = Holding (find a es) k

abbrev pub Apart : List Entry → ℕ → ℕ → ℕ → Type 0
Apart es a b k = Siding (find a es) b k × Facing (find b es) k

pub record Whole (ls : List Line) (es : List Entry) : Type 0 where
  pub supp : Supp (Within es) (Apart es) ls
  pub once : (a : ℕ) → count a es ≤ 1

-- a change of places under lines that stand
pub supp_map : (H : ℕ → ℕ → Type 0) (A : ℕ → ℕ → ℕ → Type 0) (g : Entry → Entry) → Tame g → (es : List Entry) (ls : List Line) →
    ((c k : ℕ) → 0 < holding ls c k → H c k → (living (find c es) ≡ true) × Holding (g (find c es)) k) →
    ((a b k : ℕ) → 0 < balance ls (aside a b) k → A a b k → (living (find a es) ≡ true) × (living (find b es) ≡ true) × (Siding (g (find a es)) b k × Facing (g (find b es)) k)) →
    Supp H A ls → Supp (Within (map g es)) (Apart (map g es)) ls
supp_map H A g T es ls h s p = supp_into H (Within (map g es)) A (Apart (map g es)) ls
    (λ c k q w. let u = h c k q w in subst (λ e. Holding e k) (sym (find-map g T c es u.0 u.1.0)) u.1)
    (λ a b k q w. let u = s a b k q w in (
      subst (λ e. Siding e b k) (sym (find-map g T a es u.0 u.2.0.0.0)) u.2.0,
      subst (λ e. Facing e k) (sym (find-map g T b es u.1 u.2.1.0.0)) u.2.1,
    )) p

pub tame_change : (a : ℕ) (f : Entry → Entry) → ((e : Entry) → is a e ≡ true → aref_of (f e) ≡ a) → Tame (λ e. cond (is a e) (f e) e)
tame_change a f h = record { same_aref = λ e. one e (is a e) refl; stays_gone = λ e l. two e l (cases_Bool (is a e)) }
  where
    one : (e : Entry) (c : Bool) → is a e ≡ c → aref_of (cond c (f e) e) ≡ aref_of e
    one e true q = h e q ∙ sym (eqb-true (aref_of e) a (and_parts (living e) (eqb (aref_of e) a) q).1)
    one e false q = refl

    two : (e : Entry) → living e ≡ false → (is a e ≡ true) ⊎ (is a e ≡ false) → living (cond (is a e) (f e) e) ≡ false
    two e l (inl q) = absurd (false≢true (sym l ∙ (and_parts (living e) (eqb (aref_of e) a) q).0))
    two e l (inr q) = rw (cond-false (is a e) (f e) e q) l

-- is a (find c es): a is c
pub is_find : (a c : ℕ) (es : List Entry) → living (find c es) ≡ true → (a ≡ c → ⊥) → is a (find c es) ≡ false
is_find a c es l ne = and_right (living (find c es)) _ (ne_eqb (aref_of (find c es)) a (λ (q : aref_of (find c es) ≡ a). ne (sym q ∙ find_aref c es l)))

pub is_found : (a : ℕ) (es : List Entry) → living (find a es) ≡ true → is a (find a es) ≡ true
is_found a es l = and_from (living (find a es)) _ l (eq-eqb (aref_of (find a es)) a (find_aref a es l))

-- one record changes: others do not notice
module _ (H : ℕ → ℕ → Type 0) (A : ℕ → ℕ → ℕ → Type 0) (a₀ : ℕ) (f : Entry → Entry) (t : (e : Entry) → is a₀ e ≡ true → aref_of (f e) ≡ a₀) (es : List Entry) (ls : List Line) where
  pub supp_change : ((k : ℕ) → 0 < holding ls a₀ k → H a₀ k → (living (find a₀ es) ≡ true) × Holding (f (find a₀ es)) k) →
      ((c k : ℕ) → (a₀ ≡ c → ⊥) → H c k → Within es c k) →
      ((a b k : ℕ) → 0 < balance ls (aside a b) k → A a b k → Apart es a b k × (a₀ ≡ a → ⊥) × (a₀ ≡ b → ⊥)) →
      Supp H A ls → Supp (Within (change a₀ f es)) (Apart (change a₀ f es)) ls
  supp_change own rest sides p = supp_map H A _ (tame_change a₀ f t) es ls
      (λ c k q w. hold c k q w (cases_eq a₀ c))
      (λ a b k q w. let u = sides a b k q w in (
        u.0.0.0.0,
        u.0.1.0.0,
        (
          subst (λ e. Siding e b k) (sym (cond-false (is a₀ (find a es)) (f (find a es)) (find a es) (is_find a₀ a es u.0.0.0.0 u.1))) u.0.0,
          subst (λ e. Facing e k) (sym (cond-false (is a₀ (find b es)) (f (find b es)) (find b es) (is_find a₀ b es u.0.1.0.0 u.2))) u.0.1,
        ),
      )) p
    where
      hold : (c k : ℕ) → 0 < holding ls c k → H c k → (a₀ ≡ c) ⊎ (a₀ ≡ c → ⊥) → (living (find c es) ≡ true) × Holding (cond (is a₀ (find c es)) (f (find c es)) (find c es)) k
      hold c k q w (inl e) = subst (λ x. (living (find x es) ≡ true) × Holding (cond (is a₀ (find x es)) (f (find x es)) (find x es)) k) e
          (let u = own k (subst (λ x. 0 < holding ls x k) (sym e) q) (subst (λ x. H x k) (sym e) w) in
          (u.0, subst (λ x. Holding x k) (sym (cond-true (is a₀ (find a₀ es)) (f (find a₀ es)) (find a₀ es) (is_found a₀ es u.0))) u.1))
      hold c k q w (inr ne) = let u = rest c k ne w in
          (u.0, subst (λ x. Holding x k) (sym (cond-false (is a₀ (find c es)) (f (find c es)) (find c es) (is_find a₀ c es u.0 ne))) u)

-- the kinds of state
pub not_both : (s : State) → (is_pending s ≡ true) ⊎ (is_confirmed s ≡ true) → (is_challenged s ≡ false) × (is_competing s ≡ false)
not_both Confirmed h = (refl, refl)
not_both Accepted h = (refl, refl)
not_both Offered h = (refl, refl)
not_both Competing (inl h) = absurd (false≢true h)
not_both Competing (inr h) = absurd (false≢true h)
not_both Challenged (inl h) = absurd (false≢true h)
not_both Challenged (inr h) = absurd (false≢true h)
not_both Gone h = (refl, refl)

pub not_competing : (s : State) → is_challenged s ≡ true → is_competing s ≡ false
not_competing Confirmed h = refl
not_competing Accepted h = refl
not_competing Offered h = refl
not_competing Competing h = absurd (false≢true h)
not_competing Challenged h = refl
not_competing Gone h = refl

-- a record that is pending or confirmed has no part in a match
pub plain : (es : List Entry) (a₀ : ℕ) → (is_pending (find a₀ es).standing.state ≡ true) ⊎ (is_confirmed (find a₀ es).standing.state ≡ true) → (a b k : ℕ) → Apart es a b k → Apart es a b k × (a₀ ≡ a → ⊥) × (a₀ ≡ b → ⊥)
plain es a₀ h a b k w =
    let n = not_both (find a₀ es).standing.state h in
    (w, (λ e. false≢true (sym n.0 ∙ (ap (λ x. is_challenged (find x es).standing.state) e ∙ w.0.1))), (λ e. false≢true (sym n.1 ∙ (ap (λ x. is_competing (find x es).standing.state) e ∙ w.1.1))))
