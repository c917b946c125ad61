-- The sums over a book's records are the sums over the journal's accounts.
use Rattle.std.proofs.Common.{◌≡◌, ℕ, suc, ◌+◌, ◌*◌, ◌<◌, ◌≤◌, Bool, true, false, cond, ◌&&◌, eqb, ◌⊎◌, List, [], ◌∷◌, sym, refl, ap, ◌∙◌, inl, inr, arith}
use Rattle.std.specs.List.{AllByRecursion}
use Rattle.std.proofs.ByRecursion.{All-weaker}
use Rattle.std.proofs.lemmas.Bool.{eq-eqb, ne_eqb, cases_eq, cases_lt, cases_Bool, cond-false}
use Rattle.journal.specs.declared.line.Line.{Line}
use Rattle.journal.specs.Accounts.{held, aside, balance, brought, NeverBelowZero, NamesBelow, sum_below, held_below, aside_below}
use Rattle.journal.proofs.Sums.{sum_below_add, sum_below_alike, sum_below_zero, sum_below_point, sum_below_only, some_below}
use Rattle.journal.proofs.Conservation.{none_lost}
use Rattle.law.specs.View.{Entry, View, aref_of, is, living, find, count, posted_on}
use Rattle.terms.specs.Words.{is_challenged}
use Rattle.law.specs.Keeps.{Kept, InTerm, AcceptedBy}
use Rattle.law.specs.Sums.{held_in, aside_in, FourSums, SameSums}
use Rattle.law.proofs.Finds.{find_count, all_found}

-- the sum over the living records of a function of their AREF
over_living : List Entry → (ℕ → ℕ) → ℕ
over_living [] f = 0
over_living (e ∷ es) f = cond (living e) (f (aref_of e)) 0 + over_living es f

sum_at_one : (n x : ℕ) (f : ℕ → ℕ) → x < n → sum_below n (λ a. cond (eqb x a) (f a) 0) ≡ f x
sum_at_one n x f h = sum_below_alike n _ (λ a. cond (eqb a x) (f x) 0) (λ a. go a (cases_eq x a)) ∙ sum_below_point n x (f x) h
  where
    go : (a : ℕ) → (x ≡ a) ⊎ (x ≡ a → ⊥) → cond (eqb x a) (f a) 0 ≡ cond (eqb a x) (f x) 0
    go a (inl e) = rw (eq-eqb x a e, eq-eqb a x (sym e)) (ap f (sym e))
    go a (inr ne) = rw (ne_eqb x a ne, ne_eqb a x (λ (q : a ≡ x). ne (sym q))) refl

one_record : (n : ℕ) (e : Entry) (f : ℕ → ℕ) → aref_of e < n → sum_below n (λ a. cond (is a e) (f a) 0) ≡ cond (living e) (f (aref_of e)) 0
one_record n e f h = go (living e)
  where
    go : (c : Bool) → sum_below n (λ a. cond (c && eqb (aref_of e) a) (f a) 0) ≡ cond c (f (aref_of e)) 0
    go true = sum_at_one n (aref_of e) f h
    go false = sum_below_zero n

by_count : (n : ℕ) (es : List Entry) (f : ℕ → ℕ) → AllByRecursion (λ e. aref_of e < n) es → over_living es f ≡ sum_below n (λ a. count a es * f a)
unfolding over_living count
by_count n [] f h = sym (sum_below_alike n _ (λ a. 0) (λ a. omega arith) ∙ sum_below_zero n)
by_count n (e ∷ es) f h =
    let ih = by_count n es f h.1 in
    let s = sum_below_add n (λ a. cond (is a e) (f a) 0) (λ a. count a es * f a) in
    let o = one_record n e f h.0 in
    let x = sum_below_alike n (λ a. (cond (is a e) 1 0 + count a es) * f a) (λ a. cond (is a e) (f a) 0 + count a es * f a) (λ a. times a (is a e)) in
    omega arith
  where
    times : (a : ℕ) (c : Bool) → (cond c 1 0 + count a es) * f a ≡ cond c (f a) 0 + count a es * f a
    times a true = omega arith
    times a false = omega arith

-- where each AREF lives at most once, and only living AREFs count, the sum over records is the sum over AREFs
over_all : (n : ℕ) (es : List Entry) (f : ℕ → ℕ) → AllByRecursion (λ e. aref_of e < n) es → ((a : ℕ) → count a es ≤ 1) → ((a : ℕ) → 0 < f a → 0 < count a es) → over_living es f ≡ sum_below n f
over_all n es f h o p = by_count n es f h ∙ sum_below_alike n _ f (λ a. go a (cases_lt 0 (f a)))
  where
    go : (a : ℕ) → (0 < f a) ⊎ (f a ≤ 0) → count a es * f a ≡ f a
    go a (inl q) = let c : count a es ≡ 1 = omega (arith, o a, p a q) in rw c (omega arith)
    go a (inr q) = let c : f a ≡ 0 = omega arith in rw c (omega arith)

held_over : (es : List Entry) (ls : List Line) (day : ℕ) → held_in es ls day ≡ over_living es (λ a. balance ls (held a) day)
unfolding over_living
held_over [] ls day = refl
held_over (e ∷ es) ls day = ap (λ x. cond (living e) (balance ls (held (aref_of e)) day) 0 + x) (held_over es ls day)

-- what the sums rest on
pub record Accounted (v : View) : Type 0 where
  pub solvent : NeverBelowZero v.lines
  pub named : NamesBelow (suc v.top) v.lines
  pub posted : (day : ℕ) → brought v.lines day ≡ posted_on v.days day
  pub holders : (a day : ℕ) → 0 < balance v.lines (held a) day → InTerm (find a v.places) day
  pub challenged : (a b day : ℕ) → 0 < balance v.lines (aside a b) day →
      InTerm (find a v.places) day × (is_challenged (find a v.places).standing.state ≡ true) × ((find a v.places).against ≡ b)
  pub once : (a : ℕ) → count a v.places ≤ 1
  pub accepted : AllByRecursion (AcceptedBy v.top) v.places

pub accounted_kept : (v : View) → Kept v → Accounted v
accounted_kept v K = record { solvent = K.solvent; named = K.named; posted = K.posted; holders = K.holders; challenged = K.challenged; once = K.once; accepted = K.accepted }

module _ (v : View) (K : Accounted v) (day : ℕ) where
  -- of a living record only what is aside for its own challenger counts
  aside_one : (e : Entry) → (living e ≡ true → find (aref_of e) v.places ≡ e) → e.against ≤ v.top →
      cond (living e) (balance v.lines (aside (aref_of e) e.against) day) 0 ≡ cond (living e) (sum_below (suc v.top) (λ b. balance v.lines (aside (aref_of e) b) day)) 0
  aside_one e found h = go (cases_Bool (living e))
    where
      other : living e ≡ true → (b : ℕ) → (b ≡ e.against → ⊥) → balance v.lines (aside (aref_of e) b) day ≡ 0
      other l b ne = elsewhere (cases_lt 0 (balance v.lines (aside (aref_of e) b) day))
        where
          elsewhere : (0 < balance v.lines (aside (aref_of e) b) day) ⊎ (balance v.lines (aside (aref_of e) b) day ≤ 0) → balance v.lines (aside (aref_of e) b) day ≡ 0
          elsewhere (inl p) = absurd (ne (sym (K.challenged (aref_of e) b day p).2 ∙ ap (λ x. x.against) (found l)))
          elsewhere (inr p) = omega arith

      go : (living e ≡ true) ⊎ (living e ≡ false) → cond (living e) (balance v.lines (aside (aref_of e) e.against) day) 0 ≡ cond (living e) (sum_below (suc v.top) (λ b. balance v.lines (aside (aref_of e) b) day)) 0
      go (inl l) = ap (λ x. cond (living e) x 0) (sym (sum_below_only (suc v.top) e.against (λ b. balance v.lines (aside (aref_of e) b) day) (omega arith) (other l)))
      go (inr l) = cond-false _ _ _ l ∙ sym (cond-false _ _ _ l)

  aside_over : (es : List Entry) → AllByRecursion (λ e. living e ≡ true → find (aref_of e) v.places ≡ e) es → AllByRecursion (AcceptedBy v.top) es →
      aside_in es v.lines day ≡ over_living es (λ a. sum_below (suc v.top) (λ b. balance v.lines (aside a b) day))
  unfolding over_living
  aside_over [] F h = refl
  aside_over (e ∷ es) F h = let a = aside_one e F.0 h.0.1 in let b = aside_over es F.1 h.1 in omega arith

  low : AllByRecursion (λ e. aref_of e < suc v.top) v.places
  low = All-weaker _ _ (λ e q. omega arith) v.places K.accepted

  held_same : held_in v.places v.lines day ≡ held_below (suc v.top) v.lines day
  held_same = held_over v.places v.lines day ∙ over_all (suc v.top) v.places (λ a. balance v.lines (held a) day) low K.once (λ a q. find_count a v.places (K.holders a day q).0)

  aside_same : aside_in v.places v.lines day ≡ aside_below (suc v.top) v.lines day
  aside_same = aside_over v.places (all_found v.places K.once) K.accepted
      ∙ over_all (suc v.top) v.places (λ a. sum_below (suc v.top) (λ b. balance v.lines (aside a b) day)) low K.once
      (λ a q. let w = some_below (suc v.top) (λ b. balance v.lines (aside a b) day) q in find_count a v.places (K.challenged a w.0 day w.1).0.0)

  pub four_sums : FourSums v day
  four_sums = let t = none_lost (suc v.top) day v.lines K.solvent K.named ∙ K.posted day in
      let h = held_same in let s = aside_same in
      record { holdings = h; asides = s; whole = omega arith }

pub same_sums : SameSums
same_sums v K = four_sums v (accounted_kept v K)
