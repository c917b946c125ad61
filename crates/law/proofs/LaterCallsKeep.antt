-- The later calls keep the book whole.
use Rattle.std.proofs.Common.{◌≡◌, ℕ, ◌+◌, ◌-◌, ◌<◌, ◌≤◌, max, Bool, true, false, cond, not, eqb, ◌⊎◌, List, [], ◌∷◌, sym, refl, ap, ◌∙◌, subst, inl, inr, arith}
use Rattle.std.specs.List.{AllByRecursion}
use Rattle.std.proofs.lemmas.Bool.{eqb-true, cases_lt, and_parts, or_parts, false≢true}
use Rattle.law.specs.Calls
use Rattle.law.specs.Places
use Rattle.terms.specs.declared.request.Request.{Request}
use Rattle.terms.specs.declared.words.State.{State}
use Rattle.terms.specs.declared.words.State.TheVariants.{Confirmed, Offered, Gone}
use Rattle.terms.specs.Words.{is_pending, is_confirmed, is_challenged, is_gone, is_competing}
use Rattle.sheets.specs.Rules.{Rules}
use Rattle.sheets.specs.Raised.{raised}
use Rattle.journal.specs.declared.line.Line.{Line}
use Rattle.journal.specs.declared.line.LineKind.TheVariants.{Released, Flown, Lost, Kept, Extended, Ceded}
use Rattle.journal.specs.Accounts.{held, aside, balance, NeverBelowZero}
use Rattle.law.specs.View.{Entry, aref_of, start_of, length_of, is, living, find}
use Rattle.law.specs.Places.{change, some, in_state, due_at, leave}
use Rattle.law.specs.Posting.{by_day, holding}
use Rattle.law.specs.Calls.{release, fly, lose, keep, extend}
use Rattle.law.specs.Preemption.{empty}
use Rattle.law.proofs.PostingEffects.{from_post, less_post}
use Rattle.law.proofs.Holders.{Supp, supp_post, supp_into, days_ind, days_each}
use Rattle.law.proofs.Finds.{find_aref, count_map}
use Rattle.law.proofs.ShrinkingShortage.{each_true}
use Rattle.law.proofs.AllPlaces.{all_find}
use Rattle.law.proofs.HoldersInPlaces.{Whole, Within, Apart, Holding, supp_change, tame_change, plain, not_competing}

-- e is the living record of its AREF
abbrev pub Found : List Entry → Entry → Type 0
Found es e = (living e ≡ true) × (find (aref_of e) es ≡ e)

pub found_by : (a : ℕ) (es : List Entry) → living (find a es) ≡ true → Found es (find a es)
found_by a es l = (l, ap (λ x. find x es) (find_aref a es l))

pub none_false : (p : Entry → Bool) (es : List Entry) → some p es ≡ false → AllByRecursion (λ e. p e ≡ false) es
unfolding some
none_false p [] h = tt
none_false p (e ∷ es) h = let w = or_parts (p e) (some p es) h in (w.0, none_false p es w.1)

-- a test that each day passes, at a day that it should not
pub not_empty : (ls : List Line) (e : Entry) (k : ℕ) → empty ls e ≡ true → start_of e ≤ k → k < start_of e + length_of e → 0 < holding ls (aref_of e) k → ⊥
not_empty ls e k h lo hi p = let z = eqb-true _ 0 (each_true (λ j. eqb (holding ls (aref_of e) j) 0) (start_of e) (length_of e) h k lo hi) in omega arith

module _ (es : List Entry) (ls : List Line) (W : Whole ls es) where
  S : Supp (Within es) (Apart es) ls
  S = W.supp

  pub whole_confirm : (a : ℕ) → living (find a es) ≡ true → is_pending (find a es).standing.state ≡ true → Whole ls (change a Places.stand_confirmed es)
  whole_confirm a l p = record {
    supp = supp_change (Within es) (Apart es) a Places.stand_confirmed (λ e q. eqb-true (aref_of e) a (and_parts (living e) (eqb (aref_of e) a) q).1) es ls
        (λ k q w. (l, (refl, w.1, w.2))) (λ c k ne w. w) (λ b c k q w. plain es a (inl p) b c k w) S;
    once = λ c. omega (arith, W.once c, count_map _ (tame_change a Places.stand_confirmed (λ e q. eqb-true (aref_of e) a (and_parts (living e) (eqb (aref_of e) a) q).1)) c es);
  }

  -- all that e holds leaves it, and e is gone
  whole_leave : (e : Entry) (f : ℕ → List Line → List Line) → Found es e → (is_pending e.standing.state ≡ true) ⊎ (is_confirmed e.standing.state ≡ true) →
      ((k : ℕ) (ms : List Line) → Supp (Within es) (Apart es) ms → Supp (Within es) (Apart es) (f k ms)) →
      ((k : ℕ) (ms : List Line) → NeverBelowZero ms → holding (f k ms) (aref_of e) k ≡ 0) →
      ((j k : ℕ) (ms : List Line) → NeverBelowZero ms → holding (f k ms) (aref_of e) j ≤ holding ms (aref_of e) j) →
      Whole (by_day f (start_of e) (length_of e) ls) (change (aref_of e) leave es)
  whole_leave e f E st keeps zeroes lessens = record {
    supp = supp_change (Within es) (Apart es) (aref_of e) leave (λ x q. eqb-true (aref_of x) (aref_of e) (and_parts (living x) (eqb (aref_of x) (aref_of e)) q).1) es ms
        (λ k q w. let v = subst (λ x. Holding x k) E.1 w in let z = zero' k v.1 v.2 in let b : ⊥ = omega arith in absurd b)
        (λ c k ne w. w) (λ b c k q w. plain es (aref_of e) (subst (λ x. (is_pending x.standing.state ≡ true) ⊎ (is_confirmed x.standing.state ≡ true)) (sym E.1) st) b c k w) S';
    once = λ c. omega (arith, W.once c, count_map _ (tame_change (aref_of e) leave (λ x q. eqb-true (aref_of x) (aref_of e) (and_parts (living x) (eqb (aref_of x) (aref_of e)) q).1)) c es);
  }
    where
      ms : List Line
      ms = by_day f (start_of e) (length_of e) ls

      S' : Supp (Within es) (Apart es) (by_day f (start_of e) (length_of e) ls)
      S' = days_ind f (Supp (Within es) (Apart es)) (start_of e) (length_of e) (λ k ms lo hi p. keeps k ms p) ls S

      zero' : (k : ℕ) → start_of e ≤ k → k < start_of e + length_of e → holding (by_day f (start_of e) (length_of e) ls) (aref_of e) k ≡ 0
      zero' k lo hi = days_each f (Supp (Within es) (Apart es)) (λ j ms. holding ms (aref_of e) j ≡ 0) (start_of e) (length_of e) (λ k ms l h p. keeps k ms p) (λ k ms p. zeroes k ms p.solvent) (λ i j ms p z. omega (arith, lessens i j ms p.solvent)) ls S k lo hi

  pub whole_let_go : (t : ℕ) (e : Entry) → Found es e → is_pending e.standing.state ≡ true → Whole (by_day (release t (aref_of e)) (start_of e) (length_of e) ls) (change (aref_of e) leave es)
  whole_let_go t e E p = whole_leave e (release t (aref_of e)) E (inl p)
      (λ k ms s. supp_post (Within es) (Apart es) t Released (aref_of e) 0 k _ ms (omega arith) (λ _. tt) s)
      (λ k ms n. omega (arith, from_post ms n t Released (aref_of e) 0 k (holding ms (aref_of e) k) (omega arith) (omega arith) refl))
      (λ j k ms n. less_post ms n t Released (aref_of e) 0 k (holding ms (aref_of e) k) (omega arith) (held (aref_of e)) j (omega arith) refl)

  pub whole_flew : (t : ℕ) (e : Entry) → Found es e → is_confirmed e.standing.state ≡ true → Whole (by_day (fly t (aref_of e)) (start_of e) (length_of e) ls) (change (aref_of e) leave es)
  whole_flew t e E p = whole_leave e (fly t (aref_of e)) E (inr p)
      (λ k ms s. supp_post (Within es) (Apart es) t Flown (aref_of e) 0 k _ ms (omega arith) (λ _. tt) s)
      (λ k ms n. omega (arith, from_post ms n t Flown (aref_of e) 0 k (holding ms (aref_of e) k) (omega arith) (omega arith) refl))
      (λ j k ms n. less_post ms n t Flown (aref_of e) 0 k (holding ms (aref_of e) k) (omega arith) (held (aref_of e)) j (omega arith) refl)

  -- the last match closes
  pub whole_close : (R : Rules) (t b : ℕ) → Whole ls (Calls.close_if_last R t ls b es)
  whole_close R t b = go (Places.match_open es) refl
    where
      shape : (c : Bool) (x y : ℕ) (s : State) (e : Entry) (k : ℕ) → not (is_gone s) ≡ true → start_of e ≤ k → k < start_of e + length_of e → Holding (cond c (due_at x (in_state s e)) (due_at y (in_state s e))) k
      shape true x y s e k l lo hi = (l, lo, hi)
      shape false x y s e k l lo hi = (l, lo, hi)

      name : (c : Bool) (x y : ℕ) (s : State) (e : Entry) → aref_of (cond c (due_at x (in_state s e)) (due_at y (in_state s e))) ≡ aref_of e
      name true x y s e = refl
      name false x y s e = refl

      lives : (p q : Bool) → (q ≡ true → ⊥) → not (is_gone (cond p Confirmed (cond q Gone Offered))) ≡ true
      lives true q n = refl
      lives false true n = absurd (n refl)
      lives false false n = refl

      called : (e : Entry) → is b e ≡ true → aref_of (Calls.close R t ls e) ≡ b
      called e q = name (is_pending (Calls.closed_state ls e)) _ _ (Calls.closed_state ls e) e ∙ eqb-true (aref_of e) b (and_parts (living e) (eqb (aref_of e) b) q).1

      go : (c : Bool) → Places.match_open es ≡ c → Whole ls (cond c es (change b (Calls.close R t ls) es))
      go true q = W
      go false q = record {
        supp = supp_change (Within es) (Apart es) b (Calls.close R t ls) called es ls
            (λ k h w. let a = find_aref b es w.0 in (
              w.0,
              shape (is_pending (Calls.closed_state ls (find b es))) _ _ (Calls.closed_state ls (find b es)) (find b es) k
                  (lives _ (empty ls (find b es)) (λ m. not_empty ls (find b es) k m w.1 w.2 (subst (λ x. 0 < holding ls x k) (sym a) h))) w.1 w.2,
            ))
            (λ c k ne w. w)
            (λ a c k h w. absurd (false≢true (sym (all_find (λ x. is_challenged x.standing.state ≡ false) a es refl (none_false _ es q)) ∙ w.0.1)))
            S;
        once = λ c. omega (arith, W.once c, count_map _ (tame_change b (Calls.close R t ls) called) c es);
      }

module _ (R : Rules) (t : ℕ) (es : List Entry) (ls : List Line) (W : Whole ls es) (e : Entry) (E : Found es e) (C : is_challenged e.standing.state ≡ true) where
  a : ℕ
  a = aref_of e

  -- what is aside of e for its challenger is aside in its term
  aside_in : (ms : List Line) → Supp (Within es) (Apart es) ms → (k : ℕ) → 0 < balance ms (aside (aref_of e) e.against) k → (start_of e ≤ k) × (k < start_of e + length_of e)
  aside_in ms s k p = let v = subst (λ x. Holding x k) E.1 (s.asides (aref_of e) e.against k p).0.0 in (v.1, v.2)

  all_zero : (ms : List Line) → Supp (Within es) (Apart es) ms → ((k : ℕ) → start_of e ≤ k → k < start_of e + length_of e → balance ms (aside (aref_of e) e.against) k ≡ 0) → (k : ℕ) → balance ms (aside (aref_of e) e.against) k ≡ 0
  all_zero ms s z k = go (cases_lt 0 (balance ms (aside (aref_of e) e.against) k))
    where
      go : (0 < balance ms (aside (aref_of e) e.against) k) ⊎ (balance ms (aside (aref_of e) e.against) k ≤ 0) → balance ms (aside (aref_of e) e.against) k ≡ 0
      go (inl p) = let w = aside_in ms s k p in z k w.0 w.1
      go (inr p) = omega arith

  -- another match is of another record, and no challenger is e
  others : (c b k : ℕ) → Apart es c b k → (aref_of e ≡ c → e.against ≡ b → ⊥) → Apart es c b k × (aref_of e ≡ c → ⊥) × (aref_of e ≡ b → ⊥)
  others c b k w n = (
    w,
    (λ q. n q (sym (ap (λ x. x.against) E.1) ∙ (ap (λ x. (find x es).against) q ∙ w.0.2))),
    (λ q. false≢true (sym (not_competing e.standing.state C) ∙ (sym (ap (λ x. is_competing x.standing.state) E.1) ∙ (ap (λ x. is_competing (find x es).standing.state) q ∙ w.1.1)))),
  )

  abbrev lost : List Line
  lost = by_day (lose t (aref_of e) e.against) (start_of e) (length_of e) ls

  pub supp_lost : Supp (Within es) (Apart es) (by_day (lose t (aref_of e) e.against) (start_of e) (length_of e) ls)
  supp_lost = days_ind _ (Supp (Within es) (Apart es)) (start_of e) (length_of e) (λ k ms lo hi s. supp_post (Within es) (Apart es) t Lost (aref_of e) e.against k _ ms (omega arith) (λ q. (s.asides (aref_of e) e.against k q).1.0) s) ls W.supp

  pub lost_zero : (k : ℕ) → balance (by_day (lose t (aref_of e) e.against) (start_of e) (length_of e) ls) (aside (aref_of e) e.against) k ≡ 0
  lost_zero = all_zero _ supp_lost (λ k lo hi. days_each _ (Supp (Within es) (Apart es)) (λ j ms. balance ms (aside (aref_of e) e.against) j ≡ 0) (start_of e) (length_of e)
      (λ k ms lo hi s. supp_post (Within es) (Apart es) t Lost (aref_of e) e.against k _ ms (omega arith) (λ q. (s.asides (aref_of e) e.against k q).1.0) s)
      (λ k ms s. omega (arith, from_post ms s.solvent t Lost (aref_of e) e.against k (balance ms (aside (aref_of e) e.against) k) (omega arith) (omega arith) refl))
      (λ i j ms s z. omega (arith, less_post ms s.solvent t Lost (aref_of e) e.against j (balance ms (aside (aref_of e) e.against) j) (omega arith) (aside (aref_of e) e.against) i (omega arith) refl))
      ls W.supp k lo hi)

  abbrev stays : Entry → Entry
  stays d = due_at (Places.over_at d) (in_state (cond (empty (by_day (lose t (aref_of e) e.against) (start_of e) (length_of e) ls) e) Gone Confirmed) d)

  pub whole_declined : Whole (by_day (lose t (aref_of e) e.against) (start_of e) (length_of e) ls)
      (Calls.close_if_last R t (by_day (lose t (aref_of e) e.against) (start_of e) (length_of e) ls) e.against
      (change (aref_of e) (λ d. due_at (Places.over_at d) (in_state (cond (empty (by_day (lose t (aref_of e) e.against) (start_of e) (length_of e) ls) e) Gone Confirmed) d)) es))
  whole_declined = whole_close _ _ (record {
    supp = supp_change (Within es) (Apart es) (aref_of e) stays named es _
        (λ k h w. (w.0, (lives _ (λ m. let v = subst (λ x. Holding x k) E.1 w in not_empty _ e k m v.1 v.2 h), w.1, w.2)))
        (λ c k ne w. w)
        (λ c b k h w. others c b k w (λ q u. let z = lost_zero k in let y = subst (λ x. 0 < balance lost (aside x b) k) (sym q) h in let x = subst (λ x. 0 < balance lost (aside (aref_of e) x) k) (sym u) y in omega (arith, z, x)))
        supp_lost;
    once = λ c. omega (arith, W.once c, count_map (λ z. cond (is (aref_of e) z) (stays z) z) (tame_change (aref_of e) stays named) c es);
  }) R t e.against
    where
      lives : (q : Bool) → (q ≡ true → ⊥) → not (is_gone (cond q Gone Confirmed)) ≡ true
      lives true n = absurd (n refl)
      lives false n = refl

      named : (d : Entry) → is (aref_of e) d ≡ true → aref_of d ≡ aref_of e
      named d q = eqb-true (aref_of d) (aref_of e) (and_parts (living d) (eqb (aref_of d) (aref_of e)) q).1

  pub supp_kept : Supp (Within es) (Apart es) (by_day (keep t (aref_of e) e.against) (start_of e) (length_of e) ls)
  supp_kept = days_ind _ (Supp (Within es) (Apart es)) (start_of e) (length_of e) (λ k ms lo hi s. supp_post (Within es) (Apart es) t Kept (aref_of e) e.against k _ ms (omega arith) (λ q. (s.asides (aref_of e) e.against k q).0.0) s) ls W.supp

  pub kept_zero : (k : ℕ) → balance (by_day (keep t (aref_of e) e.against) (start_of e) (length_of e) ls) (aside (aref_of e) e.against) k ≡ 0
  kept_zero = all_zero _ supp_kept (λ k lo hi. days_each _ (Supp (Within es) (Apart es)) (λ j ms. balance ms (aside (aref_of e) e.against) j ≡ 0) (start_of e) (length_of e)
      (λ k ms lo hi s. supp_post (Within es) (Apart es) t Kept (aref_of e) e.against k _ ms (omega arith) (λ q. (s.asides (aref_of e) e.against k q).0.0) s)
      (λ k ms s. omega (arith, from_post ms s.solvent t Kept (aref_of e) e.against k (balance ms (aside (aref_of e) e.against) k) (omega arith) (omega arith) refl))
      (λ i j ms s z. omega (arith, less_post ms s.solvent t Kept (aref_of e) e.against j (balance ms (aside (aref_of e) e.against) j) (omega arith) (aside (aref_of e) e.against) i (omega arith) refl))
      ls W.supp k lo hi)

  module _ (x : ℕ) (c : Request) where
    abbrev H⁺ : ℕ → ℕ → Type 0
    H⁺ d k = Within es d k ⊎ ((aref_of e ≡ d) × (start_of e + length_of e ≤ k) × (k < start_of e + length_of e + (max (length_of e) c.length - length_of e)))

    abbrev A⁰ : ℕ → ℕ → ℕ → Type 0
    A⁰ d b k = Apart es d b k × (aref_of e ≡ d → e.against ≡ b → ⊥)

    supp_extended : Supp H⁺ A⁰ (by_day (extend t x (aref_of e) e.against) (start_of e + length_of e) (max (length_of e) c.length - length_of e) (by_day (keep t (aref_of e) e.against) (start_of e) (length_of e) ls))
    supp_extended = days_ind _ (Supp H⁺ A⁰) (start_of e + length_of e) (max (length_of e) c.length - length_of e)
        (λ k ms lo hi s. supp_post H⁺ A⁰ t Ceded e.against (aref_of e) k _ _ (omega arith) (λ _. inr (refl, lo, hi))
        (supp_post H⁺ A⁰ t Extended (aref_of e) e.against k _ ms (omega arith) (λ _. inr (refl, lo, hi)) s)) _
        (supp_into (Within es) H⁺ (Apart es) A⁰ _ (λ d k p w. inl w)
        (λ d b k p w. (w, (λ q u. let z = kept_zero k in let y = subst (λ y. 0 < balance (by_day (keep t (aref_of e) e.against) (start_of e) (length_of e) ls) (aside y b) k) (sym q) p in let v = subst (λ y. 0 < balance (by_day (keep t (aref_of e) e.against) (start_of e) (length_of e) ls) (aside (aref_of e) y) k) (sym u) y in omega (arith, z, v)))) supp_kept)

    abbrev taller : ℕ → Entry → Entry
    taller due' d = record { standing = record { request = raised c e.standing.request; state = Confirmed; queued = d.standing.queued }; due = due'; against = 0 }

    pub whole_matched : (due' : ℕ) → Whole (by_day (extend t x (aref_of e) e.against) (start_of e + length_of e) (max (length_of e) c.length - length_of e) (by_day (keep t (aref_of e) e.against) (start_of e) (length_of e) ls))
        (Calls.close_if_last R t (by_day (extend t x (aref_of e) e.against) (start_of e + length_of e) (max (length_of e) c.length - length_of e) (by_day (keep t (aref_of e) e.against) (start_of e) (length_of e) ls)) e.against
        (change (aref_of e) (λ d. record { standing = record { request = raised c e.standing.request; state = Confirmed; queued = d.standing.queued }; due = due'; against = 0 }) es))
    whole_matched due' = whole_close _ _ (record {
      supp = supp_change H⁺ A⁰ (aref_of e) (taller due') (λ d q. refl) es _ (λ k h w. own k w) (λ d k ne w. rest d k ne w) (λ d b k h w. others d b k w.0 w.1) supp_extended;
      once = λ d. omega (arith, W.once d, count_map (λ z. cond (is (aref_of e) z) (taller due' z) z) (tame_change (aref_of e) (taller due') (λ d q. refl)) d es);
    }) R t e.against
      where
        own : (k : ℕ) → Within es (aref_of e) k ⊎ ((aref_of e ≡ aref_of e) × (start_of e + length_of e ≤ k) × (k < start_of e + length_of e + (max (length_of e) c.length - length_of e))) →
            (living (find (aref_of e) es) ≡ true) × ((true ≡ true) × (start_of e ≤ k) × (k < start_of e + max (length_of e) c.length))
        own k (inl w) = let v = subst (λ y. Holding y k) E.1 w in (w.0, (refl, v.1, omega arith))
        own k (inr w) = (subst (λ y. living y ≡ true) (sym E.1) E.0, (refl, omega arith, omega arith))

        rest : (d k : ℕ) → (aref_of e ≡ d → ⊥) → Within es d k ⊎ ((aref_of e ≡ d) × (start_of e + length_of e ≤ k) × (k < start_of e + length_of e + (max (length_of e) c.length - length_of e))) → Within es d k
        rest d k ne (inl w) = w
        rest d k ne (inr w) = absurd (ne w.0)
