-- The amounts that memory has of a day are those of the accounts.
use Rattle.std.proofs.Common.{◌≡◌, ℕ, ◌+◌, ◌-◌, ◌<◌, ◌≤◌, true, false, cond, ◌&&◌, ltb, leb, ◌⊎◌, List, [], ◌∷◌, map, get_or, sum_by, sym, refl, ap, ◌∙◌, subst, inl, inr, arith}
use Rattle.std.specs.List.{AllByRecursion}
use Rattle.std.proofs.lemmas.List.Sums.{sum_by-cons}
use Rattle.std.proofs.lemmas.Bool.{cases_Bool, cases_lt, and_parts, and_cases, leb-true, leb-false, ltb-true, ltb-false, cond-true, cond-false}
use Rattle.journal.specs.Accounts.{held, aside, balance}
use Rattle.law.specs.View.{View, aref_of, start_of, living, find}
use Rattle.law.specs.Keeps.{Kept, InTerm, Termed}
use Rattle.law.specs.Sums.{held_in, aside_in}
use Rattle.desk.specs.declared.record.Record.{Record}
use Rattle.desk.specs.Records.{amount_on, held_on, aside_on, entry_of}
use Rattle.desk.specs.Soundness.{Shows}

-- of 31 amounts that show B day by day from a start on, the amount on a day is B's, where B has nothing on other days
pub shown : (start day : ℕ) (amounts : List ℕ) (B : ℕ → ℕ) → ((j : ℕ) → j < 31 → get_or amounts j 0 ≡ B (start + j)) →
    (0 < B day → (start ≤ day) × (day < start + 31)) → amount_on day start amounts ≡ B day
shown start day amounts B same inside = go (cases_Bool (leb start day && ltb (day - start) 31))
  where
    go : ((leb start day && ltb (day - start) 31) ≡ true) ⊎ ((leb start day && ltb (day - start) 31) ≡ false) → amount_on day start amounts ≡ B day
    go (inl e) =
        let w = and_parts (leb start day) (ltb (day - start) 31) e in
        let le = leb-true start day w.0 in let lt = ltb-true (day - start) 31 w.1 in
        let z : start + (day - start) ≡ day = omega arith in
        cond-true _ _ _ e ∙ (same (day - start) lt ∙ ap B z)
    go (inr e) = cond-false _ _ _ e ∙ sym (nothing (cases_lt 0 (B day)) (and_cases (leb start day) (ltb (day - start) 31) e))
      where
        nothing : (0 < B day) ⊎ (B day ≤ 0) → (leb start day ≡ false) ⊎ (ltb (day - start) 31 ≡ false) → B day ≡ 0
        nothing (inr p) q = omega arith
        nothing (inl p) (inl q) = let i = inside p in let h = leb-false start day q in let z : ⊥ = omega arith in absurd z
        nothing (inl p) (inr q) = let i = inside p in let h = ltb-false (day - start) 31 q in let z : ⊥ = omega arith in absurd z

module _ (v : View) (K : Kept v) (day : ℕ) where
  -- what is known of a record in its place
  abbrev pub Stands : Record → Type 0
  Stands r = Shows (balance v.lines) r × (living (entry_of r) ≡ true → find (aref_of (entry_of r)) v.places ≡ entry_of r) × Termed v.days (entry_of r)

  in_31 : (r : Record) → (living (entry_of r) ≡ true → find (aref_of (entry_of r)) v.places ≡ entry_of r) → Termed v.days (entry_of r) → living (entry_of r) ≡ true →
      InTerm (find (aref_of (entry_of r)) v.places) day → (start_of (entry_of r) ≤ day) × (day < start_of (entry_of r) + 31)
  in_31 r found term l i = let j = subst (λ e. InTerm e day) (found l) i in (j.1, omega (arith, j.2, term.0))

  held_shown : (r : Record) → Stands r → held_on day r ≡ cond (living (entry_of r)) (balance v.lines (held (aref_of (entry_of r))) day) 0
  held_shown r s = shown (start_of (entry_of r)) day r.held (λ k. cond (living (entry_of r)) (balance v.lines (held (aref_of (entry_of r))) k) 0) s.0.holds
      (λ p. go (cases_Bool (living (entry_of r))) p)
    where
      go : (living (entry_of r) ≡ true) ⊎ (living (entry_of r) ≡ false) → 0 < cond (living (entry_of r)) (balance v.lines (held (aref_of (entry_of r))) day) 0 → (start_of (entry_of r) ≤ day) × (day < start_of (entry_of r) + 31)
      go (inl l) p = in_31 r s.1 s.2 l (K.holders (aref_of (entry_of r)) day (subst (λ n. 0 < n) (cond-true _ _ _ l) p))
      go (inr l) p = let z : ⊥ = omega (arith, cond-false (living (entry_of r)) (balance v.lines (held (aref_of (entry_of r))) day) 0 l) in absurd z

  aside_shown : (r : Record) → Stands r → aside_on day r ≡ cond (living (entry_of r)) (balance v.lines (aside (aref_of (entry_of r)) r.against) day) 0
  aside_shown r s = shown (start_of (entry_of r)) day r.aside (λ k. cond (living (entry_of r)) (balance v.lines (aside (aref_of (entry_of r)) r.against) k) 0) s.0.sets_aside
      (λ p. go (cases_Bool (living (entry_of r))) p)
    where
      go : (living (entry_of r) ≡ true) ⊎ (living (entry_of r) ≡ false) → 0 < cond (living (entry_of r)) (balance v.lines (aside (aref_of (entry_of r)) r.against) day) 0 → (start_of (entry_of r) ≤ day) × (day < start_of (entry_of r) + 31)
      go (inl l) p = in_31 r s.1 s.2 l (K.challenged (aref_of (entry_of r)) r.against day (subst (λ n. 0 < n) (cond-true _ _ _ l) p)).0
      go (inr l) p = let z : ⊥ = omega (arith, cond-false (living (entry_of r)) (balance v.lines (aside (aref_of (entry_of r)) r.against) day) 0 l) in absurd z

  pub held_shown_in : (rs : List Record) → AllByRecursion Stands rs → sum_by (held_on day) rs ≡ held_in (map entry_of rs) v.lines day
  held_shown_in [] s = refl
  held_shown_in (r ∷ rs) s = let one = held_shown r s.0 in let rest = held_shown_in rs s.1 in omega (arith, sum_by-cons (held_on day) r rs)

  pub aside_shown_in : (rs : List Record) → AllByRecursion Stands rs → sum_by (aside_on day) rs ≡ aside_in (map entry_of rs) v.lines day
  aside_shown_in [] s = refl
  aside_shown_in (r ∷ rs) s = let one = aside_shown r s.0 in let rest = aside_shown_in rs s.1 in omega (arith, sum_by-cons (aside_on day) r rs)
