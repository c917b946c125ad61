-- A day is met by free and the records lined up exactly where nothing is short once all that they hold is taken.
use Rattle.std.proofs.Common.{◌≡◌, ℕ, zero, suc, ◌+◌, ◌-◌, ◌<◌, ◌≤◌, Bool, eqb, leb, ◌⊎◌, ◌&&◌, List, length, get_or, sum_by, refl, ap, ◌∙◌, inl, inr, add-one, arith}
use Rattle.std.specs.List.{list_all, range_with_len}
use Rattle.std.proofs.lemmas.Bool.{le-leb, lt-leb, eq-eqb, ne_eqb, cases_lt}
use Rattle.terms.specs.declared.request.Request.{Request}
use Rattle.shelf.specs.declared.defender.Defender.{Defender}
use Rattle.law.specs.Posting.{each_day, free_on}
use Rattle.law.specs.Preemption.{wanted, holdings}
use Rattle.desk.specs.declared.memory.Desk.{Desk}
use Rattle.desk.specs.Desks.{view}
use Rattle.desk.specs.Soundness.{Sound}
use Rattle.defending.specs.LinedUp.{lined, InPlaces, held_in_place}
use Rattle.defending.proofs.ShownInLine.{held_in_line, free_is}

-- a test of each of some days, as a test of each number from the first on
pub each_of_range : (p q : ℕ → Bool) (s n : ℕ) → ((k : ℕ) → s ≤ k → k < s + n → p k ≡ q k) → list_all p (range_with_len s n) ≡ each_day q s n
unfolding each_day
each_of_range p q s zero same = refl
each_of_range p q s (suc n) same =
    let later = each_of_range p q (suc s) n (λ k lo hi. same k (omega arith) (omega arith)) in
    ap (λ b. b && list_all p (range_with_len (s + 1) n)) (same s (omega arith) (omega arith)) ∙ ap (λ b. q s && b) (ap (λ k. list_all p (range_with_len k n)) (add-one s) ∙ later)

none_left : (n m : ℕ) → eqb (n - m) 0 ≡ leb n m
none_left n m = go (cases_lt m n)
  where
    go : (m < n) ⊎ (n ≤ m) → eqb (n - m) 0 ≡ leb n m
    go (inl more) = rw (lt-leb n m more) (ne_eqb (n - m) 0 (λ (e : n - m ≡ 0). omega arith))
    go (inr none) = rw (le-leb n m none) (eq-eqb (n - m) 0 (omega arith))

pub met_is : (d : Desk) → Sound d → (r : Request) (xs : List Defender) → InPlaces (view d).places xs → (day : ℕ) → day < length d.posted.amounts.now →
    eqb (r.mw - get_or d.free.now day 0 - sum_by (held_in_place d.places.now day) xs) 0 ≡ leb (wanted r day) (free_on (view d).lines day + holdings (view d).lines (lined (view d).places xs) day)
unfolding wanted
met_is d S r xs there day posted =
    let left : r.mw - get_or d.free.now day 0 - sum_by (held_in_place d.places.now day) xs ≡ r.mw - (free_on (view d).lines day + holdings (view d).lines (lined (view d).places xs) day) =
    omega (arith, held_in_line d S day xs there, free_is d S day posted) in
    ap (λ n. eqb n 0) left ∙ none_left _ _
