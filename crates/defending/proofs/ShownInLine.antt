-- What memory shows of the records lined up on a shelf: what each holds by its account.
use Rattle.std.proofs.Common.{◌≡◌, ℕ, ◌<◌, true, List, [], ◌∷◌, map, length, get_or, sum_by, sym, refl, ap, ◌∙◌, subst, arith}
use Rattle.std.specs.List.{AllByRecursion}
use Rattle.std.proofs.ByRecursion.{All-get_or, All-weaker}
use Rattle.std.proofs.lemmas.List.{get_or-map, length-map}
use Rattle.std.proofs.lemmas.List.Sums.{sum_by-cons}
use Rattle.std.proofs.lemmas.Bool.{cond-true}
use Rattle.journal.specs.Accounts.{free, balance}
use Rattle.shelf.specs.declared.defender.Defender.{Defender}
use Rattle.law.specs.View.{Entry, nobody, aref_of, living, find}
use Rattle.law.specs.Keeps.{InTerm, Termed}
use Rattle.law.specs.Posting.{holding}
use Rattle.law.specs.Preemption.{holdings}
use Rattle.law.proofs.Finds.{all_found}
use Rattle.desk.specs.declared.memory.Desk.{Desk}
use Rattle.desk.specs.declared.record.Record.{Record}
use Rattle.desk.specs.Desks.{view}
use Rattle.desk.specs.Records.{held_on, vacant, entry_of}
use Rattle.desk.specs.Soundness.{Shows, Sound}
use Rattle.desk.proofs.AmountsShown.{held_shown_in}
use Rattle.defending.specs.Shortage.{HoldsInTerm}
use Rattle.defending.specs.LinedUp.{entry_at, lined, InPlaces, held_in_place}

module _ (d : Desk) (S : Sound d) where
  abbrev es : List Entry
  es = map entry_of d.places.now

  abbrev ps : List Record
  ps = d.places.now

  -- the record in a place
  module _ (i : ℕ) (u : Record) (here : i < length d.places.now) where
    pub entry_is : entry_at (view d).places i ≡ entry_of (get_or d.places.now i u)
    entry_is = get_or-map entry_of ps i u nobody here

    within : i < length es
    within = omega (arith, length-map ps entry_of)

    pub termed : Termed (view d).days (entry_of (get_or d.places.now i u))
    termed = subst (Termed (view d).days) entry_is (All-get_or (Termed (view d).days) es i nobody within S.kept.terms)

    pub shows : Shows (balance (view d).lines) (get_or d.places.now i u)
    shows = All-get_or (Shows (balance (view d).lines)) ps i u here S.shown.records

    found : living (entry_of (get_or ps i u)) ≡ true → find (aref_of (entry_of (get_or ps i u))) es ≡ entry_of (get_or ps i u)
    found = subst (λ e. living e ≡ true → find (aref_of e) es ≡ e) entry_is (All-get_or (λ e. living e ≡ true → find (aref_of e) es ≡ e) es i nobody within (all_found es S.kept.once))

    -- holds in memory what it holds by its account
    pub held_is_holding : living (entry_at (view d).places i) ≡ true → (day : ℕ) → held_on day (get_or d.places.now i u) ≡ holding (view d).lines (aref_of (entry_at (view d).places i)) day
    held_is_holding l day =
        let one = held_shown_in (view d) S.kept day (get_or ps i u ∷ []) ((shows, found, termed), tt) in
        let lives : living (entry_of (get_or ps i u)) ≡ true = ap living (sym entry_is) ∙ l in
        let a = cond-true (living (entry_of (get_or ps i u))) (holding (view d).lines (aref_of (entry_of (get_or ps i u))) day) 0 lives in
        let b = ap (λ e. holding (view d).lines (aref_of e) day) entry_is in
        omega arith

    -- and holds nothing outside its own term
    pub holds_in_term : living (entry_at (view d).places i) ≡ true → HoldsInTerm (get_or d.places.now i u)
    holds_in_term l day h =
        let lives : living (entry_of (get_or ps i u)) ≡ true = ap living (sym entry_is) ∙ l in
        let a = S.kept.holders (aref_of (entry_at es i)) day (omega (arith, held_is_holding l day)) in
        let b = subst (λ e. InTerm e day) (ap (λ e. find (aref_of e) es) entry_is ∙ found lives) a in
        (b.1, b.2)

  pub each_in_place : (xs : List Defender) → InPlaces (view d).places xs → AllByRecursion (λ x. x.place < length d.places.now) xs
  each_in_place xs h = All-weaker _ _ (λ x p. omega (arith, p.0, length-map ps entry_of)) xs h

  -- all that the records lined up hold
  pub held_in_line : (day : ℕ) (xs : List Defender) → InPlaces (view d).places xs → sum_by (held_in_place d.places.now day) xs ≡ holdings (view d).lines (lined (view d).places xs) day
  unfolding holdings
  held_in_line day [] h = refl
  held_in_line day (x ∷ xs) h =
      let one = held_is_holding x.place vacant (omega (arith, h.0.0, length-map ps entry_of)) h.0.1 day in
      let rest = held_in_line day xs h.1 in
      omega (arith, sum_by-cons (held_in_place ps day) x xs)

  pub free_is : (day : ℕ) → day < length d.posted.amounts.now → get_or d.free.now day 0 ≡ balance (view d).lines free day
  free_is day h = S.shown.frees day (omega (arith, S.each_day))
