-- The sums of a sound desk's memory are those of the journal's accounts, and add up to what was posted.
use Rattle.std.proofs.Common.{◌≡◌, ℕ, suc, ◌+◌, ◌≤◌, true, List, [], ◌∷◌, map, sum_by, ◌∙◌, arith}
use Rattle.std.specs.List.{AllByRecursion}
use Rattle.journal.specs.Accounts.{free, flown, balance, held_below, aside_below}
use Rattle.law.specs.View.{aref_of, living, find, posted_on}
use Rattle.law.specs.Keeps.{Termed}
use Rattle.law.specs.Sums.{FourSums}
use Rattle.law.proofs.Finds.{all_found}
use Rattle.law.proofs.OwnSums.{accounted_kept, four_sums}
use Rattle.desk.specs.declared.memory.Desk.{Desk}
use Rattle.desk.specs.Desks.{view}
use Rattle.desk.specs.Records.{held_on, aside_on, entry_of}
use Rattle.desk.specs.Soundness.{Shows, Sound}
use Rattle.desk.proofs.AmountsShown.{Stands, held_shown_in, aside_shown_in}

-- what is known of each record and of each entry is known of each record
all_three : {X Y : Type 0} (f : X → Y) (P : X → Type 0) (Q R : Y → Type 0) (xs : List X) → AllByRecursion P xs → AllByRecursion Q (map f xs) → AllByRecursion R (map f xs) → AllByRecursion (λ x. P x × Q (f x) × R (f x)) xs
all_three f P Q R [] p q r = tt
all_three f P Q R (x ∷ xs) p q r = ((p.0, q.0, r.0), all_three f P Q R xs p.1 q.1 r.1)

module _ (d : Desk) (S : Sound d) (day : ℕ) where
  sums : FourSums (view d) day
  sums = four_sums (view d) (accounted_kept (view d) S.kept) day

  stand : AllByRecursion (Stands (view d) S.kept day) d.places.now
  stand = all_three entry_of (Shows (balance (view d).lines)) (λ e. living e ≡ true → find (aref_of e) (view d).places ≡ e) (Termed (view d).days) d.places.now
      S.shown.records (all_found (view d).places S.kept.once) S.kept.terms

  pub held_is : sum_by (held_on day) d.places.now ≡ held_below (suc d.top) (view d).lines day
  held_is = held_shown_in (view d) S.kept day d.places.now stand ∙ sums.holdings

  pub aside_is : sum_by (aside_on day) d.places.now ≡ aside_below (suc d.top) (view d).lines day
  aside_is = aside_shown_in (view d) S.kept day d.places.now stand ∙ sums.asides

  pub all_is : balance (view d).lines free day + sum_by (held_on day) d.places.now + sum_by (aside_on day) d.places.now + balance (view d).lines flown day ≡ posted_on (view d).days day
  all_is = let h = held_is in let a = aside_is in let w = sums.whole in let i = sums.holdings in let j = sums.asides in omega arith

  within_limit : posted_on (view d).days day ≤ 20000
  within_limit = S.kept.amounts day

  pub held_within : sum_by (held_on day) d.places.now ≤ 20000
  held_within = omega (arith, all_is, within_limit)

  pub aside_within : sum_by (aside_on day) d.places.now ≤ 20000
  aside_within = omega (arith, all_is, within_limit)
