-- Desks with the same records in their places have the same sides.
use Rattle.std.proofs.Common.{◌≡◌, ℕ, ◌<◌, ◌≤◌, ◌⊎◌, List, map, length, get_or, sym, ap, ◌∙◌, inl, inr, arith}
use Rattle.std.proofs.lemmas.List.{length-map, get_or-map, get_or_past}
use Rattle.std.proofs.lemmas.Bool.{cases_lt}
use Rattle.law.specs.View.{nobody}
use Rattle.desk.specs.declared.record.Record.{Record}
use Rattle.desk.specs.Records.{entry_of}
use Rattle.posting.specs.declared.sides.Side.{Side}
use Rattle.posting.specs.Sides.{unread, place, There, account}
use Rattle.posting.proofs.TwoPuts.{account_stays, there_stays}

module _ (ps qs : List Record) (e : map entry_of ps ≡ map entry_of qs) where
  pub same_length : length ps ≡ length qs
  same_length = sym (length-map ps entry_of) ∙ (ap length e ∙ length-map qs entry_of)

  pub same_entry : (j : ℕ) → entry_of (place ps j) ≡ entry_of (place qs j)
  same_entry j = go (cases_lt j (length ps))
    where
      go : (j < length ps) ⊎ (length ps ≤ j) → entry_of (place ps j) ≡ entry_of (place qs j)
      go (inl h) =
          let h' : j < length qs = omega (arith, same_length) in
          sym (get_or-map entry_of ps j unread nobody h) ∙ (ap (λ es. get_or es j nobody) e ∙ get_or-map entry_of qs j unread nobody h')
      go (inr h) =
          let h' : length qs ≤ j = omega (arith, same_length) in
          ap entry_of (get_or_past ps j unread h ∙ sym (get_or_past qs j unread h'))

  pub same_account : (side : Side) → account ps side ≡ account qs side
  same_account = account_stays qs ps same_length same_entry

  pub same_there : (n m : ℕ) → n ≡ m → (side : Side) (day : ℕ) → There m qs side day → There n ps side day
  same_there n m h = there_stays qs ps same_length same_entry m n h
