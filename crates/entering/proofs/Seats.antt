-- A record that was written into a place stands there, and a new AREF has no MW yet.
use Rattle.std.proofs.Common.{◌≡◌, ℕ, ◌<◌, ◌≤◌, true, ◌⊎◌, List, map, length, get_or, set, replicate, sym, ap, ◌∙◌, inl, inr, arith}
use Rattle.std.proofs.lemmas.List.{length-map, get_or-map, get_or-set_same, get_or-replicate, length-set}
use Rattle.std.proofs.lemmas.Bool.{cases_lt, cond-true}
use Rattle.journal.specs.Accounts.{Account, held, aside, balance}
use Rattle.law.specs.View.{View, Entry, aref_of, living, find, count, nobody}
use Rattle.law.specs.Keeps.{Kept}
use Rattle.law.proofs.Finds.{find_count, count_none}
use Rattle.desk.specs.declared.record.Record.{Record}
use Rattle.desk.specs.Records.{entry_of}
use Rattle.desk.specs.Soundness.{Shows}
use Rattle.posting.specs.Sides.{unread, place}

module _ (ps : List Record) (es : List Entry) (i : ℕ) (x : Entry) (h : i < length es) (e : map entry_of ps ≡ set es i x) where
  pub seated_within : i < length ps
  seated_within = omega (arith, length-map ps entry_of, ap length e, length-set es i x)

  pub seated_entry : entry_of (place ps i) ≡ x
  seated_entry = sym (get_or-map entry_of ps i unread nobody seated_within) ∙ (ap (λ xs. get_or xs i nobody) e ∙ get_or-set_same es i x nobody h)

module _ (v : View) (K : Kept v) (a : ℕ) (above : v.top < a) where
  pub nobody_yet : count a v.places ≡ 0
  nobody_yet = count_none v.top a v.places above K.accepted

  not_living : living (find a v.places) ≡ true → ⊥
  not_living l = omega (arith, find_count a v.places l, nobody_yet)

  pub none_held_yet : (day : ℕ) → balance v.lines (held a) day ≡ 0
  none_held_yet day = go (cases_lt 0 (balance v.lines (held a) day))
    where
      go : (0 < balance v.lines (held a) day) ⊎ (balance v.lines (held a) day ≤ 0) → balance v.lines (held a) day ≡ 0
      go (inl p) = absurd (not_living (K.holders a day p).0)
      go (inr p) = omega arith

  pub none_aside_yet : (b day : ℕ) → balance v.lines (aside a b) day ≡ 0
  none_aside_yet b day = go (cases_lt 0 (balance v.lines (aside a b) day))
    where
      go : (0 < balance v.lines (aside a b) day) ⊎ (balance v.lines (aside a b) day ≤ 0) → balance v.lines (aside a b) day ≡ 0
      go (inl p) = absurd (not_living (K.challenged a b day p).0.0)
      go (inr p) = omega arith

-- a living record with no MW, of an AREF that has none, shows the accounts
pub empty_shows : (B : Account → ℕ → ℕ) (r : Record) → living (entry_of r) ≡ true → r.held ≡ replicate 31 0 → r.aside ≡ replicate 31 0 →
    ((day : ℕ) → B (held (aref_of (entry_of r))) day ≡ 0) → ((day : ℕ) → B (aside (aref_of (entry_of r)) r.against) day ≡ 0) → Shows B r
empty_shows B r lives h a none_held none_aside = record {
  held_days = ap length h;
  aside_days = ap length a;
  holds = λ j l. ap (λ xs. get_or xs j 0) h ∙ (get_or-replicate 31 j 0 0 l ∙ sym (cond-true _ _ _ lives ∙ none_held _));
  sets_aside = λ j l. ap (λ xs. get_or xs j 0) a ∙ (get_or-replicate 31 j 0 0 l ∙ sym (cond-true _ _ _ lives ∙ none_aside _));
}
