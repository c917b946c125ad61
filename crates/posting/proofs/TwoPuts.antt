-- A line takes from one side and brings to another: what its two puts make memory show.
use Rattle.std.proofs.Common.{◌≡◌, ℕ, ◌+◌, ◌-◌, ◌<◌, ◌≤◌, true, false, cond, ◌&&◌, eqb, ◌⊎◌, List, map, length, get_or, set, sym, refl, ap, ◌∙◌, inl, inr, arith}
use Rattle.std.proofs.ByRecursion.{All-weaker}
use Rattle.std.proofs.lemmas.List.{get_or-set_same, get_or-set_other, length-set, map-set, set-get_or}
use Rattle.std.proofs.lemmas.Bool.{eq-eqb, ne_eqb, cases_eq, cases_Bool}
use Rattle.journal.specs.Accounts.{Account, free, flown, held, aside, same, sort}
use Rattle.law.specs.View.{living, aref_of, start_of}
use Rattle.law.proofs.SoundLines.{same_is}
use Rattle.desk.specs.declared.record.Record.{Record}
use Rattle.desk.specs.Records.{entry_of}
use Rattle.desk.specs.Soundness.{Shows, Shown}
use Rattle.posting.specs.declared.sides.Side.{Side}
use Rattle.posting.specs.declared.sides.Side.TheVariants.{Free, Flown, Held, Aside}
use Rattle.posting.specs.Sides.{unread, place, There, put_free, put_places, account, with_in}

-- a put changes no entry
module _ (places : List Record) (i : ℕ) (r : Record) (same_entry : entry_of r ≡ entry_of (place places i)) where
  entries_stay : map entry_of (set places i r) ≡ map entry_of places
  entries_stay = map-set entry_of places i r ∙ (ap (λ e. set (map entry_of places) i e) same_entry ∙ (sym (map-set entry_of places i (place places i)) ∙ ap (map entry_of) (set-get_or places i unread)))

  entry_stays : i < length places → (j : ℕ) → entry_of (place (set places i r) j) ≡ entry_of (place places j)
  entry_stays h j = go (cases_eq j i)
    where
      go : (j ≡ i) ⊎ (j ≡ i → ⊥) → entry_of (get_or (set places i r) j unread) ≡ entry_of (place places j)
      go (inl q) = rw (q, get_or-set_same places i r unread h) same_entry
      go (inr q) = rw (get_or-set_other places i j r unread q) refl

pub put_entries : (places : List Record) (side : Side) (day mw : ℕ) → map entry_of (put_places places side day mw) ≡ map entry_of places
put_entries places Free day mw = refl
put_entries places Flown day mw = refl
put_entries places (Held i) day mw = entries_stay places i _ refl
put_entries places (Aside i) day mw = entries_stay places i _ refl

pub put_entry : (days : ℕ) (places : List Record) (side : Side) (day mw : ℕ) → There days places side day → (j : ℕ) → entry_of (place (put_places places side day mw) j) ≡ entry_of (place places j)
put_entry days places Free day mw h j = refl
put_entry days places Flown day mw h j = refl
put_entry days places (Held i) day mw h j = entry_stays places i _ refl h.0 j
put_entry days places (Aside i) day mw h j = entry_stays places i _ refl h.0 j

pub put_length : (places : List Record) (side : Side) (day mw : ℕ) → length (put_places places side day mw) ≡ length places
put_length places Free day mw = refl
put_length places Flown day mw = refl
put_length places (Held i) day mw = length-set places i _
put_length places (Aside i) day mw = length-set places i _

pub put_free_length : (amounts : List ℕ) (side : Side) (day mw : ℕ) → length (put_free amounts side day mw) ≡ length amounts
put_free_length amounts Free day mw = length-set amounts day mw
put_free_length amounts Flown day mw = refl
put_free_length amounts (Held i) day mw = refl
put_free_length amounts (Aside i) day mw = refl

-- places with the same entries have the same accounts, and the same sides are there
module _ (places after : List Record) (long : length after ≡ length places) (alike : (j : ℕ) → entry_of (place after j) ≡ entry_of (place places j)) where
  pub account_stays : (side : Side) → account after side ≡ account places side
  account_stays Free = refl
  account_stays Flown = refl
  account_stays (Held i) = ap (λ e. held (aref_of e)) (alike i)
  account_stays (Aside i) = ap (λ e. aside (aref_of e) e.against) (alike i)

  pub there_stays : (days days' : ℕ) → days' ≡ days → (side : Side) (day : ℕ) → There days places side day → There days' after side day
  there_stays days days' e Free day h = omega arith
  there_stays days days' e Flown day h = tt
  there_stays days days' e (Held i) day h = let s = ap start_of (alike i) in (omega arith, omega (arith, h.1), omega (arith, h.2), ap living (alike i) ∙ h.3)
  there_stays days days' e (Aside i) day h = let s = ap start_of (alike i) in (omega arith, omega (arith, h.1), omega (arith, h.2), ap living (alike i) ∙ h.3)

-- memory shows any accounts that agree on what it has: nothing is kept of what has flown
pub shown_alike : (B C : Account → ℕ → ℕ) (amounts : List ℕ) (places : List Record) → Shown B amounts places → ((x : Account) (j : ℕ) → 0 < sort x → same x flown ≡ false → B x j ≡ C x j) → Shown C amounts places
shown_alike B C amounts places S h = record {
  frees = λ j l. S.frees j l ∙ h free j (omega arith) refl;
  records = All-weaker (Shows B) (Shows C) (λ r s. record {
    held_days = s.held_days;
    aside_days = s.aside_days;
    holds = λ j l. s.holds j l ∙ ap (λ z. cond (living (entry_of r)) z 0) (h (held (aref_of (entry_of r))) _ (omega arith) refl);
    sets_aside = λ j l. s.sets_aside j l ∙ ap (λ z. cond (living (entry_of r)) z 0) (h (aside (aref_of (entry_of r)) r.against) _ (omega arith) refl);
  }) places S.records;
}

-- taken from one account and brought to another
pub moved : (B C : Account → ℕ → ℕ) (F T : Account) (day mw v : ℕ) → mw ≤ B F day →
    ((x : Account) (j : ℕ) → 0 < sort x → C x j + cond (eqb day j && same x F) mw 0 ≡ B x j + cond (eqb day j && same x T) mw 0) →
    (x : Account) (j : ℕ) → 0 < sort x → (x ≡ T → v ≡ with_in B F day (B F day - mw) T day + mw) → with_in (with_in B F day (B F day - mw)) T day v x j ≡ C x j
moved B C F T day mw v paid eq x j r hv = go (cases_eq day j) (cases_Bool (same x T)) (cases_Bool (same x F))
  where
    go : (day ≡ j) ⊎ (day ≡ j → ⊥) → (same x T ≡ true) ⊎ (same x T ≡ false) → (same x F ≡ true) ⊎ (same x F ≡ false) → with_in (with_in B F day (B F day - mw)) T day v x j ≡ C x j
    go (inr n) a b = let e = rw (ne_eqb day j n) at (eq x j r) in rw (ne_eqb day j n) (omega arith)
    go (inl q) (inl a) (inl b) =
        let t = same_is x T a in let f = same_is x F b in
        let e = rw (eq-eqb day j q, a, b) at (eq x j r) in
        let w = rw (← t, b, eq-eqb day day refl) at (hv t) in
        let z : B F day ≡ B x j = rw (← f, q) in
        rw (eq-eqb day j q, a) (omega arith)
    go (inl q) (inl a) (inr b) =
        let t = same_is x T a in
        let e = rw (eq-eqb day j q, a, b) at (eq x j r) in
        let w = rw (← t, b, eq-eqb day day refl) at (hv t) in
        let z : B x day ≡ B x j = rw q in
        rw (eq-eqb day j q, a) (omega arith)
    go (inl q) (inr a) (inl b) =
        let f = same_is x F b in
        let e = rw (eq-eqb day j q, a, b) at (eq x j r) in
        let z : B F day ≡ B x j = rw (← f, q) in
        rw (eq-eqb day j q, a, b) (omega arith)
    go (inl q) (inr a) (inr b) =
        let e = rw (eq-eqb day j q, a, b) at (eq x j r) in
        rw (eq-eqb day j q, a, b) (omega arith)
