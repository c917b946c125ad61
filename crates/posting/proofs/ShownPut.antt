-- One amount is put on a side, and memory shows the accounts with it.
use Rattle.std.proofs.Common.{◌≡◌, ℕ, ◌+◌, ◌-◌, ◌<◌, ◌≤◌, Bool, true, false, cond, ◌&&◌, eqb, ◌≢◌, ◌⊎◌, List, map, length, get_or, set, sym, refl, ◌∙◌, subst, inl, inr, arith}
use Rattle.std.specs.List.{AllByRecursion}
use Rattle.std.proofs.ByRecursion.{All-get_or, All-from_get_or, All-weaker}
use Rattle.std.proofs.lemmas.List.{length-map, get_or-map, get_or-set_same, get_or-set_other, length-set}
use Rattle.std.proofs.lemmas.Bool.{eq-eqb, ne_eqb, cases_eq, and_from, and_right}
use Rattle.journal.specs.Accounts.{Account, free, flown, held, aside, same}
use Rattle.law.specs.View.{nobody, is, living, aref_of, start_of, count}
use Rattle.law.proofs.PostingEffects.{same_self}
use Rattle.desk.specs.declared.record.Record.{Record}
use Rattle.desk.specs.Records.{entry_of}
use Rattle.desk.specs.Soundness.{Shows, Shown}
use Rattle.posting.specs.declared.sides.Side.{Side}
use Rattle.posting.specs.declared.sides.Side.TheVariants.{Free, Flown, Held, Aside}
use Rattle.posting.specs.Sides.{unread, place, offset, There, Reach, stands, with_held, with_aside, put_free, put_places, account, with_in}
use Rattle.posting.proofs.OnePlace.{one_place}

-- two amounts that agree where a record lives are shown alike
where_living : (lives : Bool) (a b : ℕ) → (lives ≡ true → a ≡ b) → cond lives a 0 ≡ cond lives b 0
where_living true a b h = h refl
where_living false a b h = refl

-- the amount put is the one read on its day; the others are as they were
put_one : (xs : List ℕ) (s day j mw : ℕ) (c : Bool) (f : ℕ → ℕ) → c ≡ true → s ≤ day → day - s < length xs → get_or xs j 0 ≡ f (s + j) →
    get_or (set xs (day - s) mw) j 0 ≡ cond (eqb day (s + j) && c) mw (f (s + j))
put_one xs s day j mw c f e h l q = go (cases_eq day (s + j))
  where
    go : (day ≡ s + j) ⊎ (day ≡ s + j → ⊥) → get_or (set xs (day - s) mw) j 0 ≡ cond (eqb day (s + j) && c) mw (f (s + j))
    go (inl w) = let z : day - s ≡ j = omega arith in let lt : j < length xs = omega arith in rw (eq-eqb day (s + j) w, e, z) (get_or-set_same xs j mw 0 lt)
    go (inr w) = let n : j ≢ day - s = (λ (y : j ≡ day - s). w (omega arith)) in rw (ne_eqb day (s + j) w) (get_or-set_other xs (day - s) j mw 0 n ∙ q)

module _ (B : Account → ℕ → ℕ) (x : Account) (day mw : ℕ) where
  -- another account is as it was
  untouched : (y : Account) (j : ℕ) → same y x ≡ false → with_in B x day mw y j ≡ B y j
  untouched y j h = rw (and_right (eqb day j) (same y x) h)

  shows_untouched : (r : Record) → (living (entry_of r) ≡ true → (same (held (aref_of (entry_of r))) x ≡ false) × (same (aside (aref_of (entry_of r)) r.against) x ≡ false)) → Shows B r → Shows (with_in B x day mw) r
  shows_untouched r h S = record {
    held_days = S.held_days;
    aside_days = S.aside_days;
    holds = λ j l. S.holds j l ∙ where_living (living (entry_of r)) _ _ (λ q. sym (untouched (held (aref_of (entry_of r))) (start_of (entry_of r) + j) (h q).0));
    sets_aside = λ j l. S.sets_aside j l ∙ where_living (living (entry_of r)) _ _ (λ q. sym (untouched (aside (aref_of (entry_of r)) r.against) (start_of (entry_of r) + j) (h q).1));
  }

module _ (B : Account → ℕ → ℕ) (day mw : ℕ) (r : Record) (lives : living (entry_of r) ≡ true) (from : start_of (entry_of r) ≤ day) (inside : day - start_of (entry_of r) < 31) (S : Shows B r) where
  shows_held : Shows (with_in B (held (aref_of (entry_of r))) day mw) (with_held r (set r.held (day - start_of (entry_of r)) mw))
  shows_held = record {
    held_days = length-set r.held _ mw ∙ S.held_days;
    aside_days = S.aside_days;
    holds = λ j l.
        let x = held (aref_of (entry_of r)) in
        put_one r.held (start_of (entry_of r)) day j mw (same x x) (B x) (same_self x) from (omega (arith, S.held_days)) (S.holds j l ∙ rw lives)
        ∙ rw lives;
    sets_aside = λ j l. S.sets_aside j l ∙ where_living (living (entry_of r)) _ _ (λ q. sym (untouched B (held (aref_of (entry_of r))) day mw (aside (aref_of (entry_of r)) r.against) (start_of (entry_of r) + j) refl));
  }

  shows_aside : Shows (with_in B (aside (aref_of (entry_of r)) r.against) day mw) (with_aside r (set r.aside (day - start_of (entry_of r)) mw))
  shows_aside = record {
    held_days = S.held_days;
    aside_days = length-set r.aside _ mw ∙ S.aside_days;
    holds = λ j l. S.holds j l ∙ where_living (living (entry_of r)) _ _ (λ q. sym (untouched B (aside (aref_of (entry_of r)) r.against) day mw (held (aref_of (entry_of r))) (start_of (entry_of r) + j) refl));
    sets_aside = λ j l.
        let x = aside (aref_of (entry_of r)) r.against in
        put_one r.aside (start_of (entry_of r)) day j mw (same x x) (B x) (same_self x) from (omega (arith, S.aside_days)) (S.sets_aside j l ∙ rw lives)
        ∙ rw lives;
  }

module _ (B : Account → ℕ → ℕ) (amounts : List ℕ) (places : List Record) (S : Shown B amounts places) (once : (a : ℕ) → count a (map entry_of places) ≤ 1) where
  shows_at : (i : ℕ) → i < length places → Shows B (place places i)
  shows_at i h = All-get_or (Shows B) places i unread h S.records

  -- living records in different places have different AREFs
  apart : (i j : ℕ) → i < length places → j < length places → living (entry_of (place places i)) ≡ true → living (entry_of (place places j)) ≡ true → (j ≡ i → ⊥) →
      eqb (aref_of (entry_of (place places j))) (aref_of (entry_of (place places i))) ≡ false
  apart i j h l p q ne = ne_eqb _ _ (λ (w : aref_of (entry_of (place places j)) ≡ aref_of (entry_of (place places i))).
      ne (one_place (aref_of (entry_of (place places i))) j i (map entry_of places) (once _) (omega (arith, length-map places entry_of)) (omega (arith, length-map places entry_of))
      (subst (λ e. is (aref_of (entry_of (place places i))) e ≡ true) (sym (get_or-map entry_of places j unread nobody l)) (and_from _ _ q (eq-eqb _ _ w)))
      (subst (λ e. is (aref_of (entry_of (place places i))) e ≡ true) (sym (get_or-map entry_of places i unread nobody h)) (and_from _ _ p (eq-eqb _ _ refl)))))

  -- one place is changed and shows its new accounts; the others keep theirs
  set_shown : (i : ℕ) (r : Record) (C : Account → ℕ → ℕ) → i < length places → Shows C r →
      ((j : ℕ) → j < length places → (j ≡ i → ⊥) → Shows C (place places j)) → AllByRecursion (Shows C) (set places i r)
  set_shown i r C h new others = All-from_get_or (Shows C) (set places i r) unread (λ j l. go j (omega (arith, length-set places i r)) (cases_eq j i))
    where
      go : (j : ℕ) → j < length places → (j ≡ i) ⊎ (j ≡ i → ⊥) → Shows C (get_or (set places i r) j unread)
      go j l (inl q) = rw (q, get_or-set_same places i r unread h) new
      go j l (inr q) = rw (get_or-set_other places i j r unread q) (others j l q)

  pub shown_put : (side : Side) (day mw : ℕ) → There (length amounts) places side day → Shown (with_in B (account places side) day mw) (put_free amounts side day mw) (put_places places side day mw)
  shown_put Free day mw h = record {
    frees = λ j l. go j (omega (arith, length-set amounts day mw)) (cases_eq j day);
    records = All-weaker (Shows B) _ (λ r s. shows_untouched B free day mw r (λ _. (refl, refl)) s) places S.records;
  }
    where
      go : (j : ℕ) → j < length amounts → (j ≡ day) ⊎ (j ≡ day → ⊥) → get_or (set amounts day mw) j 0 ≡ with_in B free day mw free j
      go j l (inl q) = rw (q, eq-eqb day day refl) (get_or-set_same amounts day mw 0 h)
      go j l (inr q) = rw (ne_eqb day j (λ (w : day ≡ j). q (sym w))) (get_or-set_other amounts day j mw 0 q ∙ S.frees j l)
  shown_put Flown day mw h = record {
    frees = λ j l. S.frees j l ∙ sym (untouched B flown day mw free j refl);
    records = All-weaker (Shows B) _ (λ r s. shows_untouched B flown day mw r (λ _. (refl, refl)) s) places S.records;
  }
  shown_put (Held i) day mw h = record {
    frees = λ j l. S.frees j l ∙ sym (untouched B (account places (Held i)) day mw free j refl);
    records = set_shown i _ _ h.0 (shows_held B day mw (place places i) h.3 h.1 h.2 (shows_at i h.0))
        (λ j l ne. shows_untouched B (account places (Held i)) day mw (place places j) (λ q. (apart i j h.0 l h.3 q ne, refl)) (shows_at j l));
  }
  shown_put (Aside i) day mw h = record {
    frees = λ j l. S.frees j l ∙ sym (untouched B (account places (Aside i)) day mw free j refl);
    records = set_shown i _ _ h.0 (shows_aside B day mw (place places i) h.3 h.1 h.2 (shows_at i h.0))
        (λ j l ne. shows_untouched B (account places (Aside i)) day mw (place places j) (λ q. (refl, and_right _ _ (apart i j h.0 l h.3 q ne))) (shows_at j l));
  }

  -- what stands on a side is what its account has
  pub stands_is : (side : Side) (day : ℕ) → There (length amounts) places side day → side ≢ Flown → stands amounts places side day ≡ B (account places side) day
  stands_is Free day h ne = S.frees day h
  stands_is Flown day h ne = absurd (ne refl)
  stands_is (Held i) day h ne =
      let z : start_of (entry_of (place places i)) + offset places i day ≡ day = omega arith in
      (shows_at i h.0).holds (offset places i day) h.2 ∙ rw (h.3, z)
  stands_is (Aside i) day h ne =
      let z : start_of (entry_of (place places i)) + offset places i day ≡ day = omega arith in
      (shows_at i h.0).sets_aside (offset places i day) h.2 ∙ rw (h.3, z)

  -- a side that is there is reached in memory
  pub reach_is : (side : Side) (day : ℕ) → There (length amounts) places side day → Reach (length amounts) places side day
  reach_is Free day h = h
  reach_is Flown day h = tt
  reach_is (Held i) day h = (h.0, h.1, h.2, (shows_at i h.0).held_days, (shows_at i h.0).aside_days)
  reach_is (Aside i) day h = (h.0, h.1, h.2, (shows_at i h.0).held_days, (shows_at i h.0).aside_days)
