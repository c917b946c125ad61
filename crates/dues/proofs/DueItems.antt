-- The items that are due, lined up on a shelf: the first to come off is the earliest.
use Rattle.std.proofs.Common.{◌≡◌, ℕ, zero, suc, ◌+◌, ◌<◌, ◌≤◌, Bool, true, false, cond, ◌⊎◌, List, [], ◌∷◌, map, length, get_or, drop, filter, sym, refl, ap, ◌∙◌, subst, inl, inr, arith}
use Rattle.std.proofs.lemmas.List.{drop_all}
use Rattle.std.proofs.lemmas.Bool.{cases_Bool, cond-true, cond-false, or_parts, or_from, or_left, or_right}
use Rattle.shelf.specs.declared.due.Due.{Due}
use Rattle.shelf.specs.Due.{sooner as comes-sooner}
use Rattle.shelf.specs.Order.{put}
use Rattle.law.specs.View.{Entry, nobody, aref_of}
use Rattle.law.specs.Places.{some}
use Rattle.law.specs.Calls.{sooner, earliest, is_due, first_due}
use Rattle.desk.specs.declared.record.Record.{Record}
use Rattle.desk.specs.Records.{entry_of}
use Rattle.desk.proofs.FromTheLast.{OneBack}
use Rattle.dues.specs.FirstDue.{NoneDue, DueAt}
use Rattle.dues.proofs.Earliest.{sooner_of, earliest_after}

-- the item of a record that stands in a place
abbrev pub item : ℕ → Entry → Due
item i e = record { minute = e.due; aref = aref_of e; place = i }

-- an item is of the earliest entry that is due, of the entries from a place on
pub record First (minute i : ℕ) (es : List Entry) (x : Due) : Type 0 where
  pub back : ℕ
  pub at : x.place ≡ i + back
  pub there : DueAt es minute back
  pub soon : x.minute ≡ (get_or es back nobody).due
  pub named : x.aref ≡ aref_of (get_or es back nobody)

-- the first item of a shelf is of the earliest; none stands on it where nothing is due
abbrev pub Heads : ℕ → ℕ → List Entry → List Due → Type 0
Heads minute i es [] = NoneDue es minute
Heads minute i es (x ∷ xs) = First minute i es x

-- where something is due, the earliest is the earliest of what is kept
kept_first : (minute : ℕ) (d : Entry) (es : List Entry) → some (is_due minute) es ≡ true → earliest d (filter (is_due minute) es) ≡ sooner_of d (first_due minute es)
unfolding some first_due earliest
kept_first minute d [] s = cc
kept_first minute d (e ∷ es) s = go (λ q. kept_first minute d es q) (cases_Bool (is_due minute e))
  where
    go : (some (is_due minute) es ≡ true → earliest d (filter (is_due minute) es) ≡ sooner_of d (first_due minute es)) → (is_due minute e ≡ true) ⊎ (is_due minute e ≡ false) →
        earliest d (filter (is_due minute) (e ∷ es)) ≡ sooner_of d (first_due minute (e ∷ es))
    go ih (inl w) = rw w (earliest_after d e (filter (is_due minute) es))
    go ih (inr w) = rw w (ih (rw w at s))

none_kept : (minute : ℕ) (es : List Entry) → some (is_due minute) es ≡ false → filter (is_due minute) es ≡ []
unfolding some
none_kept minute [] s = refl
none_kept minute (e ∷ es) s = let p = or_parts (is_due minute e) (some (is_due minute) es) s in rw p.0 (none_kept minute es p.1)

some_at : (minute i : ℕ) (es : List Entry) → i < length es → is_due minute (get_or es i nobody) ≡ true → some (is_due minute) es ≡ true
unfolding some
some_at minute i [] h q = cc
some_at minute zero (e ∷ es) h q = or_left _ _ q
some_at minute (suc i) (e ∷ es) h q = or_right (is_due minute e) _ (some_at minute i es (omega arith) q)

module _ (minute i : ℕ) (e : Entry) (es : List Entry) where
  -- what is not due leaves the shelf as it is
  heads_past : is_due minute e ≡ false → (xs : List Due) → Heads minute (i + 1) es xs → Heads minute i (e ∷ es) xs
  unfolding some first_due
  heads_past w [] h = record { none = or_from _ _ w h.none; first = rw w h.first }
  heads_past w (x ∷ xs) h = record {
    back = suc h.back;
    at = omega (arith, h.at);
    soon = h.soon;
    named = h.named;
    there = record { within = omega (arith, h.there.within); first = rw w h.there.first; due = h.there.due };
  }

  module _ (w : is_due minute e ≡ true) where
    alone : NoneDue es minute → first_due minute (e ∷ es) ≡ e
    unfolding first_due earliest
    alone h = rw (w, none_kept minute es h.none)

    with_others : (k : ℕ) → DueAt es minute k → first_due minute (e ∷ es) ≡ sooner_of e (get_or es k nobody)
    unfolding first_due
    with_others k h = rw w (kept_first minute e es (some_at minute k es h.within h.due) ∙ ap (sooner_of e) h.first)

    here : first_due minute (e ∷ es) ≡ e → First minute i (e ∷ es) (item i e)
    here q = record { back = 0; at = omega arith; soon = refl; named = refl; there = record { within = omega arith; first = q; due = w } }

    -- what is due goes before all that fall due later
    heads_more : (xs : List Due) → Heads minute (i + 1) es xs → Heads minute i (e ∷ es) (put comes-sooner xs (item i e))
    heads_more [] h = here (alone h)
    heads_more (x ∷ xs) h = go (cases_Bool (sooner m e))
      where
        m : Entry
        m = get_or es h.back nobody

        same : comes-sooner x (item i e) ≡ sooner m e
        same = ap (λ (n : ℕ). comes-sooner (record { minute = n; aref = x.aref; place = 0 }) (item i e)) h.soon ∙ ap (λ (n : ℕ). comes-sooner (record { minute = m.due; aref = n; place = 0 }) (item i e)) h.named

        go : (sooner m e ≡ true) ⊎ (sooner m e ≡ false) → Heads minute i (e ∷ es) (cond (comes-sooner x (item i e)) (x ∷ put comes-sooner xs (item i e)) (item i e ∷ (x ∷ xs)))
        go (inl q) = rw (cond-true (comes-sooner x (item i e)) (x ∷ put comes-sooner xs (item i e)) (item i e ∷ (x ∷ xs)) (same ∙ q)) (record {
          back = suc h.back;
          at = omega (arith, h.at);
          soon = h.soon;
          named = h.named;
          there = record { within = omega (arith, h.there.within); first = with_others h.back h.there ∙ cond-true (sooner m e) m e q; due = h.there.due };
        })
        go (inr q) = rw (cond-false (comes-sooner x (item i e)) (x ∷ put comes-sooner xs (item i e)) (item i e ∷ (x ∷ xs)) (same ∙ q)) (here (with_others h.back h.there ∙ cond-false (sooner m e) m e q))

length-put : {T : Type 0} (before : T → T → Bool) (xs : List T) (x : T) → length (put before xs x) ≡ length xs + 1
length-put before [] x = refl
length-put before (y ∷ ys) x = go (length-put before ys x) (before y x)
  where
    go : length (put before ys x) ≡ length ys + 1 → (b : Bool) → length (cond b (y ∷ put before ys x) (x ∷ (y ∷ ys))) ≡ suc (length ys) + 1
    go ih true = omega arith
    go ih false = omega arith

-- one turn of the loop, which goes from the last place to the first
module _ (minute : ℕ) (places rest next : List Record) (one : Record) (back : OneBack places rest next one) (xs : List Due)
    (H : Heads minute (length rest) (map entry_of (drop (length rest) places)) xs) where
  later : Heads minute (length next + 1) (map entry_of (drop (length rest) places)) xs
  later = subst (λ n. Heads minute n (map entry_of (drop (length rest) places)) xs) back.count H

  pub turn_past : is_due minute (entry_of one) ≡ false → Heads minute (length next) (map entry_of (drop (length next) places)) xs
  turn_past w = subst (λ rs. Heads minute (length next) (map entry_of rs) xs) (sym back.behind) (heads_past minute (length next) _ _ w xs later)

  pub turn_more : is_due minute (entry_of one) ≡ true → Heads minute (length next) (map entry_of (drop (length next) places)) (put comes-sooner xs (item (length next) (entry_of one)))
  turn_more w = subst (λ rs. Heads minute (length next) (map entry_of rs) (put comes-sooner xs (item (length next) (entry_of one)))) (sym back.behind) (heads_more minute (length next) _ _ w xs later)

-- before the first turn the shelf is empty
pub turn_none : (minute i : ℕ) (places : List Record) → length places ≤ i → Heads minute i (map entry_of (drop i places)) []
unfolding some first_due
turn_none minute i places h = subst (λ (rs : List Record). NoneDue (map entry_of rs) minute) (sym (drop_all i places h)) (record { none = refl; first = refl })

-- after the last turn the first item is of the earliest entry of all
pub first_is : (minute : ℕ) (es : List Entry) (x : Due) → First minute 0 es x → DueAt es minute x.place
first_is minute es x f = let e : f.back ≡ x.place = omega (arith, f.at) in subst (DueAt es minute) e f.there

pub one_more : (xs ys : List Due) (x : Due) → ys ≡ put comes-sooner xs x → length ys ≡ length xs + 1
one_more xs ys x e = ap length e ∙ length-put comes-sooner xs x
