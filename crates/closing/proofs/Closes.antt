-- A challenger closes in its place.
use Rattle.std.proofs.Common.{◌≡◌, ℕ, ◌+◌, ◌<◌, ◌≤◌, Bool, true, false, cond, ◌⊎◌, List, [], ◌∷◌, length, get_or, set, Some, None, Option, sym, refl, ap, ◌∙◌, inl, inr, arith}
use Rattle.std.proofs.lemmas.Bool.{cases_Bool, and_parts, true≢false}
use Rattle.std.specs.List.{AllByRecursion}
use Rattle.std.proofs.ByRecursion.{All-get_or}
use Rattle.std.proofs.lemmas.List.{length-map}
use Rattle.terms.specs.declared.words.State.{State}
use Rattle.terms.specs.Words.{is_pending}
use Rattle.sheets.specs.Laws.{Possible}
use Rattle.sheets.specs.Rules.{Rules}
use Rattle.journal.specs.declared.line.Line.{Line}
use Rattle.law.specs.View.{Entry, is, living, find, count, nobody, length_of}
use Rattle.law.specs.Keeps.{Termed}
use Rattle.law.specs.Places.{match_open, in_state, due_at, over_at}
use Rattle.law.specs.Calls.{closed_state, close, close_if_last}
use Rattle.desk.specs.declared.memory.Desk.{Desk}
use Rattle.desk.specs.Desks.{view}
use Rattle.desk.specs.Records.{entry_of}
use Rattle.posting.specs.Sides.{place}
use Rattle.moving.specs.Midway.{Midway}
use Rattle.restating.proofs.SameRecord.{there_is, early_term}
use Rattle.admitting.proofs.AtPlace.{Sought, none_changed, change_at}
use Rattle.sheets.specs.FallingDue.{due_of}
use Rattle.closing.specs.LastClosed.{ToClose, ClosesAt}

not_found : (a : ℕ) (es : List Entry) → living (find a es) ≡ false → count a es ≤ 0
unfolding find count
not_found a [] h = omega arith
not_found a (e ∷ es) h = go (λ q. not_found a es q) (cases_Bool (is a e))
  where
    go : (living (find a es) ≡ false → count a es ≤ 0) → (is a e ≡ true) ⊎ (is a e ≡ false) → cond (is a e) 1 0 + count a es ≤ 0
    go ih (inl q) = let w = rw q at h in absurd (true≢false (sym (and_parts _ _ q).0 ∙ w))
    go ih (inr q) = let w = rw q at h in rw q (omega (arith, ih w))

-- nothing closes while a match is open, nor where nobody stands for the challenger
pub still_open : (es : List Entry) (b : ℕ) → match_open es ≡ true → ClosesAt es b None
still_open es b q R t ls = rw q

pub closes_where : (es : List Entry) (b : ℕ) → match_open es ≡ false → (o : Option ℕ) → Sought es b o → ClosesAt es b o
closes_where es b q None s = λ R t ls. rw q (none_changed b (close R t ls) es (not_found b es (ap living s)))
closes_where es b q (Some j) s = record { none_open = q; within = s.within; stands = s.stands }

-- the challenger in its place, in its new state and with a new minute at which it falls due
module _ (R : Rules) (t : ℕ) (ls : List Line) where
  close_is : (e : Entry) → close R t ls e ≡ due_at (due_of R t (in_state (closed_state ls e) e).standing) (in_state (closed_state ls e) e)
  close_is e = go (is_pending (closed_state ls e))
    where
      go : (b : Bool) →
          cond b (due_at (t + R.confirm_time (in_state (closed_state ls e) e).standing) (in_state (closed_state ls e) e)) (due_at (over_at e) (in_state (closed_state ls e) e))
          ≡ due_at (cond b (t + R.confirm_time (in_state (closed_state ls e) e).standing) (over_at e)) (in_state (closed_state ls e) e)
      go true = refl
      go false = refl

  pub closes : (es : List Entry) (b j : ℕ) → ToClose es b j → count b es ≤ 1 →
      close_if_last R t ls b es ≡ set es j (due_at (due_of R t (in_state (closed_state ls (get_or es j nobody)) (get_or es j nobody)).standing) (in_state (closed_state ls (get_or es j nobody)) (get_or es j nobody)))
  closes es b j C o = rw C.none_open (change_at b j (close R t ls) es o C.within C.stands ∙ ap (set es j) (close_is (get_or es j nobody)))

-- the challenger of a desk midway
module _ (d : Desk) (M : Midway d) (T : AllByRecursion (Termed (view d).days) (view d).places) (b j : ℕ) (C : ToClose (view d).places b j) where
  pub in_places : j < length d.places.now
  in_places = omega (arith, C.within, length-map d.places.now entry_of)

  pub lives : living (get_or (view d).places j nobody) ≡ true
  lives = (and_parts (living (get_or (view d).places j nobody)) _ C.stands).0

  pub term : Termed (view d).days (get_or (view d).places j nobody)
  term = All-get_or (Termed (view d).days) (view d).places j nobody C.within T

  pub possible : Possible (place d.places.now j).standing.request
  possible = let e = ap length_of (there_is d M j in_places lives) in (omega (arith, term.2 lives), omega (arith, term.0))

  pub early : (place d.places.now j).standing.request.start + (place d.places.now j).standing.request.length ≤ 400
  early = early_term d M j in_places lives term

  -- in its place stands what the rules make of it
  pub closed_is : (R : Rules) (t : ℕ) (s : State) (due : ℕ) → s ≡ closed_state (view d).lines (get_or (view d).places j nobody) → due ≡ due_of R t (in_state s (entry_of (place d.places.now j))).standing →
      set (view d).places j (due_at due (in_state s (get_or (view d).places j nobody))) ≡ close_if_last R t (view d).lines b (view d).places
  closed_is R t s due es ed =
      let e = get_or (view d).places j nobody in
      ap (λ n. set (view d).places j (due_at n (in_state s e))) ed
      ∙ (ap (λ (x : Entry). set (view d).places j (due_at (due_of R t (in_state s x).standing) (in_state s e))) (sym (there_is d M j in_places lives))
      ∙ (ap (λ (x : State). set (view d).places j (due_at (due_of R t (in_state x e).standing) (in_state x e))) es
      ∙ sym (closes R t (view d).lines (view d).places b j C (M.once b))))
