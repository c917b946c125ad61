-- Entering a request: the new record is seated and granted, and the answer is what the rules make of it.
use Rattle.std.proofs.Common.{◌≡◌, ℕ, ◌+◌, ◌≤◌, min, true, eqb, ◌⊎◌, length, set, sym, refl, ap, ◌∙◌, inl, inr, arith}
use Rattle.std.proofs.lemmas.Bool.{and_parts, leb-true, eq-eqb, ne_eqb, cases_eq}
use Rattle.terms.specs.declared.request.Request.{Request}
use Rattle.terms.specs.declared.words.State.{State}
use Rattle.terms.specs.Limits.{sellable, sold_length, sold_amount}
use Rattle.terms.specs.Words.{is_living}
use Rattle.sheets.specs.Rules.{Rules}
use Rattle.journal.specs.declared.line.LineKind.TheVariants.{Granted}
use Rattle.journal.specs.Accounts.{free, held, aside, balance}
use Rattle.law.specs.View.{View, Entry, aref_of, start_of, living, count}
use Rattle.law.specs.Places.{seat, new_record}
use Rattle.law.specs.Posting.{by_day, busy_days}
use Rattle.law.specs.Preemption.{wanted, grant}
use Rattle.law.proofs.Terms.{checked_possible}
use Rattle.desk.specs.declared.memory.Desk.{Desk}
use Rattle.desk.specs.declared.record.Record.{Record}
use Rattle.desk.specs.Desks.{view}
use Rattle.desk.specs.Records.{entry_of}
use Rattle.desk.specs.Soundness.{Shows, Sound}
use Rattle.posting.specs.declared.sides.Side.TheVariants as sides
use Rattle.posting.specs.Postable.{with_lines}
use Rattle.posting.specs.Sides.{place}
use Rattle.answers.proofs.Written.{book_after}
use Rattle.moving.specs.declared.Move.{Move}
use Rattle.moving.specs.Midway.{Midway, with_places}
use Rattle.moving.specs.Moves.{moved, Movable, Along}
use Rattle.moving.proofs.OnceSeated.{once_entered}
use Rattle.moving.proofs.Walks.{busy_same, length-walk}
use Rattle.entering.specs.Enterable.{Enterable, NewRecord}
use Rattle.entering.proofs.Seats.{seated_within, seated_entry, nobody_yet, none_held_yet, none_aside_yet, empty_shows}

-- what is asked for is 1 MW or more
pub asks_some : (r : Request) → sellable r ≡ true → (1 ≤ r.mw) × (r.mw ≤ 20000)
asks_some r h =
    let w = (and_parts (sold_amount r.mw) _ (and_parts (sold_length r.product r.length) _ h).1).0 in
    let x = and_parts _ _ w in
    (leb-true 1 r.mw x.0, leb-true r.mw 20000 x.1)

-- on a day something is granted exactly where something is free
granted_where_free : (mw x : ℕ) → 1 ≤ mw → eqb (min x mw) 0 ≡ eqb x 0
granted_where_free mw x h = go (cases_eq x 0)
  where
    go : (x ≡ 0) ⊎ (x ≡ 0 → ⊥) → eqb (min x mw) 0 ≡ eqb x 0
    go (inl e) = eq-eqb (min x mw) 0 (omega arith) ∙ sym (eq-eqb x 0 e)
    go (inr e) = ne_eqb (min x mw) 0 (λ (q : min x mw ≡ 0). e (omega arith)) ∙ sym (ne_eqb x 0 e)

-- what is free moves to the new record, up to its MW
abbrev pub granting : ℕ → Request → ℕ → Move
granting minute r i = record { minute = minute; kind = Granted; a = 0; b = r.aref; giver = sides.Free; taker = sides.Held i; most = r.mw }

module _ (d : Desk) (S : Sound d) (minute : ℕ) (r : Request) (i : ℕ) (E : Enterable (view d) minute r i) where
  pub free_along : Along d sides.Free r.start r.length
  free_along = record { at = λ day lo hi. omega (arith, S.each_day, E.inside); not_flown = λ e. let z : ◌≡◌ {A = ℕ} 0 1 = cc in omega arith; early = omega (arith, E.inside, S.kept.days) }

  -- how many lines the grant writes
  pub grant_size : length (by_day (grant minute r) r.start r.length (view d).lines) ≡ length (view d).lines + busy_days (balance (view d).lines free) r.start r.length
  unfolding wanted
  grant_size =
      length-walk minute Granted 0 r.aref (λ k ls. min (balance ls free k) r.mw) (λ k ls. omega arith) (view d).lines S.kept.solvent (omega arith) (λ k xs h. ap (λ (x : ℕ). min x r.mw) (h free (omega arith))) r.start r.length
      ∙ ap (λ (n : ℕ). length (view d).lines + n) (busy_same _ _ (λ k. granted_where_free r.mw (balance (view d).lines free k) (asks_some r E.checked).0) r.start r.length)

  -- a new record with no MW
  module _ (R : Rules) (state : State) (lives : is_living state ≡ true) (new : Record) (N : NewRecord R minute r state new) where
    pub new_lives : living (entry_of new) ≡ true
    new_lives = ap living N.what ∙ lives

    pub new_shows : Shows (balance (view d).lines) new
    new_shows = empty_shows (balance (view d).lines) new new_lives N.none_held N.none_aside
        (λ day. ap (λ (e : Entry). balance (view d).lines (held (aref_of e)) day) N.what ∙ none_held_yet (view d) S.kept r.aref E.above day)
        (λ day. ap (λ (e : Entry). balance (view d).lines (aside (aref_of e) e.against) day) N.what ∙ none_aside_yet (view d) S.kept r.aref E.above 0 day)

    pub new_once : (a : ℕ) → count a (set (view d).places i (entry_of new)) ≤ 1
    new_once = once_entered (view d).places i (entry_of new) E.within S.kept.once (ap (λ (e : Entry). count (aref_of e) (view d).places) N.what ∙ nobody_yet (view d) S.kept r.aref E.above)

    -- the desk with the record in its place
    module _ (e : Desk) (M : Midway e) (V : view e ≡ with_places (view d) (set (view d).places i (entry_of new))) where
      places_are : (view e).places ≡ set (view d).places i (entry_of new)
      places_are = ap (λ (w : View). w.places) V

      stands_there : entry_of (place e.places.now i) ≡ new_record R minute r state
      stands_there = seated_entry e.places.now (view d).places i (entry_of new) E.within places_are ∙ N.what

      free_days : length e.free.now ≡ length (view d).days.amounts
      free_days = M.showing.each_day ∙ ap (λ (w : View). length w.days.amounts) V

      pub grant_movable : Movable e (granting minute r i) r.start r.length
      grant_movable = record {
        inner = omega arith;
        gives = refl;
        not_flown = λ q. let z : ◌≡◌ {A = ℕ} 0 1 = cc in omega arith;
        at_giver = λ day lo hi. omega (arith, free_days, E.inside);
        gets = λ day lo hi some. (
          ap (λ (x : Entry). held (aref_of x)) stands_there,
          (
            seated_within e.places.now (view d).places i (entry_of new) E.within places_are,
            omega (arith, ap start_of stands_there),
            omega (arith, ap start_of stands_there, checked_possible r E.checked),
            ap living stands_there ∙ lives,
          ),
        );
        early = omega (arith, E.inside, S.kept.days);
      }

      -- the lines that the grant writes are those of the rules
      pub grants : by_day (moved (granting minute r i)) r.start r.length (view e).lines ≡ by_day (grant minute r) r.start r.length (view d).lines
      unfolding wanted
      grants = ap (λ (w : View). by_day (moved (granting minute r i)) r.start r.length w.lines) V

      -- the book after the grant, once its minute and AREF are noted
      pub entered_view : (f : Desk) → view f ≡ with_lines (view e) (by_day (moved (granting minute r i)) r.start r.length (view e).lines) →
          book_after (view f) (view f).lines (view f).places minute r.aref
          ≡ book_after (view d) (by_day (grant minute r) r.start r.length (view d).lines) (seat (new_record R minute r state) (view d).places) minute r.aref
      entered_view f W =
          ap (λ (w : View). book_after w w.lines w.places minute r.aref) (W ∙ (ap (with_lines (view e)) grants ∙ ap (λ (w : View). with_lines w (by_day (grant minute r) r.start r.length (view d).lines)) V))
          ∙ ap (λ es. book_after (view d) (by_day (grant minute r) r.start r.length (view d).lines) es minute r.aref) (ap (set (view d).places i) N.what ∙ sym (E.seats (new_record R minute r state)))
