-- A record is confirmed in its place.
use Rattle.std.proofs.Common.{◌≡◌, ℕ, ◌+◌, ◌*◌, ◌<◌, ◌≤◌, true, length, get_or, set, sym, refl, ap, ◌∙◌, subst, arith}
use Rattle.std.proofs.ByRecursion.{All-get_or}
use Rattle.std.proofs.lemmas.List.{length-map, length-take-le}
use Rattle.std.proofs.lemmas.Bool.{and_from, eq-eqb}
use Rattle.terms.specs.declared.words.State.TheVariants.{Confirmed}
use Rattle.law.specs.View.{View, Entry, living, aref_of, nobody}
use Rattle.law.specs.Keeps.{Termed}
use Rattle.law.specs.Places.{in_state, due_at, over_at, stand_confirmed}
use Rattle.law.specs.Calls.{makes, done}
use Rattle.desk.specs.declared.memory.Desk.{Desk}
use Rattle.desk.specs.Desks.{view}
use Rattle.desk.specs.Records.{entry_of}
use Rattle.desk.specs.Soundness.{Sound}
use Rattle.posting.specs.Sides.{place}
use Rattle.moving.specs.Midway.{Midway}
use Rattle.moving.proofs.FromSound.{midway_of}
use Rattle.restating.proofs.SameRecord.{there_is, early_term}
use Rattle.admitting.specs.Writing.{Writes}
use Rattle.admitting.proofs.AtPlace.{change_at}
use Rattle.admitting.proofs.Written.{book_after, writes_all}
use Rattle.later.specs.Confirming.{confirms}

module _ (d : Desk) (S : Sound d) (i : ℕ) (h : i < length d.places.now) (l : living (get_or (view d).places i nobody) ≡ true) where
  abbrev v : View
  v = view d

  abbrev e : Entry
  e = get_or (view d).places i nobody

  M : Midway d
  M = midway_of d S

  within : i < length (view d).places
  within = omega (arith, length-map d.places.now entry_of)

  there : e ≡ entry_of (place d.places.now i)
  there = there_is d M i h l

  pub early : (place d.places.now i).standing.request.start + (place d.places.now i).standing.request.length ≤ 400
  early = early_term d M i h l (All-get_or (Termed v.days) v.places i nobody within S.kept.terms)

  confirmed : set v.places i (due_at (over_at (entry_of (place d.places.now i))) (in_state Confirmed e)) ≡ set v.places i (stand_confirmed e)
  confirmed = ap (λ (x : Entry). set v.places i (due_at (over_at x) (in_state Confirmed e))) (sym there)

  makes_is : confirms e v ≡ makes v.lines (set v.places i (stand_confirmed e)) (place d.places.now i).standing.request.aref Confirmed
  makes_is =
      ap (λ es. makes v.lines es (aref_of e) Confirmed) (change_at (aref_of e) i stand_confirmed v.places (M.once (aref_of e)) within (and_from _ _ l (eq-eqb _ _ refl)))
      ∙ ap (λ (x : Entry). makes v.lines (set v.places i (stand_confirmed e)) (aref_of x) Confirmed) there

  pub says : (t : ℕ) (w : View) →
      w ≡ book_after (view d) (view d).lines (set (view d).places i (due_at (1440 * ((place d.places.now i).standing.request.start + (place d.places.now i).standing.request.length)) (in_state Confirmed (get_or (view d).places i nobody)))) t →
      Writes (view d) t (confirms (get_or (view d).places i nobody) (view d)) (done (place d.places.now i).standing.request.aref Confirmed d.used 0) w
  says t w ew =
      let n = length-take-le d.used d.lines.now S.written in
      subst (λ m. Writes v t m (done (place d.places.now i).standing.request.aref Confirmed d.used 0) w) (sym makes_is)
      (writes_all v t v.lines (set v.places i (stand_confirmed e)) (place d.places.now i).standing.request.aref Confirmed (omega (arith, n, S.written)) d.used 0 (sym n) (omega arith) w
      (ew ∙ ap (λ es. book_after v v.lines es t) confirmed))
