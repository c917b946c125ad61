-- The record in a place loses what was set aside of it: the move may be made, how many lines that writes, and what is
-- written then.
use Rattle.std.proofs.Common.{◌≡◌, ℕ, ◌+◌, ◌*◌, ◌<◌, ◌≤◌, true, List, length, get_or, set, sym, refl, ap, ◌∙◌, subst, arith}
use Rattle.std.specs.List.{AllByRecursion}
use Rattle.std.proofs.ByRecursion.{All-get_or, All-set}
use Rattle.std.proofs.lemmas.List.{length-map, length-take-le, get_or-map}
use Rattle.std.proofs.lemmas.Bool.{and_parts, and_from, eq-eqb, eqb-true}
use Rattle.terms.specs.declared.request.Request.{Request}
use Rattle.terms.specs.declared.refusal.Refusal.TheVariants.{JournalFull}
use Rattle.terms.specs.declared.words.State.{State}
use Rattle.sheets.specs.Rules.{Rules}
use Rattle.journal.specs.declared.line.Line.{Line}
use Rattle.journal.specs.declared.line.LineKind.TheVariants.{Lost}
use Rattle.journal.specs.Accounts.{held, aside, balance}
use Rattle.law.specs.View.{View, Entry, living, aref_of, length_of, find, nobody}
use Rattle.law.specs.Keeps.{Termed, InTerm}
use Rattle.law.specs.Places.{change, in_state, due_at, over_at}
use Rattle.law.specs.Posting.{by_day, busy_days}
use Rattle.law.specs.Calls.{close_if_last, declined, makes, refusal, done}
use Rattle.desk.specs.declared.memory.Desk.{Desk}
use Rattle.desk.specs.Desks.{view}
use Rattle.desk.specs.Records.{entry_of}
use Rattle.desk.specs.Soundness.{Sound}
use Rattle.posting.specs.declared.sides.Side.TheVariants.{Held, Aside}
use Rattle.posting.specs.Sides.{unread, place, There, account}
use Rattle.moving.specs.Midway.{Midway}
use Rattle.moving.specs.Moves.{moved, Movable, Along}
use Rattle.moving.proofs.FromSound.{midway_of, moves_all}
use Rattle.moving.proofs.Walks.{length-walk}
use Rattle.restating.proofs.SameRecord.{there_is, early_term, along_held}
use Rattle.admitting.specs.Writing.{Writes}
use Rattle.admitting.proofs.AtPlace.{change_at}
use Rattle.admitting.proofs.Written.{book_after, writes_none, writes_all}
use Rattle.declining.specs.Losing.{lost, left_as, PlaceOf}

module _ (d : Desk) (S : Sound d) (i : ℕ) (h : i < length d.places.now) (l : living (get_or (view d).places i nobody) ≡ true) (t : ℕ) where
  abbrev v : View
  v = view d

  abbrev e : Entry
  e = get_or (view d).places i nobody

  abbrev p : Request
  p = (place d.places.now i).standing.request

  abbrev b : ℕ
  b = (place d.places.now i).against

  abbrev pub lines_after : List Line
  lines_after = lost t (get_or (view d).places i nobody) (view d).lines

  M : Midway d
  M = midway_of d S

  within : i < length (view d).places
  within = omega (arith, length-map d.places.now entry_of)

  pub term : Termed (view d).days (get_or (view d).places i nobody)
  term = All-get_or (Termed v.days) v.places i nobody within S.kept.terms

  there : e ≡ entry_of (place d.places.now i)
  there = there_is d M i h l

  pub along_aside : Along d (Aside i) (place d.places.now i).standing.request.start (place d.places.now i).standing.request.length
  along_aside = record {
    at = (along_held d M i h l term).at;
    not_flown = λ q. let z : ◌≡◌ {A = ℕ} 0 1 = cc in omega arith;
    early = early_term d M i h l term;
  }

  pub early : (place d.places.now i).standing.request.start + (place d.places.now i).standing.request.length ≤ 400
  early = early_term d M i h l term

  -- where MW are set aside, the challenger stands in its place
  module _ (j : ℕ) (P : PlaceOf (view d).places (place d.places.now i).against j) where
    faces : (day : ℕ) → 0 < balance v.lines (aside p.aref b) day → (account d.places.now (Held j) ≡ held b) × There (length d.free.now) d.places.now (Held j) day
    faces day some =
        let w = (S.kept.competing p.aref b day some).0 in
        let F = P w.0 in
        let lt : j < length d.places.now = omega (arith, F.within, length-map d.places.now entry_of) in
        let q : find b v.places ≡ entry_of (place d.places.now j) = F.found ∙ get_or-map entry_of d.places.now j unread nobody lt in
        let u : InTerm (entry_of (place d.places.now j)) day = subst (λ (x : Entry). InTerm x day) q w in
        let r = (All-get_or (Termed v.days) v.places j nobody F.within S.kept.terms).0 in
        let n = ap length_of (sym F.found ∙ q) in
        (ap held (ap aref_of (sym q ∙ F.found) ∙ eqb-true _ _ (and_parts _ _ F.stands).1), (lt, u.1, omega (arith, u.2), u.0))

    pub may : Movable d (record { minute = t; kind = Lost; a = (place d.places.now i).standing.request.aref; b = (place d.places.now i).against; giver = Aside i; taker = Held j; most = 20000 }) (place d.places.now i).standing.request.start (place d.places.now i).standing.request.length
    may = record {
      inner = omega arith;
      gives = refl;
      not_flown = along_aside.not_flown;
      at_giver = along_aside.at;
      gets = λ day lo hi some. faces day some;
      early = early;
    }

    pub same_lines : by_day (moved (record { minute = t; kind = Lost; a = (place d.places.now i).standing.request.aref; b = (place d.places.now i).against; giver = Aside i; taker = Held j; most = 20000 })) (place d.places.now i).standing.request.start (place d.places.now i).standing.request.length (view d).lines ≡ lines_after
    same_lines = moves_all d M t Lost p.aref b (omega arith) p.start p.length ∙ ap (λ (x : Entry). lost t x v.lines) (sym there)

  pub used_is : d.used ≡ length (view d).lines
  used_is = sym (length-take-le d.used d.lines.now S.written)

  pub how_many : (count : ℕ) → count ≡ busy_days (balance (view d).lines (account d.places.now (Aside i))) (place d.places.now i).standing.request.start (place d.places.now i).standing.request.length → length lines_after ≡ length (view d).lines + count
  how_many count q =
      ap (λ (x : Entry). length (lost t x v.lines)) there
      ∙ (length-walk t Lost p.aref b (λ k ls. balance ls (aside p.aref b) k) (λ k ls. omega arith) v.lines M.solvent (omega arith) (λ k xs same. same (aside p.aref b) (omega arith)) p.start p.length
      ∙ ap (λ (n : ℕ). length v.lines + n) (sym q))

  -- the record in another state, due when its last day is over
  abbrev next : State → Entry
  next s = due_at (1440 * ((place d.places.now i).standing.request.start + (place d.places.now i).standing.request.length)) (in_state s (get_or (view d).places i nobody))

  changed : (s : State) → change (aref_of e) (λ x. due_at (over_at x) (in_state s x)) v.places ≡ set v.places i (next s)
  changed s =
      change_at (aref_of e) i (λ x. due_at (over_at x) (in_state s x)) v.places (M.once (aref_of e)) within (and_from _ _ l (eq-eqb _ _ refl))
      ∙ ap (λ (x : Entry). set v.places i (due_at (over_at x) (in_state s e))) there

  pub terms_after : (s : State) → AllByRecursion (Termed (view d).days) (set (view d).places i (due_at (1440 * ((place d.places.now i).standing.request.start + (place d.places.now i).standing.request.length)) (in_state s (get_or (view d).places i nobody))))
  terms_after s = All-set (Termed v.days) v.places i (next s) (term.0, term.1, λ q. term.2 l) S.kept.terms

  module _ (R : Rules) where
    abbrev made_places : State → List Entry
    made_places s = close_if_last R t lines_after (place d.places.now i).against (set (view d).places i (next s))

    makes_is : declined R t e v ≡ makes lines_after (made_places (left_as lines_after e)) p.aref (left_as lines_after e)
    makes_is =
        ap (λ es. makes lines_after (close_if_last R t lines_after e.against es) (aref_of e) (left_as lines_after e)) (changed (left_as lines_after e))
        ∙ ap (λ (x : Entry). makes lines_after (close_if_last R t lines_after x.against (set v.places i (next (left_as lines_after e)))) (aref_of x) (left_as lines_after e)) there

    pub refuses : (view d).room < length lines_after → Writes (view d) t (declined R t (get_or (view d).places i nobody) (view d)) (refusal JournalFull) (view d)
    refuses r = subst (λ m. Writes v t m (refusal JournalFull) v) (sym makes_is) (writes_none v t lines_after (made_places (left_as lines_after e)) p.aref (left_as lines_after e) r)

    pub says : length lines_after ≤ (view d).room → (first count : ℕ) → first ≡ d.used → length lines_after ≡ length (view d).lines + count → (s : State) → s ≡ left_as lines_after (get_or (view d).places i nobody) → (w : View) → w ≡ book_after (view d) lines_after (made_places s) t →
        Writes (view d) t (declined R t (get_or (view d).places i nobody) (view d)) (done (place d.places.now i).standing.request.aref s first count) w
    says r first count ef ec s es w ew =
        subst (λ (x : State). w ≡ book_after v lines_after (made_places x) t → Writes v t (declined R t e v) (done p.aref x first count) w) (sym es)
        (λ q. subst (λ m. Writes v t m (done p.aref (left_as lines_after e) first count) w) (sym makes_is) (writes_all v t lines_after (made_places (left_as lines_after e)) p.aref (left_as lines_after e) r first count (ef ∙ used_is) ec w q)) ew
