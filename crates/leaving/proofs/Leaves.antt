-- The record in a place leaves: its move may be made, how many lines that writes, and what is written then.
use Rattle.std.proofs.Common.{◌≡◌, ℕ, ◌+◌, ◌<◌, ◌≤◌, true, List, length, get_or, set, sym, refl, ap, ◌∙◌, subst, arith}
use Rattle.std.proofs.ByRecursion.{All-get_or}
use Rattle.std.proofs.lemmas.List.{length-map, length-take-le}
use Rattle.std.proofs.lemmas.Bool.{and_from, eq-eqb}
use Rattle.terms.specs.declared.request.Request.{Request}
use Rattle.terms.specs.declared.refusal.Refusal.TheVariants.{JournalFull}
use Rattle.terms.specs.declared.words.State.TheVariants.{Gone}
use Rattle.journal.specs.declared.line.Line.{Line}
use Rattle.journal.specs.declared.line.LineKind.{LineKind}
use Rattle.journal.specs.Accounts.{Account, sort, from, balance}
use Rattle.law.specs.View.{View, Entry, living, aref_of, start_of, length_of, nobody}
use Rattle.law.specs.Keeps.{Termed}
use Rattle.law.specs.Places.{due_at, leave}
use Rattle.law.specs.Posting.{by_day, busy_days}
use Rattle.law.specs.Calls.{makes, refusal, done}
use Rattle.desk.specs.declared.memory.Desk.{Desk}
use Rattle.desk.specs.Desks.{view}
use Rattle.desk.specs.Records.{entry_of}
use Rattle.desk.specs.Soundness.{Sound}
use Rattle.posting.specs.declared.sides.Side.{Side}
use Rattle.posting.specs.declared.sides.Side.TheVariants.{Held}
use Rattle.posting.specs.Sides.{place, account}
use Rattle.moving.specs.declared.Move.{Move}
use Rattle.moving.specs.Midway.{Midway}
use Rattle.moving.specs.Moves.{moved, Movable}
use Rattle.moving.proofs.FromSound.{midway_of, moves_all}
use Rattle.moving.proofs.Walks.{length-walk}
use Rattle.restating.proofs.SameRecord.{there_is, early_term, along_held}
use Rattle.admitting.specs.Writing.{Writes}
use Rattle.admitting.proofs.AtPlace.{change_at}
use Rattle.admitting.proofs.Written.{book_after, writes_none, writes_all}
use Rattle.leaving.specs.WaysOut.{all_of, leaves_by, WayOut}

module _ (d : Desk) (S : Sound d) (i : ℕ) (h : i < length d.places.now) (l : living (get_or (view d).places i nobody) ≡ true) (t : ℕ) (κ : LineKind) (y : Side) (W : WayOut κ y) where
  abbrev v : View
  v = view d

  abbrev e : Entry
  e = get_or (view d).places i nobody

  abbrev p : Request
  p = (place d.places.now i).standing.request

  abbrev pub lines_after : List Line
  lines_after = by_day (all_of κ t (place d.places.now i).standing.request.aref) (place d.places.now i).standing.request.start (place d.places.now i).standing.request.length (view d).lines

  abbrev what : Move
  what = record { minute = t; kind = κ; a = (place d.places.now i).standing.request.aref; b = 0; giver = Held i; taker = y; most = 20000 }

  M : Midway d
  M = midway_of d S

  within : i < length (view d).places
  within = omega (arith, length-map d.places.now entry_of)

  pub term : Termed (view d).days (get_or (view d).places i nobody)
  term = All-get_or (Termed v.days) v.places i nobody within S.kept.terms

  there : e ≡ entry_of (place d.places.now i)
  there = there_is d M i h l

  inner : 0 < sort (from κ p.aref 0)
  inner = subst (λ (x : Account). 0 < sort x) (sym (W.gives p.aref)) (omega arith)

  pub may : Movable d (record { minute = t; kind = κ; a = (place d.places.now i).standing.request.aref; b = 0; giver = Held i; taker = y; most = 20000 }) (place d.places.now i).standing.request.start (place d.places.now i).standing.request.length
  may = record {
    inner = inner;
    gives = sym (W.gives p.aref);
    not_flown = (along_held d M i h l term).not_flown;
    at_giver = (along_held d M i h l term).at;
    gets = λ day lo hi some. (W.gets d.places.now p.aref, W.there (length d.free.now) d.places.now day (omega (arith, S.each_day, term.1, ap start_of there, ap length_of there)));
    early = early_term d M i h l term;
  }

  pub same_lines : by_day (moved (record { minute = t; kind = κ; a = (place d.places.now i).standing.request.aref; b = 0; giver = Held i; taker = y; most = 20000 })) (place d.places.now i).standing.request.start (place d.places.now i).standing.request.length (view d).lines ≡ lines_after
  same_lines = moves_all d M t κ p.aref 0 inner p.start p.length

  pub used_is : d.used ≡ length (view d).lines
  used_is = sym (length-take-le d.used d.lines.now S.written)

  pub how_many : (count : ℕ) → count ≡ busy_days (balance (view d).lines (account d.places.now (Held i))) (place d.places.now i).standing.request.start (place d.places.now i).standing.request.length → length lines_after ≡ length (view d).lines + count
  how_many count q =
      length-walk t κ p.aref 0 (λ k ls. balance ls (from κ p.aref 0) k) (λ k ls. omega arith) v.lines M.solvent inner (λ k xs same. same (from κ p.aref 0) inner) p.start p.length
      ∙ ap (λ (n : ℕ). length v.lines + n) (ap (λ (x : Account). busy_days (balance v.lines x) p.start p.length) (W.gives p.aref) ∙ sym q)

  makes_is : leaves_by κ t e v ≡ makes lines_after (set v.places i (leave e)) p.aref Gone
  makes_is =
      ap (λ es. makes (by_day (all_of κ t (aref_of e)) (start_of e) (length_of e) v.lines) es (aref_of e) Gone) (change_at (aref_of e) i leave v.places (M.once (aref_of e)) within (and_from _ _ l (eq-eqb _ _ refl)))
      ∙ ap (λ (x : Entry). makes (by_day (all_of κ t (aref_of x)) (start_of x) (length_of x) v.lines) (set v.places i (leave e)) (aref_of x) Gone) there

  pub refuses : (view d).room < length lines_after → Writes (view d) t (leaves_by κ t (get_or (view d).places i nobody) (view d)) (refusal JournalFull) (view d)
  refuses r = subst (λ m. Writes v t m (refusal JournalFull) v) (sym makes_is) (writes_none v t lines_after (set v.places i (leave e)) p.aref Gone r)

  pub says : length lines_after ≤ (view d).room → (first count : ℕ) → first ≡ d.used → length lines_after ≡ length (view d).lines + count → (w : View) → w ≡ book_after (view d) lines_after (set (view d).places i (leave (get_or (view d).places i nobody))) t →
      Writes (view d) t (leaves_by κ t (get_or (view d).places i nobody) (view d)) (done (place d.places.now i).standing.request.aref Gone first count) w
  says r first count ef ec w ew = subst (λ m. Writes v t m (done p.aref Gone first count) w) (sym makes_is) (writes_all v t lines_after (set v.places i (leave e)) p.aref Gone r first count (ef ∙ used_is) ec w ew)

  -- the record keeps the minute at which it fell due
  pub gone_is : due_at (place d.places.now i).due (leave (get_or (view d).places i nobody)) ≡ leave (get_or (view d).places i nobody)
  gone_is = ap (λ (x : Entry). due_at x.due (leave e)) (sym there)
