-- A visit to a pending defender: the lines that it writes, and what is short after it.
use Rattle.std.proofs.Common.{◌≡◌, ℕ, ◌+◌, ◌-◌, ◌<◌, ◌≤◌, Bool, true, false, cond, List, length, get_or, take, sym, refl, ap, ◌∙◌, arith}
use Rattle.std.proofs.lemmas.Bool.{cond-true, cond-false}
use Rattle.terms.specs.declared.request.Request.{Request}
use Rattle.terms.specs.Words.{is_pending}
use Rattle.journal.specs.declared.line.Line.{Line}
use Rattle.journal.specs.declared.line.LineKind.TheVariants.{Superseded}
use Rattle.shelf.specs.declared.defender.Defender.{Defender}
use Rattle.journal.specs.Accounts.{NeverBelowZero}
use Rattle.law.specs.View.{Entry, aref_of, start_of, length_of, living}
use Rattle.law.specs.Posting.{post, by_day, holding}
use Rattle.law.specs.Preemption.{meets_shortage, supersede}
use Rattle.law.proofs.ShrinkingShortage.{Later, later_refl, later_supersede}
use Rattle.desk.specs.declared.memory.Desk.{Desk}
use Rattle.desk.specs.declared.record.Record.{Record}
use Rattle.desk.specs.Desks.{view}
use Rattle.desk.specs.Records.{entry_of, held_on}
use Rattle.posting.specs.declared.sides.Side.TheVariants as sides
use Rattle.posting.specs.Sides.{unread}
use Rattle.defending.specs.LinedUp.{entry_at, lined}
use Rattle.moving.specs.declared.Move.{Move}
use Rattle.moving.specs.Midway.{Midway}
use Rattle.moving.specs.Moves.{moved, Movable}
use Rattle.moving.proofs.FromSound.{moves_all}
use Rattle.visits.proofs.OneVisit.{supersede_visit}
use Rattle.preempting.specs.Visits.{StandsReady, ShortShown, AllReady, superseding}
use Rattle.preempting.proofs.Folds.{visits, visits_later_at, grown}
use Rattle.preempting.proofs.InTurn.{all_others}
use Rattle.preempting.proofs.Shortages.{entry_is, held_now}

-- all that a superseded record holds moves to free
abbrev pub superseded_move : ℕ → Request → Record → ℕ → Move
superseded_move t r one i = record { minute = t; kind = Superseded; a = one.standing.request.aref; b = r.aref; giver = sides.Held i; taker = sides.Free; most = 20000 }

module _ (d : Desk) (M : Midway d) (t : ℕ) (r : Request) (i : ℕ) (h : i < length d.places.now) (ready : StandsReady r (view d) (entry_at (view d).places i)) where
  abbrev e : Entry
  e = entry_at (view d).places i

  abbrev one : Record
  one = get_or d.places.now i unread

  same : entry_of one ≡ e
  same = entry_is d M.showing r i h unread ready

  -- what is short after the visit, whether the record is superseded or passed over
  pub short_after : (amounts amounts' : List ℕ) → ShortShown r (view d).lines amounts → length amounts' ≡ length amounts →
      ((k : ℕ) → k < r.length → get_or amounts' k 0 ≡ get_or amounts k 0 - held_on (r.start + k) (get_or d.places.now i unread)) → ShortShown r (supersede t r (entry_at (view d).places i) (view d).lines) amounts'
  short_after amounts amounts' W long taken = record {
    days = long ∙ W.days;
    shows = λ k l.
        let less = (supersede_visit r (view d).lines t e ready.own_term (view d).lines M.solvent (λ j. refl)).1.less_short (r.start + k) in
        omega (arith, taken k l, W.shows k l, held_now d M.showing r i h unread ready (r.start + k), less);
  }

  pub not_pending : is_pending one.standing.state ≡ false → superseding t r (entry_at (view d).places i) (view d).lines ≡ (view d).lines
  not_pending p = cond-false _ _ _ (ap (λ (x : Entry). is_pending x.standing.state) (sym same) ∙ p)

  pub pending : is_pending one.standing.state ≡ true → superseding t r (entry_at (view d).places i) (view d).lines ≡ supersede t r (entry_at (view d).places i) (view d).lines
  pending p = cond-true _ _ _ (ap (λ (x : Entry). is_pending x.standing.state) (sym same) ∙ p)

  pub passed_over : meets_shortage r (entry_at (view d).places i) (view d).lines ≡ false → supersede t r (entry_at (view d).places i) (view d).lines ≡ (view d).lines
  passed_over p = cond-false _ _ _ p

  pub superseded_lines : meets_shortage r (entry_at (view d).places i) (view d).lines ≡ true →
      by_day (moved (superseded_move t r (get_or d.places.now i unread) i)) (start_of (entry_of (get_or d.places.now i unread))) (length_of (entry_of (get_or d.places.now i unread))) (view d).lines
      ≡ supersede t r (entry_at (view d).places i) (view d).lines
  superseded_lines p =
      moves_all d M t Superseded (aref_of (entry_of one)) r.aref (omega arith) (start_of (entry_of one)) (length_of (entry_of one))
      ∙ (ap (λ (x : Entry). by_day (λ day ms. post t Superseded (aref_of x) r.aref day (holding ms (aref_of x) day) ms) (start_of x) (length_of x) (view d).lines) same
      ∙ sym (cond-true _ _ _ p))

  pub superseded_movable : Movable d (superseded_move t r (get_or d.places.now i unread) i) (start_of (entry_of (get_or d.places.now i unread))) (length_of (entry_of (get_or d.places.now i unread)))
  superseded_movable = record {
    inner = omega arith;
    gives = refl;
    not_flown = λ q. let z : ◌≡◌ {A = ℕ} 0 1 = cc in omega arith;
    at_giver = λ day lo hi. (h, lo, omega (arith, ap length_of same, ready.month), ap living same ∙ ready.lives);
    gets = λ day lo hi some. (refl, omega (arith, M.showing.each_day, ap start_of same, ap length_of same, ready.inside));
    early = omega (arith, ap start_of same, ap length_of same, ready.inside, M.days);
  }

pub superseding_grows : (t : ℕ) (r : Request) (x : Entry) (ls : List Line) → length ls ≤ length (superseding t r x ls)
superseding_grows t r x ls = go (is_pending x.standing.state) (meets_shortage r x ls)
  where
    go : (p q : Bool) → length ls ≤ length (cond p (cond q (by_day (λ day ms. post t Superseded (aref_of x) r.aref day (holding ms (aref_of x) day) ms) (start_of x) (length_of x) ls) ls) ls)
    go true true = grown t Superseded (aref_of x) r.aref (λ day ms. holding ms (aref_of x) day) (start_of x) (length_of x) ls
    go true false = omega arith
    go false q = omega arith

-- the first visits leave the others with no more than they had
pub superseded_later : (d : Desk) → Midway d → (t : ℕ) (r : Request) (xs : List Defender) → AllReady r d xs → (j : ℕ) → Later r (view d).lines (visits (superseding t r) (take j (lined (view d).places xs)) (view d).lines)
superseded_later d M t r xs ready j = visits_later_at (superseding t r) r (λ e. aref_of e ≡ r.aref → ⊥) one (lined (view d).places xs) j (all_others d r xs ready) (view d).lines M.solvent
  where
    one : (x : Entry) → (aref_of x ≡ r.aref → ⊥) → (ls : List Line) → NeverBelowZero ls → Later r ls (superseding t r x ls)
    one x ne ls h = go (is_pending x.standing.state)
      where
        go : (p : Bool) → Later r ls (cond p (supersede t r x ls) ls)
        go true = later_supersede r t x ne ls h
        go false = later_refl r ls h
