-- One day more of a move: the posting that it makes may be made, and what it leaves.
use Rattle.std.proofs.Common.{◌≡◌, ℕ, ◌+◌, ◌-◌, ◌<◌, ◌≤◌, min, List, length, sym, ap, ◌∙◌, subst, inr, arith}
use Rattle.std.proofs.lemmas.List.{length-take-le}
use Rattle.std.proofs.lemmas.Bool.{ne_eqb}
use Rattle.terms.specs.Days.{Days}
use Rattle.journal.specs.declared.line.Line.{Line}
use Rattle.journal.specs.Accounts.{Account, sort, balance, NeverBelowZero}
use Rattle.law.specs.View.{View, count, posted_on}
use Rattle.law.specs.Posting.{post, by_day, busy_days}
use Rattle.law.proofs.SoundLines.{Fine, fine_post, fine_days}
use Rattle.desk.specs.declared.memory.Desk.{Desk}
use Rattle.desk.specs.Desks.{view}
use Rattle.posting.specs.Postable.{Showing, Postable, with_lines}
use Rattle.posting.specs.Sides.{There, Reach, stands}
use Rattle.posting.proofs.ShownPut.{stands_is, reach_is}
use Rattle.moving.specs.declared.Move.{Move}
use Rattle.moving.specs.Midway.{Midway}
use Rattle.moving.specs.Moves.{origin, destination, moved, Movable}
use Rattle.moving.proofs.Bounds.{fine_below, account_bound}
use Rattle.moving.proofs.SameView.{same_account, same_there}
use Rattle.moving.proofs.Walks.{by_day_more, by_day_grows, length-post, to_inner, walk_elsewhen, length-walk}

-- a desk over the same days and with the same records, whose lines are fine
pub midway_from : (d e : Desk) → Midway d → Showing e → (view e).days ≡ (view d).days → (view d).places ≡ (view e).places → (n : ℕ) → Fine n (posted_on (view d).days) (view e).lines → Midway e
midway_from d e M S days places n f = record {
  showing = S;
  solvent = f.solvent;
  posted = λ day. f.whole day ∙ ap (λ (ds : Days). posted_on ds day) (sym days);
  amounts = λ day. subst (λ (ds : Days). posted_on ds day ≤ 20000) (sym days) (M.amounts day);
  days = subst (λ (ds : Days). length ds.amounts ≤ 400) (sym days) M.days;
  once = λ c. subst (λ es. count c es ≤ 1) places (M.once c);
}

-- how many lines a move writes
pub length-moves : (d : Desk) → Midway d → (m : Move) → (start days : ℕ) → 0 < sort (origin m) →
    length (by_day (moved m) start days (view d).lines) ≡ length (view d).lines + busy_days (λ day. min (balance (view d).lines (origin m) day) m.most) start days
length-moves d M m start days inner = length-walk m.minute m.kind m.a m.b (λ k ls. min (balance ls (origin m) k) m.most) (λ k ls. omega arith) (view d).lines M.solvent inner
    (λ k xs h. ap (λ (i : ℕ). min i m.most) (h (origin m) inner)) start days

module _ (d : Desk) (M : Midway d) (m : Move) (start days : ℕ) (may : Movable d m start days) where
  abbrev pub after : ℕ → List Line
  after k = by_day (moved m) start k (view d).lines

  -- lines named below a number
  fine_after : (k : ℕ) → (n : ℕ) × (m.a < n) × (m.b < n) × Fine n (posted_on (view d).days) (after k)
  fine_after k =
      let f = fine_below (posted_on (view d).days) (view d).lines M.solvent M.posted (m.a + m.b) in
      let p = posted_on (view d).days in (
        f.0,
        omega (arith, f.1),
        omega (arith, f.1),
        fine_days f.0 p (moved m) (λ day ls g. fine_post f.0 p m.minute m.kind m.a m.b day _ ls g (omega arith) may.inner (omega (arith, f.1)) (omega (arith, f.1))) start k (view d).lines f.2,
      )

  -- in the desk e after k days
  module _ (k : ℕ) (lt : k < days) (e : Desk) (S : Showing e) (V : view e ≡ with_lines (view d) (after k)) where
    entries : (view e).places ≡ (view d).places
    entries = ap (λ (w : View). w.places) V

    same_days : length e.free.now ≡ length d.free.now
    same_days = S.each_day ∙ (ap (λ (w : View). length w.days.amounts) V ∙ sym M.showing.each_day)

    once_after : (c : ℕ) → count c (view e).places ≤ 1
    once_after c = subst (λ es. count c es ≤ 1) (sym entries) (M.once c)

    there_giver : There (length e.free.now) e.places.now m.giver (start + k)
    there_giver = same_there e.places.now d.places.now entries (length e.free.now) (length d.free.now) same_days m.giver (start + k) (may.at_giver (start + k) (omega arith) (omega arith))

    pub reaches : Reach (length e.free.now) e.places.now m.giver (start + k)
    reaches = reach_is (balance (view e).lines) e.free.now e.places.now S.shown once_after m.giver (start + k) there_giver

    reads : stands e.free.now e.places.now m.giver (start + k) ≡ balance (after k) (origin m) (start + k)
    reads =
        stands_is (balance (view e).lines) e.free.now e.places.now S.shown once_after m.giver (start + k) there_giver may.not_flown
        ∙ (ap (λ (x : Account). balance (view e).lines x (start + k)) (same_account e.places.now d.places.now entries m.giver ∙ may.gives)
        ∙ ap (λ (w : View). balance w.lines (origin m) (start + k)) V)

    -- the lesser of what is read and the most
    pub least : (stood mw : ℕ) → stood ≡ stands e.free.now e.places.now m.giver (start + k) → mw ≡ min stood m.most → mw ≡ min (balance (after k) (origin m) (start + k)) m.most
    least stood mw read is = is ∙ ap (λ (i : ℕ). min i m.most) (read ∙ reads)

    unmoved : balance (after k) (origin m) (start + k) ≡ balance (view d).lines (origin m) (start + k)
    unmoved = walk_elsewhen m.minute m.kind m.a m.b (λ j ls. min (balance ls (origin m) j) m.most) (λ j ls. omega arith) start k (view d).lines M.solvent (origin m) may.inner (start + k) (inr (omega arith))

    module _ (roomy : length (after days) ≤ (view d).room) (mw : ℕ) (is : mw ≡ min (balance (after k) (origin m) (start + k)) m.most) where
      pub next : after (k + 1) ≡ post m.minute m.kind m.a m.b (start + k) mw (after k)
      next = by_day_more (moved m) start k (view d).lines ∙ ap (λ (i : ℕ). post m.minute m.kind m.a m.b (start + k) i (after k)) (sym is)

      some_there : 0 < mw → 0 < balance (view d).lines (origin m) (start + k)
      some_there h = omega (arith, unmoved, is)

      written : length (view e).lines ≡ e.used
      written = length-take-le e.used e.lines.now S.written

      room_left : 0 < mw → e.used < length e.lines.now
      room_left h =
          let q = length-post m.minute m.kind m.a m.b (start + k) mw (after k) in
          let q' = rw (ne_eqb mw 0 (λ (z : mw ≡ 0). omega arith)) at q in
          let u = by_day_grows (moved m) (λ j ls. omega (arith, length-post m.minute m.kind m.a m.b j (min (balance ls (origin m) j) m.most) ls)) start (k + 1) (days - (k + 1)) (view d).lines in
          let z : (k + 1) + (days - (k + 1)) ≡ days = omega arith in
          let u' = rw z at u in
          let l = ap (λ (w : View). length w.lines) V in
          let r = ap (λ (w : View). w.room) V in
          omega (arith, ap length next, written)

      pub postable_after : Postable e m.minute m.kind m.a m.b m.giver m.taker (start + k) mw
      postable_after =
          let f = fine_after k in
          let g = fine_post f.0 (posted_on (view d).days) m.minute m.kind m.a m.b (start + k) mw (after k) f.3 (omega (arith, is)) may.inner f.1 f.2 in
          let same = ap (λ (w : View). w.lines) V in
          record {
            solvent = subst NeverBelowZero (sym same) f.3.solvent;
            once = once_after;
            gives = same_account e.places.now d.places.now entries m.giver ∙ may.gives;
            gets = λ h. same_account e.places.now d.places.now entries m.taker ∙ (may.gets (start + k) (omega arith) (omega arith) (some_there h)).0;
            not_flown = may.not_flown;
            at_giver = there_giver;
            at_taker = λ h. same_there e.places.now d.places.now entries (length e.free.now) (length d.free.now) same_days m.taker (start + k) (may.gets (start + k) (omega arith) (omega arith) (some_there h)).1;
            paid = rw same (omega (arith, is));
            fits = rw same (omega (arith, account_bound _ g.solvent (destination m) (to_inner m.kind m.a m.b) (start + k), g.whole (start + k), M.amounts (start + k)));
            roomy = room_left;
          }

  -- and after those days
  pub midway_after : (k : ℕ) (e : Desk) → Showing e → view e ≡ with_lines (view d) (after k) → Midway e
  midway_after k e S V =
      let f = fine_after k in
      midway_from d e M S (ap (λ (w : View). w.days) V) (sym (ap (λ (w : View). w.places) V)) f.0 (subst (Fine f.0 (posted_on (view d).days)) (sym (ap (λ (w : View). w.lines) V)) f.3)
