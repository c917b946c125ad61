use Rattle.std.proofs.Common.{◌≡◌, ℕ, ◌+◌, ◌-◌, ◌<◌, length, sym, ap, ◌∙◌, subst, arith}
use Rattle.law.specs.View.{View}
use Rattle.law.specs.Posting.{post, by_day}
use Rattle.desk.specs.Desks.{view}
use Rattle.posting.specs.Postable.{Postable, with_lines}
use Rattle.posting.specs.Sides.{Reach, stands}
use Rattle.moving.specs.Moves.{moved}
use Rattle.moving.proofs.Walks.{by_day_none}
use Rattle.moving.proofs.Midways.{reaches, least, postable_after, next, midway_after}
use Rattle.moving.proofs.LedgerKeeps.{midway_in}
use Rattle.moving.proofs.ledger.Ledger.move_by_day.Goals as goal

pub loop-day-init : goal.loop-day-init
loop-day-init c =
    let none : c.args.start - c.args.start ≡ 0 = omega arith in
    rw none (sym (ap (with_lines (view c.args.self.now.desk)) (by_day_none (moved c.args.what) c.args.start (view c.args.self.now.desk).lines)))

pub standing_in-requires : goal.standing_in-requires
standing_in-requires c =
    let k = c.loop-day.day - c.args.start in
    let here : c.args.start + k ≡ c.loop-day.day = omega (arith, c.loop-day.auto.day) in
    let e = c.loop-day.self.desk in
    subst (Reach (length e.free.now) e.places.now c.args.what.giver) here
    (reaches c.args.self.now.desk (midway_in c.args.self.now) c.args.what c.args.start c.args.days c.requires.may k (omega (arith, c.loop-day-test.true)) e (midway_in c.loop-day.self).showing c.loop-day.invariant)

pub post_line-requires : goal.post_line-requires
post_line-requires c =
    let k = c.loop-day.day - c.args.start in
    let here : c.args.start + k ≡ c.loop-day.day = omega (arith, c.loop-day.auto.day) in
    let m = c.args.what in
    let e = c.loop-day.self.desk in
    let shown = (midway_in c.loop-day.self).showing in
    let lt : k < c.args.days = omega (arith, c.loop-day-test.true) in
    let read = c.standing_in.ensures ∙ ap (stands e.free.now e.places.now m.giver) (sym here) in
    let is = least c.args.self.now.desk (midway_in c.args.self.now) m c.args.start c.args.days c.requires.may k lt e shown c.loop-day.invariant c.standing_in.result c.min-mw.result read c.min-mw.ensures in
    record {
      shown = shown;
      may = subst (λ day. Postable e m.minute m.kind m.a m.b m.giver m.taker day c.min-mw.result) here
          (postable_after c.args.self.now.desk (midway_in c.args.self.now) m c.args.start c.args.days c.requires.may k lt e shown c.loop-day.invariant c.requires.roomy c.min-mw.result is);
    }

-- one day further
further : (c : goal.After-post_line) → view c.post_line.new.desk ≡ with_lines (view c.args.self.now.desk) (by_day (moved c.args.what) c.args.start (c.loop-day.day - c.args.start + 1) (view c.args.self.now.desk).lines)
further c =
    let d = c.args.self.now.desk in
    let m = c.args.what in
    let e = c.loop-day.self.desk in
    let k = c.loop-day.day - c.args.start in
    let here : c.args.start + k ≡ c.loop-day.day = omega (arith, c.loop-day.auto.day) in
    let lt : k < c.args.days = omega (arith, c.loop-day-test.true) in
    let shown = (midway_in c.loop-day.self).showing in
    let read = c.standing_in.ensures ∙ ap (stands e.free.now e.places.now m.giver) (sym here) in
    let is = least d (midway_in c.args.self.now) m c.args.start c.args.days c.requires.may k lt e shown c.loop-day.invariant c.standing_in.result c.min-mw.result read c.min-mw.ensures in
    let step = next d (midway_in c.args.self.now) m c.args.start c.args.days c.requires.may k lt e shown c.loop-day.invariant c.requires.roomy c.min-mw.result is in
    c.post_line.ensures.view
    ∙ (ap (λ (w : View). with_lines w (post m.minute m.kind m.a m.b c.loop-day.day c.min-mw.result w.lines)) c.loop-day.invariant
    ∙ ap (with_lines (view d)) (ap (λ (n : ℕ). post m.minute m.kind m.a m.b n c.min-mw.result (by_day (moved m) c.args.start k (view d).lines)) (sym here) ∙ sym step))

pub invariant_of-self : goal.invariant_of-self
invariant_of-self c = record { midway = ∣ midway_after c.args.self.now.desk (midway_in c.args.self.now) c.args.what c.args.start c.args.days c.requires.may (c.loop-day.day - c.args.start + 1) c.post_line.new.desk c.post_line.ensures.shown (further c) ∣₁ }

pub loop-day-preserved : goal.loop-day-preserved
loop-day-preserved c = let on : c.loop-day.day + 1 - c.args.start ≡ c.loop-day.day - c.args.start + 1 = omega (arith, c.loop-day.auto.day) in rw on (further c.before)
