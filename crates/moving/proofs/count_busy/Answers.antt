use Rattle.std.proofs.Common.{◌≡◌, ◌+◌, ◌-◌, sym, ap, ◌∙◌, arith}
use Rattle.journal.specs.Accounts.{balance}
use Rattle.desk.specs.Desks.{view}
use Rattle.posting.specs.Sides.{account}
use Rattle.posting.proofs.ShownPut.{stands_is, reach_is}
use Rattle.moving.proofs.Walks.{busy_none, busy_here, idle_here}
use Rattle.moving.proofs.count_busy.Goals as goal
use Rattle.moving.proofs.count_busy.Goals.{then-standing_in-gt0, else-standing_in-gt0}

pub loop-day-init : goal.loop-day-init
loop-day-init c = let none : c.args.start - c.args.start ≡ 0 = omega arith in rw none (sym (busy_none _ c.args.start), omega arith)

pub standing_in-requires : goal.standing_in-requires
standing_in-requires c =
    let d = c.args.desk.now in
    reach_is (balance (view d).lines) d.free.now d.places.now c.requires.midway.showing.shown c.requires.midway.once c.args.side c.loop-day.day
    (c.requires.there.at _ (omega (arith, c.loop-day.auto.day)) (omega (arith, c.loop-day-test.true)))

pub loop-day-preserved : goal.loop-day-preserved
loop-day-preserved c =
    let d = c.args.desk.now in let f = balance (view d).lines (account d.places.now c.args.side) in
    let k = c.loop-day.day - c.args.start in
    let here : c.args.start + k ≡ c.loop-day.day = omega (arith, c.loop-day.auto.day) in
    let on : c.loop-day.day + 1 - c.args.start ≡ k + 1 = omega (arith, c.loop-day.auto.day) in
    let reads = c.standing_in.ensures ∙ stands_is (balance (view d).lines) d.free.now d.places.now c.requires.midway.showing.shown c.requires.midway.once c.args.side c.loop-day.day
    (c.requires.there.at _ (omega (arith, c.loop-day.auto.day)) (omega (arith, c.loop-day-test.true))) c.requires.there.not_flown ∙ ap f (sym here) in
    rw on (elim c.if-standing_in-gt0.branch [
      | then-standing_in-gt0 w ↦ (omega (arith, w.count-is, c.loop-day.invariant.0, busy_here f c.args.start k (omega (arith, reads, w.if-standing_in-gt0.true))), omega (arith, w.count-is, c.loop-day.invariant.1))
      | else-standing_in-gt0 w ↦ (omega (arith, w.count-is, c.loop-day.invariant.0, idle_here f c.args.start k (omega (arith, reads, w.if-standing_in-gt0.false))), omega (arith, w.count-is, c.loop-day.invariant.1))
    ])
