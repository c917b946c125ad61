use Rattle.std.proofs.Common.{min, arith}
use Rattle.std.proofs.lemmas.List.{length-take-le}
use Rattle.defending.proofs.DayByDay.{made_none, made_next, made_all}
use Rattle.defending.proofs.size.first_granted.Goals as goal

pub loop-mw-init : goal.loop-mw-init
loop-mw-init c = let r = c.args.request.now in made_none (λ mw. min mw r.mw) c.args.desk.now.free.now r.start r.length _ c.free_by_day-granted.ensures

pub loop-mw-preserved : goal.loop-mw-preserved
loop-mw-preserved c =
    let r = c.args.request.now in
    let long = length-take-le r.length c.free_by_day-granted.result (omega (arith, c.requires.term, c.free_by_day-granted.auto)) in
    made_next (λ mw. min mw r.mw) c.args.desk.now.free.now r.start r.length c.loop-mw.mw-items c.loop-mw.mw-index c.min.result c.loop-mw.invariant
    (omega (arith, c.loop-mw.auto.mw-items, c.loop-mw-test.true)) (omega (arith, long, c.loop-mw-test.true)) c.min.ensures

pub returns : goal.returns
returns c =
    let r = c.args.request.now in
    let long = length-take-le r.length c.free_by_day-granted.result (omega (arith, c.requires.term, c.free_by_day-granted.auto)) in
    made_all (λ mw. min mw r.mw) c.args.desk.now.free.now r.start r.length c.loop-mw.mw-items _ c.loop-mw.mw-index c.loop-mw.invariant
    (omega (arith, long, c.loop-mw-test.false)) (omega (arith, long, c.loop-mw.auto.mw-items))
