use Rattle.std.proofs.Common.{◌-◌, arith}
use Rattle.std.proofs.lemmas.List.{length-take-le}
use Rattle.defending.proofs.DayByDay.{made_none, made_next, made_all}
use Rattle.defending.proofs.shortage.first_short.Goals as goal

pub loop-mw-init : goal.loop-mw-init
loop-mw-init c = let r = c.args.request.now in made_none (λ mw. r.mw - mw) c.args.desk.now.free.now r.start r.length _ c.free_by_day-short.ensures

pub loop-mw-preserved : goal.loop-mw-preserved
loop-mw-preserved c =
    let r = c.args.request.now in
    let long = length-take-le r.length c.free_by_day-short.result (omega (arith, c.requires.term, c.free_by_day-short.auto)) in
    made_next (λ mw. r.mw - mw) c.args.desk.now.free.now r.start r.length c.loop-mw.mw-items c.loop-mw.mw-index c.saturating_sub.result c.loop-mw.invariant
    (omega (arith, c.loop-mw.auto.mw-items, c.loop-mw-test.true)) (omega (arith, long, c.loop-mw-test.true)) c.saturating_sub.ensures

pub returns : goal.returns
returns c =
    let r = c.args.request.now in
    let long = length-take-le r.length c.free_by_day-short.result (omega (arith, c.requires.term, c.free_by_day-short.auto)) in
    made_all (λ mw. r.mw - mw) c.args.desk.now.free.now r.start r.length c.loop-mw.mw-items _ c.loop-mw.mw-index c.loop-mw.invariant
    (omega (arith, long, c.loop-mw-test.false)) (omega (arith, long, c.loop-mw.auto.mw-items))
