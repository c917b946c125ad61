use Rattle.std.proofs.Common.{◌≡◌, ◌-◌, ◌<◌, min, length, get_or, refl, ap, ◌∙◌, arith}
use Rattle.std.proofs.lemmas.List.{length-take-le}
use Rattle.law.specs.Posting.{busy_days}
use Rattle.defending.specs.Shortage.{gives_here}
use Rattle.defending.proofs.BusyDays.{busy_few}
use Rattle.defending.proofs.DayByDay.{set_none, set_all}
use Rattle.defending.proofs.VisitDays.{visiting_some, visiting_none, own_days}
use Rattle.defending.proofs.shortage.visit.Goals as goal
use Rattle.defending.proofs.shortage.visit.Goals.{then-min-gt0, else-min-gt0}

pub loop-k-init : goal.loop-k-init
unfolding busy_days
loop-k-init c = record { taken = set_none _ c.args.request.now.length c.args.short.now; counted = refl }

pub overflow_add-days : goal.overflow_add-days
overflow_add-days c =
    let long = length-take-le c.args.request.now.length c.args.short.now c.requires.term in
    omega (arith, long, c.loop-k.invariant.counted, busy_few (gives_here c.args.one.now c.args.request.now c.args.short.now) c.args.request.now.start c.loop-k.k, c.loop-k-test.true, c.requires.reach)

pub loop-k-preserved : goal.loop-k-preserved
loop-k-preserved c =
    let one = c.args.one.now in
    let r = c.args.request.now in
    let k = c.loop-k.k in
    let short = c.loop-k.short-items in
    let long = length-take-le c.args.request.now.length c.args.short.now c.requires.term in
    let here : k < length short = omega (arith, c.loop-k.auto.short-items, c.loop-k-test.true) in
    let in_term : k < r.length = omega (arith, long, c.loop-k-test.true) in
    let left = c.saturating_sub.ensures ∙ ap (λ n. get_or short k 0 - n) c.held_on-held.ensures in
    let least = c.min.ensures ∙ ap (λ n. min n (get_or short k 0)) c.held_on-held.ensures in
    elim c.if-min-gt0.branch [
      | then-min-gt0 w ↦ rw w.days-is (visiting_some one r c.args.short.now short c.loop-k.days k c.loop-k.invariant here in_term c.saturating_sub.result left c.min.result least w.if-min-gt0.true)
      | else-min-gt0 w ↦ rw w.days-is (visiting_none one r c.args.short.now short c.loop-k.days k c.loop-k.invariant here in_term c.saturating_sub.result left c.min.result least w.if-min-gt0.false)
    ]

pub returns : goal.returns
returns c =
    let one = c.args.one.now in
    let r = c.args.request.now in
    let long = length-take-le c.args.request.now.length c.args.short.now c.requires.term in
    let all : c.loop-k.k ≡ c.args.request.now.length = omega (arith, long, c.loop-k-test.false, c.loop-k.auto.k-end) in
    let days = c.loop-k.invariant.counted ∙ ap (busy_days (gives_here one r c.args.short.now) r.start) all in
    record {
      taken = set_all _ r.length c.args.short.now c.loop-k.short-items c.loop-k.k c.loop-k.invariant.taken (omega (arith, all)) (omega (arith, long, c.loop-k.auto.short-items));
      days = days;
      own_days = λ h. days ∙ own_days one r c.args.short.now h;
    }
