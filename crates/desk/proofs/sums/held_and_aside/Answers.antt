use Rattle.std.proofs.Common.{sum_by, ap, ◌∙◌, arith}
use Rattle.std.proofs.lemmas.List.{take_all}
use Rattle.desk.specs.Records.{held_on, aside_on}
use Rattle.desk.proofs.RunningSum.{sum_more, sum_stays_below}
use Rattle.desk.proofs.sums.held_and_aside.Goals as goal

pub overflow_add-held : goal.overflow_add-held
overflow_add-held c = omega (arith, sum_stays_below (held_on c.args.day) _ _ _ _ _ c.loop-one-test.true c.loop-one.invariant.0 c.held_on-held.ensures, c.requires.held)

pub overflow_add-aside : goal.overflow_add-aside
overflow_add-aside c = omega (arith, sum_stays_below (aside_on c.args.day) _ _ _ _ _ c.loop-one-test.true c.loop-one.invariant.1 c.aside_on-aside.ensures, c.requires.aside)

pub loop-one-preserved : goal.loop-one-preserved
loop-one-preserved c = (
  sum_more (held_on c.args.day) _ _ _ _ _ c.loop-one-test.true c.loop-one.invariant.0 c.held_on-held.ensures,
  sum_more (aside_on c.args.day) _ _ _ _ _ c.loop-one-test.true c.loop-one.invariant.1 c.aside_on-aside.ensures,
)

pub returns : goal.returns
returns c =
    let all = take_all c.loop-one.one-index c.args.places.now c.loop-one-test.false in
    record { held = c.loop-one.invariant.0 ∙ ap (sum_by (held_on c.args.day)) all; aside = c.loop-one.invariant.1 ∙ ap (sum_by (aside_on c.args.day)) all }
