use Rattle.std.proofs.Common.{sym, refl, ◌∙◌, inr}
use Rattle.desk.specs.Desks.{view}
use Rattle.admitting.proofs.Ladder.{unsettled, begins}
use Rattle.admitting.proofs.begin.Goals as goal

pub returns-then-any_due : goal.returns-then-any_due
returns-then-any_due c R k m i =
    let order = c.in_ok-begin_settling.ensures.in_order in
    unsettled (view c.args.desk.now) c.args.minute _ R k m i order.0 order.1 refl (sym c.any_due.ensures ∙ c.if-any_due.true)

pub returns : goal.returns
returns c =
    let order = c.in_ok-begin_settling.ensures.in_order in
    (order.0, λ R k m i. begins (view c.args.desk.now) c.args.minute _ R k m i order.0 order.1 (inr (sym c.any_due.ensures ∙ c.if-any_due.false)))
