use Rattle.std.proofs.Common.{ℕ, eqb, sym, ap, ◌∙◌}
use Rattle.law.specs.View.{Entry}
use Rattle.law.specs.Preemption.{empty}
use Rattle.desk.specs.Desks.{view}
use Rattle.restating.proofs.DayTests.{none_busy}
use Rattle.restating.proofs.SameRecord.{there_is}
use Rattle.restating.proofs.holds_nothing.Goals as goal

pub returns : goal.returns
returns c =
    let d = c.args.desk.now in let p = c.requires in
    ap (λ (n : ℕ). eqb n 0) c.count_busy.ensures.count
    ∙ (none_busy _ _ _ ∙ ap (λ (e : Entry). empty (view d).lines e) (sym (there_is d p.midway c.args.i p.within p.lives)))
