use Rattle.std.proofs.Common.{◌<◌, ◌⊎◌, refl, inl, inr}
use Rattle.sheets.specs.Laws.{last_minute}
use Rattle.desk.specs.Desks.{view}
use Rattle.admitting.proofs.Ladder.{late, begins}
use Rattle.admitting.proofs.begin_settling.Goals as goal
use Rattle.admitting.proofs.begin_settling.Goals.{then-minute-gt-LAST_MINUTE-via-then-minute-gt-LAST_MINUTE, then-minute-gt-LAST_MINUTE-via-else-minute-gt-LAST_MINUTE+then-minute-desk}

pub returns-then-minute-gt-LAST_MINUTE : goal.returns-then-minute-gt-LAST_MINUTE
returns-then-minute-gt-LAST_MINUTE c =
    let v = view c.args.desk.now in
    let out : (last_minute < c.args.minute) ⊎ (c.args.minute < v.clock) = elim c.then-minute-gt-LAST_MINUTE.branch [
      | then-minute-gt-LAST_MINUTE-via-then-minute-gt-LAST_MINUTE w ↦ inl w.if-minute-gt-LAST_MINUTE.true
      | then-minute-gt-LAST_MINUTE-via-else-minute-gt-LAST_MINUTE+then-minute-desk w ↦ inr w.if-minute-desk.true
    ] in
    record { settles = λ R k m i. late v c.args.minute _ R k m i out; late = λ R k m i. late v c.args.minute _ R k m i out; in_order = tt }

pub returns : goal.returns
returns c =
    let early = c.if-minute-gt-LAST_MINUTE.false in
    let later = c.if-minute-desk.false in
    record {
      settles = (early, λ R k m i. begins (view c.args.desk.now) c.args.minute _ R k m i early later (inl refl));
      late = tt;
      in_order = (early, later);
    }
