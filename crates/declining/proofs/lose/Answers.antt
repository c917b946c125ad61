use Rattle.std.proofs.Common.{length, ap, ◌∙◌, arith}
use Rattle.desk.specs.Desks.{view}
use Rattle.posting.specs.Postable.{with_lines}
use Rattle.declining.proofs.Losses.{may, same_lines}
use Rattle.declining.proofs.lose.Goals as goal

pub move_by_day-requires : goal.move_by_day-requires
move_by_day-requires c =
    let d = c.args.ledger.now.desk in let p = c.requires in
    record {
      may = may d p.sound c.args.i p.within p.lives c.args.minute c.challenger_place-j.result c.challenger_place-j.ensures;
      roomy = omega (arith, p.roomy, ap length (same_lines d p.sound c.args.i p.within p.lives c.args.minute c.challenger_place-j.result c.challenger_place-j.ensures));
    }

pub returns : goal.returns
returns c =
    let d = c.args.ledger.now.desk in let p = c.requires in
    record {
      view = c.move_by_day.ensures.view ∙ ap (with_lines (view d)) (same_lines d p.sound c.args.i p.within p.lives c.args.minute c.challenger_place-j.result c.challenger_place-j.ensures);
    }
