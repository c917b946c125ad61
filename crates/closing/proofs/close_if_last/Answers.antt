use Rattle.std.proofs.Common.{ap, ◌∙◌}
use Rattle.desk.specs.Desks.{view}
use Rattle.moving.specs.Midway.{with_places}
use Rattle.closing.proofs.Closes.{closed_is}
use Rattle.moving.proofs.LedgerKeeps.{midway_in}
use Rattle.closing.proofs.close_if_last.Goals as goal

pub returns-in-Some : goal.returns-in-Some
returns-in-Some g c =
    let d = c.args.ledger.now.desk in let p = c.requires in let C = c.in-Some.ensures in
    record {
      view = c.restate.ensures.view ∙ ap (with_places (view d)) (closed_is d (midway_in c.args.ledger.now) p.terms _ _ C (g.S.RuleSheet.rules c.args.sheet.now) c.args.minute _ _ c.closed_state-standing.ensures c.due_of-due.ensures);
    }
