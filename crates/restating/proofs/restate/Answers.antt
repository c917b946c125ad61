use Rattle.restating.proofs.SameRecord.{shows_new, once_new}
use Rattle.moving.proofs.LedgerKeeps.{midway_in}
use Rattle.restating.proofs.restate.Goals as goal

pub seat-requires : goal.seat-requires
seat-requires c =
    let d = c.args.ledger.now.desk in let p = c.requires in
    record {
      within = p.within;
      shows = shows_new d (midway_in c.args.ledger.now) c.args.i p.within p.lives _ _ _ c.restated-new.ensures;
      once = once_new d (midway_in c.args.ledger.now) c.args.i p.within p.lives _ _ _ c.restated-new.ensures;
    }
