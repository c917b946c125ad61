use Rattle.std.proofs.Common.{ap}
use Rattle.law.specs.View.{View}
use Rattle.admitting.proofs.Written.{book_after}
use Rattle.later.proofs.Confirms.{says}
use Rattle.moving.proofs.LedgerKeeps.{midway_in, midway_told}
use Rattle.later.proofs.by_aref.confirm_at.Goals as goal

pub invariant_of-ledger : goal.invariant_of-ledger
invariant_of-ledger c = record { midway = ∣ midway_told c.restate.new.ledger.desk c.args.minute _ (midway_in c.restate.new.ledger) ∣₁ }

pub returns : goal.returns
returns c =
    let p = c.requires in
    let restated = rw c.over_minute.ensures at c.restate.ensures.view in
    record {
      says = says c.args.ledger.now.desk p.sound c.args.i p.within p.lives c.args.minute _ (ap (λ (w : View). book_after w w.lines w.places c.args.minute) restated);
    }
