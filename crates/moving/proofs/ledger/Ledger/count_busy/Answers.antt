use Rattle.moving.proofs.LedgerKeeps.{midway_in}
use Rattle.moving.proofs.ledger.Ledger.count_busy.Goals as goal

pub count_busy-requires-clause-midway : goal.count_busy-requires-clause-midway
count_busy-requires-clause-midway c = midway_in c.args.self.now
