use Rattle.moving.proofs.LedgerKeeps.{midway_in}
use Rattle.declining.proofs.left_as.Goals as goal

pub holds_nothing-requires-clause-midway : goal.holds_nothing-requires-clause-midway
holds_nothing-requires-clause-midway c = midway_in c.args.ledger.now
