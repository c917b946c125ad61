use Rattle.moving.proofs.LedgerKeeps.{midway_in}
use Rattle.closing.proofs.closed_state.Goals as goal

pub holds_whole-requires-clause-midway : goal.holds_whole-requires-clause-midway
holds_whole-requires-clause-midway c = midway_in c.args.ledger.now

pub holds_nothing-requires-clause-midway : goal.holds_nothing-requires-clause-midway
holds_nothing-requires-clause-midway c = midway_in c.args.ledger.now
