-- Three numbers, each put where the one before it ended, are the notice.
use Rattle.receipts.proofs.Writing.{puts_behind}
use Rattle.receipts.proofs.notice.write_notice.Goals as goal

pub returns : goal.returns
returns c = puts_behind _ _ _ _ _ c.put_field.ensures (puts_behind _ _ _ _ _ (rw c.from.ensures at c.put_field-2.ensures) c.put_field-3.ensures)
