-- The byte that ends a number is put right behind its digits.
use Rattle.receipts.proofs.Writing.{puts_behind}
use Rattle.receipts.proofs.output.Output.put_field.Goals as goal

pub returns : goal.returns
returns c = puts_behind _ _ _ _ _ (rw (c.as_bytes.ensures.value, c.format.ensures.text) at c.put.ensures) c.put-2.ensures
