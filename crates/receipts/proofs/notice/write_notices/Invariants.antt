-- What is put is what the lines read so far tell.
use Rattle.std.proofs.Common.{[], take}
use Rattle.receipts.specs.Notices.{notices}
use Rattle.receipts.specs.Output.{Puts}
use Rattle.receipts.proofs.notice.write_notices.Given as goal

abbrev pub invariant-loop-i : goal.invariant-loop-i
invariant-loop-i l = Puts l.initial.out (notices [] (take l.i l.lines)) l.out
