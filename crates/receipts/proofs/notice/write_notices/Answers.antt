-- A line that gives a notice has it put behind those before; any other leaves the output.
use Rattle.std.proofs.Common.{arith}
use Rattle.receipts.specs.Notices.{notices}
use Rattle.receipts.proofs.Writing.{puts_behind, puts_nothing, length-puts}
use Rattle.receipts.proofs.Telling.{notices_with, notices_without, notice_fits}
use Rattle.receipts.proofs.notice.write_notices.Goals as goal
use Rattle.receipts.proofs.notice.write_notices.Goals.{then-gives_notice, else-gives_notice}

pub loop-i-init : goal.loop-i-init
unfolding notices
loop-i-init c = puts_nothing c.new-out.result (omega arith)

pub write_notice-requires : goal.write_notice-requires
write_notice-requires c = grind (arith, notice_fits _ _ _ c.loop-i-test.true c.if-gives_notice.ensures, length-puts _ _ _ c.loop-i.invariant)

pub loop-i-preserved : goal.loop-i-preserved
loop-i-preserved c =
    elim c.if-gives_notice.branch [
      | then-gives_notice w ↦
          rw (notices_with _ _ _ c.loop-i-test.true w.if-gives_notice.ensures, w.out-is) (puts_behind _ _ _ _ _ c.loop-i.invariant w.write_notice.ensures)
      | else-gives_notice w ↦
          rw (notices_without _ _ _ c.loop-i-test.true w.if-gives_notice.ensures, w.out-is) c.loop-i.invariant
    ]
