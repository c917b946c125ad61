-- A line adds its notice where it gives one, and nothing otherwise.
use Rattle.std.proofs.Common.{arith, rules}
use Rattle.std.proofs.lemmas.Grind.{common_steps}
use Rattle.receipts.specs.Notices.{notices}
use Rattle.receipts.proofs.Telling.{notices_with, notices_without}
use Rattle.receipts.proofs.notice.notices_length.Goals as goal
use Rattle.receipts.proofs.notice.notices_length.Goals.{then-gives_notice, else-gives_notice}

pub loop-i-init : goal.loop-i-init
unfolding notices
loop-i-init c = search rules

pub loop-i-preserved : goal.loop-i-preserved
loop-i-preserved c =
    elim c.if-gives_notice.branch [
      | then-gives_notice w ↦
          let longer = notices_with _ _ _ c.loop-i-test.true w.if-gives_notice.ensures in
          grind (arith, common_steps)
      | else-gives_notice w ↦
          let same = notices_without _ _ _ c.loop-i-test.true w.if-gives_notice.ensures in
          grind (arith, common_steps)
    ]
