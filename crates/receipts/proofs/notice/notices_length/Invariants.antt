-- What is counted is what the lines read so far tell; no notice passes 33 bytes.
use Rattle.std.proofs.Common.{◌≡◌, ◌*◌, ◌≤◌, [], length, take}
use Rattle.receipts.specs.Notices.{notices}
use Rattle.receipts.proofs.notice.notices_length.Given as goal

abbrev pub invariant-loop-i : goal.invariant-loop-i
invariant-loop-i l = (l.total ≡ length (notices [] (take l.i l.lines))) × (l.total ≤ 33 * l.i)
