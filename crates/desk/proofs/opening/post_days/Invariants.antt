use Rattle.std.proofs.Common.{◌≡◌, ◌+◌, ◌≤◌, ◌++◌, length, take, drop}
use Rattle.law.specs.Opened.{postings}
use Rattle.desk.specs.Opening.{busy_days}
use Rattle.desk.proofs.opening.post_days.Given as goal

-- what is written and what is still to post make all postings; behind what is written the journal is as it was
abbrev pub invariant-loop-day : goal.invariant-loop-day
invariant-loop-day l = record {
  posted : take l.used l.lines ++ postings l.day (drop l.day l.amounts) ≡ postings 0 l.amounts;
  behind : drop l.used l.lines ≡ drop l.used l.initial.lines;
  room : l.used + busy_days (drop l.day l.amounts) ≤ length l.initial.lines;
}
