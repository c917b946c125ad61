use Rattle.std.proofs.Common.{◌≡◌, ◌-◌, ◌≤◌}
use Rattle.journal.specs.Accounts.{balance}
use Rattle.law.specs.Posting.{busy_days}
use Rattle.desk.specs.Desks.{view}
use Rattle.posting.specs.Sides.{account}
use Rattle.moving.proofs.count_busy.Given as goal

abbrev pub invariant-loop-day : goal.invariant-loop-day
invariant-loop-day l = (l.count ≡ busy_days (balance (view l.desk).lines (account l.desk.places.now l.side)) l.start (l.day - l.start)) × (l.count ≤ l.day - l.start)
