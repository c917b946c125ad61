use Rattle.std.proofs.Common.{◌≡◌, ◌-◌}
use Rattle.law.specs.Posting.{by_day}
use Rattle.desk.specs.Desks.{view}
use Rattle.posting.specs.Postable.{with_lines}
use Rattle.moving.specs.Moves.{moved}
use Rattle.moving.proofs.ledger.Ledger.move_by_day.Given as goal

abbrev pub invariant-loop-day : goal.invariant-loop-day
invariant-loop-day l = view l.self.desk ≡ with_lines (view l.initial.self.desk) (by_day (moved l.what) l.start (l.day - l.start) (view l.initial.self.desk).lines)
