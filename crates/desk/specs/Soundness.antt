-- What memory shows of the journal's accounts, and what every desk keeps.
use Rattle.std.specs.Prelude.{◌≡◌, ℕ, ◌+◌, ◌<◌, ◌≤◌, cond, List, length, slice_index}
use Rattle.std.specs.List.{AllByRecursion}
use Rattle.journal.specs.Accounts.{Account, free, held, aside, balance}
use Rattle.law.specs.View.{living, aref_of, start_of}
use Rattle.law.specs.Keeps.{Kept}
use Rattle.desk.specs.declared.memory.Desk.{Desk}
use Rattle.desk.specs.declared.record.Record.{Record}
use Rattle.desk.specs.Desks.{view}
use Rattle.desk.specs.Records.{entry_of}

-- a living record shows what the accounts B have for it on each of 31 days from its start on; one that is gone shows
-- nothing
pub record Shows (B : Account → ℕ → ℕ) (r : Record) : Type 0 where
  pub held_days : length r.held ≡ 31
  pub aside_days : length r.aside ≡ 31
  pub holds : (j : ℕ) → j < 31 → slice_index r.held j ≡ cond (living (entry_of r)) (B (held (aref_of (entry_of r))) (start_of (entry_of r) + j)) 0
  pub sets_aside : (j : ℕ) → j < 31 → slice_index r.aside j ≡ cond (living (entry_of r)) (B (aside (aref_of (entry_of r)) r.against) (start_of (entry_of r) + j)) 0

-- memory shows the accounts B: free amounts by day, and each record
pub record Shown (B : Account → ℕ → ℕ) (amounts : List ℕ) (places : List Record) : Type 0 where
  pub frees : (day : ℕ) → day < length amounts → slice_index amounts day ≡ B free day
  pub records : AllByRecursion (Shows B) places

-- what every desk keeps: its view keeps what every book keeps, and memory shows the accounts of the journal
pub record Sound (d : Desk) : Type 0 where
  pub kept : Kept (view d)
  pub written : d.used ≤ length d.lines.now
  pub each_day : length d.free.now ≡ length d.posted.amounts.now
  pub shown : Shown (balance (view d).lines) d.free.now d.places.now
