-- What holds of a desk between the postings of one call.
use Rattle.std.specs.Prelude.{◌≡◌, ℕ, ◌≤◌, List, length}
use Rattle.journal.specs.Accounts.{brought, NeverBelowZero}
use Rattle.law.specs.View.{View, Entry, count, posted_on}
use Rattle.desk.specs.declared.memory.Desk.{Desk}
use Rattle.desk.specs.Desks.{view}
use Rattle.posting.specs.Postable.{Showing}

-- memory shows the accounts, no account was ever below zero, the journal brought what is posted, and living records have
-- different AREFs
pub record Midway (d : Desk) : Type 0 where
  pub showing : Showing d
  pub solvent : NeverBelowZero (view d).lines
  pub posted : (day : ℕ) → brought (view d).lines day ≡ posted_on (view d).days day
  pub amounts : (day : ℕ) → posted_on (view d).days day ≤ 20000
  pub days : length (view d).days.amounts ≤ 400
  pub once : (a : ℕ) → count a (view d).places ≤ 1

-- the same book with other places
abbrev pub with_places : View → List Entry → View
with_places v es = record { days = v.days; room = v.room; lines = v.lines; places = es; clock = v.clock; top = v.top }
