-- When memory shows the accounts of the journal, and when a line may be posted.
use Rattle.std.specs.Prelude.{◌≡◌, ℕ, ◌<◌, ◌≤◌, ◌≢◌, List, length}
use Rattle.journal.specs.declared.line.Line.{Line}
use Rattle.journal.specs.declared.line.LineKind.{LineKind}
use Rattle.journal.specs.Accounts.{from, to, balance, NeverBelowZero}
use Rattle.law.specs.View.{View, count}
use Rattle.law.specs.Posting.{post}
use Rattle.desk.specs.declared.memory.Desk.{Desk}
use Rattle.desk.specs.Desks.{view}
use Rattle.desk.specs.Soundness.{Shown}
use Rattle.posting.specs.declared.sides.Side.{Side}
use Rattle.posting.specs.declared.sides.Side.TheVariants.{Flown}
use Rattle.posting.specs.Sides.{There, account}

-- memory shows the accounts of the lines written
pub record Showing (d : Desk) : Type 0 where
  pub written : d.used ≤ length d.lines.now
  pub each_day : length d.free.now ≡ length d.posted.amounts.now
  pub shown : Shown (balance (view d).lines) d.free.now d.places.now

-- a line may be posted: its giver has the MW, its sides are there, and so is a journal line for it
pub record Postable (d : Desk) (minute : ℕ) (kind : LineKind) (a b : ℕ) (giver taker : Side) (day mw : ℕ) : Type 0 where
  pub solvent : NeverBelowZero (view d).lines
  pub once : (c : ℕ) → count c (view d).places ≤ 1
  pub gives : account d.places.now giver ≡ from kind a b
  pub gets : 0 < mw → account d.places.now taker ≡ to kind a b
  pub not_flown : giver ≢ Flown
  pub at_giver : There (length d.free.now) d.places.now giver day
  pub at_taker : 0 < mw → There (length d.free.now) d.places.now taker day
  pub paid : mw ≤ balance (view d).lines (from kind a b) day
  pub fits : balance (post minute kind a b day mw (view d).lines) (to kind a b) day ≤ 20000
  pub roomy : 0 < mw → d.used < length d.lines.now

-- the same book with other lines
abbrev pub with_lines : View → List Line → View
with_lines v ls = record { days = v.days; room = v.room; lines = ls; places = v.places; clock = v.clock; top = v.top }
