-- Moves by day: on each of some days, up to so many MW of what stands on one side go to another.
use Rattle.std.specs.Prelude.{◌≡◌, ℕ, ◌+◌, ◌<◌, ◌≤◌, min, ◌≢◌, List, length}
use Rattle.journal.specs.declared.line.Line.{Line}
use Rattle.journal.specs.Accounts.{Account, sort, from, to, balance}
use Rattle.law.specs.Posting.{post}
use Rattle.desk.specs.declared.memory.Desk.{Desk}
use Rattle.desk.specs.Desks.{view}
use Rattle.posting.specs.declared.sides.Side.{Side}
use Rattle.posting.specs.declared.sides.Side.TheVariants.{Flown}
use Rattle.posting.specs.Sides.{There, account}
use Rattle.moving.specs.declared.Move.{Move}

-- the account that a move takes from, and the one that it brings to
abbrev pub origin : Move → Account
origin m = from m.kind m.a m.b

abbrev pub destination : Move → Account
destination m = to m.kind m.a m.b

-- on a day as much as stands in the giver's account moves, up to the most
abbrev pub moved : Move → ℕ → List Line → List Line
moved m day ls = post m.minute m.kind m.a m.b day (min (balance ls (origin m) day) m.most) ls

-- the sides of a move are there on each of so many days from a start on; the taker's only where there is something to move
pub record Movable (d : Desk) (m : Move) (start days : ℕ) : Type 0 where
  pub inner : 0 < sort (origin m)
  pub gives : account d.places.now m.giver ≡ origin m
  pub not_flown : m.giver ≢ Flown
  pub at_giver : (day : ℕ) → start ≤ day → day < start + days → There (length d.free.now) d.places.now m.giver day
  pub gets : (day : ℕ) → start ≤ day → day < start + days → 0 < balance (view d).lines (origin m) day →
      (account d.places.now m.taker ≡ destination m) × There (length d.free.now) d.places.now m.taker day
  pub early : start + days ≤ 400

-- a side is there on each of so many days from a start on
pub record Along (d : Desk) (side : Side) (start days : ℕ) : Type 0 where
  pub at : (day : ℕ) → start ≤ day → day < start + days → There (length d.free.now) d.places.now side day
  pub not_flown : side ≢ Flown
  pub early : start + days ≤ 400
