-- How a record leaves the book: what it holds becomes free, or has flown.
use Rattle.std.specs.Prelude.{◌≡◌, ℕ, ◌<◌, List}
use Rattle.terms.specs.declared.words.State.TheVariants.{Gone}
use Rattle.journal.specs.declared.line.Line.{Line}
use Rattle.journal.specs.declared.line.LineKind.{LineKind}
use Rattle.journal.specs.Accounts.{held, from, to, balance}
use Rattle.law.specs.View.{View, Entry, aref_of, start_of, length_of}
use Rattle.law.specs.Places.{change, leave}
use Rattle.law.specs.Posting.{post, by_day}
use Rattle.law.specs.Calls.{Made, makes}
use Rattle.desk.specs.declared.record.Record.{Record}
use Rattle.posting.specs.declared.sides.Side.{Side}
use Rattle.posting.specs.Sides.{There, account}

-- lines of a kind from a to nobody, of all that stands in the account that they take from
abbrev pub all_of : LineKind → ℕ → ℕ → ℕ → List Line → List Line
all_of kind minute a day ls = post minute kind a 0 day (balance ls (from kind a 0) day) ls

-- a record leaves by lines of a kind
abbrev pub leaves_by : LineKind → ℕ → Entry → View → Made
leaves_by kind minute e v = makes (by_day (all_of kind minute (aref_of e)) (start_of e) (length_of e) v.lines) (change (aref_of e) leave v.places) (aref_of e) Gone

-- lines of the kind take what a record holds, and bring it to a side that is there on every posted day
pub record WayOut (kind : LineKind) (taker : Side) : Type 0 where
  pub gives : (a : ℕ) → from kind a 0 ≡ held a
  pub gets : (places : List Record) (a : ℕ) → account places taker ≡ to kind a 0
  pub there : (days : ℕ) (places : List Record) (day : ℕ) → day < days → There days places taker day
