-- The law of accounts: over every list of calls on a newly opened book no megawatt is lost.
use Rattle.std.specs.Prelude.{◌≡◌, ℕ, suc, List, take}
use Rattle.terms.specs.Days.{Days}
use Rattle.sheets.specs.Rules.{Rules}
use Rattle.journal.specs.Accounts.{brought, NeverBelowZero, AddsUp}
use Rattle.law.specs.View.{View, posted_on}
use Rattle.law.specs.Sums.{FourSums}
use Rattle.law.specs.Opened.{opened}
use Rattle.law.specs.Calls.{Call, run}

pub record NoneLostIn (days : Days) (v : View) : Type 0 where
  -- after no line is an account below zero
  pub solvent : NeverBelowZero v.lines
  -- after every line the accounts of a day add up to what was posted so far
  pub each_line : (n day : ℕ) → AddsUp (suc v.top) (take n v.lines) day
  -- in the end that is the posted amount
  pub in_the_end : (day : ℕ) → brought v.lines day ≡ posted_on days day
  -- and the accounts are the sums that the book answers
  pub answered : (day : ℕ) → FourSums v day

-- for every sheet, lawful or not, all days, places and journal sizes, and every list of calls, refused ones included
abbrev pub NoMegawattLost : Type 0
NoMegawattLost = (R : Rules) (days : Days) (places room : ℕ) (calls : List Call) → NoneLostIn days (run R calls (opened days places room))
