-- A record under another state, and one that holds its MW.
use Rattle.std.specs.Prelude.{◌≡◌, ℕ, Bool, cond, List, replicate, nat_le}
use Rattle.terms.specs.declared.words.State.{State}
use Rattle.terms.specs.Words.{is_living}
use Rattle.journal.specs.declared.line.Line.{Line}
use Rattle.law.specs.View.{Entry, aref_of, start_of, length_of}
use Rattle.law.specs.Places.{due_at, in_state}
use Rattle.law.specs.Posting.{each_day, holding}
use Rattle.law.specs.Preemption.{wanted}
use Rattle.desk.specs.declared.record.Record.{Record}
use Rattle.desk.specs.Records.{entry_of}

-- it has the amounts that it had, none where it is gone
pub record Restated (old : Record) (state : State) (due : ℕ) (new : Record) : Type 0 where
  pub what : entry_of new ≡ due_at due (in_state state (entry_of old))
  pub holds : new.held ≡ cond (is_living state) old.held (replicate 31 0)
  pub sets_aside : new.aside ≡ cond (is_living state) old.aside (replicate 31 0)

-- does a record hold its MW on each day of its term?
abbrev pub whole : List Line → Entry → Bool
whole ls e = each_day (λ day. nat_le (wanted e.standing.request day) (holding ls (aref_of e) day)) (start_of e) (length_of e)
