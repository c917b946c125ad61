-- What lent memory holds, and the view of a book over it.
use Rattle.std.specs.Prelude.{◌≡◌, ℕ, List, [], ◌++◌, map, length, take, drop, replicate, Some, None, Option}
use Rattle.terms.specs.declared.refusal.Refusal.{Refusal}
use Rattle.terms.specs.Days.{Days}
use Rattle.journal.specs.declared.line.Line.{Line}
use Rattle.law.specs.View.{View}
use Rattle.desk.specs.declared.memory.Memory.{Memory}
use Rattle.desk.specs.declared.memory.Desk.{Desk}
use Rattle.desk.specs.declared.record.Record.{Record}
use Rattle.law.specs.Opened.{postings}
use Rattle.desk.specs.Opening.{opening_refusal}
use Rattle.desk.specs.Records.{entry_of, vacant}

-- the days lent
abbrev pub days_lent : Memory → Days
days_lent m = record { amounts = m.posted.amounts.now; preschedule = m.posted.preschedule.now }

-- the first refusal of an opening over what is lent, or none
abbrev pub refusal_over : Memory → Option Refusal
refusal_over m = opening_refusal (days_lent m) (length m.free.now) (length m.places.now) (length m.lines.now)

-- the view of a book over its memory
abbrev pub view : Desk → View
view d = record {
  days = record { amounts = d.posted.amounts.now; preschedule = d.posted.preschedule.now };
  room = length d.lines.now;
  lines = take d.used d.lines.now;
  places = map entry_of d.places.now;
  clock = d.clock;
  top = d.top;
}

-- a desk over these days that nobody has called yet
pub record New (d : Desk) (posted : Days) (amounts : List ℕ) (records : List Record) (journal : List Line) (written : ℕ) : Type 0 where
  pub days : (view d).days ≡ posted
  pub free : d.free.now ≡ amounts
  pub places : d.places.now ≡ records
  pub lines : d.lines.now ≡ journal
  pub used : d.used ≡ written
  pub clock : d.clock ≡ 0
  pub top : d.top ≡ 0

-- what opening makes of what was lent: every amount is free, every place is empty, the postings head the journal and
-- the rest of it is as it was; from refused matter a desk of no days, places or lines
abbrev pub OpenedOver : Memory → Desk → Option Refusal → Type 0
OpenedOver m d None = New d (days_lent m) m.posted.amounts.now (replicate (length m.places.now) vacant)
    (postings 0 m.posted.amounts.now ++ drop (length (postings 0 m.posted.amounts.now)) m.lines.now) (length (postings 0 m.posted.amounts.now))
OpenedOver m d (Some refusal) = New d (record { amounts = []; preschedule = [] }) [] [] [] 0
