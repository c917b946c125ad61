-- A record as memory has it: amounts by day from its start on.
use Rattle.std.specs.Prelude.{ℕ, ◌-◌, cond, ◌&&◌, List, replicate, nat_le, nat_lt, slice_index}
use Rattle.law.specs.View.{Entry, nobody}
use Rattle.desk.specs.declared.record.Record.{Record}

-- the amount on a day, of 31 amounts from a start day on; none before and after them
abbrev pub amount_on : ℕ → ℕ → List ℕ → ℕ
amount_on day start amounts = cond (nat_le start day && nat_lt (day - start) 31) (slice_index amounts (day - start)) 0

abbrev pub held_on : ℕ → Record → ℕ
held_on day r = amount_on day r.standing.request.start r.held

abbrev pub aside_on : ℕ → Record → ℕ
aside_on day r = amount_on day r.standing.request.start r.aside

-- what the rules see of a record
abbrev pub entry_of : Record → Entry
entry_of r = record { standing = r.standing; due = r.due; against = r.against }

-- a place that nobody has
abbrev pub vacant : Record
vacant = record { standing = nobody.standing; due = 0; against = 0; held = replicate 31 0; aside = replicate 31 0 }
