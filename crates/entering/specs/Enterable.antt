-- When a request may enter the book: no refusal stops it before the steps, and a place waits for its record.
use Rattle.std.specs.Prelude.{◌≡◌, ℕ, ◌+◌, ◌<◌, ◌≤◌, true, false, length, replicate, slice_index_or, slice_set}
use Rattle.terms.specs.declared.request.Request.{Request}
use Rattle.terms.specs.declared.words.State.{State}
use Rattle.terms.specs.Limits.{sellable}
use Rattle.sheets.specs.Rules.{Rules}
use Rattle.law.specs.View.{View, Entry, living, nobody}
use Rattle.law.specs.Places.{seat, new_record}
use Rattle.desk.specs.declared.record.Record.{Record}
use Rattle.desk.specs.Records.{entry_of}

-- the minute is within the limit, the AREF is new, the term is inside the posted days, and the place is the first that
-- nobody living has
pub record Enterable (v : View) (minute : ℕ) (r : Request) (place : ℕ) : Type 0 where
  pub checked : sellable r ≡ true
  pub early : minute ≤ 1000000
  pub above : v.top < r.aref
  pub inside : r.start + r.length ≤ length v.days.amounts
  pub within : place < length v.places
  pub vacant : living (slice_index_or v.places place nobody) ≡ false
  pub seats : (e : Entry) → seat e v.places ≡ slice_set v.places place e

-- the record of a request as memory has it, with no MW yet
pub record NewRecord (R : Rules) (minute : ℕ) (r : Request) (state : State) (made : Record) : Type 0 where
  pub what : entry_of made ≡ new_record R minute r state
  pub none_held : made.held ≡ replicate 31 0
  pub none_aside : made.aside ≡ replicate 31 0
