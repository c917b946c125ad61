-- The posted days, and the minutes at which days begin.
use Rattle.std.specs.Prelude.{ℕ, ◌*◌, ◌/◌, ◌%◌, cond, List, length, Some, None, Option, nat_lt, slice_index}
use Rattle.terms.specs.declared.posted.Posted.{Posted}

-- the MW posted on each day from day 0 on, and each day's preschedule day
pub record Days : Type 0 where
  pub amounts : List ℕ
  pub preschedule : List ℕ

-- what the lent slices hold
abbrev pub days_of : Posted → Days
days_of p = record { amounts = p.amounts.now; preschedule = p.preschedule.now }

-- a day has 1,440 minutes, and day 0 begins at minute 0
abbrev pub first_minute : ℕ → ℕ
first_minute day = 1440 * day

-- the day that a minute lies in, and the minute's place in it
abbrev pub day_of : ℕ → ℕ
day_of minute = minute / 1440

abbrev pub minute_of_day : ℕ → ℕ
minute_of_day minute = minute % 1440

-- the minute at which the preschedule day of a day begins; none for a day that is not posted
abbrev pub preschedule_minute : Days → ℕ → Option ℕ
preschedule_minute days day = cond (nat_lt day (length days.preschedule)) (Some (first_minute (slice_index days.preschedule day))) None
