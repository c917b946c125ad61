-- Where the rules turn: one small table of answers on both sides of each edge, read off the meanings of the sheets.
use Rattle.std.specs.Prelude.{◌≡◌, true, false, ℕ, replicate}
use Rattle.terms.specs.declared.words.Kind.{Kind}
use Rattle.terms.specs.declared.words.Kind.TheVariants.{PointToPoint, Network}
use Rattle.terms.specs.declared.words.Product.{Product}
use Rattle.terms.specs.declared.words.Product.TheVariants.{Daily, Weekly, Monthly}
use Rattle.terms.specs.declared.words.State.{State}
use Rattle.terms.specs.declared.words.State.TheVariants.{Confirmed, Accepted}
use Rattle.terms.specs.declared.request.Request.{Request}
use Rattle.terms.specs.declared.request.Standing.{Standing}
use Rattle.terms.specs.Days.{Days}
use Rattle.firm.specs.Firm.{firm}
use Rattle.bid.specs.Bid.{bid}

-- a preconfirmed request of 1 MW from day 36 on
abbrev pub challenger : Kind → Product → ℕ → Request
challenger kind product length = record { aref = 9; kind = kind; product = product; start = 36; length = length; mw = 1; preconfirmed = true; price = 0 }

-- a point-to-point record of 1 MW from day 36 on, without the preconfirmed mark
abbrev pub defender : ℕ → Product → ℕ → State → Standing
defender aref product length state = record {
  request = record { aref = aref; kind = PointToPoint; product = product; start = 36; length = length; mw = 1; preconfirmed = false; price = 0 };
  state = state;
  queued = 0;
}

-- day 36 begins at minute 51,840; its preschedule day is day 3, which begins at minute 4,320
abbrev pub days : Days
days = record { amounts = replicate 37 1; preschedule = replicate 37 3 }

pub record Edges : Type 0 where
  -- on the firm sheet equal lengths outrank a record that is not committed, and no other
  pub equal_to_uncommitted : firm.outranks (challenger PointToPoint Daily 3) (defender 8 Daily 3 Accepted) ≡ true
  pub equal_to_committed : firm.outranks (challenger PointToPoint Daily 3) (defender 8 Daily 3 Confirmed) ≡ false
  -- weekly service of 7 days outranks daily service of 10 on the bid sheet, not on the firm sheet
  pub week_on_bid : bid.outranks (challenger PointToPoint Weekly 7) (defender 8 Daily 10 Confirmed) ≡ true
  pub week_on_firm : firm.outranks (challenger PointToPoint Weekly 7) (defender 8 Daily 10 Confirmed) ≡ false
  -- a daily challenger is in time up to 4,260 minutes ahead of its preschedule day
  pub in_time_at_60 : firm.in_time (challenger PointToPoint Daily 3) 60 days ≡ true
  pub late_at_61 : firm.in_time (challenger PointToPoint Daily 3) 61 days ≡ false
  -- a confirmed daily record is open to point-to-point up to 2,820 minutes ahead of its preschedule day
  pub open_at_1500 : firm.is_open (challenger PointToPoint Daily 3) (defender 8 Daily 1 Confirmed) 1500 days ≡ true
  pub shut_at_1501 : firm.is_open (challenger PointToPoint Daily 3) (defender 8 Daily 1 Confirmed) 1501 days ≡ false
  -- and to network up to 60 minutes into that day
  pub open_at_4380 : firm.is_open (challenger Network Daily 3) (defender 8 Daily 1 Confirmed) 4380 days ≡ true
  pub shut_at_4381 : firm.is_open (challenger Network Daily 3) (defender 8 Daily 1 Confirmed) 4381 days ≡ false
  -- a confirmed monthly record is open up to 50,400 minutes ahead of its start
  pub open_at_1440 : firm.is_open (challenger PointToPoint Monthly 31) (defender 8 Monthly 28 Confirmed) 1440 days ≡ true
  pub shut_at_1441 : firm.is_open (challenger PointToPoint Monthly 31) (defender 8 Monthly 28 Confirmed) 1441 days ≡ false
  -- all else equal, AREF 9 gives before AREF 8
  pub nine_first : firm.gives_before (defender 9 Daily 1 Confirmed) (defender 8 Daily 1 Confirmed) ≡ true
  pub not_eight : firm.gives_before (defender 8 Daily 1 Confirmed) (defender 9 Daily 1 Confirmed) ≡ false
