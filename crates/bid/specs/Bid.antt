-- The bid sheet: point-to-point service ranked by product, length, commitment and price, challenged in the morning.
use Rattle.std.specs.Prelude.{ℕ, ◌+◌, Bool, cond, not, ◌&&◌, List, [], ◌∷◌, Some, None, Option, ◌==◌, nat_le}
use Rattle.terms.specs.declared.request.Request.{Request}
use Rattle.terms.specs.declared.request.Standing.{Standing}
use Rattle.terms.specs.declared.words.Product.{Product}
use Rattle.terms.specs.declared.words.Product.TheVariants.{Daily, Weekly, Monthly}
use Rattle.terms.specs.declared.words.State.{State}
use Rattle.terms.specs.declared.words.State.TheVariants.{Confirmed, Accepted, Offered, Competing, Challenged, Gone}
use Rattle.terms.specs.Days.{Days, day_of, minute_of_day, first_minute, preschedule_minute}
use Rattle.terms.specs.Words.{is_network, is_confirmed}
use Rattle.sheets.specs.Rules.{Rules}
use Rattle.sheets.specs.Turn.{Criterion, lower, higher, first_in, turn_by, product_rank, length_of, committed_of, price_of, as_challenger}
use Rattle.sheets.specs.Minutes.{not_past, given}

-- the first difference in product, length, commitment and price decides: the higher bid outranks
abbrev pub bid_rank : List Criterion
bid_rank = higher product_rank ∷ higher length_of ∷ higher committed_of ∷ higher price_of ∷ []

-- and the lower gives first
abbrev pub bid_order : List Criterion
bid_order = lower product_rank ∷ lower length_of ∷ lower committed_of ∷ lower price_of ∷ []

-- both point-to-point, the challenger committed, and the higher bid
abbrev pub bid_outranks : Request → Standing → Bool
bid_outranks c d =
    c.preconfirmed && (not (is_network d.request.kind) && (not (is_network c.kind) &&
    first_in bid_rank (as_challenger c) d))

-- a confirmed defender that is outranked may match
abbrev pub bid_may_match : Request → Standing → Bool
bid_may_match c d = is_confirmed d.state && bid_outranks c d

-- a bid counts until 09:00 of the preschedule day
abbrev pub bid_until : Days → ℕ → Option ℕ
bid_until days start = given (preschedule_minute days start) (λ preschedule. Some (preschedule + 540))

-- challenges come from 06:00 to 09:00 of a day
abbrev pub in_the_morning : ℕ → Bool
in_the_morning minute = nat_le 360 (minute_of_day minute) && nat_le (minute_of_day minute) 540

-- no record is open but pending and confirmed ones
abbrev pub bid_state_until : State → Days → ℕ → Option ℕ
bid_state_until Confirmed days start = bid_until days start
bid_state_until Accepted days start = bid_until days start
bid_state_until Offered days start = bid_until days start
bid_state_until Competing days start = None
bid_state_until Challenged days start = None
bid_state_until Gone days start = None

-- the last minute at which a defender is open, rank aside
abbrev pub bid_open_until : Standing → Days → Option ℕ
bid_open_until d days = bid_state_until d.state days d.request.start

-- the answer is due the same day: at 10:00 for service from the next day on, otherwise at 14:00
abbrev pub bid_answer_by : Request → ℕ → ℕ
bid_answer_by c minute = first_minute (day_of minute) + cond (c.start == day_of minute + 1) 600 840

abbrev pub bid_confirm_time : Product → ℕ
bid_confirm_time Daily = 10
bid_confirm_time Weekly = 30
bid_confirm_time Monthly = 120

abbrev pub bid : Rules
bid = record {
  carries = λ c. not (is_network c.kind);
  outranks = bid_outranks;
  gives_before = turn_by bid_order;
  may_match = bid_may_match;
  in_time = λ c minute days. in_the_morning minute && not_past (bid_until days c.start) minute;
  is_open = λ c d minute days. not_past (bid_open_until d days) minute;
  answer_by = λ c d minute days. bid_answer_by c minute;
  confirm_time = λ d. bid_confirm_time d.request.product;
}
