-- The firm sheet: daily, weekly and monthly firm service, point-to-point and network.
use Rattle.std.specs.Prelude.{ℕ, ◌+◌, Bool, true, cond, not, ◌&&◌, ◌||◌, List, [], ◌∷◌, Some, None, Option, ◌==◌, nat_le, nat_lt}
use Rattle.terms.specs.declared.request.Request.{Request}
use Rattle.terms.specs.declared.request.Standing.{Standing}
use Rattle.terms.specs.declared.words.Kind.{Kind}
use Rattle.terms.specs.declared.words.Kind.TheVariants.{PointToPoint, Network}
use Rattle.terms.specs.declared.words.Product.{Product}
use Rattle.terms.specs.declared.words.Product.TheVariants.{Daily, Weekly, Monthly}
use Rattle.terms.specs.declared.words.State.{State}
use Rattle.terms.specs.declared.words.State.TheVariants.{Confirmed, Accepted, Offered, Competing, Challenged, Gone}
use Rattle.terms.specs.Days.{Days, first_minute, preschedule_minute}
use Rattle.terms.specs.Numbers.{product_number}
use Rattle.terms.specs.Standings.{committed}
use Rattle.terms.specs.Words.{is_network, is_confirmed}
use Rattle.sheets.specs.Rules.{Rules}
use Rattle.sheets.specs.Turn.{Criterion, lower, length_of, committed_of, turn_by}
use Rattle.sheets.specs.Minutes.{ahead_of, not_past, given}

-- a length that is greater, or equal while the defender is not committed
abbrev pub outlasts : Request → Standing → Bool
outlasts c d = nat_lt d.request.length c.length || (c.length == d.request.length && not (committed d))

-- a committed challenger outranks a point-to-point defender if it is network, or has no lower product and outlasts it
abbrev pub firm_outranks : Request → Standing → Bool
firm_outranks c d =
    c.preconfirmed && (not (is_network d.request.kind) &&
    (is_network c.kind || (nat_le (product_number d.request.product) (product_number c.product) && outlasts c d)))

-- a confirmed defender that a point-to-point challenger outranks may match it
abbrev pub firm_may_match : Request → Standing → Bool
firm_may_match c d = is_confirmed d.state && (not (is_network c.kind) && firm_outranks c d)

-- the shorter length gives first, then who is not committed
abbrev pub firm_order : List Criterion
firm_order = lower length_of ∷ lower committed_of ∷ []

-- how far ahead of its preschedule day a point-to-point challenger has to come
abbrev pub firm_lead : Product → ℕ
firm_lead Daily = 4260
firm_lead Weekly = 8640
firm_lead Monthly = 12960

-- the last minute at which a challenger is in time; a network one until 01:00 of its preschedule day
abbrev pub firm_in_time_until : Request → Days → Option ℕ
firm_in_time_until c days = given (preschedule_minute days c.start) (λ preschedule.
    cond (is_network c.kind) (Some (preschedule + 60)) (ahead_of preschedule (firm_lead c.product)))

-- the last minute at which a confirmed record is open to a challenger, by its own product, preschedule day and start
abbrev pub firm_confirmed_until : Kind → Product → ℕ → ℕ → Option ℕ
firm_confirmed_until PointToPoint Daily preschedule start = ahead_of preschedule 2820
firm_confirmed_until PointToPoint Weekly preschedule start = ahead_of start 12960
firm_confirmed_until PointToPoint Monthly preschedule start = ahead_of start 50400
firm_confirmed_until Network Daily preschedule start = Some (preschedule + 60)
firm_confirmed_until Network Weekly preschedule start = ahead_of start 10080
firm_confirmed_until Network Monthly preschedule start = ahead_of start 43200

-- a pending record is open until noon of its preschedule day; no record is open but pending and confirmed ones
abbrev pub firm_state_until : State → Kind → Product → ℕ → ℕ → Option ℕ
firm_state_until Confirmed kind product preschedule start = firm_confirmed_until kind product preschedule start
firm_state_until Accepted kind product preschedule start = Some (preschedule + 720)
firm_state_until Offered kind product preschedule start = Some (preschedule + 720)
firm_state_until Competing kind product preschedule start = None
firm_state_until Challenged kind product preschedule start = None
firm_state_until Gone kind product preschedule start = None

-- the last minute at which a challenger may take from a defender, rank aside
abbrev pub firm_open_until : Request → Standing → Days → Option ℕ
firm_open_until c d days = given (preschedule_minute days d.request.start) (λ preschedule.
    firm_state_until d.state c.kind d.request.product preschedule (first_minute d.request.start))

-- a defender has a day to match
abbrev pub firm_answer_by : ℕ → ℕ
firm_answer_by minute = minute + 1440

-- an offer of daily service stands for two hours, any other for a day
abbrev pub firm_confirm_time : Product → ℕ
firm_confirm_time Daily = 120
firm_confirm_time Weekly = 1440
firm_confirm_time Monthly = 1440

abbrev pub firm : Rules
firm = record {
  carries = λ c. true;
  outranks = firm_outranks;
  gives_before = turn_by firm_order;
  may_match = firm_may_match;
  in_time = λ c minute days. not_past (firm_in_time_until c days) minute;
  is_open = λ c d minute days. not_past (firm_open_until c d days) minute;
  answer_by = λ c d minute days. firm_answer_by minute;
  confirm_time = λ d. firm_confirm_time d.request.product;
}
