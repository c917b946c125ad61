-- The non-firm sheet: the firm sheet for point-to-point service alone, between records of equal product.
use Rattle.std.specs.Prelude.{ℕ, ◌+◌, Bool, not, ◌&&◌, Some, None, Option, ◌==◌}
use Rattle.terms.specs.declared.request.Request.{Request}
use Rattle.terms.specs.declared.request.Standing.{Standing}
use Rattle.terms.specs.declared.words.Product.{Product}
use Rattle.terms.specs.declared.words.Product.TheVariants.{Daily, Weekly, Monthly}
use Rattle.terms.specs.declared.words.State.{State}
use Rattle.terms.specs.declared.words.State.TheVariants.{Confirmed, Accepted, Offered, Competing, Challenged, Gone}
use Rattle.terms.specs.Days.{Days, preschedule_minute}
use Rattle.terms.specs.Numbers.{product_number}
use Rattle.terms.specs.Words.{is_network, is_confirmed}
use Rattle.sheets.specs.Rules.{Rules}
use Rattle.sheets.specs.Turn.{turn_by}
use Rattle.sheets.specs.Minutes.{ahead_of, not_past, given}
use Rattle.firm.specs.Firm.{outlasts, firm_order, firm_answer_by, firm_confirm_time}

-- both point-to-point, the challenger committed, of equal product, and it outlasts the defender
abbrev pub nonfirm_outranks : Request → Standing → Bool
nonfirm_outranks c d =
    c.preconfirmed && (not (is_network d.request.kind) && (not (is_network c.kind) &&
    (product_number d.request.product == product_number c.product && outlasts c d)))

-- a confirmed defender that is outranked may match
abbrev pub nonfirm_may_match : Request → Standing → Bool
nonfirm_may_match c d = is_confirmed d.state && nonfirm_outranks c d

-- how far ahead of its preschedule day a challenger has to come
abbrev pub nonfirm_lead : Product → ℕ
nonfirm_lead Daily = 1440
nonfirm_lead Weekly = 4320
nonfirm_lead Monthly = 5760

-- the last minute at which a challenger is in time
abbrev pub nonfirm_in_time_until : Request → Days → Option ℕ
nonfirm_in_time_until c days = given (preschedule_minute days c.start) (λ preschedule. ahead_of preschedule (nonfirm_lead c.product))

-- a confirmed record is open until 47 hours ahead of its preschedule day, a pending one until noon of that day
abbrev pub nonfirm_state_until : State → ℕ → Option ℕ
nonfirm_state_until Confirmed preschedule = ahead_of preschedule 2820
nonfirm_state_until Accepted preschedule = Some (preschedule + 720)
nonfirm_state_until Offered preschedule = Some (preschedule + 720)
nonfirm_state_until Competing preschedule = None
nonfirm_state_until Challenged preschedule = None
nonfirm_state_until Gone preschedule = None

-- the last minute at which a defender is open, rank aside
abbrev pub nonfirm_open_until : Standing → Days → Option ℕ
nonfirm_open_until d days = given (preschedule_minute days d.request.start) (nonfirm_state_until d.state)

abbrev pub nonfirm : Rules
nonfirm = record {
  carries = λ c. not (is_network c.kind);
  outranks = nonfirm_outranks;
  gives_before = turn_by firm_order;
  may_match = nonfirm_may_match;
  in_time = λ c minute days. not_past (nonfirm_in_time_until c days) minute;
  is_open = λ c d minute days. not_past (nonfirm_open_until d days) minute;
  answer_by = λ c d minute days. firm_answer_by minute;
  confirm_time = λ d. firm_confirm_time d.request.product;
}
