-- The laws that every rule sheet keeps. They are asked only of records that can exist and of minutes that a call can
-- have, so that what is promised of a book holds above as many sheets as possible.
use Rattle.std.specs.Prelude.{◌≡◌, ℕ, ◌+◌, ◌≤◌, true, false, not, ◌≢◌}
use Rattle.terms.specs.declared.words.Kind.TheVariants.{PointToPoint}
use Rattle.terms.specs.declared.words.State.TheVariants.{Confirmed}
use Rattle.terms.specs.declared.request.Request.{Request}
use Rattle.terms.specs.declared.request.Standing.{Standing}
use Rattle.terms.specs.Days.{Days}
use Rattle.terms.specs.Words.{is_pending}
use Rattle.sheets.specs.Rules.{Rules}
use Rattle.sheets.specs.Raised.{with_raised_terms}

-- no term is shorter than a day or longer than 31
abbrev pub Possible : Request → Type 0
Possible r = (1 ≤ r.length) × (r.length ≤ 31)

-- the last minute of any call
abbrev pub last_minute : ℕ
last_minute = 1000000

pub record Lawful (R : Rules) : Type 0 where
  -- of two AREFs exactly one gives first
  pub one_first : (a b : Standing) → Possible a.request → Possible b.request →
      a.request.aref ≢ b.request.aref → R.gives_before a b ≡ not (R.gives_before b a)
  -- who gives before another gives before all that give after it
  pub in_line : (a b c : Standing) → Possible a.request → Possible b.request → Possible c.request →
      R.gives_before a b ≡ true → R.gives_before b c ≡ true → R.gives_before a c ≡ true
  -- pending records give before confirmed ones
  pub pending_first : (a b : Standing) → Possible a.request → Possible b.request →
      is_pending a.state ≡ true → b.state ≡ Confirmed → R.gives_before a b ≡ true
  -- the right goes only to a confirmed record
  pub right_confirmed : (c : Request) (d : Standing) → Possible c → Possible d.request →
      R.may_match c d ≡ true → d.state ≡ Confirmed
  -- that the challenger outranks
  pub right_outranked : (c : Request) (d : Standing) → Possible c → Possible d.request →
      R.may_match c d ≡ true → R.outranks c d ≡ true
  -- and never against a network challenger
  pub right_not_network : (c : Request) (d : Standing) → Possible c → Possible d.request →
      R.may_match c d ≡ true → c.kind ≡ PointToPoint
  -- a record with the right is not outranked once its terms are raised
  pub raised_stands : (c : Request) (d : Standing) → Possible c → Possible d.request →
      R.may_match c d ≡ true → R.outranks c (with_raised_terms c d) ≡ false
  -- where the challenger is in time, a match is open for 1 to 2,880 minutes
  pub answer_later : (c : Request) (d : Standing) (minute : ℕ) (days : Days) → Possible c → Possible d.request →
      minute ≤ last_minute → R.in_time c minute days ≡ true →
      (minute + 1 ≤ R.answer_by c d minute days) × (R.answer_by c d minute days ≤ minute + 2880)
  -- an offer stands for 1 to 2,880 minutes
  pub confirm_later : (d : Standing) → Possible d.request → (1 ≤ R.confirm_time d) × (R.confirm_time d ≤ 2880)
