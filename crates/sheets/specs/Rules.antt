-- The meaning of a rule sheet: one answer to each question. Only the questions of time read the call's minute and
-- the posted days. A challenger is read as the request it submitted, a defender as its record stands.
use Rattle.std.specs.Prelude.{ℕ, Bool}
use Rattle.terms.specs.declared.request.Request.{Request}
use Rattle.terms.specs.declared.request.Standing.{Standing}
use Rattle.terms.specs.Days.{Days}

pub record Rules : Type 0 where
  -- does the sheet take this request?
  pub carries : Request → Bool
  -- does the challenger outrank the defender?
  pub outranks : Request → Standing → Bool
  -- does the one give way before the other?
  pub gives_before : Standing → Standing → Bool
  -- has the defender the right of first refusal against the challenger?
  pub may_match : Request → Standing → Bool
  -- may the challenger challenge at this minute?
  pub in_time : Request → ℕ → Days → Bool
  -- may the challenger take from the defender at this minute?
  pub is_open : Request → Standing → ℕ → Days → Bool
  -- the last minute at which the defender may match a challenge made at this minute
  pub answer_by : Request → Standing → ℕ → Days → ℕ
  -- how many minutes an offer to a pending record stands
  pub confirm_time : Standing → ℕ
