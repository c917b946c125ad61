-- What is answered when the sums of a day are asked for.
use Rattle.std.specs.Prelude.{◌≡◌, ℕ, suc, ◌+◌, cond, length, Ok, Err, Result, nat_lt}
use Rattle.terms.specs.declared.refusal.Refusal.{Refusal}
use Rattle.terms.specs.declared.refusal.Refusal.TheVariants.{DayNotPosted}
use Rattle.journal.specs.Accounts.{free, flown, balance, held_below, aside_below}
use Rattle.law.specs.View.{View}
use Rattle.desk.specs.declared.sums.Sums.{Sums}

-- the sums of a day by the journal's accounts, over all AREFs accepted
abbrev pub accounts_on : View → ℕ → Sums
accounts_on v day = record {
  free = balance v.lines free day;
  held = held_below (suc v.top) v.lines day;
  aside = aside_below (suc v.top) v.lines day;
  flown = balance v.lines flown day;
}

-- the answer: the accounts of a posted day, a refusal for any other
abbrev pub sums_of : View → ℕ → Result Sums Refusal
sums_of v day = cond (nat_lt day (length v.days.amounts)) (Ok (accounts_on v day)) (Err DayNotPosted)

-- sums that are answered come to so many MW in all
abbrev pub ComeTo : ℕ → Result Sums Refusal → Type 0
ComeTo mw (Ok s) = s.free + s.held + s.aside + s.flown ≡ mw
ComeTo mw (Err refusal) = Unit {0}
