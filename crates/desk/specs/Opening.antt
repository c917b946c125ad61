-- When a book may be opened over lent memory.
use Rattle.std.specs.Prelude.{ℕ, suc, Bool, true, cond, ◌&&◌, List, [], ◌∷◌, length, Some, None, count_by, Option, ◌==◌, nat_le, nat_lt, slice_index}
use Rattle.terms.specs.declared.refusal.Refusal.{Refusal}
use Rattle.terms.specs.declared.refusal.Refusal.TheVariants.{BadDayCount, BadPosting, BadPlaceCount, BadJournalSize}
use Rattle.terms.specs.Days.{Days}

-- 1 to 400 days, with a preschedule day and a free amount for each
abbrev pub days_fit : Days → ℕ → Bool
days_fit days free =
    nat_le 1 (length days.amounts) && (nat_le (length days.amounts) 400 &&
    (length days.preschedule == length days.amounts && free == length days.amounts))

-- from day k on: no amount above 20,000 MW, no preschedule day later than its day
abbrev pub postings_fit : ℕ → List ℕ → List ℕ → Bool
postings_fit day [] preschedule = true
postings_fit day (mw ∷ amounts) preschedule = (nat_le mw 20000 && nat_le (slice_index preschedule day) day) && postings_fit (suc day) amounts preschedule

abbrev pub places_fit : ℕ → Bool
places_fit places = nat_le 1 places && nat_le places 128

-- days above 0 MW: each wants a journal line
abbrev pub busy_days : List ℕ → ℕ
busy_days amounts = count_by (λ mw. nat_lt 0 mw) amounts

abbrev pub journal_fits : List ℕ → ℕ → Bool
journal_fits amounts room = nat_le room 65536 && nat_le (busy_days amounts) room

-- goes on where a test is passed
abbrev pub unless : Bool → Refusal → Option Refusal → Option Refusal
unless passed refusal rest = cond passed rest (Some refusal)

-- the first refusal of an opening with so many free amounts, places and lines, or none
abbrev pub opening_refusal : Days → ℕ → ℕ → ℕ → Option Refusal
opening_refusal days free places room =
    unless (days_fit days free) BadDayCount
    (unless (postings_fit 0 days.amounts days.preschedule) BadPosting
    (unless (places_fit places) BadPlaceCount
    (unless (journal_fits days.amounts room) BadJournalSize
    None)))
