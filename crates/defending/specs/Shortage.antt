-- What is short by day of a request's term, and what a record gives on a day that is short.
use Rattle.std.specs.Prelude.{ℕ, ◌+◌, ◌-◌, ◌<◌, ◌≤◌, min, Bool, cond, not, ◌&&◌, List, ◌==◌, nat_le, nat_lt, slice_index}
use Rattle.terms.specs.declared.request.Request.{Request}
use Rattle.terms.specs.Words.{is_pending}
use Rattle.law.specs.Posting.{busy_days}
use Rattle.desk.specs.declared.record.Record.{Record}
use Rattle.desk.specs.Records.{held_on}

-- of amounts by day from a request's start on, the amount on a day of its term; none on other days
abbrev pub short_on : Request → List ℕ → ℕ → ℕ
short_on r amounts day = cond (nat_le r.start day && nat_lt day (r.start + r.length)) (slice_index amounts (day - r.start)) 0

-- the lesser of what a record holds on a day and what is short
abbrev pub gives_here : Record → Request → List ℕ → ℕ → ℕ
gives_here one r amounts day = min (held_on day one) (short_on r amounts day)

-- a record holds nothing outside its own term
abbrev pub HoldsInTerm : Record → Type 0
HoldsInTerm one = (day : ℕ) → 0 < held_on day one → (one.standing.request.start ≤ day) × (day < one.standing.request.start + one.standing.request.length)

-- a pending record that gives anything gives way whole
abbrev pub gives_whole : Record → Request → List ℕ → Bool
gives_whole one r amounts = is_pending one.standing.state && not (busy_days (gives_here one r amounts) r.start r.length == 0)

-- a record that gives way whole writes a line for each day on which it holds something; another pending one writes none,
-- and a confirmed one writes a line for each day on which it gives something
abbrev pub lines_written : Record → Request → List ℕ → ℕ
lines_written one r amounts =
    cond (is_pending one.standing.state)
    (cond (gives_whole one r amounts) (busy_days (λ day. held_on day one) one.standing.request.start one.standing.request.length) 0)
    (busy_days (gives_here one r amounts) r.start r.length)
