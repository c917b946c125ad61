-- When preemption begins: exactly when it should, read off the lines that the submit wrote.
use Rattle.std.specs.Prelude.{◌≡◌, ℕ, ◌+◌, ◌≤◌, Bool, true, false, ◌||◌, nat_le, List, [], ◌∷◌, ◌++◌, length, nat_lt}
use Rattle.terms.specs.declared.request.Request.{Request}
use Rattle.terms.specs.Days.{Days, first_minute}
use Rattle.terms.specs.Words.{is_gone}
use Rattle.sheets.specs.Laws.{last_minute}
use Rattle.sheets.specs.Rules.{Rules}
use Rattle.journal.specs.declared.line.Line.{Line}
use Rattle.journal.specs.Kinds.{gives_way}
use Rattle.law.specs.View.{View}
use Rattle.law.specs.Places.{some, match_open}
use Rattle.law.specs.Posting.{each_day, free_on}
use Rattle.law.specs.Preemption.{wanted, defenders, holdings, preempt}
use Rattle.law.specs.Opened.{opened}
use Rattle.law.specs.Calls.{Call, submit, is_due, step, run}

-- does somebody give way by one of these lines?
abbrev pub somebody_gives_way : List Line → Bool
somebody_gives_way [] = false
somebody_gives_way (l ∷ ls) = gives_way l.kind || somebody_gives_way ls

-- by the lines that came after ls somebody gave way
abbrev pub GaveWaySince : List Line → List Line → Type 0
GaveWaySince ls ms = (new : List Line) × (ms ≡ ls ++ new) × (somebody_gives_way new ≡ true)

-- the request is not stopped before the steps: the minute, what is due, the AREF, the term, the service, a place
pub record NotStopped (R : Rules) (minute : ℕ) (r : Request) (v : View) : Type 0 where
  pub minute_fits : (nat_lt last_minute minute || nat_lt minute v.clock) ≡ false
  pub nothing_due : some (is_due minute) v.places ≡ false
  pub aref_new : nat_le r.aref v.top ≡ false
  pub term_offered : (nat_le (first_minute r.start) minute || nat_lt (length v.days.amounts) (r.start + r.length)) ≡ false
  pub carried : R.carries r ≡ true
  pub place_free : some (λ e. is_gone e.standing.state) v.places ≡ true

pub record PreemptionDue (R : Rules) (minute : ℕ) (r : Request) (v : View) : Type 0 where
  pub not_stopped : NotStopped R minute r v
  -- free capacity is short on some day
  pub short_somewhere : each_day (λ day. nat_le (wanted r day) (free_on v.lines day)) r.start r.length ≡ false
  pub no_match_open : match_open v.places ≡ false
  pub in_time : R.in_time r minute v.days ≡ true
  -- free and the defenders' holdings meet it whole
  pub can_be_met : each_day (λ day. nat_le (wanted r day) (free_on v.lines day + holdings v.lines (defenders R minute r v) day)) r.start r.length ≡ true
  -- the journal lines suffice
  pub lines_suffice : length (preempt R minute r v) ≤ v.room

-- after every list of calls, under every sheet: somebody gives way by a submit exactly when preemption is due
abbrev pub BeginsExactlyWhenDue : Type 0
BeginsExactlyWhenDue = (R : Rules) (days : Days) (places room : ℕ) (calls : List Call) (minute : ℕ) (r : Request) →
    let v = run R calls (opened days places room) in
    let w = (step R (submit minute r) v).1 in
    (GaveWaySince v.lines w.lines → PreemptionDue R minute r v) × (PreemptionDue R minute r v → GaveWaySince v.lines w.lines)
