-- What each call on a book answers and makes of it.
use Rattle.std.specs.Prelude.{ℕ, ◌+◌, ◌-◌, min, Bool, true, false, cond, not, ◌&&◌, ◌||◌, nat_le, List, [], ◌∷◌, map, length, filter, ◌==◌, nat_eq, nat_lt}
use Rattle.terms.specs.declared.refusal.Refusal.{Refusal}
use Rattle.terms.specs.declared.refusal.Refusal.TheVariants.{BadMinute, ItemDue, OldAref, TermNotOffered, NotCarried, NoPlace, MatchOpen, NothingFree, NoRecord, WrongState, NoExtension, NothingDue, JournalFull}
use Rattle.terms.specs.declared.request.Request.{Request}
use Rattle.terms.specs.declared.words.State.{State}
use Rattle.terms.specs.declared.words.State.TheVariants.{Confirmed, Accepted, Offered, Competing, Challenged, Gone}
use Rattle.terms.specs.Days.{first_minute}
use Rattle.terms.specs.Words.{is_pending, is_challenged, is_gone}
use Rattle.sheets.specs.Laws.{last_minute}
use Rattle.sheets.specs.Raised.{raised}
use Rattle.sheets.specs.Rules.{Rules}
use Rattle.journal.specs.declared.line.Line.{Line}
use Rattle.journal.specs.declared.line.LineKind.TheVariants.{Lost, Kept, Extended, Ceded, Released, Flown}
use Rattle.journal.specs.Accounts.{aside, balance}
use Rattle.law.specs.View.{View, Entry, aref_of, start_of, length_of, find, nobody}
use Rattle.law.specs.Places.{change, seat, some, match_open, in_state, due_at, leave, over_at, stand_confirmed, new_record}
use Rattle.law.specs.Posting.{post, by_day, each_day, largest, holding, free_on}
use Rattle.law.specs.Preemption.{wanted, grant, defenders, holdings, preempt, empty, after_preempt}

-- each call has its minute; submit the request, the others but settle an AREF
pub data Call : Type 0 where
  submit : ℕ → Request → Call
  confirm withdraw match decline : ℕ → ℕ → Call
  settle : ℕ → Call

-- what a call makes: a refusal, or lines and places, and the AREF and state that it answers
pub data Made : Type 0 where
  refused : Refusal → Made
  makes : List Line → List Entry → ℕ → State → Made

-- a test that stops a call, and a way that it goes
unfoldable pub stop_if : Bool → Refusal → Made → Made
stop_if stops refusal rest = cond stops (refused refusal) rest

unfoldable pub if_so : Bool → Made → Made → Made
if_so test this that = cond test this that

-- Withdrawing and flying.

abbrev pub release : ℕ → ℕ → ℕ → List Line → List Line
release minute a day ls = post minute Released a 0 day (holding ls a day) ls

abbrev pub fly : ℕ → ℕ → ℕ → List Line → List Line
fly minute a day ls = post minute Flown a 0 day (holding ls a day) ls

-- a record's MW become free and it is gone
abbrev pub let_go : ℕ → Entry → View → Made
let_go minute e v = makes (by_day (release minute (aref_of e)) (start_of e) (length_of e) v.lines) (change (aref_of e) leave v.places) (aref_of e) Gone

-- a record's MW are flown and it is gone
abbrev pub flew : ℕ → Entry → View → Made
flew minute e v = makes (by_day (fly minute (aref_of e)) (start_of e) (length_of e) v.lines) (change (aref_of e) leave v.places) (aref_of e) Gone

-- Matches.

abbrev pub lose : ℕ → ℕ → ℕ → ℕ → List Line → List Line
lose minute a b day ls = post minute Lost a b day (balance ls (aside a b) day) ls

abbrev pub keep : ℕ → ℕ → ℕ → ℕ → List Line → List Line
keep minute a b day ls = post minute Kept a b day (balance ls (aside a b) day) ls

-- x for a, from free first, then from what its challenger b holds
abbrev pub extend : ℕ → ℕ → ℕ → ℕ → ℕ → List Line → List Line
extend minute x a b day ls =
    let m = min (free_on ls day) x in
    let ms = post minute Extended a b day m ls in
    post minute Ceded b a day (min (holding ms b day) (x - m)) ms

-- when its last match closes, a challenger is confirmed if it holds its MW on each day, gone if empty, else offered
abbrev pub closed_state : List Line → Entry → State
closed_state ls e =
    cond (each_day (λ day. nat_le (wanted e.standing.request day) (holding ls (aref_of e) day)) (start_of e) (length_of e)) Confirmed
    (cond (empty ls e) Gone Offered)

abbrev pub close : Rules → ℕ → List Line → Entry → Entry
close R minute ls e =
    let s = closed_state ls e in
    cond (is_pending s) (due_at (minute + R.confirm_time (in_state s e).standing) (in_state s e)) (due_at (over_at e) (in_state s e))

abbrev pub close_if_last : Rules → ℕ → List Line → ℕ → List Entry → List Entry
close_if_last R minute ls b es = cond (match_open es) es (change b (close R minute ls) es)

-- what was set aside goes to the challenger; the record is confirmed, or gone if empty
abbrev pub declined : Rules → ℕ → Entry → View → Made
declined R minute e v =
    let a = aref_of e in
    let ls = by_day (lose minute a e.against) (start_of e) (length_of e) v.lines in
    let s = cond (empty ls e) Gone Confirmed in
    makes ls (close_if_last R minute ls e.against (change a (λ d. due_at (over_at d) (in_state s d)) v.places)) a s

-- what was set aside returns, and x, the largest daily amount of it, is taken on each day after the record's last until
-- its length reaches the challenger's; terms are raised and the record is confirmed
abbrev pub matched : Rules → ℕ → Entry → View → Made
matched R minute e v =
    let a = aref_of e in let b = e.against in
    let c = find b v.places in
    let x = largest (λ day. balance v.lines (aside a b) day) (start_of e) (length_of e) in
    let new = raised c.standing.request e.standing.request in
    let more = new.length - length_of e in
    let first = start_of e + length_of e in
    let ls = by_day (extend minute x a b) first more (by_day (keep minute a b) (start_of e) (length_of e) v.lines) in
    stop_if (nat_lt (length v.days.amounts) (first + more) || not (each_day (λ day. nat_le x (free_on v.lines day + holding v.lines b day)) first more)) NoExtension
    (makes ls (close_if_last R minute ls b (change a (λ d. record { standing = record { request = new; state = Confirmed; queued = d.standing.queued }; due = first_minute (start_of e + new.length); against = 0 }) v.places)) a Confirmed)

-- Submit.

abbrev pub entered : Rules → ℕ → Request → State → List Line → List Entry → Made
entered R minute r s ls es = makes ls (seat (new_record R minute r s) es) r.aref s

-- free covers the MW on each day: granted; else an open match stops it; else, in time and with the defenders' holdings
-- enough, preemption begins; else what is free is offered, unless nothing is
abbrev pub steps : Rules → ℕ → Request → View → Made
steps R minute r v =
    let granted = by_day (grant minute r) r.start r.length v.lines in
    let ls = preempt R minute r v in
    let es = map (after_preempt R minute r v ls) v.places in
    if_so (each_day (λ day. nat_le (wanted r day) (free_on v.lines day)) r.start r.length)
    (entered R minute r (cond r.preconfirmed Confirmed Accepted) granted v.places)
    (stop_if (match_open v.places) MatchOpen
    (if_so (R.in_time r minute v.days && each_day (λ day. nat_le (wanted r day) (free_on v.lines day + holdings v.lines (defenders R minute r v) day)) r.start r.length)
    (entered R minute r (cond (match_open es) Competing Confirmed) ls es)
    (stop_if (each_day (λ day. nat_eq (free_on v.lines day) 0) r.start r.length) NothingFree
    (entered R minute r Offered granted v.places))))

abbrev pub submitted : Rules → ℕ → Request → View → Made
submitted R minute r v =
    stop_if (nat_le r.aref v.top) OldAref
    (stop_if (nat_le (first_minute r.start) minute || nat_lt (length v.days.amounts) (r.start + r.length)) TermNotOffered
    (stop_if (not (R.carries r)) NotCarried
    (stop_if (not (some (λ e. is_gone e.standing.state) v.places)) NoPlace
    (steps R minute r v))))

-- By AREF: a living record, in a state that the call is for.
abbrev pub by_aref : (State → Bool) → ℕ → View → (Entry → Made) → Made
by_aref p a v f = let e = find a v.places in stop_if (is_gone e.standing.state) NoRecord (stop_if (not (p e.standing.state)) WrongState (f e))

-- Settle.

-- does a record in this state fall due?
abbrev pub falls_due : State → Bool
falls_due Confirmed = true
falls_due Accepted = true
falls_due Offered = true
falls_due Competing = false
falls_due Challenged = true
falls_due Gone = false

-- did it fall due before the minute?
abbrev pub is_due : ℕ → Entry → Bool
is_due minute e = falls_due e.standing.state && nat_lt e.due minute

-- the earlier due minute, then the lower AREF
abbrev pub sooner : Entry → Entry → Bool
sooner d e = nat_lt d.due e.due || (d.due == e.due && nat_lt (aref_of d) (aref_of e))

unfoldable pub earliest : Entry → List Entry → Entry
earliest d [] = d
earliest d (e ∷ es) = earliest (cond (sooner e d) e d) es

-- the earliest item due before the minute, nobody where there is none
unfoldable pub first_due : ℕ → List Entry → Entry
first_due minute [] = nobody
first_due minute (e ∷ es) = cond (is_due minute e) (earliest e (filter (is_due minute) es)) (first_due minute es)

-- the work of settle follows from the record's state
abbrev pub settles : Rules → ℕ → Entry → View → State → Made
settles R minute e v Confirmed = flew minute e v
settles R minute e v Accepted = let_go minute e v
settles R minute e v Offered = let_go minute e v
settles R minute e v Competing = refused NothingDue
settles R minute e v Challenged = declined R minute e v
settles R minute e v Gone = refused NothingDue

abbrev pub settled : Rules → ℕ → View → Made
settled R minute v = let e = first_due minute v.places in settles R minute e v e.standing.state

-- Any call.

abbrev pub makes_of : Rules → Call → View → Made
makes_of R (submit t r) v = submitted R t r v
makes_of R (confirm t a) v = by_aref is_pending a v (λ e. makes v.lines (change a stand_confirmed v.places) a Confirmed)
makes_of R (withdraw t a) v = by_aref is_pending a v (λ e. let_go t e v)
makes_of R (match t a) v = by_aref is_challenged a v (λ e. matched R t e v)
makes_of R (decline t a) v = by_aref is_challenged a v (λ e. declined R t e v)
makes_of R (settle t) v = settled R t v

abbrev pub minute_of : Call → ℕ
minute_of (submit t r) = t
minute_of (confirm t a) = t
minute_of (withdraw t a) = t
minute_of (match t a) = t
minute_of (decline t a) = t
minute_of (settle t) = t

abbrev pub is_settle : Call → Bool
is_settle (submit t r) = false
is_settle (confirm t a) = false
is_settle (withdraw t a) = false
is_settle (match t a) = false
is_settle (decline t a) = false
is_settle (settle t) = true

-- the highest AREF accepted, after the call
abbrev pub new_top : Call → ℕ → ℕ
new_top (submit t r) top = r.aref
new_top (confirm t a) top = top
new_top (withdraw t a) top = top
new_top (match t a) top = top
new_top (decline t a) top = top
new_top (settle t) top = top

pub data Answer : Type 0 where
  refusal : Refusal → Answer
  -- AREF, its new state, the receipt's first line and count
  done : ℕ → State → ℕ → ℕ → Answer

-- too few journal lines stop a call before anything is written; a refusal leaves everything as it was
abbrev pub written : Call → View → Made → Answer × View
written c v (refused e) = (refusal e, v)
written c v (makes ls es a s) =
    cond (nat_lt v.room (length ls)) (refusal JournalFull, v) (
      done a s (length v.lines) (length ls - length v.lines),
      record { days = v.days; room = v.room; lines = ls; places = es; clock = minute_of c; top = new_top c v.top },
    )

-- a minute past the limit or before the last accepted call, and a due item, stop any call; settle is not stopped by what is due
abbrev pub asked : Rules → Call → View → Made
asked R c v =
    stop_if (nat_lt last_minute (minute_of c) || nat_lt (minute_of c) v.clock) BadMinute
    (stop_if (not (is_settle c) && some (is_due (minute_of c)) v.places) ItemDue
    (makes_of R c v))

-- one call: what it answers, and the book after it
unfoldable pub step : Rules → Call → View → Answer × View
step R c v = written c v (asked R c v)

-- a list of calls, one after another
unfoldable pub run : Rules → List Call → View → View
run R [] v = v
run R (c ∷ cs) v = run R cs (step R c v).1
