-- Who gives way to a challenger, in turn, and how much.
use Rattle.std.specs.Prelude.{ℕ, ◌+◌, ◌-◌, min, Bool, true, false, cond, not, ◌&&◌, ◌||◌, List, [], ◌∷◌, filter, ◌==◌, nat_eq, nat_le, nat_lt}
use Rattle.terms.specs.declared.request.Request.{Request}
use Rattle.terms.specs.declared.words.State.TheVariants.{Challenged}
use Rattle.terms.specs.Days.{Days}
use Rattle.terms.specs.Words.{is_pending, is_confirmed}
use Rattle.sheets.specs.Rules.{Rules}
use Rattle.shelf.specs.Order.{put}
use Rattle.journal.specs.declared.line.Line.{Line}
use Rattle.journal.specs.declared.line.LineKind.{LineKind}
use Rattle.journal.specs.declared.line.LineKind.TheVariants.{Posted, Granted, Superseded, Recalled, SetAside, Lost, Kept, Extended, Ceded, Released, Flown}
use Rattle.journal.specs.Accounts.{aside, balance}
use Rattle.law.specs.View.{View, Entry, aref_of, start_of, length_of}
use Rattle.law.specs.Places.{leave}
use Rattle.law.specs.Posting.{post, by_day, each_day, holding, free_on}

-- the MW that a request asks for on a day of its term: alike on each
unfoldable pub wanted : Request → ℕ → ℕ
wanted r day = r.mw

-- lines that bring MW to a challenger or set them aside for it
abbrev pub brings_challenger : LineKind → Bool
brings_challenger Posted = false
brings_challenger Granted = true
brings_challenger Superseded = false
brings_challenger Recalled = true
brings_challenger SetAside = true
brings_challenger Lost = false
brings_challenger Kept = false
brings_challenger Extended = false
brings_challenger Ceded = false
brings_challenger Released = false
brings_challenger Flown = false

-- what lines have taken for a challenger b on a day
unfoldable pub taken : ℕ → ℕ → List Line → ℕ
taken b day [] = 0
taken b day (l ∷ ls) = cond (brings_challenger l.kind && (l.b == b && l.day == day)) l.mw 0 + taken b day ls

-- a day of its term is short by what free and what was taken for it are below the MW
abbrev pub short : Request → ℕ → List Line → ℕ
short r day ls = cond (nat_le r.start day && nat_lt day (r.start + r.length)) (wanted r day - (free_on ls day + taken r.aref day ls)) 0

-- does a defender hold MW on a day that is short?
abbrev pub meets_shortage : Request → Entry → List Line → Bool
meets_shortage r d ls = not (each_day (λ day. (holding ls (aref_of d) day == 0) || short r day ls == 0) (start_of d) (length_of d))

-- a pending defender that meets a shortage is superseded whole: its MW become free
abbrev pub supersede : ℕ → Request → Entry → List Line → List Line
supersede minute r d ls =
    cond (meets_shortage r d ls)
    (by_day (λ day ms. post minute Superseded (aref_of d) r.aref day (holding ms (aref_of d) day) ms) (start_of d) (length_of d) ls)
    ls

-- a confirmed defender gives the lesser of holding and shortage on each day: set aside if it may match, else recalled
abbrev pub give : Rules → ℕ → Request → Entry → List Line → List Line
give R minute r d ls =
    by_day (λ day ms. post minute (cond (R.may_match r d.standing) SetAside Recalled) (aref_of d) r.aref day
    (min (holding ms (aref_of d) day) (short r day ms)) ms) (start_of d) (length_of d) ls

unfoldable pub supersede_all : ℕ → Request → List Entry → List Line → List Line
supersede_all minute r [] ls = ls
supersede_all minute r (d ∷ ds) ls = supersede_all minute r ds (cond (is_pending d.standing.state) (supersede minute r d ls) ls)

unfoldable pub give_all : Rules → ℕ → Request → List Entry → List Line → List Line
give_all R minute r [] ls = ls
give_all R minute r (d ∷ ds) ls = give_all R minute r ds (cond (is_pending d.standing.state) ls (give R minute r d ls))

-- free up to the MW
abbrev pub grant : ℕ → Request → ℕ → List Line → List Line
grant minute r day ls = post minute Granted 0 r.aref day (min (free_on ls day) (wanted r day)) ls

abbrev pub gives_before : Rules → Entry → Entry → Bool
gives_before R d e = R.gives_before d.standing e.standing

-- records in turn, as they come off the shelf
unfoldable pub in_turn : Rules → List Entry → List Entry
in_turn R [] = []
in_turn R (d ∷ ds) = put (gives_before R) (in_turn R ds) d

-- defenders are the pending and confirmed records that the request outranks and that are open to it
abbrev pub defends : Rules → ℕ → Request → Days → Entry → Bool
defends R minute r days e =
    (is_pending e.standing.state || is_confirmed e.standing.state) &&
    (R.outranks r e.standing && R.is_open r e.standing minute days)

abbrev pub defenders : Rules → ℕ → Request → View → List Entry
defenders R minute r v = in_turn R (filter (defends R minute r v.days) v.places)

-- what defenders hold on a day in all
unfoldable pub holdings : List Line → List Entry → ℕ → ℕ
holdings ls [] day = 0
holdings ls (d ∷ ds) day = holding ls (aref_of d) day + holdings ls ds day

-- superseded lines, then what is granted from free, then what the confirmed defenders give
abbrev pub preempt : Rules → ℕ → Request → View → List Line
preempt R minute r v =
    let ds = defenders R minute r v in
    give_all R minute r ds (by_day (grant minute r) r.start r.length (supersede_all minute r ds v.lines))

-- has a record nothing left, and is nothing of it aside for b?
abbrev pub empty : List Line → Entry → Bool
empty ls e = each_day (λ day. nat_eq (holding ls (aref_of e) day) 0) (start_of e) (length_of e)

abbrev pub none_aside : List Line → ℕ → Entry → Bool
none_aside ls b e = each_day (λ day. nat_eq (balance ls (aside (aref_of e) b) day) 0) (start_of e) (length_of e)

-- what a defender has become: challenged if something of it is aside, gone if it has nothing left, else what it was
abbrev pub after_preempt : Rules → ℕ → Request → View → List Line → Entry → Entry
after_preempt R minute r v ls e =
    cond (defends R minute r v.days e)
    (cond (none_aside ls r.aref e) (cond (empty ls e) (leave e) e)
    (record { standing = record { request = e.standing.request; state = Challenged; queued = e.standing.queued }; due = R.answer_by r e.standing minute v.days; against = r.aref }))
    e
