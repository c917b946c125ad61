-- The book after each call of the list, written out: each follows from the one before by one call.
use Rattle.std.proofs.Common.{◌≡◌, ℕ, true, List, [], ◌∷◌, take, refl, ap, ◌∙◌}
use Rattle.terms.specs.declared.request.Request.{Request}
use Rattle.terms.specs.declared.words.Kind.TheVariants.{PointToPoint}
use Rattle.terms.specs.declared.words.State.{State}
use Rattle.terms.specs.declared.words.State.TheVariants.{Confirmed, Accepted, Offered, Competing, Challenged, Gone}
use Rattle.journal.specs.declared.line.Line.{Line}
use Rattle.journal.specs.declared.line.LineKind.TheVariants.{Posted, Granted, Superseded, Recalled, SetAside, Lost, Kept, Extended, Ceded, Released, Flown}
use Rattle.journal.specs.Accounts.{balance, into, out_of}
use Rattle.law.specs.View.{View, Entry, nobody, find}
use Rattle.law.specs.Posting.{post, by_day, each_day, largest}
use Rattle.law.specs.Places.{seat, some}
use Rattle.law.specs.Preemption.{wanted, taken, supersede_all, give_all, in_turn, holdings}
use Rattle.law.specs.Calls.{submit, withdraw, match, decline, settle, stop_if, if_so, earliest, first_due, step, run}
use Rattle.examples.specs.AlwaysOpen.{always_open}
use Rattle.examples.specs.Witness.{days, asks, first, second, third, fourth, fifth, sixth, line, after}

-- the journal after all calls
abbrev journal : List Line
journal =
    line 0 Posted 0 0 1 100 ∷
    line 0 Posted 0 0 2 100 ∷
    line 0 Posted 0 0 3 60 ∷
    line 0 Posted 0 0 4 50 ∷
    line 0 Posted 0 0 5 20 ∷
    line 0 Granted 0 1 1 60 ∷
    line 1 Superseded 1 2 1 60 ∷
    line 1 Granted 0 2 1 80 ∷
    line 1 Granted 0 2 2 80 ∷
    line 2 Granted 0 3 1 20 ∷
    line 2 Recalled 2 3 1 30 ∷
    line 3 Granted 0 4 2 20 ∷
    line 3 Granted 0 4 3 40 ∷
    line 3 SetAside 2 4 1 40 ∷
    line 3 SetAside 2 4 2 20 ∷
    line 4 Kept 2 4 1 40 ∷
    line 4 Kept 2 4 2 20 ∷
    line 4 Extended 2 4 3 20 ∷
    line 4 Ceded 4 2 3 20 ∷
    line 5 Released 4 0 2 20 ∷
    line 5 Released 4 0 3 20 ∷
    line 6 Granted 0 5 2 20 ∷
    line 6 Granted 0 5 3 20 ∷
    line 6 Granted 0 5 4 30 ∷
    line 6 SetAside 2 5 1 30 ∷
    line 6 SetAside 2 5 2 10 ∷
    line 6 SetAside 2 5 3 10 ∷
    line 7 Lost 2 5 1 30 ∷
    line 7 Lost 2 5 2 10 ∷
    line 7 Lost 2 5 3 10 ∷
    line 8 Granted 0 6 4 20 ∷
    line 8 Granted 0 6 5 20 ∷
    line 8 SetAside 2 6 2 20 ∷
    line 8 SetAside 2 6 3 20 ∷
    line 1449 Lost 2 6 2 20 ∷
    line 1449 Lost 2 6 3 20 ∷
    line 2881 Flown 3 0 1 50 ∷
    []

-- a record in its place: terms, state, queue minute, due minute and challenger
abbrev stands : Request → State → ℕ → ℕ → ℕ → Entry
stands r s queued due against = record { standing = record { request = r; state = s; queued = queued }; due = due; against = against }

-- a book whose journal has the first n lines
abbrev pub book : ℕ → List Entry → ℕ → ℕ → View
book n places clock top = record { days = days; room = 100; lines = take n journal; places = places; clock = clock; top = top }

-- AREF 2 after its match
abbrev longer : Request
longer = asks 2 PointToPoint 1 3 80 true

abbrev pub book_0 : View
book_0 = book 5 (nobody ∷ nobody ∷ nobody ∷ nobody ∷ []) 0 0

abbrev pub book_1 : View
book_1 = book 6 (stands first Accepted 0 120 0 ∷ nobody ∷ nobody ∷ nobody ∷ []) 0 1

abbrev pub book_2 : View
book_2 = book 9 (stands second Confirmed 1 4320 0 ∷ nobody ∷ nobody ∷ nobody ∷ []) 1 2

abbrev pub book_3 : View
book_3 = book 11 (stands second Confirmed 1 4320 0 ∷ stands third Confirmed 2 2880 0 ∷ nobody ∷ nobody ∷ []) 2 3

abbrev pub book_4 : View
book_4 = book 15 (stands second Challenged 1 1443 4 ∷ stands third Confirmed 2 2880 0 ∷ stands fourth Competing 3 5760 0 ∷ nobody ∷ []) 3 4

abbrev pub book_5 : View
book_5 = book 19 (stands longer Confirmed 1 5760 0 ∷ stands third Confirmed 2 2880 0 ∷ stands fourth Offered 3 124 0 ∷ nobody ∷ []) 4 4

abbrev pub book_6 : View
book_6 = book 21 (stands longer Confirmed 1 5760 0 ∷ stands third Confirmed 2 2880 0 ∷ stands fourth Gone 3 124 0 ∷ nobody ∷ []) 5 4

abbrev pub book_7 : View
book_7 = book 27 (stands longer Challenged 1 1446 5 ∷ stands third Confirmed 2 2880 0 ∷ stands fifth Competing 6 7200 0 ∷ nobody ∷ []) 6 5

abbrev pub book_8 : View
book_8 = book 30 (stands longer Confirmed 1 5760 5 ∷ stands third Confirmed 2 2880 0 ∷ stands fifth Confirmed 6 7200 0 ∷ nobody ∷ []) 7 5

abbrev pub book_9 : View
book_9 = book 34 (stands longer Challenged 1 1448 6 ∷ stands third Confirmed 2 2880 0 ∷ stands fifth Confirmed 6 7200 0 ∷ stands sixth Competing 8 8640 0 ∷ []) 8 6

abbrev pub book_10 : View
book_10 = book 36 (stands longer Confirmed 1 5760 6 ∷ stands third Confirmed 2 2880 0 ∷ stands fifth Confirmed 6 7200 0 ∷ stands sixth Confirmed 8 8640 0 ∷ []) 1449 6

abbrev pub book_11 : View
book_11 = book 37 (stands longer Confirmed 1 5760 6 ∷ stands third Gone 2 2880 0 ∷ stands fifth Confirmed 6 7200 0 ∷ stands sixth Confirmed 8 8640 0 ∷ []) 2881 6

call_1 : (step always_open (submit 0 first) book_0).1 ≡ book_1
unfolding wanted step post by_day each_day taken supersede_all give_all in_turn holdings find seat some largest stop_if if_so balance into out_of earliest first_due
call_1 = refl

call_2 : (step always_open (submit 1 second) book_1).1 ≡ book_2
unfolding wanted step post by_day each_day taken supersede_all give_all in_turn holdings find seat some largest stop_if if_so balance into out_of earliest first_due
call_2 = refl

call_3 : (step always_open (submit 2 third) book_2).1 ≡ book_3
unfolding wanted step post by_day each_day taken supersede_all give_all in_turn holdings find seat some largest stop_if if_so balance into out_of earliest first_due
call_3 = refl

call_4 : (step always_open (submit 3 fourth) book_3).1 ≡ book_4
unfolding wanted step post by_day each_day taken supersede_all give_all in_turn holdings find seat some largest stop_if if_so balance into out_of earliest first_due
call_4 = refl

call_5 : (step always_open (match 4 2) book_4).1 ≡ book_5
unfolding wanted step post by_day each_day taken supersede_all give_all in_turn holdings find seat some largest stop_if if_so balance into out_of earliest first_due
call_5 = refl

call_6 : (step always_open (withdraw 5 4) book_5).1 ≡ book_6
unfolding wanted step post by_day each_day taken supersede_all give_all in_turn holdings find seat some largest stop_if if_so balance into out_of earliest first_due
call_6 = refl

call_7 : (step always_open (submit 6 fifth) book_6).1 ≡ book_7
unfolding wanted step post by_day each_day taken supersede_all give_all in_turn holdings find seat some largest stop_if if_so balance into out_of earliest first_due
call_7 = refl

call_8 : (step always_open (decline 7 2) book_7).1 ≡ book_8
unfolding wanted step post by_day each_day taken supersede_all give_all in_turn holdings find seat some largest stop_if if_so balance into out_of earliest first_due
call_8 = refl

call_9 : (step always_open (submit 8 sixth) book_8).1 ≡ book_9
unfolding wanted step post by_day each_day taken supersede_all give_all in_turn holdings find seat some largest stop_if if_so balance into out_of earliest first_due
call_9 = refl

call_10 : (step always_open (settle 1449) book_9).1 ≡ book_10
unfolding wanted step post by_day each_day taken supersede_all give_all in_turn holdings find seat some largest stop_if if_so balance into out_of earliest first_due
call_10 = refl

call_11 : (step always_open (settle 2881) book_10).1 ≡ book_11
unfolding wanted step post by_day each_day taken supersede_all give_all in_turn holdings find seat some largest stop_if if_so balance into out_of earliest first_due
call_11 = refl

pub after_0 : after 0 ≡ book_0
unfolding run
after_0 = refl

pub after_1 : after 1 ≡ book_1
unfolding run
after_1 = ap (λ v. (step always_open (submit 0 first) v).1) after_0 ∙ call_1

pub after_2 : after 2 ≡ book_2
unfolding run
after_2 = ap (λ v. (step always_open (submit 1 second) v).1) after_1 ∙ call_2

pub after_3 : after 3 ≡ book_3
unfolding run
after_3 = ap (λ v. (step always_open (submit 2 third) v).1) after_2 ∙ call_3

pub after_4 : after 4 ≡ book_4
unfolding run
after_4 = ap (λ v. (step always_open (submit 3 fourth) v).1) after_3 ∙ call_4

pub after_5 : after 5 ≡ book_5
unfolding run
after_5 = ap (λ v. (step always_open (match 4 2) v).1) after_4 ∙ call_5

pub after_6 : after 6 ≡ book_6
unfolding run
after_6 = ap (λ v. (step always_open (withdraw 5 4) v).1) after_5 ∙ call_6

pub after_7 : after 7 ≡ book_7
unfolding run
after_7 = ap (λ v. (step always_open (submit 6 fifth) v).1) after_6 ∙ call_7

pub after_8 : after 8 ≡ book_8
unfolding run
after_8 = ap (λ v. (step always_open (decline 7 2) v).1) after_7 ∙ call_8

pub after_9 : after 9 ≡ book_9
unfolding run
after_9 = ap (λ v. (step always_open (submit 8 sixth) v).1) after_8 ∙ call_9

pub after_10 : after 10 ≡ book_10
unfolding run
after_10 = ap (λ v. (step always_open (settle 1449) v).1) after_9 ∙ call_10

pub after_11 : after 11 ≡ book_11
unfolding run
after_11 = ap (λ v. (step always_open (settle 2881) v).1) after_10 ∙ call_11
