-- One list of calls on one newly opened book in which records give way in each way there is and matches end in each way
-- they can: what is proved of every run is proved of such runs too.
use Rattle.std.specs.Prelude.{◌≡◌, ℕ, suc, Bool, true, false, List, [], ◌∷◌, ◌++◌, take}
use Rattle.std.specs.List.{AllByRecursion}
use Rattle.terms.specs.declared.request.Request.{Request}
use Rattle.terms.specs.declared.words.Kind.{Kind}
use Rattle.terms.specs.declared.words.Kind.TheVariants.{PointToPoint, Network}
use Rattle.terms.specs.declared.words.Product.TheVariants.{Daily}
use Rattle.terms.specs.Days.{Days}
use Rattle.journal.specs.declared.line.Line.{Line}
use Rattle.journal.specs.declared.line.LineKind.{LineKind}
use Rattle.journal.specs.declared.line.LineKind.TheVariants.{Granted, Superseded, Recalled, SetAside, Lost, Kept, Extended, Ceded, Released, Flown}
use Rattle.law.specs.View.{View}
use Rattle.law.specs.Opened.{opened}
use Rattle.law.specs.Calls.{Call, submit, withdraw, match, decline, settle, run}
use Rattle.law.specs.TurnLaw.{IsChecked}
use Rattle.examples.specs.AlwaysOpen.{always_open}

-- days 0 to 5
abbrev pub days : Days
days = record { amounts = 0 ∷ 100 ∷ 100 ∷ 60 ∷ 50 ∷ 20 ∷ []; preschedule = 0 ∷ 0 ∷ 0 ∷ 0 ∷ 0 ∷ 0 ∷ [] }

-- a daily request: AREF, kind, start day, length, MW and mark
abbrev pub asks : ℕ → Kind → ℕ → ℕ → ℕ → Bool → Request
asks aref kind start length mw mark =
    record { aref = aref; kind = kind; product = Daily; start = start; length = length; mw = mw; preconfirmed = mark; price = 0 }

-- AREF 1: a day, not preconfirmed
abbrev pub first : Request
first = asks 1 PointToPoint 1 1 60 false

-- AREF 2: two days
abbrev pub second : Request
second = asks 2 PointToPoint 1 2 80 true

-- AREF 3: network, a day
abbrev pub third : Request
third = asks 3 Network 1 1 50 true

-- AREF 4: three days
abbrev pub fourth : Request
fourth = asks 4 PointToPoint 1 3 40 true

-- AREF 5: four days
abbrev pub fifth : Request
fifth = asks 5 PointToPoint 1 4 30 true

-- AREF 6: four days, from day 2 on
abbrev pub sixth : Request
sixth = asks 6 PointToPoint 2 4 20 true

abbrev pub calls : List Call
calls =
    submit 0 first ∷ submit 1 second ∷ submit 2 third ∷ submit 3 fourth ∷ match 4 2 ∷ withdraw 5 4 ∷
    submit 6 fifth ∷ decline 7 2 ∷ submit 8 sixth ∷ settle 1449 ∷ settle 2881 ∷ []

-- the book after the first n calls
abbrev pub after : ℕ → View
after n = run always_open (take n calls) (opened days 4 100)

-- a line: its minute, kind, a and b, day and MW
abbrev pub line : ℕ → LineKind → ℕ → ℕ → ℕ → ℕ → Line
line minute kind a b day mw = record { minute = minute; kind = kind; a = a; b = b; day = day; mw = mw }

-- after the first n calls comes this call, and it writes just these lines
abbrev pub NextWrites : ℕ → Call → List Line → Type 0
NextWrites n c ls = (take (suc n) calls ≡ take n calls ++ c ∷ []) × ((after (suc n)).lines ≡ (after n).lines ++ ls)

pub record Witness : Type 0 where
  -- only checked requests are submitted
  pub checked : AllByRecursion IsChecked calls
  -- AREF 1 waits for its customer's confirmation
  pub grants : NextWrites 0 (submit 0 first) (line 0 Granted 0 1 1 60 ∷ [])
  -- AREF 2 supersedes AREF 1, which is pending and shorter
  pub supersedes : NextWrites 1 (submit 1 second) (line 1 Superseded 1 2 1 60 ∷ line 1 Granted 0 2 1 80 ∷ line 1 Granted 0 2 2 80 ∷ [])
  -- AREF 3, network, recalls what it is short of from AREF 2, which is confirmed and has no right against it
  pub recalls : NextWrites 2 (submit 2 third) (line 2 Granted 0 3 1 20 ∷ line 2 Recalled 2 3 1 30 ∷ [])
  -- AREF 4 is longer than AREF 2, which may match: what is short is set aside
  pub sets_aside : NextWrites 3 (submit 3 fourth)
      (line 3 Granted 0 4 2 20 ∷ line 3 Granted 0 4 3 40 ∷ line 3 SetAside 2 4 1 40 ∷ line 3 SetAside 2 4 2 20 ∷ [])
  -- AREF 2 matches: it keeps what was aside and takes a third day, from free and from AREF 4
  pub matches : NextWrites 4 (match 4 2) (line 4 Kept 2 4 1 40 ∷ line 4 Kept 2 4 2 20 ∷ line 4 Extended 2 4 3 20 ∷ line 4 Ceded 4 2 3 20 ∷ [])
  -- AREF 4 withdraws from what is left to it
  pub releases : NextWrites 5 (withdraw 5 4) (line 5 Released 4 0 2 20 ∷ line 5 Released 4 0 3 20 ∷ [])
  -- AREF 5 challenges AREF 2 anew
  pub challenges : NextWrites 6 (submit 6 fifth)
      (line 6 Granted 0 5 2 20 ∷ line 6 Granted 0 5 3 20 ∷ line 6 Granted 0 5 4 30 ∷
      line 6 SetAside 2 5 1 30 ∷ line 6 SetAside 2 5 2 10 ∷ line 6 SetAside 2 5 3 10 ∷ [])
  -- AREF 2 declines: what was aside is lost to AREF 5
  pub declines : NextWrites 7 (decline 7 2) (line 7 Lost 2 5 1 30 ∷ line 7 Lost 2 5 2 10 ∷ line 7 Lost 2 5 3 10 ∷ [])
  -- AREF 6 challenges AREF 2 at minute 8
  pub challenges_again : NextWrites 8 (submit 8 sixth)
      (line 8 Granted 0 6 4 20 ∷ line 8 Granted 0 6 5 20 ∷ line 8 SetAside 2 6 2 20 ∷ line 8 SetAside 2 6 3 20 ∷ [])
  -- AREF 2 lets its last minute, 1,448, pass: the match lapses
  pub lapses : NextWrites 9 (settle 1449) (line 1449 Lost 2 6 2 20 ∷ line 1449 Lost 2 6 3 20 ∷ [])
  -- the only day of AREF 3 is over: it has flown
  pub flies : NextWrites 10 (settle 2881) (line 2881 Flown 3 0 1 50 ∷ [])
  -- these are all the calls
  pub all : take 11 calls ≡ calls
