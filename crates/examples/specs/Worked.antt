-- One challenge worked through in numbers: a holder of 100 MW is challenged by a longer request of 50 MW, and matches it.
use Rattle.std.specs.Prelude.{◌≡◌, ℕ, true, List, [], ◌∷◌, map}
use Rattle.terms.specs.declared.refusal.Refusal.TheVariants.{ItemDue}
use Rattle.terms.specs.declared.request.Request.{Request}
use Rattle.terms.specs.declared.words.Kind.TheVariants.{PointToPoint}
use Rattle.terms.specs.declared.words.Product.TheVariants.{Daily}
use Rattle.terms.specs.declared.words.State.TheVariants.{Confirmed, Offered, Competing, Challenged}
use Rattle.terms.specs.Days.{Days}
use Rattle.journal.specs.Accounts.{Account, free, held, aside, balance}
use Rattle.law.specs.View.{View, find}
use Rattle.law.specs.Opened.{opened}
use Rattle.law.specs.Calls.{submit, match, refusal, done, step, run}
use Rattle.examples.specs.AlwaysOpen.{always_open}

-- days 0 to 5
abbrev pub days : Days
days = record { amounts = 0 ∷ 125 ∷ 150 ∷ 110 ∷ 60 ∷ 60 ∷ []; preschedule = 0 ∷ 0 ∷ 0 ∷ 0 ∷ 0 ∷ 0 ∷ [] }

-- AREF 1: 100 MW for three days from day 1 on
abbrev pub holder : Request
holder = record { aref = 1; kind = PointToPoint; product = Daily; start = 1; length = 3; mw = 100; preconfirmed = true; price = 0 }

-- AREF 2: 50 MW for five days from day 1 on
abbrev pub challenger : Request
challenger = record { aref = 2; kind = PointToPoint; product = Daily; start = 1; length = 5; mw = 50; preconfirmed = true; price = 0 }

-- the book after the challenge at minute 1
abbrev pub challenged : View
challenged = run always_open (submit 0 holder ∷ submit 1 challenger ∷ []) (opened days 4 100)

-- the book after the match at minute 1,441, the last one for it
abbrev pub after_match : View
after_match = run always_open (submit 0 holder ∷ submit 1 challenger ∷ match 1441 1 ∷ []) (opened days 4 100)

-- what stands in an account on days 1 to 5
abbrev pub on_each_day : View → Account → List ℕ
on_each_day v x = map (λ day. balance v.lines x day) (1 ∷ 2 ∷ 3 ∷ 4 ∷ 5 ∷ [])

pub record WorkedExample : Type 0 where
  -- the challenge sets aside of the holder what free is short of 50 MW on each of its days
  pub set_aside : map (λ day. balance challenged.lines (aside 1 2) day) (1 ∷ 2 ∷ 3 ∷ []) ≡ 25 ∷ 0 ∷ 40 ∷ []
  -- the holder keeps the rest, and the challenger has what was free
  pub holder_meanwhile : on_each_day challenged (held 1) ≡ 75 ∷ 100 ∷ 60 ∷ 0 ∷ 0 ∷ []
  pub challenger_meanwhile : on_each_day challenged (held 2) ≡ 25 ∷ 50 ∷ 10 ∷ 50 ∷ 50 ∷ []
  -- the one is challenged by the other, which is competing; the answer-by is a day after the challenge
  pub holder_challenged : (find 1 challenged.places).standing.state ≡ Challenged
  pub by_the_other : (find 1 challenged.places).against ≡ 2
  pub challenger_competing : (find 2 challenged.places).standing.state ≡ Competing
  pub answer_by : (find 1 challenged.places).due ≡ 1441
  -- the match is accepted in that minute: its receipt has the 6 lines from line 15 on
  pub match_accepted : (step always_open (match 1441 1) challenged).0 ≡ done 1 Confirmed 15 6
  -- a minute later the same call is refused, since the lapse is due first
  pub match_late : (step always_open (match 1442 1) challenged).0 ≡ refusal ItemDue
  -- by the match the holder has its 100 MW again and 40 MW, the most that was aside on a day, on two more days
  pub holder_after : on_each_day after_match (held 1) ≡ 100 ∷ 100 ∷ 100 ∷ 40 ∷ 40 ∷ []
  -- the challenger has what was free, less what it ceded on those two days
  pub challenger_after : on_each_day after_match (held 2) ≡ 25 ∷ 50 ∷ 10 ∷ 20 ∷ 20 ∷ []
  -- nothing is free and nothing is aside
  pub nothing_free : on_each_day after_match free ≡ 0 ∷ 0 ∷ 0 ∷ 0 ∷ 0 ∷ []
  pub nothing_aside : on_each_day after_match (aside 1 2) ≡ 0 ∷ 0 ∷ 0 ∷ 0 ∷ 0 ∷ []
  -- the holder is confirmed, now for five days; what the challenger holds is offered to it
  pub holder_confirmed : (find 1 after_match.places).standing.state ≡ Confirmed
  pub holder_longer : (find 1 after_match.places).standing.request.length ≡ 5
  pub challenger_offered : (find 2 after_match.places).standing.state ≡ Offered
