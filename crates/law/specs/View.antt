-- A book as its rules see it: the journal is the one store of amounts; places say who is there.
use Rattle.std.specs.Prelude.{ℕ, ◌+◌, Bool, false, cond, ◌&&◌, List, [], ◌∷◌, ◌==◌, slice_index}
use Rattle.terms.specs.declared.words.Kind.TheVariants.{PointToPoint}
use Rattle.terms.specs.declared.words.Product.TheVariants.{Daily}
use Rattle.terms.specs.declared.words.State.TheVariants.{Gone}
use Rattle.terms.specs.declared.request.Standing.{Standing}
use Rattle.terms.specs.Days.{Days}
use Rattle.terms.specs.Words.{is_living}
use Rattle.journal.specs.declared.line.Line.{Line}

-- a place: who stands in it, when it falls due, and the challenger against whom its match is open
pub record Entry : Type 0 where
  pub standing : Standing
  pub due : ℕ
  pub against : ℕ

-- the posted days, how many lines the journal may have, its lines, the places, the minute of the last accepted call and
-- the highest AREF accepted
pub record View : Type 0 where
  pub days : Days
  pub room : ℕ
  pub lines : List Line
  pub places : List Entry
  pub clock : ℕ
  pub top : ℕ

abbrev pub aref_of : Entry → ℕ
aref_of e = e.standing.request.aref

abbrev pub start_of : Entry → ℕ
start_of e = e.standing.request.start

abbrev pub length_of : Entry → ℕ
length_of e = e.standing.request.length

abbrev pub living : Entry → Bool
living e = is_living e.standing.state

-- is it the living record of an AREF?
abbrev pub is : ℕ → Entry → Bool
is a e = living e && aref_of e == a

-- a place that nobody has
abbrev pub nobody : Entry
nobody = record {
  standing = record {
    request = record { aref = 0; kind = PointToPoint; product = Daily; start = 0; length = 0; mw = 0; preconfirmed = false; price = 0 };
    state = Gone;
    queued = 0;
  };
  due = 0;
  against = 0;
}

-- the living record of an AREF, nobody where there is none
unfoldable pub find : ℕ → List Entry → Entry
find a [] = nobody
find a (e ∷ es) = cond (is a e) e (find a es)

-- how many living records have an AREF
unfoldable pub count : ℕ → List Entry → ℕ
count a [] = 0
count a (e ∷ es) = cond (is a e) 1 0 + count a es

-- the MW posted on a day, none on a day that is not posted
abbrev pub posted_on : Days → ℕ → ℕ
posted_on days day = slice_index days.amounts day
