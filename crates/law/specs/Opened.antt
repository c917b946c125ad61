-- A book newly opened.
use Rattle.std.specs.Prelude.{ℕ, suc, cond, List, [], ◌∷◌, replicate, nat_lt}
use Rattle.terms.specs.Days.{Days}
use Rattle.journal.specs.declared.line.Line.{Line}
use Rattle.journal.specs.declared.line.LineKind.TheVariants.{Posted}
use Rattle.law.specs.View.{View, nobody}

-- at minute 0 each amount above 0 MW, from a day on, is posted to free
abbrev pub postings : ℕ → List ℕ → List Line
postings day [] = []
postings day (mw ∷ amounts) =
    cond (nat_lt 0 mw) (record { minute = 0; kind = Posted; a = 0; b = 0; day = day; mw = mw } ∷ postings (suc day) amounts) (postings (suc day) amounts)

-- a book of these days, with so many places and journal lines
abbrev pub opened : Days → ℕ → ℕ → View
opened days places room = record { days = days; room = room; lines = postings 0 days.amounts; places = replicate places nobody; clock = 0; top = 0 }
