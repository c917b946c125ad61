-- Preemption as it is done by hand: the defenders are visited in turn, and the visiting stops once no day is short.
use Rattle.std.specs.Prelude.{◌≡◌, ℕ, Bool, cond, not, List, [], ◌∷◌, nat_eq}
use Rattle.terms.specs.declared.request.Request.{Request}
use Rattle.terms.specs.Words.{is_pending}
use Rattle.sheets.specs.Rules.{Rules}
use Rattle.journal.specs.declared.line.Line.{Line}
use Rattle.law.specs.View.{View, Entry}
use Rattle.law.specs.Posting.{by_day, each_day}
use Rattle.law.specs.Preemption.{short, supersede, give, grant, defenders, preempt}

-- is any day of the challenger's term still short?
abbrev pub still_short : Request → List Line → Bool
still_short r ls = not (each_day (λ day. nat_eq (short r day ls) 0) r.start r.length)

-- while a day is short, the next defender in turn is visited: a pending one may be superseded
unfoldable pub supersede_until : ℕ → Request → List Entry → List Line → List Line
supersede_until minute r [] ls = ls
supersede_until minute r (d ∷ ds) ls =
    cond (still_short r ls) (supersede_until minute r ds (cond (is_pending d.standing.state) (supersede minute r d ls) ls)) ls

-- while a day is short, the next defender in turn is visited: a confirmed one gives
unfoldable pub give_until : Rules → ℕ → Request → List Entry → List Line → List Line
give_until R minute r [] ls = ls
give_until R minute r (d ∷ ds) ls =
    cond (still_short r ls) (give_until R minute r ds (cond (is_pending d.standing.state) ls (give R minute r d ls))) ls

-- superseded lines, then what is granted from free, then what confirmed defenders give; each round stops when no day is short
abbrev pub visit : Rules → ℕ → Request → View → List Line
visit R minute r v =
    let ds = defenders R minute r v in
    give_until R minute r ds (by_day (grant minute r) r.start r.length (supersede_until minute r ds v.lines))

-- to stop when no day is short writes the same lines as to visit every defender
abbrev pub StoppingChangesNothing : Type 0
StoppingChangesNothing = (R : Rules) (minute : ℕ) (r : Request) (v : View) → visit R minute r v ≡ preempt R minute r v
