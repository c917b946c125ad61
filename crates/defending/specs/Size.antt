-- How many journal lines a preemption writes, told from the lines before the submit and the defenders in turn alone.
use Rattle.std.specs.Prelude.{ℕ, ◌+◌, cond, List, [], ◌∷◌, ◌++◌}
use Rattle.terms.specs.declared.request.Request.{Request}
use Rattle.terms.specs.Words.{is_pending}
use Rattle.journal.specs.declared.line.Line.{Line}
use Rattle.law.specs.View.{Entry, aref_of, start_of, length_of}
use Rattle.law.specs.Posting.{busy_days, holding}
use Rattle.visits.specs.ClosedForm.{is_superseded, gives_on, granted_on}

-- a superseded defender writes a line for each day on which it holds something
unfoldable pub superseded_size : Request → List Line → List Entry → List Entry → ℕ
superseded_size r ls earlier [] = 0
superseded_size r ls earlier (d ∷ ds) =
    cond (is_superseded r ls earlier d) (busy_days (λ day. holding ls (aref_of d) day) (start_of d) (length_of d)) 0 + superseded_size r ls (earlier ++ d ∷ []) ds

-- a confirmed defender writes one for each day on which it gives something
unfoldable pub given_size : Request → List Line → List Entry → List Entry → ℕ
given_size r ls earlier [] = 0
given_size r ls earlier (d ∷ ds) =
    cond (is_pending d.standing.state) 0 (busy_days (gives_on r ls earlier d) (start_of d) (length_of d)) + given_size r ls (earlier ++ d ∷ []) ds

-- and the challenger one for each day on which it is granted something
abbrev pub preemption_size : Request → List Line → List Entry → ℕ
preemption_size r ls ds = superseded_size r ls [] ds + (busy_days (granted_on r ls ds) r.start r.length + given_size r ls [] ds)
