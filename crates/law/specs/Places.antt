-- The places of a book, and how a call changes them.
use Rattle.std.specs.Prelude.{ℕ, ◌+◌, Bool, false, cond, ◌||◌, List, [], ◌∷◌, map}
use Rattle.terms.specs.declared.request.Request.{Request}
use Rattle.terms.specs.declared.words.State.{State}
use Rattle.terms.specs.declared.words.State.TheVariants.{Confirmed, Gone}
use Rattle.terms.specs.Days.{first_minute}
use Rattle.terms.specs.Words.{is_pending, is_challenged}
use Rattle.sheets.specs.Rules.{Rules}
use Rattle.law.specs.View.{Entry, is, living, start_of, length_of}

-- the living record of an AREF is changed, no other
abbrev pub change : ℕ → (Entry → Entry) → List Entry → List Entry
change a f es = map (λ e. cond (is a e) (f e) e) es

-- into the first place that nobody living has
unfoldable pub seat : Entry → List Entry → List Entry
seat e [] = []
seat e (x ∷ xs) = cond (living x) (x ∷ seat e xs) (e ∷ xs)

unfoldable pub some : (Entry → Bool) → List Entry → Bool
some p [] = false
some p (e ∷ es) = p e || some p es

abbrev pub match_open : List Entry → Bool
match_open es = some (λ e. is_challenged e.standing.state) es

abbrev pub in_state : State → Entry → Entry
in_state s e = record { standing = record { request = e.standing.request; state = s; queued = e.standing.queued }; due = e.due; against = e.against }

abbrev pub due_at : ℕ → Entry → Entry
due_at minute e = record { standing = e.standing; due = minute; against = e.against }

abbrev pub leave : Entry → Entry
leave e = in_state Gone e

-- the first minute after its last day
abbrev pub over_at : Entry → ℕ
over_at e = first_minute (start_of e + length_of e)

-- a confirmed record falls due when its last day is over
abbrev pub stand_confirmed : Entry → Entry
stand_confirmed e = due_at (over_at e) (in_state Confirmed e)

-- a new record: a pending one falls due a confirm time after the call
abbrev pub new_record : Rules → ℕ → Request → State → Entry
new_record R minute r s = record {
  standing = record { request = r; state = s; queued = minute };
  due = cond (is_pending s) (minute + R.confirm_time (record { request = r; state = s; queued = minute })) (first_minute (r.start + r.length));
  against = 0;
}
