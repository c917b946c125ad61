-- No call changes how many places a book has, or how many journal lines it may have.
use Rattle.std.proofs.Common.{◌≡◌, ℕ, suc, ◌-◌, Bool, true, false, cond, ltb, List, [], ◌∷◌, length, refl, ap, ◌∙◌}
use Rattle.std.proofs.lemmas.List.{length-map}
use Rattle.terms.specs.declared.refusal.Refusal.{Refusal}
use Rattle.terms.specs.declared.refusal.Refusal.TheVariants.{JournalFull}
use Rattle.terms.specs.declared.request.Request.{Request}
use Rattle.terms.specs.declared.words.State.{State}
use Rattle.terms.specs.declared.words.State.TheVariants.{Confirmed, Accepted, Offered, Competing, Challenged, Gone}
use Rattle.sheets.specs.Rules.{Rules}
use Rattle.journal.specs.declared.line.Line.{Line}
use Rattle.law.specs.Calls
use Rattle.law.specs.Calls.{Call, submit, confirm, withdraw, match, decline, settle, Made, refused, makes, Answer, refusal, done, minute_of, new_top, asked, written, step}
use Rattle.terms.specs.Words.{is_pending, is_challenged}
use Rattle.law.specs.Places.{change, seat, match_open, stand_confirmed}
use Rattle.law.specs.View.{View, Entry, living}

pub length-seat : (e : Entry) (es : List Entry) → length (seat e es) ≡ length es
unfolding seat
length-seat e [] = refl
length-seat e (x ∷ xs) = go (length-seat e xs) (living x)
  where
    go : length (seat e xs) ≡ length xs → (b : Bool) → length (cond b (x ∷ seat e xs) (e ∷ xs)) ≡ suc (length xs)
    go ih true = ap suc ih
    go ih false = refl

-- what a call makes has n places
Long : ℕ → Made → Type 0
Long n (refused c) = Unit {0}
Long n (makes ls es a s) = length es ≡ n

long : (n : ℕ) (ls : List Line) (es : List Entry) (a : ℕ) (s : State) → length es ≡ n → Long n (makes ls es a s)
unfolding Long
long n ls es a s h = h

long_refused : (n : ℕ) (c : Refusal) → Long n (refused c)
unfolding Long
long_refused n c = tt

long_stop : (n : ℕ) (b : Bool) (c : Refusal) (m : Made) → Long n m → Long n (Calls.stop_if b c m)
unfolding Calls.stop_if Long
long_stop n true c m f = tt
long_stop n false c m f = f

long_if : (n : ℕ) (b : Bool) (x y : Made) → Long n x → Long n y → Long n (Calls.if_so b x y)
unfolding Calls.if_so
long_if n true x y f g = f
long_if n false x y f g = g

module _ (R : Rules) (v : View) where
  long_close : (t b : ℕ) (ls : List Line) (es : List Entry) → length es ≡ length v.places → length (Calls.close_if_last R t ls b es) ≡ length v.places
  long_close t b ls es h = go (match_open es)
    where
      go : (c : Bool) → length (cond c es (change b (Calls.close R t ls) es)) ≡ length v.places
      go true = h
      go false = length-map es _ ∙ h

  long_declined : (t : ℕ) (e : Entry) → Long (length v.places) (Calls.declined R t e v)
  long_declined t e = long _ _ _ _ _ (long_close t e.against _ _ (length-map v.places _))

  long_settles : (t : ℕ) (e : Entry) (s : State) → Long (length v.places) (Calls.settles R t e v s)
  long_settles t e Confirmed = long _ _ _ _ _ (length-map v.places _)
  long_settles t e Accepted = long _ _ _ _ _ (length-map v.places _)
  long_settles t e Offered = long _ _ _ _ _ (length-map v.places _)
  long_settles t e Competing = long_refused _ _
  long_settles t e Challenged = long_declined t e
  long_settles t e Gone = long_refused _ _

  long_by_aref : (q : State → Bool) (a : ℕ) (f : Entry → Made) → ((e : Entry) → Long (length v.places) (f e)) → Long (length v.places) (Calls.by_aref q a v f)
  long_by_aref q a f h = long_stop _ _ _ _ (long_stop _ _ _ _ (h _))

  long_entered : (t : ℕ) (r : Request) (s : State) (ls : List Line) (es : List Entry) → length es ≡ length v.places → Long (length v.places) (Calls.entered R t r s ls es)
  long_entered t r s ls es h = long _ _ _ _ _ (length-seat _ es ∙ h)

  long_made : (c : Call) → Long (length v.places) (Calls.makes_of R c v)
  long_made (submit t r) =
      long_stop _ _ _ _ (long_stop _ _ _ _ (long_stop _ _ _ _ (long_stop _ _ _ _
      (long_if _ _ _ _ (long_entered t r _ _ _ refl) (long_stop _ _ _ _
      (long_if _ _ _ _ (long_entered t r _ _ _ (length-map v.places _)) (long_stop _ _ _ _ (long_entered t r _ _ _ refl))))))))
  long_made (confirm t a) = long_by_aref is_pending a (λ e. makes v.lines (change a stand_confirmed v.places) a Confirmed) (λ e. long _ _ _ _ _ (length-map v.places _))
  long_made (withdraw t a) = long_by_aref is_pending a (λ e. Calls.let_go t e v) (λ e. long _ _ _ _ _ (length-map v.places _))
  long_made (match t a) = long_by_aref is_challenged a (λ e. Calls.matched R t e v) (λ e. long_stop _ _ _ _ (long _ _ _ _ _ (long_close t e.against _ _ (length-map v.places _))))
  long_made (decline t a) = long_by_aref is_challenged a (λ e. Calls.declined R t e v) (λ e. long_declined t e)
  long_made (settle t) = long_settles t (Calls.first_due t v.places) _

  pub places_stay : (c : Call) → length (step R c v).1.places ≡ length v.places
  unfolding step Long
  places_stay c = go (asked R c v) (long_stop _ _ _ _ (long_stop _ _ _ _ (long_made c)))
    where
      go : (m : Made) → Long (length v.places) m → length (written c v m).1.places ≡ length v.places
      go (refused e) h = refl
      go (makes ls es a s) h = full (ltb v.room (length ls))
        where
          full : (b : Bool) → length (cond {A = Answer × View} b (refusal JournalFull, v) (done a s (length v.lines) (length ls - length v.lines), record { days = v.days; room = v.room; lines = ls; places = es; clock = minute_of c; top = new_top c v.top })).1.places ≡ length v.places
          full true = refl
          full false = h

  pub room_stays : (c : Call) → (step R c v).1.room ≡ v.room
  unfolding step
  room_stays c = go (asked R c v)
    where
      go : (m : Made) → (written c v m).1.room ≡ v.room
      go (refused e) = refl
      go (makes ls es a s) = full (ltb v.room (length ls))
        where
          full : (b : Bool) → (cond {A = Answer × View} b (refusal JournalFull, v) (done a s (length v.lines) (length ls - length v.lines), record { days = v.days; room = v.room; lines = ls; places = es; clock = minute_of c; top = new_top c v.top })).1.room ≡ v.room
          full true = refl
          full false = refl
