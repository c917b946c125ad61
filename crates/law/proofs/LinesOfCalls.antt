-- Each call writes paid lines, and of the lines about matches only its own.
use Rattle.std.proofs.Common.{◌≡◌, ℕ, ◌<◌, ◌≤◌, min, Bool, true, false, cond, List, [], ◌∷◌, refl, arith}
use Rattle.std.proofs.lemmas.Bool.{leb-false}
use Rattle.law.specs.Calls
use Rattle.law.specs.Places
use Rattle.law.specs.Preemption
use Rattle.terms.specs.declared.request.Request.{Request}
use Rattle.terms.specs.declared.refusal.Refusal.TheVariants.{NothingDue}
use Rattle.terms.specs.declared.words.State.{State}
use Rattle.terms.specs.declared.words.State.TheVariants.{Confirmed, Accepted, Offered, Competing, Challenged, Gone}
use Rattle.terms.specs.Words.{is_pending, is_challenged}
use Rattle.sheets.specs.Rules.{Rules}
use Rattle.journal.specs.declared.line.Line.{Line}
use Rattle.journal.specs.declared.line.LineKind.{LineKind}
use Rattle.journal.specs.declared.line.LineKind.TheVariants.{Posted, Granted, Superseded, Recalled, SetAside, Lost, Kept, Extended, Ceded, Released, Flown}
use Rattle.journal.specs.Accounts.{aside, from, source, balance}
use Rattle.law.specs.Preemption.{wanted, grant, short, meets_shortage, supersede, give, supersede_all, give_all}
use Rattle.law.specs.View.{Entry, View, aref_of, start_of, length_of, find}
use Rattle.law.specs.Calls.{Call, submit, confirm, withdraw, match, decline, settle, Made, makes, release, fly, lose, keep, extend, makes_of, step}
use Rattle.law.specs.Posting.{post, by_day, holding, free_on}
use Rattle.law.specs.TurnLaw.{is_submit}
use Rattle.law.proofs.Holders.{days_ind}
use Rattle.law.proofs.WrittenLines.{Writes, at_first, writes_trans, writes_post}
use Rattle.law.proofs.EveryCallKeeps.{Holds, holds, holds_stop, holds_if, holds_written, refuses}

-- q says whether the call is a submit, n is the highest AREF before it, x the AREF that it is about
abbrev pub Okay : Bool → ℕ → ℕ → LineKind → ℕ → ℕ → Type 0
Okay q n x Posted a b = ⊥
Okay q n x Granted a b = q ≡ true
Okay q n x Superseded a b = q ≡ true
Okay q n x Recalled a b = q ≡ true
Okay q n x SetAside a b = (q ≡ true) × (n < b)
Okay q n x Lost a b = a ≡ x
Okay q n x Kept a b = a ≡ x
Okay q n x Extended a b = Unit {0}
Okay q n x Ceded a b = Unit {0}
Okay q n x Released a b = Unit {0}
Okay q n x Flown a b = Unit {0}

abbrev pub Sane : Bool → ℕ → ℕ → List Line → Line → Type 0
Sane q n x ms l = (0 < l.mw) × (l.mw ≤ balance ms (source l) l.day) × Okay q n x l.kind l.a l.b

module _ (q : Bool) (n x : ℕ) (base : List Line) where
  abbrev P : List Line → Type 0
  P ms = Writes (Sane q n x) base ms

  put : (t : ℕ) (κ : LineKind) (a b k m : ℕ) (ls : List Line) → m ≤ balance ls (from κ a b) k → Okay q n x κ a b → Writes (Sane q n x) base ls → Writes (Sane q n x) base (post t κ a b k m ls)
  put t κ a b k m ls paid o w = writes_trans (Sane q n x) base ls w (writes_post (Sane q n x) t κ a b k m ls (λ z. (z, paid, o)))

  days : (f : ℕ → List Line → List Line) → ((k : ℕ) (ls : List Line) → P ls → P (f k ls)) → (s d : ℕ) (ls : List Line) → P ls → P (by_day f s d ls)
  days f h s d ls g = days_ind f P s d (λ k ms lo hi z. h k ms z) ls g

  paid_release : (t a s d : ℕ) (ls : List Line) → P ls → P (by_day (release t a) s d ls)
  paid_release t a s d ls f = days (release t a) (λ k ms g. put t Released a 0 k (holding ms a k) ms (omega arith) tt g) s d ls f

  paid_fly : (t a s d : ℕ) (ls : List Line) → P ls → P (by_day (fly t a) s d ls)
  paid_fly t a s d ls f = days (fly t a) (λ k ms g. put t Flown a 0 k (holding ms a k) ms (omega arith) tt g) s d ls f

  paid_grant : (t : ℕ) (r : Request) (s d : ℕ) (ls : List Line) → q ≡ true → P ls → P (by_day (grant t r) s d ls)
  paid_grant t r s d ls y f = days (grant t r) (λ k ms g. put t Granted 0 r.aref k (min (free_on ms k) (wanted r k)) ms (omega arith) y g) s d ls f

  paid_lose : (t b s d : ℕ) (ls : List Line) → P ls → P (by_day (lose t x b) s d ls)
  paid_lose t b s d ls f = days (lose t x b) (λ k ms g. put t Lost x b k (balance ms (aside x b) k) ms (omega arith) refl g) s d ls f

  paid_keep : (t b s d : ℕ) (ls : List Line) → P ls → P (by_day (keep t x b) s d ls)
  paid_keep t b s d ls f = days (keep t x b) (λ k ms g. put t Kept x b k (balance ms (aside x b) k) ms (omega arith) refl g) s d ls f

  paid_extend : (t y a b s d : ℕ) (ls : List Line) → P ls → P (by_day (extend t y a b) s d ls)
  paid_extend t y a b s d ls f = days (extend t y a b) (λ k ms g. put t Ceded b a k _ _ (omega arith) tt (put t Extended a b k (min (free_on ms k) y) ms (omega arith) tt g)) s d ls f

  paid_supersede : (t : ℕ) (r : Request) (d : Entry) (ls : List Line) → q ≡ true → P ls → P (supersede t r d ls)
  paid_supersede t r d ls y f = go (meets_shortage r d ls)
    where
      go : (c : Bool) → Writes (Sane q n x) base (cond c (by_day (λ k ms. post t Superseded (aref_of d) r.aref k (holding ms (aref_of d) k) ms) (start_of d) (length_of d) ls) ls)
      go true = days _ (λ k ms g. put t Superseded (aref_of d) r.aref k (holding ms (aref_of d) k) ms (omega arith) y g) (start_of d) (length_of d) ls f
      go false = f

  paid_give : (R : Rules) (t : ℕ) (r : Request) (d : Entry) (ls : List Line) → q ≡ true → n < r.aref → P ls → P (give R t r d ls)
  paid_give R t r d ls y u f = go (R.may_match r d.standing)
    where
      go : (c : Bool) → Writes (Sane q n x) base (by_day (λ k ms. post t (cond c SetAside Recalled) (aref_of d) r.aref k (min (holding ms (aref_of d) k) (short r k ms)) ms) (start_of d) (length_of d) ls)
      go true = days _ (λ k ms g. put t SetAside (aref_of d) r.aref k (min (holding ms (aref_of d) k) (short r k ms)) ms (omega arith) (y, u) g) (start_of d) (length_of d) ls f
      go false = days _ (λ k ms g. put t Recalled (aref_of d) r.aref k (min (holding ms (aref_of d) k) (short r k ms)) ms (omega arith) y g) (start_of d) (length_of d) ls f

  paid_supersede_all : (t : ℕ) (r : Request) (ds : List Entry) (ls : List Line) → q ≡ true → P ls → P (supersede_all t r ds ls)
  unfolding supersede_all
  paid_supersede_all t r [] ls y f = f
  paid_supersede_all t r (d ∷ ds) ls y f = paid_supersede_all t r ds _ y (go (is_pending d.standing.state))
    where
      go : (c : Bool) → Writes (Sane q n x) base (cond c (supersede t r d ls) ls)
      go true = paid_supersede t r d ls y f
      go false = f

  paid_give_all : (R : Rules) (t : ℕ) (r : Request) (ds : List Entry) (ls : List Line) → q ≡ true → n < r.aref → P ls → P (give_all R t r ds ls)
  unfolding give_all
  paid_give_all R t r [] ls y u f = f
  paid_give_all R t r (d ∷ ds) ls y u f = paid_give_all R t r ds _ y u (go (is_pending d.standing.state))
    where
      go : (c : Bool) → Writes (Sane q n x) base (cond c ls (give R t r d ls))
      go true = f
      go false = paid_give R t r d ls y u f

-- the AREF that a call is about
abbrev pub subject : ℕ → Call → View → ℕ
subject d (submit t r) v = d
subject d (confirm t a) v = d
subject d (withdraw t a) v = d
subject d (match t a) v = aref_of (find a v.places)
subject d (decline t a) v = aref_of (find a v.places)
subject d (settle t) v = aref_of (Calls.first_due t v.places)

module _ (R : Rules) (v : View) where
  abbrev pub Pays : Bool → ℕ → List Line → List Entry → Type 0
  Pays q x ls es = Writes (Sane q v.top x) v.lines ls

  stay : {q : Bool} (x : ℕ) → Writes (Sane q v.top x) v.lines v.lines
  stay x = at_first refl

  pays_by : (x : ℕ) (p : State → Bool) (a : ℕ) (f : Entry → Made) → Holds (Pays false x) (f (find a v.places)) → Holds (Pays false x) (Calls.by_aref p a v f)
  pays_by x p a f h = holds_stop (Pays false x) _ _ _ (λ _. holds_stop (Pays false x) _ _ _ (λ _. h))

  pays_submitted : (x t : ℕ) (r : Request) → Holds (Pays true x) (Calls.submitted R t r v)
  pays_submitted x t r =
      let g = paid_grant true v.top x v.lines t r r.start r.length v.lines refl (stay x) in
      holds_stop (Pays true x) _ _ _ (λ above. let up : v.top < r.aref = leb-false r.aref v.top above in
      holds_stop (Pays true x) _ _ _ (λ _. holds_stop (Pays true x) _ _ _ (λ _. holds_stop (Pays true x) _ _ _ (λ _.
      holds_if (Pays true x) _ _ _ (λ _. holds (Pays true x) _ _ _ _ g) (λ _. holds_stop (Pays true x) _ _ _ (λ _.
      holds_if (Pays true x) _ _ _ (λ _. holds (Pays true x) _ _ _ _ (paid_give_all true v.top x v.lines R t r (Preemption.defenders R t r v) _ refl up (paid_grant true v.top x v.lines t r _ _ _ refl (paid_supersede_all true v.top x v.lines t r (Preemption.defenders R t r v) v.lines refl (stay x))))) (λ _.
      holds_stop (Pays true x) _ _ _ (λ _. holds (Pays true x) _ _ _ Offered g))))))))

  pays_declined : (t : ℕ) (e : Entry) → Holds (Pays false (aref_of e)) (Calls.declined R t e v)
  pays_declined t e = holds (Pays false (aref_of e)) _ _ _ _ (paid_lose false v.top (aref_of e) v.lines t e.against _ _ v.lines (stay _))

  pays_settles : (t : ℕ) (e : Entry) (s : State) → Holds (Pays false (aref_of e)) (Calls.settles R t e v s)
  pays_settles t e Confirmed = holds (Pays false (aref_of e)) _ _ _ _ (paid_fly false v.top (aref_of e) v.lines t (aref_of e) _ _ v.lines (stay _))
  pays_settles t e Accepted = holds (Pays false (aref_of e)) _ _ _ _ (paid_release false v.top (aref_of e) v.lines t (aref_of e) _ _ v.lines (stay _))
  pays_settles t e Offered = holds (Pays false (aref_of e)) _ _ _ _ (paid_release false v.top (aref_of e) v.lines t (aref_of e) _ _ v.lines (stay _))
  pays_settles t e Competing = refuses (Pays false (aref_of e)) NothingDue
  pays_settles t e Challenged = pays_declined t e
  pays_settles t e Gone = refuses (Pays false (aref_of e)) NothingDue

  pub pays_made : (d : ℕ) (c : Call) → Holds (Pays (is_submit c) (subject d c v)) (makes_of R c v)
  pays_made d (submit t r) = pays_submitted d t r
  pays_made d (confirm t a) = pays_by d is_pending a (λ e. makes v.lines (Places.change a Places.stand_confirmed v.places) a Confirmed) (holds (Pays false d) _ _ a Confirmed (stay d))
  pays_made d (withdraw t a) = pays_by d is_pending a (λ e. Calls.let_go t e v) (holds (Pays false d) _ _ _ _ (paid_release false v.top d v.lines t (aref_of (find a v.places)) _ _ v.lines (stay d)))
  pays_made d (match t a) = pays_by (aref_of (find a v.places)) is_challenged a (λ e. Calls.matched R t e v) (holds_stop (Pays false (aref_of (find a v.places))) _ _ _ (λ _. holds (Pays false (aref_of (find a v.places))) _ _ _ _
      (paid_extend false v.top _ v.lines t _ _ _ _ _ _ (paid_keep false v.top (aref_of (find a v.places)) v.lines t (find a v.places).against _ _ v.lines (stay _)))))
  pays_made d (decline t a) = pays_by (aref_of (find a v.places)) is_challenged a (λ e. Calls.declined R t e v) (pays_declined t (find a v.places))
  pays_made d (settle t) = pays_settles t (Calls.first_due t v.places) _

  pub pays_step : (d : ℕ) (c : Call) → Writes (Sane (is_submit c) v.top (subject d c v)) v.lines (step R c v).1.lines
  unfolding step
  pays_step d c = holds_written (Pays (is_submit c) (subject d c v)) c v (Calls.asked R c v) (stay _) (holds_stop (Pays (is_submit c) (subject d c v)) _ _ _ (λ _. holds_stop (Pays (is_submit c) (subject d c v)) _ _ _ (λ _. pays_made d c)))
