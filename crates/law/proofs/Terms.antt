-- Every call keeps terms inside the posted days, of 1 to 31 days where a record lives.
use Rattle.std.proofs.Common.{◌≡◌, ℕ, ◌+◌, ◌-◌, ◌≤◌, Bool, true, false, cond, not, eqb, ltb, ◌⊎◌, List, [], ◌∷◌, length, filter, sym, refl, ap, subst, inl, inr, arith}
use Rattle.std.specs.List.{AllByRecursion}
use Rattle.std.proofs.lemmas.Bool.{cases_Bool, and_parts, or_parts, false≢true, ltb-false, cond-true, cond-false}
use Rattle.std.proofs.lemmas.Bool.Decides.{nat_tests}
use Rattle.terms.specs.declared.request.Request.{Request}
use Rattle.terms.specs.declared.refusal.Refusal.TheVariants.{NothingDue, JournalFull}
use Rattle.terms.specs.declared.words.Product.{Product}
use Rattle.terms.specs.declared.words.Product.TheVariants.{Daily, Weekly, Monthly}
use Rattle.terms.specs.declared.words.State.{State}
use Rattle.terms.specs.declared.words.State.TheVariants.{Confirmed, Accepted, Offered, Competing, Challenged, Gone}
use Rattle.terms.specs.Days.{Days}
use Rattle.terms.specs.Limits.{sold_length, sellable}
use Rattle.terms.specs.Words.{is_pending, is_challenged}
use Rattle.sheets.specs.Laws.{Possible}
use Rattle.sheets.specs.Raised.{raised}
use Rattle.sheets.specs.Rules.{Rules}
use Rattle.journal.specs.declared.line.Line.{Line}
use Rattle.law.specs.View.{View, Entry, aref_of, start_of, length_of, is, living, find, nobody}
use Rattle.law.specs.Keeps.{Termed}
use Rattle.law.specs.Places.{change, match_open, in_state, due_at, leave, over_at, stand_confirmed, new_record}
use Rattle.law.specs.Preemption.{defends, empty, none_aside, preempt, after_preempt}
use Rattle.law.specs.Calls.{Call, submit, confirm, withdraw, match, decline, settle, Made, refused, makes, Answer, refusal, done, written, minute_of, new_top, closed_state, close, close_if_last, let_go, flew, declined, matched, entered, submitted, by_aref, settles, makes_of, asked, first_due, step}
use Rattle.law.specs.TurnLaw.{IsChecked}
use Rattle.law.proofs.EveryCallKeeps.{Holds, holds, refuses, holds_stop, holds_if, holds_written, defends_lives}
use Rattle.law.proofs.AllPlaces.{all_find, all_seat, all_maps}

-- what is sold lasts 1 to 31 days
sold_possible : (p : Product) (n : ℕ) → sold_length p n ≡ true → (1 ≤ n) × (n ≤ 31)
sold_possible Daily n h = (grind (arith, nat_tests), grind (arith, nat_tests))
sold_possible Weekly n h = (grind (arith, nat_tests), grind (arith, nat_tests))
sold_possible Monthly n h = (grind (arith, nat_tests), grind (arith, nat_tests))

pub checked_possible : (r : Request) → sellable r ≡ true → Possible r
checked_possible r h = sold_possible r.product r.length (and_parts _ _ h).0

pub termed_possible : (days : Days) (e : Entry) → living e ≡ true → Termed days e → Possible e.standing.request
termed_possible days e l t = (t.2 l, t.0)

-- the living among records inside the days can exist
pub living_possible : (days : Days) (p : Entry → Bool) → ((e : Entry) → p e ≡ true → living e ≡ true) → (es : List Entry) → AllByRecursion (Termed days) es → AllByRecursion (λ e. Possible e.standing.request) (filter p es)
living_possible days p l [] h = tt
living_possible days p l (e ∷ es) h = go (living_possible days p l es h.1) (cases_Bool (p e))
  where
    go : AllByRecursion (λ d. Possible d.standing.request) (filter p es) → (p e ≡ true) ⊎ (p e ≡ false) → AllByRecursion (λ d. Possible d.standing.request) (cond (p e) (e ∷ filter p es) (filter p es))
    go rest (inl q) = rw (cond-true (p e) (e ∷ filter p es) (filter p es) q) (termed_possible days e (l e q) h.0, rest)
    go rest (inr q) = rw (cond-false (p e) (e ∷ filter p es) (filter p es) q) rest

module _ (days : Days) where
  pub termed_nobody : Termed days nobody
  termed_nobody = (omega arith, omega arith, λ l. absurd (false≢true l))

  termed_leave : (e : Entry) → Termed days e → Termed days (leave e)
  termed_leave e t = (t.0, t.1, λ l. absurd (false≢true l))

  termed_cond : (c : Bool) (x y : Entry) → Termed days x → Termed days y → Termed days (cond c x y)
  termed_cond true x y p q = p
  termed_cond false x y p q = q

  all_changed : (a : ℕ) (f : Entry → Entry) (es : List Entry) → ((e : Entry) → living e ≡ true → Termed days e → Termed days (f e)) → AllByRecursion (Termed days) es → AllByRecursion (Termed days) (change a f es)
  all_changed a f [] g h = tt
  all_changed a f (e ∷ es) g h = (go (cases_Bool (is a e)), all_changed a f es g h.1)
    where
      go : (is a e ≡ true) ⊎ (is a e ≡ false) → Termed days (cond (is a e) (f e) e)
      go (inl q) = rw q (g e (and_parts (living e) (eqb (aref_of e) a) q).0 h.0)
      go (inr q) = rw q h.0

  all_closed : (R : Rules) (t : ℕ) (ls : List Line) (b : ℕ) (es : List Entry) → AllByRecursion (Termed days) es → AllByRecursion (Termed days) (close_if_last R t ls b es)
  all_closed R t ls b es h = go (match_open es)
    where
      closed : (e : Entry) → living e ≡ true → Termed days e → Termed days (close R t ls e)
      closed e l k = termed_cond (is_pending (closed_state ls e)) (due_at (t + R.confirm_time (in_state (closed_state ls e) e).standing) (in_state (closed_state ls e) e)) (due_at (over_at e) (in_state (closed_state ls e) e)) (k.0, k.1, λ _. k.2 l) (k.0, k.1, λ _. k.2 l)

      go : (c : Bool) → AllByRecursion (Termed days) (cond c es (change b (close R t ls) es))
      go true = h
      go false = all_changed b (close R t ls) es closed h

module _ (R : Rules) (v : View) (T : AllByRecursion (Termed v.days) v.places) where
  inside_let_go : (t : ℕ) (e : Entry) → Holds (λ ls es. AllByRecursion (Termed v.days) es) (let_go t e v)
  inside_let_go t e = holds (λ ls es. AllByRecursion (Termed v.days) es) _ _ _ _ (all_changed v.days (aref_of e) leave v.places (λ d l k. termed_leave v.days d k) T)

  inside_flew : (t : ℕ) (e : Entry) → Holds (λ ls es. AllByRecursion (Termed v.days) es) (flew t e v)
  inside_flew t e = holds (λ ls es. AllByRecursion (Termed v.days) es) _ _ _ _ (all_changed v.days (aref_of e) leave v.places (λ d l k. termed_leave v.days d k) T)

  inside_declined : (t : ℕ) (e : Entry) → Holds (λ ls es. AllByRecursion (Termed v.days) es) (declined R t e v)
  inside_declined t e = holds (λ ls es. AllByRecursion (Termed v.days) es) _ _ _ _
      (all_closed v.days R t _ e.against _ (all_changed v.days (aref_of e) _ v.places (λ d l k. (k.0, k.1, λ _. k.2 l)) T))

  inside_matched : (t : ℕ) (e : Entry) → living e ≡ true → Termed v.days e → Holds (λ ls es. AllByRecursion (Termed v.days) es) (matched R t e v)
  inside_matched t e l k =
      let c = find e.against v.places in
      let kc = all_find (Termed v.days) e.against v.places (termed_nobody v.days) T in
      holds_stop (λ ls es. AllByRecursion (Termed v.days) es) _ _ _ (λ passed.
      let new = raised c.standing.request e.standing.request in
      let fits = ltb-false (length v.days.amounts) (start_of e + length_of e + (new.length - length_of e)) (or_parts _ _ passed).0 in
      holds (λ ls es. AllByRecursion (Termed v.days) es) _ _ _ _
      (all_closed v.days R t _ e.against _ (all_changed v.days (aref_of e) _ v.places
      (λ d _ _. (omega (arith, k.0, kc.0), omega (arith, fits, k.1), λ _. omega (arith, k.2 l))) T)))

  inside_by : (p : State → Bool) (a : ℕ) (f : Entry → Made) → (living (find a v.places) ≡ true → Holds (λ ls es. AllByRecursion (Termed v.days) es) (f (find a v.places))) → Holds (λ ls es. AllByRecursion (Termed v.days) es) (by_aref p a v f)
  inside_by p a f h = holds_stop (λ ls es. AllByRecursion (Termed v.days) es) _ _ _ (λ lives. holds_stop (λ ls es. AllByRecursion (Termed v.days) es) _ _ _ (λ _. h (ap not lives)))

  inside_settles : (t : ℕ) (e : Entry) (s : State) → Holds (λ ls es. AllByRecursion (Termed v.days) es) (settles R t e v s)
  inside_settles t e Confirmed = inside_flew t e
  inside_settles t e Accepted = inside_let_go t e
  inside_settles t e Offered = inside_let_go t e
  inside_settles t e Competing = refuses (λ ls es. AllByRecursion (Termed v.days) es) NothingDue
  inside_settles t e Challenged = inside_declined t e
  inside_settles t e Gone = refuses (λ ls es. AllByRecursion (Termed v.days) es) NothingDue

  after_termed : (t : ℕ) (r : Request) (ls : List Line) (e : Entry) → Termed v.days e → Termed v.days (after_preempt R t r v ls e)
  after_termed t r ls e k = go (cases_Bool (defends R t r v.days e)) (none_aside ls r.aref e) (empty ls e)
    where
      go : (defends R t r v.days e ≡ true) ⊎ (defends R t r v.days e ≡ false) → (n m : Bool) →
          Termed v.days (cond (defends R t r v.days e) (cond n (cond m (leave e) e) (record { standing = record { request = e.standing.request; state = Challenged; queued = e.standing.queued }; due = R.answer_by r e.standing t v.days; against = r.aref })) e)
      go (inl d) n m = subst (Termed v.days) (sym (cond-true (defends R t r v.days e) _ _ d))
          (termed_cond v.days n _ _ (termed_cond v.days m _ _ (termed_leave v.days e k) k) (k.0, k.1, λ _. k.2 (defends_lives R t r v e d)))
      go (inr d) n m = subst (Termed v.days) (sym (cond-false (defends R t r v.days e) _ _ d)) k

  inside_entered : (t : ℕ) (r : Request) (s : State) (ls : List Line) (es : List Entry) → Possible r → r.start + r.length ≤ length v.days.amounts → AllByRecursion (Termed v.days) es →
      Holds (λ ls es. AllByRecursion (Termed v.days) es) (entered R t r s ls es)
  inside_entered t r s ls es p fits h = holds (λ ls es. AllByRecursion (Termed v.days) es) _ _ _ _ (all_seat (Termed v.days) (new_record R t r s) es (p.1, fits, λ _. p.0) h)

  inside_submitted : (t : ℕ) (r : Request) → Possible r → Holds (λ ls es. AllByRecursion (Termed v.days) es) (submitted R t r v)
  inside_submitted t r p =
      let Q : List Line → List Entry → Type 0 = λ ls es. AllByRecursion (Termed v.days) es in
      holds_stop Q _ _ _ (λ _. holds_stop Q _ _ _ (λ passed.
      let fits = ltb-false (length v.days.amounts) (r.start + r.length) (or_parts _ _ passed).1 in
      holds_stop Q _ _ _ (λ _. holds_stop Q _ _ _ (λ _.
      holds_if Q _ _ _ (λ _. inside_entered t r _ _ v.places p fits T) (λ _.
      holds_stop Q _ _ _ (λ _.
      holds_if Q _ _ _ (λ _. inside_entered t r _ _ _ p fits (all_maps (Termed v.days) _ v.places (after_termed t r (preempt R t r v)) T)) (λ _.
      holds_stop Q _ _ _ (λ _. inside_entered t r _ _ v.places p fits T))))))))

  inside_made : (c : Call) → IsChecked c → Holds (λ ls es. AllByRecursion (Termed v.days) es) (makes_of R c v)
  inside_made (submit t r) h = inside_submitted t r (checked_possible r h)
  inside_made (confirm t a) h = inside_by is_pending a (λ e. makes v.lines (change a stand_confirmed v.places) a Confirmed) (λ _. holds (λ ls es. AllByRecursion (Termed v.days) es) v.lines _ a Confirmed (all_changed v.days a stand_confirmed v.places (λ d l k. (k.0, k.1, λ _. k.2 l)) T))
  inside_made (withdraw t a) h = inside_by is_pending a (λ e. let_go t e v) (λ _. inside_let_go t (find a v.places))
  inside_made (match t a) h = inside_by is_challenged a (λ e. matched R t e v) (λ l. inside_matched t (find a v.places) l (all_find (Termed v.days) a v.places (termed_nobody v.days) T))
  inside_made (decline t a) h = inside_by is_challenged a (λ e. declined R t e v) (λ _. inside_declined t (find a v.places))
  inside_made (settle t) h = inside_settles t (first_due t v.places) _

  pub terms_step : (c : Call) → IsChecked c → AllByRecursion (Termed v.days) (step R c v).1.places
  unfolding step
  terms_step c h =
      let Q : List Line → List Entry → Type 0 = λ ls es. AllByRecursion (Termed v.days) es in
      holds_written Q c v (asked R c v) T (holds_stop Q _ _ _ (λ _. holds_stop Q _ _ _ (λ _. inside_made c h)))

-- no call changes the posted days
pub days_stay : (R : Rules) (c : Call) (v : View) → (step R c v).1.days ≡ v.days
unfolding step
days_stay R c v = go (asked R c v)
  where
    go : (m : Made) → (written c v m).1.days ≡ v.days
    go (refused e) = refl
    go (makes ls es a s) = full (ltb v.room (length ls))
      where
        full : (b : Bool) → (cond {A = Answer × View} b (refusal JournalFull, v) (done a s (length v.lines) (length ls - length v.lines), record { days = v.days; room = v.room; lines = ls; places = es; clock = minute_of c; top = new_top c v.top })).1.days ≡ v.days
        full true = refl
        full false = refl

-- a living record that is found can exist
pub found_possible : (v : View) → AllByRecursion (Termed v.days) v.places → (a : ℕ) → living (find a v.places) ≡ true → Possible (find a v.places).standing.request
found_possible v T a l = termed_possible v.days (find a v.places) l (all_find (Termed v.days) a v.places (termed_nobody v.days) T)
