-- Every call keeps the book whole.
use Rattle.std.proofs.Common.{◌≡◌, ℕ, ◌-◌, ◌<◌, ◌≤◌, Bool, true, false, cond, not, ◌||◌, ltb, ◌⊎◌, List, [], ◌∷◌, map, length, filter, refl, ap, inl, inr, arith}
use Rattle.std.specs.List.{AllByRecursion}
use Rattle.std.proofs.ByRecursion.{All-weaker}
use Rattle.std.proofs.lemmas.Bool.{and_parts, and_from, or_left, or_right, or_cases, false≢true, not-false, leb-false}
use Rattle.law.specs.Calls
use Rattle.law.specs.Places
use Rattle.law.specs.Preemption
use Rattle.terms.specs.declared.refusal.Refusal.{Refusal}
use Rattle.terms.specs.declared.refusal.Refusal.TheVariants.{JournalFull, NothingDue}
use Rattle.terms.specs.declared.request.Request.{Request}
use Rattle.terms.specs.declared.words.State.{State}
use Rattle.terms.specs.declared.words.State.TheVariants.{Confirmed, Accepted, Offered, Competing, Challenged, Gone}
use Rattle.terms.specs.Words.{is_pending, is_confirmed, is_challenged, is_gone}
use Rattle.sheets.specs.Rules.{Rules}
use Rattle.journal.specs.declared.line.Line.{Line}
use Rattle.law.specs.View.{Entry, View, aref_of, living, find, count}
use Rattle.law.specs.Calls.{Call, submit, confirm, withdraw, match, decline, settle, Made, refused, makes, Answer, makes_of, written, step, new_top}
use Rattle.law.specs.Places.{some}
use Rattle.law.proofs.Finds.{Tame, count_none, all_found}
use Rattle.law.proofs.AllPlaces.{all_kept, all_in_turn, all_due}
use Rattle.law.proofs.HoldersInPlaces.{Whole, Within, Apart}
use Rattle.law.proofs.LaterCallsKeep.{Found, found_by, whole_confirm, whole_let_go, whole_flew, whole_declined, whole_matched}
use Rattle.law.proofs.SubmitKeeps.{Hold⁺, Side⁺, fit_preempt, whole_granted, whole_preempted, tame_after, pr}
use Rattle.law.proofs.Holders.{Supp, supp_into}

-- what holds of the lines and places that a call makes
unfoldable pub Holds : (List Line → List Entry → Type 0) → Made → Type 0
Holds P (refused c) = Unit {0}
Holds P (makes ls es a s) = P ls es

pub holds : (P : List Line → List Entry → Type 0) (ls : List Line) (es : List Entry) (a : ℕ) (s : State) → P ls es → Holds P (makes ls es a s)
unfolding Holds
holds P ls es a s h = h

pub refuses : (P : List Line → List Entry → Type 0) (c : Refusal) → Holds P (refused c)
unfolding Holds
refuses P c = tt

pub holds_stop : (P : List Line → List Entry → Type 0) (b : Bool) (c : Refusal) (m : Made) → (b ≡ false → Holds P m) → Holds P (Calls.stop_if b c m)
unfolding Calls.stop_if Holds
holds_stop P true c m f = tt
holds_stop P false c m f = f refl

pub holds_if : (P : List Line → List Entry → Type 0) (b : Bool) (x y : Made) → (b ≡ true → Holds P x) → (b ≡ false → Holds P y) → Holds P (Calls.if_so b x y)
unfolding Calls.if_so
holds_if P true x y f g = f refl
holds_if P false x y f g = g refl

pub all_holds : (P : Type 0) → P → (m : Made) → Holds (λ ls es. P) m
unfolding Holds
all_holds P p (refused c) = tt
all_holds P p (makes ls es a s) = p

pub holds_map : (P Q : List Line → List Entry → Type 0) → ((ls : List Line) (es : List Entry) → P ls es → Q ls es) → (m : Made) → Holds P m → Holds Q m
unfolding Holds
holds_map P Q f (refused c) h = tt
holds_map P Q f (makes ls es a s) h = f ls es h

pub holds_and : (P Q : List Line → List Entry → Type 0) (m : Made) → Holds P m → Holds Q m → Holds (λ ls es. P ls es × Q ls es) m
unfolding Holds
holds_and P Q (refused c) p q = tt
holds_and P Q (makes ls es a s) p q = (p, q)

pub holds_written : (P : List Line → List Entry → Type 0) (c : Call) (v : View) (m : Made) → P v.lines v.places → Holds P m → P (written c v m).1.lines (written c v m).1.places
unfolding Holds
holds_written P c v (refused x) h g = h
holds_written P c v (makes ls es a s) h g = go (ltb v.room (length ls))
  where
    go : (b : Bool) → P (cond {A = Answer × View} b (Calls.refusal JournalFull, v) (Calls.done a s (length v.lines) (length ls - length v.lines), record { days = v.days; room = v.room; lines = ls; places = es; clock = Calls.minute_of c; top = new_top c v.top })).1.lines
        (cond {A = Answer × View} b (Calls.refusal JournalFull, v) (Calls.done a s (length v.lines) (length ls - length v.lines), record { days = v.days; room = v.room; lines = ls; places = es; clock = Calls.minute_of c; top = new_top c v.top })).1.places
    go true = h
    go false = g

-- the highest AREF only grows
pub written_top : (c : Call) (v : View) (m : Made) → Holds (λ ls es. v.top ≤ new_top c v.top) m → v.top ≤ (written c v m).1.top
unfolding Holds
written_top c v (refused x) h = omega arith
written_top c v (makes ls es a s) h = go (ltb v.room (length ls))
  where
    go : (b : Bool) → v.top ≤ (cond {A = Calls.Answer × View} b (Calls.refusal JournalFull, v) (Calls.done a s (length v.lines) (length ls - length v.lines), record { days = v.days; room = v.room; lines = ls; places = es; clock = Calls.minute_of c; top = new_top c v.top })).1.top
    go true = omega arith
    go false = h

pub some_map : (g : Entry → Entry) → Tame g → (es : List Entry) → some (λ e. is_gone e.standing.state) es ≡ true → some (λ e. is_gone e.standing.state) (map g es) ≡ true
unfolding some
some_map g T [] h = h
some_map g T (e ∷ es) h = go (λ (q : some (λ e. is_gone e.standing.state) es ≡ true). some_map g T es q) (or_cases (is_gone e.standing.state) (some (λ e. is_gone e.standing.state) es) h)
  where
    go : (some (λ e. is_gone e.standing.state) es ≡ true → some (λ e. is_gone e.standing.state) (map g es) ≡ true) → (is_gone e.standing.state ≡ true) ⊎ (some (λ e. is_gone e.standing.state) es ≡ true) → (is_gone (g e).standing.state || some (λ e. is_gone e.standing.state) (map g es)) ≡ true
    go ih (inl q) = or_left _ _ (not-false (is_gone (g e).standing.state) (T.stays_gone e (ap not q)))
    go ih (inr q) = or_right _ _ (ih q)

kept_pass : (p : Entry → Bool) (es : List Entry) → AllByRecursion (λ e. p e ≡ true) (filter p es)
kept_pass p [] = tt
kept_pass p (e ∷ es) = go (p e) refl (kept_pass p es)
  where
    go : (c : Bool) → p e ≡ c → AllByRecursion (λ x. p x ≡ true) (filter p es) → AllByRecursion (λ x. p x ≡ true) (cond c (e ∷ filter p es) (filter p es))
    go true q h = (q, h)
    go false q h = h

all_both : (P Q : Entry → Type 0) (es : List Entry) → AllByRecursion P es → AllByRecursion Q es → AllByRecursion (λ e. P e × Q e) es
all_both P Q [] p q = tt
all_both P Q (e ∷ es) p q = ((p.0, q.0), all_both P Q es p.1 q.1)

lives_pc : (s : State) → (is_pending s || is_confirmed s) ≡ true → not (is_gone s) ≡ true
lives_pc Confirmed h = refl
lives_pc Accepted h = refl
lives_pc Offered h = refl
lives_pc Competing h = refl
lives_pc Challenged h = refl
lives_pc Gone h = absurd (false≢true h)

pub defends_lives : (R : Rules) (t : ℕ) (r : Request) (v : View) (e : Entry) → Preemption.defends R t r v.days e ≡ true → living e ≡ true
defends_lives R t r v e h = lives_pc e.standing.state (and_parts (is_pending e.standing.state || is_confirmed e.standing.state) _ h).0

abbrev Low : ℕ → Entry → Type 0
Low n e = (aref_of e ≤ n) × (e.against ≤ n)

module _ (R : Rules) (v : View) (W : Whole v.lines v.places) (low : AllByRecursion (Low v.top) v.places) where
  -- the defenders stand in the places, each under its AREF, below the challenger's
  pub defenders_stand : (t : ℕ) (r : Request) → v.top < r.aref → AllByRecursion (λ d. (find (aref_of d) v.places ≡ d) × (Preemption.defends R t r v.days d ≡ true) × (r.aref ≡ aref_of d → ⊥)) (Preemption.defenders R t r v)
  defenders_stand t r up = all_in_turn _ R _
      (All-weaker (λ e. ((living e ≡ true → find (aref_of e) v.places ≡ e) × Low v.top e) × (Preemption.defends R t r v.days e ≡ true)) _
      (λ e h. (h.0.0 (defends_lives R t r v e h.1), h.1, (λ (q : r.aref ≡ aref_of e). omega arith))) _
      (all_both _ _ _ (all_kept _ (Preemption.defends R t r v.days) v.places (all_both _ _ v.places (all_found v.places W.once) low)) (kept_pass (Preemption.defends R t r v.days) v.places)))

  pub supp_preempt : (t : ℕ) (r : Request) → v.top < r.aref → Supp (Hold⁺ v.places r) (Side⁺ (pr R t r v (Preemption.preempt R t r v)) v.places r) (Preemption.preempt R t r v)
  supp_preempt t r up = fit_preempt R t r (pr R t r v (Preemption.preempt R t r v)) v.places (Preemption.defenders R t r v)
      (All-weaker _ _ (λ d h. (h.0, (λ q. and_from (Preemption.defends R t r v.days d) (R.may_match r d.standing) h.1 q), h.2)) (Preemption.defenders R t r v) (defenders_stand t r up)) v.lines
      (supp_into (Within v.places) (Hold⁺ v.places r) (Apart v.places) (Side⁺ (pr R t r v (Preemption.preempt R t r v)) v.places r) v.lines (λ c k q w. inl w) (λ a b k q w. inl w) W.supp)

  whole_submitted : (t : ℕ) (r : Request) → Holds Whole (Calls.submitted R t r v)
  whole_submitted t r =
      holds_stop Whole _ _ _ (λ above.
      let up : v.top < r.aref = leb-false r.aref v.top above in
      let new : count r.aref v.places ≡ 0 = count_none v.top r.aref v.places up low in
      holds_stop Whole _ _ _ (λ _. holds_stop Whole _ _ _ (λ _. holds_stop Whole _ _ _ (λ full.
      let place : some (λ e. is_gone e.standing.state) v.places ≡ true = not-false _ full in
      holds_if Whole _ _ _ (λ _. holds Whole _ _ _ _ (whole_granted R t r (cond r.preconfirmed Confirmed Accepted) v.places v.lines (alive r.preconfirmed) place new W)) (λ _.
      holds_stop Whole _ _ _ (λ closed.
      holds_if Whole _ _ _ (λ _. holds Whole _ _ _ _ (whole_preempted R t r v (Preemption.preempt R t r v) W closed (some_map _ (tame_after R t r v _) v.places place) new
      (supp_preempt t r up))) (λ _.
      holds_stop Whole _ _ _ (λ _. holds Whole _ _ _ _ (whole_granted R t r Offered v.places v.lines refl place new W)))))))))
    where
      alive : (c : Bool) → not (is_gone (cond c Confirmed Accepted)) ≡ true
      alive true = refl
      alive false = refl

  whole_by : (p : State → Bool) (a : ℕ) (f : Entry → Made) → ((l : living (find a v.places) ≡ true) → p (find a v.places).standing.state ≡ true → Holds Whole (f (find a v.places))) → Holds Whole (Calls.by_aref p a v f)
  whole_by p a f h = holds_stop Whole _ _ _ (λ g. holds_stop Whole _ _ _ (λ q. h (ap not g) (not-false _ q)))

  whole_decline : (t : ℕ) (e : Entry) → Found v.places e → is_challenged e.standing.state ≡ true → Holds Whole (Calls.declined R t e v)
  whole_decline t e E c = holds Whole _ _ _ _ (whole_declined R t v.places v.lines W e E c)

  whole_match : (t : ℕ) (e : Entry) → Found v.places e → is_challenged e.standing.state ≡ true → Holds Whole (Calls.matched R t e v)
  whole_match t e E c = holds_stop Whole _ _ _ (λ _. holds Whole _ _ _ Confirmed (whole_matched R t v.places v.lines W e E c _ (find e.against v.places).standing.request _))

  whole_settles : (t : ℕ) (e : Entry) (s : State) → e.standing.state ≡ s → (living e ≡ true → find (aref_of e) v.places ≡ e) → Holds Whole (Calls.settles R t e v s)
  whole_settles t e Confirmed q h = let l : living e ≡ true = ap (λ x. not (is_gone x)) q in holds Whole _ _ _ _ (whole_flew v.places v.lines W t e (l, h l) (ap is_confirmed q))
  whole_settles t e Accepted q h = let l : living e ≡ true = ap (λ x. not (is_gone x)) q in holds Whole _ _ _ _ (whole_let_go v.places v.lines W t e (l, h l) (ap is_pending q))
  whole_settles t e Offered q h = let l : living e ≡ true = ap (λ x. not (is_gone x)) q in holds Whole _ _ _ _ (whole_let_go v.places v.lines W t e (l, h l) (ap is_pending q))
  whole_settles t e Competing q h = refuses Whole NothingDue
  whole_settles t e Challenged q h = let l : living e ≡ true = ap (λ x. not (is_gone x)) q in whole_decline t e (l, h l) (ap is_challenged q)
  whole_settles t e Gone q h = refuses Whole NothingDue

  whole_made : (c : Call) → Holds Whole (makes_of R c v)
  whole_made (submit t r) = whole_submitted t r
  whole_made (confirm t a) = whole_by is_pending a (λ e. makes v.lines (Places.change a Places.stand_confirmed v.places) a Confirmed) (λ l p. holds Whole _ _ a Confirmed (whole_confirm v.places v.lines W a l p))
  whole_made (withdraw t a) = whole_by is_pending a (λ e. Calls.let_go t e v) (λ l p. holds Whole _ _ _ Gone (whole_let_go v.places v.lines W t (find a v.places) (found_by a v.places l) p))
  whole_made (match t a) = whole_by is_challenged a (λ e. Calls.matched R t e v) (λ l c. whole_match t (find a v.places) (found_by a v.places l) c)
  whole_made (decline t a) = whole_by is_challenged a (λ e. Calls.declined R t e v) (λ l c. whole_decline t (find a v.places) (found_by a v.places l) c)
  whole_made (settle t) = whole_settles t (Calls.first_due t v.places) _ refl (all_due (λ e. living e ≡ true → find (aref_of e) v.places ≡ e) t v.places (λ l. absurd (false≢true l)) (all_found v.places W.once))

  pub whole_step : (c : Call) → Whole (step R c v).1.lines (step R c v).1.places
  unfolding step
  whole_step c = holds_written Whole c v (Calls.asked R c v) W (holds_stop Whole _ _ _ (λ _. holds_stop Whole _ _ _ (λ _. whole_made c)))

  pub top_grows : (c : Call) → v.top ≤ (step R c v).1.top
  unfolding step
  top_grows c = written_top c v (Calls.asked R c v) (holds_stop (Grows c) _ _ _ (λ _. holds_stop (Grows c) _ _ _ (λ _. grows c)))
    where
      Grows : Call → List Line → List Entry → Type 0
      Grows d ls es = v.top ≤ new_top d v.top

      always : (P : Type 0) → P → (m : Made) → Holds (λ ls es. P) m
      always P p m = all_holds P p m

      grows : (d : Call) → Holds (λ ls es. v.top ≤ new_top d v.top) (makes_of R d v)
      grows (submit t r) = holds_stop (λ ls es. v.top ≤ r.aref) _ _ _ (λ above. all_holds (v.top ≤ r.aref) (let up = leb-false r.aref v.top above in omega arith) _)
      grows (confirm t a) = all_holds _ (omega arith) _
      grows (withdraw t a) = all_holds _ (omega arith) _
      grows (match t a) = all_holds _ (omega arith) _
      grows (decline t a) = all_holds _ (omega arith) _
      grows (settle t) = all_holds _ (omega arith) _
