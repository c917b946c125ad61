-- A submit keeps the book whole.
use Rattle.std.proofs.Common.{◌≡◌, ℕ, ◌+◌, ◌<◌, ◌≤◌, min, Bool, true, false, cond, not, ◌&&◌, ◌||◌, eqb, ltb, leb, ◌⊎◌, List, [], ◌∷◌, map, sym, refl, ap, ◌∙◌, subst, inl, inr, arith}
use mathlib.Core.List.Memᴰ
use mathlib.Core.List.{Memᴰ}
use Rattle.std.specs.List.{AllByRecursion}
use Rattle.std.proofs.lemmas.Bool.{ne_eqb, eqb-true, cases_eq, cases_Bool, and_parts, and_left, and_right, or_left, or_right, false≢true, cond-false, leb-true, ltb-true}
use Rattle.law.specs.Places
use Rattle.law.specs.Preemption
use Rattle.terms.specs.declared.request.Request.{Request}
use Rattle.terms.specs.declared.words.State.{State}
use Rattle.terms.specs.declared.words.State.TheVariants.{Confirmed, Accepted, Offered, Competing, Challenged, Gone}
use Rattle.terms.specs.Words.{is_pending, is_confirmed, is_challenged, is_gone, is_competing}
use Rattle.sheets.specs.Rules.{Rules}
use Rattle.journal.specs.declared.line.Line.{Line}
use Rattle.journal.specs.declared.line.LineKind.TheVariants.{Granted, Superseded, Recalled, SetAside}
use Rattle.journal.specs.Accounts.{aside, balance}
use Rattle.law.specs.View.{Entry, View, aref_of, start_of, length_of, is, living, find, count}
use Rattle.law.specs.Places.{seat, some, leave, new_record}
use Rattle.law.specs.Posting.{post, by_day, holding}
use Rattle.law.specs.Preemption.{short, meets_shortage, grant, supersede, give, supersede_all, give_all, empty}
use Rattle.law.proofs.Holders.{Supp, supp_post, supp_into, days_ind}
use Rattle.law.proofs.Finds.{Tame, find-map, find_aref, count_map, count-seat, find-seat, find-seat_other, find_count}
use Rattle.law.proofs.ShrinkingShortage.{each_true}
use Rattle.law.proofs.AllPlaces.{all_find}
use Rattle.law.proofs.DefendersInTurn.{find_in}
use Rattle.law.proofs.HoldersInPlaces.{Whole, Within, Apart, Holding, Siding, Facing}
use Rattle.law.proofs.LaterCallsKeep.{none_false, not_empty}

abbrev Of : Request → ℕ → Type 0
Of r k = (r.start ≤ k) × (k < r.start + r.length)

-- a day that is short is a day of the term
short_in : (r : Request) (k : ℕ) (ls : List Line) → 0 < short r k ls → Of r k
short_in r k ls h = go (cases_Bool (leb r.start k && ltb k (r.start + r.length)))
  where
    go : ((leb r.start k && ltb k (r.start + r.length)) ≡ true) ⊎ ((leb r.start k && ltb k (r.start + r.length)) ≡ false) → (r.start ≤ k) × (k < r.start + r.length)
    go (inl q) = let w = and_parts (leb r.start k) (ltb k (r.start + r.length)) q in (leb-true r.start k w.0, ltb-true k (r.start + r.length) w.1)
    go (inr q) = let z : short r k ls ≡ 0 = rw q in let b : ⊥ = omega arith in absurd b

-- where MW may stand while r is served, and which may be set aside for it
abbrev pub Hold⁺ : List Entry → Request → ℕ → ℕ → Type 0
Hold⁺ es r c k = Within es c k ⊎ ((r.aref ≡ c) × (r.start ≤ k) × (k < r.start + r.length))

abbrev pub Side⁺ : (Entry → Bool) → List Entry → Request → ℕ → ℕ → ℕ → Type 0
Side⁺ p es r a b k = Apart es a b k ⊎ ((r.aref ≡ b) × Within es a k × (p (find a es) ≡ true) × (r.start ≤ k) × (k < r.start + r.length))

module _ (R : Rules) (t : ℕ) (r : Request) (p : Entry → Bool) (es : List Entry) where
  abbrev Fit : List Line → Type 0
  Fit = Supp (Hold⁺ es r) (Side⁺ p es r)

  pub fit_grant : (ls : List Line) → Supp (Hold⁺ es r) (Side⁺ p es r) ls → Supp (Hold⁺ es r) (Side⁺ p es r) (by_day (grant t r) r.start r.length ls)
  fit_grant ls s = days_ind (grant t r) (Supp (Hold⁺ es r) (Side⁺ p es r)) r.start r.length (λ k ms lo hi u. supp_post (Hold⁺ es r) (Side⁺ p es r) t Granted 0 r.aref k _ ms (omega arith) (λ _. inr (refl, lo, hi)) u) ls s

  -- the defenders: found in the places, and another AREF than r
  abbrev pub Stands : Entry → Type 0
  Stands d = (find (aref_of d) es ≡ d) × (R.may_match r d.standing ≡ true → p d ≡ true) × (r.aref ≡ aref_of d → ⊥)

  fit_supersede : (d : Entry) (ls : List Line) → Supp (Hold⁺ es r) (Side⁺ p es r) ls → Supp (Hold⁺ es r) (Side⁺ p es r) (supersede t r d ls)
  fit_supersede d ls s = go (meets_shortage r d ls)
    where
      go : (c : Bool) → Supp (Hold⁺ es r) (Side⁺ p es r) (cond c (by_day (λ k ms. post t Superseded (aref_of d) r.aref k (holding ms (aref_of d) k) ms) (start_of d) (length_of d) ls) ls)
      go true = days_ind _ (Supp (Hold⁺ es r) (Side⁺ p es r)) (start_of d) (length_of d) (λ k ms lo hi u. supp_post (Hold⁺ es r) (Side⁺ p es r) t Superseded (aref_of d) r.aref k _ ms (omega arith) (λ _. tt) u) ls s
      go false = s

  fit_give : (d : Entry) → (find (aref_of d) es ≡ d) × (R.may_match r d.standing ≡ true → p d ≡ true) × (r.aref ≡ aref_of d → ⊥) → (ls : List Line) → Supp (Hold⁺ es r) (Side⁺ p es r) ls → Supp (Hold⁺ es r) (Side⁺ p es r) (give R t r d ls)
  fit_give d D ls s = go (R.may_match r d.standing) refl
    where
      own : (k : ℕ) → Within es (aref_of d) k ⊎ ((r.aref ≡ aref_of d) × (r.start ≤ k) × (k < r.start + r.length)) → Within es (aref_of d) k
      own k (inl w) = w
      own k (inr w) = absurd (D.2 w.0)

      go : (c : Bool) → R.may_match r d.standing ≡ c → Supp (Hold⁺ es r) (Side⁺ p es r) (by_day (λ k ms. post t (cond c SetAside Recalled) (aref_of d) r.aref k (min (holding ms (aref_of d) k) (short r k ms)) ms) (start_of d) (length_of d) ls)
      go true y = days_ind _ (Supp (Hold⁺ es r) (Side⁺ p es r)) (start_of d) (length_of d) (λ k ms lo hi u. supp_post (Hold⁺ es r) (Side⁺ p es r) t SetAside (aref_of d) r.aref k _ ms (omega arith)
          (λ q. let w = short_in r k ms (omega arith) in inr (refl, own k (u.holds (aref_of d) k (omega arith)), subst (λ x. p x ≡ true) (sym D.0) (D.1 y), w.0, w.1)) u) ls s
      go false y = days_ind _ (Supp (Hold⁺ es r) (Side⁺ p es r)) (start_of d) (length_of d) (λ k ms lo hi u. supp_post (Hold⁺ es r) (Side⁺ p es r) t Recalled (aref_of d) r.aref k _ ms (omega arith)
          (λ q. let w = short_in r k ms (omega arith) in inr (refl, w.0, w.1)) u) ls s

  fit_supersede_all : (ds : List Entry) (ls : List Line) → Supp (Hold⁺ es r) (Side⁺ p es r) ls → Supp (Hold⁺ es r) (Side⁺ p es r) (supersede_all t r ds ls)
  unfolding supersede_all
  fit_supersede_all [] ls s = s
  fit_supersede_all (d ∷ ds) ls s = fit_supersede_all ds _ (go (is_pending d.standing.state))
    where
      go : (c : Bool) → Supp (Hold⁺ es r) (Side⁺ p es r) (cond c (supersede t r d ls) ls)
      go true = fit_supersede d ls s
      go false = s

  fit_give_all : (ds : List Entry) → AllByRecursion (λ d. (find (aref_of d) es ≡ d) × (R.may_match r d.standing ≡ true → p d ≡ true) × (r.aref ≡ aref_of d → ⊥)) ds → (ls : List Line) → Supp (Hold⁺ es r) (Side⁺ p es r) ls → Supp (Hold⁺ es r) (Side⁺ p es r) (give_all R t r ds ls)
  unfolding give_all
  fit_give_all [] D ls s = s
  fit_give_all (d ∷ ds) D ls s = fit_give_all ds D.1 _ (go (is_pending d.standing.state))
    where
      go : (c : Bool) → Supp (Hold⁺ es r) (Side⁺ p es r) (cond c ls (give R t r d ls))
      go true = s
      go false = fit_give d D.0 ls s

  pub fit_preempt : (ds : List Entry) → AllByRecursion (λ d. (find (aref_of d) es ≡ d) × (R.may_match r d.standing ≡ true → p d ≡ true) × (r.aref ≡ aref_of d → ⊥)) ds → (ls : List Line) → Supp (Hold⁺ es r) (Side⁺ p es r) ls → Supp (Hold⁺ es r) (Side⁺ p es r) (give_all R t r ds (by_day (grant t r) r.start r.length (supersede_all t r ds ls)))
  fit_preempt ds D ls s = fit_give_all ds D _ (fit_grant _ (fit_supersede_all ds ls s))

-- the new record takes a place
pub some_in : (p : Entry → Bool) (es : List Entry) (x : Entry) → Memᴰ x es → p x ≡ true → some p es ≡ true
unfolding some
some_in p [] x m h = elim m [ ]
some_in p (e ∷ es) x m h = go (λ (n : Memᴰ x es). some_in p es x n h) (Memᴰ.cases_cons m)
  where
    go : (Memᴰ x es → some p es ≡ true) → (x ≡ e) ⊎ Memᴰ x es → (p e || some p es) ≡ true
    go ih (inl q) = or_left (p e) (some p es) (ap p (sym q) ∙ h)
    go ih (inr n) = or_right (p e) (some p es) (ih n)

module _ (R : Rules) (t : ℕ) (r : Request) (s : State) (es : List Entry) (ls : List Line)
    (lives : not (is_gone s) ≡ true) (place : some (λ e. is_gone e.standing.state) es ≡ true) (new : count r.aref es ≡ 0) (once : (a : ℕ) → count a es ≤ 1) where
  abbrev x : Entry
  x = new_record R t r s

  not_new : (c k : ℕ) → Within es c k → r.aref ≡ c → ⊥
  not_new c k w q = let z = find_count c es w.0 in let y = subst (λ i. count i es ≡ 0) q new in omega arith

  seated : (c k : ℕ) → Within es c k → Within (seat x es) c k
  seated c k w = subst (λ e. Holding e k) (sym (find-seat_other x c es (not_new c k w))) w

  itself : (c k : ℕ) → r.aref ≡ c → Of r k → Within (seat x es) c k
  itself c k q w = subst (λ i. Within (seat x es) i k) q (subst (λ e. Holding e k) (sym (find-seat x es lives place new)) (lives, w.0, w.1))

  pub whole_seat : (A : ℕ → ℕ → ℕ → Type 0) → ((a b k : ℕ) → 0 < balance ls (aside a b) k → A a b k → Siding (find a es) b k × (Facing (find b es) k ⊎ ((r.aref ≡ b) × Of r k × (is_competing s ≡ true)))) →
      Supp (Hold⁺ es r) A ls → Whole ls (seat x es)
  whole_seat A side p = record {
    supp = supp_into (Hold⁺ es r) (Within (seat x es)) A (Apart (seat x es)) ls (λ c k q w. hold c k w) (λ a b k q w. let u = side a b k q w in
        (subst (λ e. Siding e b k) (sym (find-seat_other x a es (not_new a k u.0.0))) u.0, face b k u.1)) p;
    once = λ a. only a (cases_eq r.aref a);
  }
    where
      hold : (c k : ℕ) → Within es c k ⊎ ((r.aref ≡ c) × (r.start ≤ k) × (k < r.start + r.length)) → Within (seat x es) c k
      hold c k (inl w) = seated c k w
      hold c k (inr w) = itself c k w.0 (w.1, w.2)

      face : (b k : ℕ) → Facing (find b es) k ⊎ ((r.aref ≡ b) × Of r k × (is_competing s ≡ true)) → Facing (find b (seat x es)) k
      face b k (inl w) = subst (λ e. Facing e k) (sym (find-seat_other x b es (not_new b k w.0))) w
      face b k (inr w) = (itself b k w.0 w.1, subst (λ i. is_competing (find i (seat x es)).standing.state ≡ true) w.0 (subst (λ e. is_competing e.standing.state ≡ true) (sym (find-seat x es lives place new)) w.2))

      below : (c : Bool) → cond c 1 0 ≤ 1
      below true = omega arith
      below false = omega arith

      only : (a : ℕ) → (r.aref ≡ a) ⊎ (r.aref ≡ a → ⊥) → count a (seat x es) ≤ 1
      only a (inl q) = let z = subst (λ i. count i es ≡ 0) q new in omega (arith, count-seat x a es, below (is a x))
      only a (inr ne) = let z : is a x ≡ false = and_right (living x) (eqb r.aref a) (ne_eqb r.aref a ne) in let w = count-seat x a es in let y = rw z at w in omega (arith, once a)

-- a grant alone
pub whole_granted : (R : Rules) (t : ℕ) (r : Request) (s : State) (es : List Entry) (ls : List Line) → not (is_gone s) ≡ true → some (λ e. is_gone e.standing.state) es ≡ true → count r.aref es ≡ 0 → Whole ls es →
    Whole (by_day (grant t r) r.start r.length ls) (seat (new_record R t r s) es)
whole_granted R t r s es ls l g n W = whole_seat R t r s es _ l g n W.once (Side⁺ (λ e. false) es r) (λ a b k q w. side a b k w)
    (fit_grant R t r (λ e. false) es ls (supp_into (Within es) (Hold⁺ es r) (Apart es) (Side⁺ (λ e. false) es r) ls (λ c k q w. inl w) (λ a b k q w. inl w) W.supp))
  where
    side : (a b k : ℕ) → Side⁺ (λ e. false) es r a b k → Siding (find a es) b k × (Facing (find b es) k ⊎ ((r.aref ≡ b) × Of r k × (is_competing s ≡ true)))
    side a b k (inl w) = (w.0, inl w.1)
    side a b k (inr w) = absurd (false≢true w.2)

-- preemption
gone_not : (s : State) → not (is_gone s) ≡ false → (is_pending s || is_confirmed s) ≡ false
gone_not Confirmed h = absurd (false≢true (sym h))
gone_not Accepted h = absurd (false≢true (sym h))
gone_not Offered h = absurd (false≢true (sym h))
gone_not Competing h = absurd (false≢true (sym h))
gone_not Challenged h = absurd (false≢true (sym h))
gone_not Gone h = refl

module _ (R : Rules) (t : ℕ) (r : Request) (v : View) (ms : List Line) where
  abbrev pub g : Entry → Entry
  g e = Preemption.after_preempt R t r v ms e

  abbrev p : Entry → Bool
  p e = Preemption.defends R t r v.days e

  -- a defender that may match
  abbrev pub pr : Entry → Bool
  pr e = Preemption.defends R t r v.days e && R.may_match r e.standing

  pub tame_after : Tame g
  tame_after = record { same_aref = λ e. one e (p e) (Preemption.none_aside ms r.aref e) (empty ms e); stays_gone = λ e l. two e l }
    where
      one : (e : Entry) (a b c : Bool) → aref_of (cond a (cond b (cond c (leave e) e) (record { standing = record { request = e.standing.request; state = Challenged; queued = e.standing.queued }; due = R.answer_by r e.standing t v.days; against = r.aref })) e) ≡ aref_of e
      one e true true true = refl
      one e true true false = refl
      one e true false c = refl
      one e false b c = refl

      two : (e : Entry) → living e ≡ false → living (g e) ≡ false
      two e l = rw (cond-false (p e) _ e (and_left _ _ (gone_not e.standing.state l))) l

  hold_after : (c k : ℕ) → 0 < holding ms c k → Within v.places c k → Holding (g (find c v.places)) k
  hold_after c k q w = go (p e) (Preemption.none_aside ms r.aref e) (empty ms e) refl
    where
      e : Entry
      e = find c v.places

      go : (a b d : Bool) → empty ms (find c v.places) ≡ d → Holding (cond a (cond b (cond d (leave (find c v.places)) (find c v.places)) (record { standing = record { request = (find c v.places).standing.request; state = Challenged; queued = (find c v.places).standing.queued }; due = R.answer_by r e.standing t v.days; against = r.aref })) (find c v.places)) k
      go true true true m = absurd (not_empty ms (find c v.places) k m w.1 w.2 (subst (λ i. 0 < holding ms i k) (sym (find_aref c v.places w.0)) q))
      go true true false m = w
      go true false d m = (refl, w.1, w.2)
      go false b d m = w

  side_after : (a k : ℕ) → 0 < balance ms (aside a r.aref) k → Within v.places a k → p (find a v.places) ≡ true → Siding (g (find a v.places)) r.aref k
  side_after a k q w h = go (p (find a v.places)) (Preemption.none_aside ms r.aref (find a v.places)) (empty ms (find a v.places)) h refl
    where
      go : (c b d : Bool) → c ≡ true → Preemption.none_aside ms r.aref (find a v.places) ≡ b → Siding (cond c (cond b (cond d (leave (find a v.places)) (find a v.places)) (record { standing = record { request = (find a v.places).standing.request; state = Challenged; queued = (find a v.places).standing.queued }; due = R.answer_by r (find a v.places).standing t v.days; against = r.aref })) (find a v.places)) r.aref k
      go true true d u m =
          let z = eqb-true _ 0 (each_true (λ j. eqb (balance ms (aside (aref_of (find a v.places)) r.aref) j) 0) (start_of (find a v.places)) (length_of (find a v.places)) m k w.1 w.2) in
          let y = subst (λ i. 0 < balance ms (aside i r.aref) k) (sym (find_aref a v.places w.0)) q in
          let b : ⊥ = omega arith in absurd b
      go true false d u m = ((refl, w.1, w.2), refl, refl)
      go false b d u m = absurd (false≢true u)

  -- exactly what it has become
  pub ch_after : (a k : ℕ) → 0 < balance ms (aside a r.aref) k → Within v.places a k → p (find a v.places) ≡ true →
      g (find a v.places) ≡ record { standing = record { request = (find a v.places).standing.request; state = Challenged; queued = (find a v.places).standing.queued }; due = R.answer_by r (find a v.places).standing t v.days; against = r.aref }
  ch_after a k q w h = go (p (find a v.places)) (Preemption.none_aside ms r.aref (find a v.places)) (empty ms (find a v.places)) h refl
    where
      go : (c b d : Bool) → c ≡ true → Preemption.none_aside ms r.aref (find a v.places) ≡ b → cond c (cond b (cond d (leave (find a v.places)) (find a v.places)) (record { standing = record { request = (find a v.places).standing.request; state = Challenged; queued = (find a v.places).standing.queued }; due = R.answer_by r (find a v.places).standing t v.days; against = r.aref })) (find a v.places) ≡ record { standing = record { request = (find a v.places).standing.request; state = Challenged; queued = (find a v.places).standing.queued }; due = R.answer_by r (find a v.places).standing t v.days; against = r.aref }
      go true true d u m =
          let z = eqb-true _ 0 (each_true (λ j. eqb (balance ms (aside (aref_of (find a v.places)) r.aref) j) 0) (start_of (find a v.places)) (length_of (find a v.places)) m k w.1 w.2) in
          let y = subst (λ i. 0 < balance ms (aside i r.aref) k) (sym (find_aref a v.places w.0)) q in
          let b : ⊥ = omega arith in absurd b
      go true false d u m = refl
      go false b d u m = absurd (false≢true u)

  pub whole_preempted : Whole v.lines v.places → Places.match_open v.places ≡ false → some (λ e. is_gone e.standing.state) (map g v.places) ≡ true → count r.aref v.places ≡ 0 →
      Supp (Hold⁺ v.places r) (Side⁺ pr v.places r) ms →
      Whole ms (seat (new_record R t r (cond (Places.match_open (map g v.places)) Competing Confirmed)) (map g v.places))
  whole_preempted W closed place new S = whole_seat R t r _ (map g v.places) ms (alive (Places.match_open (map g v.places))) place
      (let z = count_map g tame_after r.aref v.places in omega arith) (λ a. omega (arith, W.once a, count_map g tame_after a v.places))
      (Side⁺ pr v.places r) (λ a b k q w. side a b k q w)
      (supp_into (Hold⁺ v.places r) (Hold⁺ (map g v.places) r) (Side⁺ pr v.places r) (Side⁺ pr v.places r) ms (λ c k q w. hold c k q w) (λ a b k q w. w) S)
    where
      alive : (c : Bool) → not (is_gone (cond c Competing Confirmed)) ≡ true
      alive true = refl
      alive false = refl

      hold : (c k : ℕ) → 0 < holding ms c k → Hold⁺ v.places r c k → Hold⁺ (map g v.places) r c k
      hold c k q (inl w) = let u = hold_after c k q w in inl (subst (λ e. Holding e k) (sym (find-map g tame_after c v.places w.0 u.0)) u)
      hold c k q (inr w) = inr w

      side : (a b k : ℕ) → 0 < balance ms (aside a b) k → Side⁺ pr v.places r a b k → Siding (find a (map g v.places)) b k × (Facing (find b (map g v.places)) k ⊎ ((r.aref ≡ b) × Of r k × (is_competing (cond (Places.match_open (map g v.places)) Competing Confirmed) ≡ true)))
      side a b k q (inl w) = absurd (false≢true (sym (all_find (λ x. is_challenged x.standing.state ≡ false) a v.places refl (none_false _ v.places closed)) ∙ w.0.1))
      side a b k q (inr w) =
          let u = side_after a k (subst (λ i. 0 < balance ms (aside a i) k) (sym w.0) q) w.1 (and_parts (p (find a v.places)) _ w.2).0 in
          let f = find-map g tame_after a v.places w.1.0 u.0.0 in
          let u' : Siding (find a (map g v.places)) r.aref k = subst (λ e. Siding e r.aref k) (sym f) u in
          let o : Places.match_open (map g v.places) ≡ true = some_in _ (map g v.places) (find a (map g v.places)) (find_in a (map g v.places) u'.0.0) u'.1 in
          (subst (λ i. Siding (find a (map g v.places)) i k) w.0 u', inr (w.0, (w.3, w.4), ap (λ c. is_competing (cond c Competing Confirmed)) o))
