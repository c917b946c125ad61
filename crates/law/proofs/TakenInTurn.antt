-- What was taken was taken in turn.
use Rattle.std.proofs.Common.{◌≡◌, ℕ, ◌<◌, ◌≤◌, Bool, true, false, cond, ◌||◌, eqb, ◌⊎◌, List, [], ◌∷◌, ◌++◌, length, filter, sym, refl, ap, ◌∙◌, subst, inl, inr, arith}
use mathlib.Core.List.Memᴰ
use mathlib.Core.List.{Memᴰ}
use Rattle.std.specs.List.{AllByRecursion}
use Rattle.std.proofs.ByRecursion.{All-weaker}
use Rattle.std.proofs.lemmas.List.{append_assoc, append_cancel_left, append-nil, length-append}
use Rattle.std.proofs.lemmas.Bool.{and_parts, false≢true, not_from_true, eq-eqb, and_from, leb-false, or_cases}
use Rattle.law.specs.Calls
use Rattle.law.specs.Preemption
use Rattle.terms.specs.declared.request.Request.{Request}
use Rattle.terms.specs.declared.words.State.{State}
use Rattle.terms.specs.declared.words.State.TheVariants.{Confirmed, Accepted, Offered, Competing, Challenged, Gone}
use Rattle.terms.specs.Words.{is_pending, is_confirmed}
use Rattle.sheets.specs.Rules.{Rules}
use Rattle.sheets.specs.Laws.{Possible, Lawful}
use Rattle.journal.specs.declared.line.Line.{Line}
use Rattle.journal.specs.declared.line.LineKind.{LineKind}
use Rattle.journal.specs.declared.line.LineKind.TheVariants.{Posted, Granted, Superseded, Recalled, SetAside, Lost, Kept, Extended, Ceded, Released, Flown}
use Rattle.law.specs.View.{Entry, View, aref_of, living, find, count, posted_on}
use Rattle.law.specs.Calls.{submit, step, run}
use Rattle.law.specs.Posting.{holding}
use Rattle.law.specs.Preemption.{short}
use Rattle.law.specs.Opened.{opened}
use Rattle.law.specs.Keeps.{Termed}
use Rattle.law.specs.TurnLaw.{TakenInTurn, RightlyTaken, OpenTo, Earlier, EarlierBare}
use Rattle.law.proofs.Finds.{find_aref}
use Rattle.law.proofs.AllPlaces.{all_kept, all_find}
use Rattle.law.proofs.ShrinkingShortage.{Later, later_trans, GivenUp}
use Rattle.law.proofs.WrittenLines.{Writes, writes_split}
use Rattle.law.proofs.DefendersInTurn.{all_mem, Sorted, Different, sorted_in_turn, sorted_split, in_turn_in, kept_in, find_in}
use Rattle.law.proofs.PreemptionLines.{Fact, Told, Took, Ousted, writes_grant, writes_preempt}
use Rattle.law.proofs.HoldersInPlaces.{Holding}
use Rattle.law.proofs.EveryCallKeeps.{Holds, holds, holds_stop, holds_if, holds_written, holds_map, defenders_stand, defends_lives}
use Rattle.law.proofs.KeptOverRuns.{Right, right_at, terms_at}
use Rattle.law.proofs.Terms.{living_possible, found_possible}

-- no two living records of one AREF
none_of : (a : ℕ) (es : List Entry) → count a es ≡ 0 → AllByRecursion (λ e. living e ≡ true → aref_of e ≡ a → ⊥) es
unfolding count
none_of a [] h = tt
none_of a (e ∷ es) h = ((λ l q. let z = and_from (living e) (eqb (aref_of e) a) l (eq-eqb (aref_of e) a q) in let y = rw z at h in omega arith), none_of a es (omega arith))

pub different : (p : Entry → Bool) → ((e : Entry) → p e ≡ true → living e ≡ true) → (es : List Entry) → ((a : ℕ) → count a es ≤ 1) → Different (filter p es)
unfolding count
different p l [] o = tt
different p l (e ∷ es) o = go (p e) refl (different p l es (λ a. omega (arith, o a)))
  where
    pass : (xs : List Entry) → AllByRecursion (λ x. p x ≡ true) (filter p xs)
    pass [] = tt
    pass (x ∷ xs) = put (p x) refl (pass xs)
      where
        put : (c : Bool) → p x ≡ c → AllByRecursion (λ y. p y ≡ true) (filter p xs) → AllByRecursion (λ y. p y ≡ true) (cond c (x ∷ filter p xs) (filter p xs))
        put true q h = (q, h)
        put false q h = h

    both : (P Q : Entry → Type 0) (xs : List Entry) → AllByRecursion P xs → AllByRecursion Q xs → AllByRecursion (λ x. P x × Q x) xs
    both P Q [] a b = tt
    both P Q (x ∷ xs) a b = ((a.0, b.0), both P Q xs a.1 b.1)

    go : (c : Bool) → p e ≡ c → Different (filter p es) → Different (cond c (e ∷ filter p es) (filter p es))
    go true q d =
        let z = o (aref_of e) in
        let y = rw (and_from (living e) (eqb (aref_of e) (aref_of e)) (l e q) (eq-eqb (aref_of e) (aref_of e) refl)) at z in
        let n : count (aref_of e) es ≡ 0 = omega arith in
        (All-weaker _ _ (λ x h (u : aref_of e ≡ aref_of x). h.0 (l x h.1) (sym u)) (filter p es) (both _ _ (filter p es) (all_kept _ p es (none_of (aref_of e) es n)) (pass es)), d)
    go false q d = d

module _ (R : Rules) (L : Lawful R) (p : ℕ → ℕ) (v : View) (I : Right p v) (terms : AllByRecursion (Termed v.days) v.places) (t : ℕ) (r : Request) where
  abbrev ds : List Entry
  ds = Preemption.defenders R t r v

  abbrev Q : List Line → Line → Type 0
  Q = Fact r v.lines (Preemption.defenders R t r v)

  -- the submit writes such lines alone
  writes_submit : Holds (λ ls es. (v.top < r.aref) × Writes (Fact r v.lines (Preemption.defenders R t r v)) v.lines ls) (Calls.submitted R t r v)
  writes_submit =
      let P : List Line → List Entry → Type 0 = λ ls es. (v.top < r.aref) × Writes (Fact r v.lines (Preemption.defenders R t r v)) v.lines ls in
      holds_stop P _ _ _ (λ above.
      let up : v.top < r.aref = leb-false r.aref v.top above in
      let g = writes_grant R t r v.lines (Preemption.defenders R t r v) r.start r.length v.lines I.sound.fine.solvent in
      let D = defenders_stand R v I.whole I.sound.low t r up in
      holds_stop P _ _ _ (λ _. holds_stop P _ _ _ (λ _. holds_stop P _ _ _ (λ _.
      holds_if P _ _ _ (λ _. holds P _ _ _ _ (up, g)) (λ _. holds_stop P _ _ _ (λ _.
      holds_if P _ _ _ (λ _. holds P _ _ _ _ (
        up,
        writes_preempt R t r v.lines (Preemption.defenders R t r v) r.start r.length
            (All-weaker _ _ (λ d h (q : aref_of d ≡ r.aref). h.2 (sym q)) (Preemption.defenders R t r v) D) v.lines ([], sym (append-nil v.lines)) I.sound.fine.solvent
            (All-weaker _ _ (λ d h k q. let w = subst (λ e. Holding e k) h.0 (I.whole.supp.holds (aref_of d) k q) in (w.1, w.2)) (Preemption.defenders R t r v) D),
      )) (λ _.
      holds_stop P _ _ _ (λ _. holds P _ _ _ Offered (up, g)))))))))

  -- an earlier defender stands before the giver
  before : (pre rest : List Entry) (d : Entry) → Preemption.defenders R t r v ≡ pre ++ d ∷ rest → (a : ℕ) → a ≡ aref_of d → find a v.places ≡ d → living d ≡ true →
      (e : ℕ) → OpenTo R t r v e → Earlier R v e a → Memᴰ (find e v.places) pre
  before pre rest d s a q f alive e o w = go (Memᴰ.append_cases pre (subst (λ x. Memᴰ (find e v.places) x) s m))
    where
      lv : living (find e v.places) ≡ true
      lv = defends_lives R t r v (find e v.places) o

      m : Memᴰ (find e v.places) (Preemption.defenders R t r v)
      m = in_turn_in R (find e v.places) _ (kept_in (Preemption.defends R t r v.days) (find e v.places) v.places o (find_in e v.places lv))

      sorted : Sorted R (pre ++ d ∷ rest)
      sorted = subst (Sorted R) s (sorted_in_turn R L _ (different (Preemption.defends R t r v.days) (λ x h. defends_lives R t r v x h) v.places I.whole.once)
          (living_possible v.days (Preemption.defends R t r v.days) (λ x h. defends_lives R t r v x h) v.places terms))

      pe : Possible (find e v.places).standing.request
      pe = found_possible v terms e lv

      pd : Possible d.standing.request
      pd = subst (λ x. Possible x.standing.request) f (found_possible v terms a (ap living f ∙ alive))

      not_d : find e v.places ≡ d → ⊥
      not_d u = w.0 (sym (find_aref e v.places lv) ∙ (ap aref_of u ∙ sym q))

      other : aref_of (find e v.places) ≡ aref_of d → ⊥
      other u = w.0 (sym (find_aref e v.places lv) ∙ (u ∙ sym q))

      later : Memᴰ (find e v.places) rest → ⊥
      later n =
          let x : R.gives_before d.standing (find e v.places).standing ≡ true = all_mem (λ y. R.gives_before d.standing y.standing ≡ true) rest (find e v.places) (sorted_split R pre d rest sorted) n in
          let y = L.one_first (find e v.places).standing d.standing pe pd other in
          let z : R.gives_before (find e v.places).standing d.standing ≡ true = subst (λ i. R.gives_before (find e v.places).standing i.standing ≡ true) f w.1 in
          false≢true (sym (y ∙ not_from_true _ x) ∙ z)

      go : Memᴰ (find e v.places) pre ⊎ Memᴰ (find e v.places) (d ∷ rest) → Memᴰ (find e v.places) pre
      go (inl n) = n
      go (inr n) = more (Memᴰ.cases_cons n)
        where
          more : (find e v.places ≡ d) ⊎ Memᴰ (find e v.places) rest → Memᴰ (find e v.places) pre
          more (inl u) = absurd (not_d u)
          more (inr u) = absurd (later u)

  mid : (pre rest : List Entry) (d : Entry) → Memᴰ d (pre ++ d ∷ rest)
  mid pre rest d = Memᴰ.append_right pre (Memᴰ.head refl)

  module _ (up : v.top < r.aref) (w : View) where
    stands : (pre rest : List Entry) (d : Entry) → Preemption.defenders R t r v ≡ pre ++ d ∷ rest → (find (aref_of d) v.places ≡ d) × (Preemption.defends R t r v.days d ≡ true) × (r.aref ≡ aref_of d → ⊥)
    stands pre rest d s = all_mem _ (Preemption.defenders R t r v) d (defenders_stand R v I.whole I.sound.low t r up) (subst (λ x. Memᴰ d x) (sym s) (mid pre rest d))

    -- whoever gave up what it held on a day that was short holds nothing on it afterwards
    bare : (e k : ℕ) (ms : List Line) → GivenUp r (find e v.places) ms → OpenTo R t r v e → Later r ms w.lines → 0 < short r k ms → holding w.lines e k ≡ 0
    bare e k ms g o La h =
        let a = find_aref e v.places (defends_lives R t r v (find e v.places) o) in
        let z : holding ms e k ≡ 0 = subst (λ i. holding ms i k ≡ 0) a (g k h) in
        let b : aref_of (find e v.places) ≤ v.top = all_find (λ x. aref_of x ≤ v.top) e v.places (omega arith) (All-weaker _ _ (λ x q. q.0) v.places I.sound.low) in
        let ne : e ≡ r.aref → ⊥ = λ (q : e ≡ r.aref). omega arith in
        omega (arith, La.less e k ne)

    took : (ms : List Line) (l : Line) → Took r (Preemption.defenders R t r v) ms l → Later r ms w.lines → (l.b ≡ r.aref) × OpenTo R t r v l.a × EarlierBare R t r v w l.a l.day
    took ms l T La =
        let s = stands T.pre T.rest T.giver T.split in
        let f : find l.a v.places ≡ T.giver = ap (λ i. find i v.places) T.from_giver ∙ s.0 in (
          T.for_r,
          ap (Preemption.defends R t r v.days) f ∙ s.1,
          (λ e o E.
              let m = before T.pre T.rest T.giver T.split l.a T.from_giver f (defends_lives R t r v T.giver s.1) e o E in
              bare e l.day ms (all_mem (λ x. GivenUp r x ms) T.pre (find e v.places) T.done m) o La T.is_short),
        )

    -- a defender earlier in turn than a pending one is pending
    also_pending : (d : Entry) → Possible d.standing.request → is_pending d.standing.state ≡ true → (e : ℕ) → OpenTo R t r v e → (aref_of (find e v.places) ≡ aref_of d → ⊥) → R.gives_before (find e v.places).standing d.standing ≡ true → is_pending (find e v.places).standing.state ≡ true
    also_pending d possible pd e o ne h = go (or_cases (is_pending (find e v.places).standing.state) (is_confirmed (find e v.places).standing.state) (and_parts (is_pending (find e v.places).standing.state || is_confirmed (find e v.places).standing.state) _ o).0)
      where
        confirmed_is : (s : State) → is_confirmed s ≡ true → s ≡ Confirmed
        confirmed_is Confirmed q = refl
        confirmed_is Accepted q = absurd (false≢true q)
        confirmed_is Offered q = absurd (false≢true q)
        confirmed_is Competing q = absurd (false≢true q)
        confirmed_is Challenged q = absurd (false≢true q)
        confirmed_is Gone q = absurd (false≢true q)

        go : (is_pending (find e v.places).standing.state ≡ true) ⊎ (is_confirmed (find e v.places).standing.state ≡ true) → is_pending (find e v.places).standing.state ≡ true
        go (inl q) = q
        go (inr q) =
            let pe = found_possible v terms e (defends_lives R t r v (find e v.places) o) in
            let x = L.pending_first d.standing (find e v.places).standing possible pe pd (confirmed_is _ q) in
            let y = L.one_first (find e v.places).standing d.standing pe possible ne in
            absurd (false≢true (sym (y ∙ not_from_true _ x) ∙ h))

    none_since : (a : ℕ) (ws : List Line) → AllByRecursion (λ x. x.kind ≡ Superseded → x.a ≡ a → ⊥) ws → AllByRecursion (λ x. (x.kind ≡ Superseded) × (x.a ≡ a)) ws → ws ≡ []
    none_since a [] h g = refl
    none_since a (x ∷ ws) h g = absurd (h.0 g.0.0 g.0.1)

    second : (P : Line → Type 0) (us ws : List Line) → AllByRecursion P (us ++ ws) → AllByRecursion P ws
    second P [] ws h = h
    second P (u ∷ us) ws h = second P us ws h.1

    ousted : (xs : List Line) (l : Line) → Ousted r v.lines (Preemption.defenders R t r v) (v.lines ++ xs) l → Later r (v.lines ++ xs) w.lines →
        (l.b ≡ r.aref) × OpenTo R t r v l.a × (AllByRecursion (λ x. x.kind ≡ Superseded → x.a ≡ l.a → ⊥) xs → (k : ℕ) × (0 < holding (v.lines ++ xs) l.a k) × (0 < short r k (v.lines ++ xs)) × EarlierBare R t r v w l.a k)
    ousted xs l T La =
        let s = stands T.pre T.rest T.giver T.split in
        let f : find l.a v.places ≡ T.giver = ap (λ i. find i v.places) T.from_giver ∙ s.0 in (
          T.for_r,
          ap (Preemption.defends R t r v.days) f ∙ s.1,
          (λ first.
              let e₁ : xs ≡ T.start.0 ++ T.since = append_cancel_left v.lines xs (T.start.0 ++ T.since) (T.now ∙ (ap (λ x. x ++ T.since) T.start.1 ∙ append_assoc v.lines T.start.0 T.since)) in
              let own : AllByRecursion (λ x. x.kind ≡ Superseded → x.a ≡ aref_of T.giver → ⊥) T.since = second _ T.start.0 T.since (subst (λ x. AllByRecursion (λ y. y.kind ≡ Superseded → y.a ≡ aref_of T.giver → ⊥) x) e₁ (subst (λ a. AllByRecursion (λ x. x.kind ≡ Superseded → x.a ≡ a → ⊥) xs) T.from_giver first)) in
              let nil : T.since ≡ [] = none_since (aref_of T.giver) T.since own T.own in
              let same : v.lines ++ xs ≡ T.before = T.now ∙ (ap (λ x. T.before ++ x) nil ∙ append-nil T.before) in (
                T.day',
                subst (λ x. 0 < holding x l.a T.day') (sym same) (subst (λ a. 0 < holding T.before a T.day') (sym T.from_giver) T.held_some),
                subst (λ x. 0 < short r T.day' x) (sym same) T.was_short,
                (λ e o E.
                    let m = before T.pre T.rest T.giver T.split l.a T.from_giver f (defends_lives R t r v T.giver s.1) e o E in
                    let lv = defends_lives R t r v (find e v.places) o in
                    let ne : aref_of (find e v.places) ≡ aref_of T.giver → ⊥ = λ u. E.0 (sym (find_aref e v.places lv) ∙ (u ∙ sym T.from_giver)) in
                    let pe = also_pending T.giver (subst (λ x. Possible x.standing.request) f (found_possible v terms l.a (ap living f ∙ defends_lives R t r v T.giver s.1))) T.was_pending e o ne (subst (λ i. R.gives_before (find e v.places).standing i.standing ≡ true) f E.1) in
                    bare e T.day' T.before (all_mem (λ x. is_pending x.standing.state ≡ true → GivenUp r x T.before) T.pre (find e v.places) T.done m pe) o (later_trans r T.before (v.lines ++ xs) w.lines T.left La) T.was_short),
              )),
        )

    rightly : (xs : List Line) (l : Line) (κ : LineKind) → Told r v.lines (Preemption.defenders R t r v) (v.lines ++ xs) l κ → Later r (v.lines ++ xs) w.lines → RightlyTaken R t r v w xs (v.lines ++ xs) l κ
    rightly xs l Posted T La = T
    rightly xs l Granted T La = tt
    rightly xs l Superseded T La = ousted xs l T La
    rightly xs l Recalled T La = took (v.lines ++ xs) l T La
    rightly xs l SetAside T La = took (v.lines ++ xs) l T La
    rightly xs l Lost T La = T
    rightly xs l Kept T La = T
    rightly xs l Extended T La = T
    rightly xs l Ceded T La = T
    rightly xs l Released T La = T
    rightly xs l Flown T La = T

  wrote : ((v.top < r.aref) × Writes (Fact r v.lines (Preemption.defenders R t r v)) v.lines (step R (submit t r) v).1.lines) ⊎ ((step R (submit t r) v).1.lines ≡ v.lines)
  unfolding step
  wrote =
      let P : List Line → List Entry → Type 0 = λ ls es. ((v.top < r.aref) × Writes (Fact r v.lines (Preemption.defenders R t r v)) v.lines ls) ⊎ (ls ≡ v.lines) in
      holds_written P (submit t r) v (Calls.asked R (submit t r) v) (inr refl) (holds_stop P _ _ _ (λ _. holds_stop P _ _ _ (λ _. holds_map _ P (λ ls es h. inl h) (Calls.submitted R t r v) writes_submit)))

  pub rightly_all : (xs zs : List Line) (l : Line) → (step R (submit t r) v).1.lines ≡ (v.lines ++ xs) ++ l ∷ zs → RightlyTaken R t r v (step R (submit t r) v).1 xs (v.lines ++ xs) l l.kind
  rightly_all xs zs l e = go wrote
    where
      go : ((v.top < r.aref) × Writes (Fact r v.lines (Preemption.defenders R t r v)) v.lines (step R (submit t r) v).1.lines) ⊎ ((step R (submit t r) v).1.lines ≡ v.lines) → RightlyTaken R t r v (step R (submit t r) v).1 xs (v.lines ++ xs) l l.kind
      go (inl h) =
          let w = writes_split (Fact r v.lines (Preemption.defenders R t r v)) (Later r) (later_trans r) (λ ms y f. f.0) v.lines h.1 xs zs l e in
          rightly h.0 (step R (submit t r) v).1 xs l l.kind w.0.1 w.1
      go (inr q) =
          let n = ap length (sym q ∙ e) in let a = length-append (v.lines ++ xs) (l ∷ zs) in let b = length-append v.lines xs in
          let z : ⊥ = omega arith in absurd z

pub taken_in_turn : TakenInTurn
taken_in_turn R L days places room cs t r checked xs zs l e =
    rightly_all R L (posted_on days) (run R cs (opened days places room)) (right_at R days places room cs) (terms_at R days places room cs checked) t r xs zs l e
