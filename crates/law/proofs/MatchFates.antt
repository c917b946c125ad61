-- What became of a match, call by call.
use Rattle.std.proofs.Common.{◌≡◌, ℕ, suc, ◌+◌, ◌-◌, ◌*◌, ◌<◌, ◌≤◌, max, Bool, true, false, cond, not, ◌&&◌, eqb, ltb, ◌⊎◌, List, [], ◌∷◌, sym, refl, ap, ◌∙◌, subst, inl, inr, arith}
use Rattle.std.specs.List.{AllByRecursion}
use Rattle.std.proofs.ByRecursion.{All-weaker}
use Rattle.std.proofs.lemmas.Bool.{eqb-true, cases_eq, and_parts, false≢true, leb-false, cond-true, cond-false, not-false, and_cases, ltb-false}
use Rattle.law.specs.Calls
use Rattle.law.specs.Places
use Rattle.law.specs.Posting
use Rattle.law.specs.Preemption
use Rattle.terms.specs.declared.request.Request.{Request}
use Rattle.terms.specs.declared.refusal.Refusal.TheVariants.{NothingDue}
use Rattle.terms.specs.declared.words.State.{State}
use Rattle.terms.specs.declared.words.State.TheVariants.{Confirmed, Accepted, Offered, Competing, Challenged, Gone}
use Rattle.terms.specs.Words.{is_pending, is_confirmed, is_challenged, is_gone, is_competing}
use Rattle.sheets.specs.Rules.{Rules}
use Rattle.sheets.specs.Laws.{Possible, Lawful}
use Rattle.sheets.specs.Raised.{raised, with_raised_terms}
use Rattle.journal.specs.declared.line.Line.{Line}
use Rattle.journal.specs.Accounts.{aside, balance, NeverBelowZero}
use Rattle.law.specs.View.{Entry, View, aref_of, start_of, length_of, is, living, find, count}
use Rattle.law.specs.Calls.{Call, submit, confirm, withdraw, match, decline, settle, Made, makes, lose, keep, extend, makes_of, step, run, minute_of, is_due}
use Rattle.law.specs.Places.{seat, change, some, in_state, due_at, leave}
use Rattle.law.specs.Posting.{by_day}
use Rattle.law.specs.Keeps.{Termed}
use Rattle.law.specs.TurnLaw.{IsChecked, is_submit}
use Rattle.law.specs.MatchLaw.{noted, comes_back, goes_over, WhollyAside, WhollyKept, WhollyLost, CameBack, WentOver}
use Rattle.law.proofs.Finds.{all_found, find-map, find_aref, find_count, find-seat_other, count_none}
use Rattle.law.proofs.AllPlaces.{all_find, all_due}
use Rattle.law.proofs.DefendersInTurn.{find_in}
use Rattle.law.proofs.HoldersInPlaces.{tame_change, is_find, is_found, not_both, not_competing}
use Rattle.law.proofs.LaterCallsKeep.{Found, found_by, none_false, lost_zero, kept_zero}
use Rattle.law.proofs.SubmitKeeps.{some_in}
use Rattle.law.proofs.EveryCallKeeps.{Holds, holds, holds_stop, holds_if, holds_written, holds_map, holds_and, refuses, top_grows}
use Rattle.law.proofs.KeptOverRuns.{Right, right_step}
use Rattle.law.proofs.WrittenLines.{Writes}
use Rattle.law.proofs.Terms.{found_possible, terms_step, days_stay}
use Rattle.law.proofs.LinesOfCalls.{Sane, subject, pays_made, pays_step}
use Rattle.law.proofs.QuietMatches.{quiet, lost_tally, kept_tally, extend_tally}

find_other : (x : ℕ) (f : Entry → Entry) → ((e : Entry) → is x e ≡ true → aref_of (f e) ≡ x) → (es : List Entry) (c : ℕ) → living (find c es) ≡ true → (x ≡ c → ⊥) → find c (change x f es) ≡ find c es
find_other x f named es c l ne =
    let q = cond-false (is x (find c es)) (f (find c es)) (find c es) (is_find x c es l ne) in
    find-map (λ e. cond (is x e) (f e) e) (tame_change x f named) c es l (ap living q ∙ l) ∙ q

find_same : (x : ℕ) (f : Entry → Entry) → ((e : Entry) → is x e ≡ true → aref_of (f e) ≡ x) → (es : List Entry) → living (find x es) ≡ true → living (f (find x es)) ≡ true → find x (change x f es) ≡ f (find x es)
find_same x f named es l m =
    let q = cond-true (is x (find x es)) (f (find x es)) (find x es) (is_found x es l) in
    find-map (λ e. cond (is x e) (f e) e) (tame_change x f named) x es l (ap living q ∙ m) ∙ q

-- e is challenged by the request r, whose record is c
pub record FacingOff (R : Rules) (r : Request) (last : ℕ) (e c : Entry) : Type 0 where
  pub lives : living e ≡ true
  pub chal : is_challenged e.standing.state ≡ true
  pub against : e.against ≡ r.aref
  pub till : e.due ≡ last
  pub may : R.may_match r (in_state Confirmed e).standing ≡ true
  pub challenger_lives : living c ≡ true
  pub challenger_competes : is_competing c.standing.state ≡ true
  pub challenger_is : c.standing.request ≡ r

named_close : (R : Rules) (t b : ℕ) (ls : List Line) (e : Entry) → is b e ≡ true → aref_of (Calls.close R t ls e) ≡ b
named_close R t b ls e q = go (is_pending (Calls.closed_state ls e)) ∙ eqb-true (aref_of e) b (and_parts (living e) (eqb (aref_of e) b) q).1
  where
    go : (c : Bool) → aref_of (cond c (due_at (t + R.confirm_time (in_state (Calls.closed_state ls e) e).standing) (in_state (Calls.closed_state ls e) e)) (due_at (Places.over_at e) (in_state (Calls.closed_state ls e) e))) ≡ aref_of e
    go true = refl
    go false = refl

named_same : (x : ℕ) (e : Entry) → is x e ≡ true → aref_of e ≡ x
named_same x e q = eqb-true (aref_of e) x (and_parts (living e) (eqb (aref_of e) x) q).1

module _ (R : Rules) (L : Lawful R) (r : Request) (last : ℕ) (s : ℕ → ℕ) (a : ℕ) (possible : Possible r) where
  abbrev b : ℕ
  b = r.aref

  abbrev Still : List Entry → Type 0
  Still es = FacingOff R r last (find a es) (find r.aref es)

  abbrev pub Open : List Line → List Entry → Type 0
  Open ls es = FacingOff R r last (find a es) (find r.aref es) × WhollyAside s a r.aref ls

  still_same : (es fs : List Entry) → find a fs ≡ find a es → find r.aref fs ≡ find r.aref es → Still es → Still fs
  still_same es fs p q h = subst (λ x. FacingOff R r last x (find r.aref fs)) (sym p) (subst (λ y. FacingOff R r last (find a es) y) (sym q) h)

  module _ (p : ℕ → ℕ) (v : View) (I : Right p v) (terms : AllByRecursion (Termed v.days) v.places) (O : Open v.lines v.places) where
    abbrev es : List Entry
    es = v.places

    F : FacingOff R r last (find a v.places) (find r.aref v.places)
    F = O.0

    -- the match is open
    open_now : (fs : List Entry) → find a fs ≡ find a v.places → Places.match_open fs ≡ true
    open_now fs q = some_in _ fs (find a fs) (find_in a fs (ap living q ∙ F.lives)) (ap (λ e. is_challenged e.standing.state) q ∙ F.chal)

    -- a record that is pending or confirmed is neither of the two
    neither : (x : ℕ) → (is_pending (find x v.places).standing.state ≡ true) ⊎ (is_confirmed (find x v.places).standing.state ≡ true) → (x ≡ a → ⊥) × (x ≡ r.aref → ⊥)
    neither x h =
        let n = not_both (find x v.places).standing.state h in
        ((λ q. false≢true (sym n.0 ∙ (ap (λ y. is_challenged (find y v.places).standing.state) q ∙ F.chal))), (λ q. false≢true (sym n.1 ∙ (ap (λ y. is_competing (find y v.places).standing.state) q ∙ F.challenger_competes))))

    still_change : (x : ℕ) (f : Entry → Entry) → ((e : Entry) → is x e ≡ true → aref_of (f e) ≡ x) → (x ≡ a → ⊥) → (x ≡ r.aref → ⊥) → Still (change x f v.places)
    still_change x f named na nb = still_same v.places (change x f v.places) (find_other x f named v.places a F.lives na) (find_other x f named v.places r.aref F.challenger_lives nb) F

    -- what a call may make of it: nothing, its return, its loss
    abbrev pub After : ℕ → ℕ → List Line → List Entry → Type 0
    After t x ls fs = (Still fs × (x ≡ a → ⊥)) ⊎ ((WhollyKept s a r.aref ls × (t ≤ last) × (R.outranks r (find a fs).standing ≡ false)) ⊎ WhollyLost s a r.aref ls)

    -- of another record x, challenged too: the challenger does not close
    after_other : (t x : ℕ) (f : Entry → Entry) (ls : List Line) (y : ℕ) → ((e : Entry) → is x e ≡ true → aref_of (f e) ≡ x) → (x ≡ a → ⊥) → (x ≡ r.aref → ⊥) → Still (Calls.close_if_last R t ls y (change x f v.places))
    after_other t x f ls y named na nb =
        subst Still (sym (cond-true (Places.match_open (change x f v.places)) (change x f v.places) _ (open_now (change x f v.places) (find_other x f named v.places a F.lives na)))) (still_change x f named na nb)

    not_b : (e : Entry) → Found v.places e → is_challenged e.standing.state ≡ true → aref_of e ≡ r.aref → ⊥
    not_b e E c q = false≢true (sym (not_competing e.standing.state c) ∙ (sym (ap (λ x. is_competing x.standing.state) E.1) ∙ (ap (λ y. is_competing (find y v.places).standing.state) q ∙ F.challenger_competes)))

    after_declined : (t : ℕ) (e : Entry) → Found v.places e → is_challenged e.standing.state ≡ true → Holds (After t (aref_of e)) (Calls.declined R t e v)
    after_declined t e E c = holds (After t (aref_of e)) _ _ _ _ (go (cases_eq (aref_of e) a))
      where
        ls' : List Line
        ls' = by_day (lose t (aref_of e) e.against) (start_of e) (length_of e) v.lines

        go : (aref_of e ≡ a) ⊎ (aref_of e ≡ a → ⊥) → After t (aref_of e) (by_day (lose t (aref_of e) e.against) (start_of e) (length_of e) v.lines) (Calls.close_if_last R t (by_day (lose t (aref_of e) e.against) (start_of e) (length_of e) v.lines) e.against (change (aref_of e) (λ d. due_at (Places.over_at d) (in_state (cond (Preemption.empty (by_day (lose t (aref_of e) e.against) (start_of e) (length_of e) v.lines) e) Gone Confirmed) d)) v.places))
        go (inr ne) = inl (after_other t (aref_of e) _ _ e.against (named_same (aref_of e)) ne (not_b e E c), ne)
        go (inl q) =
            let f : e.against ≡ r.aref = ap (λ x. x.against) (sym E.1 ∙ ap (λ y. find y v.places) q) ∙ F.against in
            let O' : WhollyAside s (aref_of e) e.against v.lines = subst (λ y. WhollyAside s y e.against v.lines) (sym q) (subst (λ y. WhollyAside s a y v.lines) (sym f) O.1) in
            let T = lost_tally t (aref_of e) e.against v.lines I.sound.fine.solvent (start_of e) (length_of e) in
            let Z = lost_zero R t v.places v.lines I.whole e E c in
            let W : WhollyLost s (aref_of e) e.against (by_day (lose t (aref_of e) e.against) (start_of e) (length_of e) v.lines) = λ k. (Z k, omega (arith, (T.1 k).1, (O' k).1), omega (arith, (T.1 k).0, Z k, (O' k).0, (O' k).2)) in
            inr (inr (subst (λ y. WhollyLost s y r.aref (by_day (lose t (aref_of e) e.against) (start_of e) (length_of e) v.lines)) q (subst (λ y. WhollyLost s (aref_of e) y (by_day (lose t (aref_of e) e.against) (start_of e) (length_of e) v.lines)) f W)))

    not_due : (t : ℕ) → some (is_due t) v.places ≡ false → t ≤ last
    not_due t h = go (find a v.places).standing.state refl
      where
        x : is_due t (find a v.places) ≡ false
        x = all_find (λ e. is_due t e ≡ false) a v.places refl (none_false (is_due t) v.places h)

        waiting : (st : State) → is_challenged st ≡ true → Calls.falls_due st ≡ true
        waiting Confirmed q = refl
        waiting Accepted q = refl
        waiting Offered q = refl
        waiting Competing q = absurd (false≢true q)
        waiting Challenged q = refl
        waiting Gone q = absurd (false≢true q)

        go : (st : State) → (find a v.places).standing.state ≡ st → t ≤ last
        go st q = split (and_cases (Calls.falls_due (find a v.places).standing.state) (ltb (find a v.places).due t) x)
          where
            split : (Calls.falls_due (find a v.places).standing.state ≡ false) ⊎ (ltb (find a v.places).due t ≡ false) → t ≤ last
            split (inl y) = absurd (false≢true (sym y ∙ waiting (find a v.places).standing.state F.chal))
            split (inr y) = let z = ltb-false (find a v.places).due t y in omega (arith, z, F.till)

    after_matched : (t : ℕ) (e : Entry) → Found v.places e → is_challenged e.standing.state ≡ true → some (is_due t) v.places ≡ false → Holds (After t (aref_of e)) (Calls.matched R t e v)
    after_matched t e E c nd = holds_stop (After t (aref_of e)) _ _ _ (λ _. holds (After t (aref_of e)) _ _ _ Confirmed (go (cases_eq (aref_of e) a)))
      where
        y : ℕ
        y = Posting.largest (λ k. balance v.lines (aside (aref_of e) e.against) k) (start_of e) (length_of e)

        cr : Request
        cr = (find e.against v.places).standing.request

        ls₁ : List Line
        ls₁ = by_day (keep t (aref_of e) e.against) (start_of e) (length_of e) v.lines

        ls₂ : List Line
        ls₂ = by_day (extend t y (aref_of e) e.against) (start_of e + length_of e) (max (length_of e) cr.length - length_of e) ls₁

        tall : Entry → Entry
        tall d = record { standing = record { request = raised cr e.standing.request; state = Confirmed; queued = d.standing.queued }; due = 1440 * (start_of e + max (length_of e) cr.length); against = 0 }

        go : (aref_of e ≡ a) ⊎ (aref_of e ≡ a → ⊥) → After t (aref_of e) ls₂ (Calls.close_if_last R t ls₂ e.against (change (aref_of e) tall v.places))
        go (inr ne) = inl (after_other t (aref_of e) tall ls₂ e.against (λ d q. refl) ne (not_b e E c), ne)
        go (inl q) = inr (inl (subst (λ i. WhollyKept s i r.aref ls₂) q (subst (λ i. WhollyKept s (aref_of e) i ls₂) f W), not_due t nd, out))
          where
            e_is : find a v.places ≡ e
            e_is = ap (λ i. find i v.places) (sym q) ∙ E.1

            f : e.against ≡ r.aref
            f = ap (λ x. x.against) (sym e_is) ∙ F.against

            O' : WhollyAside s (aref_of e) e.against v.lines
            O' = subst (λ i. WhollyAside s i e.against v.lines) (sym q) (subst (λ i. WhollyAside s a i v.lines) (sym f) O.1)

            T : NeverBelowZero ls₁ × ((k : ℕ) → (noted comes_back (aref_of e) e.against k ls₁ + balance ls₁ (aside (aref_of e) e.against) k ≡ noted comes_back (aref_of e) e.against k v.lines + balance v.lines (aside (aref_of e) e.against) k) × (noted goes_over (aref_of e) e.against k ls₁ ≡ noted goes_over (aref_of e) e.against k v.lines))
            T = kept_tally t (aref_of e) e.against v.lines I.sound.fine.solvent (start_of e) (length_of e)

            W : WhollyKept s (aref_of e) e.against ls₂
            W k =
                let Z = kept_zero R t v.places v.lines I.whole e E c k in
                let X = extend_tally t (aref_of e) e.against ls₁ T.0 y (aref_of e) e.against (start_of e + length_of e) (max (length_of e) cr.length - length_of e) k in
                (omega (arith, X.0, Z), omega (arith, X.1, (T.1 k).0, Z, (O' k).0, (O' k).1), omega (arith, X.2, (T.1 k).1, (O' k).2))

            cr_is : cr ≡ r
            cr_is = ap (λ i. (find i v.places).standing.request) f ∙ F.challenger_is

            el : living (find (aref_of e) v.places) ≡ true
            el = ap living E.1 ∙ E.0

            found₁ : find (aref_of e) (change (aref_of e) tall v.places) ≡ tall (find (aref_of e) v.places)
            found₁ = find_same (aref_of e) tall (λ d u. refl) v.places el refl

            found₂ : find (aref_of e) (Calls.close_if_last R t ls₂ e.against (change (aref_of e) tall v.places)) ≡ tall (find (aref_of e) v.places)
            found₂ = pick (Places.match_open (change (aref_of e) tall v.places))
              where
                pick : (d : Bool) → find (aref_of e) (cond d (change (aref_of e) tall v.places) (change e.against (Calls.close R t ls₂) (change (aref_of e) tall v.places))) ≡ tall (find (aref_of e) v.places)
                pick true = found₁
                pick false = find_other e.against (Calls.close R t ls₂) (named_close R t e.against ls₂) (change (aref_of e) tall v.places) (aref_of e) (ap living found₁) (λ u. not_b e E c (sym u ∙ f)) ∙ found₁

            who_is : (tall (find (aref_of e) v.places)).standing ≡ with_raised_terms r (in_state Confirmed e).standing
            who_is = ap (λ d. record { request = raised cr e.standing.request; state = Confirmed; queued = d.standing.queued }) E.1 ∙ ap (λ x. with_raised_terms x (in_state Confirmed e).standing) cr_is

            out : R.outranks r (find a (Calls.close_if_last R t ls₂ e.against (change (aref_of e) tall v.places))).standing ≡ false
            out = ap (λ i. R.outranks r (find i (Calls.close_if_last R t ls₂ e.against (change (aref_of e) tall v.places))).standing) (sym q)
                ∙ (ap (λ d. R.outranks r d.standing) found₂ ∙ (ap (R.outranks r) who_is ∙ L.raised_stands r (in_state Confirmed e).standing possible (subst (λ d. Possible d.standing.request) E.1 (found_possible v terms (aref_of e) (ap living E.1 ∙ E.0))) (subst (λ d. R.may_match r (in_state Confirmed d).standing ≡ true) e_is F.may)))

    after_submitted : (t d : ℕ) (q : Request) → (d ≡ a → ⊥) → Holds (After t d) (Calls.submitted R t q v)
    after_submitted t d q nd =
        holds_stop (After t d) _ _ _ (λ above. let up : v.top < q.aref = leb-false q.aref v.top above in
        holds_stop (After t d) _ _ _ (λ _. holds_stop (After t d) _ _ _ (λ _. holds_stop (After t d) _ _ _ (λ _.
        holds_if (After t d) _ _ _ (λ _. holds (After t d) _ _ _ _ (seats (cond q.preconfirmed Confirmed Accepted) up)) (λ _.
        holds_stop (After t d) _ _ _ (λ closed. absurd (false≢true (sym closed ∙ open_now v.places refl))))))))
      where
        low : (c : ℕ) → living (find c v.places) ≡ true → v.top < q.aref → q.aref ≡ c → ⊥
        low c l up e = let z = count_none v.top q.aref v.places up I.sound.low in let y = find_count c v.places l in let w = subst (λ i. count i v.places ≡ 0) e z in omega arith

        seats : (st : State) → v.top < q.aref → (Still (seat (Places.new_record R t q st) v.places) × (d ≡ a → ⊥)) ⊎ ((WhollyKept s a r.aref (by_day (Preemption.grant t q) q.start q.length v.lines) × (t ≤ last) × (R.outranks r (find a (seat (Places.new_record R t q st) v.places)).standing ≡ false)) ⊎ WhollyLost s a r.aref (by_day (Preemption.grant t q) q.start q.length v.lines))
        seats st up = inl (still_same v.places _ (find-seat_other (Places.new_record R t q st) a v.places (low a F.lives up)) (find-seat_other (Places.new_record R t q st) r.aref v.places (low r.aref F.challenger_lives up)) F, nd)

    after_by : (t x : ℕ) (g : State → Bool) (c : ℕ) (f : Entry → Made) → (living (find c v.places) ≡ true → g (find c v.places).standing.state ≡ true → Holds (After t x) (f (find c v.places))) → Holds (After t x) (Calls.by_aref g c v f)
    after_by t x g c f h = holds_stop (After t x) _ _ _ (λ u. holds_stop (After t x) _ _ _ (λ w. h (ap not u) (not-false _ w)))

    after_leaves : (t d : ℕ) (e : Entry) (ls : List Line) → Found v.places e → (is_pending e.standing.state ≡ true) ⊎ (is_confirmed e.standing.state ≡ true) → (d ≡ a → ⊥) ⊎ (d ≡ aref_of e) → After t d ls (change (aref_of e) leave v.places)
    after_leaves t d e ls E h nd =
        let n = neither (aref_of e) (subst (λ y. (is_pending y.standing.state ≡ true) ⊎ (is_confirmed y.standing.state ≡ true)) (sym E.1) h) in
        inl (still_change (aref_of e) leave (named_same (aref_of e)) n.0 n.1, pick nd n.0)
      where
        pick : (d ≡ a → ⊥) ⊎ (d ≡ aref_of e) → (aref_of e ≡ a → ⊥) → d ≡ a → ⊥
        pick (inl x) y z = x z
        pick (inr x) y z = y (sym x ∙ z)

    after_settles : (t : ℕ) (e : Entry) (st : State) → e.standing.state ≡ st → (living e ≡ true → find (aref_of e) v.places ≡ e) → Holds (After t (aref_of e)) (Calls.settles R t e v st)
    after_settles t e Confirmed q h = let l : living e ≡ true = ap (λ x. not (is_gone x)) q in holds (After t (aref_of e)) _ _ _ _ (after_leaves t (aref_of e) e _ (l, h l) (inr (ap is_confirmed q)) (inr refl))
    after_settles t e Accepted q h = let l : living e ≡ true = ap (λ x. not (is_gone x)) q in holds (After t (aref_of e)) _ _ _ _ (after_leaves t (aref_of e) e _ (l, h l) (inl (ap is_pending q)) (inr refl))
    after_settles t e Offered q h = let l : living e ≡ true = ap (λ x. not (is_gone x)) q in holds (After t (aref_of e)) _ _ _ _ (after_leaves t (aref_of e) e _ (l, h l) (inl (ap is_pending q)) (inr refl))
    after_settles t e Competing q h = refuses (After t (aref_of e)) NothingDue
    after_settles t e Challenged q h = let l : living e ≡ true = ap (λ x. not (is_gone x)) q in after_declined t e (l, h l) (ap is_challenged q)
    after_settles t e Gone q h = refuses (After t (aref_of e)) NothingDue

    suc_not : suc a ≡ a → ⊥
    suc_not e = omega arith

    after_made : (c : Call) → (not (Calls.is_settle c) && some (is_due (minute_of c)) v.places) ≡ false → Holds (After (minute_of c) (subject (suc a) c v)) (makes_of R c v)
    after_made (submit t q) nd = after_submitted t (suc a) q suc_not
    after_made (confirm t c) nd = after_by t (suc a) is_pending c (λ e. makes v.lines (change c Places.stand_confirmed v.places) c Confirmed)
        (λ l p. let n = neither c (inl p) in holds (After t (suc a)) _ _ c Confirmed (inl (still_change c Places.stand_confirmed (named_same c) n.0 n.1, suc_not)))
    after_made (withdraw t c) nd = after_by t (suc a) is_pending c (λ e. Calls.let_go t e v) (λ l p. holds (After t (suc a)) _ _ _ Gone (after_leaves t (suc a) (find c v.places) _ (found_by c v.places l) (inl p) (inl suc_not)))
    after_made (match t c) nd = after_by t (aref_of (find c v.places)) is_challenged c (λ e. Calls.matched R t e v) (λ l h. after_matched t (find c v.places) (found_by c v.places l) h nd)
    after_made (decline t c) nd = after_by t (aref_of (find c v.places)) is_challenged c (λ e. Calls.declined R t e v) (λ l h. after_declined t (find c v.places) (found_by c v.places l) h)
    after_made (settle t) nd = after_settles t (Calls.first_due t v.places) _ refl (all_due (λ e. living e ≡ true → find (aref_of e) v.places ≡ e) t v.places (λ l. absurd (false≢true l)) (all_found v.places I.whole.once))

    known : r.aref ≤ v.top
    known = let y = find_aref r.aref v.places F.challenger_lives in
        let z : aref_of (find r.aref v.places) ≤ v.top = all_find (λ x. aref_of x ≤ v.top) r.aref v.places (omega arith) (All-weaker _ _ (λ x q. q.0) v.places I.sound.low) in omega arith

    abbrev pub Next : Call → List Line → List Entry → Type 0
    Next c ls fs = Open ls fs ⊎ ((WhollyKept s a r.aref ls × (minute_of c ≤ last) × (R.outranks r (find a fs).standing ≡ false)) ⊎ WhollyLost s a r.aref ls)

    pub next_step : (c : Call) → Next c (step R c v).1.lines (step R c v).1.places
    unfolding step
    next_step c = holds_written (Next c) c v (Calls.asked R c v) (inl O)
        (holds_stop (Next c) _ _ _ (λ _. holds_stop (Next c) _ _ _ (λ nd. holds_map _ (Next c) join (makes_of R c v) (holds_and _ _ (makes_of R c v) (after_made c nd) (pays_made R v (suc a) c)))))
      where
        join : (ls : List Line) (fs : List Entry) → After (minute_of c) (subject (suc a) c v) ls fs × Writes (Sane (is_submit c) v.top (subject (suc a) c v)) v.lines ls → Next c ls fs
        join ls fs h = go h.0
          where
            go : After (minute_of c) (subject (suc a) c v) ls fs → Next c ls fs
            go (inl x) =
                let A = quiet (is_submit c) v.top (subject (suc a) c v) a r.aref known v.lines I.sound.fine.solvent (inl x.1) h.1 in
                inl (x.0, (λ k. ((A.1 k).0 ∙ (O.1 k).0, (A.1 k).1 ∙ (O.1 k).1, (A.1 k).2 ∙ (O.1 k).2)))
            go (inr x) = inr x

module _ (R : Rules) (L : Lawful R) where
  -- what is closed stays closed
  closed_run : (p : ℕ → ℕ) (a b : ℕ) (K N : ℕ → ℕ) (cs : List Call) (v : View) → Right p v → b ≤ v.top →
      ((k : ℕ) → (balance v.lines (aside a b) k ≡ 0) × (noted comes_back a b k v.lines ≡ K k) × (noted goes_over a b k v.lines ≡ N k)) →
      (k : ℕ) → (balance (run R cs v).lines (aside a b) k ≡ 0) × (noted comes_back a b k (run R cs v).lines ≡ K k) × (noted goes_over a b k (run R cs v).lines ≡ N k)
  unfolding run
  closed_run p a b K N [] v I h z = z
  closed_run p a b K N (c ∷ cs) v I h z =
      let A = quiet (is_submit c) v.top (subject 0 c v) a b h v.lines I.sound.fine.solvent (inr (λ k. (z k).0)) (pays_step R v 0 c) in
      let g = top_grows R v I.whole I.sound.low c in
      closed_run p a b K N cs (step R c v).1 (right_step R p v I c) (omega arith) (λ k. ((A.1 k).0 ∙ (z k).0, (A.1 k).1 ∙ (z k).1, (A.1 k).2 ∙ (z k).2))

  pub fate : (p : ℕ → ℕ) (r : Request) (last : ℕ) (s : ℕ → ℕ) (a : ℕ) (possible : Possible r) (cs : List Call) (v : View) → Right p v → AllByRecursion (Termed v.days) v.places → AllByRecursion IsChecked cs → Open R L r last s a possible v.lines v.places →
      WhollyAside s a r.aref (run R cs v).lines ⊎ (CameBack R r last s a v cs ⊎ WentOver R r s a v cs)
  unfolding run
  fate p r last s a possible [] v I T C O = inl O.1
  fate p r last s a possible (c ∷ cs) v I T C O =
      go (λ (O' : Open R L r last s a possible (step R c v).1.lines (step R c v).1.places). fate p r last s a possible cs (step R c v).1 (right_step R p v I c) (subst (λ days. AllByRecursion (Termed days) (step R c v).1.places) (sym (days_stay R c v)) (terms_step R v T c C.0)) C.1 O') (next_step R L r last s a possible p v I T O c)
    where
      top : r.aref ≤ (step R c v).1.top
      top = let g = top_grows R v I.whole I.sound.low c in let h = known R L r last s a possible p v I T O in omega arith

      further : WhollyAside s a r.aref (run R cs (step R c v).1).lines ⊎ (CameBack R r last s a (step R c v).1 cs ⊎ WentOver R r s a (step R c v).1 cs) → WhollyAside s a r.aref (run R cs (step R c v).1).lines ⊎ (CameBack R r last s a v (c ∷ cs) ⊎ WentOver R r s a v (c ∷ cs))
      further (inl h) = inl h
      further (inr (inl h)) = inr (inl (record { early = c ∷ h.early; call = h.call; late = h.late; split = ap (λ x. c ∷ x) h.split; until = h.until; returned = h.returned; in_time = h.in_time; stands = h.stands; ever_after = h.ever_after }))
      further (inr (inr h)) = inr (inr (record { early = c ∷ h.early; call = h.call; late = h.late; split = ap (λ x. c ∷ x) h.split; until = h.until; went = h.went; ever_after = h.ever_after }))

      go : (Open R L r last s a possible (step R c v).1.lines (step R c v).1.places → WhollyAside s a r.aref (run R cs (step R c v).1).lines ⊎ (CameBack R r last s a (step R c v).1 cs ⊎ WentOver R r s a (step R c v).1 cs)) →
          Open R L r last s a possible (step R c v).1.lines (step R c v).1.places ⊎ ((WhollyKept s a r.aref (step R c v).1.lines × (minute_of c ≤ last) × (R.outranks r (find a (step R c v).1.places).standing ≡ false)) ⊎ WhollyLost s a r.aref (step R c v).1.lines) →
          WhollyAside s a r.aref (run R cs (step R c v).1).lines ⊎ (CameBack R r last s a v (c ∷ cs) ⊎ WentOver R r s a v (c ∷ cs))
      go ih (inl h) = further (ih h)
      go ih (inr (inl h)) = inr (inl (record {
        early = [];
        call = c;
        late = cs;
        split = refl;
        until = O.1;
        returned = h.0;
        in_time = h.1;
        stands = h.2;
        ever_after = closed_run p a r.aref s (λ k. 0) cs (step R c v).1 (right_step R p v I c) top h.0;
      }))
      go ih (inr (inr h)) = inr (inr (record {
        early = [];
        call = c;
        late = cs;
        split = refl;
        until = O.1;
        went = h;
        ever_after = closed_run p a r.aref (λ k. 0) s cs (step R c v).1 (right_step R p v I c) top h;
      }))
