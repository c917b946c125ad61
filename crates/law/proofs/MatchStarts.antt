-- A match begins.
use Rattle.std.proofs.Common.{◌≡◌, ℕ, suc, ◌<◌, Bool, true, false, cond, not, ◌⊎◌, List, map, sym, refl, ap, ◌∙◌, subst, inl, inr, arith}
use Rattle.std.specs.List.{AllByRecursion}
use Rattle.std.proofs.lemmas.Bool.{and_parts, false≢true, leb-false, not-false}
use Rattle.law.specs.Calls
use Rattle.law.specs.Places
use Rattle.law.specs.Preemption
use Rattle.terms.specs.declared.request.Request.{Request}
use Rattle.terms.specs.declared.words.State.{State}
use Rattle.terms.specs.declared.words.State.TheVariants.{Confirmed, Accepted, Offered, Competing, Challenged}
use Rattle.terms.specs.Words.{is_challenged, is_gone, is_competing}
use Rattle.sheets.specs.Rules.{Rules}
use Rattle.sheets.specs.Laws.{Possible, Lawful}
use Rattle.journal.specs.declared.line.Line.{Line}
use Rattle.journal.specs.Accounts.{aside, balance}
use Rattle.law.specs.View.{Entry, View, living, find, count, posted_on}
use Rattle.law.specs.Calls.{submit, step, run}
use Rattle.law.specs.Places.{seat, some, new_record}
use Rattle.law.specs.Posting.{by_day}
use Rattle.law.specs.Opened.{opened}
use Rattle.law.specs.Keeps.{Termed}
use Rattle.law.specs.MatchLaw.{comes_back, goes_over, OneFate, OnlyOneFate}
use Rattle.law.proofs.Finds.{find-map, find_count, find-seat, find-seat_other, count_none, count_map}
use Rattle.law.proofs.AllPlaces.{all_find}
use Rattle.law.proofs.DefendersInTurn.{find_in}
use Rattle.law.proofs.LaterCallsKeep.{none_false}
use Rattle.law.proofs.SubmitKeeps.{Side⁺, some_in, whole_granted, tame_after, ch_after, g, pr}
use Rattle.law.proofs.EveryCallKeeps.{Holds, holds, holds_stop, holds_if, holds_written, some_map, supp_preempt}
use Rattle.law.proofs.KeptOverRuns.{Right, right_step, right_at, terms_at}
use Rattle.law.proofs.Terms.{found_possible, checked_possible, terms_step, days_stay}
use Rattle.law.proofs.LinesOfCalls.{pays_step}
use Rattle.law.proofs.QuietMatches.{mute, noted_none}
use Rattle.law.proofs.MatchFates.{FacingOff, Open, fate}

module _ (R : Rules) (L : Lawful R) (p : ℕ → ℕ) (v : View) (I : Right p v) (terms : AllByRecursion (Termed v.days) v.places) (t : ℕ) (r : Request) (possible : Possible r) (a day : ℕ) where
  abbrev Begins : List Line → List Entry → Type 0
  Begins ls es = (ls ≡ v.lines) ⊎ ((v.top < r.aref) × (0 < balance ls (aside a r.aref) day → FacingOff R r (R.answer_by r (find a v.places).standing t v.days) (find a es) (find r.aref es)))

  module _ (up : v.top < r.aref) (place : some (λ e. is_gone e.standing.state) v.places ≡ true) where
    new : count r.aref v.places ≡ 0
    new = count_none v.top r.aref v.places up I.sound.low

    -- a grant sets nothing aside
    granted : (s : State) → not (is_gone s) ≡ true → is_competing s ≡ false → 0 < balance (by_day (Preemption.grant t r) r.start r.length v.lines) (aside a r.aref) day → ⊥
    granted s l c h =
        let W = whole_granted R t r s v.places v.lines l place new I.whole in
        let w = (W.supp.asides a r.aref day h).1.1 in
        false≢true (sym c ∙ (sym (ap (λ e. is_competing e.standing.state) (find-seat (new_record R t r s) v.places l place new)) ∙ w))

    preempted : Places.match_open v.places ≡ false → 0 < balance (Preemption.preempt R t r v) (aside a r.aref) day →
        FacingOff R r (R.answer_by r (find a v.places).standing t v.days) (find a (seat (new_record R t r (cond (Places.match_open (map (g R t r v (Preemption.preempt R t r v)) v.places)) Competing Confirmed)) (map (g R t r v (Preemption.preempt R t r v)) v.places)))
        (find r.aref (seat (new_record R t r (cond (Places.match_open (map (g R t r v (Preemption.preempt R t r v)) v.places)) Competing Confirmed)) (map (g R t r v (Preemption.preempt R t r v)) v.places)))
    preempted closed h = go ((supp_preempt R v I.whole I.sound.low t r up).asides a r.aref day h)
      where
        ms : List Line
        ms = Preemption.preempt R t r v

        fs : List Entry
        fs = map (g R t r v (Preemption.preempt R t r v)) v.places

        go : Side⁺ (pr R t r v (Preemption.preempt R t r v)) v.places r a r.aref day →
            FacingOff R r (R.answer_by r (find a v.places).standing t v.days) (find a (seat (new_record R t r (cond (Places.match_open (map (g R t r v (Preemption.preempt R t r v)) v.places)) Competing Confirmed)) (map (g R t r v (Preemption.preempt R t r v)) v.places)))
            (find r.aref (seat (new_record R t r (cond (Places.match_open (map (g R t r v (Preemption.preempt R t r v)) v.places)) Competing Confirmed)) (map (g R t r v (Preemption.preempt R t r v)) v.places)))
        go (inl w) = absurd (false≢true (sym (all_find (λ x. is_challenged x.standing.state ≡ false) a v.places refl (none_false _ v.places closed)) ∙ w.0.1))
        go (inr w) =
            let T = tame_after R t r v (Preemption.preempt R t r v) in
            let x : Entry = new_record R t r (cond (Places.match_open (map (g R t r v (Preemption.preempt R t r v)) v.places)) Competing Confirmed) in
            let d = and_parts (Preemption.defends R t r v.days (find a v.places)) (R.may_match r (find a v.places).standing) w.2 in
            let G = ch_after R t r v (Preemption.preempt R t r v) a day h w.1 d.0 in
            let f₁ = find-map (g R t r v (Preemption.preempt R t r v)) T a v.places w.1.0 (ap living G) ∙ G in
            let na : r.aref ≡ a → ⊥ = λ (q : r.aref ≡ a). let z = find_count a v.places w.1.0 in let y = subst (λ i. count i v.places ≡ 0) q new in omega arith in
            let A = find-seat_other x a (map (g R t r v (Preemption.preempt R t r v)) v.places) na ∙ f₁ in
            let o : Places.match_open (map (g R t r v (Preemption.preempt R t r v)) v.places) ≡ true = some_in _ _ (find a (map (g R t r v (Preemption.preempt R t r v)) v.places)) (find_in a _ (ap living f₁)) (ap (λ e. is_challenged e.standing.state) f₁) in
            let none : count r.aref (map (g R t r v (Preemption.preempt R t r v)) v.places) ≡ 0 = let z = count_map (g R t r v (Preemption.preempt R t r v)) T r.aref v.places in let y = new in omega arith in
            let xl : living x ≡ true = ap (λ c. not (is_gone (cond c Competing Confirmed))) o in
            let B = find-seat x (map (g R t r v (Preemption.preempt R t r v)) v.places) xl (some_map (g R t r v (Preemption.preempt R t r v)) T v.places place) none in
            let sc = L.right_confirmed r (find a v.places).standing possible (found_possible v terms a w.1.0) d.1 in
            let fo : FacingOff R r (R.answer_by r (find a v.places).standing t v.days) (record { standing = record { request = (find a v.places).standing.request; state = Challenged; queued = (find a v.places).standing.queued }; due = R.answer_by r (find a v.places).standing t v.days; against = r.aref }) x = record {
              lives = refl;
              chal = refl;
              against = refl;
              till = refl;
              may = ap (λ st. R.may_match r (record { request = (find a v.places).standing.request; state = st; queued = (find a v.places).standing.queued })) (sym sc) ∙ d.1;
              challenger_lives = xl;
              challenger_competes = ap (λ c. is_competing (cond c Competing Confirmed)) o;
              challenger_is = refl;
            } in
            subst (λ e. FacingOff R r (R.answer_by r (find a v.places).standing t v.days) e (find r.aref (seat x (map (g R t r v (Preemption.preempt R t r v)) v.places)))) (sym A)
            (subst (λ c. FacingOff R r (R.answer_by r (find a v.places).standing t v.days) (record { standing = record { request = (find a v.places).standing.request; state = Challenged; queued = (find a v.places).standing.queued }; due = R.answer_by r (find a v.places).standing t v.days; against = r.aref }) c) (sym B) fo)

  begins_submitted : Holds Begins (Calls.submitted R t r v)
  begins_submitted =
      holds_stop Begins _ _ _ (λ above. let up : v.top < r.aref = leb-false r.aref v.top above in
      holds_stop Begins _ _ _ (λ _. holds_stop Begins _ _ _ (λ _. holds_stop Begins _ _ _ (λ full.
      let place : some (λ e. is_gone e.standing.state) v.places ≡ true = not-false _ full in
      holds_if Begins _ _ _ (λ _. holds Begins _ _ _ _ (inr (up, (λ h. absurd (granted up place (cond r.preconfirmed Confirmed Accepted) (alive r.preconfirmed) (calm r.preconfirmed) h))))) (λ _.
      holds_stop Begins _ _ _ (λ closed.
      holds_if Begins _ _ _ (λ _. holds Begins _ _ _ _ (inr (up, (λ h. preempted up place closed h)))) (λ _.
      holds_stop Begins _ _ _ (λ _. holds Begins _ _ _ Offered (inr (up, (λ h. absurd (granted up place Offered refl refl h))))))))))))
    where
      alive : (c : Bool) → not (is_gone (cond c Confirmed Accepted)) ≡ true
      alive true = refl
      alive false = refl

      calm : (c : Bool) → is_competing (cond c Confirmed Accepted) ≡ false
      calm true = refl
      calm false = refl

  begins : Begins (step R (submit t r) v).1.lines (step R (submit t r) v).1.places
  unfolding step
  begins = holds_written Begins (submit t r) v (Calls.asked R (submit t r) v) (inl refl) (holds_stop Begins _ _ _ (λ _. holds_stop Begins _ _ _ (λ _. begins_submitted)))

  pub starts : balance v.lines (aside a r.aref) day < balance (step R (submit t r) v).1.lines (aside a r.aref) day →
      Open R L r (R.answer_by r (find a v.places).standing t v.days) (λ k. balance (step R (submit t r) v).1.lines (aside a r.aref) k) a possible (step R (submit t r) v).1.lines (step R (submit t r) v).1.places
  starts h = go begins
    where
      go : Begins (step R (submit t r) v).1.lines (step R (submit t r) v).1.places → Open R L r (R.answer_by r (find a v.places).standing t v.days) (λ k. balance (step R (submit t r) v).1.lines (aside a r.aref) k) a possible (step R (submit t r) v).1.lines (step R (submit t r) v).1.places
      go (inl e) = let z = ap (λ x. balance x (aside a r.aref) day) e in let b : ⊥ = omega arith in absurd b
      go (inr w) = (
        w.1 (omega arith),
        (λ k.
            let m = mute true v.top (suc a) a r.aref v.lines (λ (q : suc a ≡ a). omega arith) (pays_step R v (suc a) (submit t r)) k in
            let up = w.0 in
            (refl, m.0 ∙ noted_none comes_back (suc v.top) a r.aref k v.lines (omega arith) I.sound.fine.names, m.1 ∙ noted_none goes_over (suc v.top) a r.aref k v.lines (omega arith) I.sound.fine.names)),
      )

pub one_fate : OneFate
one_fate R L days places room cs t r after a day checked sold checked-after h =
    let I = right_at R days places room cs in
    let v = run R cs (opened days places room) in
    let T = terms_at R days places room cs checked in
    let possible = checked_possible r sold in
    let T⁺ = subst (λ ds. AllByRecursion (Termed ds) (step R (submit t r) v).1.places) (sym (days_stay R (submit t r) v)) (terms_step R v T (submit t r) sold) in
    fate R L (posted_on days) r _ _ a possible after (step R (submit t r) v).1 (right_step R (posted_on days) v I (submit t r)) T⁺ checked-after (starts R L (posted_on days) v I T t r possible a day h)

pub only_one : OnlyOneFate
only_one s a b day ls h = ((λ x y. omega (arith, (x day).0, (y day).0)), (λ x y. omega (arith, (x day).0, (y day).0)), (λ x y. omega (arith, (x day).1, (y day).1)))
