-- A preemption writes the lines of the closed form, on every book that checked calls lead to.
use Rattle.std.proofs.Common.{◌≡◌, ℕ, suc, ◌+◌, ◌-◌, ◌<◌, ◌≤◌, Bool, true, false, cond, ◌&&◌, ◌||◌, ltb, leb, List, [], ◌∷◌, ◌++◌, filter, sym, refl, ap, ◌∙◌, subst, arith}
use Rattle.std.specs.List.{AllByRecursion}
use Rattle.std.proofs.ByRecursion.{All-weaker}
use Rattle.std.proofs.lemmas.List.{append_assoc}
use Rattle.std.proofs.lemmas.Bool.{ne_eqb, and_parts}
use Rattle.terms.specs.declared.request.Request.{Request}
use Rattle.terms.specs.Words.{is_pending, is_confirmed}
use Rattle.sheets.specs.Rules.{Rules}
use Rattle.sheets.specs.Laws.{Possible, Lawful}
use Rattle.journal.specs.declared.line.Line.{Line}
use Rattle.journal.specs.declared.line.LineKind.TheVariants.{Granted}
use Rattle.journal.specs.Accounts.{NeverBelowZero}
use Rattle.law.specs.View.{View, Entry, aref_of, find, posted_on}
use Rattle.law.specs.Opened.{opened}
use Rattle.law.specs.Posting.{by_day, holding, free_on}
use Rattle.law.specs.Preemption.{wanted, taken, grant, supersede_all, give_all, holdings, defends, defenders, preempt, brings_challenger}
use Rattle.law.specs.Calls.{run}
use Rattle.law.specs.Keeps.{Termed}
use Rattle.law.proofs.AllPlaces.{all_in_turn}
use Rattle.law.proofs.DefendersInTurn.{Sorted, Different, sorted_in_turn}
use Rattle.law.proofs.HoldersInPlaces.{Holding}
use Rattle.law.proofs.EveryCallKeeps.{defenders_stand, defends_lives}
use Rattle.law.proofs.KeptOverRuns.{Right, right_at, terms_at}
use Rattle.law.proofs.TakenInTurn.{different}
use Rattle.law.proofs.Terms.{living_possible}
use Rattle.visits.specs.ClosedForm.{superseded_on, granted_on, lines_by_day, superseded_lines, given_lines, preemption_lines, ClosedForm}
use Rattle.visits.proofs.AllVisits.{Pending, NotPending, Faces, Visited, supersede_all_visits, grants_visit, give_all_skips, given_lines_skips, give_all_visits}
use Rattle.visits.proofs.Defenders.{Defends, different_in_turn, Split, pending_come_first}

-- nothing was ever taken for an AREF above those that the lines name
pub none_taken_yet : (n b k : ℕ) (ls : List Line) → n ≤ b → AllByRecursion (λ l. (l.a < n) × (l.b < n)) ls → taken b k ls ≡ 0
unfolding taken
none_taken_yet n b k [] up h = refl
none_taken_yet n b k (l ∷ ls) up h =
    let ne : l.b ≡ b → ⊥ = λ (q : l.b ≡ b). omega (arith, h.0.1) in
    rw (ne_eqb l.b b ne) (rest (brings_challenger l.kind) (none_taken_yet n b k ls up h.1))
  where
    rest : (c : Bool) → taken b k ls ≡ 0 → cond (c && false) l.mw 0 + taken b k ls ≡ 0
    rest true e = omega arith
    rest false e = omega arith

-- defenders of whom the pending come first, where nothing was taken for the challenger yet
module _ (R : Rules) (t : ℕ) (r : Request) (ls : List Line) (fine : NeverBelowZero ls) (none : (k : ℕ) → taken r.aref k ls ≡ 0) where
  nobody_visited : (ds : List Entry) → Visited r ls [] ds ls
  unfolding holdings
  nobody_visited ds = record {
    solvent = fine;
    met = λ k. ap (λ i. cond (leb r.start k && ltb k (r.start + r.length)) (wanted r k - (free_on ls k + i)) 0) (none k);
    keeps = all_same ds;
  }
    where
      all_same : (es : List Entry) → AllByRecursion (λ e. (k : ℕ) → holding ls (aref_of e) k ≡ holding ls (aref_of e) k) es
      all_same [] = tt
      all_same (e ∷ es) = ((λ k. refl), all_same es)

  second : (P : Entry → Type 0) (ps cs : List Entry) → AllByRecursion P (ps ++ cs) → AllByRecursion P cs
  second P [] cs h = h
  second P (p ∷ ps) cs h = second P ps cs h.1

  second_different : (ps cs : List Entry) → Different (ps ++ cs) → Different cs
  second_different [] cs h = h
  second_different (p ∷ ps) cs h = second_different ps cs h.1

  pub visits_closed : (ps cs : List Entry) → AllByRecursion Pending ps → AllByRecursion NotPending cs → Different (ps ++ cs) → AllByRecursion (Faces r ls) (ps ++ cs) →
      give_all R t r (ps ++ cs) (by_day (grant t r) r.start r.length (supersede_all t r (ps ++ cs) ls))
      ≡ ls ++ (superseded_lines t r ls [] (ps ++ cs) ++ (lines_by_day t Granted 0 r.aref (granted_on r ls (ps ++ cs)) r.start r.length ++ given_lines R t r ls [] (ps ++ cs)))
  visits_closed ps cs p n D F =
      let S = supersede_all_visits r ls t [] ps cs ls p n D F (nobody_visited (ps ++ cs)) in
      let ms = supersede_all t r (ps ++ cs) ls in
      let G = grants_visit r ls t ps cs ms (λ k. free_on ls k + superseded_on r ls [] (ps ++ cs) k) S.frees (second (Faces r ls) ps cs F) S.visited in
      let ns = by_day (grant t r) r.start r.length ms in
      let sl = superseded_lines t r ls [] (ps ++ cs) in
      let gl = lines_by_day t Granted 0 r.aref (granted_on r ls (ps ++ cs)) r.start r.length in
      let gv = given_lines R t r ls [] (ps ++ cs) in
      let e₁ : give_all R t r (ps ++ cs) ns ≡ ns ++ gv =
      give_all_skips r ls R t ps cs p ns ∙ (give_all_visits r ls R t ps cs ns n (second_different ps cs D) (second (Faces r ls) ps cs F) G.1
      ∙ ap (λ x. ns ++ x) (sym (given_lines_skips r ls R t [] ps cs p))) in
      e₁ ∙ (ap (λ x. x ++ gv) (G.0 ∙ ap (λ x. x ++ gl) S.writes) ∙ (append_assoc (ls ++ sl) gl gv ∙ append_assoc ls sl (gl ++ gv)))

-- of a book that is right
pub preempts_in_closed_form : (R : Rules) → Lawful R → (p : ℕ → ℕ) (v : View) → Right p v → AllByRecursion (Termed v.days) v.places → (t : ℕ) (r : Request) → v.top < r.aref →
    preempt R t r v ≡ v.lines ++ preemption_lines R t r v
preempts_in_closed_form R L p v I terms t r up = go (pending_come_first R L (defenders R t r v) all_defend sorted apart)
  where
    kept_apart : Different (filter (defends R t r v.days) v.places)
    kept_apart = different (defends R t r v.days) (λ x h. defends_lives R t r v x h) v.places I.whole.once

    apart : Different (defenders R t r v)
    apart = different_in_turn R (filter (defends R t r v.days) v.places) kept_apart

    possible : AllByRecursion (λ e. Possible e.standing.request) (filter (defends R t r v.days) v.places)
    possible = living_possible v.days (defends R t r v.days) (λ x h. defends_lives R t r v x h) v.places terms

    sorted : Sorted R (defenders R t r v)
    sorted = sorted_in_turn R L (filter (defends R t r v.days) v.places) kept_apart possible

    stand : AllByRecursion (λ d. (find (aref_of d) v.places ≡ d) × (defends R t r v.days d ≡ true) × (r.aref ≡ aref_of d → ⊥)) (defenders R t r v)
    stand = defenders_stand R v I.whole I.sound.low t r up

    both : (es : List Entry) → AllByRecursion (λ e. Possible e.standing.request) es → AllByRecursion (λ d. (find (aref_of d) v.places ≡ d) × (defends R t r v.days d ≡ true) × (r.aref ≡ aref_of d → ⊥)) es → AllByRecursion Defends es
    both [] a b = tt
    both (e ∷ es) a b = ((a.0, (and_parts (is_pending e.standing.state || is_confirmed e.standing.state) _ b.0.1).0), both es a.1 b.1)

    all_defend : AllByRecursion Defends (defenders R t r v)
    all_defend = both (defenders R t r v) (all_in_turn (λ e. Possible e.standing.request) R _ possible) stand

    faces : AllByRecursion (Faces r v.lines) (defenders R t r v)
    faces = All-weaker _ _ (λ d h. ((λ (q : aref_of d ≡ r.aref). h.2 (sym q)), (λ k q. let w = subst (λ e. Holding e k) h.0 (I.whole.supp.holds (aref_of d) k q) in (w.1, w.2)))) (defenders R t r v) stand

    none : (k : ℕ) → taken r.aref k v.lines ≡ 0
    none k = none_taken_yet (suc v.top) r.aref k v.lines (omega arith) I.sound.fine.names

    go : Split R L (defenders R t r v) → preempt R t r v ≡ v.lines ++ preemption_lines R t r v
    go S = subst (λ ds. give_all R t r ds (by_day (grant t r) r.start r.length (supersede_all t r ds v.lines))
        ≡ v.lines ++ (superseded_lines t r v.lines [] ds ++ (lines_by_day t Granted 0 r.aref (granted_on r v.lines ds) r.start r.length ++ given_lines R t r v.lines [] ds))) (sym S.whole)
        (visits_closed R t r v.lines I.sound.fine.solvent none S.ps S.cs S.first S.then (subst Different S.whole apart) (subst (AllByRecursion (Faces r v.lines)) S.whole faces))

pub closed_form : ClosedForm
closed_form R L days places room calls t r checked up =
    preempts_in_closed_form R L (posted_on days) (run R calls (opened days places room)) (right_at R days places room calls) (terms_at R days places room calls checked) t r up
