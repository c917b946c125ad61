-- All visits: the pending defenders in turn, the grants by day and the confirmed defenders in turn write the lines of the
-- closed form.
use Rattle.std.proofs.Common.{◌≡◌, ℕ, ◌+◌, ◌-◌, ◌<◌, ◌≤◌, min, true, false, cond, not, ◌&&◌, ◌||◌, eqb, ◌⊎◌, List, [], ◌∷◌, ◌++◌, sym, refl, ap, ◌∙◌, subst, inl, inr, arith}
use Rattle.std.specs.List.{AllByRecursion}
use Rattle.std.proofs.lemmas.List.{append_assoc, append-nil}
use Rattle.std.proofs.lemmas.Bool.{ne_eqb}
use Rattle.terms.specs.declared.request.Request.{Request}
use Rattle.terms.specs.Words.{is_pending}
use Rattle.sheets.specs.Rules.{Rules}
use Rattle.journal.specs.declared.line.Line.{Line}
use Rattle.journal.specs.declared.line.LineKind.TheVariants.{Granted, Superseded}
use Rattle.journal.specs.Accounts.{free, held, NeverBelowZero}
use Rattle.law.specs.View.{Entry, aref_of, start_of, length_of}
use Rattle.law.specs.Posting.{by_day, holding, free_on}
use Rattle.law.specs.Preemption.{wanted, short, meets_shortage, supersede, give, grant, supersede_all, give_all}
use Rattle.law.proofs.ShrinkingShortage.{InTerm}
use Rattle.law.proofs.DefendersInTurn.{Different}
use Rattle.visits.specs.ClosedForm.{shortage_met, is_needed, is_superseded, superseded_on, lines_by_day, superseded_lines, given_lines}
use Rattle.visits.proofs.DayPostings.{Moved, days_move}
use Rattle.visits.proofs.OneVisit.{each_day_same, term_cases, shortage_met_push, as_short, short_stands, Effect, supersede_visit, give_visit}

abbrev pub Pending : Entry → Type 0
Pending e = is_pending e.standing.state ≡ true

abbrev pub NotPending : Entry → Type 0
NotPending e = is_pending e.standing.state ≡ false

module _ (r : Request) (ls : List Line) where
  -- a defender has another AREF than the challenger and held MW in its term alone
  abbrev pub Faces : Entry → Type 0
  Faces e = (aref_of e ≡ r.aref → ⊥) × InTerm r e ls

  -- after visits of the earlier: each day is short by the shortage that the next meets, and the rest hold what they held
  pub record Visited (earlier rest : List Entry) (ms : List Line) : Type 0 where
    pub solvent : NeverBelowZero ms
    pub met : (k : ℕ) → short r k ms ≡ shortage_met r ls earlier k
    pub keeps : AllByRecursion (λ e. (k : ℕ) → holding ms (aref_of e) k ≡ holding ls (aref_of e) k) rest

  keeps_next : (d : Entry) (ms ns : List Line) → Effect r ls d ms ns → (rest : List Entry) → AllByRecursion (λ e. aref_of d ≡ aref_of e → ⊥) rest → AllByRecursion Faces rest →
      AllByRecursion (λ e. (k : ℕ) → holding ms (aref_of e) k ≡ holding ls (aref_of e) k) rest → AllByRecursion (λ e. (k : ℕ) → holding ns (aref_of e) k ≡ holding ls (aref_of e) k) rest
  keeps_next d ms ns E [] o f h = tt
  keeps_next d ms ns E (e ∷ rest) o f h = ((λ k. E.others (aref_of e) k (λ q. o.0 (sym q)) f.0.0 ∙ h.0 k), keeps_next d ms ns E rest o.1 f.1 h.1)

  pub visited_next : (earlier : List Entry) (d : Entry) (rest : List Entry) (ms ns : List Line) → Visited earlier (d ∷ rest) ms → Effect r ls d ms ns →
      AllByRecursion (λ e. aref_of d ≡ aref_of e → ⊥) rest → AllByRecursion Faces rest → Visited (earlier ++ d ∷ []) rest ns
  visited_next earlier d rest ms ns V E o f = record {
    solvent = E.solvent;
    met = λ k. E.less_short k ∙ (ap (λ i. i - holding ls (aref_of d) k) (V.met k) ∙ sym (shortage_met_push r ls earlier d k));
    keeps = keeps_next d ms ns E rest o f V.keeps.1;
  }

  -- whether a pending defender is superseded can be told from the lines before the submit
  superseded_told : (earlier : List Entry) (d : Entry) (rest : List Entry) (ms : List Line) → Visited earlier (d ∷ rest) ms → Pending d → meets_shortage r d ms ≡ is_superseded r ls earlier d
  superseded_told earlier d rest ms V p = ap not (each_day_same _ _ same (start_of d) (length_of d)) ∙ sym (ap (λ c. c && is_needed r ls earlier d) p)
    where
      same : (k : ℕ) → (eqb (holding ms (aref_of d) k) 0 || eqb (short r k ms) 0) ≡ (eqb (holding ls (aref_of d) k) 0 || eqb (shortage_met r ls earlier k) 0)
      same k = ap (λ i. eqb i 0 || eqb (short r k ms) 0) (V.keeps.0 k) ∙ ap (λ i. eqb (holding ls (aref_of d) k) 0 || eqb i 0) (V.met k)

  -- no confirmed defender is superseded
  supersede_all_none : (t : ℕ) (cs : List Entry) → AllByRecursion NotPending cs → (ms : List Line) → supersede_all t r cs ms ≡ ms
  unfolding supersede_all
  supersede_all_none t [] h ms = refl
  supersede_all_none t (d ∷ cs) h ms = rw h.0 (supersede_all_none t cs h.1 ms)

  superseded_lines_none : (t : ℕ) (earlier cs : List Entry) → AllByRecursion NotPending cs → superseded_lines t r ls earlier cs ≡ []
  unfolding superseded_lines
  superseded_lines_none t earlier [] h = refl
  superseded_lines_none t earlier (d ∷ cs) h = rw h.0 (superseded_lines_none t (earlier ++ d ∷ []) cs h.1)

  superseded_on_none : (earlier cs : List Entry) → AllByRecursion NotPending cs → (k : ℕ) → superseded_on r ls earlier cs k ≡ 0
  unfolding superseded_on
  superseded_on_none earlier [] h k = refl
  superseded_on_none earlier (d ∷ cs) h k = rw h.0 (omega (arith, superseded_on_none (earlier ++ d ∷ []) cs h.1 k))

  pub record SupersededAll (t : ℕ) (earlier ps cs : List Entry) (ms ns : List Line) : Type 0 where
    pub writes : ns ≡ ms ++ superseded_lines t r ls earlier (ps ++ cs)
    pub visited : Visited (earlier ++ ps) cs ns
    pub frees : (k : ℕ) → free_on ns k ≡ free_on ms k + superseded_on r ls earlier (ps ++ cs) k

  -- the pending defenders in turn
  pub supersede_all_visits : (t : ℕ) (earlier ps cs : List Entry) (ms : List Line) → AllByRecursion Pending ps → AllByRecursion NotPending cs → Different (ps ++ cs) → AllByRecursion Faces (ps ++ cs) → Visited earlier (ps ++ cs) ms →
      SupersededAll t earlier ps cs ms (supersede_all t r (ps ++ cs) ms)
  unfolding supersede_all superseded_lines superseded_on
  supersede_all_visits t earlier [] cs ms p n D F V = subst (SupersededAll t earlier [] cs ms) (sym (supersede_all_none t cs n ms)) (record {
    writes = sym (ap (λ x. ms ++ x) (superseded_lines_none t earlier cs n) ∙ append-nil ms);
    visited = subst (λ x. Visited x cs ms) (sym (append-nil earlier)) V;
    frees = λ k. omega (arith, superseded_on_none earlier cs n k);
  })
  supersede_all_visits t earlier (d ∷ ps) cs ms p n D F V =
      let one = supersede_visit r ls t d F.0.1 ms V.solvent V.keeps.0 in
      let W : Visited (earlier ++ d ∷ []) (ps ++ cs) (supersede t r d ms) = visited_next earlier d (ps ++ cs) ms (supersede t r d ms) V one.1 D.0 F.1 in
      then one (supersede_all_visits t (earlier ++ d ∷ []) ps cs (supersede t r d ms) p.1 n D.1 F.1 W)
    where
      told : meets_shortage r d ms ≡ is_superseded r ls earlier d
      told = superseded_told earlier d (ps ++ cs) ms V p.0

      own : List Line
      own = lines_by_day t Superseded (aref_of d) r.aref (λ day. holding ls (aref_of d) day) (start_of d) (length_of d)

      first : supersede_all t r (ps ++ cs) (supersede t r d ms) ≡ supersede_all t r (d ∷ ps ++ cs) ms
      first = sym (ap (λ c. supersede_all t r (ps ++ cs) (cond c (supersede t r d ms) ms)) p.0)

      lines_are : superseded_lines t r ls earlier (d ∷ ps ++ cs) ≡ cond (is_superseded r ls earlier d) own [] ++ superseded_lines t r ls (earlier ++ d ∷ []) (ps ++ cs)
      lines_are = refl

      on_is : (k : ℕ) → superseded_on r ls earlier (d ∷ ps ++ cs) k ≡ cond (is_superseded r ls earlier d) (holding ls (aref_of d) k) 0 + superseded_on r ls (earlier ++ d ∷ []) (ps ++ cs) k
      on_is k = refl

      then : (supersede t r d ms ≡ ms ++ cond (meets_shortage r d ms) own []) × Effect r ls d ms (supersede t r d ms) × ((k : ℕ) → free_on (supersede t r d ms) k ≡ free_on ms k + cond (meets_shortage r d ms) (holding ls (aref_of d) k) 0) →
          SupersededAll t (earlier ++ d ∷ []) ps cs (supersede t r d ms) (supersede_all t r (ps ++ cs) (supersede t r d ms)) →
          SupersededAll t earlier (d ∷ ps) cs ms (supersede_all t r (d ∷ ps ++ cs) ms)
      then one S = subst (SupersededAll t earlier (d ∷ ps) cs ms) first (record {
        writes = S.writes ∙ (ap (λ x. x ++ superseded_lines t r ls (earlier ++ d ∷ []) (ps ++ cs)) (one.0 ∙ ap (λ c. ms ++ cond c own []) told)
            ∙ (append_assoc ms (cond (is_superseded r ls earlier d) own []) (superseded_lines t r ls (earlier ++ d ∷ []) (ps ++ cs)) ∙ ap (λ x. ms ++ x) (sym lines_are)));
        visited = subst (λ x. Visited x cs (supersede_all t r (ps ++ cs) (supersede t r d ms))) (append_assoc earlier (d ∷ []) ps) S.visited;
        frees = λ k.
            let a = S.frees k in
            let b : free_on (supersede t r d ms) k ≡ free_on ms k + cond (is_superseded r ls earlier d) (holding ls (aref_of d) k) 0 = one.2 k ∙ ap (λ c. free_on ms k + cond c (holding ls (aref_of d) k) 0) told in
            sums _ _ _ _ _ _ a b (on_is k);
      })
        where
          sums : (x y z u w s : ℕ) → x ≡ y + w → y ≡ z + u → s ≡ u + w → x ≡ z + s
          sums x y z u w s a b c = omega arith

  -- the grants by day: free and what was taken stay together what they were
  pub grants_visit : (t : ℕ) (earlier rest : List Entry) (ms : List Line) (now_free : ℕ → ℕ) → ((k : ℕ) → free_on ms k ≡ now_free k) → AllByRecursion Faces rest → Visited earlier rest ms →
      (by_day (grant t r) r.start r.length ms ≡ ms ++ lines_by_day t Granted 0 r.aref (λ day. min (now_free day) (wanted r day)) r.start r.length)
      × Visited earlier rest (by_day (grant t r) r.start r.length ms)
  grants_visit t earlier rest ms now_free f F V = done (days_move t Granted 0 r.aref (omega arith) (λ k ns. min (free_on ns k) (wanted r k)) (λ day. min (now_free day) (wanted r day)) r.start r.length ms V.solvent
      (λ k lo hi. omega (arith, f k)) (λ k lo hi ns st. ap (λ i. min i (wanted r k)) (st.stands free (omega arith) ∙ f k)))
    where
      ns : List Line
      ns = by_day (grant t r) r.start r.length ms

      done : Moved t Granted 0 r.aref (λ day. min (now_free day) (wanted r day)) r.start r.length ms ns →
          (ns ≡ ms ++ lines_by_day t Granted 0 r.aref (λ day. min (now_free day) (wanted r day)) r.start r.length) × Visited earlier rest ns
      done m = (m.writes, record { solvent = m.solvent; met = λ k. same_short k (term_cases r.start r.length k) ∙ V.met k; keeps = kept rest F V.keeps })
        where
          same_short : (k : ℕ) → ((r.start ≤ k) × (k < r.start + r.length)) ⊎ ((k < r.start) ⊎ (r.start + r.length ≤ k)) → short r k ns ≡ short r k ms
          same_short k (inl w) = as_short r ls k ms ns (let a = m.moves k w.0 w.1 free (omega arith) in let b = m.takes_more k w.0 w.1 in omega arith)
          same_short k (inr o) = short_stands r ls k ms ns (m.elsewhen k o)

          same_holding : (a k : ℕ) → (a ≡ r.aref → ⊥) → ((r.start ≤ k) × (k < r.start + r.length)) ⊎ ((k < r.start) ⊎ (r.start + r.length ≤ k)) → holding ns a k ≡ holding ms a k
          same_holding a k ne (inl w) = let z = m.moves k w.0 w.1 (held a) (omega arith) in let z' = rw (ne_eqb a r.aref ne) at z in omega arith
          same_holding a k ne (inr o) = (m.elsewhen k o).stands (held a) (omega arith)

          kept : (es : List Entry) → AllByRecursion Faces es → AllByRecursion (λ e. (k : ℕ) → holding ms (aref_of e) k ≡ holding ls (aref_of e) k) es → AllByRecursion (λ e. (k : ℕ) → holding ns (aref_of e) k ≡ holding ls (aref_of e) k) es
          kept [] u h = tt
          kept (e ∷ es) u h = ((λ k. same_holding (aref_of e) k u.0.0 (term_cases r.start r.length k) ∙ h.0 k), kept es u.1 h.1)

  module _ (R : Rules) (t : ℕ) where
    -- pending defenders give nothing more
    pub give_all_skips : (ps cs : List Entry) → AllByRecursion Pending ps → (ms : List Line) → give_all R t r (ps ++ cs) ms ≡ give_all R t r cs ms
    unfolding give_all
    give_all_skips [] cs p ms = refl
    give_all_skips (d ∷ ps) cs p ms = ap (λ c. give_all R t r (ps ++ cs) (cond c ms (give R t r d ms))) p.0 ∙ give_all_skips ps cs p.1 ms

    pub given_lines_skips : (earlier ps cs : List Entry) → AllByRecursion Pending ps → given_lines R t r ls earlier (ps ++ cs) ≡ given_lines R t r ls (earlier ++ ps) cs
    unfolding given_lines
    given_lines_skips earlier [] cs p = ap (λ x. given_lines R t r ls x cs) (sym (append-nil earlier))
    given_lines_skips earlier (d ∷ ps) cs p = rw p.0 (given_lines_skips (earlier ++ d ∷ []) ps cs p.1 ∙ ap (λ x. given_lines R t r ls x cs) (append_assoc earlier (d ∷ []) ps))

    -- the confirmed defenders in turn
    pub give_all_visits : (earlier cs : List Entry) (ms : List Line) → AllByRecursion NotPending cs → Different cs → AllByRecursion Faces cs → Visited earlier cs ms → give_all R t r cs ms ≡ ms ++ given_lines R t r ls earlier cs
    unfolding give_all given_lines
    give_all_visits earlier [] ms n D F V = sym (append-nil ms)
    give_all_visits earlier (d ∷ cs) ms n D F V =
        let one = give_visit r ls t d F.0.1 ms V.solvent V.keeps.0 R earlier V.met in
        let W : Visited (earlier ++ d ∷ []) cs (give R t r d ms) = visited_next earlier d cs ms (give R t r d ms) V one.1 D.0 F.1 in
        rw n.0 (give_all_visits (earlier ++ d ∷ []) cs (give R t r d ms) n.1 D.1 F.1 W
        ∙ (ap (λ x. x ++ given_lines R t r ls (earlier ++ d ∷ []) cs) one.0 ∙ append_assoc ms _ (given_lines R t r ls (earlier ++ d ∷ []) cs)))
