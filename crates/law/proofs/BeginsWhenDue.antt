-- Preemption begins exactly when it is due.
use Rattle.std.proofs.Common.{◌≡◌, ℕ, zero, suc, ◌+◌, ◌-◌, ◌<◌, ◌≤◌, min, Bool, true, false, cond, not, ◌&&◌, ◌||◌, eqb, ltb, leb, ◌⊎◌, List, [], ◌∷◌, ◌++◌, map, length, sym, refl, ap, ◌∙◌, subst, inl, inr, append_assoc, append-nil, arith}
use Rattle.std.specs.List.{AllByRecursion}
use Rattle.std.proofs.lemmas.List.{append_cancel_left}
use Rattle.std.proofs.lemmas.Bool.{cases_Bool, cases_eq, cases_lt, eqb-true, or_left, or_right, or_cases, false≢true, cond-true, cond-false, not-false, not_from_true, and_from, ne_eqb, eq-eqb, leb-true, leb-false, le-leb, lt-ltb, le-ltb, ltb-false, and_parts}
use Rattle.terms.specs.declared.refusal.Refusal.{Refusal}
use Rattle.terms.specs.declared.request.Request.{Request}
use Rattle.terms.specs.declared.words.State.TheVariants.{Confirmed, Offered, Competing}
use Rattle.terms.specs.Words.{is_pending}
use Rattle.sheets.specs.Rules.{Rules}
use Rattle.journal.specs.declared.line.Line.{Line}
use Rattle.journal.specs.declared.line.LineKind.{LineKind}
use Rattle.journal.specs.declared.line.LineKind.TheVariants.{Granted, Superseded, Recalled, SetAside}
use Rattle.journal.specs.Kinds.{gives_way}
use Rattle.journal.specs.Accounts.{free, held, NeverBelowZero}
use Rattle.law.specs.View.{View, Entry, aref_of, start_of, length_of, find, posted_on}
use Rattle.law.specs.Posting.{post, by_day, each_day, holding, free_on}
use Rattle.law.specs.Preemption.{wanted, brings_challenger, taken, short, meets_shortage, supersede, give, supersede_all, give_all, grant, defends, defenders, holdings, preempt, after_preempt}
use Rattle.law.specs.Places.{match_open}
use Rattle.law.specs.Opened.{opened}
use Rattle.law.specs.Calls.{Made, refused, makes, submit, stop_if, if_so, entered, asked, written, step, run}
use Rattle.law.specs.BeginsLaw.{somebody_gives_way, GaveWaySince, NotStopped, PreemptionDue, BeginsExactlyWhenDue}
use Rattle.law.proofs.SoundLines.{cond_never}
use Rattle.law.proofs.EveryCallKeeps.{Holds, holds, holds_stop, holds_if, defenders_stand}
use Rattle.law.proofs.ShrinkingShortage.{each_true, each_false}
use Rattle.law.proofs.KeptOverRuns.{Right, right_at}
use Rattle.law.proofs.HoldersInPlaces.{Holding}
use Rattle.law.proofs.PostingEffects.{balance-post, less_post, more_post, taken_post}
use Rattle.law.proofs.Holders.{days_ind, solvent_post}

-- lines of one kind, a line for each day of 1 MW or more
module _ (t : ℕ) (κ : LineKind) (a b : ℕ) (amount : ℕ → List Line → ℕ) where
  abbrev daily : ℕ → List Line → List Line
  daily day ms = post t κ a b day (amount day ms) ms

  -- either nothing was to be written on any day, or there is a first line, of this kind, and lines of this kind follow
  abbrev Wrote : ℕ → ℕ → List Line → List Line → Type 0
  Wrote s n ls ms = ((ms ≡ ls) × ((k : ℕ) → s ≤ k → k < s + n → amount k ls ≡ 0)) ⊎ ((l : Line) × (new : List Line) × (ms ≡ ls ++ (l ∷ new)) × (l.kind ≡ κ) × AllByRecursion (λ x. x.kind ≡ κ) new)

  pub wrote_by_day : (s n : ℕ) (ls : List Line) → Wrote s n ls (by_day daily s n ls)
  unfolding by_day post
  wrote_by_day s zero ls = inl (refl, λ k p q. absurd (let z : ⊥ = omega arith in z))
  wrote_by_day s (suc n) ls = go (λ ms. wrote_by_day (suc s) n ms) (cases_Bool (eqb (amount s ls) 0))
    where
      l : Line
      l = record { minute = t; kind = κ; a = a; b = b; day = s; mw = amount s ls }

      go : ((ms : List Line) → Wrote (suc s) n ms (by_day daily (suc s) n ms)) → (eqb (amount s ls) 0 ≡ true) ⊎ (eqb (amount s ls) 0 ≡ false) →
          Wrote s (suc n) ls (by_day daily (suc s) n (cond (eqb (amount s ls) 0) ls (ls ++ record { minute = t; kind = κ; a = a; b = b; day = s; mw = amount s ls } ∷ [])))
      go ih (inl e) = rw e (none (ih ls))
        where
          none : Wrote (suc s) n ls (by_day daily (suc s) n ls) → Wrote s (suc n) ls (by_day daily (suc s) n ls)
          none (inl w) = inl (w.0, λ k p q. here k p q (cases_eq s k))
            where
              here : (k : ℕ) → s ≤ k → k < s + suc n → (s ≡ k) ⊎ (s ≡ k → ⊥) → amount k ls ≡ 0
              here k p q (inl u) = subst (λ i. amount i ls ≡ 0) u (eqb-true (amount s ls) 0 e)
              here k p q (inr u) = w.1 k (omega arith) (omega arith)
          none (inr w) = inr w
      go ih (inr e) = rw e (some_more (ih (ls ++ record { minute = t; kind = κ; a = a; b = b; day = s; mw = amount s ls } ∷ [])))
        where
          some_more : Wrote (suc s) n (ls ++ record { minute = t; kind = κ; a = a; b = b; day = s; mw = amount s ls } ∷ []) (by_day daily (suc s) n (ls ++ record { minute = t; kind = κ; a = a; b = b; day = s; mw = amount s ls } ∷ [])) →
              Wrote s (suc n) ls (by_day daily (suc s) n (ls ++ record { minute = t; kind = κ; a = a; b = b; day = s; mw = amount s ls } ∷ []))
          some_more (inl w) = inr (record { minute = t; kind = κ; a = a; b = b; day = s; mw = amount s ls }, [], w.0, refl, tt)
          some_more (inr w) = inr (record { minute = t; kind = κ; a = a; b = b; day = s; mw = amount s ls }, w.0 ∷ w.1, w.2 ∙ append_assoc ls _ (w.0 ∷ w.1), refl, (w.3, w.4))

-- more lines behind
abbrev Grown : List Line → List Line → Type 0
Grown ls ms = (new : List Line) × (ms ≡ ls ++ new)

grown_same : (ls : List Line) → Grown ls ls
grown_same ls = ([], sym (append-nil ls))

grown_trans : (ls ms ns : List Line) → Grown ls ms → Grown ms ns → Grown ls ns
grown_trans ls ms ns p q = (p.0 ++ q.0, q.1 ∙ (ap (λ xs. xs ++ q.0) p.1 ∙ append_assoc ls p.0 q.0))

gives_way_first : (xs ys : List Line) → somebody_gives_way xs ≡ true → somebody_gives_way (xs ++ ys) ≡ true
gives_way_first [] ys h = absurd (false≢true h)
gives_way_first (x ∷ xs) ys h = go (λ (p : somebody_gives_way xs ≡ true). gives_way_first xs ys p) (or_cases (gives_way x.kind) (somebody_gives_way xs) h)
  where
    go : (somebody_gives_way xs ≡ true → somebody_gives_way (xs ++ ys) ≡ true) → (gives_way x.kind ≡ true) ⊎ (somebody_gives_way xs ≡ true) → (gives_way x.kind || somebody_gives_way (xs ++ ys)) ≡ true
    go ih (inl p) = or_left _ _ p
    go ih (inr p) = or_right _ _ (ih p)

gives_way_later : (xs ys : List Line) → somebody_gives_way ys ≡ true → somebody_gives_way (xs ++ ys) ≡ true
gives_way_later [] ys h = h
gives_way_later (x ∷ xs) ys h = or_right _ _ (gives_way_later xs ys h)

gave_then : (ls ms ns : List Line) → GaveWaySince ls ms → Grown ms ns → GaveWaySince ls ns
unfolding grown_trans
gave_then ls ms ns p q =
    let w = grown_trans ls ms ns (p.0, p.1) q in (w.0, w.1, gives_way_first p.0 q.0 p.2)

then_gave : (ls ms ns : List Line) → Grown ls ms → GaveWaySince ms ns → GaveWaySince ls ns
unfolding grown_trans
then_gave ls ms ns p q =
    let w = grown_trans ls ms ns p (q.0, q.1) in (w.0, w.1, gives_way_later p.0 q.0 q.2)

-- lines of a kind by which nobody gives way
nobody_by : (κ : LineKind) → gives_way κ ≡ false → (xs : List Line) → AllByRecursion (λ x. x.kind ≡ κ) xs → somebody_gives_way xs ≡ false
nobody_by κ e [] h = refl
nobody_by κ e (x ∷ xs) h = rw (ap gives_way h.0 ∙ e) (nobody_by κ e xs h.1)

module _ (t : ℕ) (κ : LineKind) (a b : ℕ) (amount : ℕ → List Line → ℕ) (s n : ℕ) (ls : List Line) where
  pub daily_grown : Grown ls (by_day (λ day ms. post t κ a b day (amount day ms) ms) s n ls)
  daily_grown = go (wrote_by_day t κ a b amount s n ls)
    where
      go : Wrote t κ a b amount s n ls (by_day (λ day ms. post t κ a b day (amount day ms) ms) s n ls) → Grown ls (by_day (λ day ms. post t κ a b day (amount day ms) ms) s n ls)
      go (inl w) = ([], w.0 ∙ sym (append-nil ls))
      go (inr w) = (w.0 ∷ w.1, w.2)

  -- of a kind by which somebody gives way: nothing was there to give, or somebody gave way
  pub daily_gave : gives_way κ ≡ true →
      ((by_day (λ day ms. post t κ a b day (amount day ms) ms) s n ls ≡ ls) × ((k : ℕ) → s ≤ k → k < s + n → amount k ls ≡ 0)) ⊎ GaveWaySince ls (by_day (λ day ms. post t κ a b day (amount day ms) ms) s n ls)
  daily_gave e = go (wrote_by_day t κ a b amount s n ls)
    where
      go : Wrote t κ a b amount s n ls (by_day (λ day ms. post t κ a b day (amount day ms) ms) s n ls) →
          ((by_day (λ day ms. post t κ a b day (amount day ms) ms) s n ls ≡ ls) × ((k : ℕ) → s ≤ k → k < s + n → amount k ls ≡ 0)) ⊎ GaveWaySince ls (by_day (λ day ms. post t κ a b day (amount day ms) ms) s n ls)
      go (inl w) = inl w
      go (inr w) = inr (w.0 ∷ w.1, w.2, or_left _ _ (ap gives_way w.3 ∙ e))

  -- of any other kind nobody gave way
  pub daily_not_gave : gives_way κ ≡ false → GaveWaySince ls (by_day (λ day ms. post t κ a b day (amount day ms) ms) s n ls) → ⊥
  daily_not_gave e g = go (wrote_by_day t κ a b amount s n ls)
    where
      clash : (xs : List Line) → somebody_gives_way xs ≡ false → by_day (λ day ms. post t κ a b day (amount day ms) ms) s n ls ≡ ls ++ xs → ⊥
      clash xs f q = false≢true (sym f ∙ (ap somebody_gives_way (append_cancel_left ls xs g.0 (sym q ∙ g.1)) ∙ g.2))

      go : Wrote t κ a b amount s n ls (by_day (λ day ms. post t κ a b day (amount day ms) ms) s n ls) → ⊥
      go (inl w) = clash [] refl (w.0 ∙ sym (append-nil ls))
      go (inr w) = clash (w.0 ∷ w.1) (nobody_by κ e (w.0 ∷ w.1) (w.3, w.4)) w.2

pub each_from : (p : ℕ → Bool) (s n : ℕ) → ((k : ℕ) → s ≤ k → k < s + n → p k ≡ true) → each_day p s n ≡ true
unfolding each_day
each_from p s zero h = refl
each_from p s (suc n) h = and_from _ _ (h s (omega arith) (omega arith)) (each_from p (suc s) n (λ k lo hi. h k (omega arith) (omega arith)))

module _ (t : ℕ) (r : Request) where
  -- a pending defender gave way, or met no shortage
  superseded_or_not : (d : Entry) (ls : List Line) → ((supersede t r d ls ≡ ls) × (meets_shortage r d ls ≡ false)) ⊎ GaveWaySince ls (supersede t r d ls)
  superseded_or_not d ls = go (cases_Bool (meets_shortage r d ls))
    where
      whole : List Line
      whole = by_day (λ day ms. post t Superseded (aref_of d) r.aref day (holding ms (aref_of d) day) ms) (start_of d) (length_of d) ls

      go : (meets_shortage r d ls ≡ true) ⊎ (meets_shortage r d ls ≡ false) → ((supersede t r d ls ≡ ls) × (meets_shortage r d ls ≡ false)) ⊎ GaveWaySince ls (supersede t r d ls)
      go (inr q) = inl (cond-false _ _ _ q, q)
      go (inl q) = pick (daily_gave t Superseded (aref_of d) r.aref (λ day ms. holding ms (aref_of d) day) (start_of d) (length_of d) ls refl)
        where
          pick : ((whole ≡ ls) × ((k : ℕ) → start_of d ≤ k → k < start_of d + length_of d → holding ls (aref_of d) k ≡ 0)) ⊎ GaveWaySince ls whole → ((supersede t r d ls ≡ ls) × (meets_shortage r d ls ≡ false)) ⊎ GaveWaySince ls (supersede t r d ls)
          pick (inl w) = absurd (false≢true (sym (not_from_true _ (each_from _ (start_of d) (length_of d) (λ k lo hi. or_left _ _ (eq-eqb _ 0 (w.1 k lo hi))))) ∙ q))
          pick (inr g) = inr (subst (GaveWaySince ls) (sym (cond-true _ _ _ q)) g)

  supersede_grown : (d : Entry) (ls : List Line) → Grown ls (supersede t r d ls)
  supersede_grown d ls = go (superseded_or_not d ls)
    where
      go : ((supersede t r d ls ≡ ls) × (meets_shortage r d ls ≡ false)) ⊎ GaveWaySince ls (supersede t r d ls) → Grown ls (supersede t r d ls)
      go (inl w) = ([], w.0 ∙ sym (append-nil ls))
      go (inr g) = (g.0, g.1)

  -- of all pending defenders, one gave way, or none met a shortage
  abbrev NoneMet : List Entry → List Line → Type 0
  NoneMet ds ls = AllByRecursion (λ d. is_pending d.standing.state ≡ true → meets_shortage r d ls ≡ false) ds

  supersede_all_grown : (ds : List Entry) (ls : List Line) → Grown ls (supersede_all t r ds ls)
  unfolding supersede_all
  supersede_all_grown [] ls = grown_same ls
  supersede_all_grown (d ∷ ds) ls = grown_trans ls _ _ (one (is_pending d.standing.state)) (supersede_all_grown ds _)
    where
      one : (c : Bool) → Grown ls (cond c (supersede t r d ls) ls)
      one true = supersede_grown d ls
      one false = grown_same ls

  all_superseded_or_not : (ds : List Entry) (ls : List Line) → ((supersede_all t r ds ls ≡ ls) × NoneMet ds ls) ⊎ GaveWaySince ls (supersede_all t r ds ls)
  unfolding supersede_all
  all_superseded_or_not [] ls = inl (refl, tt)
  all_superseded_or_not (d ∷ ds) ls = go (cases_Bool (is_pending d.standing.state)) (superseded_or_not d ls) (all_superseded_or_not ds ls)
    where
      go : (is_pending d.standing.state ≡ true) ⊎ (is_pending d.standing.state ≡ false) →
          ((supersede t r d ls ≡ ls) × (meets_shortage r d ls ≡ false)) ⊎ GaveWaySince ls (supersede t r d ls) →
          ((supersede_all t r ds ls ≡ ls) × NoneMet ds ls) ⊎ GaveWaySince ls (supersede_all t r ds ls) →
          ((supersede_all t r ds (cond (is_pending d.standing.state) (supersede t r d ls) ls) ≡ ls) × NoneMet (d ∷ ds) ls) ⊎ GaveWaySince ls (supersede_all t r ds (cond (is_pending d.standing.state) (supersede t r d ls) ls))
      go (inr q) w (inl rest) = rw q (inl (rest.0, ((λ p. absurd (false≢true p)), rest.1)))
      go (inr q) w (inr g) = rw q (inr g)
      go (inl q) (inr g) rest = rw q (inr (gave_then ls (supersede t r d ls) _ g (supersede_all_grown ds (supersede t r d ls))))
      go (inl q) (inl w) (inl rest) = rw q (inl (ap (supersede_all t r ds) w.0 ∙ rest.0, ((λ _. w.1), rest.1)))
      go (inl q) (inl w) (inr g) = rw q (inr (subst (λ ms. GaveWaySince ls (supersede_all t r ds ms)) (sym w.0) g))

  module _ (R : Rules) where
    given_kind : (c : Bool) → gives_way (cond c SetAside Recalled) ≡ true
    given_kind true = refl
    given_kind false = refl

    -- a confirmed defender gave, or had nothing to give on any day that was short
    abbrev NothingDue : Entry → List Line → Type 0
    NothingDue d ls = (k : ℕ) → start_of d ≤ k → k < start_of d + length_of d → min (holding ls (aref_of d) k) (short r k ls) ≡ 0

    gave_or_not : (d : Entry) (ls : List Line) → ((give R t r d ls ≡ ls) × NothingDue d ls) ⊎ GaveWaySince ls (give R t r d ls)
    gave_or_not d ls = daily_gave t (cond (R.may_match r d.standing) SetAside Recalled) (aref_of d) r.aref (λ day ms. min (holding ms (aref_of d) day) (short r day ms)) (start_of d) (length_of d) ls (given_kind (R.may_match r d.standing))

    give_grown : (d : Entry) (ls : List Line) → Grown ls (give R t r d ls)
    give_grown d ls = daily_grown t (cond (R.may_match r d.standing) SetAside Recalled) (aref_of d) r.aref (λ day ms. min (holding ms (aref_of d) day) (short r day ms)) (start_of d) (length_of d) ls

    give_all_grown : (ds : List Entry) (ls : List Line) → Grown ls (give_all R t r ds ls)
    unfolding give_all
    give_all_grown [] ls = grown_same ls
    give_all_grown (d ∷ ds) ls = grown_trans ls _ _ (one (is_pending d.standing.state)) (give_all_grown ds _)
      where
        one : (c : Bool) → Grown ls (cond c ls (give R t r d ls))
        one true = grown_same ls
        one false = give_grown d ls

    abbrev NoneDue : List Entry → List Line → Type 0
    NoneDue ds ls = AllByRecursion (λ d. is_pending d.standing.state ≡ false → NothingDue d ls) ds

    all_gave_or_not : (ds : List Entry) (ls : List Line) → ((give_all R t r ds ls ≡ ls) × NoneDue ds ls) ⊎ GaveWaySince ls (give_all R t r ds ls)
    unfolding give_all
    all_gave_or_not [] ls = inl (refl, tt)
    all_gave_or_not (d ∷ ds) ls = go (cases_Bool (is_pending d.standing.state)) (gave_or_not d ls) (all_gave_or_not ds ls)
      where
        go : (is_pending d.standing.state ≡ true) ⊎ (is_pending d.standing.state ≡ false) →
            ((give R t r d ls ≡ ls) × NothingDue d ls) ⊎ GaveWaySince ls (give R t r d ls) →
            ((give_all R t r ds ls ≡ ls) × NoneDue ds ls) ⊎ GaveWaySince ls (give_all R t r ds ls) →
            ((give_all R t r ds (cond (is_pending d.standing.state) ls (give R t r d ls)) ≡ ls) × NoneDue (d ∷ ds) ls) ⊎ GaveWaySince ls (give_all R t r ds (cond (is_pending d.standing.state) ls (give R t r d ls)))
        go (inl q) w (inl rest) = rw q (inl (rest.0, ((λ p. absurd (false≢true (sym p))), rest.1)))
        go (inl q) w (inr g) = rw q (inr g)
        go (inr q) (inr g) rest = rw q (inr (gave_then ls (give R t r d ls) _ g (give_all_grown ds (give R t r d ls))))
        go (inr q) (inl w) (inl rest) = rw q (inl (ap (give_all R t r ds) w.0 ∙ rest.0, ((λ _. w.1), rest.1)))
        go (inr q) (inl w) (inr g) = rw q (inr (subst (λ ms. GaveWaySince ls (give_all R t r ds ms)) (sym w.0) g))

  -- a grant by day leaves free and taken together, and what others hold, as they were
  record Even (ls ms : List Line) : Type 0 where
    solvent : NeverBelowZero ms
    same_in_all : (k : ℕ) → free_on ms k + taken r.aref k ms ≡ free_on ls k + taken r.aref k ls
    same_others : (a k : ℕ) → (a ≡ r.aref → ⊥) → holding ms a k ≡ holding ls a k

  even_post : (ls ms : List Line) (k m : ℕ) → m ≤ free_on ms k → Even ls ms → Even ls (post t Granted 0 r.aref k m ms)
  even_post ls ms k m paid E = record {
    solvent = solvent_post ms E.solvent t Granted 0 r.aref k m paid;
    same_in_all = λ j.
        let z : cond (eqb k j && false) m 0 ≡ 0 = cond_never (eqb k j) m in
        let w : cond (eqb k j && true) m 0 ≡ cond (eqb r.aref r.aref && eqb k j) m 0 = rw (eq-eqb r.aref r.aref refl) (and_ever (eqb k j)) in
        omega (arith, balance-post ms E.solvent t Granted 0 r.aref k m paid free j (omega arith), taken_post r.aref j t Granted 0 r.aref k m ms, E.same_in_all j);
    same_others = λ c j ne.
        omega (arith, E.same_others c j ne, less_post ms E.solvent t Granted 0 r.aref k m paid (held c) j (omega arith) (ne_eqb c r.aref ne), more_post ms E.solvent t Granted 0 r.aref k m paid (held c) j (omega arith) refl);
  }
    where
      and_ever : (b : Bool) → cond (b && true) m 0 ≡ cond b m 0
      and_ever true = refl
      and_ever false = refl

  even_grants : (ls : List Line) → NeverBelowZero ls → Even ls (by_day (grant t r) r.start r.length ls)
  even_grants ls f = days_ind (grant t r) (Even ls) r.start r.length (λ k ms lo hi E. even_post ls ms k (min (free_on ms k) (wanted r k)) (omega arith) E) ls
      (record { solvent = f; same_in_all = λ k. refl; same_others = λ a k ne. refl })

  short_even : (ls ms : List Line) → Even ls ms → (k : ℕ) → short r k ms ≡ short r k ls
  short_even ls ms E k = ap (λ n. cond (leb r.start k && ltb k (r.start + r.length)) (wanted r k - n) 0) (E.same_in_all k)

-- nothing was taken yet for an AREF that the lines do not name
taken_none : (b k n : ℕ) (ls : List Line) → n ≤ b → AllByRecursion (λ l. (l.a < n) × (l.b < n)) ls → taken b k ls ≡ 0
unfolding taken
taken_none b k n [] h names = refl
taken_none b k n (l ∷ ls) h names =
    let e : eqb l.b b ≡ false = ne_eqb l.b b (λ (q : l.b ≡ b). omega arith) in
    let z : cond (brings_challenger l.kind && (eqb l.b b && eqb l.day k)) l.mw 0 ≡ 0 = rw e (cond_never (brings_challenger l.kind) l.mw) in
    omega (arith, taken_none b k n ls h names.1)

passes : (stops : Bool) (e : Refusal) (m : Made) → stops ≡ false → stop_if stops e m ≡ m
unfolding stop_if
passes stops e m h = cond-false stops (refused e) m h

goes_in : (test : Bool) (x y : Made) → test ≡ true → if_so test x y ≡ x
unfolding if_so
goes_in test x y h = cond-true test x y h

goes_on : (test : Bool) (x y : Made) → test ≡ false → if_so test x y ≡ y
unfolding if_so
goes_on test x y h = cond-false test x y h

-- The two directions.
module _ (R : Rules) (p : ℕ → ℕ) (v : View) (I : Right p v) (t : ℕ) (r : Request) where
  -- where none gave way on a day that is short, no defender holds anything there
  none_held : v.top < r.aref → (k : ℕ) → 0 < short r k v.lines → NoneMet t r (defenders R t r v) v.lines → NoneDue t r R (defenders R t r v) (by_day (grant t r) r.start r.length v.lines) → holdings v.lines (defenders R t r v) k ≡ 0
  unfolding holdings
  none_held up k short-here met due = all_none (defenders R t r v) (defenders_stand R v I.whole I.sound.low t r up) met due
    where
      G : List Line
      G = by_day (grant t r) r.start r.length v.lines

      even : Even t r v.lines (by_day (grant t r) r.start r.length v.lines)
      even = even_grants t r v.lines I.sound.fine.solvent

      one : (d : Entry) → (find (aref_of d) v.places ≡ d) × (defends R t r v.days d ≡ true) × (r.aref ≡ aref_of d → ⊥) →
          (is_pending d.standing.state ≡ true → meets_shortage r d v.lines ≡ false) → (is_pending d.standing.state ≡ false → NothingDue t r R d (by_day (grant t r) r.start r.length v.lines)) →
          holding v.lines (aref_of d) k ≡ 0
      one d stand met due = go (cases_lt 0 (holding v.lines (aref_of d) k))
        where
          bare : 0 < holding v.lines (aref_of d) k → ⊥
          bare h =
              let i = subst (λ e. Holding e k) stand.0 (I.whole.supp.holds (aref_of d) k h) in
              by_state i (cases_Bool (is_pending d.standing.state))
            where
              by_state : Holding d k → (is_pending d.standing.state ≡ true) ⊎ (is_pending d.standing.state ≡ false) → ⊥
              by_state i (inl q) =
                  let all = not-false _ (met q) in
                  either (or_cases _ _ (each_true (λ day. eqb (holding v.lines (aref_of d) day) 0 || eqb (short r day v.lines) 0) (start_of d) (length_of d) all k i.1 i.2))
                where
                  either : (eqb (holding v.lines (aref_of d) k) 0 ≡ true) ⊎ (eqb (short r k v.lines) 0 ≡ true) → ⊥
                  either (inl e) = let z = eqb-true _ 0 e in omega arith
                  either (inr e) = let z = eqb-true _ 0 e in omega arith
              by_state i (inr q) =
                  let z = due q k i.1 i.2 in
                  omega (arith, z, short_even t r v.lines (by_day (grant t r) r.start r.length v.lines) even k, even.same_others (aref_of d) k (λ (e : aref_of d ≡ r.aref). stand.2 (sym e)))

          go : (0 < holding v.lines (aref_of d) k) ⊎ (holding v.lines (aref_of d) k ≤ 0) → holding v.lines (aref_of d) k ≡ 0
          go (inl h) = absurd (bare h)
          go (inr h) = omega arith

      all_none : (es : List Entry) → AllByRecursion (λ d. (find (aref_of d) v.places ≡ d) × (defends R t r v.days d ≡ true) × (r.aref ≡ aref_of d → ⊥)) es →
          NoneMet t r es v.lines → NoneDue t r R es (by_day (grant t r) r.start r.length v.lines) → holdings v.lines es k ≡ 0
      all_none [] s m n = refl
      all_none (d ∷ es) s m n = let x = one d s.0 m.0 n.0 in let y = all_none es s.1 m.1 n.1 in omega arith

  -- preemption that is due writes a line by which somebody gives way
  taken_if_due : v.top < r.aref → each_day (λ day. leb (wanted r day) (free_on v.lines day)) r.start r.length ≡ false →
      each_day (λ day. leb (wanted r day) (free_on v.lines day + holdings v.lines (defenders R t r v) day)) r.start r.length ≡ true →
      GaveWaySince v.lines (preempt R t r v)
  taken_if_due up lacking enough = first (all_superseded_or_not t r (defenders R t r v) v.lines)
    where
      grants : List Line → List Line
      grants ms = by_day (grant t r) r.start r.length ms

      grants_grown : (ms : List Line) → Grown ms (by_day (grant t r) r.start r.length ms)
      grants_grown ms = daily_grown t Granted 0 r.aref (λ day ns. min (free_on ns day) (wanted r day)) r.start r.length ms

      second : (supersede_all t r (defenders R t r v) v.lines ≡ v.lines) × NoneMet t r (defenders R t r v) v.lines →
          ((give_all R t r (defenders R t r v) (by_day (grant t r) r.start r.length v.lines) ≡ by_day (grant t r) r.start r.length v.lines) × NoneDue t r R (defenders R t r v) (by_day (grant t r) r.start r.length v.lines)) ⊎ GaveWaySince (by_day (grant t r) r.start r.length v.lines) (give_all R t r (defenders R t r v) (by_day (grant t r) r.start r.length v.lines)) →
          GaveWaySince v.lines (preempt R t r v)
      second w (inr g) = subst (λ ms. GaveWaySince v.lines (give_all R t r (defenders R t r v) (by_day (grant t r) r.start r.length ms))) (sym w.0) (then_gave v.lines _ _ (grants_grown v.lines) g)
      second w (inl n) =
          let k = each_false (λ day. leb (wanted r day) (free_on v.lines day)) r.start r.length lacking in
          let e = leb-true _ _ (each_true (λ day. leb (wanted r day) (free_on v.lines day + holdings v.lines (defenders R t r v) day)) r.start r.length enough k.0 k.1 k.2) in
          let s = leb-false _ _ k.3 in
          let none = none_held up k.0 (is_short k.0 k.1 k.2 s) w.1 n.1 in
          absurd (let z : ⊥ = omega arith in z)
        where
          is_short : (k : ℕ) → r.start ≤ k → k < r.start + r.length → free_on v.lines k < wanted r k → 0 < short r k v.lines
          is_short k lo hi h = let z = noted_new k in rw (le-leb r.start k lo, lt-ltb k (r.start + r.length) hi) (omega arith)
            where
              noted_new : (k : ℕ) → taken r.aref k v.lines ≡ 0
              noted_new k = taken_none r.aref k (suc v.top) v.lines (omega arith) I.sound.fine.names

      first : ((supersede_all t r (defenders R t r v) v.lines ≡ v.lines) × NoneMet t r (defenders R t r v) v.lines) ⊎ GaveWaySince v.lines (supersede_all t r (defenders R t r v) v.lines) → GaveWaySince v.lines (preempt R t r v)
      first (inr g) = gave_then v.lines _ _ g (grown_trans _ _ _ (grants_grown _) (give_all_grown t r R (defenders R t r v) _))
      first (inl w) = second w (all_gave_or_not t r R (defenders R t r v) (by_day (grant t r) r.start r.length v.lines))

  up_from : leb r.aref v.top ≡ false → v.top < r.aref
  up_from h = leb-false r.aref v.top h

  -- what is known where the lines of a submit have somebody give way
  abbrev Known : List Line → List Entry → Type 0
  Known ms es = GaveWaySince v.lines ms →
      NotStopped R t r v
      × (each_day (λ day. leb (wanted r day) (free_on v.lines day)) r.start r.length ≡ false)
      × (match_open v.places ≡ false)
      × ((R.in_time r t v.days && each_day (λ day. leb (wanted r day) (free_on v.lines day + holdings v.lines (defenders R t r v) day)) r.start r.length) ≡ true)
      × (ms ≡ preempt R t r v)

  grants_not_gave : GaveWaySince v.lines (by_day (grant t r) r.start r.length v.lines) → ⊥
  grants_not_gave = daily_not_gave t Granted 0 r.aref (λ day ns. min (free_on ns day) (wanted r day)) r.start r.length v.lines refl

  known_asked : Holds Known (asked R (submit t r) v)
  known_asked =
      holds_stop Known _ _ _ (λ minute. holds_stop Known _ _ _ (λ due.
      holds_stop Known _ _ _ (λ above. holds_stop Known _ _ _ (λ offered. holds_stop Known _ _ _ (λ carried. holds_stop Known _ _ _ (λ full.
      holds_if Known _ _ _ (λ _. holds Known _ _ _ _ (λ g. absurd (grants_not_gave g))) (λ lacking.
      holds_stop Known _ _ _ (λ closed.
      holds_if Known _ _ _ (λ both. holds Known _ _ _ _ (λ g.
      (record { minute_fits = minute; nothing_due = due; aref_new = above; term_offered = offered; carried = not-false _ carried; place_free = not-false _ full }, lacking, closed, both, refl)))
      (λ _. holds_stop Known _ _ _ (λ _. holds Known _ _ _ Offered (λ g. absurd (grants_not_gave g))))))))))))

  not_gave_same : GaveWaySince v.lines v.lines → ⊥
  not_gave_same g = false≢true (sym (ap somebody_gives_way (append_cancel_left v.lines g.0 [] (sym g.1 ∙ sym (append-nil v.lines)))) ∙ g.2)

  written_known : (m : Made) → Holds Known m → GaveWaySince v.lines (written (submit t r) v m).1.lines → PreemptionDue R t r v
  unfolding Holds
  written_known (refused e) h g = absurd (not_gave_same g)
  written_known (makes ms es a s) h g = room (cases_Bool (ltb v.room (length ms)))
    where
      room : (ltb v.room (length ms) ≡ true) ⊎ (ltb v.room (length ms) ≡ false) → PreemptionDue R t r v
      room (inl q) = absurd (not_gave_same (rw q at g))
      room (inr q) =
          let k = h (rw q at g) in
          let b = and_parts _ _ k.3 in
          record {
            not_stopped = k.0;
            short_somewhere = k.1;
            no_match_open = k.2;
            in_time = b.0;
            can_be_met = b.1;
            lines_suffice = subst (λ ns. length ns ≤ v.room) k.4 (ltb-false v.room (length ms) q);
          }

  pub due_if_gave : GaveWaySince v.lines (step R (submit t r) v).1.lines → PreemptionDue R t r v
  unfolding step
  due_if_gave g = written_known (asked R (submit t r) v) known_asked g

  pub gave_if_due : PreemptionDue R t r v → GaveWaySince v.lines (step R (submit t r) v).1.lines
  unfolding step
  gave_if_due D = subst (GaveWaySince v.lines) (sym lines_are) (taken_if_due (up_from D.not_stopped.aref_new) D.short_somewhere D.can_be_met)
    where
      N : NotStopped R t r v
      N = D.not_stopped

      made : asked R (submit t r) v ≡ entered R t r (cond (match_open (map (after_preempt R t r v (preempt R t r v)) v.places)) Competing Confirmed) (preempt R t r v) (map (after_preempt R t r v (preempt R t r v)) v.places)
      made = passes _ _ _ N.minute_fits ∙ (passes _ _ _ N.nothing_due ∙ (passes _ _ _ N.aref_new ∙ (passes _ _ _ N.term_offered ∙ (passes _ _ _ (ap not N.carried) ∙ (passes _ _ _ (ap not N.place_free)
          ∙ (goes_on _ _ _ D.short_somewhere ∙ (passes _ _ _ D.no_match_open ∙ goes_in _ _ _ (and_from _ _ D.in_time D.can_be_met))))))))

      lines_are : (step R (submit t r) v).1.lines ≡ preempt R t r v
      lines_are = ap (λ m. (written (submit t r) v m).1.lines) made ∙ fits (le-ltb v.room (length (preempt R t r v)) D.lines_suffice)
        where
          fits : ltb v.room (length (preempt R t r v)) ≡ false → (written (submit t r) v (entered R t r (cond (match_open (map (after_preempt R t r v (preempt R t r v)) v.places)) Competing Confirmed) (preempt R t r v) (map (after_preempt R t r v (preempt R t r v)) v.places))).1.lines ≡ preempt R t r v
          fits q = rw q refl

pub begins_exactly_when_due : BeginsExactlyWhenDue
begins_exactly_when_due R days places room calls t r =
    let v = run R calls (opened days places room) in let I = right_at R days places room calls in
    (due_if_gave R (posted_on days) v I t r, gave_if_due R (posted_on days) v I t r)
