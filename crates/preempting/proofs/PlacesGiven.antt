-- Who stands in the places while the confirmed defenders give: those of whom something is aside are challenged.
use Rattle.std.proofs.Common.{◌≡◌, ℕ, ◌<◌, ◌≤◌, Bool, true, false, cond, eqb, ◌≢◌, ◌⊎◌, List, map, length, get_or, set, sym, refl, ap, ◌∙◌, inl, inr, arith}
use Rattle.std.proofs.lemmas.List.{length-map, length-set, get_or-map, get_or-set_same, get_or-set_other, ext_get_or}
use Rattle.std.proofs.lemmas.Bool.{cases_Bool, cases_eq, eq-eqb, and_from, cond-true, cond-false}
use Rattle.terms.specs.declared.request.Request.{Request}
use Rattle.terms.specs.Days.{Days}
use Rattle.sheets.specs.Rules.{Rules}
use Rattle.journal.specs.declared.line.Line.{Line}
use Rattle.journal.specs.Accounts.{aside, balance, NeverBelowZero}
use Rattle.law.specs.View.{Entry, aref_of, start_of, length_of, living, count, nobody}
use Rattle.law.specs.Preemption.{defends, none_aside, meets_shortage, give}
use Rattle.visits.proofs.OneVisit.{each_day_same}
use Rattle.visits.proofs.Stopping.{each_day_from}
use Rattle.defending.specs.LinedUp.{entry_at}
use Rattle.defending.proofs.LiningUp.{defends_lives}
use Rattle.posting.proofs.OnePlace.{one_place}
use Rattle.preempting.specs.Giving.{challenged_by, after_giving}
use Rattle.preempting.proofs.AsideOfGiving.{aside_stays, some_aside}

module _ (R : Rules) (t : ℕ) (r : Request) (days : Days) where
  abbrev after : List Line → Entry → Entry
  after ls e = after_giving R t r days ls e

  -- one of whom nothing is aside stands as it stood
  pub untouched : (ls : List Line) (e : Entry) → ((k : ℕ) → balance ls (aside (aref_of e) r.aref) k ≡ 0) → after_giving R t r days ls e ≡ e
  untouched ls e none = go (defends R t r days e) (none_aside ls r.aref e) (each_day_from (λ day. eqb (balance ls (aside (aref_of e) r.aref) day) 0) (λ k. eq-eqb _ 0 (none k)) (start_of e) (length_of e))
    where
      go : (b c : Bool) → c ≡ true → cond b (cond c e (challenged_by R t r days e)) e ≡ e
      go true c q = cond-true c _ _ q
      go false c q = refl

  -- two books of lines by which as much is aside of it
  same_after : (ls ms : List Line) (e : Entry) → (defends R t r days e ≡ true → (k : ℕ) → balance ms (aside (aref_of e) r.aref) k ≡ balance ls (aside (aref_of e) r.aref) k) → after ms e ≡ after ls e
  same_after ls ms e h = go (cases_Bool (defends R t r days e))
    where
      go : (defends R t r days e ≡ true) ⊎ (defends R t r days e ≡ false) → after ms e ≡ after ls e
      go (inl q) = ap (λ (c : Bool). cond (defends R t r days e) (cond c e (challenged_by R t r days e)) e) (each_day_same _ _ (λ k. ap (λ (n : ℕ). eqb n 0) (h q k)) (start_of e) (length_of e))
      go (inr q) = cond-false _ _ _ q ∙ sym (cond-false _ _ _ q)

  pub at_after : (ls : List Line) (es : List Entry) (i : ℕ) → i < length es → entry_at (map (after_giving R t r days ls) es) i ≡ after_giving R t r days ls (entry_at es i)
  at_after ls es i h = get_or-map (after ls) es i nobody nobody h

  -- one visit: with the right the visited record is challenged in its place, and nobody else changes
  pub places_after_giving : (es : List Entry) → ((a : ℕ) → count a es ≤ 1) → (p : ℕ) → p < length es → defends R t r days (entry_at es p) ≡ true →
      (ms : List Line) → NeverBelowZero ms → meets_shortage r (entry_at es p) ms ≡ true →
      map (after_giving R t r days (give R t r (entry_at es p) ms)) es
      ≡ cond (R.may_match r (entry_at es p).standing) (set (map (after_giving R t r days ms) es) p (challenged_by R t r days (entry_at es p))) (map (after_giving R t r days ms) es)
  places_after_giving es once p h defending ms fine needed = go (cases_Bool (R.may_match r e.standing))
    where
      e : Entry
      e = entry_at es p

      ns : List Line
      ns = give R t r (entry_at es p) ms

      others : (q : ℕ) → q < length es → q ≢ p → after ns (entry_at es q) ≡ after ms (entry_at es q)
      others q l ne = same_after ms ns (entry_at es q) (λ d k. aside_stays R t r e ms fine (aref_of (entry_at es q)) (inl (λ (same : aref_of (entry_at es q) ≡ aref_of e).
          ne (one_place (aref_of e) q p es (once (aref_of e)) l h
          (and_from (living (entry_at es q)) _ (defends_lives R t r days es (entry_at es q) d) (eq-eqb _ _ same))
          (and_from (living e) _ (defends_lives R t r days es e defending) (eq-eqb _ _ refl))))) k)

      go : (R.may_match r e.standing ≡ true) ⊎ (R.may_match r e.standing ≡ false) →
          map (after ns) es ≡ cond (R.may_match r e.standing) (set (map (after ms) es) p (challenged_by R t r days e)) (map (after ms) es)
      go (inl right) = ext_get_or nobody (map (after ns) es) (set (map (after ms) es) p (challenged_by R t r days e)) (length-map es _ ∙ sym (length-set (map (after ms) es) p _ ∙ length-map es _)) (λ q l. here q (omega (arith, length-map es (after ns))) (cases_eq q p)) ∙ sym (cond-true _ _ _ right)
        where
          here : (q : ℕ) → q < length es → (q ≡ p) ⊎ (q ≡ p → ⊥) → get_or (map (after ns) es) q nobody ≡ get_or (set (map (after ms) es) p (challenged_by R t r days e)) q nobody
          here q l (inl same) =
              ap (λ (i : ℕ). get_or (map (after ns) es) i nobody) same
              ∙ (at_after ns es p h ∙ (cond-true _ _ _ defending ∙ (cond-false _ _ _ (some_aside R t r e ms fine right needed)
              ∙ (sym (get_or-set_same (map (after ms) es) p (challenged_by R t r days e) nobody (omega (arith, length-map es (after ms)))) ∙ ap (λ (i : ℕ). get_or (set (map (after ms) es) p (challenged_by R t r days e)) i nobody) (sym same)))))
          here q l (inr ne) = at_after ns es q l ∙ (others q l ne ∙ (sym (at_after ms es q l) ∙ sym (get_or-set_other (map (after ms) es) p q _ nobody ne)))
      go (inr none) = ext_get_or nobody (map (after ns) es) (map (after ms) es) (length-map es _ ∙ sym (length-map es _)) (λ q l. here q (omega (arith, length-map es (after ns)))) ∙ sym (cond-false _ _ _ none)
        where
          here : (q : ℕ) → q < length es → get_or (map (after ns) es) q nobody ≡ get_or (map (after ms) es) q nobody
          here q l = at_after ns es q l ∙ (same_after ms ns (entry_at es q) (λ d k. aside_stays R t r e ms fine (aref_of (entry_at es q)) (inr none) k) ∙ sym (at_after ms es q l))
