-- Postings on one day after another: the lines that they write, and what they leave in each account.
use Rattle.std.proofs.Common.{◌≡◌, ℕ, zero, suc, ◌+◌, ◌<◌, ◌≤◌, Bool, true, false, cond, ◌&&◌, eqb, ◌⊎◌, List, [], ◌∷◌, ◌++◌, sym, refl, ap, ◌∙◌, subst, inl, inr, arith}
use Rattle.std.proofs.lemmas.List.{append_assoc, append-nil}
use Rattle.std.proofs.lemmas.Bool.{eq-eqb, ne_eqb, cases_eq}
use Rattle.journal.specs.declared.line.Line.{Line}
use Rattle.journal.specs.declared.line.LineKind.{LineKind}
use Rattle.journal.specs.Accounts.{Account, sort, same, from, to, balance, NeverBelowZero}
use Rattle.law.specs.Posting.{post, by_day}
use Rattle.law.specs.Preemption.{taken, brings_challenger}
use Rattle.law.proofs.PostingEffects.{balance-post, day_post, taken_post}
use Rattle.law.proofs.Holders.{solvent_post}
use Rattle.visits.specs.ClosedForm.{lines_by_day}

-- on a day nothing has changed: neither what stands in an account nor what was taken for a challenger
pub record DayStands (b k : ℕ) (ms ns : List Line) : Type 0 where
  pub stands : (x : Account) → 0 < sort x → balance ns x k ≡ balance ms x k
  pub taken_stands : taken b k ns ≡ taken b k ms

day_stands_trans : (b k : ℕ) (ls ms ns : List Line) → DayStands b k ls ms → DayStands b k ms ns → DayStands b k ls ns
day_stands_trans b k ls ms ns p q = record { stands = λ x h. q.stands x h ∙ p.stands x h; taken_stands = q.taken_stands ∙ p.taken_stands }

-- the lines ns come of ms by postings of mw on n days from s on
pub record Moved (t : ℕ) (κ : LineKind) (a b : ℕ) (mw : ℕ → ℕ) (s n : ℕ) (ms ns : List Line) : Type 0 where
  pub writes : ns ≡ ms ++ lines_by_day t κ a b mw s n
  pub solvent : NeverBelowZero ns
  pub elsewhen : (k : ℕ) → (k < s) ⊎ (s + n ≤ k) → DayStands b k ms ns
  pub moves : (k : ℕ) → s ≤ k → k < s + n → (x : Account) → 0 < sort x → balance ns x k + cond (same x (from κ a b)) (mw k) 0 ≡ balance ms x k + cond (same x (to κ a b)) (mw k) 0
  pub takes_more : (k : ℕ) → s ≤ k → k < s + n → taken b k ns ≡ taken b k ms + cond (brings_challenger κ) (mw k) 0

post_writes : (t : ℕ) (κ : LineKind) (a b k m : ℕ) (ls : List Line) → post t κ a b k m ls ≡ ls ++ cond (eqb m 0) [] (record { minute = t; kind = κ; a = a; b = b; day = k; mw = m } ∷ [])
unfolding post
post_writes t κ a b k m ls = go (eqb m 0)
  where
    go : (c : Bool) → cond c ls (ls ++ record { minute = t; kind = κ; a = a; b = b; day = k; mw = m } ∷ []) ≡ ls ++ cond c [] (record { minute = t; kind = κ; a = a; b = b; day = k; mw = m } ∷ [])
    go true = sym (append-nil ls)
    go false = refl

module _ (t : ℕ) (κ : LineKind) (a b : ℕ) (real : 0 < sort (from κ a b)) (f : ℕ → List Line → ℕ) (mw : ℕ → ℕ) where
  -- a posting leaves every other day as it was
  other_day_stands : (ms : List Line) → NeverBelowZero ms → (k m : ℕ) → m ≤ balance ms (from κ a b) k → (j : ℕ) → (k ≡ j → ⊥) → DayStands b j ms (post t κ a b k m ms)
  other_day_stands ms fine k m paid j ne = record {
    stands = λ x h. day_post ms fine t κ a b k m paid x j h ne;
    taken_stands =
        let e = taken_post b j t κ a b k m ms in
        let z : cond (brings_challenger κ && (eqb b b && eqb k j)) m 0 ≡ 0 = rw (ne_eqb k j ne, eq-eqb b b refl) (never (brings_challenger κ)) in
        omega arith;
  }
    where
      never : (c : Bool) → cond (c && false) m 0 ≡ 0
      never true = refl
      never false = refl

  -- amounts that are read off each day as it stood before the first posting
  pub days_move : (s n : ℕ) (ms : List Line) → NeverBelowZero ms →
      ((k : ℕ) → s ≤ k → k < s + n → mw k ≤ balance ms (from κ a b) k) →
      ((k : ℕ) → s ≤ k → k < s + n → (ns : List Line) → DayStands b k ms ns → f k ns ≡ mw k) →
      Moved t κ a b mw s n ms (by_day (λ k ns. post t κ a b k (f k ns) ns) s n ms)
  unfolding by_day lines_by_day
  days_move s zero ms fine paid reads = record {
    writes = sym (append-nil ms);
    solvent = fine;
    elsewhen = λ k h. record { stands = λ x q. refl; taken_stands = refl };
    moves = λ k lo hi. absurd (let z : ⊥ = omega arith in z);
    takes_more = λ k lo hi. absurd (let z : ⊥ = omega arith in z);
  }
  days_move s (suc n) ms fine paid reads =
      let at_s : f s ms ≡ mw s = reads s (omega arith) (omega arith) ms (record { stands = λ x q. refl; taken_stands = refl }) in
      rw at_s (done (days_move (suc s) n (post t κ a b s (mw s) ms) (solvent_post ms fine t κ a b s (mw s) (paid s (omega arith) (omega arith)))
      (λ k lo hi. let o = off k lo in let p = paid k (omega arith) (omega arith) in omega (arith, o.stands (from κ a b) real))
      (λ k lo hi ns st. reads k (omega arith) (omega arith) ns (day_stands_trans b k ms _ ns (off k lo) st))))
    where
      off : (k : ℕ) → suc s ≤ k → DayStands b k ms (post t κ a b s (mw s) ms)
      off k lo = other_day_stands ms fine s (mw s) (paid s (omega arith) (omega arith)) k (λ (e : s ≡ k). omega arith)

      before : (k : ℕ) → k < s → DayStands b k ms (post t κ a b s (mw s) ms)
      before k lo = other_day_stands ms fine s (mw s) (paid s (omega arith) (omega arith)) k (λ (e : s ≡ k). omega arith)

      done : Moved t κ a b mw (suc s) n (post t κ a b s (mw s) ms) (by_day (λ k ns. post t κ a b k (f k ns) ns) (suc s) n (post t κ a b s (mw s) ms)) →
          Moved t κ a b mw s (suc n) ms (by_day (λ k ns. post t κ a b k (f k ns) ns) (suc s) n (post t κ a b s (mw s) ms))
      done m = record {
        writes = m.writes ∙ (ap (λ x. x ++ lines_by_day t κ a b mw (suc s) n) (post_writes t κ a b s (mw s) ms) ∙ append_assoc ms _ _);
        solvent = m.solvent;
        elsewhen = λ k h. out k h;
        moves = λ k lo hi x q. inside k lo hi x q (cases_eq s k);
        takes_more = λ k lo hi. took k lo hi (cases_eq s k);
      }
        where
          out : (k : ℕ) → (k < s) ⊎ (s + suc n ≤ k) → DayStands b k ms (by_day (λ k ns. post t κ a b k (f k ns) ns) (suc s) n (post t κ a b s (mw s) ms))
          out k (inl h) = day_stands_trans b k ms _ _ (before k h) (m.elsewhen k (inl (omega arith)))
          out k (inr h) = day_stands_trans b k ms _ _ (off k (omega arith)) (m.elsewhen k (inr (omega arith)))

          inside : (k : ℕ) → s ≤ k → k < s + suc n → (x : Account) → 0 < sort x → (s ≡ k) ⊎ (s ≡ k → ⊥) →
              balance (by_day (λ k ns. post t κ a b k (f k ns) ns) (suc s) n (post t κ a b s (mw s) ms)) x k + cond (same x (from κ a b)) (mw k) 0 ≡ balance ms x k + cond (same x (to κ a b)) (mw k) 0
          inside k lo hi x q (inl e) = subst (λ j. balance (by_day (λ k ns. post t κ a b k (f k ns) ns) (suc s) n (post t κ a b s (mw s) ms)) x j + cond (same x (from κ a b)) (mw j) 0 ≡ balance ms x j + cond (same x (to κ a b)) (mw j) 0) e
              (let w = balance-post ms fine t κ a b s (mw s) (paid s (omega arith) (omega arith)) x s q in
              let w' = rw (eq-eqb s s refl) at w in
              let st = (m.elsewhen s (inl (omega arith))).stands x q in
              omega arith)
          inside k lo hi x q (inr ne) =
              let lo' : suc s ≤ k = omega arith in
              let w = m.moves k lo' (omega arith) x q in
              let o = (off k lo').stands x q in
              omega arith

          took : (k : ℕ) → s ≤ k → k < s + suc n → (s ≡ k) ⊎ (s ≡ k → ⊥) →
              taken b k (by_day (λ k ns. post t κ a b k (f k ns) ns) (suc s) n (post t κ a b s (mw s) ms)) ≡ taken b k ms + cond (brings_challenger κ) (mw k) 0
          took k lo hi (inl e) = subst (λ j. taken b j (by_day (λ k ns. post t κ a b k (f k ns) ns) (suc s) n (post t κ a b s (mw s) ms)) ≡ taken b j ms + cond (brings_challenger κ) (mw j) 0) e
              (let w = taken_post b s t κ a b s (mw s) ms in
              let w' : taken b s (post t κ a b s (mw s) ms) ≡ taken b s ms + cond (brings_challenger κ) (mw s) 0 = w ∙ ap (λ c. taken b s ms + cond c (mw s) 0) (both (brings_challenger κ)) in
              (m.elsewhen s (inl (omega arith))).taken_stands ∙ w')
            where
              both : (c : Bool) → (c && (eqb b b && eqb s s)) ≡ c
              both true = rw (eq-eqb b b refl, eq-eqb s s refl)
              both false = refl
          took k lo hi (inr ne) =
              let lo' : suc s ≤ k = omega arith in
              m.takes_more k lo' (omega arith) ∙ ap (λ i. i + cond (brings_challenger κ) (mw k) 0) (off k lo').taken_stands
