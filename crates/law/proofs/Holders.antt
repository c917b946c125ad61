-- Where MW may stand: postings keep to it.
use Rattle.std.proofs.Common.{◌≡◌, ℕ, zero, suc, ◌+◌, ◌<◌, ◌≤◌, Bool, true, false, cond, ◌&&◌, eqb, ◌⊎◌, List, [], ◌∷◌, ◌++◌, sym, subst, inl, inr, arith}
use Rattle.std.proofs.lemmas.Bool.{eqb-true, cases_eq, cases_lt, cases_Bool, and_parts}
use Rattle.journal.specs.declared.line.Line.{Line}
use Rattle.journal.specs.declared.line.LineKind.{LineKind}
use Rattle.journal.specs.Accounts.{Account, outside, free, flown, held, aside, sort, same, from, to, balance, NeverBelowZero}
use Rattle.journal.proofs.Conservation.{never_overdrawn}
use Rattle.law.specs.Posting.{post, by_day, holding}
use Rattle.law.proofs.SoundLines.{solvent_push, takes_le, same_is}
use Rattle.law.proofs.PostingEffects.{balance-post}

-- for each day: what every day keeps, and what each day brings about and the others leave
pub days_ind : (f : ℕ → List Line → List Line) (P : List Line → Type 0) (s d : ℕ) → ((k : ℕ) (ls : List Line) → s ≤ k → k < s + d → P ls → P (f k ls)) → (ls : List Line) → P ls → P (by_day f s d ls)
unfolding by_day
days_ind f P s zero h ls p = p
days_ind f P s (suc d) h ls p = days_ind f P (suc s) d (λ k ms lo hi q. h k ms (omega arith) (omega arith) q) (f s ls) (h s ls (omega arith) (omega arith) p)

pub days_each : (f : ℕ → List Line → List Line) (P : List Line → Type 0) (Z : ℕ → List Line → Type 0) (s d : ℕ) →
    ((k : ℕ) (ls : List Line) → s ≤ k → k < s + d → P ls → P (f k ls)) →
    ((k : ℕ) (ls : List Line) → P ls → Z k (f k ls)) →
    ((j k : ℕ) (ls : List Line) → P ls → Z j ls → Z j (f k ls)) →
    (ls : List Line) → P ls → (j : ℕ) → s ≤ j → j < s + d → Z j (by_day f s d ls)
unfolding by_day
days_each f P Z s zero h z y ls p j lo hi = let z : ⊥ = omega arith in absurd z
days_each f P Z s (suc d) h z y ls p j lo hi = go (λ (q : suc s ≤ j). days_each f P Z (suc s) d (λ k ms l u w. h k ms (omega arith) (omega arith) w) z y (f s ls) (h s ls (omega arith) (omega arith) p) j q (omega arith)) (cases_eq s j)
  where
    after : Z s (f s ls) → (P (f s ls) × Z s (f s ls)) → Z s (by_day f (suc s) d (f s ls))
    after q w = (days_ind f (λ ms. P ms × Z s ms) (suc s) d (λ k ms l u c. (h k ms (omega arith) (omega arith) c.0, y s k ms c.0 c.1)) (f s ls) w).1

    go : (suc s ≤ j → Z j (by_day f (suc s) d (f s ls))) → (s ≡ j) ⊎ (s ≡ j → ⊥) → Z j (by_day f (suc s) d (f s ls))
    go ih (inl e) = subst (λ i. Z i (by_day f (suc s) d (f s ls))) e (after (z s ls p) (h s ls (omega arith) (omega arith) p, z s ls p))
    go ih (inr ne) = ih (omega arith)

pub solvent_post : (ls : List Line) → NeverBelowZero ls → (t : ℕ) (κ : LineKind) (a b k m : ℕ) → m ≤ balance ls (from κ a b) k → NeverBelowZero (post t κ a b k m ls)
unfolding post balance
solvent_post ls f t κ a b k m paid = go (eqb m 0)
  where
    l : Line
    l = record { minute = t; kind = κ; a = a; b = b; day = k; mw = m }

    go : (c : Bool) → NeverBelowZero (cond c ls (ls ++ record { minute = t; kind = κ; a = a; b = b; day = k; mw = m } ∷ []))
    go true = f
    go false = solvent_push ls (record { minute = t; kind = κ; a = a; b = b; day = k; mw = m }) f (λ j x q. omega (arith, never_overdrawn ls f j x q, takes_le x j (record { minute = t; kind = κ; a = a; b = b; day = k; mw = m }) (balance ls) paid))

-- H a k: AREF a may hold MW on day k. A a b k: MW of a may be aside for b on day k
pub record Supp (H : ℕ → ℕ → Type 0) (A : ℕ → ℕ → ℕ → Type 0) (ls : List Line) : Type 0 where
  pub solvent : NeverBelowZero ls
  pub holds : (a k : ℕ) → 0 < holding ls a k → H a k
  pub asides : (a b k : ℕ) → 0 < balance ls (aside a b) k → A a b k

abbrev pub Allowed : (ℕ → ℕ → Type 0) → (ℕ → ℕ → ℕ → Type 0) → ℕ → Account → Type 0
Allowed H A k outside = Unit {0}
Allowed H A k free = Unit {0}
Allowed H A k flown = Unit {0}
Allowed H A k (held a) = H a k
Allowed H A k (aside a b) = A a b k

module _ (H : ℕ → ℕ → Type 0) (A : ℕ → ℕ → ℕ → Type 0) where
  -- an account that has MW after a posting had some before, or the posting brought them
  had : (ls : List Line) (f : NeverBelowZero ls) (t : ℕ) (κ : LineKind) (a b k m : ℕ) → m ≤ balance ls (from κ a b) k → (0 < m → Allowed H A k (to κ a b)) →
      (x : Account) (j : ℕ) → 0 < sort x → (0 < balance ls x j → Allowed H A j x) → 0 < balance (post t κ a b k m ls) x j → Allowed H A j x
  had ls f t κ a b k m paid w x j r old p = go (cases_lt 0 (balance ls x j)) (cases_Bool (eqb k j && same x (to κ a b)))
    where
      e : balance (post t κ a b k m ls) x j + cond (eqb k j && same x (from κ a b)) m 0 ≡ balance ls x j + cond (eqb k j && same x (to κ a b)) m 0
      e = balance-post ls f t κ a b k m paid x j r

      go : (0 < balance ls x j) ⊎ (balance ls x j ≤ 0) → ((eqb k j && same x (to κ a b)) ≡ true) ⊎ ((eqb k j && same x (to κ a b)) ≡ false) → Allowed H A j x
      go (inl o) q = old o
      go (inr o) (inl q) =
          let v = and_parts (eqb k j) (same x (to κ a b)) q in
          let z : cond (eqb k j && same x (to κ a b)) m 0 ≡ m = rw q in
          subst (λ i. Allowed H A i x) (eqb-true k j v.0) (subst (λ y. Allowed H A k y) (sym (same_is x (to κ a b) v.1)) (w (omega (arith, e))))
      go (inr o) (inr q) = let z : cond (eqb k j && same x (to κ a b)) m 0 ≡ 0 = rw q in let b : ⊥ = omega (arith, e) in absurd b

  pub supp_post : (t : ℕ) (κ : LineKind) (a b k m : ℕ) (ls : List Line) → m ≤ balance ls (from κ a b) k → (0 < m → Allowed H A k (to κ a b)) → Supp H A ls → Supp H A (post t κ a b k m ls)
  supp_post t κ a b k m ls paid w s = record {
    solvent = solvent_post ls s.solvent t κ a b k m paid;
    holds = λ c j p. had ls s.solvent t κ a b k m paid w (held c) j (omega arith) (λ q. s.holds c j q) p;
    asides = λ c d j p. had ls s.solvent t κ a b k m paid w (aside c d) j (omega arith) (λ q. s.asides c d j q) p;
  }

pub supp_into : (H H' : ℕ → ℕ → Type 0) (A A' : ℕ → ℕ → ℕ → Type 0) (ls : List Line) →
    ((a k : ℕ) → 0 < holding ls a k → H a k → H' a k) → ((a b k : ℕ) → 0 < balance ls (aside a b) k → A a b k → A' a b k) → Supp H A ls → Supp H' A' ls
supp_into H H' A A' ls f g s = record { solvent = s.solvent; holds = λ a k p. f a k p (s.holds a k p); asides = λ a b k p. g a b k p (s.asides a b k p) }
