-- What one posting does to each account.
use Rattle.std.proofs.Common.{◌≡◌, ℕ, ◌+◌, ◌-◌, ◌<◌, ◌≤◌, Bool, true, false, cond, ◌&&◌, eqb, ◌⊎◌, List, [], ◌∷◌, ◌++◌, refl, inl, inr, arith}
use Rattle.std.proofs.lemmas.Bool.{eq-eqb, ne_eqb, eqb-true, cases_Bool}
use Rattle.journal.specs.declared.line.Line.{Line}
use Rattle.journal.specs.declared.line.LineKind.{LineKind}
use Rattle.journal.specs.Accounts.{Account, outside, free, flown, held, aside, sort, same, from, to, takes, into, out_of, balance, NeverBelowZero}
use Rattle.journal.proofs.Conservation.{never_overdrawn}
use Rattle.law.specs.Posting.{post}
use Rattle.law.specs.Preemption.{taken, brings_challenger}
use Rattle.law.proofs.SoundLines.{into_push, out_of_push, takes_le, cond_never}

pub same_self : (x : Account) → same x x ≡ true
same_self outside = refl
same_self free = refl
same_self flown = refl
same_self (held a) = eq-eqb a a refl
same_self (aside a b) = rw (eq-eqb b b refl, eq-eqb a a refl)

pub line : ℕ → LineKind → ℕ → ℕ → ℕ → ℕ → Line
line t κ a b k m = record { minute = t; kind = κ; a = a; b = b; day = k; mw = m }

module _ (ls : List Line) (fine : NeverBelowZero ls) (t : ℕ) (κ : LineKind) (a b k m : ℕ) (paid : m ≤ balance ls (from κ a b) k) where
  pub balance-push : (x : Account) (j : ℕ) → 0 < sort x →
      balance (ls ++ record { minute = t; kind = κ; a = a; b = b; day = k; mw = m } ∷ []) x j + cond (eqb k j && same x (from κ a b)) m 0
      ≡ balance ls x j + cond (eqb k j && same x (to κ a b)) m 0
  unfolding balance
  balance-push x j h =
      let l : Line = record { minute = t; kind = κ; a = a; b = b; day = k; mw = m } in
      let i = into_push x j ls l in
      let o = out_of_push x j ls l in
      let w = never_overdrawn ls fine j x h in
      let q : takes x j l ≤ into x j ls - out_of x j ls = takes_le x j l (balance ls) paid in
      omega arith

  pub balance-post : (x : Account) (j : ℕ) → 0 < sort x →
      balance (post t κ a b k m ls) x j + cond (eqb k j && same x (from κ a b)) m 0 ≡ balance ls x j + cond (eqb k j && same x (to κ a b)) m 0
  unfolding post
  balance-post x j h = go (cases_Bool (eqb m 0))
    where
      zero_cond : (c : Bool) → m ≡ 0 → cond c m 0 ≡ 0
      zero_cond true e = e
      zero_cond false e = refl

      go : (eqb m 0 ≡ true) ⊎ (eqb m 0 ≡ false) →
          balance (cond (eqb m 0) ls (ls ++ record { minute = t; kind = κ; a = a; b = b; day = k; mw = m } ∷ [])) x j + cond (eqb k j && same x (from κ a b)) m 0 ≡ balance ls x j + cond (eqb k j && same x (to κ a b)) m 0
      go (inl e) = let z = eqb-true m 0 e in rw e (omega (arith, zero_cond (eqb k j && same x (from κ a b)) z, zero_cond (eqb k j && same x (to κ a b)) z))
      go (inr e) = rw e (balance-push x j h)

  -- an account that the posting does not bring to has no more than before
  pub less_post : (x : Account) (j : ℕ) → 0 < sort x → same x (to κ a b) ≡ false → balance (post t κ a b k m ls) x j ≤ balance ls x j
  less_post x j h e = let q : cond (eqb k j && same x (to κ a b)) m 0 ≡ 0 = rw e (cond_never (eqb k j) m) in omega (arith, balance-post x j h)

  -- one that it does not take from has no less
  pub more_post : (x : Account) (j : ℕ) → 0 < sort x → same x (from κ a b) ≡ false → balance ls x j ≤ balance (post t κ a b k m ls) x j
  more_post x j h e = let q : cond (eqb k j && same x (from κ a b)) m 0 ≡ 0 = rw e (cond_never (eqb k j) m) in omega (arith, balance-post x j h)

  -- on another day nothing changes
  pub day_post : (x : Account) (j : ℕ) → 0 < sort x → (k ≡ j → ⊥) → balance (post t κ a b k m ls) x j ≡ balance ls x j
  day_post x j h ne = let e = balance-post x j h in let q = rw (ne_eqb k j ne) at e in omega arith

  -- what it takes is gone from where it stood
  pub from_post : 0 < sort (from κ a b) → same (from κ a b) (to κ a b) ≡ false → balance (post t κ a b k m ls) (from κ a b) k + m ≡ balance ls (from κ a b) k
  from_post h e = let w = balance-post (from κ a b) k h in let q = rw (eq-eqb k k refl, same_self (from κ a b), e) at w in omega arith

pub taken_push : (b k : ℕ) (ls : List Line) (l : Line) → taken b k (ls ++ l ∷ []) ≡ taken b k ls + cond (brings_challenger l.kind && (eqb l.b b && eqb l.day k)) l.mw 0
unfolding taken
taken_push b k [] l = omega arith
taken_push b k (y ∷ ys) l = let h = taken_push b k ys l in omega arith

pub taken_post : (c j t : ℕ) (κ : LineKind) (a b k m : ℕ) (ls : List Line) → taken c j (post t κ a b k m ls) ≡ taken c j ls + cond (brings_challenger κ && (eqb b c && eqb k j)) m 0
unfolding post
taken_post c j t κ a b k m ls = go (cases_Bool (eqb m 0))
  where
    zero_cond : (c : Bool) → m ≡ 0 → cond c m 0 ≡ 0
    zero_cond true e = e
    zero_cond false e = refl

    go : (eqb m 0 ≡ true) ⊎ (eqb m 0 ≡ false) → taken c j (cond (eqb m 0) ls (ls ++ record { minute = t; kind = κ; a = a; b = b; day = k; mw = m } ∷ [])) ≡ taken c j ls + cond (brings_challenger κ && (eqb b c && eqb k j)) m 0
    go (inl e) = rw e (omega (arith, zero_cond (brings_challenger κ && (eqb b c && eqb k j)) (eqb-true m 0 e)))
    go (inr e) = rw e (taken_push c j ls (record { minute = t; kind = κ; a = a; b = b; day = k; mw = m }))
