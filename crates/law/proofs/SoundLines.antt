-- One line more: what it does to the accounts, and that a line which takes no more than there is keeps them fine.
use Rattle.std.proofs.Common.{◌≡◌, ℕ, zero, suc, ◌+◌, ◌<◌, ◌≤◌, Bool, true, false, cond, ◌&&◌, eqb, ◌⊎◌, List, [], ◌∷◌, ◌++◌, length, take, refl, ap, ◌∙◌, inl, inr, arith}
use Rattle.std.specs.List.{AllByRecursion}
use Rattle.std.proofs.lemmas.List.{take_all, take-append-le, length_push}
use Rattle.std.proofs.ByRecursion.{All-push, All-weaker}
use Rattle.std.proofs.lemmas.Bool.{ne_eqb, eqb-true, cases_lt, cases_Bool, and_parts}
use Rattle.journal.specs.declared.line.Line.{Line}
use Rattle.journal.specs.declared.line.LineKind.{LineKind}
use Rattle.journal.specs.Accounts.{Account, outside, free, flown, held, aside, sort, same, from, source, brings, takes, into, out_of, balance, brought, NeverBelowZero}
use Rattle.journal.proofs.Conservation.{never_overdrawn}
use Rattle.law.specs.Posting.{post, by_day}

pub same_is : (x y : Account) → same x y ≡ true → x ≡ y
same_is outside outside h = refl
same_is outside free h = cc
same_is outside flown h = cc
same_is outside (held a) h = cc
same_is outside (aside a b) h = cc
same_is free outside h = cc
same_is free free h = refl
same_is free flown h = cc
same_is free (held a) h = cc
same_is free (aside a b) h = cc
same_is flown outside h = cc
same_is flown free h = cc
same_is flown flown h = refl
same_is flown (held a) h = cc
same_is flown (aside a b) h = cc
same_is (held c) outside h = cc
same_is (held c) free h = cc
same_is (held c) flown h = cc
same_is (held c) (held a) h = ap held (eqb-true c a h)
same_is (held c) (aside a b) h = cc
same_is (aside c d) outside h = cc
same_is (aside c d) free h = cc
same_is (aside c d) flown h = cc
same_is (aside c d) (held a) h = cc
same_is (aside c d) (aside a b) h =
    let w = and_parts (eqb d b) (eqb c a) h in
    let p = eqb-true d b w.0 in let q = eqb-true c a w.1 in cc

pub into_push : (x : Account) (k : ℕ) (ls : List Line) (l : Line) → into x k (ls ++ l ∷ []) ≡ into x k ls + brings x k l
unfolding into
into_push x k [] l = omega arith
into_push x k (y ∷ ys) l = let h = into_push x k ys l in omega arith

pub out_of_push : (x : Account) (k : ℕ) (ls : List Line) (l : Line) → out_of x k (ls ++ l ∷ []) ≡ out_of x k ls + takes x k l
unfolding out_of
out_of_push x k [] l = omega arith
out_of_push x k (y ∷ ys) l = let h = out_of_push x k ys l in omega arith

pub solvent_push : (ls : List Line) (l : Line) → NeverBelowZero ls → ((k : ℕ) (x : Account) → 0 < sort x → out_of x k ls + takes x k l ≤ into x k ls) → NeverBelowZero (ls ++ l ∷ [])
solvent_push ls l h paid n k x p = go (cases_lt (length ls) n)
  where
    go : (length ls < n) ⊎ (n ≤ length ls) → out_of x k (take n (ls ++ l ∷ [])) ≤ into x k (take n (ls ++ l ∷ []))
    go (inl q) =
        let e = length_push ls l in let s : length (ls ++ l ∷ []) ≤ n = omega arith in
        rw (take_all n (ls ++ l ∷ []) s) (omega (arith, into_push x k ls l, out_of_push x k ls l, paid k x p))
    go (inr q) = rw (take-append-le n ls (l ∷ []) q) (h n k x p)

-- a line takes from one account on one day
pub takes_le : (x : Account) (k : ℕ) (l : Line) (B : Account → ℕ → ℕ) → l.mw ≤ B (source l) l.day → takes x k l ≤ B x k
takes_le x k l B h = go (cases_Bool (eqb l.day k && same x (source l)))
  where
    go : ((eqb l.day k && same x (source l)) ≡ true) ⊎ ((eqb l.day k && same x (source l)) ≡ false) → takes x k l ≤ B x k
    go (inl e) =
        let w = and_parts (eqb l.day k) (same x (source l)) e in
        rw e (rw (same_is x (source l) w.1, ← (eqb-true l.day k w.0)) h)
    go (inr e) = rw e (omega arith)

pub record Fine (n : ℕ) (p : ℕ → ℕ) (ls : List Line) : Type 0 where
  pub solvent : NeverBelowZero ls
  pub names : AllByRecursion (λ l. (l.a < n) × (l.b < n)) ls
  pub whole : (k : ℕ) → brought ls k ≡ p k

not_outside : (x : Account) → 0 < sort x → same outside x ≡ false
not_outside x h = rw (ne_eqb 0 (sort x) (λ (e : 0 ≡ sort x). omega arith))

pub cond_never : (b : Bool) (m : ℕ) → cond (b && false) m 0 ≡ 0
cond_never true m = refl
cond_never false m = refl

module _ (n : ℕ) (p : ℕ → ℕ) where
  pub fine_push : (ls : List Line) (l : Line) → Fine n p ls → l.mw ≤ balance ls (source l) l.day → 0 < sort (source l) → l.a < n → l.b < n → Fine n p (ls ++ l ∷ [])
  unfolding balance
  fine_push ls l f m r a b = record {
    solvent = solvent_push ls l f.solvent (λ k x q. omega (arith, never_overdrawn ls f.solvent k x q, takes_le x k l (balance ls) m));
    names = All-push _ ls l f.names (a, b);
    whole = λ k. out_of_push outside k ls l ∙ (rw not_outside (rw cond_never (omega (arith, f.whole k))));
  }

  pub fine_post : (t : ℕ) (κ : LineKind) (a b k m : ℕ) (ls : List Line) → Fine n p ls → m ≤ balance ls (from κ a b) k → 0 < sort (from κ a b) → a < n → b < n → Fine n p (post t κ a b k m ls)
  unfolding post
  fine_post t κ a b k m ls f h r q w = go (eqb m 0)
    where
      go : (c : Bool) → Fine n p (cond c ls (ls ++ record { minute = t; kind = κ; a = a; b = b; day = k; mw = m } ∷ []))
      go true = f
      go false = fine_push ls (record { minute = t; kind = κ; a = a; b = b; day = k; mw = m }) f h r q w

  pub fine_days : (f : ℕ → List Line → List Line) → ((k : ℕ) (ls : List Line) → Fine n p ls → Fine n p (f k ls)) → (s d : ℕ) (ls : List Line) → Fine n p ls → Fine n p (by_day f s d ls)
  unfolding by_day
  fine_days f h s zero ls g = g
  fine_days f h s (suc d) ls g = fine_days f h (suc s) d (f s ls) (h s ls g)

pub fine_wider : (n m : ℕ) (p : ℕ → ℕ) (ls : List Line) → n ≤ m → Fine n p ls → Fine m p ls
fine_wider n m p ls h f = record { solvent = f.solvent; whole = f.whole; names = All-weaker _ _ (λ l q. omega arith) ls f.names }
