-- No account ever has more on a day than was posted.
use Rattle.std.proofs.Common.{◌≡◌, ℕ, zero, suc, ◌+◌, ◌<◌, ◌≤◌, ◌⊎◌, List, [], ◌∷◌, refl, inl, inr, arith}
use Rattle.std.proofs.ByRecursion.{All-weaker}
use Rattle.std.proofs.lemmas.Bool.{cases_eq}
use Rattle.journal.specs.declared.line.Line.{Line}
use Rattle.journal.specs.Accounts.{Account, outside, free, flown, held, aside, sort, owner, claimant, balance, brought, sum_below, NeverBelowZero, NamesBelow, AddsUp}
use Rattle.journal.proofs.Conservation.{none_lost}
use Rattle.law.proofs.SoundLines.{Fine}

one_of_sum : (n a : ℕ) (f : ℕ → ℕ) → a < n → f a ≤ sum_below n f
unfolding sum_below
one_of_sum zero a f h = omega arith
one_of_sum (suc n) a f h = go (λ (l : a < n). one_of_sum n a f l) (cases_eq a n)
  where
    go : (a < n → f a ≤ sum_below n f) → (a ≡ n) ⊎ (a ≡ n → ⊥) → f a ≤ sum_below n f + f n
    go ih (inl e) = rw e (omega arith)
    go ih (inr e) = omega (arith, ih (omega arith))

-- the AREFs of any lines are below some number
pub named_below : (ls : List Line) → (n : ℕ) × NamesBelow n ls
named_below [] = (0, tt)
named_below (l ∷ ls) =
    let rest = named_below ls in
    (rest.0 + (l.a + (l.b + 1)), ((omega arith, omega arith), All-weaker _ _ (λ x h. omega arith) ls rest.1))

one_account : (n : ℕ) (ls : List Line) (day : ℕ) → AddsUp n ls day → (x : Account) → 0 < sort x → owner x < n → claimant x < n → balance ls x day ≤ brought ls day
one_account n ls day e outside r w z = omega arith
one_account n ls day e free r w z = omega arith
one_account n ls day e flown r w z = omega arith
one_account n ls day e (held a) r w z = omega (arith, one_of_sum n a (λ a. balance ls (held a) day) w)
one_account n ls day e (aside a b) r w z =
    let i = one_of_sum n a (λ a. sum_below n (λ b. balance ls (aside a b) day)) w in
    let j = one_of_sum n b (λ b. balance ls (aside a b) day) z in
    omega arith

-- lines that never take more than there is, with p posted, are fine below some number above any other
pub fine_below : (p : ℕ → ℕ) (ls : List Line) → NeverBelowZero ls → ((day : ℕ) → brought ls day ≡ p day) → (m : ℕ) → (n : ℕ) × (m < n) × Fine n p ls
fine_below p ls h whole m =
    let some = named_below ls in
    (some.0 + (m + 1), omega arith, record { solvent = h; names = All-weaker _ _ (λ l q. omega arith) ls some.1; whole = whole })

pub account_bound : (ls : List Line) → NeverBelowZero ls → (x : Account) → 0 < sort x → (day : ℕ) → balance ls x day ≤ brought ls day
account_bound ls h x r day =
    let f = fine_below (brought ls) ls h (λ k. refl) (owner x + claimant x) in
    one_account f.0 ls day (none_lost f.0 day ls h f.2.names) x r (omega (arith, f.1)) (omega (arith, f.1))
