-- Double entry: lines that never take more than there is lose nothing.
use Rattle.std.proofs.Common.{◌≡◌, ℕ, ◌+◌, ◌<◌, ◌≤◌, Bool, true, false, cond, ◌&&◌, eqb, List, [], ◌∷◌, length, sym, refl, ◌∙◌, arith}
use Rattle.std.specs.List.{AllByRecursion}
use Rattle.std.proofs.lemmas.List.{take_all}
use Rattle.journal.specs.declared.line.Line.{Line}
use Rattle.journal.specs.declared.line.LineKind.{LineKind}
use Rattle.journal.specs.declared.line.LineKind.TheVariants.{Posted, Granted, Superseded, Recalled, SetAside, Lost, Kept, Extended, Ceded, Released, Flown}
use Rattle.journal.specs.Accounts.{Account, outside, free, flown, held, aside, sort, owner, claimant, same, from, to, source, target, brings, takes, into, out_of, balance, sum_below, NeverBelowZero, NoneLost}
use Rattle.journal.proofs.Sums.{sum_below_add, sum_below_alike, sum_below_zero, sum_below_point, sum_below_both}

-- the sum of f over free, flown, and the held and aside accounts of the AREFs below n
abbrev in_all : ℕ → (Account → ℕ) → ℕ
in_all n f = f free + sum_below n (λ a. f (held a)) + sum_below n (λ a. sum_below n (λ b. f (aside a b))) + f flown

in_all_add : (n : ℕ) (f g : Account → ℕ) → in_all n (λ x. f x + g x) ≡ in_all n f + in_all n g
in_all_add n f g =
    let h = sum_below_add n (λ a. f (held a)) (λ a. g (held a)) in
    let s = sum_below_alike n (λ a. sum_below n (λ b. f (aside a b) + g (aside a b))) (λ a. sum_below n (λ b. f (aside a b)) + sum_below n (λ b. g (aside a b))) (λ a. sum_below_add n (λ b. f (aside a b)) (λ b. g (aside a b)))
    ∙ sum_below_add n (λ a. sum_below n (λ b. f (aside a b))) (λ a. sum_below n (λ b. g (aside a b))) in
    omega arith

in_all_ext : (n : ℕ) (f g : Account → ℕ) → ((x : Account) → 0 < sort x → f x ≡ g x) → in_all n f ≡ in_all n g
in_all_ext n f g h =
    let a : f free ≡ g free = h free (omega arith) in
    let b : f flown ≡ g flown = h flown (omega arith) in
    let c = sum_below_alike n (λ a. f (held a)) (λ a. g (held a)) (λ a. h (held a) (omega arith)) in
    let d = sum_below_alike n (λ a. sum_below n (λ b. f (aside a b))) (λ a. sum_below n (λ b. g (aside a b))) (λ a. sum_below_alike n (λ b. f (aside a b)) (λ b. g (aside a b)) (λ b. h (aside a b) (omega arith))) in
    omega arith

in_all_zero : (n : ℕ) → in_all n (λ x. 0) ≡ 0
in_all_zero n = let z = sum_below_zero n in let zz = sum_below_alike n _ _ (λ (a : ℕ). sum_below_zero n) ∙ z in omega arith

-- an amount counts once in the account where it stands, and the outside does not count
abbrev inside : Account → ℕ → ℕ
inside outside m = 0
inside free m = m
inside flown m = m
inside (held a) m = m
inside (aside a b) m = m

in_all_point : (n m : ℕ) (t : Account) → owner t < n → claimant t < n → in_all n (λ x. cond (same x t) m 0) ≡ inside t m
in_all_point n m outside h k = let z = sum_below_zero n in let zz = sum_below_alike n _ _ (λ (a : ℕ). sum_below_zero n) ∙ z in omega arith
in_all_point n m free h k = let z = sum_below_zero n in let zz = sum_below_alike n _ _ (λ (a : ℕ). sum_below_zero n) ∙ z in omega arith
in_all_point n m flown h k = let z = sum_below_zero n in let zz = sum_below_alike n _ _ (λ (a : ℕ). sum_below_zero n) ∙ z in omega arith
in_all_point n m (held c) h k = let p = sum_below_point n c m h in let z = sum_below_zero n in let zz = sum_below_alike n _ _ (λ (a : ℕ). sum_below_zero n) ∙ z in omega arith
in_all_point n m (aside c d) h k =
    let z = sum_below_zero n in
    let p = sum_below_alike n _ _ (λ (a : ℕ). sum_below_both n d m (eqb a c) k) ∙ sum_below_point n c m h in omega arith

inside_zero : (t : Account) → inside t 0 ≡ 0
inside_zero outside = refl
inside_zero free = refl
inside_zero flown = refl
inside_zero (held a) = refl
inside_zero (aside a b) = refl

in_all_at : (n k m : ℕ) (d : Bool) (t : Account) → owner t < n → claimant t < n → in_all n (λ x. cond (d && same x t) m 0) ≡ inside t (cond d m 0)
in_all_at n k m true t p q = in_all_point n m t p q
in_all_at n k m false t p q = in_all_zero n ∙ sym (inside_zero t)

-- the accounts that a line names are among those below n
named : (n a b : ℕ) (κ : LineKind) → a < n → b < n →
    (owner (to κ a b) < n) × (claimant (to κ a b) < n) × (owner (from κ a b) < n) × (claimant (from κ a b) < n)
named n a b Posted p q = omega arith
named n a b Granted p q = omega arith
named n a b Superseded p q = omega arith
named n a b Recalled p q = omega arith
named n a b SetAside p q = omega arith
named n a b Lost p q = omega arith
named n a b Kept p q = omega arith
named n a b Extended p q = omega arith
named n a b Ceded p q = omega arith
named n a b Released p q = omega arith
named n a b Flown p q = omega arith

-- a line brings in what it takes out, but for what comes from outside
evens : (a b m : ℕ) (d : Bool) (κ : LineKind) → inside (to κ a b) (cond d m 0) ≡ inside (from κ a b) (cond d m 0) + cond (d && same outside (from κ a b)) m 0
evens a b m true Posted = omega arith
evens a b m true Granted = omega arith
evens a b m true Superseded = omega arith
evens a b m true Recalled = omega arith
evens a b m true SetAside = omega arith
evens a b m true Lost = omega arith
evens a b m true Kept = omega arith
evens a b m true Extended = omega arith
evens a b m true Ceded = omega arith
evens a b m true Released = omega arith
evens a b m true Flown = omega arith
evens a b m false κ = inside_zero (to κ a b) ∙ (sym (inside_zero (from κ a b)) ∙ omega arith)

line_even : (n k : ℕ) (l : Line) → l.a < n → l.b < n → in_all n (λ x. brings x k l) ≡ in_all n (λ x. takes x k l) + takes outside k l
line_even n k l p q =
    let w = named n l.a l.b l.kind p q in
    let i = in_all_at n k l.mw (eqb l.day k) (target l) w.0 w.1 in
    let o = in_all_at n k l.mw (eqb l.day k) (source l) w.2 w.3 in
    let e = evens l.a l.b l.mw (eqb l.day k) l.kind in
    omega arith

-- double entry: what came in is what went out, and what was posted
even : (n k : ℕ) (ls : List Line) → AllByRecursion (λ l. (l.a < n) × (l.b < n)) ls → in_all n (λ x. into x k ls) ≡ in_all n (λ x. out_of x k ls) + out_of outside k ls
unfolding into out_of
even n k [] h = rw in_all_zero (omega arith)
even n k (l ∷ ls) h =
    let ih = even n k ls h.1 in
    let e = line_even n k l h.0.0 h.0.1 in
    let i = in_all_add n (λ x. brings x k l) (λ x. into x k ls) in
    let o = in_all_add n (λ x. takes x k l) (λ x. out_of x k ls) in
    omega arith

pub never_overdrawn : (ls : List Line) → NeverBelowZero ls → (k : ℕ) (x : Account) → 0 < sort x → out_of x k ls ≤ into x k ls
never_overdrawn ls h k x p = let q : length ls ≤ length ls = omega arith in rw (take_all (length ls) ls q) at (h (length ls) k x p)

pub none_lost : NoneLost
unfolding balance
none_lost n k ls h named =
    let b = in_all_add n (λ x. balance ls x k) (λ x. out_of x k ls) in
    let e = in_all_ext n (λ x. balance ls x k + out_of x k ls) (λ x. into x k ls) (λ x p. omega (arith, never_overdrawn ls h k x p)) in
    let d = even n k ls named in
    omega arith
