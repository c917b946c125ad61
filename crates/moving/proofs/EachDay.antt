-- A test of each of some days, as a test of each of the amounts that memory has for them.
use Rattle.std.proofs.Common.{◌≡◌, ℕ, zero, suc, ◌+◌, ◌<◌, ◌≤◌, Bool, List, [], ◌∷◌, length, get_or, take, refl, ap, ◌∙◌, arith}
use Rattle.std.specs.List.{list_all}
use Rattle.law.specs.Posting.{each_day}

pub each_of_amounts : (on of : ℕ → Bool) (amounts : List ℕ) (start n : ℕ) → n ≤ length amounts →
    ((k : ℕ) → k < n → on (start + k) ≡ of (get_or amounts k 0)) → each_day on start n ≡ list_all of (take n amounts)
unfolding each_day
each_of_amounts on of amounts start zero fits same = refl
each_of_amounts on of [] start (suc n) fits same = absurd (let no : ⊥ = omega arith in no)
each_of_amounts on of (mw ∷ amounts) start (suc n) fits same =
    let first : on start ≡ of mw = (let e : start ≡ start + 0 = omega arith in ap on e) ∙ same 0 (omega arith) in
    let rest = each_of_amounts on of amounts (suc start) n (omega arith) (λ k h. (let e : suc start + k ≡ start + suc k = omega arith in ap on e) ∙ same (suc k) (omega arith)) in
    rw (first, rest) refl
