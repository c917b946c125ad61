-- Amounts that are set day by day.
use Rattle.std.proofs.Common.{◌≡◌, ℕ, ◌+◌, ◌<◌, ◌≤◌, ◌⊎◌, List, ◌++◌, length, get_or, take, drop, set, sym, ap, ◌∙◌, inl, inr, arith}
use Rattle.std.proofs.lemmas.List.{get_or-set_same, get_or-set_other, get_or-take, get_or-drop, get_or_append_left}
use Rattle.std.proofs.lemmas.Bool.{cases_eq}

-- of the first n days, those before k are set to f, and the others are as they were
pub record SetUntil (f : ℕ → ℕ) (n : ℕ) (before after : List ℕ) (k : ℕ) : Type 0 where
  pub done : (i : ℕ) → i < k → get_or after i 0 ≡ f i
  pub untouched : (i : ℕ) → k ≤ i → i < n → get_or after i 0 ≡ get_or before i 0

pub set_none : (f : ℕ → ℕ) (n : ℕ) (before : List ℕ) → SetUntil f n before (take n before) 0
set_none f n before = record { done = λ i h. absurd (let z : ⊥ = omega arith in z); untouched = λ i h below. get_or-take n before i 0 below }

pub set_next : (f : ℕ → ℕ) (n : ℕ) (before after : List ℕ) (k x : ℕ) → SetUntil f n before after k → k < length after → x ≡ f k → SetUntil f n before (set after k x) (k + 1)
set_next f n before after k x S here e = record {
  done = λ i h. go i h (cases_eq i k);
  untouched = λ i h below. get_or-set_other after k i x 0 (λ (q : i ≡ k). omega arith) ∙ S.untouched i (omega arith) below;
}
  where
    go : (i : ℕ) → i < k + 1 → (i ≡ k) ⊎ (i ≡ k → ⊥) → get_or (set after k x) i 0 ≡ f i
    go i h (inl q) = rw q (get_or-set_same after k x 0 here ∙ e)
    go i h (inr q) = get_or-set_other after k i x 0 q ∙ S.done i (omega arith)

-- the first n days are set, and what comes behind them is put back
pub set_all : (f : ℕ → ℕ) (n : ℕ) (before after : List ℕ) (k : ℕ) → SetUntil f n before after k → n ≤ k → n ≤ length after → (i : ℕ) → i < n → get_or (after ++ drop n before) i 0 ≡ f i
set_all f n before after k S all long i h = get_or_append_left after (drop n before) 0 i (omega arith) ∙ S.done i (omega arith)

-- what is free on the days of a term, and each of these amounts made into another in its place
module _ (made : ℕ → ℕ) (free : List ℕ) (start n : ℕ) where
  abbrev made_on : ℕ → ℕ
  made_on i = made (get_or free (start + i) 0)

  pub made_none : (first : List ℕ) → ((k : ℕ) → k < n → get_or first k 0 ≡ get_or free (start + k) 0) → SetUntil made_on n (drop start free) (take n first) 0
  made_none first same = record {
    done = λ i h. absurd (let z : ⊥ = omega arith in z);
    untouched = λ i h below. get_or-take n first i 0 below ∙ same i below ∙ sym (get_or-drop start free i 0);
  }

  pub made_next : (after : List ℕ) (k x : ℕ) → SetUntil made_on n (drop start free) after k → k < length after → k < n → x ≡ made (get_or after k 0) →
      SetUntil made_on n (drop start free) (set after k x) (k + 1)
  made_next after k x S here below e =
      set_next made_on n (drop start free) after k x S here (e ∙ ap made (S.untouched k (omega arith) below ∙ get_or-drop start free k 0))

  pub made_all : (after rest : List ℕ) (k : ℕ) → SetUntil made_on n (drop start free) after k → n ≤ k → n ≤ length after → (i : ℕ) → i < n → get_or (after ++ rest) i 0 ≡ made_on i
  made_all after rest k S all long i h = get_or_append_left after rest 0 i (omega arith) ∙ S.done i (omega arith)
