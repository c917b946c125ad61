-- A walk over days that posts at most one line on each.
use Rattle.std.proofs.Common.{◌≡◌, ℕ, zero, suc, ◌+◌, ◌<◌, ◌≤◌, Bool, true, false, cond, eqb, ◌⊎◌, List, [], ◌∷◌, ◌++◌, length, sym, refl, ap, ◌∙◌, inl, inr, add-zero, add-one, arith}
use Rattle.std.proofs.lemmas.List.{length_push}
use Rattle.std.proofs.lemmas.Bool.{eq-eqb, ne_eqb}
use Rattle.journal.specs.declared.line.Line.{Line}
use Rattle.journal.specs.declared.line.LineKind.{LineKind}
use Rattle.journal.specs.declared.line.LineKind.TheVariants.{Posted, Granted, Superseded, Recalled, SetAside, Lost, Kept, Extended, Ceded, Released, Flown}
use Rattle.journal.specs.Accounts.{Account, sort, from, to, balance, NeverBelowZero}
use Rattle.law.specs.Posting.{post, by_day, busy_days}
use Rattle.law.proofs.Holders.{days_ind, solvent_post}
use Rattle.law.proofs.PostingEffects.{day_post}

day_more : (f : ℕ → List Line → List Line) (s n : ℕ) (ls : List Line) → by_day f s (suc n) ls ≡ f (s + n) (by_day f s n ls)
unfolding by_day
day_more f s zero ls = ap (λ (k : ℕ). f k ls) (sym (add-zero s))
day_more f s (suc n) ls = day_more f (suc s) n (f s ls) ∙ ap (λ (k : ℕ). f k (by_day f (suc s) n (f s ls))) (let e : suc s + n ≡ s + suc n = omega arith in e)

pub by_day_more : (f : ℕ → List Line → List Line) (s n : ℕ) (ls : List Line) → by_day f s (n + 1) ls ≡ f (s + n) (by_day f s n ls)
by_day_more f s n ls = ap (λ (k : ℕ). by_day f s k ls) (add-one n) ∙ day_more f s n ls

pub by_day_none : (f : ℕ → List Line → List Line) (s : ℕ) (ls : List Line) → by_day f s 0 ls ≡ ls
unfolding by_day
by_day_none f s ls = refl

pub length-post : (t : ℕ) (κ : LineKind) (a b k m : ℕ) (ls : List Line) → length (post t κ a b k m ls) ≡ length ls + cond (eqb m 0) 0 1
unfolding post
length-post t κ a b k m ls = go (eqb m 0)
  where
    go : (c : Bool) → length (cond c ls (ls ++ record { minute = t; kind = κ; a = a; b = b; day = k; mw = m } ∷ [])) ≡ length ls + cond c 0 1
    go true = omega arith
    go false = length_push ls (record { minute = t; kind = κ; a = a; b = b; day = k; mw = m })

-- how many days have something, one day further
pub busy_none : (f : ℕ → ℕ) (s : ℕ) → busy_days f s 0 ≡ 0
unfolding busy_days
busy_none f s = refl

busy_more : (f : ℕ → ℕ) (s k : ℕ) → busy_days f s (k + 1) ≡ busy_days f s k + cond (eqb (f (s + k)) 0) 0 1
unfolding busy_days
busy_more f s k = ap (busy_days f s) (add-one k)

pub busy_here : (f : ℕ → ℕ) (s k : ℕ) → 0 < f (s + k) → busy_days f s (k + 1) ≡ busy_days f s k + 1
busy_here f s k h = busy_more f s k ∙ rw (ne_eqb (f (s + k)) 0 (λ (z : f (s + k) ≡ 0). omega arith)) refl

pub idle_here : (f : ℕ → ℕ) (s k : ℕ) → f (s + k) ≤ 0 → busy_days f s (k + 1) ≡ busy_days f s k
idle_here f s k h = busy_more f s k ∙ rw (eq-eqb (f (s + k)) 0 (omega arith)) (omega arith)

-- days that have something by either count
pub busy_same : (f g : ℕ → ℕ) → ((k : ℕ) → eqb (f k) 0 ≡ eqb (g k) 0) → (s n : ℕ) → busy_days f s n ≡ busy_days g s n
unfolding busy_days
busy_same f g h s zero = refl
busy_same f g h s (suc n) = let z = ap (λ (c : Bool). cond {A = ℕ} c 0 1) (h (s + n)) in omega (arith, busy_same f g h s n)

-- steps that never shorten the journal
pub by_day_grows : (f : ℕ → List Line → List Line) → ((k : ℕ) (ls : List Line) → length ls ≤ length (f k ls)) → (s n d : ℕ) (ls : List Line) → length (by_day f s n ls) ≤ length (by_day f s (n + d) ls)
by_day_grows f g s n zero ls = rw add-zero (omega arith)
by_day_grows f g s n (suc d) ls =
    let e : n + suc d ≡ (n + d) + 1 = omega arith in
    rw (e, by_day_more f s (n + d) ls) (omega (arith, by_day_grows f g s n d ls, g (s + (n + d)) (by_day f s (n + d) ls)))

pub to_inner : (κ : LineKind) (a b : ℕ) → 0 < sort (to κ a b)
to_inner Posted a b = omega arith
to_inner Granted a b = omega arith
to_inner Superseded a b = omega arith
to_inner Recalled a b = omega arith
to_inner SetAside a b = omega arith
to_inner Lost a b = omega arith
to_inner Kept a b = omega arith
to_inner Extended a b = omega arith
to_inner Ceded a b = omega arith
to_inner Released a b = omega arith
to_inner Flown a b = omega arith

-- postings of amounts that are paid for
module _ (t : ℕ) (κ : LineKind) (a b : ℕ) (m : ℕ → List Line → ℕ) (pays : (k : ℕ) (ls : List Line) → m k ls ≤ balance ls (from κ a b) k) where
  abbrev walk : ℕ → List Line → List Line
  walk k ls = post t κ a b k (m k ls) ls

  pub walk_solvent : (s n : ℕ) (ls : List Line) → NeverBelowZero ls → NeverBelowZero (by_day walk s n ls)
  walk_solvent s n ls h = days_ind walk NeverBelowZero s n (λ k xs lo hi q. solvent_post xs q t κ a b k (m k xs) (pays k xs)) ls h

  -- what another day has is as it was
  pub walk_elsewhen : (s n : ℕ) (ls : List Line) → NeverBelowZero ls → (x : Account) → 0 < sort x → (day : ℕ) → (day < s) ⊎ (s + n ≤ day) → balance (by_day walk s n ls) x day ≡ balance ls x day
  walk_elsewhen s n ls h x r day out =
      (days_ind walk (λ xs. NeverBelowZero xs × (balance xs x day ≡ balance ls x day)) s n
      (λ k xs lo hi q. (
        solvent_post xs q.0 t κ a b k (m k xs) (pays k xs),
        day_post xs q.0 t κ a b k (m k xs) (pays k xs) x day r (elim out [ inl p ↦ (λ (e : k ≡ day). omega arith) | inr p ↦ (λ (e : k ≡ day). omega arith) ]) ∙ q.1,
      ))
      ls (h, refl)).1

  -- the lines to write are counted before any is, where an amount depends on its own day alone
  module _ (ls : List Line) (h : NeverBelowZero ls) (r : 0 < sort (from κ a b))
      (own_day : (k : ℕ) (xs : List Line) → ((x : Account) → 0 < sort x → balance xs x k ≡ balance ls x k) → m k xs ≡ m k ls) where
    pub length-walk : (s n : ℕ) → length (by_day walk s n ls) ≡ length ls + busy_days (λ k. m k ls) s n
    unfolding busy_days
    length-walk s zero = omega (arith, ap length (by_day_none walk s ls))
    length-walk s (suc n) =
        let e = ap length (day_more walk s n ls) in
        let q = length-post t κ a b (s + n) (m (s + n) (by_day walk s n ls)) (by_day walk s n ls) in
        let z = own_day (s + n) (by_day walk s n ls) (λ x p. walk_elsewhen s n ls h x p (s + n) (inr (omega arith))) in
        let q' = ap (λ (x : ℕ). cond {A = ℕ} (eqb x 0) 0 1) z in
        omega (arith, length-walk s n)
