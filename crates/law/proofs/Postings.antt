-- The accounts after nothing but postings.
use Rattle.std.proofs.Common.{◌≡◌, ℕ, suc, ◌+◌, ◌-◌, ◌<◌, ◌≤◌, Bool, true, false, cond, ◌&&◌, eqb, ltb, leb, ◌⊎◌, List, [], ◌∷◌, get_or, take, refl, ap, ◌∙◌, inl, inr, arith}
use Rattle.std.specs.List.{AllByRecursion}
use Rattle.std.proofs.ByRecursion.{All-take}
use Rattle.std.proofs.lemmas.Bool.{cases_lt, cases_order, eq-eqb, ne_eqb, lt-ltb, le-ltb, le-leb, lt-leb}
use Rattle.journal.specs.declared.line.Line.{Line}
use Rattle.journal.specs.declared.line.LineKind.TheVariants.{Posted}
use Rattle.journal.specs.Accounts.{Account, outside, free, sort, same, brings, takes, into, out_of, balance, brought, NeverBelowZero, NamesBelow}
use Rattle.law.specs.Opened.{postings}

-- lines that only post
abbrev pub PostingOnly : List Line → Type 0
PostingOnly ls = AllByRecursion (λ l. (l.kind ≡ Posted) × (l.a ≡ 0) × (l.b ≡ 0)) ls

pub postings_only : (day : ℕ) (amounts : List ℕ) → PostingOnly (postings day amounts)
postings_only day [] = tt
postings_only day (mw ∷ amounts) = go (postings_only (suc day) amounts) (ltb 0 mw)
  where
    go : PostingOnly (postings (suc day) amounts) → (c : Bool) → PostingOnly (cond c (record { minute = 0; kind = Posted; a = 0; b = 0; day = day; mw = mw } ∷ postings (suc day) amounts) (postings (suc day) amounts))
    go rest true = ((refl, refl, refl), rest)
    go rest false = rest

never : (b : Bool) (m : ℕ) → cond (b && false) m 0 ≡ 0
never true m = refl
never false m = refl

not_outside : (x : Account) → 0 < sort x → same x outside ≡ false
not_outside x h = rw (ne_eqb (sort x) 0 (λ (e : sort x ≡ 0). omega arith)) refl

not_free : (x : Account) → 1 < sort x → same x free ≡ false
not_free x h = rw (ne_eqb (sort x) 1 (λ (e : sort x ≡ 1). omega arith)) refl

pub posting_takes_none : (ls : List Line) → PostingOnly ls → (x : Account) (day : ℕ) → 0 < sort x → out_of x day ls ≡ 0
unfolding out_of
posting_takes_none [] p x day h = refl
posting_takes_none (l ∷ ls) p x day h =
    let rest = posting_takes_none ls p.1 x day h in
    let one : takes x day l ≡ 0 = rw (p.0.0, not_outside x h) (never (eqb l.day day) l.mw) in
    omega arith

pub posting_brings_none : (ls : List Line) → PostingOnly ls → (x : Account) (day : ℕ) → 1 < sort x → into x day ls ≡ 0
unfolding into
posting_brings_none [] p x day h = refl
posting_brings_none (l ∷ ls) p x day h =
    let rest = posting_brings_none ls p.1 x day h in
    let one : brings x day l ≡ 0 = rw (p.0.0, not_free x h) (never (eqb l.day day) l.mw) in
    omega arith

pub posting_frees_all : (ls : List Line) → PostingOnly ls → (day : ℕ) → into free day ls ≡ brought ls day
unfolding into out_of
posting_frees_all [] p day = refl
posting_frees_all (l ∷ ls) p day =
    let rest = posting_frees_all ls p.1 day in
    let one : brings free day l ≡ takes outside day l = rw p.0.0 refl in
    omega arith

pub posting_solvent : (ls : List Line) → PostingOnly ls → NeverBelowZero ls
posting_solvent ls p n day x h = let z = posting_takes_none (take n ls) (All-take _ n ls p) x day h in omega arith

pub posting_names : (ls : List Line) → PostingOnly ls → NamesBelow 1 ls
posting_names [] p = tt
posting_names (l ∷ ls) p = ((omega (arith, p.0.1), omega (arith, p.0.2)), posting_names ls p.1)

-- one posting more on its day
one_posting : (start mw day : ℕ) (rest : List Line) →
    brought (cond (ltb 0 mw) (record { minute = 0; kind = Posted; a = 0; b = 0; day = start; mw = mw } ∷ rest) rest) day ≡ cond (eqb start day) mw 0 + brought rest day
unfolding out_of
one_posting start mw day rest = go (cases_lt 0 mw)
  where
    always : (b : Bool) (m : ℕ) → cond (b && true) m 0 ≡ cond b m 0
    always true m = refl
    always false m = refl

    nothing : (b : Bool) → mw ≡ 0 → cond b mw 0 ≡ 0
    nothing true e = e
    nothing false e = refl

    go : (0 < mw) ⊎ (mw ≤ 0) → brought (cond (ltb 0 mw) (record { minute = 0; kind = Posted; a = 0; b = 0; day = start; mw = mw } ∷ rest) rest) day ≡ cond (eqb start day) mw 0 + brought rest day
    go (inl p) = rw (lt-ltb 0 mw p) (ap (λ n. n + brought rest day) (always (eqb start day) mw))
    go (inr p) = rw (le-ltb 0 mw p) (omega (arith, nothing (eqb start day) (omega arith)))

-- the amount on a day, of amounts from a day on
abbrev amount_from : ℕ → List ℕ → ℕ → ℕ
amount_from start amounts day = cond (leb start day) (get_or amounts (day - start) 0) 0

-- the day itself, and the days after it
amount_split : (start mw day : ℕ) (amounts : List ℕ) → cond (eqb start day) mw 0 + amount_from (suc start) amounts day ≡ amount_from start (mw ∷ amounts) day
amount_split start mw day amounts = go (cases_order start day)
  where
    go : (start ≡ day) ⊎ ((start < day) ⊎ (day < start)) → cond (eqb start day) mw 0 + amount_from (suc start) amounts day ≡ amount_from start (mw ∷ amounts) day
    go (inl e) =
        let z : day - start ≡ 0 = omega arith in
        let p : start ≤ day = omega arith in let q : day < suc start = omega arith in
        rw (eq-eqb start day e, le-leb start day p, lt-leb (suc start) day q, z) (omega arith)
    go (inr (inl h)) =
        let z : day - start ≡ suc (day - suc start) = omega arith in
        let p : start ≤ day = omega arith in let q : suc start ≤ day = omega arith in let n : start ≡ day → ⊥ = λ (e : start ≡ day). omega arith in
        rw (ne_eqb start day n, le-leb start day p, le-leb (suc start) day q, z) (omega arith)
    go (inr (inr h)) =
        let q : day < suc start = omega arith in let n : start ≡ day → ⊥ = λ (e : start ≡ day). omega arith in
        rw (ne_eqb start day n, lt-leb start day h, lt-leb (suc start) day q) (omega arith)

-- on each day what is posted is the day's amount
postings_bring_from : (start : ℕ) (amounts : List ℕ) (day : ℕ) → brought (postings start amounts) day ≡ amount_from start amounts day
unfolding out_of
postings_bring_from start [] day = go (leb start day)
  where
    go : (c : Bool) → ◌≡◌ {A = ℕ} 0 (cond c 0 0)
    go true = refl
    go false = refl
postings_bring_from start (mw ∷ amounts) day =
    one_posting start mw day (postings (suc start) amounts)
    ∙ (ap (λ n. cond (eqb start day) mw 0 + n) (postings_bring_from (suc start) amounts day) ∙ amount_split start mw day amounts)

pub postings_bring : (amounts : List ℕ) (day : ℕ) → brought (postings 0 amounts) day ≡ get_or amounts day 0
postings_bring amounts day = let z : day - 0 ≡ day = omega arith in let p : 0 ≤ day = omega arith in postings_bring_from 0 amounts day ∙ rw (le-leb 0 day p, z) refl

-- after the postings the amount of each day is free, and nothing stands elsewhere
pub postings_free : (amounts : List ℕ) (day : ℕ) → balance (postings 0 amounts) free day ≡ get_or amounts day 0
unfolding balance
postings_free amounts day =
    let only = postings_only 0 amounts in
    let i = posting_frees_all (postings 0 amounts) only day ∙ postings_bring amounts day in
    let o = posting_takes_none (postings 0 amounts) only free day (omega arith) in
    omega arith

pub postings_elsewhere : (amounts : List ℕ) (x : Account) (day : ℕ) → 1 < sort x → balance (postings 0 amounts) x day ≡ 0
unfolding balance
postings_elsewhere amounts x day h = let i = posting_brings_none (postings 0 amounts) (postings_only 0 amounts) x day h in omega arith
