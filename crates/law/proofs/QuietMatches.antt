-- Calls about others leave a match alone, and a match that is closed stays so.
use Rattle.std.proofs.Common.{◌≡◌, ℕ, ◌+◌, ◌<◌, ◌≤◌, min, Bool, true, false, cond, ◌&&◌, eqb, ◌⊎◌, List, [], ◌∷◌, ◌++◌, sym, refl, ap, ◌∙◌, subst, inl, inr, arith}
use Rattle.std.specs.List.{AllByRecursion}
use Rattle.std.proofs.lemmas.Bool.{ne_eqb, eqb-true, cases_Bool, and_left, and_right}
use Rattle.journal.specs.declared.line.Line.{Line}
use Rattle.journal.specs.declared.line.LineKind.{LineKind}
use Rattle.journal.specs.declared.line.LineKind.TheVariants.{Posted, Granted, Superseded, Recalled, SetAside, Lost, Kept, Extended, Ceded, Released, Flown}
use Rattle.journal.specs.Accounts.{aside, same, from, to, source, target, balance, NeverBelowZero}
use Rattle.journal.proofs.Conservation.{never_overdrawn}
use Rattle.law.specs.Posting.{post, by_day, free_on}
use Rattle.law.specs.Calls.{lose, keep, extend}
use Rattle.law.specs.MatchLaw.{noted, comes_back, goes_over}
use Rattle.law.proofs.SoundLines.{solvent_push, takes_le, cond_never, same_is}
use Rattle.law.proofs.PostingEffects.{balance-push, balance-post}
use Rattle.law.proofs.Holders.{days_ind, solvent_post}
use Rattle.law.proofs.WrittenLines.{Writes, at_first, and_then}
use Rattle.law.proofs.LinesOfCalls.{Okay, Sane}

pub noted_push : (p : LineKind → Bool) (a b k : ℕ) (ls : List Line) (l : Line) → noted p a b k (ls ++ l ∷ []) ≡ noted p a b k ls + cond (p l.kind && (eqb l.day k && (eqb b l.b && eqb a l.a))) l.mw 0
unfolding noted
noted_push p a b k [] l = omega arith
noted_push p a b k (y ∷ ys) l = let h = noted_push p a b k ys l in omega arith

pub noted_post : (p : LineKind → Bool) (a b j t : ℕ) (κ : LineKind) (x y k m : ℕ) (ls : List Line) → noted p a b j (post t κ x y k m ls) ≡ noted p a b j ls + cond (p κ && (eqb k j && (eqb b y && eqb a x))) m 0
unfolding post
noted_post p a b j t κ x y k m ls = go (cases_Bool (eqb m 0))
  where
    none : (c : Bool) → m ≡ 0 → cond c m 0 ≡ 0
    none true e = e
    none false e = refl

    go : (eqb m 0 ≡ true) ⊎ (eqb m 0 ≡ false) → noted p a b j (cond (eqb m 0) ls (ls ++ record { minute = t; kind = κ; a = x; b = y; day = k; mw = m } ∷ [])) ≡ noted p a b j ls + cond (p κ && (eqb k j && (eqb b y && eqb a x))) m 0
    go (inl e) = rw e (omega (arith, none (p κ && (eqb k j && (eqb b y && eqb a x))) (eqb-true m 0 e)))
    go (inr e) = rw e (noted_push p a b j ls (record { minute = t; kind = κ; a = x; b = y; day = k; mw = m }))

-- a line that takes nothing from the account tells nothing of it
silent : (κ : LineKind) (a b x y m : ℕ) (d : Bool) → same (aside a b) (from κ x y) ≡ false → (cond (comes_back κ && (d && (eqb b y && eqb a x))) m 0 ≡ 0) × (cond (goes_over κ && (d && (eqb b y && eqb a x))) m 0 ≡ 0)
silent Posted a b x y m d h = (refl, refl)
silent Granted a b x y m d h = (refl, refl)
silent Superseded a b x y m d h = (refl, refl)
silent Recalled a b x y m d h = (refl, refl)
silent SetAside a b x y m d h = (refl, refl)
silent Lost a b x y m d h = (refl, rw h (cond_never d m))
silent Kept a b x y m d h = (rw h (cond_never d m), refl)
silent Extended a b x y m d h = (refl, refl)
silent Ceded a b x y m d h = (refl, refl)
silent Released a b x y m d h = (refl, refl)
silent Flown a b x y m d h = (refl, refl)

-- nothing comes to an account of a known challenger
not_to : (q : Bool) (n x : ℕ) (κ : LineKind) (a b c d : ℕ) → b ≤ n → Okay q n x κ c d → same (aside a b) (to κ c d) ≡ false
not_to q n x Posted a b c d h o = refl
not_to q n x Granted a b c d h o = refl
not_to q n x Superseded a b c d h o = refl
not_to q n x Recalled a b c d h o = refl
not_to q n x SetAside a b c d h o = and_left (eqb b d) (eqb a c) (ne_eqb b d (λ (e : b ≡ d). omega (arith, o.1)))
not_to q n x Lost a b c d h o = refl
not_to q n x Kept a b c d h o = refl
not_to q n x Extended a b c d h o = refl
not_to q n x Ceded a b c d h o = refl
not_to q n x Released a b c d h o = refl
not_to q n x Flown a b c d h o = refl

-- and what is taken from it is taken by a call about it
only_own : (q : Bool) (n x : ℕ) (κ : LineKind) (a b c d : ℕ) → Okay q n x κ c d → (x ≡ a → ⊥) → same (aside a b) (from κ c d) ≡ false
only_own q n x Posted a b c d o ne = refl
only_own q n x Granted a b c d o ne = refl
only_own q n x Superseded a b c d o ne = refl
only_own q n x Recalled a b c d o ne = refl
only_own q n x SetAside a b c d o ne = refl
only_own q n x Lost a b c d o ne = and_right (eqb b d) (eqb a c) (ne_eqb a c (λ (e : a ≡ c). ne (sym (e ∙ o))))
only_own q n x Kept a b c d o ne = and_right (eqb b d) (eqb a c) (ne_eqb a c (λ (e : a ≡ c). ne (sym (e ∙ o))))
only_own q n x Extended a b c d o ne = refl
only_own q n x Ceded a b c d o ne = refl
only_own q n x Released a b c d o ne = refl
only_own q n x Flown a b c d o ne = refl

module _ (sub : Bool) (n x a b : ℕ) (known : b ≤ n) (base : List Line) where
  abbrev pub Alike : List Line → Type 0
  Alike ms = NeverBelowZero ms × ((k : ℕ) → (balance ms (aside a b) k ≡ balance base (aside a b) k) × (noted comes_back a b k ms ≡ noted comes_back a b k base) × (noted goes_over a b k ms ≡ noted goes_over a b k base))

  alike_push : (ms : List Line) (l : Line) → Alike ms → Sane sub n x ms l → same (aside a b) (source l) ≡ false → Alike (ms ++ l ∷ [])
  unfolding balance
  alike_push ms l A s ns = (
    solvent_push ms l A.0 (λ k y q. omega (arith, never_overdrawn ms A.0 k y q, takes_le y k l (balance ms) s.1)),
    (λ k.
        let nt = not_to sub n x l.kind a b l.a l.b known s.2 in
        let e = balance-push ms A.0 l.minute l.kind l.a l.b l.day l.mw s.1 (aside a b) k (omega arith) in
        let c₁ : cond (eqb l.day k && same (aside a b) (source l)) l.mw 0 ≡ 0 = rw ns (cond_never (eqb l.day k) l.mw) in
        let c₂ : cond (eqb l.day k && same (aside a b) (target l)) l.mw 0 ≡ 0 = rw nt (cond_never (eqb l.day k) l.mw) in
        let q = silent l.kind a b l.a l.b l.mw (eqb l.day k) ns in
        let i = A.1 k in
        (omega (arith, e, c₁, c₂, i.0), omega (arith, noted_push comes_back a b k ms l, q.0, i.1), omega (arith, noted_push goes_over a b k ms l, q.1, i.2))),
  )

  pub quiet : NeverBelowZero base → (x ≡ a → ⊥) ⊎ ((k : ℕ) → balance base (aside a b) k ≡ 0) → {ms : List Line} → Writes (Sane sub n x) base ms → Alike ms
  quiet f z {ms} (at_first e) = subst Alike (sym e) (f, (λ k. (refl, refl, refl)))
  quiet f z {ms} (and_then ks l w s e) = subst Alike (sym e) (go (quiet f z w) z)
    where
      go : Alike ks → (x ≡ a → ⊥) ⊎ ((k : ℕ) → balance base (aside a b) k ≡ 0) → Alike (ks ++ l ∷ [])
      go A (inl ne) = alike_push ks l A s (only_own sub n x l.kind a b l.a l.b s.2 ne)
      go A (inr nil) = alike_push ks l A s (more (cases_Bool (same (aside a b) (source l))))
        where
          more : (same (aside a b) (source l) ≡ true) ⊎ (same (aside a b) (source l) ≡ false) → same (aside a b) (source l) ≡ false
          more (inl q) =
              let p = subst (λ y. l.mw ≤ balance ks y l.day) (sym (same_is (aside a b) (source l) q)) s.1 in
              let u = (A.1 l.day).0 in let v = nil l.day in
              let g : ⊥ = omega (arith, p, u, v, s.0) in absurd g
          more (inr q) = q

-- a call about others notes nothing of a
pub mute : (sub : Bool) (n x a b : ℕ) (base : List Line) → (x ≡ a → ⊥) → {ms : List Line} → Writes (Sane sub n x) base ms → (k : ℕ) → (noted comes_back a b k ms ≡ noted comes_back a b k base) × (noted goes_over a b k ms ≡ noted goes_over a b k base)
mute sub n x a b base ne {ms} (at_first e) k = (ap (noted comes_back a b k) e, ap (noted goes_over a b k) e)
mute sub n x a b base ne {ms} (and_then ks l w s e) k =
    let ih = mute sub n x a b base ne w k in
    let q = silent l.kind a b l.a l.b l.mw (eqb l.day k) (only_own sub n x l.kind a b l.a l.b s.2 ne) in
    (ap (noted comes_back a b k) e ∙ omega (arith, noted_push comes_back a b k ks l, q.0, ih.0), ap (noted goes_over a b k) e ∙ omega (arith, noted_push goes_over a b k ks l, q.1, ih.1))

-- nothing is noted of an AREF above all
pub noted_none : (p : LineKind → Bool) (n a b k : ℕ) (ls : List Line) → n ≤ b → AllByRecursion (λ l. (l.a < n) × (l.b < n)) ls → noted p a b k ls ≡ 0
unfolding noted
noted_none p n a b k [] h A = refl
noted_none p n a b k (l ∷ ls) h A =
    let e : eqb b l.b ≡ false = ne_eqb b l.b (λ (q : b ≡ l.b). omega arith) in
    rw e (omega (arith, noted_none p n a b k ls h A.1, never (p l.kind) (eqb l.day k)))
  where
    never : (c d : Bool) → cond (c && (d && false)) l.mw 0 ≡ 0
    never true true = refl
    never true false = refl
    never false d = refl

-- a match that is lost, or kept: what is noted and what is still aside add up
module _ (t a b : ℕ) (ls : List Line) (f : NeverBelowZero ls) where
  pub lost_tally : (s d : ℕ) → NeverBelowZero (by_day (lose t a b) s d ls) × ((k : ℕ) → (noted goes_over a b k (by_day (lose t a b) s d ls) + balance (by_day (lose t a b) s d ls) (aside a b) k ≡ noted goes_over a b k ls + balance ls (aside a b) k) × (noted comes_back a b k (by_day (lose t a b) s d ls) ≡ noted comes_back a b k ls))
  lost_tally s d = days_ind (lose t a b) (λ ms. NeverBelowZero ms × ((k : ℕ) → (noted goes_over a b k ms + balance ms (aside a b) k ≡ noted goes_over a b k ls + balance ls (aside a b) k) × (noted comes_back a b k ms ≡ noted comes_back a b k ls))) s d
      (λ j ms lo hi A. (
        solvent_post ms A.0 t Lost a b j (balance ms (aside a b) j) (omega arith),
        (λ k.
            let z : cond (eqb j k && false) (balance ms (aside a b) j) 0 ≡ 0 = cond_never (eqb j k) (balance ms (aside a b) j) in (
              omega (arith, balance-post ms A.0 t Lost a b j (balance ms (aside a b) j) (omega arith) (aside a b) k (omega arith), noted_post goes_over a b k t Lost a b j (balance ms (aside a b) j) ms, (A.1 k).0),
              omega (arith, noted_post comes_back a b k t Lost a b j (balance ms (aside a b) j) ms, (A.1 k).1),
            )),
      )) ls (f, (λ k. (refl, refl)))

  pub kept_tally : (s d : ℕ) → NeverBelowZero (by_day (keep t a b) s d ls) × ((k : ℕ) → (noted comes_back a b k (by_day (keep t a b) s d ls) + balance (by_day (keep t a b) s d ls) (aside a b) k ≡ noted comes_back a b k ls + balance ls (aside a b) k) × (noted goes_over a b k (by_day (keep t a b) s d ls) ≡ noted goes_over a b k ls))
  kept_tally s d = days_ind (keep t a b) (λ ms. NeverBelowZero ms × ((k : ℕ) → (noted comes_back a b k ms + balance ms (aside a b) k ≡ noted comes_back a b k ls + balance ls (aside a b) k) × (noted goes_over a b k ms ≡ noted goes_over a b k ls))) s d
      (λ j ms lo hi A. (
        solvent_post ms A.0 t Kept a b j (balance ms (aside a b) j) (omega arith),
        (λ k.
            let z : cond (eqb j k && false) (balance ms (aside a b) j) 0 ≡ 0 = cond_never (eqb j k) (balance ms (aside a b) j) in (
              omega (arith, balance-post ms A.0 t Kept a b j (balance ms (aside a b) j) (omega arith) (aside a b) k (omega arith), noted_post comes_back a b k t Kept a b j (balance ms (aside a b) j) ms, (A.1 k).0),
              omega (arith, noted_post goes_over a b k t Kept a b j (balance ms (aside a b) j) ms, (A.1 k).1),
            )),
      )) ls (f, (λ k. (refl, refl)))

  -- extension days tell nothing of it
  pub extend_tally : (y c d s n : ℕ) → (k : ℕ) → (balance (by_day (extend t y c d) s n ls) (aside a b) k ≡ balance ls (aside a b) k) × (noted comes_back a b k (by_day (extend t y c d) s n ls) ≡ noted comes_back a b k ls) × (noted goes_over a b k (by_day (extend t y c d) s n ls) ≡ noted goes_over a b k ls)
  extend_tally y c d s n = (days_ind (extend t y c d) (λ ms. NeverBelowZero ms × ((k : ℕ) → (balance ms (aside a b) k ≡ balance ls (aside a b) k) × (noted comes_back a b k ms ≡ noted comes_back a b k ls) × (noted goes_over a b k ms ≡ noted goes_over a b k ls))) s n
      (λ j ms lo hi A. both j ms (min (free_on ms j) y) A) ls (f, (λ k. (refl, refl, refl)))).1
    where
      still : (κ : LineKind) → ((x z : ℕ) → same (aside a b) (from κ x z) ≡ false) → ((x z : ℕ) → same (aside a b) (to κ x z) ≡ false) → (x z j m : ℕ) (ms : List Line) → m ≤ balance ms (from κ x z) j →
          NeverBelowZero ms × ((k : ℕ) → (balance ms (aside a b) k ≡ balance ls (aside a b) k) × (noted comes_back a b k ms ≡ noted comes_back a b k ls) × (noted goes_over a b k ms ≡ noted goes_over a b k ls)) →
          NeverBelowZero (post t κ x z j m ms) × ((k : ℕ) → (balance (post t κ x z j m ms) (aside a b) k ≡ balance ls (aside a b) k) × (noted comes_back a b k (post t κ x z j m ms) ≡ noted comes_back a b k ls) × (noted goes_over a b k (post t κ x z j m ms) ≡ noted goes_over a b k ls))
      still κ nf nt x z j m ms paid A = (
        solvent_post ms A.0 t κ x z j m paid,
        (λ k.
            let c₁ : cond (eqb j k && same (aside a b) (from κ x z)) m 0 ≡ 0 = rw (nf x z) (cond_never (eqb j k) m) in
            let c₂ : cond (eqb j k && same (aside a b) (to κ x z)) m 0 ≡ 0 = rw (nt x z) (cond_never (eqb j k) m) in
            let q = silent κ a b x z m (eqb j k) (nf x z) in (
              omega (arith, balance-post ms A.0 t κ x z j m paid (aside a b) k (omega arith), c₁, c₂, (A.1 k).0),
              omega (arith, noted_post comes_back a b k t κ x z j m ms, q.0, (A.1 k).1),
              omega (arith, noted_post goes_over a b k t κ x z j m ms, q.1, (A.1 k).2),
            )),
      )

      both : (j : ℕ) (ms : List Line) (m : ℕ) → NeverBelowZero ms × ((k : ℕ) → (balance ms (aside a b) k ≡ balance ls (aside a b) k) × (noted comes_back a b k ms ≡ noted comes_back a b k ls) × (noted goes_over a b k ms ≡ noted goes_over a b k ls)) →
          NeverBelowZero (extend t y c d j ms) × ((k : ℕ) → (balance (extend t y c d j ms) (aside a b) k ≡ balance ls (aside a b) k) × (noted comes_back a b k (extend t y c d j ms) ≡ noted comes_back a b k ls) × (noted goes_over a b k (extend t y c d j ms) ≡ noted goes_over a b k ls))
      both j ms m A = still Ceded (λ x z. refl) (λ x z. refl) d c j _ _ (omega arith) (still Extended (λ x z. refl) (λ x z. refl) c d j (min (free_on ms j) y) ms (omega arith) A)
