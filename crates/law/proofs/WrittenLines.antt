-- What holds of each line as it is written onto the lines before it.
use Rattle.std.proofs.Common.{◌≡◌, ℕ, zero, suc, ◌<◌, true, false, cond, eqb, ◌⊎◌, List, [], ◌∷◌, ◌++◌, length, sym, refl, ap, ◌∙◌, subst, inl, inr, arith}
use Rattle.std.proofs.lemmas.List.{append_assoc, same_from_push, length-append, append-nil}
use Rattle.std.proofs.lemmas.Bool.{eqb-false, cases_Bool}
use Rattle.journal.specs.declared.line.Line.{Line}
use Rattle.journal.specs.declared.line.LineKind.{LineKind}
use Rattle.law.specs.Posting.{post, by_day}

pub data Writes (Q : List Line → Line → Type 0) (ls : List Line) : List Line → Type 0 where
  at_first : {ns : List Line} → ns ≡ ls → Writes Q ls ns
  and_then : (ms : List Line) (l : Line) {ns : List Line} → Writes Q ls ms → Q ms l → ns ≡ ms ++ l ∷ [] → Writes Q ls ns

module _ (Q : List Line → Line → Type 0) where
  pub writes_trans : (ls ms : List Line) {ns : List Line} → Writes Q ls ms → Writes Q ms ns → Writes Q ls ns
  writes_trans ls ms w (at_first e) = subst (λ x. Writes Q ls x) (sym e) w
  writes_trans ls ms w (and_then ks l v q e) = and_then ks l (writes_trans ls ms w v) q e

  pub writes_grows : (ls : List Line) {ns : List Line} → Writes Q ls ns → (us : List Line) × (ns ≡ ls ++ us)
  writes_grows ls (at_first e) = ([], e ∙ sym (append-nil ls))
  writes_grows ls (and_then ms l w q e) = let g = writes_grows ls w in (g.0 ++ l ∷ [], e ∙ (ap (λ x. x ++ l ∷ []) g.1 ∙ append_assoc ls g.0 (l ∷ [])))

  pub writes_post : (t : ℕ) (κ : LineKind) (a b k m : ℕ) (ls : List Line) → (0 < m → Q ls (record { minute = t; kind = κ; a = a; b = b; day = k; mw = m })) → Writes Q ls (post t κ a b k m ls)
  unfolding post
  writes_post t κ a b k m ls h = go (cases_Bool (eqb m 0))
    where
      go : (eqb m 0 ≡ true) ⊎ (eqb m 0 ≡ false) → Writes Q ls (cond (eqb m 0) ls (ls ++ record { minute = t; kind = κ; a = a; b = b; day = k; mw = m } ∷ []))
      go (inl e) = rw e (at_first refl)
      go (inr e) = rw e (and_then ls _ (at_first refl) (h (let n = eqb-false m 0 e in omega arith)) refl)

  pub writes_days : (P : List Line → Type 0) (f : ℕ → List Line → List Line) → ((k : ℕ) (ms : List Line) → P ms → P (f k ms) × Writes Q ms (f k ms)) → (s d : ℕ) (ls : List Line) → P ls → Writes Q ls (by_day f s d ls)
  unfolding by_day
  writes_days P f h s zero ls p = at_first refl
  writes_days P f h s (suc d) ls p = let w = h s ls p in writes_trans ls (f s ls) w.1 (writes_days P f h (suc s) d (f s ls) w.0)

  -- a line of the new ones, with the lines before it and after it
  module _ (T : List Line → List Line → Type 0) (TTrans : (ls ms ns : List Line) → T ls ms → T ms ns → T ls ns) (step : (ms : List Line) (l : Line) → Q ms l → T ms (ms ++ l ∷ [])) where
    pub writes_split : (ls : List Line) {ns : List Line} → Writes Q ls ns → (xs zs : List Line) (l : Line) → ns ≡ (ls ++ xs) ++ l ∷ zs → Q (ls ++ xs) l × T (ls ++ xs) ns
    writes_split ls {ns} (at_first e) xs zs l q =
        let n = ap length (sym e ∙ q) in
        let a = length-append (ls ++ xs) (l ∷ zs) in let b = length-append ls xs in
        let z : ⊥ = omega arith in absurd z
    writes_split ls {ns} (and_then ms m w c e) xs zs l q = go (λ (ys : List Line) (h : ms ≡ (ls ++ xs) ++ l ∷ ys). writes_split ls w xs ys l h) (last zs)
      where
        last : (ys : List Line) → (ys ≡ []) ⊎ ((us : List Line) × (y : Line) × (ys ≡ us ++ y ∷ []))
        last [] = inl refl
        last (y ∷ ys) = more (last ys)
          where
            more : (ys ≡ []) ⊎ ((us : List Line) × (u : Line) × (ys ≡ us ++ u ∷ [])) → (y ∷ ys ≡ []) ⊎ ((us : List Line) × (u : Line) × (y ∷ ys ≡ us ++ u ∷ []))
            more (inl n) = inr ([], y, ap (λ u. y ∷ u) n)
            more (inr v) = inr (y ∷ v.0, v.1, ap (λ u. y ∷ u) v.2)

        go : ((ys : List Line) → ms ≡ (ls ++ xs) ++ l ∷ ys → Q (ls ++ xs) l × T (ls ++ xs) ms) → (zs ≡ []) ⊎ ((us : List Line) × (y : Line) × (zs ≡ us ++ y ∷ [])) → Q (ls ++ xs) l × T (ls ++ xs) ns
        go ih (inl n) =
            let p : ms ++ m ∷ [] ≡ (ls ++ xs) ++ l ∷ [] = sym e ∙ (q ∙ ap (λ u. (ls ++ xs) ++ l ∷ u) n) in
            let s = same_from_push ms (ls ++ xs) m l p in
            let c' : Q (ls ++ xs) l = subst (λ u. Q (ls ++ xs) u) s.1 (subst (λ u. Q u m) s.0 c) in
            (c', subst (λ u. T (ls ++ xs) u) (sym (q ∙ ap (λ u. (ls ++ xs) ++ l ∷ u) n)) (step (ls ++ xs) l c'))
        go ih (inr v) =
            let p : ms ++ m ∷ [] ≡ ((ls ++ xs) ++ l ∷ v.0) ++ v.1 ∷ [] = sym e ∙ (q ∙ (ap (λ u. (ls ++ xs) ++ l ∷ u) v.2 ∙ sym (append_assoc (ls ++ xs) (l ∷ v.0) (v.1 ∷ [])))) in
            let s = same_from_push ms ((ls ++ xs) ++ l ∷ v.0) m v.1 p in
            let w = ih v.0 s.0 in
            (w.0, TTrans (ls ++ xs) ms ns w.1 (subst (λ u. T ms u) (sym e) (step ms m c)))
