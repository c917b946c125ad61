-- A preemption makes the journal longer by its size, on every book that keeps what every book keeps.
use Rattle.std.proofs.Common.{◌≡◌, ℕ, zero, suc, ◌+◌, ◌<◌, Bool, true, false, cond, eqb, List, [], ◌∷◌, ◌++◌, length, refl, ap, ◌∙◌, arith}
use Rattle.std.proofs.lemmas.List.{length-append}
use Rattle.terms.specs.declared.request.Request.{Request}
use Rattle.terms.specs.Words.{is_pending}
use Rattle.sheets.specs.Rules.{Rules}
use Rattle.sheets.specs.Laws.{Lawful}
use Rattle.journal.specs.declared.line.Line.{Line}
use Rattle.journal.specs.declared.line.LineKind.{LineKind}
use Rattle.journal.specs.declared.line.LineKind.TheVariants.{Granted, Superseded, Recalled, SetAside}
use Rattle.law.specs.View.{View, Entry, aref_of, start_of, length_of, posted_on}
use Rattle.law.specs.Keeps.{Kept}
use Rattle.law.specs.Posting.{busy_days, holding}
use Rattle.law.specs.Preemption.{defenders, preempt}
use Rattle.law.proofs.KeptOverRuns.{Right}
use Rattle.visits.specs.ClosedForm.{is_superseded, gives_on, granted_on, lines_by_day, superseded_lines, given_lines}
use Rattle.visits.proofs.Closed.{preempts_in_closed_form}
use Rattle.defending.specs.Size.{superseded_size, given_size, preemption_size}
use Rattle.defending.proofs.BusyDays.{busy_front}

-- a line for each day on which something moves
length-by_day : (t : ℕ) (κ : LineKind) (a b : ℕ) (mw : ℕ → ℕ) (s n : ℕ) → length (lines_by_day t κ a b mw s n) ≡ busy_days mw s n
unfolding lines_by_day busy_days
length-by_day t κ a b mw s zero = refl
length-by_day t κ a b mw s (suc n) = go (eqb (mw s) 0) (length-by_day t κ a b mw (suc s) n) ∙ busy_front'
  where
    go : (c : Bool) → length (lines_by_day t κ a b mw (suc s) n) ≡ busy_days mw (suc s) n →
        length (cond c [] (record { minute = t; kind = κ; a = a; b = b; day = s; mw = mw s } ∷ []) ++ lines_by_day t κ a b mw (suc s) n) ≡ cond c 0 1 + busy_days mw (suc s) n
    go true ih = omega arith
    go false ih = omega arith

    busy_front' : cond (eqb (mw s) 0) 0 1 + busy_days mw (suc s) n ≡ busy_days mw s (suc n)
    busy_front' = let e = busy_front mw s n in omega arith

module _ (t : ℕ) (r : Request) (ls : List Line) where
  length-superseded : (earlier ds : List Entry) → length (superseded_lines t r ls earlier ds) ≡ superseded_size r ls earlier ds
  unfolding superseded_lines superseded_size
  length-superseded earlier [] = refl
  length-superseded earlier (d ∷ ds) =
      length-append (cond (is_superseded r ls earlier d) own []) _
      ∙ (ap (λ n. n + length (superseded_lines t r ls (earlier ++ d ∷ []) ds)) (go (is_superseded r ls earlier d)) ∙ ap (λ n. cond (is_superseded r ls earlier d) busy 0 + n) (length-superseded (earlier ++ d ∷ []) ds))
    where
      own : List Line
      own = lines_by_day t Superseded (aref_of d) r.aref (λ day. holding ls (aref_of d) day) (start_of d) (length_of d)

      busy : ℕ
      busy = busy_days (λ day. holding ls (aref_of d) day) (start_of d) (length_of d)

      go : (c : Bool) → length (cond c own []) ≡ cond c busy 0
      go true = length-by_day t Superseded (aref_of d) r.aref (λ day. holding ls (aref_of d) day) (start_of d) (length_of d)
      go false = refl

  length-given : (R : Rules) (earlier ds : List Entry) → length (given_lines R t r ls earlier ds) ≡ given_size r ls earlier ds
  unfolding given_lines given_size
  length-given R earlier [] = refl
  length-given R earlier (d ∷ ds) =
      length-append (cond (is_pending d.standing.state) [] own) _
      ∙ (ap (λ n. n + length (given_lines R t r ls (earlier ++ d ∷ []) ds)) (go (is_pending d.standing.state)) ∙ ap (λ n. cond (is_pending d.standing.state) 0 busy + n) (length-given R (earlier ++ d ∷ []) ds))
    where
      own : List Line
      own = lines_by_day t (cond (R.may_match r d.standing) SetAside Recalled) (aref_of d) r.aref (gives_on r ls earlier d) (start_of d) (length_of d)

      busy : ℕ
      busy = busy_days (gives_on r ls earlier d) (start_of d) (length_of d)

      go : (c : Bool) → length (cond c [] own) ≡ cond c 0 busy
      go true = refl
      go false = length-by_day t (cond (R.may_match r d.standing) SetAside Recalled) (aref_of d) r.aref (gives_on r ls earlier d) (start_of d) (length_of d)

-- a book that keeps what every book keeps is right
right_kept : (v : View) → Kept v → Right (posted_on v.days) v
right_kept v K = record {
  sound = record { fine = record { solvent = K.solvent; names = K.named; whole = K.posted }; low = K.accepted };
  whole = record { supp = record { solvent = K.solvent; holds = K.holders; asides = λ a b day p. (K.challenged a b day p, K.competing a b day p) }; once = K.once };
}

pub size_of_preemption : (R : Rules) → Lawful R → (t : ℕ) (r : Request) (v : View) → Kept v → v.top < r.aref → length (preempt R t r v) ≡ length v.lines + preemption_size r v.lines (defenders R t r v)
size_of_preemption R L t r v K up =
    let ds = defenders R t r v in
    let ls = v.lines in
    let a = superseded_lines t r ls [] ds in
    let b = lines_by_day t Granted 0 r.aref (granted_on r ls ds) r.start r.length in
    let c = given_lines R t r ls [] ds in
    ap length (preempts_in_closed_form R L (posted_on v.days) v (right_kept v K) K.terms t r up)
    ∙ sums _ _ _ _ _ _ _ _ _ _ (length-append ls (a ++ (b ++ c))) (length-append a (b ++ c)) (length-append b c)
    (length-superseded t r ls [] ds) (length-by_day t Granted 0 r.aref (granted_on r ls ds) r.start r.length) (length-given t r ls R [] ds)
  where
    sums : (all l abc a bc b c x y z : ℕ) → all ≡ l + abc → abc ≡ a + bc → bc ≡ b + c → a ≡ x → b ≡ y → c ≡ z → all ≡ l + (x + (y + z))
    sums all l abc a bc b c x y z e f g p q s = omega arith
