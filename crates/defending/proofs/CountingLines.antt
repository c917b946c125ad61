-- The count of a preemption's lines, one defender after another.
use Rattle.std.proofs.Common.{◌≡◌, ℕ, ◌+◌, ◌-◌, ◌<◌, ◌≤◌, min, Bool, true, false, cond, not, ◌&&◌, ◌||◌, eqb, ltb, leb, ◌⊎◌, List, [], ◌∷◌, ◌++◌, get_or, sym, refl, ap, ◌∙◌, inl, inr, arith}
use Rattle.std.proofs.lemmas.List.{append-nil, append_assoc}
use Rattle.std.proofs.lemmas.Bool.{eq-eqb, ne_eqb, cases_eq, cases_Bool, and_parts, and_from, leb-true, ltb-true, le-leb, lt-ltb, and_left, cond-true}
use Rattle.terms.specs.declared.request.Request.{Request}
use Rattle.terms.specs.Words.{is_pending}
use Rattle.journal.specs.declared.line.Line.{Line}
use Rattle.law.specs.View.{Entry, aref_of, start_of, length_of}
use Rattle.law.specs.Posting.{busy_days, holding, free_on}
use Rattle.law.specs.Preemption.{wanted, holdings}
use Rattle.visits.specs.ClosedForm.{shortage_met, is_needed, is_superseded, gives_on, superseded_on, granted_on}
use Rattle.visits.proofs.OneVisit.{shortage_met_push}
use Rattle.desk.specs.declared.record.Record.{Record}
use Rattle.desk.specs.Records.{held_on, entry_of}
use Rattle.defending.specs.Shortage.{short_on, gives_here, HoldsInTerm, gives_whole, lines_written}
use Rattle.defending.specs.Size.{superseded_size, given_size, preemption_size}
use Rattle.defending.proofs.BusyDays.{busy_few, busy_shift, busy_nowhere}
use Rattle.defending.proofs.VisitDays.{own_days}

-- a sum over defenders in turn, one more at the end
sum_push : (F : List Entry → List Entry → ℕ) (f : List Entry → Entry → ℕ) → ((es : List Entry) → F es [] ≡ 0) → ((es : List Entry) (d : Entry) (ds : List Entry) → F es (d ∷ ds) ≡ f es d + F (es ++ d ∷ []) ds) →
    (ds es : List Entry) (x : Entry) → F es (ds ++ x ∷ []) ≡ F es ds + f (es ++ ds) x
sum_push F f none more [] es x = let a = more es x [] in let b = none es in let c = none (es ++ x ∷ []) in let e = ap (λ ys. f ys x) (append-nil es) in omega arith
sum_push F f none more (d ∷ ds) es x =
    let a = more es d (ds ++ x ∷ []) in
    let b = more es d ds in
    let c = sum_push F f none more ds (es ++ d ∷ []) x in
    let e = ap (λ ys. f ys x) (append_assoc es (d ∷ []) ds) in
    omega arith

module _ (r : Request) (ls : List Line) where
  abbrev superseded_part : List Entry → Entry → ℕ
  superseded_part es d = cond (is_superseded r ls es d) (busy_days (λ day. holding ls (aref_of d) day) (start_of d) (length_of d)) 0

  abbrev given_part : List Entry → Entry → ℕ
  given_part es d = cond (is_pending d.standing.state) 0 (busy_days (gives_on r ls es d) (start_of d) (length_of d))

  superseded_size_push : (ds : List Entry) (x : Entry) → superseded_size r ls [] (ds ++ x ∷ []) ≡ superseded_size r ls [] ds + superseded_part ds x
  unfolding superseded_size
  superseded_size_push ds x = sum_push (superseded_size r ls) superseded_part (λ es. refl) (λ es d ds. refl) ds [] x

  given_size_push : (ds : List Entry) (x : Entry) → given_size r ls [] (ds ++ x ∷ []) ≡ given_size r ls [] ds + given_part ds x
  unfolding given_size
  given_size_push ds x = sum_push (given_size r ls) given_part (λ es. refl) (λ es d ds. refl) ds [] x

  superseded_on_push : (ds : List Entry) (x : Entry) (day : ℕ) → superseded_on r ls [] (ds ++ x ∷ []) day ≡ superseded_on r ls [] ds day + cond (is_superseded r ls ds x) (holding ls (aref_of x) day) 0
  unfolding superseded_on
  superseded_on_push ds x day = sum_push (λ es ys. superseded_on r ls es ys day) (λ es d. cond (is_superseded r ls es d) (holding ls (aref_of d) day) 0) (λ es. refl) (λ es d ds. refl) ds [] x

  -- after visits of these defenders: what is short and what is granted by day, and how many lines they write
  pub record Counted (ds : List Entry) (short granted : List ℕ) (lines : ℕ) : Type 0 where
    pub shorts : (k : ℕ) → k < r.length → get_or short k 0 ≡ shortage_met r ls ds (r.start + k)
    pub grants : (k : ℕ) → k < r.length → get_or granted k 0 ≡ granted_on r ls ds (r.start + k)
    pub sized : lines ≡ superseded_size r ls [] ds + given_size r ls [] ds

  in_term : (k : ℕ) → k < r.length → (leb r.start (r.start + k) && ltb (r.start + k) (r.start + r.length)) ≡ true
  in_term k h = and_from _ _ (le-leb r.start (r.start + k) (omega arith)) (lt-ltb (r.start + k) (r.start + r.length) (omega arith))

  pub counted_none : (short granted : List ℕ) → ((k : ℕ) → k < r.length → get_or short k 0 ≡ r.mw - free_on ls (r.start + k)) → ((k : ℕ) → k < r.length → get_or granted k 0 ≡ min (free_on ls (r.start + k)) r.mw) → Counted [] short granted 0
  unfolding holdings wanted superseded_on superseded_size given_size
  counted_none short granted a b = record {
    shorts = λ k h. a k h ∙ ((let e : free_on ls (r.start + k) ≡ free_on ls (r.start + k) + 0 = omega arith in ap (λ n. r.mw - n) e) ∙ sym (cond-true _ _ _ (in_term k h)));
    grants = λ k h. b k h ∙ (let e : free_on ls (r.start + k) ≡ free_on ls (r.start + k) + 0 = omega arith in ap (λ n. min n r.mw) e);
    sized = refl;
  }

  -- one defender more, which memory shows in a record: what it gives, by what was short before it
  module _ (one : Record) (held : (day : ℕ) → held_on day one ≡ holding ls (aref_of (entry_of one)) day) (own : HoldsInTerm one)
      (ds : List Entry) (short : List ℕ) (shorts : (k : ℕ) → k < r.length → get_or short k 0 ≡ shortage_met r ls ds (r.start + k)) where
    pub short_is : (day : ℕ) → short_on r short day ≡ shortage_met r ls ds day
    short_is day = go (cases_Bool (leb r.start day && ltb day (r.start + r.length)))
      where
        go : ((leb r.start day && ltb day (r.start + r.length)) ≡ true) ⊎ ((leb r.start day && ltb day (r.start + r.length)) ≡ false) → short_on r short day ≡ shortage_met r ls ds day
        go (inl e) =
            let w = and_parts (leb r.start day) (ltb day (r.start + r.length)) e in
            let lo = leb-true r.start day w.0 in let hi = ltb-true day (r.start + r.length) w.1 in
            let z : r.start + (day - r.start) ≡ day = omega arith in
            cond-true _ _ _ e ∙ (shorts (day - r.start) (omega arith) ∙ ap (shortage_met r ls ds) z)
        go (inr e) = rw e refl

    pub gives_is : (day : ℕ) → gives_here one r short day ≡ gives_on r ls ds (entry_of one) day
    gives_is day = ap (λ n. min n (short_on r short day)) (held day) ∙ ap (λ n. min (holding ls (aref_of (entry_of one)) day) n) (short_is day)

    pub given_is : busy_days (gives_here one r short) r.start r.length ≡ busy_days (gives_on r ls ds (entry_of one)) (start_of (entry_of one)) (length_of (entry_of one))
    given_is = own_days one r short own ∙ busy_shift _ _ (start_of (entry_of one)) (start_of (entry_of one)) (length_of (entry_of one)) (λ k h. gives_is (start_of (entry_of one) + k))

    lesser_none : (a b : ℕ) → (eqb a 0 || eqb b 0) ≡ eqb (min a b) 0
    lesser_none a b = go (cases_eq a 0) (cases_eq b 0)
      where
        go : (a ≡ 0) ⊎ (a ≡ 0 → ⊥) → (b ≡ 0) ⊎ (b ≡ 0 → ⊥) → (eqb a 0 || eqb b 0) ≡ eqb (min a b) 0
        go (inl p) q = rw (eq-eqb a 0 p, eq-eqb (min a b) 0 (omega arith)) refl
        go (inr p) (inl q) = rw (ne_eqb a 0 p, eq-eqb b 0 q, eq-eqb (min a b) 0 (omega arith)) refl
        go (inr p) (inr q) = rw (ne_eqb a 0 p, ne_eqb b 0 q, ne_eqb (min a b) 0 (λ (e : min a b ≡ 0). grind arith)) refl

    pub whole_is : gives_whole one r short ≡ is_superseded r ls ds (entry_of one)
    whole_is = ap (λ b. is_pending one.standing.state && not b)
        (ap (λ n. eqb n 0) given_is ∙ sym (busy_nowhere (gives_on r ls ds (entry_of one)) _ (λ day. lesser_none (holding ls (aref_of (entry_of one)) day) (shortage_met r ls ds day)) (start_of (entry_of one)) (length_of (entry_of one))))

    held_busy : busy_days (λ day. held_on day one) (start_of (entry_of one)) (length_of (entry_of one)) ≡ busy_days (λ day. holding ls (aref_of (entry_of one)) day) (start_of (entry_of one)) (length_of (entry_of one))
    held_busy = busy_shift _ _ (start_of (entry_of one)) (start_of (entry_of one)) (length_of (entry_of one)) (λ k h. held (start_of (entry_of one) + k))

    -- its lines are superseded or given
    written_is : lines_written one r short ≡ superseded_part ds (entry_of one) + given_part ds (entry_of one)
    written_is = parts (is_pending one.standing.state) (gives_whole one r short) (is_superseded r ls ds (entry_of one)) _ _ _ _ whole_is (λ e. and_left _ (is_needed r ls ds (entry_of one)) e) held_busy given_is
      where
        parts : (pending whole superseded : Bool) (x x' y y' : ℕ) → whole ≡ superseded → (pending ≡ false → superseded ≡ false) → x ≡ x' → y ≡ y' → cond pending (cond whole x 0) y ≡ cond superseded x' 0 + cond pending 0 y'
        parts true whole superseded x x' y y' a f b c = rw (a, b) (omega arith)
        parts false whole superseded x x' y y' a f b c = rw (f refl) (omega arith)

    -- a day that is less short by what it holds
    pub shorts_next : (short' : List ℕ) → ((k : ℕ) → k < r.length → get_or short' k 0 ≡ get_or short k 0 - held_on (r.start + k) one) → (k : ℕ) → k < r.length → get_or short' k 0 ≡ shortage_met r ls (ds ++ entry_of one ∷ []) (r.start + k)
    shorts_next short' taken k h = taken k h ∙ (ap (λ n. n - held_on (r.start + k) one) (shorts k h) ∙ (ap (λ n. shortage_met r ls ds (r.start + k) - n) (held (r.start + k)) ∙ sym (shortage_met_push r ls ds (entry_of one) (r.start + k))))

  -- and the count with it
  module _ (one : Record) (held : (day : ℕ) → held_on day one ≡ holding ls (aref_of (entry_of one)) day) (own : HoldsInTerm one)
      (ds : List Entry) (short granted : List ℕ) (lines : ℕ) (C : Counted ds short granted lines) where
    granted_more : (whole superseded : Bool) (f s h h' g mw : ℕ) → whole ≡ superseded → h ≡ h' → g ≡ min (f + s) mw → cond whole (min (g + h) mw) g ≡ min (f + (s + cond superseded h' 0)) mw
    granted_more true superseded f s h h' g mw a b c = rw (sym a) (omega arith)
    granted_more false superseded f s h h' g mw a b c = rw (sym a) (omega arith)

    pub counted_more : (short' granted' : List ℕ) (written : ℕ) →
        ((k : ℕ) → k < r.length → get_or short' k 0 ≡ get_or short k 0 - held_on (r.start + k) one) →
        ((k : ℕ) → k < r.length → get_or granted' k 0 ≡ cond (gives_whole one r short) (min (get_or granted k 0 + held_on (r.start + k) one) r.mw) (get_or granted k 0)) →
        written ≡ lines_written one r short → Counted (ds ++ entry_of one ∷ []) short' granted' (lines + written)
    unfolding wanted
    counted_more short' granted' written taken freed w = record {
      shorts = shorts_next one held own ds short C.shorts short' taken;
      grants = λ k h. freed k h ∙ (granted_more (gives_whole one r short) (is_superseded r ls ds (entry_of one)) (free_on ls (r.start + k)) (superseded_on r ls [] ds (r.start + k)) _ _ (get_or granted k 0) r.mw (whole_is one held own ds short C.shorts) (held (r.start + k)) (C.grants k h)
          ∙ ap (λ n. min (free_on ls (r.start + k) + n) r.mw) (sym (superseded_on_push ds (entry_of one) (r.start + k))));
      sized = sums _ _ _ _ _ _ _ _ C.sized (w ∙ written_is one held own ds short C.shorts) (superseded_size_push ds (entry_of one)) (given_size_push ds (entry_of one));
    }
      where
        sums : (n m x y p q x' y' : ℕ) → n ≡ x + y → m ≡ p + q → x' ≡ x + p → y' ≡ y + q → n + m ≡ x' + y'
        sums n m x y p q x' y' a b c e = omega arith

  -- all of them, and the lines by which the challenger is granted
  pub counted_all : (ds : List Entry) (short granted : List ℕ) (lines : ℕ) → Counted ds short granted lines → (busy : ℕ) → busy ≡ busy_days (λ k. get_or granted k 0) 0 r.length → lines + busy ≡ preemption_size r ls ds
  counted_all ds short granted lines C busy e =
      let b = busy_shift (λ k. get_or granted k 0) (granted_on r ls ds) 0 r.start r.length (λ k h. let z : 0 + k ≡ k = omega arith in ap (λ i. get_or granted i 0) z ∙ C.grants k h) in
      sums _ _ _ _ _ C.sized (e ∙ b)
    where
      sums : (n m x y z : ℕ) → n ≡ x + y → m ≡ z → n + m ≡ x + (z + y)
      sums n m x y z a b = omega arith

-- no record writes more than 31 lines
pub few_written : (one : Record) (r : Request) (short : List ℕ) → one.standing.request.length ≤ 31 → r.length ≤ 31 → lines_written one r short ≤ 31
few_written one r short own term = go (is_pending one.standing.state) (gives_whole one r short)
    (busy_few (λ day. held_on day one) one.standing.request.start one.standing.request.length) (busy_few (gives_here one r short) r.start r.length)
  where
    x : ℕ
    x = busy_days (λ day. held_on day one) one.standing.request.start one.standing.request.length

    y : ℕ
    y = busy_days (gives_here one r short) r.start r.length

    go : (b c : Bool) → x ≤ one.standing.request.length → y ≤ r.length → cond b (cond c x 0) y ≤ 31
    go true true p q = omega arith
    go true false p q = omega arith
    go false c p q = omega arith
