-- Where no day is short nobody gives way, so the visiting may stop there.
use Rattle.std.proofs.Common.{◌≡◌, ℕ, zero, suc, ◌+◌, ◌-◌, Bool, true, false, cond, ◌&&◌, eqb, ltb, leb, List, [], ◌∷◌, sym, refl, ap, ◌∙◌, arith}
use Rattle.std.proofs.lemmas.Bool.{eq-eqb, eqb-true, and_parts, and_from, or_right, leb-true, ltb-true, not-false, cond-false, not_from_true}
use Rattle.terms.specs.declared.request.Request.{Request}
use Rattle.terms.specs.Words.{is_pending}
use Rattle.sheets.specs.Rules.{Rules}
use Rattle.journal.specs.declared.line.Line.{Line}
use Rattle.journal.specs.declared.line.LineKind.{LineKind}
use Rattle.law.specs.View.{Entry, aref_of, start_of, length_of}
use Rattle.law.specs.Posting.{post, by_day, each_day, holding, free_on}
use Rattle.law.specs.Preemption.{wanted, taken, short, meets_shortage, supersede, give, grant, supersede_all, give_all, defenders}
use Rattle.law.proofs.ShrinkingShortage.{each_true}
use Rattle.visits.specs.Visiting.{still_short, supersede_until, give_until, StoppingChangesNothing}

-- a test that holds everywhere holds on each day
pub each_day_from : (p : ℕ → Bool) → ((k : ℕ) → p k ≡ true) → (s n : ℕ) → each_day p s n ≡ true
unfolding each_day
each_day_from p h s zero = refl
each_day_from p h s (suc n) = and_from (p s) (each_day p (suc s) n) (h s) (each_day_from p h (suc s) n)

-- steps that change nothing, day by day
pub by_day_nothing : (f : ℕ → List Line → List Line) (ls : List Line) → ((k : ℕ) → f k ls ≡ ls) → (s n : ℕ) → by_day f s n ls ≡ ls
unfolding by_day
by_day_nothing f ls h s zero = refl
by_day_nothing f ls h s (suc n) = rw (h s) (by_day_nothing f ls h (suc s) n)

pub post_nothing : (t : ℕ) (κ : LineKind) (a b k m : ℕ) (ls : List Line) → m ≡ 0 → post t κ a b k m ls ≡ ls
unfolding post
post_nothing t κ a b k m ls h = rw (eq-eqb m 0 h)

module _ (r : Request) where
  -- once no day of the term is short, no day is
  pub none_short : (ls : List Line) → still_short r ls ≡ false → (k : ℕ) → short r k ls ≡ 0
  none_short ls h k = go (leb r.start k && ltb k (r.start + r.length)) refl
    where
      go : (c : Bool) → (leb r.start k && ltb k (r.start + r.length)) ≡ c → cond c (wanted r k - (free_on ls k + taken r.aref k ls)) 0 ≡ 0
      go true q =
          let w = and_parts (leb r.start k) (ltb k (r.start + r.length)) q in
          let z : eqb (short r k ls) 0 ≡ true = each_true (λ day. eqb (short r day ls) 0) r.start r.length (not-false _ h) k (leb-true _ _ w.0) (ltb-true _ _ w.1) in
          rw q at (eqb-true (short r k ls) 0 z)
      go false q = refl

  -- where no day is short nobody is superseded, and nobody gives
  pub supersedes_none : (t : ℕ) (d : Entry) (ls : List Line) → ((k : ℕ) → short r k ls ≡ 0) → supersede t r d ls ≡ ls
  supersedes_none t d ls h =
      cond-false (meets_shortage r d ls) _ _ (not_from_true _ (each_day_from _ (λ k. or_right (eqb (holding ls (aref_of d) k) 0) (eqb (short r k ls) 0) (eq-eqb _ 0 (h k))) (start_of d) (length_of d)))

  pub gives_none : (R : Rules) (t : ℕ) (d : Entry) (ls : List Line) → ((k : ℕ) → short r k ls ≡ 0) → give R t r d ls ≡ ls
  gives_none R t d ls h = by_day_nothing _ ls (λ k. post_nothing t _ (aref_of d) r.aref k _ ls (omega (arith, h k))) (start_of d) (length_of d)

  pub supersedes_none_of_all : (t : ℕ) (ds : List Entry) (ls : List Line) → ((k : ℕ) → short r k ls ≡ 0) → supersede_all t r ds ls ≡ ls
  unfolding supersede_all
  supersedes_none_of_all t [] ls h = refl
  supersedes_none_of_all t (d ∷ ds) ls h = go (supersedes_none_of_all t ds ls h) (is_pending d.standing.state)
    where
      go : supersede_all t r ds ls ≡ ls → (c : Bool) → supersede_all t r ds (cond c (supersede t r d ls) ls) ≡ ls
      go ih true = ap (supersede_all t r ds) (supersedes_none t d ls h) ∙ ih
      go ih false = ih

  pub none_of_all_gives : (R : Rules) (t : ℕ) (ds : List Entry) (ls : List Line) → ((k : ℕ) → short r k ls ≡ 0) → give_all R t r ds ls ≡ ls
  unfolding give_all
  none_of_all_gives R t [] ls h = refl
  none_of_all_gives R t (d ∷ ds) ls h = go (none_of_all_gives R t ds ls h) (is_pending d.standing.state)
    where
      go : give_all R t r ds ls ≡ ls → (c : Bool) → give_all R t r ds (cond c ls (give R t r d ls)) ≡ ls
      go ih true = ih
      go ih false = ap (give_all R t r ds) (gives_none R t d ls h) ∙ ih

  pub supersede_until_is_all : (t : ℕ) (ds : List Entry) (ls : List Line) → supersede_until t r ds ls ≡ supersede_all t r ds ls
  unfolding supersede_until supersede_all
  supersede_until_is_all t [] ls = refl
  supersede_until_is_all t (d ∷ ds) ls = go (supersede_until_is_all t ds (cond (is_pending d.standing.state) (supersede t r d ls) ls)) (still_short r ls) refl
    where
      next : List Line
      next = cond (is_pending d.standing.state) (supersede t r d ls) ls

      go : supersede_until t r ds next ≡ supersede_all t r ds next → (c : Bool) → still_short r ls ≡ c → cond c (supersede_until t r ds next) ls ≡ supersede_all t r ds next
      go ih true q = ih
      go ih false q = sym (supersedes_none_of_all t (d ∷ ds) ls (none_short ls q))

  pub give_until_is_all : (R : Rules) (t : ℕ) (ds : List Entry) (ls : List Line) → give_until R t r ds ls ≡ give_all R t r ds ls
  unfolding give_until give_all
  give_until_is_all R t [] ls = refl
  give_until_is_all R t (d ∷ ds) ls = go (give_until_is_all R t ds (cond (is_pending d.standing.state) ls (give R t r d ls))) (still_short r ls) refl
    where
      next : List Line
      next = cond (is_pending d.standing.state) ls (give R t r d ls)

      go : give_until R t r ds next ≡ give_all R t r ds next → (c : Bool) → still_short r ls ≡ c → cond c (give_until R t r ds next) ls ≡ give_all R t r ds next
      go ih true q = ih
      go ih false q = sym (none_of_all_gives R t (d ∷ ds) ls (none_short ls q))

pub stopping_changes_nothing : StoppingChangesNothing
stopping_changes_nothing R t r v =
    let ds = defenders R t r v in
    give_until_is_all r R t ds (by_day (grant t r) r.start r.length (supersede_until t r ds v.lines))
    ∙ ap (λ ls. give_all R t r ds (by_day (grant t r) r.start r.length ls)) (supersede_until_is_all r t ds v.lines)
