-- Visits one after another: what holds after the first j of them, and after all.
use Rattle.std.proofs.Common.{◌≡◌, ℕ, ◌+◌, ◌<◌, ◌≤◌, List, [], ◌∷◌, ◌++◌, length, get_or, take, drop, sym, refl, ap, ◌∙◌, subst, arith}
use Rattle.std.specs.List.{AllByRecursion}
use Rattle.std.proofs.lemmas.List.{take_more, take-append-drop, take_all}
use Rattle.terms.specs.declared.request.Request.{Request}
use Rattle.sheets.specs.Rules.{Rules}
use Rattle.journal.specs.declared.line.Line.{Line}
use Rattle.journal.specs.declared.line.LineKind.{LineKind}
use Rattle.journal.specs.Accounts.{NeverBelowZero}
use Rattle.law.specs.View.{Entry, nobody}
use Rattle.law.specs.Posting.{post, by_day}
use Rattle.law.specs.Preemption.{supersede_all, give_all}
use Rattle.law.proofs.ShrinkingShortage.{Later, later_refl, later_trans}
use Rattle.moving.proofs.Walks.{by_day_none, by_day_grows, length-post}
use Rattle.preempting.specs.Visits.{superseding, giving}

-- one visit after another
unfoldable pub visits : (Entry → List Line → List Line) → List Entry → List Line → List Line
visits f [] ls = ls
visits f (d ∷ ds) ls = visits f ds (f d ls)

pub supersede_all_visits : (t : ℕ) (r : Request) (ds : List Entry) (ls : List Line) → supersede_all t r ds ls ≡ visits (superseding t r) ds ls
unfolding supersede_all visits
supersede_all_visits t r [] ls = refl
supersede_all_visits t r (d ∷ ds) ls = supersede_all_visits t r ds (superseding t r d ls)

pub give_all_visits : (R : Rules) (t : ℕ) (r : Request) (ds : List Entry) (ls : List Line) → give_all R t r ds ls ≡ visits (giving R t r) ds ls
unfolding give_all visits
give_all_visits R t r [] ls = refl
give_all_visits R t r (d ∷ ds) ls = give_all_visits R t r ds (giving R t r d ls)

module _ (f : Entry → List Line → List Line) where
  visits_append : (xs ys : List Entry) (ls : List Line) → visits f (xs ++ ys) ls ≡ visits f ys (visits f xs ls)
  unfolding visits
  visits_append [] ys ls = refl
  visits_append (x ∷ xs) ys ls = visits_append xs ys (f x ls)

  pub visits_none : (ds : List Entry) (ls : List Line) → visits f (take 0 ds) ls ≡ ls
  unfolding visits
  visits_none ds ls = refl

  pub visits_more : (ds : List Entry) (j : ℕ) (d : Entry) (ls : List Line) → j < length ds → d ≡ get_or ds j nobody → visits f (take (j + 1) ds) ls ≡ f d (visits f (take j ds) ls)
  unfolding visits
  visits_more ds j d ls h e =
      ap (λ xs. visits f xs ls) (take_more ds j nobody h) ∙ (visits_append (take j ds) (get_or ds j nobody ∷ []) ls ∙ ap (λ (x : Entry). f x (visits f (take j ds) ls)) (sym e))

  pub visits_all : (ds : List Entry) (j : ℕ) (ls : List Line) → length ds ≤ j → visits f (take j ds) ls ≡ visits f ds ls
  visits_all ds j ls h = ap (λ xs. visits f xs ls) (take_all j ds h)

  pub visits_rest : (ds : List Entry) (j : ℕ) (ls : List Line) → visits f ds ls ≡ visits f (drop j ds) (visits f (take j ds) ls)
  visits_rest ds j ls = ap (λ xs. visits f xs ls) (sym (take-append-drop j ds)) ∙ visits_append (take j ds) (drop j ds) ls

  module _ (grows : (d : Entry) (ls : List Line) → length ls ≤ length (f d ls)) where
    visits_grow : (ds : List Entry) (ls : List Line) → length ls ≤ length (visits f ds ls)
    unfolding visits
    visits_grow [] ls = omega arith
    visits_grow (d ∷ ds) ls = omega (arith, grows d ls, visits_grow ds (f d ls))

    pub visits_fit : (ds : List Entry) (j : ℕ) (ls : List Line) → length (visits f (take j ds) ls) ≤ length (visits f ds ls)
    visits_fit ds j ls = omega (arith, visits_grow (drop j ds) (visits f (take j ds) ls), ap length (visits_rest ds j ls))

  module _ (r : Request) (P : Entry → Type 0) (one : (d : Entry) → P d → (ls : List Line) → NeverBelowZero ls → Later r ls (f d ls)) where
    pub visits_later : (ds : List Entry) → AllByRecursion P ds → (ls : List Line) → NeverBelowZero ls → Later r ls (visits f ds ls)
    unfolding visits
    visits_later [] a ls h = later_refl r ls h
    visits_later (d ∷ ds) a ls h = let L = one d a.0 ls h in later_trans r ls (f d ls) _ L (visits_later ds a.1 (f d ls) L.solvent)

  all_taken : (P : Entry → Type 0) (ds : List Entry) (j : ℕ) → AllByRecursion P ds → AllByRecursion P (take j ds)
  all_taken P ds j a = first (take j ds) (drop j ds) (subst (AllByRecursion P) (sym (take-append-drop j ds)) a)
    where
      first : (xs ys : List Entry) → AllByRecursion P (xs ++ ys) → AllByRecursion P xs
      first [] ys h = tt
      first (x ∷ xs) ys h = (h.0, first xs ys h.1)

  pub visits_later_at : (r : Request) (P : Entry → Type 0) → ((d : Entry) → P d → (ls : List Line) → NeverBelowZero ls → Later r ls (f d ls)) →
      (ds : List Entry) (j : ℕ) → AllByRecursion P ds → (ls : List Line) → NeverBelowZero ls → Later r ls (visits f (take j ds) ls)
  visits_later_at r P one ds j a ls h = visits_later r P one (take j ds) (all_taken P ds j a) ls h

-- postings by day never shorten the journal
pub grown : (t : ℕ) (κ : LineKind) (a b : ℕ) (m : ℕ → List Line → ℕ) (s n : ℕ) (ls : List Line) → length ls ≤ length (by_day (λ day ms. post t κ a b day (m day ms) ms) s n ls)
grown t κ a b m s n ls =
    let u = by_day_grows (λ day ms. post t κ a b day (m day ms) ms) (λ day ms. omega (arith, length-post t κ a b day (m day ms) ms)) s 0 n ls in
    let z : 0 + n ≡ n = omega arith in
    let u' = rw (z, by_day_none) at u in u'
