-- What holds of each place still holds after a change.
use Rattle.std.proofs.Common.{ℕ, Bool, true, false, cond, List, [], ◌∷◌, map, filter}
use Rattle.std.specs.List.{AllByRecursion}
use Rattle.sheets.specs.Rules.{Rules}
use Rattle.shelf.specs.Order.{put}
use Rattle.law.specs.View.{Entry, is, living, find, nobody}
use Rattle.law.specs.Places.{change, seat}
use Rattle.law.specs.Preemption.{gives_before, in_turn}
use Rattle.law.specs.Calls.{earliest, sooner, first_due, is_due}

module _ (P : Entry → Type 0) where
  all_cond : (c : Bool) (x y : Entry) → P x → P y → P (cond c x y)
  all_cond true x y p q = p
  all_cond false x y p q = q

  lists_cond : (c : Bool) (xs ys : List Entry) → AllByRecursion P xs → AllByRecursion P ys → AllByRecursion P (cond c xs ys)
  lists_cond true xs ys p q = p
  lists_cond false xs ys p q = q

  pub all_find : (a : ℕ) (es : List Entry) → P nobody → AllByRecursion P es → P (find a es)
  unfolding find
  all_find a [] n h = n
  all_find a (e ∷ es) n h = all_cond (is a e) e (find a es) h.0 (all_find a es n h.1)

  pub all_change : (a : ℕ) (f : Entry → Entry) (es : List Entry) → ((e : Entry) → P e → P (f e)) → AllByRecursion P es → AllByRecursion P (change a f es)
  all_change a f [] g h = tt
  all_change a f (e ∷ es) g h = (all_cond (is a e) (f e) e (g e h.0) h.0, all_change a f es g h.1)

  pub all_seat : (e : Entry) (es : List Entry) → P e → AllByRecursion P es → AllByRecursion P (seat e es)
  unfolding seat
  all_seat e [] p h = tt
  all_seat e (x ∷ xs) p h = lists_cond (living x) (x ∷ seat e xs) (e ∷ xs) (h.0, all_seat e xs p h.1) (p, h.1)

  pub all_kept : (t : Entry → Bool) (es : List Entry) → AllByRecursion P es → AllByRecursion P (filter t es)
  all_kept t [] h = tt
  all_kept t (e ∷ es) h = lists_cond (t e) (e ∷ filter t es) (filter t es) (h.0, all_kept t es h.1) (all_kept t es h.1)

  pub all_put : (before : Entry → Entry → Bool) (d : Entry) (es : List Entry) → P d → AllByRecursion P es → AllByRecursion P (put before es d)
  all_put before d [] p h = (p, tt)
  all_put before d (e ∷ es) p h = lists_cond (before e d) (e ∷ put before es d) (d ∷ e ∷ es) (h.0, all_put before d es p h.1) (p, h)

  pub all_in_turn : (R : Rules) (es : List Entry) → AllByRecursion P es → AllByRecursion P (in_turn R es)
  unfolding in_turn
  all_in_turn R [] h = tt
  all_in_turn R (d ∷ ds) h = all_put (gives_before R) d (in_turn R ds) h.0 (all_in_turn R ds h.1)

  pub all_maps : (f : Entry → Entry) (es : List Entry) → ((e : Entry) → P e → P (f e)) → AllByRecursion P es → AllByRecursion P (map f es)
  all_maps f [] g h = tt
  all_maps f (e ∷ es) g h = (g e h.0, all_maps f es g h.1)

  all_earliest : (d : Entry) (es : List Entry) → P d → AllByRecursion P es → P (earliest d es)
  unfolding earliest
  all_earliest d [] p h = p
  all_earliest d (e ∷ es) p h = all_earliest (cond (sooner e d) e d) es (all_cond (sooner e d) e d h.0 p) h.1

  pub all_due : (t : ℕ) (es : List Entry) → P nobody → AllByRecursion P es → P (first_due t es)
  unfolding first_due
  all_due t [] n h = n
  all_due t (e ∷ es) n h = all_cond (is_due t e) (earliest e (filter (is_due t) es)) (first_due t es) (all_earliest e (filter (is_due t) es) h.0 (all_kept (is_due t) es h.1)) (all_due t es n h.1)
