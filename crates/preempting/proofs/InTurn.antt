-- The next defender on the shelf, when those before it were visited: it stands ready where it stood.
use Rattle.std.proofs.Common.{◌≡◌, ℕ, ◌<◌, List, [], ◌∷◌, length, get_or, sym, ap, ◌∙◌, subst, arith}
use Rattle.std.specs.List.{AllByRecursion}
use Rattle.std.proofs.ByRecursion.{All-get_or}
use Rattle.std.proofs.lemmas.List.{get_or-map}
use Rattle.terms.specs.declared.request.Request.{Request}
use Rattle.shelf.specs.declared.defender.Defender.{Defender}
use Rattle.journal.specs.declared.line.Line.{Line}
use Rattle.law.specs.View.{View, Entry, aref_of, nobody}
use Rattle.law.proofs.ShrinkingShortage.{Later}
use Rattle.desk.specs.declared.memory.Desk.{Desk}
use Rattle.desk.specs.Desks.{view}
use Rattle.posting.specs.Postable.{with_lines}
use Rattle.defending.specs.LinedUp.{entry_at, lined}
use Rattle.moving.proofs.SameView.{same_length}
use Rattle.preempting.specs.Visits.{StandsReady, AllReady}

-- a record that stood ready still does, when others were visited
pub ready_later : (r : Request) (v w : View) (e : Entry) → StandsReady r v e → w.days ≡ v.days → Later r v.lines w.lines → StandsReady r w e
ready_later r v w e S days L = record {
  lives = S.lives;
  other = S.other;
  own_term = λ day p. S.own_term day (omega (arith, L.less (aref_of e) day S.other));
  some_days = S.some_days;
  month = S.month;
  inside = omega (arith, S.inside, ap (λ ds. length ds.amounts) days);
}

module _ (d : Desk) (r : Request) (xs : List Defender) (ready : AllReady r d xs) (j : ℕ) (lt : j < length xs) (x : Defender) (is : x ≡ get_or xs j x) where
  pub named_in_line : entry_at (view d).places x.place ≡ get_or (lined (view d).places xs) j nobody
  named_in_line = ap (λ (y : Defender). entry_at (view d).places y.place) is ∙ sym (get_or-map (λ y. entry_at (view d).places y.place) xs j x nobody lt)

  own_ready : (x.place < length d.places.now) × StandsReady r (view d) (entry_at (view d).places x.place)
  own_ready =
      let P = λ (y : Defender). (y.place < length d.places.now) × StandsReady r (view d) (entry_at (view d).places y.place) in
      subst P (sym is) (All-get_or P xs j x lt ready)

  module _ (e : Desk) (ls : List Line) (V : view e ≡ with_lines (view d) ls) (L : Later r (view d).lines ls) where
    pub still_within : x.place < length e.places.now
    still_within = omega (arith, own_ready.0, same_length e.places.now d.places.now (ap (λ (w : View). w.places) V))

    pub same_place : entry_at (view e).places x.place ≡ entry_at (view d).places x.place
    same_place = ap (λ (w : View). entry_at w.places x.place) V

    pub still_ready : StandsReady r (view e) (entry_at (view e).places x.place)
    still_ready = subst (StandsReady r (view e)) (sym same_place)
        (ready_later r (view d) (view e) (entry_at (view d).places x.place) own_ready.1 (ap (λ (w : View). w.days) V) (subst (Later r (view d).lines) (sym (ap (λ (w : View). w.lines) V)) L))

-- of all that stand ready, none is the challenger's
pub all_others : (d : Desk) (r : Request) (xs : List Defender) → AllReady r d xs → AllByRecursion (λ e. aref_of e ≡ r.aref → ⊥) (lined (view d).places xs)
all_others d r [] a = tt
all_others d r (x ∷ xs) a = (a.0.1.other, all_others d r xs a.1)
