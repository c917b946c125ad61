-- The state of the record in a place, as memory has it and as the rules see it.
use Rattle.std.proofs.Common.{◌≡◌, ℕ, ◌<◌, true, length, get_or, sym, ap, ◌∙◌, subst}
use Rattle.std.proofs.lemmas.List.{get_or-map}
use Rattle.terms.specs.declared.words.State.{State}
use Rattle.terms.specs.Words.{is_living}
use Rattle.sheets.specs.Rules.{Rules}
use Rattle.law.specs.View.{View, Entry, living, nobody}
use Rattle.law.specs.Calls.{Answer, settles}
use Rattle.desk.specs.declared.memory.Desk.{Desk}
use Rattle.desk.specs.Desks.{view}
use Rattle.desk.specs.Records.{entry_of}
use Rattle.posting.specs.Sides.{unread, place}
use Rattle.admitting.specs.Writing.{Writes}

module _ (d : Desk) (i : ℕ) (h : i < length d.places.now) (s : State) (q : (place d.places.now i).standing.state ≡ s) where
  pub state_is : (get_or (view d).places i nobody).standing.state ≡ s
  state_is = ap (λ (e : Entry). e.standing.state) (get_or-map entry_of d.places.now i unread nobody h) ∙ q

  pub lives_in : is_living s ≡ true → living (get_or (view d).places i nobody) ≡ true
  lives_in l = ap is_living state_is ∙ l

  pub settled_so : (R : Rules) (t : ℕ) (answer : Answer) (after : View) → Writes (view d) t (settles R t (get_or (view d).places i nobody) (view d) s) answer after →
      Writes (view d) t (settles R t (get_or (view d).places i nobody) (view d) (get_or (view d).places i nobody).standing.state) answer after
  settled_so R t answer after w = subst (λ (x : State). Writes (view d) t (settles R t (get_or (view d).places i nobody) (view d) x) answer after) (sym state_is) w
