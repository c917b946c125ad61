-- One call: what it is asked for decides what it answers.
use Rattle.std.proofs.Common.{◌≡◌, ℕ, ◌<◌, true, length, get_or, sym, ap, ◌∙◌, arith}
use Rattle.std.proofs.lemmas.List.{length-map}
use Rattle.std.proofs.lemmas.Bool.{and_parts, eqb-true}
use Rattle.sheets.specs.Rules.{Rules}
use Rattle.law.specs.View.{View, living, aref_of, nobody}
use Rattle.law.specs.Calls.{Call, Made, Answer, asked, written, step}
use Rattle.desk.specs.declared.memory.Desk.{Desk}
use Rattle.desk.specs.Desks.{view}
use Rattle.desk.specs.Records.{entry_of}
use Rattle.admitting.specs.declared.MustBe.{MustBe}
use Rattle.admitting.specs.Admission.{AtPlace}

pub stepped : (R : Rules) (c : Call) (v : View) (made : Made) (answer : Answer) (after : View) → asked R c v ≡ made → (answer, after) ≡ written c v made → (answer, after) ≡ step R c v
unfolding step
stepped R c v made answer after q h = h ∙ sym (ap (written c v) q)

-- the place that a call by AREF comes to
module _ (d : Desk) (t a : ℕ) (w : MustBe) (i : ℕ) (P : AtPlace (view d) t a w i) where
  pub in_places : i < length d.places.now
  in_places = omega (arith, P.within, length-map d.places.now entry_of)

  pub lives : living (get_or (view d).places i nobody) ≡ true
  lives = (and_parts (living (get_or (view d).places i nobody)) _ P.stands).0

  pub named : aref_of (get_or (view d).places i nobody) ≡ a
  named = eqb-true _ _ (and_parts (living (get_or (view d).places i nobody)) _ P.stands).1
