use Rattle.std.proofs.Common.{◌≡◌, ℕ, true, List, Option, Some, None, sym, ap, ◌∙◌}
use Rattle.std.specs.Option.{unwrap_or}
use Rattle.std.proofs.lemmas.Bool.{true≢false}
use Rattle.law.specs.View.{Entry, living, find}
use Rattle.desk.specs.Desks.{view}
use Rattle.admitting.specs.Admission.{Found}
use Rattle.admitting.proofs.AtPlace.{Sought, sought}
use Rattle.declining.proofs.challenger_place.Goals as goal

-- where somebody lives under the AREF, the place that a look for it answers is theirs
place_found : (es : List Entry) (a : ℕ) (o : Option ℕ) → Sought es a o → living (find a es) ≡ true → Found es a (unwrap_or o 0)
place_found es a None s l = absurd (true≢false (sym l ∙ ap living s))
place_found es a (Some i) s l = s

pub returns : goal.returns
returns c l =
    let es = (view c.args.desk.now).places in
    rw (c.unwrap_or.ensures, c.place_of.ensures) (place_found es c.args.against _ (sought c.args.against es) l)
