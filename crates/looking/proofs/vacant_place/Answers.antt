use Rattle.std.proofs.Common.{not, ◌∙◌, rules, tests}
use Rattle.std.proofs.lemmas.Iterator.{YieldsList-from_slice}
use Rattle.std.proofs.lemmas.Iterator.Search.{position_from_yields_List}
use Rattle.law.specs.View.{living}
use Rattle.desk.specs.Records.{entry_of}
use Rattle.looking.proofs.Seeking.{first_by_records}
use Rattle.looking.proofs.vacant_place.Goals as goal

pub returns : goal.returns
returns c =
    position_from_yields_List (λ r. not (living (entry_of r))) c.position.new.self _ _ c.position.ensures.ran (YieldsList-from_slice c.args.places.now cc) (λ x b q k. search (rules, tests))
    ∙ first_by_records (λ e. not (living e)) c.args.places.now
