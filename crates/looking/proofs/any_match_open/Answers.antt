use Rattle.std.proofs.Common.{◌∙◌, rules, tests}
use Rattle.std.proofs.lemmas.Iterator.{YieldsList-from_slice}
use Rattle.std.proofs.lemmas.Iterator.Search.{any_from_yields_List}
use Rattle.terms.specs.Words.{is_challenged}
use Rattle.looking.proofs.Seeking.{some_by_records}
use Rattle.looking.proofs.any_match_open.Goals as goal

pub returns : goal.returns
returns c =
    any_from_yields_List (λ r. is_challenged r.standing.state) c.any.new.self _ _ c.any.ensures.ran (YieldsList-from_slice c.args.places.now cc) (λ x b q k. search (rules, tests))
    ∙ some_by_records (λ e. is_challenged e.standing.state) c.args.places.now
