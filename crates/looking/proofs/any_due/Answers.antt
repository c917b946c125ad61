use Rattle.std.proofs.Common.{◌∙◌, rules, tests}
use Rattle.std.proofs.lemmas.Iterator.{YieldsList-from_slice}
use Rattle.std.proofs.lemmas.Iterator.Search.{any_from_yields_List}
use Rattle.law.specs.Calls.{is_due}
use Rattle.desk.specs.Records.{entry_of}
use Rattle.looking.proofs.Seeking.{some_by_records}
use Rattle.looking.proofs.any_due.Goals as goal

pub returns : goal.returns
returns c =
    any_from_yields_List (λ r. is_due c.args.minute (entry_of r)) c.any.new.self _ _ c.any.ensures.ran (YieldsList-from_slice c.args.places.now cc) (λ x b q k. search (rules, tests))
    ∙ some_by_records (is_due c.args.minute) c.args.places.now
