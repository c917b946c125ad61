-- A record is told where one of the lines tells of it.
use Rattle.std.proofs.Common.{◌&&◌, ◌==◌, sym, ◌∙◌, rules, tests}
use Rattle.std.proofs.lemmas.Iterator.{YieldsList-from_slice}
use Rattle.std.proofs.lemmas.Iterator.Search.{any_from_yields_List}
use Rattle.journal.specs.Kinds.{gives_way}
use Rattle.receipts.proofs.Telling.{told_any}
use Rattle.receipts.proofs.notice.is_told.Goals as goal

pub returns : goal.returns
returns c =
    any_from_yields_List (λ l. gives_way l.kind && l.a == c.args.aref) _ _ _ c.any.ensures.ran (YieldsList-from_slice c.args.lines.now cc) (λ x b q k. search (rules, tests))
    ∙ sym (told_any c.args.aref c.args.lines.now)
