use Rattle.std.proofs.Common.{◌≡◌, ltb, count_by, ◌∙◌, rules}
use Rattle.std.proofs.iter.runs.Made.{chains}
use Rattle.defending.proofs.BusyDays.{busy_amounts}
use Rattle.defending.proofs.size.count_busy.Goals as goal

pub returns : goal.returns
returns c = let counted : c.count.result ≡ count_by (λ mw. ltb 0 mw) c.args.amounts.now = search (rules, chains) in counted ∙ busy_amounts c.args.amounts.now
