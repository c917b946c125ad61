use Rattle.std.proofs.Common.{refl}
use Rattle.std.proofs.lemmas.Result.{err_from_is_err_and}
use Rattle.law.specs.Calls.{declined, decline}
use Rattle.desk.specs.Desks.{view}
use Rattle.later.proofs.OneCall.{stepped}
use Rattle.later.proofs.by_aref.decline.Goals as goal

pub returns-in_err-i : goal.returns-in_err-i
returns-in_err-i g c =
    let v = view c.args.ledger.now.desk in let t = c.args.minute in let k = decline t c.args.aref in let R = g.S.RuleSheet.rules c.args.sheet.now in
    let p = err_from_is_err_and c.from_residual.result c.from_residual.ensures.1 in
    rw (p.1, p.2) (record {
      says = stepped R k v _ _ _ (c.in_err-i.ensures R k (λ e. declined R t e v) (record { at_minute = refl; settles_not = refl; is_by_aref = refl })) refl;
    })

pub returns : goal.returns
returns g c =
    let v = view c.args.ledger.now.desk in let t = c.args.minute in let k = decline t c.args.aref in let R = g.S.RuleSheet.rules c.args.sheet.now in
    record {
      says = stepped R k v _ _ _ (c.in_ok-i.ensures.goes R k (λ e. declined R t e v) (record { at_minute = refl; settles_not = refl; is_by_aref = refl })) (c.decline_at.ensures.says k refl refl);
    }
