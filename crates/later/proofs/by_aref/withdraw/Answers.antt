use Rattle.std.proofs.Common.{refl}
use Rattle.std.proofs.lemmas.Result.{err_from_is_err_and}
use Rattle.law.specs.Calls.{let_go, withdraw}
use Rattle.desk.specs.Desks.{view}
use Rattle.later.proofs.OneCall.{stepped}
use Rattle.later.proofs.by_aref.withdraw.Goals as goal

pub returns-in_err-i : goal.returns-in_err-i
returns-in_err-i c =
    let v = view c.args.ledger.now.desk in let t = c.args.minute in let k = withdraw t c.args.aref in
    let p = err_from_is_err_and c.from_residual.result c.from_residual.ensures.1 in
    rw (p.1, p.2) (record {
      says = λ R. stepped R k v _ _ _ (c.in_err-i.ensures R k (λ e. let_go t e v) (record { at_minute = refl; settles_not = refl; is_by_aref = refl })) refl;
    })

pub returns : goal.returns
returns c =
    let v = view c.args.ledger.now.desk in let t = c.args.minute in let k = withdraw t c.args.aref in
    record {
      says = λ R. stepped R k v _ _ _ (c.in_ok-i.ensures.goes R k (λ e. let_go t e v) (record { at_minute = refl; settles_not = refl; is_by_aref = refl })) (c.let_go.ensures.says k refl refl);
    }
