use Rattle.std.proofs.Common.{ℕ, refl, ap, ◌∙◌}
use Rattle.terms.specs.declared.words.State.TheVariants.{Confirmed}
use Rattle.std.proofs.lemmas.Result.{err_from_is_err_and}
use Rattle.law.specs.Places.{change, stand_confirmed}
use Rattle.law.specs.Calls.{makes, confirm, written}
use Rattle.desk.specs.Desks.{view}
use Rattle.later.proofs.OneCall.{stepped, named}
use Rattle.later.proofs.by_aref.confirm.Goals as goal

pub returns-in_err-i : goal.returns-in_err-i
returns-in_err-i c =
    let v = view c.args.ledger.now.desk in let a = c.args.aref in let k = confirm c.args.minute a in
    let p = err_from_is_err_and c.from_residual.result c.from_residual.ensures.1 in
    rw (p.1, p.2) (record {
      says = λ R. stepped R k v _ _ _ (c.in_err-i.ensures R k (λ e. makes v.lines (change a stand_confirmed v.places) a Confirmed) (record { at_minute = refl; settles_not = refl; is_by_aref = refl })) refl;
    })

pub returns : goal.returns
returns c =
    let d = c.args.ledger.now.desk in let v = view d in let a = c.args.aref in let k = confirm c.args.minute a in let P = c.in_ok-i.ensures in
    record {
      says = λ R. stepped R k v _ _ _ (P.goes R k (λ e. makes v.lines (change a stand_confirmed v.places) a Confirmed) (record { at_minute = refl; settles_not = refl; is_by_aref = refl }))
          (c.confirm_at.ensures.says k refl refl ∙ ap (λ (x : ℕ). written k v (makes v.lines (change x stand_confirmed v.places) x Confirmed)) (named d _ _ _ _ P));
    }
