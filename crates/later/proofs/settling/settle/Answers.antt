use Rattle.std.proofs.Common.{◌≡◌, refl, ap, ◌∙◌, arith}
use Rattle.std.proofs.lemmas.Result.{err_from_is_err_and}
use Rattle.terms.specs.declared.refusal.Refusal.TheVariants.{NothingDue}
use Rattle.law.specs.View.{Entry}
use Rattle.law.specs.Calls.{settle, settles}
use Rattle.desk.specs.Desks.{view}
use Rattle.later.proofs.OneCall.{stepped}
use Rattle.later.proofs.settling.settle.Goals as goal

pub returns-in_err-begin_settling : goal.returns-in_err-begin_settling
returns-in_err-begin_settling g c =
    let p = err_from_is_err_and c.from_residual.result c.from_residual.ensures.1 in
    let d = c.args.ledger.now.desk in let k = settle c.args.minute in let R = g.S.RuleSheet.rules c.args.sheet.now in
    rw (p.1, p.2) (record { says = stepped R k (view d) _ _ _ (c.in_err-begin_settling.ensures.settles R k refl refl) refl })

pub returns-in_err-i : goal.returns-in_err-i
returns-in_err-i g c =
    let p = err_from_is_err_and c.from_residual-in_err-i.result c.from_residual-in_err-i.ensures.1 in
    let nothing : c.in_err-i.field-0.0 ≡ NothingDue = let v = c.in_err-i.ensures.value in let o = c.in_err-i.ensures.ok_part in grind arith in
    let none = rw c.in_err-i.ensures.ok_part at c.earliest.ensures in
    let d = c.args.ledger.now.desk in let v = view d in let t = c.args.minute in let k = settle t in let R = g.S.RuleSheet.rules c.args.sheet.now in
    rw (p.1, p.2, nothing) (record {
      says = stepped R k v _ _ _ (c.in_ok-begin_settling.ensures.settles.1 R k refl refl ∙ ap (λ (e : Entry). settles R t e v e.standing.state) none.first) refl;
    })

pub returns : goal.returns
returns g c =
    let some = rw c.in_ok-i.ensures.ok_part at c.earliest.ensures in
    let d = c.args.ledger.now.desk in let v = view d in let t = c.args.minute in let k = settle t in let R = g.S.RuleSheet.rules c.args.sheet.now in
    record {
      says = stepped R k v _ _ _ (c.in_ok-begin_settling.ensures.settles.1 R k refl refl ∙ ap (λ (e : Entry). settles R t e v e.standing.state) some.first) (c.settle_at.ensures.says k refl refl);
    }
