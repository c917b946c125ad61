use Rattle.std.proofs.Common.{◌≡◌, true, length, sym, ◌∙◌, rules}
use Rattle.std.proofs.lemmas.Bool.{and_from, ne_eqb, cond-true, not_from_false}
use Rattle.terms.specs.Words.{is_pending}
use Rattle.defending.specs.Shortage.{gives_whole}
use Rattle.defending.proofs.VisitDays.{held_days}
use Rattle.defending.proofs.size.count_visit.Goals as goal

pending : (c : goal.After-count_busy) → is_pending c.args.one.now.standing.state ≡ true
pending c = sym c.is_pending.ensures ∙ c.if-not-is_pending.false

whole : (c : goal.After-count_busy) → gives_whole c.args.one.now c.args.request.now c.args.short.now ≡ true
whole c = and_from _ _ (pending c) (not_from_false _ (ne_eqb _ 0 (λ e. c.if-days-eq0.false (c.visit-days.ensures.days ∙ e))))

pub returns-clause-granted : goal.returns-clause-granted
returns-clause-granted c = λ k h. c.grant_more.ensures k h ∙ sym (cond-true _ _ _ (whole c))

pub returns-clause-lines : goal.returns-clause-lines
returns-clause-lines c =
    let month : length c.args.one.now.held ≡ 31 = search rules in
    c.count_busy.ensures ∙ held_days c.args.one.now c.args.one.now.standing.request.length c.requires.own month ∙ sym (cond-true _ _ _ (pending c) ∙ cond-true _ _ _ (whole c))
