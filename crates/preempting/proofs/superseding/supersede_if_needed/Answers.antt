use Rattle.std.proofs.Common.{length, sym, ap, ◌∙◌, subst, arith}
use Rattle.posting.specs.Postable.{with_lines}
use Rattle.std.proofs.lemmas.Bool.{eq-eqb, ne_eqb, not-true, not-false}
use Rattle.desk.specs.Desks.{view}
use Rattle.posting.specs.Sides.{unread}
use Rattle.preempting.specs.Visits.{ShortShown}
use Rattle.preempting.proofs.Shortages.{holds_in_term, visit_finds}
use Rattle.preempting.proofs.Superseded.{short_after, not_pending, pending, passed_over, superseded_lines, superseded_movable}
use Rattle.moving.proofs.LedgerKeeps.{midway_in}
use Rattle.preempting.proofs.superseding.supersede_if_needed.Goals as goal

pub returns-then-not-is_pending : goal.returns-then-not-is_pending
returns-then-not-is_pending c =
    let d = c.args.ledger.now.desk in
    let e = not_pending d (midway_in c.args.ledger.now) c.args.minute c.args.request.now c.args.place c.requires.within c.requires.ready (sym c.if-not-is_pending.ensures) in
    record { view = sym (ap (with_lines (view d)) e); short = subst (λ ls. ShortShown c.args.request.now ls c.args.short.now) (sym e) c.requires.short }

pub returns-then-visit-eq0 : goal.returns-then-visit-eq0
returns-then-visit-eq0 c =
    let d = c.args.ledger.now.desk in let r = c.args.request.now in
    let e = pending d (midway_in c.args.ledger.now) c.args.minute r c.args.place c.requires.within c.requires.ready (sym c.is_pending.ensures ∙ c.if-not-is_pending.false) in
    let f = visit_finds d (midway_in c.args.ledger.now).showing r c.args.place c.requires.within unread c.requires.ready c.args.short.now c.requires.short c.visit.result (c.visit.ensures.own_days (holds_in_term d (midway_in c.args.ledger.now).showing r c.args.place c.requires.within unread c.requires.ready)) in
    let none = not-true _ (sym f ∙ eq-eqb c.visit.result 0 c.if-visit-eq0.true) in
    let same = e ∙ passed_over d (midway_in c.args.ledger.now) c.args.minute r c.args.place c.requires.within c.requires.ready none in
    record {
      view = sym (ap (with_lines (view d)) same);
      short = subst (λ ls. ShortShown r ls c.visit.new.short) (sym e) (short_after d (midway_in c.args.ledger.now) c.args.minute r c.args.place c.requires.within c.requires.ready c.args.short.now c.visit.new.short c.requires.short c.visit.auto.short c.visit.ensures.taken);
    }

pub move_by_day-requires : goal.move_by_day-requires
move_by_day-requires c =
    let d = c.args.ledger.now.desk in let r = c.args.request.now in
    let e = pending d (midway_in c.args.ledger.now) c.args.minute r c.args.place c.requires.within c.requires.ready (sym c.is_pending.ensures ∙ c.if-not-is_pending.false) in
    let f = visit_finds d (midway_in c.args.ledger.now).showing r c.args.place c.requires.within unread c.requires.ready c.args.short.now c.requires.short c.visit.result (c.visit.ensures.own_days (holds_in_term d (midway_in c.args.ledger.now).showing r c.args.place c.requires.within unread c.requires.ready)) in
    let some = not-false _ (sym f ∙ ne_eqb c.visit.result 0 c.if-visit-eq0.false) in
    let same = superseded_lines d (midway_in c.args.ledger.now) c.args.minute r c.args.place c.requires.within c.requires.ready some in
    record {
      may = superseded_movable d (midway_in c.args.ledger.now) c.args.minute r c.args.place c.requires.within c.requires.ready;
      roomy = omega (arith, ap length (same ∙ sym e), c.requires.roomy);
    }

pub returns : goal.returns
returns c =
    let d = c.args.ledger.now.desk in let r = c.args.request.now in
    let e = pending d (midway_in c.args.ledger.now) c.args.minute r c.args.place c.requires.within c.requires.ready (sym c.is_pending.ensures ∙ c.if-not-is_pending.false) in
    let f = visit_finds d (midway_in c.args.ledger.now).showing r c.args.place c.requires.within unread c.requires.ready c.args.short.now c.requires.short c.visit.result (c.visit.ensures.own_days (holds_in_term d (midway_in c.args.ledger.now).showing r c.args.place c.requires.within unread c.requires.ready)) in
    let some = not-false _ (sym f ∙ ne_eqb c.visit.result 0 c.if-visit-eq0.false) in
    let same = superseded_lines d (midway_in c.args.ledger.now) c.args.minute r c.args.place c.requires.within c.requires.ready some in
    record {
      view = c.move_by_day.ensures.view ∙ ap (with_lines (view d)) (same ∙ sym e);
      short = subst (λ ls. ShortShown r ls c.visit.new.short) (sym e) (short_after d (midway_in c.args.ledger.now) c.args.minute r c.args.place c.requires.within c.requires.ready c.args.short.now c.visit.new.short c.requires.short c.visit.auto.short c.visit.ensures.taken);
    }
