use Rattle.std.proofs.Common.{◌≡◌, ◌<◌, false, length, sym, refl, ap, ◌∙◌, subst, arith}
use Rattle.std.proofs.lemmas.List.{length-map, set-get_or}
use Rattle.std.proofs.lemmas.Bool.{eq-eqb, ne_eqb, not-true, not-false, cond-true, cond-false, false≢true}
use Rattle.terms.specs.Words.{is_pending}
use Rattle.law.specs.View.{View, Entry, nobody}
use Rattle.desk.specs.Desks.{view}
use Rattle.desk.specs.Records.{entry_of}
use Rattle.posting.specs.Sides.{unread, place}
use Rattle.defending.specs.LinedUp.{entry_at}
use Rattle.moving.specs.Midway.{with_places}
use Rattle.preempting.specs.declared.giving.Giving.{Giving}
use Rattle.preempting.specs.Giving.{Giveable, challenged_by}
use Rattle.preempting.proofs.BegunVisits.{unneeded_gives_none, giveable_then, giving_read}
use Rattle.preempting.proofs.Shortages.{entry_is, holds_in_term, visit_finds}
use Rattle.moving.proofs.LedgerKeeps.{midway_in}
use Rattle.preempting.proofs.challenging.begin_visit.Goals as goal

pub returns-then-is_pending : goal.returns-then-is_pending
returns-then-is_pending g c =
    let d = c.args.ledger.now.desk in
    let same = entry_is d (midway_in c.args.ledger.now).showing c.args.request.now c.args.place c.requires.within unread c.requires.ready in
    record { begun = (refl, cond-true _ _ _ (ap (λ (e : Entry). is_pending e.standing.state) (sym same) ∙ sym c.if-is_pending.ensures)) }

pub returns-then-visit-eq0 : goal.returns-then-visit-eq0
returns-then-visit-eq0 g c =
    let d = c.args.ledger.now.desk in let r = c.args.request.now in let R = g.S.RuleSheet.rules c.args.sheet.now in
    let same = entry_is d (midway_in c.args.ledger.now).showing r c.args.place c.requires.within unread c.requires.ready in
    let f = visit_finds d (midway_in c.args.ledger.now).showing r c.args.place c.requires.within unread c.requires.ready c.args.short.now c.requires.short c.visit.result (c.visit.ensures.own_days (holds_in_term d (midway_in c.args.ledger.now).showing r c.args.place c.requires.within unread c.requires.ready)) in
    let none = not-true _ (sym f ∙ eq-eqb c.visit.result 0 c.if-visit-eq0.true) in
    record {
      begun = (
        refl,
        cond-false _ _ _ (ap (λ (e : Entry). is_pending e.standing.state) (sym same) ∙ (sym c.is_pending.ensures ∙ c.if-is_pending.false))
            ∙ unneeded_gives_none R c.args.minute r (entry_at (view d).places c.args.place) (view d).lines none,
      );
    }

pub returns-then-right : goal.returns-then-right
returns-then-right g c =
    let d = c.args.ledger.now.desk in let r = c.args.request.now in let R = g.S.RuleSheet.rules c.args.sheet.now in let p = c.args.place in let t = c.args.minute in
    let same = entry_is d (midway_in c.args.ledger.now).showing r p c.requires.within unread c.requires.ready in
    let e = entry_at (view d).places p in
    let f = visit_finds d (midway_in c.args.ledger.now).showing r p c.requires.within unread c.requires.ready c.args.short.now c.requires.short c.visit.result (c.visit.ensures.own_days (holds_in_term d (midway_in c.args.ledger.now).showing r p c.requires.within unread c.requires.ready)) in
    let lt : p < length (view d).places = omega (arith, c.requires.within, length-map d.places.now entry_of) in
    let given = giving_read R t r c.args.challenger p (entry_of (place d.places.now p)) e same c.may_match-right.result c.may_match-right.ensures in
    let not_pending = ap (λ (x : Entry). is_pending x.standing.state) (sym same) ∙ (sym c.is_pending.ensures ∙ c.if-is_pending.false) in
    let needed = not-false _ (sym f ∙ ne_eqb c.visit.result 0 c.if-visit-eq0.false) in
    let y = c.challenge.new.ledger.desk in let V = c.challenge.ensures.view in
    record {
      begun = (
        given,
        not_pending,
        needed,
        V ∙ sym (ap (with_places (view d)) (cond-true c.may_match-right.result _ _ c.if-right.true)),
        subst (λ (x : Giving). Giveable y x r) (sym given)
            (giveable_then R t r (view d) c.args.challenger p lt c.requires.ready c.requires.seated y (challenged_by R t r (view d).days e) refl refl refl (λ q. refl) (ap (λ (w : View). w.days) V) (ap (λ (w : View). w.places) V)),
      );
    }

pub returns-else-right : goal.returns-else-right
returns-else-right g c =
    let d = c.args.ledger.now.desk in let r = c.args.request.now in let R = g.S.RuleSheet.rules c.args.sheet.now in let p = c.args.place in let t = c.args.minute in
    let same = entry_is d (midway_in c.args.ledger.now).showing r p c.requires.within unread c.requires.ready in
    let e = entry_at (view d).places p in
    let f = visit_finds d (midway_in c.args.ledger.now).showing r p c.requires.within unread c.requires.ready c.args.short.now c.requires.short c.visit.result (c.visit.ensures.own_days (holds_in_term d (midway_in c.args.ledger.now).showing r p c.requires.within unread c.requires.ready)) in
    let lt : p < length (view d).places = omega (arith, c.requires.within, length-map d.places.now entry_of) in
    let given = giving_read R t r c.args.challenger p (entry_of (place d.places.now p)) e same c.may_match-right.result c.may_match-right.ensures in
    let not_pending = ap (λ (x : Entry). is_pending x.standing.state) (sym same) ∙ (sym c.is_pending.ensures ∙ c.if-is_pending.false) in
    let needed = not-false _ (sym f ∙ ne_eqb c.visit.result 0 c.if-visit-eq0.false) in
    let no_right : R.may_match r e.standing ≡ false = ap (λ (x : Entry). R.may_match r x.standing) (sym same) ∙ (sym c.may_match-right.ensures ∙ c.if-right.false) in
    record {
      begun = (
        given,
        not_pending,
        needed,
        sym (ap (with_places (view d)) (cond-false c.may_match-right.result _ _ c.if-right.false)),
        subst (λ (x : Giving). Giveable d x r) (sym given)
            (giveable_then R t r (view d) c.args.challenger p lt c.requires.ready c.requires.seated d e refl c.requires.ready.lives refl (λ q. absurd (false≢true (sym no_right ∙ q))) refl (sym (set-get_or (view d).places p nobody))),
      );
    }
