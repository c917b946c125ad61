use Rattle.std.proofs.Common.{◌≡◌, ◌+◌, [], ◌∷◌, ◌++◌, length, take, sym, ap, ◌∙◌, subst, arith}
use Rattle.std.proofs.lemmas.List.{length-map, length-append}
use Rattle.std.proofs.lemmas.Iterator.Adapters.{YieldsList-from_rev_slice}
use Rattle.std.proofs.lemmas.Iterator.Consumers.{YieldsList-turn, YieldsList-end}
use Rattle.shelf.specs.Contents.{contents}
use Rattle.law.specs.View.{View, Entry}
use Rattle.desk.specs.Desks.{view}
use Rattle.posting.specs.Postable.{with_lines}
use Rattle.defending.specs.LinedUp.{lined, entry_at}
use Rattle.preempting.specs.Visits.{ShortShown, superseding}
use Rattle.preempting.proofs.Folds.{visits, visits_none, visits_more, visits_all, visits_fit, supersede_all_visits}
use Rattle.preempting.proofs.InTurn.{named_in_line, still_within, same_place, still_ready}
use Rattle.preempting.proofs.Superseded.{superseding_grows, superseded_later}
use Rattle.moving.proofs.LedgerKeeps.{midway_in}
use Rattle.preempting.proofs.superseding.supersede_in_turn.Goals as goal

pub loop-one-init : goal.loop-one-init
loop-one-init c =
    let v = view c.args.ledger.now.desk in
    let f = superseding c.args.minute c.args.request.now in
    let ds = lined v.places (contents c.args.defenders.now) in
    let whole = ap (λ s. s.iter.rest.now) c.into_iter-one-iterator.ensures.into_iter_gives ∙ ap (λ s. s.rest.now) c.rev-one-items.ensures.source ∙ c.iter.ensures.rest ∙ c.entries.ensures in (
      YieldsList-from_rev_slice _ whole,
      sym (ap (with_lines v) (visits_none f ds v.lines)),
      subst (λ ls. ShortShown c.args.request.now ls c.args.short.now) (sym (visits_none f ds v.lines)) c.requires.short,
    )

pub supersede_if_needed-requires : goal.supersede_if_needed-requires
supersede_if_needed-requires c =
    let d = c.args.ledger.now.desk in
    let v = view d in
    let r = c.args.request.now in
    let t = c.args.minute in
    let xs = contents c.args.defenders.now in
    let j = length c.loop-one.yielded in
    let ds = lined v.places xs in
    let ls = visits (superseding t r) (take j ds) v.lines in
    let before = c.loop-one.invariant in
    let turn = YieldsList-turn before.0 c.loop-one.yielded _ c.loop-one.yielded_by _ _ c.in-Some.one c.in-Some.is c.next.ensures.steps in
    let L = superseded_later d (midway_in c.args.ledger.now) t r xs c.requires.ready j in
    let V = before.1 in
    let x = c.in-Some.one.now in
    let e = named_in_line d r xs c.requires.ready j turn.0 x turn.1 in
    let s = same_place d r xs c.requires.ready j turn.0 x turn.1 c.loop-one.ledger.desk ls V L in
    let more = visits_more (superseding t r) ds j (entry_at v.places x.place) v.lines (omega (arith, turn.0, length-map xs (λ y. entry_at v.places y.place))) e in
    record {
      within = still_within d r xs c.requires.ready j turn.0 x turn.1 c.loop-one.ledger.desk ls V L;
      ready = still_ready d r xs c.requires.ready j turn.0 x turn.1 c.loop-one.ledger.desk ls V L;
      short = subst (λ ms. ShortShown r ms c.loop-one.short) (sym (ap (λ (w : View). w.lines) V)) before.2;
      month = c.requires.month;
      inside = c.requires.inside;
      roomy =
          let step : superseding t r (entry_at (view c.loop-one.ledger.desk).places x.place) (view c.loop-one.ledger.desk).lines ≡ visits (superseding t r) (take (j + 1) ds) v.lines
          = ap (λ (y : Entry). superseding t r y (view c.loop-one.ledger.desk).lines) s ∙ (ap (λ (w : View). superseding t r (entry_at v.places x.place) w.lines) V ∙ sym more) in
          omega (arith, ap length step, visits_fit (superseding t r) (superseding_grows t r) ds (j + 1) v.lines, ap length (supersede_all_visits t r ds v.lines), c.requires.roomy, ap (λ (w : View). w.room) V);
    }

pub loop-one-preserved : goal.loop-one-preserved
loop-one-preserved c =
    let d = c.args.ledger.now.desk in
    let v = view d in
    let r = c.args.request.now in
    let t = c.args.minute in
    let xs = contents c.args.defenders.now in
    let j = length c.loop-one.yielded in
    let ds = lined v.places xs in
    let ls = visits (superseding t r) (take j ds) v.lines in
    let before = c.loop-one.invariant in
    let turn = YieldsList-turn before.0 c.loop-one.yielded _ c.loop-one.yielded_by _ _ c.in-Some.one c.in-Some.is c.next.ensures.steps in
    let on : length (c.loop-one.yielded ++ c.in-Some.one ∷ []) ≡ length c.loop-one.yielded + 1 = length-append c.loop-one.yielded (c.in-Some.one ∷ []) in
    let L = superseded_later d (midway_in c.args.ledger.now) t r xs c.requires.ready j in
    let V = before.1 in
    let x = c.in-Some.one.now in
    let e = named_in_line d r xs c.requires.ready j turn.0 x turn.1 in
    let s = same_place d r xs c.requires.ready j turn.0 x turn.1 c.loop-one.ledger.desk ls V L in
    let more = visits_more (superseding t r) ds j (entry_at v.places x.place) v.lines (omega (arith, turn.0, length-map xs (λ y. entry_at v.places y.place))) e in
    let step : superseding t r (entry_at (view c.loop-one.ledger.desk).places x.place) (view c.loop-one.ledger.desk).lines ≡ visits (superseding t r) (take (j + 1) ds) v.lines
    = ap (λ (y : Entry). superseding t r y (view c.loop-one.ledger.desk).lines) s ∙ (ap (λ (w : View). superseding t r (entry_at v.places x.place) w.lines) V ∙ sym more) in
    rw on (
      before.0,
      c.supersede_if_needed.ensures.view ∙ (ap (with_lines (view c.loop-one.ledger.desk)) step ∙ ap (λ (w : View). with_lines w (visits (superseding t r) (take (j + 1) ds) v.lines)) V),
      subst (λ ms. ShortShown r ms c.supersede_if_needed.new.short) step c.supersede_if_needed.ensures.short,
    )

pub returns : goal.returns
returns c =
    let v = view c.args.ledger.now.desk in
    let f = superseding c.args.minute c.args.request.now in
    let xs = contents c.args.defenders.now in
    let ds = lined v.places xs in
    let end = YieldsList-end c.loop-one.invariant.0 c.loop-one.yielded _ c.loop-one.yielded_by _ _ c.in-None.is c.next.ensures.steps in
    let all = visits_all f ds (length c.loop-one.yielded) v.lines (omega (arith, end.1, length-map xs (λ y. entry_at v.places y.place))) ∙ sym (supersede_all_visits c.args.minute c.args.request.now ds v.lines) in
    record {
      view = c.loop-one.invariant.1 ∙ ap (with_lines v) all;
      short = subst (λ ls. ShortShown c.args.request.now ls c.loop-one.short) all c.loop-one.invariant.2;
    }
