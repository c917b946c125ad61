use Rattle.std.proofs.Common.{◌≡◌, ◌+◌, ◌-◌, ◌≤◌, min, List, [], ◌∷◌, ◌++◌, length, get_or, take, ap, ◌∙◌, subst, arith, rules}
use Rattle.std.proofs.lemmas.List.{take_all, length-append, length-take-le}
use Rattle.std.proofs.lemmas.Iterator.Adapters.{YieldsList-from_rev_slice}
use Rattle.std.proofs.lemmas.Iterator.Consumers.{YieldsList-turn, YieldsList-end}
use Rattle.shelf.specs.Contents.{contents}
use Rattle.shelf.specs.declared.defender.Defender.{Defender}
use Rattle.desk.specs.declared.memory.Desk.{Desk}
use Rattle.desk.specs.Desks.{view}
use Rattle.defending.specs.LinedUp.{lined}
use Rattle.defending.proofs.BusyDays.{busy_few, busy_first}
use Rattle.defending.proofs.CountingLines.{Counted, counted_none, counted_all, few_written}
use Rattle.defending.proofs.CountingInLine.{unread, in_a_place, few_days, counted_next}
use Rattle.defending.proofs.ShownInLine.{free_is}
use Rattle.defending.proofs.size.preemption_size.Goals as goal

pub loop-next-init : goal.loop-next-init
loop-next-init c =
    let d = c.args.desk.now in
    let r = c.args.request.now in
    let whole = ap (λ s. s.iter.rest.now) c.into_iter-next-iterator.ensures.into_iter_gives ∙ ap (λ s. s.rest.now) c.rev-next-items.ensures.source ∙ c.iter.ensures.rest ∙ c.entries.ensures in (
      YieldsList-from_rev_slice _ whole,
      search rules,
      search rules,
      omega arith,
      counted_none r (view d).lines c.first_short-short.result c.first_granted-granted.result
          (λ k h. c.first_short-short.ensures k h ∙ ap (λ n. r.mw - n) (free_is d c.requires.sound _ (omega (arith, c.requires.offered))))
          (λ k h. c.first_granted-granted.ensures k h ∙ ap (λ n. min n r.mw) (free_is d c.requires.sound _ (omega (arith, c.requires.offered)))),
    )

pub bounds-places-next : goal.bounds-places-next
bounds-places-next c =
    let turn = YieldsList-turn c.loop-next.invariant.0 c.loop-next.yielded _ c.loop-next.yielded_by _ _ c.in-Some.next c.in-Some.is c.next.ensures.steps in
    in_a_place c.args.desk.now c.requires.sound (contents c.args.shelf.now) c.requires.there (length c.loop-next.yielded) turn.0 c.in-Some.next.now turn.1

pub offset_bounds-places-next : goal.offset_bounds-places-next
offset_bounds-places-next c = let within = bounds-places-next c in search rules

pub count_visit-lines-requires-clause-own : goal.count_visit-lines-requires-clause-own
count_visit-lines-requires-clause-own c =
    let turn = YieldsList-turn c.loop-next.invariant.0 c.loop-next.yielded _ c.loop-next.yielded_by _ _ c.in-Some.next c.in-Some.is c.next.ensures.steps in
    few_days c.args.desk.now c.requires.sound (contents c.args.shelf.now) c.requires.there (length c.loop-next.yielded) turn.0 c.in-Some.next.now turn.1 _

-- at most 128 defenders stand on the shelf
few_entries : (d : Desk) → length d.places.now ≤ 128 → (xs : List Defender) → length xs ≤ length d.places.now → length xs ≤ 128
few_entries d few xs h = omega arith

pub overflow_add-lines : goal.overflow_add-lines
overflow_add-lines c =
    let d = c.args.desk.now in
    let xs = contents c.args.shelf.now in
    let turn = YieldsList-turn c.loop-next.invariant.0 c.loop-next.yielded _ c.loop-next.yielded_by _ _ c.in-Some.next c.in-Some.is c.next.ensures.steps in
    let own = few_days d c.requires.sound xs c.requires.there (length c.loop-next.yielded) turn.0 c.in-Some.next.now turn.1 unread in
    omega (arith, c.count_visit-lines.ensures.lines, few_written (get_or d.places.now c.in-Some.next.now.place unread) c.args.request.now c.loop-next.short own c.requires.term, c.loop-next.invariant.3, turn.0, few_entries d c.requires.few_places xs c.requires.few)

pub loop-next-preserved : goal.loop-next-preserved
loop-next-preserved c =
    let d = c.args.desk.now in
    let r = c.args.request.now in
    let xs = contents c.args.shelf.now in
    let before = c.loop-next.invariant in
    let j = length c.loop-next.yielded in
    let x = c.in-Some.next.now in
    let turn = YieldsList-turn before.0 c.loop-next.yielded _ c.loop-next.yielded_by _ _ c.in-Some.next c.in-Some.is c.next.ensures.steps in
    let own = few_days d c.requires.sound xs c.requires.there j turn.0 x turn.1 unread in
    let few = few_written (get_or d.places.now x.place unread) r c.loop-next.short own c.requires.term in
    let on : length (c.loop-next.yielded ++ c.in-Some.next ∷ []) ≡ length c.loop-next.yielded + 1 = length-append c.loop-next.yielded (c.in-Some.next ∷ []) in
    let next = counted_next d c.requires.sound xs c.requires.there j turn.0 x turn.1 unread r c.loop-next.short c.loop-next.granted c.loop-next.lines before.4
    c.count_visit-lines.new.short c.count_visit-lines.new.granted c.count_visit-lines.result c.count_visit-lines.ensures.taken c.count_visit-lines.ensures.granted c.count_visit-lines.ensures.lines in
    (before.0, c.count_visit-lines.auto.short ∙ before.1, c.count_visit-lines.auto.granted ∙ before.2, omega (arith, on, c.count_visit-lines.ensures.lines, few, before.3), rw on next)

pub overflow_add-result : goal.overflow_add-result
overflow_add-result c =
    let end = YieldsList-end c.loop-next.invariant.0 c.loop-next.yielded _ c.loop-next.yielded_by _ _ c.in-None.is c.next.ensures.steps in
    let few = few_entries c.args.desk.now c.requires.few_places (contents c.args.shelf.now) c.requires.few in
    let long = length-take-le c.args.request.now.length c.loop-next.granted (omega (arith, c.requires.term, c.loop-next.invariant.2)) in
    omega (arith, c.loop-next.invariant.3, end.1, few, c.count_busy.ensures, busy_few (λ k. get_or (take c.args.request.now.length c.loop-next.granted) k 0) 0 (length (take c.args.request.now.length c.loop-next.granted)), long, c.requires.term)

pub returns : goal.returns
returns c =
    let v = view c.args.desk.now in
    let r = c.args.request.now in
    let xs = contents c.args.shelf.now in
    let end = YieldsList-end c.loop-next.invariant.0 c.loop-next.yielded _ c.loop-next.yielded_by _ _ c.in-None.is c.next.ensures.steps in
    let all = take_all (length c.loop-next.yielded) xs (omega (arith, end.1)) in
    counted_all r v.lines (lined v.places xs) c.loop-next.short c.loop-next.granted c.loop-next.lines
    (subst (λ xs. Counted r v.lines (lined v.places xs) c.loop-next.short c.loop-next.granted c.loop-next.lines) all c.loop-next.invariant.4) c.count_busy.result (c.count_busy.ensures ∙ busy_first c.loop-next.granted r.length (omega (arith, c.requires.term, c.loop-next.invariant.2)))
