use Rattle.std.proofs.Common.{◌≡◌, length, sym, ap, ◌∙◌, cond, Ok, Err, arith}
use Rattle.std.proofs.lemmas.Bool.{lt-ltb}
use Rattle.std.proofs.Math.Seq.{take-length}
use Rattle.shelf.specs.Due.{sooner as comes-sooner}
use Rattle.shelf.specs.Order.{put}
use Rattle.shelf.specs.Contents.{contents, room}
use Rattle.desk.specs.Records.{entry_of}
use Rattle.desk.proofs.FromTheLast.{one_back}
use Rattle.dues.proofs.DueItems.{item, turn_none, turn_past, turn_more, one_more}
use Rattle.dues.proofs.first_due.Goals as goal

pub loop-place-init : goal.loop-place-init
loop-place-init c =
    let places = c.args.places.now in
    let whole : c.into_iter-place-iterator.result.iter.iter.rest.now ≡ places =
    ap (λ s. s.iter.iter.rest.now) (c.into_iter-place-iterator.ensures.into_iter_gives) ∙ ap (λ s. s.iter.rest.now) c.rev-place-items.ensures.source
    ∙ ap (λ s. s.rest.now) c.enumerate.ensures.source ∙ c.iter.ensures.rest in
    let count : c.into_iter-place-iterator.result.iter.count ≡ 0 =
    ap (λ s. s.iter.count) (c.into_iter-place-iterator.ensures.into_iter_gives) ∙ ap (λ s. s.count) c.rev-place-items.ensures.source ∙ c.enumerate.ensures.count in
    let empty = c.over-shelf.ensures.empty in
    (count, rw whole (sym (take-length places)), c.over-shelf.ensures.holds, rw (whole, empty) (omega arith), rw (whole, empty) (turn_none c.args.minute (length places) places (omega arith)))

pub loop-place-preserved-then-fell_due : goal.loop-place-preserved-then-fell_due
loop-place-preserved-then-fell_due c =
    let steps = c.in-Some.ensures.steps in
    let before = c.loop-place.invariant in
    let xs = contents c.loop-place.shelf in
    let one = c.in-Some.one.now in
    let next = c.next.new.self.iter.iter.rest.now in
    let back = one_back c.args.places.now c.loop-place.place-iterator.iter.iter.rest.now next one before.1 steps.1.0 in
    let placed : c.in-Some.place ≡ length next = omega (arith, steps.1.1, before.0) in
    let room_left : c.put.result ≡ Ok tt =
    c.put.ensures.answer ∙ ap (λ b. cond b (Ok tt) (Err (item c.in-Some.place (entry_of one)))) (lt-ltb (length xs) (room c.loop-place.shelf) (omega (arith, c.requires, before.2, before.3, back.count))) in
    let lined : contents c.put.new.self ≡ put comes-sooner xs (item (length next) (entry_of one)) =
    (rw room_left at c.put.ensures.taken) ∙ ap (λ n. put comes-sooner xs (item n (entry_of one))) placed in (
      steps.0 ∙ before.0,
      back.firsts,
      c.put.ensures.same_room ∙ before.2,
      omega (arith, back.count, before.3, one_more xs (contents c.put.new.self) _ lined),
      rw lined (turn_more c.args.minute c.args.places.now _ _ _ back xs before.4 (sym c.fell_due.ensures ∙ c.if-fell_due.true)),
    )

pub loop-place-preserved : goal.loop-place-preserved
loop-place-preserved c =
    let steps = c.in-Some.ensures.steps in
    let before = c.loop-place.invariant in
    let back = one_back c.args.places.now c.loop-place.place-iterator.iter.iter.rest.now c.next.new.self.iter.iter.rest.now c.in-Some.one.now before.1 steps.1.0 in (
      steps.0 ∙ before.0,
      back.firsts,
      before.2,
      omega (arith, back.count, before.3),
      turn_past c.args.minute c.args.places.now _ _ _ back (contents c.loop-place.shelf) before.4 (sym c.fell_due.ensures ∙ c.if-fell_due.false),
    )
