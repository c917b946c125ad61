use Rattle.std.proofs.Common.{length, get_or, set, refl, ap, ◌∙◌, arith}
use Rattle.law.specs.View.{View, Entry, nobody}
use Rattle.law.specs.Places.{due_at, leave}
use Rattle.desk.specs.Desks.{view}
use Rattle.posting.specs.Sides.{place}
use Rattle.moving.specs.Midway.{with_places}
use Rattle.admitting.proofs.Written.{book_after}
use Rattle.leaving.proofs.Leaves.{lines_after, may, same_lines, used_is, how_many, refuses, says, gone_is}
use Rattle.moving.proofs.LedgerKeeps.{midway_in, midway_told}
use Rattle.leaving.proofs.leave.Goals as goal

pub returns-then-count-ledger : goal.returns-then-count-ledger
returns-then-count-ledger c =
    let d = c.args.ledger.now.desk in let p = c.requires in
    let n = how_many d p.sound c.args.i p.within p.lives c.args.minute c.args.kind c.args.taker p.way c.count_busy-count.result c.count_busy-count.ensures.count in
    record {
      says = refuses d p.sound c.args.i p.within p.lives c.args.minute c.args.kind c.args.taker p.way
          (omega (arith, n, c.if-count-ledger.true, used_is d p.sound c.args.i p.within p.lives c.args.minute c.args.kind c.args.taker p.way));
    }

pub move_by_day-requires : goal.move_by_day-requires
move_by_day-requires c =
    let d = c.args.ledger.now.desk in let p = c.requires in
    let n = how_many d p.sound c.args.i p.within p.lives c.args.minute c.args.kind c.args.taker p.way c.count_busy-count.result c.count_busy-count.ensures.count in
    record {
      may = may d p.sound c.args.i p.within p.lives c.args.minute c.args.kind c.args.taker p.way;
      roomy = omega (
        arith,
        n,
        c.if-count-ledger.false,
        p.sound.written,
        used_is d p.sound c.args.i p.within p.lives c.args.minute c.args.kind c.args.taker p.way,
        ap length (same_lines d p.sound c.args.i p.within p.lives c.args.minute c.args.kind c.args.taker p.way),
      );
    }

pub invariant_of-ledger : goal.invariant_of-ledger
invariant_of-ledger c = record { midway = ∣ midway_told c.restate.new.ledger.desk c.args.minute _ (midway_in c.restate.new.ledger) ∣₁ }

pub returns : goal.returns
returns c =
    let d = c.args.ledger.now.desk in let p = c.requires in let i = c.args.i in
    let n = how_many d p.sound i p.within p.lives c.args.minute c.args.kind c.args.taker p.way c.count_busy-count.result c.count_busy-count.ensures.count in
    let u = used_is d p.sound i p.within p.lives c.args.minute c.args.kind c.args.taker p.way in
    let due = (place d.places.now i).due in
    let moved_is = c.restate.ensures.view ∙ ap (λ (w : View). with_places w (set w.places i (due_at due (leave (get_or w.places i nobody))))) c.move_by_day.ensures.view in
    let lines_are = ap (λ ls. book_after (view d) ls (set (view d).places i (due_at due (leave (get_or (view d).places i nobody)))) c.args.minute) (same_lines d p.sound i p.within p.lives c.args.minute c.args.kind c.args.taker p.way) in
    let gone = gone_is d p.sound i p.within p.lives c.args.minute c.args.kind c.args.taker p.way in
    let L = lines_after d p.sound i p.within p.lives c.args.minute c.args.kind c.args.taker p.way in
    record {
      says = says d p.sound i p.within p.lives c.args.minute c.args.kind c.args.taker p.way (omega (arith, n, u, c.if-count-ledger.false, p.sound.written)) d.used c.count_busy-count.result refl n _
          (ap (λ (w : View). book_after w w.lines w.places c.args.minute) moved_is ∙ (lines_are ∙ ap (λ (x : Entry). book_after (view d) L (set (view d).places i x) c.args.minute) gone));
    }
