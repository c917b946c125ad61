use Rattle.std.proofs.Common.{length, sym, ap, ◌∙◌, arith}
use Rattle.std.proofs.lemmas.List.{length-map, length-take-le}
use Rattle.law.specs.Calls.{done, submit}
use Rattle.law.specs.View.{View}
use Rattle.desk.specs.Desks.{view}
use Rattle.desk.specs.Records.{entry_of}
use Rattle.answers.proofs.Written.{written_full, written_done}
use Rattle.entering.proofs.Entered.{grant_size, new_shows, new_once, grant_movable, grants, entered_view}
use Rattle.moving.proofs.LedgerKeeps.{midway_in, midway_told}
use Rattle.entering.proofs.granting.enter.Goals as goal

pub returns-then-count-ledger : goal.returns-then-count-ledger
returns-then-count-ledger g c =
    let d = c.args.ledger.now.desk in
    let long = length-take-le d.used d.lines.now c.requires.sound.written in
    let size = grant_size d c.requires.sound c.args.minute c.args.request.now c.args.place c.requires.may in
    record {
      says = sym (written_full (submit c.args.minute c.args.request.now) (view d) _ _ _ _ (omega (arith, size, long, c.count_busy-count.ensures.count, c.if-count-ledger.true)));
    }

pub seat-requires : goal.seat-requires
seat-requires g c =
    let d = c.args.ledger.now.desk in let R = g.S.RuleSheet.rules c.args.sheet.now in
    record {
      within = omega (arith, c.requires.may.within, length-map d.places.now entry_of);
      shows = new_shows d c.requires.sound c.args.minute c.args.request.now c.args.place c.requires.may R c.args.state c.requires.lives c.new_record-new.result c.new_record-new.ensures;
      once = new_once d c.requires.sound c.args.minute c.args.request.now c.args.place c.requires.may R c.args.state c.requires.lives c.new_record-new.result c.new_record-new.ensures;
    }

pub move_by_day-requires : goal.move_by_day-requires
move_by_day-requires g c =
    let d = c.args.ledger.now.desk in let R = g.S.RuleSheet.rules c.args.sheet.now in let e = c.seat.new.self.desk in
    let long = length-take-le d.used d.lines.now c.requires.sound.written in
    let size = grant_size d c.requires.sound c.args.minute c.args.request.now c.args.place c.requires.may in
    let same = grants d c.requires.sound c.args.minute c.args.request.now c.args.place c.requires.may R c.args.state c.requires.lives c.new_record-new.result c.new_record-new.ensures e (midway_in c.seat.new.self) c.seat.ensures.view in
    record {
      may = grant_movable d c.requires.sound c.args.minute c.args.request.now c.args.place c.requires.may R c.args.state c.requires.lives c.new_record-new.result c.new_record-new.ensures e (midway_in c.seat.new.self) c.seat.ensures.view;
      roomy = omega (arith, ap length same, size, long, c.count_busy-count.ensures.count, c.if-count-ledger.false, ap (λ (w : View). w.room) c.seat.ensures.view, c.requires.sound.written);
    }

pub invariant_of-ledger : goal.invariant_of-ledger
invariant_of-ledger g c = record { midway = ∣ midway_told c.move_by_day.new.self.desk c.args.minute c.args.request.now.aref (midway_in c.move_by_day.new.self) ∣₁ }

pub returns : goal.returns
returns g c =
    let d = c.args.ledger.now.desk in let R = g.S.RuleSheet.rules c.args.sheet.now in let e = c.seat.new.self.desk in let f = c.move_by_day.new.self.desk in
    let long = length-take-le d.used d.lines.now c.requires.sound.written in
    let size = grant_size d c.requires.sound c.args.minute c.args.request.now c.args.place c.requires.may in
    let V = entered_view d c.requires.sound c.args.minute c.args.request.now c.args.place c.requires.may R c.args.state c.requires.lives c.new_record-new.result c.new_record-new.ensures e (midway_in c.seat.new.self) c.seat.ensures.view f c.move_by_day.ensures.view in
    record {
      says =
          ap (λ (w : View). (done c.args.request.now.aref c.args.state d.used c.count_busy-count.result, w)) V
          ∙ sym (written_done (submit c.args.minute c.args.request.now) (view d) _ _ _ _ (omega (arith, size, long, c.count_busy-count.ensures.count, c.if-count-ledger.false, c.requires.sound.written)) d.used c.count_busy-count.result (sym long) (omega (arith, size, long, c.count_busy-count.ensures.count)));
    }
