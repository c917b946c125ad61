use Rattle.std.proofs.Common.{ℕ, ◌+◌, ◌*◌, get_or, set, refl, ap, ◌∙◌, arith}
use Rattle.law.specs.View.{View, nobody}
use Rattle.law.specs.Places.{due_at, in_state}
use Rattle.law.specs.Calls.{close_if_last}
use Rattle.desk.specs.Desks.{view}
use Rattle.posting.specs.Sides.{place}
use Rattle.moving.specs.Midway.{with_places}
use Rattle.admitting.proofs.Written.{book_after}
use Rattle.declining.specs.Losing.{left_as}
use Rattle.declining.proofs.Losses.{used_is, how_many, refuses, says}
use Rattle.moving.proofs.LedgerKeeps.{midway_in, midway_told}
use Rattle.declining.proofs.decline_at.Goals as goal

pub returns-then-count-ledger : goal.returns-then-count-ledger
returns-then-count-ledger g c =
    let d = c.args.ledger.now.desk in let p = c.requires in
    let n = how_many d p.sound c.args.i p.within p.lives c.args.minute c.count_busy-count.result c.count_busy-count.ensures.count in
    let u = used_is d p.sound c.args.i p.within p.lives c.args.minute in
    record {
      says = refuses d p.sound c.args.i p.within p.lives c.args.minute (g.S.RuleSheet.rules c.args.sheet.now) (omega (arith, n, u, c.if-count-ledger.true));
    }

pub lose-requires : goal.lose-requires
lose-requires g c =
    let d = c.args.ledger.now.desk in let p = c.requires in
    let n = how_many d p.sound c.args.i p.within p.lives c.args.minute c.count_busy-count.result c.count_busy-count.ensures.count in
    let u = used_is d p.sound c.args.i p.within p.lives c.args.minute in
    record { sound = p.sound; within = p.within; lives = p.lives; roomy = omega (arith, n, u, c.if-count-ledger.false, p.sound.written) }

pub invariant_of-ledger : goal.invariant_of-ledger
invariant_of-ledger g c = record { midway = ∣ midway_told c.close_if_last.new.ledger.desk c.args.minute _ (midway_in c.close_if_last.new.ledger) ∣₁ }

pub returns : goal.returns
returns g c =
    let d = c.args.ledger.now.desk in let p = c.requires in let i = c.args.i in let t = c.args.minute in let R = g.S.RuleSheet.rules c.args.sheet.now in
    let b = (place d.places.now i).against in
    let due = 1440 * ((place d.places.now i).standing.request.start + (place d.places.now i).standing.request.length) in
    let n = how_many d p.sound i p.within p.lives t c.count_busy-count.result c.count_busy-count.ensures.count in
    let u = used_is d p.sound i p.within p.lives t in
    let V = c.restate.ensures.view ∙ ap (λ (n : ℕ). with_places (view c.lose.new.ledger.desk) (set (view c.lose.new.ledger.desk).places i (due_at n (in_state c.left_as-state.result (get_or (view c.lose.new.ledger.desk).places i nobody))))) c.over_minute.ensures ∙ ap (λ (w : View). with_places w (set w.places i (due_at due (in_state c.left_as-state.result (get_or w.places i nobody))))) c.lose.ensures.view in
    let W = c.close_if_last.ensures.view ∙ ap (λ (w : View). with_places w (close_if_last R t w.lines b w.places)) V in
    let s = c.left_as-state.ensures ∙ ap (λ (w : View). left_as w.lines (get_or w.places i nobody)) c.lose.ensures.view in
    record {
      says = says d p.sound i p.within p.lives t R (omega (arith, n, u, c.if-count-ledger.false, p.sound.written)) d.used c.count_busy-count.result refl n c.left_as-state.result s _
          (ap (λ (w : View). book_after w w.lines w.places t) W);
    }
