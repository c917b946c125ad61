use Rattle.std.proofs.Common.{◌≡◌, leb, get_or, take, sym, ap, ◌∙◌, arith}
use Rattle.std.specs.List.{list_all}
use Rattle.std.proofs.ByRecursion.{All-get_or}
use Rattle.law.specs.View.{aref_of, start_of, length_of, nobody}
use Rattle.law.specs.Posting.{holding}
use Rattle.law.specs.Preemption.{wanted}
use Rattle.desk.specs.Desks.{view}
use Rattle.posting.specs.Sides.{unread, place}
use Rattle.moving.proofs.EachDay.{each_of_amounts}
use Rattle.restating.proofs.SameRecord.{there_is, tests_alike}
use Rattle.restating.proofs.holds_whole.Goals as goal

pub returns : goal.returns
returns c =
    let p = c.requires in
    let d = c.args.desk.now in
    let e = get_or (view d).places c.args.i nobody in
    let one = place d.places.now c.args.i in
    let shows = All-get_or _ d.places.now c.args.i unread p.within p.midway.showing.shown.records in
    let days : one.standing.request.length ≡ length_of e = sym (ap length_of (there_is d p.midway c.args.i p.within p.lives)) in
    c.each_reaches.ensures
    ∙ ap (λ n. list_all (leb one.standing.request.mw) (take n one.held)) days
    ∙ sym (each_of_amounts (λ day. leb (wanted e.standing.request day) (holding (view d).lines (aref_of e) day)) (leb one.standing.request.mw) one.held (start_of e) (length_of e)
    (omega (arith, p.term.0, shows.held_days)) (tests_alike d p.midway c.args.i p.within p.lives p.term))
