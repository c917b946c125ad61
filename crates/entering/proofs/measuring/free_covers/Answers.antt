use Rattle.std.proofs.Common.{◌+◌, ◌≤◌, leb, length, drop, ap, sym, ◌∙◌, arith}
use Rattle.std.specs.List.{list_all}
use Rattle.std.proofs.lemmas.List.{length-drop, get_or-drop}
use Rattle.law.specs.Posting.{free_on}
use Rattle.law.specs.Preemption.{wanted}
use Rattle.desk.specs.Desks.{view}
use Rattle.moving.proofs.EachDay.{each_of_amounts}
use Rattle.entering.proofs.measuring.free_covers.Goals as goal

pub returns : goal.returns
unfolding wanted
returns c =
    let d = c.args.desk.now in
    let r = c.args.request.now in
    let f = c.free_in_term.ensures in
    let shown = c.requires.midway.showing in
    let inside : r.start + r.length ≤ length d.free.now = omega (arith, shown.each_day, c.requires.inside) in
    c.each_reaches.ensures ∙ ap (list_all (λ mw. leb r.mw mw)) f
    ∙ sym (each_of_amounts (λ day. leb (wanted r day) (free_on (view d).lines day)) (λ mw. leb r.mw mw) (drop r.start d.free.now) r.start r.length
    (omega (arith, length-drop r.start d.free.now))
    (λ k h. rw (get_or-drop r.start d.free.now k 0) (ap (leb r.mw) (sym (shown.shown.frees (r.start + k) (omega arith))))))
