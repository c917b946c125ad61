use Rattle.std.proofs.Common.{ℕ, ◌+◌, ◌-◌, ◌<◌, eqb, length, get_or, sum_by, refl, ◌∙◌, arith, rules}
use Rattle.std.proofs.lemmas.Iterator.{serves_from_Range, YieldsList-from_range}
use Rattle.std.proofs.lemmas.Iterator.Search.{all_from_yields_List}
use Rattle.shelf.specs.Contents.{contents}
use Rattle.defending.specs.LinedUp.{held_in_place}
use Rattle.defending.proofs.ShownInLine.{each_in_place}
use Rattle.defending.proofs.MeetingADay.{each_of_range, met_is}
use Rattle.defending.proofs.enough.can_be_met.Goals as goal

pub all-requires-clause-callable : goal.all-requires-clause-callable
all-requires-clause-callable c =
    serves_from_Range (λ x q r. search rules) (λ x lo hi.
    let posted : x < length c.args.desk.now.free.now = omega (arith, c.requires.sound.each_day, c.requires.offered) in
    let there = each_in_place c.args.desk.now c.requires.sound (contents c.args.shelf.now) c.requires.there in
    search rules)

pub returns : goal.returns
returns c =
    let d = c.args.desk.now in
    let r = c.args.request.now in
    let xs = contents c.args.shelf.now in
    let left : ℕ → ℕ = λ day. c.args.request.now.mw - get_or c.args.desk.now.free.now day 0 - sum_by (held_in_place c.args.desk.now.places.now day) (contents c.args.shelf.now) in
    all_from_yields_List (λ day. eqb (left day) 0) _ _ c.all.result c.all.ensures.ran (YieldsList-from_range r.start (r.start + r.length) r.length refl (omega arith)) (λ x b q called. (search rules, search rules))
    ∙ each_of_range _ _ r.start r.length (λ day lo hi. met_is d c.requires.sound r xs c.requires.there day (omega (arith, c.requires.offered)))
