use Rattle.std.proofs.Common.{rules, ◌≡◌, ◌-◌, ◌<◌, map, length, get_or, ap, ◌∙◌}
use Rattle.std.specs.List.{fold}
use Rattle.std.proofs.ByRecursion.{All-get_or, All-weaker}
use Rattle.std.proofs.lemmas.List.{get_or_default}
use Rattle.std.proofs.lemmas.Iterator.Adapters.{YieldsList-from_rev_slice, serves_from_places}
use Rattle.std.proofs.iter.runs.Made.{chains}
use Rattle.shelf.specs.declared.defender.Defender.{Defender}
use Rattle.shelf.specs.Contents.{contents}
use Rattle.desk.specs.Records.{held_on, vacant}
use Rattle.defending.specs.LinedUp.{held_in_place}
use Rattle.defending.proofs.CountingInLine.{unread}
use Rattle.defending.proofs.ShelfReads.{taken_in_turn}
use Rattle.defending.proofs.enough.left_short.Goals as goal

pub fold-requires-clause-can : goal.fold-requires-clause-can
fold-requires-clause-can c =
    let read = ap (λ s. s.iter.rest.now) c.map.ensures.source ∙ ap (λ s. s.rest.now) c.rev.ensures.source ∙ c.iter.ensures.rest ∙ c.entries.ensures in (
      tt,
      serves_from_places (YieldsList-from_rev_slice _ read) (λ x q r. search rules) (λ x k here same.
          let within : x.now.place < length c.args.places.now = rw same (All-get_or (λ y. y.place < length c.args.places.now) (contents c.args.shelf.now) k x.now here c.requires) in
          search rules),
    )

pub returns : goal.returns
returns c =
    let places = c.args.places.now in
    let day = c.args.day in
    let by_turns : c.fold.result ≡ fold (λ a b. a - b) c.args.short (map (λ (x : Defender). held_on c.args.day (get_or c.args.places.now x.place unread)) (contents c.args.shelf.now)) = search (rules, chains) in
    by_turns
    ∙ taken_in_turn (held_in_place places day) (λ x. held_on day (get_or places x.place unread)) (contents c.args.shelf.now)
    (All-weaker _ _ (λ x h. ap (held_on day) (get_or_default places x.place unread vacant h)) (contents c.args.shelf.now) c.requires) c.args.short
