use Rattle.std.proofs.Common.{◌≡◌, ℕ, ◌+◌, ◌<◌, min, length, get_or, arith, rules}
use Rattle.std.proofs.lemmas.List.{length-take-le}
use Rattle.desk.specs.Records.{held_on}
use Rattle.defending.proofs.DayByDay.{set_next}
use Rattle.defending.proofs.size.grant_more.Goals as goal

-- adding up to the largest number changes nothing where less is granted
capped : (x a g g' h h' mw : ℕ) → x ≡ min a mw → a ≡ min (g + h) 4294967295 → g ≡ g' → h ≡ h' → mw < 4294967296 → x ≡ min (g' + h') mw
capped x a g g' h h' mw p q s t w = omega arith

pub loop-k-preserved : goal.loop-k-preserved
loop-k-preserved c =
    let r = c.args.request.now in
    let long = length-take-le c.args.request.now.length c.args.granted.now c.requires.term in
    let here : c.loop-k.k < length c.loop-k.granted-items = omega (arith, c.loop-k.auto.granted-items, c.loop-k-test.true) in
    let more : c.min.result ≡ min (get_or c.args.granted.now c.loop-k.k 0 + held_on (c.args.request.now.start + c.loop-k.k) c.args.one.now) c.args.request.now.mw =
    capped _ _ _ _ _ _ c.args.request.now.mw c.min.ensures c.saturating_add.ensures (c.loop-k.invariant.untouched c.loop-k.k (omega arith) (omega (arith, long, c.loop-k-test.true))) c.held_on-held.ensures (search rules) in
    set_next _ r.length c.args.granted.now c.loop-k.granted-items c.loop-k.k c.min.result c.loop-k.invariant here more
