use Rattle.std.proofs.Common.{ℕ, ◌+◌, ◌-◌, ◌<◌, ◌≤◌, min, ◌⊎◌, get_or, sym, ap, ◌∙◌, subst, arith, rules, tests}
use Rattle.std.proofs.lemmas.Grind.{common_steps}
use Rattle.journal.specs.declared.line.LineKind.{LineKind}
use Rattle.law.specs.Posting.{post}
use Rattle.desk.specs.Desks.{view}
use Rattle.posting.specs.declared.sides.Side.{Side}
use Rattle.posting.specs.declared.sides.Side.TheVariants as sides
use Rattle.posting.specs.Postable.{Postable, with_lines}
use Rattle.preempting.specs.Giving.{given_kind}
use Rattle.preempting.specs.Visits.{ShortShown}
use Rattle.preempting.proofs.GivenDay.{giver_reached, nothing_given, posts_it, given_postable, given_midway, given_short, sum_less}
use Rattle.moving.proofs.LedgerKeeps.{midway_in}
use Rattle.preempting.proofs.given.give_on.Goals as goal

pub returns-then-not-contains : goal.returns-then-not-contains
returns-then-not-contains c =
    let d = c.args.ledger.now.desk in
    let g = c.args.giving.now in
    let r = c.args.request.now in
    let out : (c.args.day < c.args.request.now.start) ⊎ (c.args.request.now.start + c.args.request.now.length ≤ c.args.day) = grind (arith, common_steps) in
    let same = nothing_given d (midway_in c.args.ledger.now) g r c.requires.may c.args.day c.requires.own.0 c.requires.own.1 out in
    record { view = sym (ap (with_lines (view d)) same); short = subst (λ ms. ShortShown r ms c.args.short.now) (sym same) c.requires.short; left = omega arith }

pub standing_in-requires : goal.standing_in-requires
standing_in-requires c = giver_reached c.args.ledger.now.desk (midway_in c.args.ledger.now) c.args.giving.now c.args.request.now c.requires.may c.args.day c.requires.own.0 c.requires.own.1

pub post_line-requires : goal.post_line-requires
post_line-requires c =
    let d = c.args.ledger.now.desk in let g = c.args.giving.now in let r = c.args.request.now in
    let within : (c.args.request.now.start ≤ c.args.day) × (c.args.day < c.args.request.now.start + c.args.request.now.length) = search (rules, tests) in
    let is = c.min-mw.ensures ∙ ap (λ (n : ℕ). min n (get_or c.args.short.now (c.args.day - r.start) 0)) c.standing_in.ensures in
    let P = given_postable d (midway_in c.args.ledger.now) g r c.requires.may c.args.day c.requires.own.0 c.requires.own.1 within.0 within.1 c.requires.month c.args.short.now c.requires.short c.min-mw.result is c.requires.roomy in
    record {
      shown = (midway_in c.args.ledger.now).showing;
      may = subst (λ (k : LineKind). Postable d g.minute k g.aref r.aref (sides.Held g.place) c.taker.result c.args.day c.min-mw.result) (sym c.kind.ensures)
          (subst (λ (s : Side). Postable d g.minute (given_kind g.right) g.aref r.aref (sides.Held g.place) s c.args.day c.min-mw.result) (sym c.taker.ensures) P);
    }

pub invariant_of-ledger : goal.invariant_of-ledger
invariant_of-ledger c =
    let d = c.args.ledger.now.desk in let g = c.args.giving.now in let r = c.args.request.now in
    let within : (c.args.request.now.start ≤ c.args.day) × (c.args.day < c.args.request.now.start + c.args.request.now.length) = search (rules, tests) in
    let is = c.min-mw.ensures ∙ ap (λ (n : ℕ). min n (get_or c.args.short.now (c.args.day - r.start) 0)) c.standing_in.ensures in
    let V = c.post_line.ensures.view ∙ ap (λ (k : LineKind). with_lines (view d) (post g.minute k g.aref r.aref c.args.day c.min-mw.result (view d).lines)) c.kind.ensures in
    record { midway = ∣ given_midway d (midway_in c.args.ledger.now) g r c.requires.may c.args.day c.requires.own.0 c.requires.own.1 within.0 within.1 c.requires.month c.args.short.now c.requires.short c.min-mw.result is c.post_line.new.desk c.post_line.ensures.shown V ∣₁ }

pub returns : goal.returns
returns c =
    let d = c.args.ledger.now.desk in let g = c.args.giving.now in let r = c.args.request.now in
    let within : (c.args.request.now.start ≤ c.args.day) × (c.args.day < c.args.request.now.start + c.args.request.now.length) = search (rules, tests) in
    let is = c.min-mw.ensures ∙ ap (λ (n : ℕ). min n (get_or c.args.short.now (c.args.day - r.start) 0)) c.standing_in.ensures in
    let V = c.post_line.ensures.view ∙ ap (λ (k : LineKind). with_lines (view d) (post g.minute k g.aref r.aref c.args.day c.min-mw.result (view d).lines)) c.kind.ensures in
    let p = posts_it d (midway_in c.args.ledger.now) g r c.requires.may c.args.day c.requires.own.0 c.requires.own.1 within.0 within.1 c.requires.month c.args.short.now c.requires.short c.min-mw.result is in
    record {
      view = V ∙ ap (with_lines (view d)) p;
      short = given_short d (midway_in c.args.ledger.now) g r c.requires.may c.args.day c.requires.own.0 c.requires.own.1 within.0 within.1 c.requires.month c.args.short.now c.requires.short c.min-mw.result is;
      left = sum_less c.args.short.now r.length (c.args.day - r.start) c.min-mw.result (omega (arith, within.0, within.1)) (omega (arith, c.requires.short.days, c.requires.month)) (omega (arith, c.min-mw.ensures));
    }
