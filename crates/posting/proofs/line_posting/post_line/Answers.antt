-- The line is written where the journal ends; each of its two puts moves what the accounts move.
use Rattle.std.proofs.Common.{◌≡◌, ◌+◌, ◌≤◌, length, set, sym, refl, ap, ◌∙◌, subst, arith}
use Rattle.std.proofs.lemmas.List.{length-set}
use Rattle.journal.specs.Accounts.{balance}
use Rattle.law.specs.Posting.{post}
use Rattle.desk.specs.Desks.{view}
use Rattle.desk.specs.Soundness.{Shown}
use Rattle.posting.specs.Postable.{with_lines}
use Rattle.posting.proofs.TwoPuts.{put_free_length}
use Rattle.posting.proofs.OneLine.{small', shown', entries', line_stands, none_posted, same_view}
use Rattle.posting.proofs.line_posting.post_line.Goals as goal

pub overflow_add-more : goal.overflow_add-more
overflow_add-more c = let s = small' _ c.requires.shown _ _ _ _ _ _ _ _ c.requires.may c.if-line-gt0.true c.standing_in.result _ _ c.standing_in.ensures c.put.ensures.free c.put.ensures.places in omega (arith, c.standing_in-then-line-gt0.ensures)

pub returns-then-line-gt0 : goal.returns-then-line-gt0
returns-then-line-gt0 c =
    let d = c.args.desk.now in let y = c.put-then-line-gt0.new.desk in let l = c.args.line in
    let ls = post l.minute l.kind l.a l.b l.day l.mw (view d).lines in
    let first = c.put.ensures in let second = c.put-then-line-gt0.ensures in
    let S : Shown (balance ls) y.free.now y.places.now = shown' _ c.requires.shown _ _ _ _ _ _ _ _ c.requires.may c.if-line-gt0.true c.standing_in.result _ _ c.standing_in.ensures first.free first.places
    c.standing_in-then-line-gt0.result _ _ c.standing_in-then-line-gt0.ensures second.free second.places in
    let es : (view y).places ≡ (view d).places = entries' _ c.requires.shown _ _ _ _ _ _ _ _ c.requires.may c.if-line-gt0.true c.standing_in.result _ _ c.standing_in.ensures first.free first.places
    c.standing_in-then-line-gt0.result _ second.places in
    let el : y.lines.now ≡ set d.lines.now d.used l = second.lines ∙ first.lines in
    let eu : y.used ≡ d.used + 1 = second.used ∙ first.used in
    let long : length y.lines.now ≡ length d.lines.now = ap length el ∙ length-set d.lines.now d.used l in
    let written : (view y).lines ≡ ls = rw (el, eu) (line_stands _ c.requires.shown _ _ _ _ _ _ _ _ c.requires.may c.if-line-gt0.true) in
    let posted : y.posted ≡ d.posted = second.posted ∙ first.posted in
    let days : (view y).days ≡ (view d).days = rw posted refl in
    let room : y.used ≤ length y.lines.now = omega (arith, c.requires.may.roomy c.if-line-gt0.true, eu, long) in
    let frees : length y.free.now ≡ length d.free.now = ap length second.free ∙ (put_free_length _ _ _ _ ∙ (ap length first.free ∙ put_free_length _ _ _ _)) in
    record {
      shown = record {
        written = room;
        each_day = frees ∙ (c.requires.shown.each_day ∙ sym (ap (λ p. length p.amounts.now) posted));
        shown = subst (λ ms. Shown (balance ms) y.free.now y.places.now) (sym written) S;
      };
      view = same_view (view y) (with_lines (view d) ls) days long written es (second.clock ∙ first.clock) (second.top ∙ first.top);
    }

pub returns-else-line-gt0 : goal.returns-else-line-gt0
returns-else-line-gt0 c =
    let desk = c.args.desk.now in let line = c.args.line in
    record { shown = c.requires.shown; view = sym (ap (with_lines (view desk)) (none_posted line.minute line.kind line.a line.b line.day line.mw (view desk).lines c.if-line-gt0.false)) }
