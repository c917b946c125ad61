use Rattle.std.proofs.Common.{set, ap, ◌∙◌, arith}
use Rattle.law.specs.View.{Entry}
use Rattle.desk.specs.Desks.{view}
use Rattle.posting.specs.Sides.{place}
use Rattle.posting.specs.Sides.{unread}
use Rattle.moving.specs.Midway.{with_places}
use Rattle.preempting.specs.Giving.{challenged_by}
use Rattle.preempting.proofs.ChallengeOpens.{challenged_shows, challenged_once}
use Rattle.preempting.proofs.Shortages.{entry_is}
use Rattle.moving.proofs.LedgerKeeps.{midway_in}
use Rattle.preempting.proofs.challenging.challenge.Goals as goal

pub overflow_cast-challenged : goal.overflow_cast-challenged
overflow_cast-challenged g c =
    let d = c.args.ledger.now.desk in
    let same = entry_is d (midway_in c.args.ledger.now).showing c.args.request.now c.args.place c.requires.within unread c.requires.ready in
    let long = ap (λ (e : Entry). e.standing.request.length) same in
    let later = (g.met.S.RuleSheet.lawful c.args.sheet.now).answer_later c.args.request.now (place d.places.now c.args.place).standing c.args.minute (view d).days c.requires.possible
    (omega (arith, long, c.requires.ready.some_days), omega (arith, long, c.requires.ready.month)) c.requires.early c.requires.in_time in
    omega (arith, later, c.answer_by-answer_by.ensures, c.requires.early)

pub seat-requires : goal.seat-requires
seat-requires g c =
    let d = c.args.ledger.now.desk in
    record {
      within = c.requires.within;
      shows = challenged_shows d (midway_in c.args.ledger.now) c.args.request.now c.args.place c.requires.within c.requires.ready c.answer_by-answer_by.result c.requires.none;
      once = challenged_once d (midway_in c.args.ledger.now) c.args.request.now c.args.place c.requires.within c.requires.ready c.answer_by-answer_by.result;
    }

pub returns : goal.returns
returns g c =
    let d = c.args.ledger.now.desk in let r = c.args.request.now in let R = g.S.RuleSheet.rules c.args.sheet.now in
    let same = entry_is d (midway_in c.args.ledger.now).showing r c.args.place c.requires.within unread c.requires.ready in
    record {
      view = c.seat.ensures.view ∙ ap (λ (e : Entry). with_places (view d) (set (view d).places c.args.place e))
          (ap (λ n. record { standing = record { request = (place d.places.now c.args.place).standing.request; state = _; queued = (place d.places.now c.args.place).standing.queued }; due = n; against = r.aref }) c.answer_by-answer_by.ensures
          ∙ ap (challenged_by R c.args.minute r (view d).days) same);
    }
