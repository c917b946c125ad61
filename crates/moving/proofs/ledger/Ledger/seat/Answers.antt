use Rattle.std.proofs.Common.{◌≤◌, sym, ap, subst}
use Rattle.std.proofs.lemmas.List.{map-set}
use Rattle.law.specs.View.{count}
use Rattle.desk.specs.Desks.{view}
use Rattle.desk.specs.Records.{entry_of}
use Rattle.moving.specs.Midway.{with_places}
use Rattle.std.proofs.ByRecursion.{All-set}
use Rattle.moving.proofs.LedgerKeeps.{midway_in}
use Rattle.moving.proofs.ledger.Ledger.seat.Goals as goal

pub invariant_of-self : goal.invariant_of-self
invariant_of-self c =
    let d = c.args.self.now.desk in let M = midway_in c.args.self.now in
    let e = map-set entry_of d.places.now c.args.place c.args.new in
    record {
      midway = ∣ record {
        showing = record { written = M.showing.written; each_day = M.showing.each_day; shown = record { frees = M.showing.shown.frees; records = All-set _ d.places.now c.args.place c.args.new c.requires.shows M.showing.shown.records } };
        solvent = M.solvent;
        posted = M.posted;
        amounts = M.amounts;
        days = M.days;
        once = λ a. subst (λ es. count a es ≤ 1) (sym e) (c.requires.once a);
      } ∣₁;
    }

pub returns : goal.returns
returns c = record { view = ap (with_places (view c.args.self.now.desk)) (map-set entry_of c.args.self.now.desk.places.now c.args.place c.args.new) }
