use Rattle.std.proofs.Common.{sym, ◌∙◌, subst}
use Rattle.desk.specs.Desks.{view}
use Rattle.admitting.proofs.AtPlace.{Sought, sought}
use Rattle.closing.proofs.Closes.{closes_where}
use Rattle.closing.proofs.closes_at.Goals as goal

pub returns : goal.returns
returns c =
    let es = (view c.args.desk.now).places in
    closes_where es c.args.against (sym c.any_match_open.ensures ∙ c.if-any_match_open.false) c.place_of.result (subst (Sought es c.args.against) (sym c.place_of.ensures) (sought c.args.against es))
