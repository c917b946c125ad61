use Rattle.std.proofs.Common.{◌∷◌, ◌++◌}
use Rattle.terms.specs.Standings.{committed}
use Rattle.terms.specs.Words.{is_pending}
use Rattle.sheets.specs.Turn.{higher, pending_of, later_first}
use Rattle.sheets.proofs.Ranks.{first_by_tuple, marks_compare, marks_compare_back}
use Rattle.firm.specs.Firm.{firm_order}
use Rattle.firm.proofs.firm_turn.Goals as goal

pub returns : goal.returns
returns c =
    let one = c.rank.ensures in
    let other = c.rank-2.ensures in
    let a = c.args.one.now in
    let b = c.args.other.now in
    rw c.lt.ensures
    (rw one.pending (rw one.length (rw one.committed (rw one.queued (rw one.aref
    (rw other.pending (rw other.length (rw other.committed (rw other.queued (rw other.aref
    (rw (marks_compare_back (is_pending a.state) (is_pending b.state))
    (rw (marks_compare (committed a) (committed b))
    (first_by_tuple (higher pending_of ∷ (firm_order ++ later_first)) a b)))))))))))))
