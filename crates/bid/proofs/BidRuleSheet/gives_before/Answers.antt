use Rattle.std.proofs.Common.{◌≡◌, [], ◌∷◌, ◌++◌, Option, Ordering, Some, not, rules}
use Rattle.std.specs.Ordering.{is_lt, is_some_and, nat_cmp, bool_cmp}
use Rattle.terms.specs.declared.request.Standing.{Standing}
use Rattle.terms.specs.Standings.{committed}
use Rattle.terms.specs.Words.{is_pending}
use Rattle.sheets.specs.Turn.{higher, pending_of, product_rank, later_first, turn_by}
use Rattle.sheets.proofs.Ranks.{in_tuple, first_by_tuple, marks_compare, marks_compare_back}
use Rattle.bid.specs.Bid.{bid_order}
use Rattle.bid.proofs.BidRuleSheet.gives_before.Goals as goal

-- two ranks compare as bids do, however the products in them compare as their numbers do
ranks_compare : (a b : Standing) (products : Option Ordering) → products ≡ Some (nat_cmp (product_rank a) (product_rank b)) →
    is_some_and is_lt (in_tuple (Some (bool_cmp (not (is_pending a.state)) (not (is_pending b.state))) ∷ products
    ∷ Some (nat_cmp a.request.length b.request.length) ∷ Some (bool_cmp (committed a) (committed b)) ∷ Some (nat_cmp a.request.price b.request.price)
    ∷ Some (nat_cmp b.queued a.queued) ∷ Some (nat_cmp b.request.aref a.request.aref) ∷ []))
    ≡ turn_by bid_order a b
ranks_compare a b products are =
    rw are
    (rw (marks_compare_back (is_pending a.state) (is_pending b.state))
    (rw (marks_compare (committed a) (committed b))
    (first_by_tuple (higher pending_of ∷ (bid_order ++ later_first)) a b)))

pub returns : goal.returns
returns c =
    let one = c.rank.ensures in
    let other = c.rank-2.ensures in
    rw c.lt-2.ensures
    (rw one.pending (rw one.product (rw one.length (rw one.committed (rw one.price (rw one.queued (rw one.aref
    (rw other.pending (rw other.product (rw other.length (rw other.committed (rw other.price (rw other.queued (rw other.aref
    (ranks_compare c.args.one.now c.args.other.now _ (search rules))))))))))))))))
