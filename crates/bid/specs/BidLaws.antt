-- The bid sheet keeps the laws.
use Rattle.std.specs.Prelude.{◌≡◌, ℕ, ◌≤◌, Bool, true, false, not, ◌&&◌, List, [], ◌∷◌, refl}
use Rattle.std.proofs.Common.{arith}
use Rattle.std.proofs.lemmas.Bool.{and_parts}
use Rattle.std.proofs.lemmas.Bool.Decides.{nat_tests}
use Rattle.terms.specs.declared.request.Request.{Request}
use Rattle.terms.specs.declared.request.Standing.{Standing}
use Rattle.terms.specs.declared.words.Kind.{Kind}
use Rattle.terms.specs.declared.words.Kind.TheVariants.{PointToPoint}
use Rattle.terms.specs.declared.words.State.{State}
use Rattle.terms.specs.declared.words.State.TheVariants.{Confirmed}
use Rattle.terms.specs.Words.{is_confirmed, is_network}
use Rattle.sheets.specs.Laws.{Lawful}
use Rattle.sheets.specs.Raised.{with_raised_terms}
use Rattle.sheets.specs.Turn.{Criterion, higher, first_in, product_rank, length_of, committed_of, price_of, as_challenger}
use Rattle.sheets.proofs.TurnLaws.{turn_one_first, turn_in_line, turn_pending_first}
use Rattle.bid.specs.Bid.{bid, bid_order, bid_rank, bid_may_match, bid_outranks}

-- the right asks for a confirmed defender and a point-to-point challenger, however the bids compare
right_asks : (s : State) (p : Bool) (dk ck : Kind) (above : Bool) →
    (is_confirmed s && (p && (not (is_network dk) && (not (is_network ck) && above)))) ≡ true → (s ≡ Confirmed) × (ck ≡ PointToPoint)
right_asks s p dk ck above h = (grind (arith, nat_tests), grind (arith, nat_tests))

not_above : (p q r above : Bool) → above ≡ false → (p && (q && (r && above))) ≡ false
not_above p q r above h = grind (arith, nat_tests)

-- whoever is not above another in a criterion, nor by the rest, is not first
not_first : (f : Standing → ℕ) (cs : List Criterion) (a b : Standing) → f a ≤ f b → first_in cs a b ≡ false → first_in (higher f ∷ cs) a b ≡ false
not_first f cs a b h rest = grind (arith, nat_tests)

module _ (c : Request) (d : Standing) (right : bid_may_match c d ≡ true) where
  asked : (d.state ≡ Confirmed) × (c.kind ≡ PointToPoint)
  asked = right_asks d.state c.preconfirmed d.request.kind c.kind (first_in bid_rank (as_challenger c) d) right

  outranked : bid_outranks c d ≡ true
  outranked = (and_parts (is_confirmed d.state) (bid_outranks c d) right).1

  product_reached : product_rank (as_challenger c) ≤ product_rank (with_raised_terms c d)
  product_reached = grind (arith, nat_tests)

  commitment_reached : committed_of (as_challenger c) ≤ committed_of (with_raised_terms c d)
  commitment_reached = let h = asked.0 in grind (arith, nat_tests)

  raised_reaches : first_in bid_rank (as_challenger c) (with_raised_terms c d) ≡ false
  raised_reaches =
      let challenger = as_challenger c in
      let defender = with_raised_terms c d in
      let by_price = not_first price_of [] challenger defender (omega arith) refl in
      let by_commitment = not_first committed_of (higher price_of ∷ []) challenger defender commitment_reached by_price in
      let by_length = not_first length_of (higher committed_of ∷ higher price_of ∷ []) challenger defender (omega arith) by_commitment in
      not_first product_rank (higher length_of ∷ higher committed_of ∷ higher price_of ∷ []) challenger defender product_reached by_length

  raised_stands_in_bid : bid_outranks c (with_raised_terms c d) ≡ false
  raised_stands_in_bid = not_above c.preconfirmed (not (is_network d.request.kind)) (not (is_network c.kind)) _ raised_reaches

pub bid_lawful : Lawful bid
bid_lawful = record {
  one_first = λ a b _ _. turn_one_first bid_order a b;
  in_line = λ a b c _ _ _. turn_in_line bid_order a b c;
  pending_first = λ a b _ _. turn_pending_first bid_order a b;
  right_confirmed = λ c d _ _ right. (asked c d right).0;
  right_outranked = λ c d _ _. outranked c d;
  right_not_network = λ c d _ _ right. (asked c d right).1;
  raised_stands = λ c d _ _. raised_stands_in_bid c d;
  answer_later = λ c d minute days _ _ _ in_time. grind (arith, nat_tests);
  confirm_later = λ d _. grind (arith, nat_tests);
}
