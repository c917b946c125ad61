-- Turn by criteria: of two records, the first criterion in which they differ decides who gives before the other.
use Rattle.std.specs.Prelude.{ℕ, Bool, true, false, ◌&&◌, ◌||◌, List, [], ◌∷◌, ◌++◌, ◌==◌, nat_lt}
use Rattle.terms.specs.declared.request.Request.{Request}
use Rattle.terms.specs.declared.request.Standing.{Standing}
use Rattle.terms.specs.declared.words.State.TheVariants.{Accepted}
use Rattle.terms.specs.Numbers.{product_number}
use Rattle.terms.specs.Standings.{committed}
use Rattle.terms.specs.Words.{is_pending}

-- by a criterion the record with the lower number is first, or the one with the higher
pub data Criterion : Type 0 where
  lower higher : (Standing → ℕ) → Criterion

abbrev pub number_by : Criterion → Standing → ℕ
number_by (lower f) a = f a
number_by (higher f) a = f a

abbrev pub first_by : Criterion → Standing → Standing → Bool
first_by (lower f) a b = nat_lt (f a) (f b)
first_by (higher f) a b = nat_lt (f b) (f a)

-- the first difference decides
abbrev pub first_in : List Criterion → Standing → Standing → Bool
first_in [] a b = false
first_in (c ∷ cs) a b = first_by c a b || (number_by c a == number_by c b && first_in cs a b)

abbrev pub bit : Bool → ℕ
bit false = 0
bit true = 1

-- 1 for a pending record
abbrev pub pending_of : Standing → ℕ
pending_of a = bit (is_pending a.state)

-- 1 for a committed record
abbrev pub committed_of : Standing → ℕ
committed_of a = bit (committed a)

abbrev pub product_rank : Standing → ℕ
product_rank a = product_number a.request.product

abbrev pub length_of : Standing → ℕ
length_of a = a.request.length

abbrev pub price_of : Standing → ℕ
price_of a = a.request.price

abbrev pub queued_of : Standing → ℕ
queued_of a = a.queued

abbrev pub aref_of : Standing → ℕ
aref_of a = a.request.aref

-- who came later gives first: the later queue minute, then the higher AREF
abbrev pub later_first : List Criterion
later_first = higher queued_of ∷ higher aref_of ∷ []

-- turn: pending records first, then by a sheet's own criteria, then whoever came later
abbrev pub turn_by : List Criterion → Standing → Standing → Bool
turn_by own = first_in (higher pending_of ∷ (own ++ later_first))

-- a challenger as a record: committed only if preconfirmed
abbrev pub as_challenger : Request → Standing
as_challenger c = record { request = c; state = Accepted; queued = 0 }
