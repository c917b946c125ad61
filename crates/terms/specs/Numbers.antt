-- The number that stands for each case of an enum, and the case that a number stands for.
use Rattle.std.specs.Prelude.{ℕ, Bool, true, false, cond, Some, None, Option, ◌==◌}
use Rattle.terms.specs.declared.words.Kind.{Kind}
use Rattle.terms.specs.declared.words.Kind.TheVariants.{PointToPoint, Network}
use Rattle.terms.specs.declared.words.Product.{Product}
use Rattle.terms.specs.declared.words.Product.TheVariants.{Daily, Weekly, Monthly}
use Rattle.terms.specs.declared.words.State.{State}
use Rattle.terms.specs.declared.words.State.TheVariants.{Confirmed, Accepted, Offered, Competing, Challenged, Gone}

abbrev pub kind_number : Kind → ℕ
kind_number PointToPoint = 1
kind_number Network = 2

-- the kind that has a number, or none
abbrev pub kind_of : ℕ → Option Kind
kind_of n = cond (n == kind_number PointToPoint) (Some PointToPoint) (cond (n == kind_number Network) (Some Network) None)

abbrev pub product_number : Product → ℕ
product_number Daily = 1
product_number Weekly = 2
product_number Monthly = 3

-- the product that has a number, or none
abbrev pub product_of : ℕ → Option Product
product_of n =
    cond (n == product_number Daily) (Some Daily)
    (cond (n == product_number Weekly) (Some Weekly)
    (cond (n == product_number Monthly) (Some Monthly) None))

abbrev pub state_number : State → ℕ
state_number Confirmed = 1
state_number Accepted = 2
state_number Offered = 3
state_number Competing = 4
state_number Challenged = 5
state_number Gone = 6

-- the number of a preconfirmed mark
abbrev pub mark_number : Bool → ℕ
mark_number false = 0
mark_number true = 1

-- the mark that has a number, or none
abbrev pub mark_of : ℕ → Option Bool
mark_of n = cond (n == mark_number false) (Some false) (cond (n == mark_number true) (Some true) None)
