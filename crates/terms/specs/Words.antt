-- What the words of the trade say of a kind of service and of a record's state.
use Rattle.std.specs.Prelude.{Bool, true, false, not}
use Rattle.terms.specs.declared.words.Kind.{Kind}
use Rattle.terms.specs.declared.words.Kind.TheVariants.{PointToPoint, Network}
use Rattle.terms.specs.declared.words.State.{State}
use Rattle.terms.specs.declared.words.State.TheVariants.{Confirmed, Accepted, Offered, Competing, Challenged, Gone}

abbrev pub is_network : Kind → Bool
is_network PointToPoint = false
is_network Network = true

-- accepted and offered records are pending: their customers have not confirmed them yet
abbrev pub is_pending : State → Bool
is_pending Confirmed = false
is_pending Accepted = true
is_pending Offered = true
is_pending Competing = false
is_pending Challenged = false
is_pending Gone = false

abbrev pub is_confirmed : State → Bool
is_confirmed Confirmed = true
is_confirmed Accepted = false
is_confirmed Offered = false
is_confirmed Competing = false
is_confirmed Challenged = false
is_confirmed Gone = false

abbrev pub is_gone : State → Bool
is_gone Confirmed = false
is_gone Accepted = false
is_gone Offered = false
is_gone Competing = false
is_gone Challenged = false
is_gone Gone = true

-- a record lives until it is gone, and then gives its place back
abbrev pub is_living : State → Bool
is_living s = not (is_gone s)

-- a defender whose match is open
abbrev pub is_challenged : State → Bool
is_challenged Confirmed = false
is_challenged Accepted = false
is_challenged Offered = false
is_challenged Competing = false
is_challenged Challenged = true
is_challenged Gone = false

-- a challenger whose matches are open
abbrev pub is_competing : State → Bool
is_competing Confirmed = false
is_competing Accepted = false
is_competing Offered = false
is_competing Competing = true
is_competing Challenged = false
is_competing Gone = false
