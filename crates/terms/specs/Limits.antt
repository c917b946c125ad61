-- The limits of what can be asked for.
use Rattle.std.specs.Prelude.{ℕ, Bool, ◌&&◌, ◌||◌, ◌==◌, nat_le}
use Rattle.terms.specs.declared.request.Request.{Request}
use Rattle.terms.specs.declared.words.Product.{Product}
use Rattle.terms.specs.declared.words.Product.TheVariants.{Daily, Weekly, Monthly}

abbrev pub within : ℕ → ℕ → ℕ → Bool
within least most n = nat_le least n && nat_le n most

-- daily service is sold for 1 to 31 days, weekly for 1 to 4 weeks, monthly for the 28 to 31 days of a month
abbrev pub sold_length : Product → ℕ → Bool
sold_length Daily n = within 1 31 n
sold_length Weekly n = n == 7 || (n == 14 || (n == 21 || n == 28))
sold_length Monthly n = within 28 31 n

abbrev pub sold_amount : ℕ → Bool
sold_amount mw = within 1 20000 mw

-- in cents
abbrev pub sold_price : ℕ → Bool
sold_price cents = nat_le cents 1000000

-- AREFs are numbered from 1
abbrev pub named : ℕ → Bool
named aref = nat_le 1 aref

-- a request within all limits
abbrev pub sellable : Request → Bool
sellable r = sold_length r.product r.length && (sold_amount r.mw && (sold_price r.price && named r.aref))
