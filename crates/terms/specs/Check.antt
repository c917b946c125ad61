-- What checking a request answers: its terms, or the first refusal that stops it.
use Rattle.std.specs.Prelude.{Bool, cond, Some, None, Ok, Err, Option, Result}
use Rattle.terms.specs.declared.words.Kind.{Kind}
use Rattle.terms.specs.declared.words.Product.{Product}
use Rattle.terms.specs.declared.request.Request.{Request}
use Rattle.terms.specs.declared.request.RequestForm.{RequestForm}
use Rattle.terms.specs.declared.refusal.Refusal.{Refusal}
use Rattle.terms.specs.declared.refusal.Refusal.TheVariants.{UnknownNumber, BadLength, BadAmount, BadPrice, NoAref}
use Rattle.terms.specs.Numbers.{kind_of, product_of, mark_of}
use Rattle.terms.specs.Limits.{sold_length, sold_amount, sold_price, named}

-- goes on where a limit is kept, and is refused otherwise
abbrev pub provided : Bool → Refusal → Result Request Refusal → Result Request Refusal
provided kept refusal rest = cond kept rest (Err refusal)

-- the limits in their order
abbrev pub within_limits : Request → Result Request Refusal
within_limits r =
    provided (sold_length r.product r.length) BadLength
    (provided (sold_amount r.mw) BadAmount
    (provided (sold_price r.price) BadPrice
    (provided (named r.aref) NoAref
    (Ok r))))

-- kind, product and mark as they were read, none where the number stands for nothing
abbrev pub as_read : RequestForm → Option Kind → Option Product → Option Bool → Result Request Refusal
as_read f None product mark = Err UnknownNumber
as_read f (Some kind) None mark = Err UnknownNumber
as_read f (Some kind) (Some product) None = Err UnknownNumber
as_read f (Some kind) (Some product) (Some mark) =
    within_limits (record { aref = f.aref; kind = kind; product = product; start = f.start; length = f.length; mw = f.mw; preconfirmed = mark; price = f.price })

abbrev pub judged : RequestForm → Result Request Refusal
judged f = as_read f (kind_of f.kind) (product_of f.product) (mark_of f.preconfirmed)
