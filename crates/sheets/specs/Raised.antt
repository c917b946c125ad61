-- The terms of a record that matched its challenger.
use Rattle.std.specs.Prelude.{max, cond, nat_lt}
use Rattle.terms.specs.declared.words.Product.{Product}
use Rattle.terms.specs.declared.request.Request.{Request}
use Rattle.terms.specs.declared.request.Standing.{Standing}
use Rattle.terms.specs.Numbers.{product_number}

abbrev pub higher_product : Product → Product → Product
higher_product p q = cond (nat_lt (product_number p) (product_number q)) q p

-- the defender's terms with product, length and price each raised to the larger of its own and the challenger's
abbrev pub raised : Request → Request → Request
raised c d = record {
  aref = d.aref;
  kind = d.kind;
  product = higher_product d.product c.product;
  start = d.start;
  length = max d.length c.length;
  mw = d.mw;
  preconfirmed = d.preconfirmed;
  price = max d.price c.price;
}

abbrev pub with_raised_terms : Request → Standing → Standing
with_raised_terms c d = record { request = raised c d.request; state = d.state; queued = d.queued }
