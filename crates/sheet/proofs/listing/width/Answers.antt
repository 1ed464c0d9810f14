-- A field is its spaces and its numeral.
use native.Mathlib.Omega.{arith}
use Rattle.sheet.proofs.ListingLaws.{six_length}
use Rattle.sheet.proofs.listing.width.Goals as goal

pub returns : goal.returns
returns c = omega (arith, six_length c.args.n)
