-- Each way out is one case of the definition.
use Rattle.std.proofs.Common.{arith}
use Rattle.std.proofs.lemmas.Bool.Decides.{nat_tests}
use Rattle.sheet.specs.Listing.{later_count}
use Rattle.sheet.proofs.listing.later_count.Goals as goal

pub returns-in-0 : goal.returns-in-0
unfolding later_count
returns-in-0 c = grind (arith, nat_tests)

pub returns-in_default : goal.returns-in_default
unfolding later_count
returns-in_default c = grind (arith, nat_tests)
