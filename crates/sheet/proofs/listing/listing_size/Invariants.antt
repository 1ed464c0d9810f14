-- `listing_size` sums what each line took of an area that holds any line.
use mathlib.Core.Path.{◌≡◌}
use Rattle.sheet.specs.Listing.{later_count}
use Rattle.sheet.proofs.WholeLaws.{Sized}
use Rattle.sheet.proofs.listing.listing_size.Given as goal

abbrev pub invariant-loop-k : goal.invariant-loop-k
invariant-loop-k l = (l.lines ≡ later_count l.o) × Sized l.o l.tokens l.report l.line l.size l.k
