-- `put_listing` writes line behind line over the start of the area, each into what lies behind the others.
use mathlib.Core.Path.{◌≡◌}
use Rattle.sheet.specs.Listing.{later_count}
use Rattle.sheet.proofs.WholeLaws.{Lined}
use Rattle.sheet.proofs.listing.put_listing.Given as goal

abbrev pub invariant-loop-k : goal.invariant-loop-k
invariant-loop-k l = (l.count ≡ later_count l.o) × Lined l.o l.tokens l.report l.initial.out l.out l.at l.k
