-- `put_line` writes field behind field over the start of the area, and the line's end behind the last.
use Rattle.sheet.proofs.ListingLaws.{Filled}
use Rattle.sheet.proofs.listing.put_line.Given as goal

abbrev pub invariant-loop-n : goal.invariant-loop-n
invariant-loop-n l = Filled l.numbers l.initial.out l.out l.at l.n-index
