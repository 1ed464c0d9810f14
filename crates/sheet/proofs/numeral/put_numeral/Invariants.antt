-- `put_numeral` writes the last digit first: the digits that are left are those of `rest`, and the others stand behind `i`.
use Rattle.sheet.proofs.ListingLaws.{Spelt}
use Rattle.sheet.proofs.numeral.put_numeral.Given as goal

abbrev pub invariant-loop-rest : goal.invariant-loop-rest
invariant-loop-rest l = Spelt l.n l.rest l.end l.i l.initial.out l.out

abbrev pub decreases-loop-rest : goal.decreases-loop-rest
decreases-loop-rest l = l.rest
