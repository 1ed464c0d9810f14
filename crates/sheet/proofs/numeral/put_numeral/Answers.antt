-- `put_numeral` writes the last digit first: the digits that are left are those of `rest`, and the others stand behind `i`.
use Rattle.sheet.proofs.ListingLaws.{spelt_none, spelt_some, spelt_within, spelt_more, spelt_all}
use Rattle.sheet.proofs.numeral.put_numeral.Goals as goal

pub loop-rest-init : goal.loop-rest-init
loop-rest-init c = spelt_none _ _ _

pub overflow_sub-i : goal.overflow_sub-i
overflow_sub-i c = spelt_some _ _ _ _ _ _ c.loop-rest.invariant c.requires.0

pub bounds-out-i : goal.bounds-out-i
bounds-out-i c = spelt_within _ _ _ _ _ _ c.loop-rest.invariant c.requires.0 c.requires.1

pub loop-rest-preserved : goal.loop-rest-preserved
loop-rest-preserved c = spelt_more _ _ _ _ _ _ c.loop-rest.invariant c.requires.0 _ c.loop-rest-test.true c.digit_byte.ensures

pub overflow_sub-i-2 : goal.overflow_sub-i-2
overflow_sub-i-2 c = spelt_some _ _ _ _ _ _ c.loop-rest.invariant c.requires.0

pub bounds-out-i-2 : goal.bounds-out-i-2
bounds-out-i-2 c = spelt_within _ _ _ _ _ _ c.loop-rest.invariant c.requires.0 c.requires.1

pub returns : goal.returns
returns c = spelt_all _ _ _ _ _ _ c.loop-rest.invariant c.requires.0 _ c.loop-rest-test.false c.digit_byte-2.ensures
