-- `put_line` writes field behind field over the start of the area, and the line's end behind the last.
use native.Mathlib.Omega.{arith}
use Rattle.sheet.proofs.ListingLaws.{filled_none, filled_length, filled_room, filled_more, filled_end, filled_line}
use Rattle.sheet.proofs.listing.put_line.Goals as goal

pub loop-n-init : goal.loop-n-init
loop-n-init c = filled_none _ _

pub put_six-at-requires : goal.put_six-at-requires
put_six-at-requires c = filled_room _ _ _ _ _ c.loop-n.invariant c.requires c.loop-n-test.true

pub loop-n-preserved : goal.loop-n-preserved
loop-n-preserved c = filled_more _ _ _ _ _ c.loop-n.invariant c.requires _ _ c.loop-n-test.true c.put_six-at.ensures.0 c.put_six-at.ensures.1

pub bounds-out-at : goal.bounds-out-at
bounds-out-at c = filled_end _ _ _ _ _ c.loop-n.invariant c.requires c.loop-n-test.false

pub overflow_add-result : goal.overflow_add-result
overflow_add-result c = omega (
  arith,
  filled_end _ _ _ _ _ c.loop-n.invariant c.requires c.loop-n-test.false,
  filled_length _ _ _ _ _ c.loop-n.invariant c.requires,
)

pub returns : goal.returns
returns c = filled_line _ _ _ _ _ c.loop-n.invariant c.requires c.loop-n-test.false
