-- `has_room` takes each field off the room: what is left and the fields passed are the whole room.
use Rattle.sheet.proofs.ListingLaws.{left_all, left_short, left_more, left_end}
use Rattle.sheet.proofs.listing.has_room.Goals as goal

pub loop-n-init : goal.loop-n-init
loop-n-init c = left_all _ _

pub returns-then-left-w : goal.returns-then-left-w
returns-then-left-w c = left_short _ _ _ _ _ c.loop-n.invariant c.loop-n-test.true c.width-w.ensures c.if-left-w.true

pub loop-n-preserved : goal.loop-n-preserved
loop-n-preserved c = left_more _ _ _ _ _ c.loop-n.invariant c.loop-n-test.true c.width-w.ensures c.if-left-w.false

pub returns : goal.returns
returns c = left_end _ _ _ _ c.loop-n.invariant c.loop-n-test.false
