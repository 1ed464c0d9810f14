-- `write_listing` writes only where the whole listing has room.
use Rattle.sheet.proofs.WholeLaws.{listing_whole, listing_short}
use Rattle.sheet.proofs.listing.write_listing.Goals as goal

pub returns-then-out-size : goal.returns-then-out-size
returns-then-out-size c = listing_short _ _ _ _ c.listing_size-size.ensures _ c.if-out-size.true

pub returns : goal.returns
returns c = listing_whole _ _ _ _ c.listing_size-size.ensures _ _ _ c.if-out-size.false c.put_listing.ensures
