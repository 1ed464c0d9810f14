-- `has_room` takes each field off the room: what is left and the fields passed are the whole room.
use Rattle.sheet.proofs.ListingLaws.{Left}
use Rattle.sheet.proofs.listing.has_room.Given as goal

abbrev pub invariant-loop-n : goal.invariant-loop-n
invariant-loop-n l = Left l.numbers l.room l.left l.n-index
