-- `write_line` writes only where the whole line has room.
use mathlib.Core.Path.{sym, ◌∙◌}
use borrow.Author.Tests.{ltb-true, ltb-false}
use Rattle.sheet.proofs.ListingLaws.{written_whole, written_short}
use Rattle.sheet.proofs.listing.write_line.Goals as goal

pub put_line-requires : goal.put_line-requires
put_line-requires c = ltb-true _ _ (sym c.has_room.ensures ∙ c.if-has_room.true)

pub returns-then-has_room : goal.returns-then-has_room
returns-then-has_room c = written_whole _ _ _ _ (ltb-true _ _ (sym c.has_room.ensures ∙ c.if-has_room.true)) c.put_line.ensures

pub returns-else-has_room : goal.returns-else-has_room
returns-else-has_room c = written_short _ _ (ltb-false _ _ (sym c.has_room.ensures ∙ c.if-has_room.false))
