-- Each way out is one case of `later_line`.
use Rattle.sheet.proofs.ListingLaws.{renamed, later_token, later_rule}
use Rattle.sheet.proofs.listing.write_later.Goals as goal

pub returns-then-o-eq0 : goal.returns-then-o-eq0
returns-then-o-eq0 c = renamed _ _ _ _ _ (later_token _ _ _ _ c.if-o-eq0.true) c.write_token.ensures

pub returns-else-o-eq0 : goal.returns-else-o-eq0
returns-else-o-eq0 c = renamed _ _ _ _ _ (later_rule _ _ _ _ c.if-o-eq0.false) c.write_rule.ensures
