-- `digit` tests the two bounds of a digit as the definition does.
use borrow.Author.Tests.{tests}
use Rattle.std.proofs.Common.{rules}
use Rattle.sheet.specs.Field.{digit}
use Rattle.sheet.proofs.field.digit.Goals as goal

pub returns-in-48-to-57 : goal.returns-in-48-to-57
unfolding digit
returns-in-48-to-57 c = search (rules, tests)

pub returns-in_default : goal.returns-in_default
unfolding digit
returns-in_default c = search (rules, tests)

pub returns-in_default-2 : goal.returns-in_default-2
unfolding digit
returns-in_default-2 c = search (rules, tests)
