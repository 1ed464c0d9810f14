-- `first_malformed` passes a line that reads: the first malformed line from line i on is the first of all.
use mathlib.Core.Path.{sym, ap, ◌∙◌}
use Rattle.std.specs.Option.{is_some}
use Rattle.sheet.proofs.SheetLaws.{malformed_here, malformed_more, malformed_done, malformed_found, malformed_none}
use Rattle.sheet.proofs.sheet.first_malformed.Goals as goal

pub returns-then-is_none : goal.returns-then-is_none
returns-then-is_none c =
    malformed_found _ _ (c.loop-i.invariant ∙ malformed_here _ _ c.loop-i-test.true (ap is_some (sym c.read_line.ensures) ∙ c.if-is_none.ensures))

pub loop-i-preserved : goal.loop-i-preserved
loop-i-preserved c = c.loop-i.invariant ∙ malformed_more _ _ c.loop-i-test.true (ap is_some (sym c.read_line.ensures) ∙ c.if-is_none.ensures)

pub returns : goal.returns
returns c = malformed_none _ (c.loop-i.invariant ∙ malformed_done _ _ _ c.loop-i-test.false)
