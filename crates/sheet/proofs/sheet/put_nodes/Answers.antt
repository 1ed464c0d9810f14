-- `put_nodes` writes line by line: before line i the area has the nodes of the first i lines over what it had, and none of the lines
-- from i on is malformed.
use mathlib.Core.Path.{sym, ◌∙◌}
use native.Mathlib.Omega.{arith}
use Rattle.sheet.proofs.SheetLaws.{put_none, put_bad, put_more}
use Rattle.sheet.proofs.sheet.put_nodes.Goals as goal
use Rattle.sheet.proofs.sheet.put_nodes.Goals.{in-Some, in_default}

pub loop-i-init : goal.loop-i-init
loop-i-init c = put_none _ _ c.requires.good

pub loop-i-preserved : goal.loop-i-preserved
loop-i-preserved c = elim c.match-read_line.branch [
  | in-Some w ↦ put_more _ _ _ _ c.loop-i.invariant c.loop-i-test.true w.in-Some.n _ _ _
      (sym c.read_line.ensures ∙ w.in-Some.is) (omega arith) w.copy_from_slice.ensures.after w.nodes-is
  | in_default w ↦ absurd (put_bad _ _ _ _ c.loop-i.invariant c.loop-i-test.true (sym c.read_line.ensures ∙ w.in_default.is))
]
