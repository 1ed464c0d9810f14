-- `put_nodes` writes line by line: before line i the area has the nodes of the first i lines over what it had, and none of the lines
-- from i on is malformed.
use Rattle.sheet.proofs.SheetLaws.{NodesPut}
use Rattle.sheet.proofs.sheet.put_nodes.Given as goal

abbrev pub invariant-loop-i : goal.invariant-loop-i
invariant-loop-i l = NodesPut l.lines l.i l.initial.nodes l.nodes
