-- Each turn goes one left side further down; the measure is the line.
use Rattle.engine.proofs.Spines.{Sliding}
use Rattle.engine.proofs.spine.descend.Given as goal

abbrev pub invariant-loop-n : goal.invariant-loop-n
invariant-loop-n l = Sliding l.nodes l.top l.line l.count

abbrev pub decreases-loop-n : goal.decreases-loop-n
decreases-loop-n l = l.line
