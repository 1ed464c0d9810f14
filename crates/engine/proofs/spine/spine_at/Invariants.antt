-- After some turns the line is as many steps below the top.
use mathlib.Core.Path.{◌≡◌}
use Rattle.engine.specs.Spine.{spine_line}
use Rattle.engine.proofs.spine.spine_at.Given as goal

abbrev pub invariant-loop : goal.invariant-loop
invariant-loop l = l.line ≡ spine_line l.nodes l.top l.counter
