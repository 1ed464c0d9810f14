-- The invariant: from the line and the position so far, the evaluation comes to what it comes to from the first line.
use mathlib.Core.Path.{◌≡◌}
use Prim.Native.Nat.{ℕ}
use Rattle.reading.specs.Pest.{ParserState}
use Rattle.engine.specs.Evaluation.{Line}
use Rattle.engine.specs.Leaves.{FitIn, Onto}
use Rattle.engine.proofs.leaves.walk.Given as goal

abbrev pub invariant-loop-n : goal.invariant-loop-n
invariant-loop-n l =
    Line l.g.nodes.now l.at
    × ((d : ℕ) (m : ParserState) → FitIn l.g m → m.position ≡ l.initial.position.0
    → Onto l.g.nodes.now l.g.literals.now l.g.text.now l.g.room d l.line m l.at l.position.0)

abbrev pub decreases-loop-n : goal.decreases-loop-n
decreases-loop-n l = l.at
