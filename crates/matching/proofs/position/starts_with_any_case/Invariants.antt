-- The invariant: the first i bytes are the same, so that the rest decides.
use Rattle.matching.specs.Position.{same_folded}
use Rattle.matching.proofs.Starts.{From}
use Rattle.matching.proofs.position.starts_with_any_case.Given as goal

abbrev pub invariant-loop-i : goal.invariant-loop-i
invariant-loop-i l = From same_folded l.string l.text l.i
