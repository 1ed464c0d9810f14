-- The invariant `Left`: what is left of the slice, from here on, decides the whole answer.
use Rattle.engine.proofs.Slices.{Left}
use Rattle.engine.proofs.stack_match.match_slice.Given as goal

abbrev pub invariant-loop-k : goal.invariant-loop-k
invariant-loop-k l = Left l.text l.scratch l.down l.start l.end l.initial.at l.k l.at
