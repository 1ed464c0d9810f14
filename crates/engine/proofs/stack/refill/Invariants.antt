-- The invariant: scratch is what the definition gives after i moves.
use mathlib.Core.Path.{◌≡◌}
use Rattle.engine.specs.Pairs.{refilled}
use Rattle.engine.proofs.stack.refill.Given as goal

abbrev pub invariant-loop-i : goal.invariant-loop-i
invariant-loop-i l = l.scratch ≡ refilled l.initial.scratch l.low l.p l.i
