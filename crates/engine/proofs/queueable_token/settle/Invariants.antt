-- The first i tokens are settled, and the queue is as it was.
use Rattle.engine.specs.Tokens.{SettledTo}
use Rattle.engine.proofs.queueable_token.settle.Given as goal

abbrev pub invariant-loop-i : goal.invariant-loop-i
invariant-loop-i l = SettledTo l.i l.n l.initial.tokens l.tokens
