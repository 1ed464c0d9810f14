-- The first i tokens are settled, and the queue is as it was.
use native.Mathlib.Omega.{arith}
use Rattle.engine.proofs.TokenLaws.{settled_none, settled_more}
use Rattle.engine.proofs.queueable_token.settle.Goals as goal

pub loop-i-init : goal.loop-i-init
loop-i-init c = settled_none _ _

pub loop-i-preserved : goal.loop-i-preserved
loop-i-preserved c = settled_more _ _ _ _ _ (omega arith) c.loop-i.invariant c.settle_at.ensures
