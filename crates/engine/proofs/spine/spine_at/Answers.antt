-- After some turns the line is as many steps below the top.
use native.Mathlib.Omega.{arith}
use Rattle.engine.proofs.Spines.{spine_first, spine_whole, spine_step}
use Rattle.engine.proofs.spine.spine_at.Goals as goal

pub loop-init : goal.loop-init
loop-init c = spine_first _ _

pub line_at-line-requires : goal.line_at-line-requires
line_at-line-requires c = rw c.loop.invariant (spine_whole _ _ c.requires.0 _ (λ j h. c.requires.1 j (omega (arith, h, c.loop-test.true))))

pub loop-preserved : goal.loop-preserved
loop-preserved c = spine_step _ _ _ _ c.loop.invariant _ c.line_at-line.ensures
