-- The invariant: scratch is what the definition gives after i moves.
use Prim.Native.Nat.{ℕ, ◌+◌, ◌*◌}
use mathlib.Core.Path.{ap, ◌∙◌}
use Rattle.engine.specs.Pairs.{put}
use Rattle.engine.proofs.Moves.{refilled_zero, refilled_next}
use Rattle.engine.proofs.stack.refill.Goals as goal

pub loop-i-init : goal.loop-i-init
loop-i-init c = refilled_zero _ _ _

pub loop-i-preserved : goal.loop-i-preserved
loop-i-preserved c =
    refilled_next _ _ _ _ c.loop-i.invariant
    (c.put_pair.ensures ∙ ap (λ (x : ℕ × ℕ). put c.loop-i.scratch (0 + (c.args.low + c.loop-i.i) * 2) x.0 x.1) c.pair_at-x.ensures)
