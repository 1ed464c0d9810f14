-- The invariant `Left`: what is left of the slice, from here on, decides the whole answer.
use mathlib.Core.Path.{◌∙◌}
use native.Mathlib.Omega.{arith}
use Rattle.engine.proofs.Slices.{left_more, left_fails}
use Rattle.engine.proofs.stack_match.match_slice.Goals as goal

pub returns-in_err-at : goal.returns-in_err-at
returns-in_err-at c =
    c.from_residual.ensures ∙
    left_fails _ _ _ _ _ _ _ _ c.loop-k.invariant (omega arith) c.loop-k-test.true _ c.index_at-i.ensures _ c.entry.ensures _ c.match_string.ensures
    c.args.s.height c.requires.1 c.in_err-at.was

pub loop-k-preserved : goal.loop-k-preserved
loop-k-preserved c =
    left_more _ _ _ _ _ _ _ _ c.loop-k.invariant (omega arith)
    c.loop-k-test.true _ c.index_at-i.ensures _ c.entry.ensures _ c.match_string.ensures _ c.in_ok-at.was
