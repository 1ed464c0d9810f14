-- The lines so far are swept, and the flags are as at first unless a change is noted.
use mathlib.Core.Path.{refl, ◌∙◌}
use Rattle.reading.proofs.NullableLaws.{swept_zero, swept_next}
use Rattle.checks.proofs.NullableSteps.{neither}
use Rattle.checks.proofs.nullable.sweep.Goals as goal

pub loop-index-init : goal.loop-index-init
loop-index-init c = record { so_far = swept_zero _ _; unchanged = λ _. refl }

pub loop-index-preserved : goal.loop-index-preserved
loop-index-preserved c = record {
  so_far =
      swept_next c.args.nodes.now c.loop-index.index c.args.flags.now c.loop-index.flags _ c.loop-index.invariant.so_far
      c.raise-changed.ensures.flags_after;
  unchanged = λ e.
      let n = neither c.loop-index.changed c.raise-changed.result e in
      c.raise-changed.ensures.unchanged n.1 ∙ c.loop-index.invariant.unchanged n.0;
}
