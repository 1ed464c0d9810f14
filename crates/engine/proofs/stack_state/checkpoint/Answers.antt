-- Only the stack of the state changed.
use mathlib.Core.Path.{refl}
use Rattle.reading.specs.Pest.{snapshot}
use Rattle.engine.proofs.StateSteps.{stack_changed}
use Rattle.engine.proofs.stack_state.checkpoint.Goals as goal

pub returns-clause-state_after : goal.returns-clause-state_after
returns-clause-state_after c = (stack_changed snapshot _ c.requires.0 refl (
  c.snapshot-s.ensures.state_after,
  c.snapshot-s.ensures.outside_stack,
) refl).0
