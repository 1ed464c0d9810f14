-- Only the stack of the state changed.
use mathlib.Core.Path.{refl}
use Rattle.reading.specs.Pest.{restore}
use Rattle.engine.proofs.StateSteps.{stack_changed}
use Rattle.engine.proofs.stack_state.restored.Goals as goal

pub returns-clause-state_after : goal.returns-clause-state_after
returns-clause-state_after c = (stack_changed restore _ c.requires refl (c.restore-s.ensures.state_after, c.restore-s.ensures.outside_stack) refl).0
