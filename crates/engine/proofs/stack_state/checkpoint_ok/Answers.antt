-- Only the stack of the state changed.
use mathlib.Core.Path.{refl}
use Rattle.reading.specs.Pest.{clear_snapshot}
use Rattle.engine.proofs.StateSteps.{stack_changed}
use Rattle.engine.proofs.stack_state.checkpoint_ok.Goals as goal

pub returns-clause-state_after : goal.returns-clause-state_after
returns-clause-state_after c =
    (stack_changed clear_snapshot _ c.requires refl (c.clear_snapshot-s.ensures.state_after, c.clear_snapshot-s.ensures.outside_stack) refl).0
