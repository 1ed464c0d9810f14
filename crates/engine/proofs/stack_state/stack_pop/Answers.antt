-- One law of StateSteps for each answer of `pop`.
use mathlib.Core.Path.{refl}
use Rattle.engine.proofs.StateSteps.{pop_moved}
use Rattle.engine.proofs.stack_state.stack_pop.Goals as goal

pub returns-in-Ok-clause-state_after : goal.returns-in-Ok-clause-state_after
returns-in-Ok-clause-state_after c =
    (pop_moved c.args.text.now c.args.line c.requires refl c.pop.result
    (c.pop.ensures.state_after, c.pop.ensures.outside_stack) _ _ c.in-Ok.is refl _ c.as_bytes.ensures refl _ c.match_string.ensures _ c.moved.result
    c.moved.ensures).0
