-- One law of StateSteps for each answer of `match_pop`.
use mathlib.Core.Path.{refl}
use Rattle.engine.proofs.StateSteps.{popped_some, popped_indebted}
use Rattle.engine.proofs.stack_state.stack_match_pop.Goals as goal

pub returns-in-Some-clause-state_after : goal.returns-in-Some-clause-state_after
returns-in-Some-clause-state_after c =
    (popped_some c.args.text.now c.args.line c.requires refl refl c.match_pop.result (
      c.match_pop.ensures.state_after,
      c.match_pop.ensures.outside_stack,
    )
    _ _ c.in-Some.is refl _ c.moved.result c.moved.ensures).0

pub returns-in-None-clause-state_after : goal.returns-in-None-clause-state_after
returns-in-None-clause-state_after c =
    (popped_indebted c.args.text.now c.args.line c.requires refl refl c.match_pop.result (
      c.match_pop.ensures.state_after,
      c.match_pop.ensures.outside_stack,
    )
    c.in-None.is).0
