-- One law of StateSteps for each answer of `push`.
use mathlib.Core.Path.{refl}
use Rattle.engine.proofs.StateSteps.{push_kept}
use Rattle.engine.proofs.stack_state.stack_push_end.Goals as goal

pub returns-in-Some-clause-state_after : goal.returns-in-Some-clause-state_after
returns-in-Some-clause-state_after c =
    let e = push_kept c.requires.state refl refl _ c.push.result (
      c.push.ensures.state_after,
      c.push.ensures.outside_stack,
    ) c.args.line _ c.in-Some.is refl in
    λ text. e.0
