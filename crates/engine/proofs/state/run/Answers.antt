-- A refused run, or a started one.
use mathlib.Core.Path.{sym, ap, ◌∙◌}
use Rattle.checks.specs.Refusals.{refused_of}
use Rattle.checks.proofs.RefusalLaws.{of_input, not_refused}
use Rattle.engine.proofs.RunLaws.{refused_is}
use Rattle.engine.proofs.state.run.Goals as goal

pub started-requires : goal.started-requires
started-requires c =
    not_refused _ c.in-Ok.is (of_input _ c.refusal.ensures)

pub returns-in-Err : goal.returns-in-Err
returns-in-Err c =
    rw c.from.ensures (refused_is _ _ _ (of_input _ (sym (ap refused_of c.in-Err.is) ∙ c.refusal.ensures)))
