-- A flagged line stays; any other is set if it may stand still, which is `raised`.
use mathlib.Core.Path.{ap, ◌∙◌}
use Rattle.reading.specs.Nullable.{stands_still, flag}
use Rattle.reading.proofs.NullableLaws.{raised_flagged}
use Rattle.checks.proofs.NullableSteps.{raised_is}
use Rattle.checks.proofs.nullable.raise.Goals as goal

pub returns-then-flags-index-clause-flags_after : goal.returns-then-flags-index-clause-flags_after
returns-then-flags-index-clause-flags_after c = raised_flagged c.args.nodes.now c.args.index c.args.flags.now c.if-flags-index.true

pub returns-clause-flags_after : goal.returns-clause-flags_after
returns-clause-flags_after c =
    raised_is c.args.nodes.now c.args.index c.args.flags.now c.if-flags-index.false
    (c.line_stands_still-raises.ensures ∙ ap (stands_still (flag c.args.flags.now)) c.node_at.ensures)
