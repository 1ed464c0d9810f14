-- Past the end nothing matches; else the test of what is left is the definition's, over folded bytes.
use mathlib.Core.Path.{refl, sym, ap, ◌∙◌}
use native.Mathlib.Omega.{arith}
use Rattle.matching.specs.Position.{same_folded}
use Rattle.matching.specs.Answers.{matched}
use Rattle.matching.proofs.Steps.{string_past, string_is, string_inside}
use Rattle.matching.proofs.position.match_insensitive.Goals as goal

pub returns-in_err-rest : goal.returns-in_err-rest
returns-in_err-rest c =
    c.from_residual.ensures ∙ sym (ap matched (string_past c.args.input.now same_folded c.args.string.now c.args.pos.0 c.in_err-rest.ensures.absent))

pub overflow_add-result : goal.overflow_add-result
overflow_add-result c =
    omega (arith, string_inside c.args.input.now same_folded c.args.string.now c.args.pos.0 c.in_ok-rest.ensures.present c.if-starts_with_any_case.ensures refl)

pub returns-then-starts_with_any_case : goal.returns-then-starts_with_any_case
returns-then-starts_with_any_case c =
    sym (ap matched (string_is c.args.input.now same_folded c.args.string.now c.args.pos.0 c.in_ok-rest.ensures.present c.if-starts_with_any_case.ensures))

pub returns-else-starts_with_any_case : goal.returns-else-starts_with_any_case
returns-else-starts_with_any_case c =
    sym (ap matched (string_is c.args.input.now same_folded c.args.string.now c.args.pos.0 c.in_ok-rest.ensures.present c.if-starts_with_any_case.ensures))
