-- Past the end nothing matches; else the test of what is left is the definition's, byte for byte.
use mathlib.Core.Path.{refl, sym, ap, ◌∙◌}
use native.Mathlib.Omega.{arith}
use lib.Dec.{eqb}
use Rattle.matching.specs.Answers.{matched}
use Rattle.matching.proofs.Steps.{string_past, string_is, string_inside}
use Rattle.matching.proofs.position.match_string.Goals as goal

pub returns-in_err-rest : goal.returns-in_err-rest
returns-in_err-rest c =
    c.from_residual.ensures ∙ sym (ap matched (string_past c.args.input.now eqb c.args.string.now c.args.pos.0 c.in_err-rest.ensures.absent))

pub overflow_add-result : goal.overflow_add-result
overflow_add-result c =
    omega (arith, string_inside c.args.input.now eqb c.args.string.now c.args.pos.0 c.in_ok-rest.ensures.present c.if-starts_with.ensures refl)

pub returns-then-starts_with : goal.returns-then-starts_with
returns-then-starts_with c =
    sym (ap matched (string_is c.args.input.now eqb c.args.string.now c.args.pos.0 c.in_ok-rest.ensures.present c.if-starts_with.ensures))

pub returns-else-starts_with : goal.returns-else-starts_with
returns-else-starts_with c =
    sym (ap matched (string_is c.args.input.now eqb c.args.string.now c.args.pos.0 c.in_ok-rest.ensures.present c.if-starts_with.ensures))
