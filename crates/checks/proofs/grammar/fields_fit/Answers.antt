-- The code's rows are the definition's, test by test.
use mathlib.Core.Path.{◌∙◌}
use native.Mathlib.Omega.{arith}
use mir.Syntax.{w32}
use mir.Val.{to_z, of_z}
use Rattle.std.proofs.Common.{rules}
use Rattle.checks.proofs.FieldLaws.{back}
use Rattle.checks.proofs.GrammarLaws.{lower_by, rows_fit}
use Rattle.checks.proofs.grammar.fields_fit.Goals as goal

pub returns : goal.returns
returns c =
    let n = c.args.node in
    c.row_of.ensures
    ∙ rows_fit c.args.nodes.now c.args.literals.bytes.now c.args.line
    (back n.kind (search rules)) (back n.a (search rules)) (back n.b (search rules)) (back n.c (search rules))
    c.literal_fits.ensures c.is_scalar.ensures c.is_scalar-2.ensures c.is_count.ensures
    c.is_nil.ensures c.is_nil-nil_b.ensures c.is_nil-nil_c.ensures
    (lower_by (to_z w32 (of_z w32 n.a)) {l = c.args.line} c.is_lower-lower_a.ensures (omega arith)) c.is_lower-lower_b.ensures
    c.is_name-name_a.ensures c.calls_rule.ensures
    c.between.ensures c.between-2.ensures c.between-3.ensures c.between-4.ensures
