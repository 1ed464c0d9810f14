-- The code builds the definition's table, row by row, over what the fields and the flags say.
use Rattle.std.proofs.Common.{rules}
use Rattle.reading.specs.Nullable.{flag}
use Rattle.checks.proofs.FieldLaws.{back}
use Rattle.checks.proofs.NullableSteps.{line_rows}
use Rattle.checks.proofs.nullable.line_stands_still.Goals as goal

pub returns : goal.returns
returns c =
    let n = c.args.node in
    cc (line_rows (flag c.args.flags.now) n
    (back n.kind (search rules)) (back n.a (search rules)) (back n.b (search rules))
    c.natural_of-field_a.ensures c.natural_of-field_b.ensures)
