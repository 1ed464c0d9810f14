-- Every field read is in the slice, and the four readings are the line's by one law.
use Rattle.std.proofs.Common.{rules}
use Rattle.engine.proofs.LineFields.{line_read}
use Rattle.engine.proofs.node.line_at.Goals as goal

pub returns : goal.returns
returns c =
    line_read c.args.nodes.now c.args.line (search rules) (search rules) (search rules) (search rules)
    c.natural_of-kind.ensures c.natural_of-a.ensures c.natural_of-b.ensures c.natural_of-c.ensures
