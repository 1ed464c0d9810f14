-- Both fields read back as themselves.
use Rattle.std.proofs.Common.{rules}
use Rattle.engine.proofs.LineFields.{ends_read}
use Rattle.engine.proofs.node.ends_at.Goals as goal

pub returns : goal.returns
returns c = ends_read c.args.nodes.now c.args.line (search rules) (search rules)
