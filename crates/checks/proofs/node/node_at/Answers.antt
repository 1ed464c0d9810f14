-- The definition's line has the same four numbers.
use Rattle.std.proofs.Common.{rules}
use Rattle.reading.specs.Grammar.{node_at}
use Rattle.checks.proofs.node.node_at.Goals as goal

pub returns : goal.returns
unfolding node_at
returns c = search rules
