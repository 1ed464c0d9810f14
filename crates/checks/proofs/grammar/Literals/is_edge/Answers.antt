-- In a UTF-8 text pest's boundaries are the edges.
use Rattle.std.proofs.Common.{rules}
use Rattle.checks.proofs.GrammarLaws.{boundary_is}
use Rattle.checks.proofs.grammar.Literals.is_edge.Goals as goal

pub returns : goal.returns
returns c = search (rules, boundary_is c.args.self.bytes.now c.args.at c.args.self.whole)
