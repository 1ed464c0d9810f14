-- The Start is one of the n tokens, or nothing is written.
use Rattle.engine.proofs.RuleLaws.{paired_out}
use Rattle.engine.proofs.rule.pair_up.Goals as goal

pub returns-else-index-n : goal.returns-else-index-n
returns-else-index-n c = paired_out c.args.tokens.now c.args.tokens.now c.args.index.0 c.args.n.0 c.if-index-n.false
