-- The tokens are settled, and the rest is zeroed.
use Rattle.engine.proofs.TokenLaws.{settled_area}
use Rattle.engine.proofs.queueable_token.write_tokens.Goals as goal

pub returns : goal.returns
returns c = settled_area c.args.n.0 c.args.tokens.now c.settle.new.tokens _ c.requires c.settle.ensures c.zero_from.ensures
