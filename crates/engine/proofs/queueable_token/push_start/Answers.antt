-- A push is one law.
use Rattle.reading.specs.Pest.{Start}
use Rattle.engine.proofs.TokenLaws.{pushed}
use Rattle.engine.proofs.queueable_token.push_start.Goals as goal

pub returns : goal.returns
returns c = pushed c.args.tokens.now c.args.n.0 (Start 0 c.args.p.0) _ c.requires.0 c.put.ensures
