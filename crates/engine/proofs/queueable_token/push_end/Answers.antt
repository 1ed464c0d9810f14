-- A push is one law.
use Rattle.reading.specs.Pest.{End}
use Rattle.engine.proofs.TokenLaws.{pushed}
use Rattle.engine.proofs.queueable_token.push_end.Goals as goal

pub returns : goal.returns
returns c = pushed c.args.tokens.now c.args.n.0 (End c.args.partner.0 c.args.rule 0 c.args.p.0) _ c.requires.token_fits.0 c.put.ensures
