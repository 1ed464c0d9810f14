-- By the kind of the token.
use Rattle.engine.proofs.TokenLaws.{patched_start, patched_end}
use Rattle.engine.proofs.queueable_token.set_partner.Goals as goal

pub returns-then-tokens-at-eq-START : goal.returns-then-tokens-at-eq-START
returns-then-tokens-at-eq-START c = patched_start c.args.tokens.now c.args.index.0 c.args.partner.0 c.requires.0 c.if-tokens-at-eq-START.true

pub returns-else-tokens-at-eq-START : goal.returns-else-tokens-at-eq-START
returns-else-tokens-at-eq-START c = patched_end c.args.tokens.now c.args.index.0 c.args.partner.0 c.requires.0 c.if-tokens-at-eq-START.false
