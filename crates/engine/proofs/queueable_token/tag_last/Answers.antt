-- No token, a Start, or an End.
use Rattle.engine.proofs.TokenLaws.{tagged_none, tagged_start, tagged_end}
use Rattle.engine.proofs.queueable_token.tag_last.Goals as goal

pub returns-then-n-eq0 : goal.returns-then-n-eq0
returns-then-n-eq0 c = tagged_none c.args.tokens.now c.args.n.0 c.args.tag c.if-n-eq0.true

pub returns-then-tokens-last-ne-START : goal.returns-then-tokens-last-ne-START
returns-then-tokens-last-ne-START c = tagged_end c.args.tokens.now c.args.n.0 c.args.tag c.if-n-eq0.false c.requires c.if-tokens-last-ne-START.true

pub returns-else-tokens-last-ne-START : goal.returns-else-tokens-last-ne-START
returns-else-tokens-last-ne-START c = tagged_start c.args.tokens.now c.args.n.0 c.args.tag c.if-n-eq0.false c.requires c.if-tokens-last-ne-START.false
