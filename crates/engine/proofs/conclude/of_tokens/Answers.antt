-- The tokens are written, the report is cleared, and a queue of n tokens has n.
use Rattle.engine.proofs.AreaLaws.{cleared}
use Rattle.engine.proofs.ConcludeLaws.{tokens_count, outcome_ext}
use Rattle.engine.proofs.conclude.of_tokens.Goals as goal

pub returns : goal.returns
returns c = outcome_ext (tokens_count _ _) c.write_tokens.ensures (cleared _ (c.fill.ensures.after (λ y e. e)))
