-- By the limit cause.
use mathlib.Core.Path.{sym, ◌∙◌}
use Rattle.engine.proofs.endings.forgiven.Goals as goal

pub returns-then-limit_reached : goal.returns-then-limit_reached
returns-then-limit_reached c = λ tokens scratch. rw (sym (c.limit_reached.ensures tokens scratch) ∙ c.if-limit_reached.true)

pub returns-else-limit_reached : goal.returns-else-limit_reached
returns-else-limit_reached c = λ tokens scratch. rw (sym (c.limit_reached.ensures tokens scratch) ∙ c.if-limit_reached.false)
