-- By the limit cause, then by the body's answer.
use mathlib.Core.Path.{sym, ◌∙◌}
use Rattle.engine.specs.Areas.{view}
use Rattle.engine.proofs.EndLaws.{looking_limit, looking_good}
use Rattle.engine.proofs.endings.looked.Goals as goal

pub returns-then-limit_reached : goal.returns-then-limit_reached
returns-then-limit_reached c = λ tokens scratch.
    looking_limit c.args.good (view tokens scratch c.args.s.now) (sym (c.limit_reached.ensures tokens scratch) ∙ c.if-limit_reached.true)

pub returns-then-good : goal.returns-then-good
returns-then-good c = λ tokens scratch.
    looking_good c.args.good (view tokens scratch c.args.s.now) (sym (c.limit_reached.ensures tokens scratch) ∙ c.if-limit_reached.false)
    c.if-good.true
