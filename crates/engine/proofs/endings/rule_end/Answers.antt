-- In each arm the ending is known.
use Rattle.engine.proofs.endings.rule_end.Goals as goal

pub returns-in-Err : goal.returns-in-Err
returns-in-Err c = λ g h. rw c.in-Err.is (c.rule_err.ensures g c.args.tokens.now)
