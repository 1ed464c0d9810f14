-- An entry is written after the last one, or there is no room: one law of StackSteps for each.
use Rattle.engine.proofs.StackSteps.{push_ok, push_full}
use Rattle.engine.proofs.stack.push.Goals as goal

pub returns-then-h-lt-MOST_ENTRIES-clause-state_after : goal.returns-then-h-lt-MOST_ENTRIES-clause-state_after
returns-then-h-lt-MOST_ENTRIES-clause-state_after c =
    (push_ok c.args.scratch.now c.args.s c.requires c.args.start c.args.end _ c.if-h-lt-MOST_ENTRIES.true c.put_pair.ensures).0

pub returns-then-h-lt-MOST_ENTRIES-clause-outside_stack : goal.returns-then-h-lt-MOST_ENTRIES-clause-outside_stack
returns-then-h-lt-MOST_ENTRIES-clause-outside_stack c =
    (push_ok c.args.scratch.now c.args.s c.requires c.args.start c.args.end _ c.if-h-lt-MOST_ENTRIES.true c.put_pair.ensures).1

pub returns-else-h-lt-MOST_ENTRIES-clause-state_after : goal.returns-else-h-lt-MOST_ENTRIES-clause-state_after
returns-else-h-lt-MOST_ENTRIES-clause-state_after c =
    (push_full c.args.scratch.now c.args.s c.requires c.args.start c.args.end c.if-h-lt-MOST_ENTRIES.false).0
