-- A checkpoint is written after the last one.
use Rattle.engine.proofs.StackSteps.{snapshot_ok}
use Rattle.engine.proofs.stack.snapshot.Goals as goal

pub returns-clause-state_after : goal.returns-clause-state_after
returns-clause-state_after c = (snapshot_ok c.args.scratch.now c.args.s c.requires.0 _ c.requires.1 c.put_pair.ensures).0

pub returns-clause-outside_stack : goal.returns-clause-outside_stack
returns-clause-outside_stack c = (snapshot_ok c.args.scratch.now c.args.s c.requires.0 _ c.requires.1 c.put_pair.ensures).1
