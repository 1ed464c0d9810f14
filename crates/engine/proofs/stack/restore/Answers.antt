-- What Sound says of the innermost checkpoint (`top_is`) bounds every difference; one law for each way out.
use native.Mathlib.Omega.{arith}
use Rattle.engine.proofs.StackSteps.{top_is, restore_none, restore_ok}
use Rattle.engine.proofs.stack.restore.Goals as goal

pub returns-then-c-eq0-clause-state_after : goal.returns-then-c-eq0-clause-state_after
returns-then-c-eq0-clause-state_after c = (restore_none c.args.scratch.now c.args.s c.requires c.if-c-eq0.true).0

pub overflow_sub-n : goal.overflow_sub-n
overflow_sub-n c = let t = top_is c.args.scratch.now c.args.s c.requires c.if-c-eq0.false _ c.pair_at-top.ensures in omega arith

pub refill-requires : goal.refill-requires
refill-requires c = let t = top_is c.args.scratch.now c.args.s c.requires c.if-c-eq0.false _ c.pair_at-top.ensures in omega arith

pub overflow_sub-result : goal.overflow_sub-result
overflow_sub-result c = let t = top_is c.args.scratch.now c.args.s c.requires c.if-c-eq0.false _ c.pair_at-top.ensures in omega arith

pub returns-clause-state_after : goal.returns-clause-state_after
returns-clause-state_after c = (restore_ok c.args.scratch.now c.args.s c.requires c.if-c-eq0.false _ c.pair_at-top.ensures _ c.refill.ensures).0

pub returns-clause-outside_stack : goal.returns-clause-outside_stack
returns-clause-outside_stack c = (restore_ok c.args.scratch.now c.args.s c.requires c.if-c-eq0.false _ c.pair_at-top.ensures _ c.refill.ensures).1
