-- One law of StackSteps for each way out: nothing there, no checkpoint, above the lowest height, at it with room for the debt, at it without.
use native.Mathlib.Omega.{arith}
use Rattle.engine.proofs.StackSteps.{pop_empty, pop_free, pop_above, pop_at, pop_full}
use Rattle.engine.proofs.stack.pop.Goals as goal

pub returns-then-h-eq0-clause-state_after : goal.returns-then-h-eq0-clause-state_after
returns-then-h-eq0-clause-state_after c = (pop_empty c.args.scratch.now c.args.s c.requires c.if-h-eq0.true).0

pub returns-then-c-eq0-clause-state_after : goal.returns-then-c-eq0-clause-state_after
returns-then-c-eq0-clause-state_after c =
    (pop_free c.args.scratch.now c.args.s c.requires c.if-h-eq0.false _ c.pair_at-x.ensures _ c.span_of.ensures c.if-c-eq0.true).0

pub returns-then-top-h-clause-state_after : goal.returns-then-top-h-clause-state_after
returns-then-top-h-clause-state_after c =
    (pop_above c.args.scratch.now c.args.s c.requires c.if-h-eq0.false _ c.pair_at-x.ensures _ c.span_of-then-top-h.ensures
    c.if-c-eq0.false _ c.pair_at-top.ensures c.if-top-h.true).0

pub returns-clause-state_after : goal.returns-clause-state_after
returns-clause-state_after c =
    (pop_at c.args.scratch.now c.args.s c.requires c.if-h-eq0.false _ c.pair_at-x.ensures _ c.span_of-2.ensures c.if-c-eq0.false _
    c.pair_at-top.ensures
    _ _ c.if-top-h.false (omega arith) c.put_pair.ensures c.put_pair-2.ensures).0

pub returns-clause-outside_stack : goal.returns-clause-outside_stack
returns-clause-outside_stack c =
    (pop_at c.args.scratch.now c.args.s c.requires c.if-h-eq0.false _ c.pair_at-x.ensures _ c.span_of-2.ensures c.if-c-eq0.false _
    c.pair_at-top.ensures
    _ _ c.if-top-h.false (omega arith) c.put_pair.ensures c.put_pair-2.ensures).1

pub returns-then-p-eq-MOST_DEBT-clause-state_after : goal.returns-then-p-eq-MOST_DEBT-clause-state_after
returns-then-p-eq-MOST_DEBT-clause-state_after c =
    (pop_full c.args.scratch.now c.args.s c.requires c.if-h-eq0.false _ c.pair_at-x.ensures c.if-c-eq0.false _ c.pair_at-top.ensures c.if-top-h.false
    (omega arith)).0
