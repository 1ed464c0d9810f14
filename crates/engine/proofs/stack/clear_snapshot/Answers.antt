-- What Sound says of the two innermost checkpoints (`top_is`, `outer_top`) bounds every difference; one law for each way out.
use mathlib.Core.Path.{◌≡◌}
use Prim.Native.Nat.{min}
use native.Mathlib.Omega.{arith}
use Rattle.std.proofs.lemmas.Grind.{common_steps}
use Rattle.engine.proofs.Moves.{drained_by}
use Rattle.engine.proofs.StackSteps.{top_is, outer_top, clear_none, clear_one, clear_more}
use Rattle.engine.proofs.stack.clear_snapshot.Goals as goal

pub returns-then-c-eq0-clause-state_after : goal.returns-then-c-eq0-clause-state_after
returns-then-c-eq0-clause-state_after c = (clear_none c.args.scratch.now c.args.s c.requires c.if-c-eq0.true).0

pub overflow_sub-n : goal.overflow_sub-n
overflow_sub-n c = let t = top_is c.args.scratch.now c.args.s c.requires c.if-c-eq0.false _ c.pair_at-tall.ensures in omega arith

pub overflow_sub-result : goal.overflow_sub-result
overflow_sub-result c = let t = top_is c.args.scratch.now c.args.s c.requires c.if-c-eq0.false _ c.pair_at-tall.ensures in omega arith

pub returns-then-c-eq1-clause-state_after : goal.returns-then-c-eq1-clause-state_after
returns-then-c-eq1-clause-state_after c = (clear_one c.args.scratch.now c.args.s c.requires c.if-c-eq0.false _ c.pair_at-tall.ensures
    c.if-c-eq1.true).0

pub overflow_sub-from : goal.overflow_sub-from
overflow_sub-from c =
    let t = top_is c.args.scratch.now c.args.s c.requires c.if-c-eq0.false _ c.pair_at-tall.ensures in
    let u = outer_top c.args.scratch.now c.args.s c.requires c.if-c-eq0.false _ c.pair_at-tall.ensures c.if-c-eq1.false _ c.pair_at-outer.ensures in
    omega arith

pub overflow_sub-to : goal.overflow_sub-to
overflow_sub-to c =
    let t = top_is c.args.scratch.now c.args.s c.requires c.if-c-eq0.false _ c.pair_at-tall.ensures in
    let u = outer_top c.args.scratch.now c.args.s c.requires c.if-c-eq0.false _ c.pair_at-tall.ensures c.if-c-eq1.false _ c.pair_at-outer.ensures in
    omega arith

pub copy_within-requires-clause-in_bounds : goal.copy_within-requires-clause-in_bounds
copy_within-requires-clause-in_bounds c =
    let t = top_is c.args.scratch.now c.args.s c.requires c.if-c-eq0.false _ c.pair_at-tall.ensures in
    let u = outer_top c.args.scratch.now c.args.s c.requires c.if-c-eq0.false _ c.pair_at-tall.ensures c.if-c-eq1.false _ c.pair_at-outer.ensures in
    omega arith

pub copy_within-requires-clause-dest_in_bounds : goal.copy_within-requires-clause-dest_in_bounds
copy_within-requires-clause-dest_in_bounds c =
    let t = top_is c.args.scratch.now c.args.s c.requires c.if-c-eq0.false _ c.pair_at-tall.ensures in
    let u = outer_top c.args.scratch.now c.args.s c.requires c.if-c-eq0.false _ c.pair_at-tall.ensures c.if-c-eq1.false _ c.pair_at-outer.ensures in
    omega arith

pub overflow_sub-result-2 : goal.overflow_sub-result-2
overflow_sub-result-2 c =
    let t = top_is c.args.scratch.now c.args.s c.requires c.if-c-eq0.false _ c.pair_at-tall.ensures in
    let u = outer_top c.args.scratch.now c.args.s c.requires c.if-c-eq0.false _ c.pair_at-tall.ensures c.if-c-eq1.false _ c.pair_at-outer.ensures in
    omega arith

pub returns : goal.returns
returns c =
    let low : c.min-lowest.result ≡ min c.pair_at-outer.result.1 c.pair_at-tall.result.1 = grind (arith, common_steps) in
    let all =
    clear_more c.args.scratch.now c.args.s c.requires c.if-c-eq0.false _ c.pair_at-tall.ensures c.if-c-eq1.false _ c.pair_at-outer.ensures _ _ _ _ low
    (omega arith) c.put_pair.ensures (drained_by _ _ _ _ _ _ (omega arith) c.copy_within.ensures.len c.copy_within.ensures.by_index) in
    record { state_after = all.0; outside_stack = all.1 }
