-- The evaluation of the root from the first state, and its end.
use mathlib.Core.Path.{refl, sym}
use Rattle.engine.proofs.Steps.{told}
use Rattle.engine.proofs.RunLaws.{ready, line_of_root, ran_is, concludable, run_is}
use Rattle.engine.proofs.state.started.Goals as goal

pub invariant_of-setting : goal.invariant_of-setting
invariant_of-setting c =
    let r = ready _ c.requires c.args.scratch.now refl _ c.capacity_of-room.ensures _ (c.new-state.ensures c.args.tokens.now c.args.scratch.now) in
    record { accepted = (r.fitting, r.moving) }

pub packed_node-r-requires-clause-ready : goal.packed_node-r-requires-clause-ready
packed_node-r-requires-clause-ready c = ready _ c.requires _ refl _ c.capacity_of-room.ensures _ (c.new-state.ensures _ _)

pub packed_node-r-requires-clause-line : goal.packed_node-r-requires-clause-line
packed_node-r-requires-clause-line c = line_of_root _ c.requires

pub conclude-requires : goal.conclude-requires
conclude-requires c =
    let ended = told _ _ _ c.packed_node-r.ensures (sym c.unpacked.ensures) in
    let ran = ran_is _ c.requires _ c.capacity_of-room.ensures _ (c.new-state.ensures _ _) _ ended in
    concludable _ c.requires c.packed_node-r.new.tokens c.packed_node-r.new.scratch c.packed_node-r.auto.tokens (sym c.packed_node-r.auto.scratch)
    c.packed_node-r.new.s c.unpacked.result ran

pub returns : goal.returns
returns c =
    let ended = told _ _ _ c.packed_node-r.ensures (sym c.unpacked.ensures) in
    let ran = ran_is _ c.requires _ c.capacity_of-room.ensures _ (c.new-state.ensures _ _) _ ended in
    run_is _ c.requires c.packed_node-r.new.tokens c.packed_node-r.new.scratch c.packed_node-r.auto.tokens (sym c.packed_node-r.auto.scratch)
    _ c.packed_node-r.new.s c.unpacked.result ran c.conclude.ensures refl
