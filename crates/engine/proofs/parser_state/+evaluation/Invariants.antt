-- What falls from call to call: first the depth that is left, then the line. A call of `node`, `packed_node`, `left_side` or `simple` at one
-- line goes down in that order; the others are called at the line of `simple`, and each of them calls with less depth.
-- The loops: what has been climbed, walked or repeated so far, together with what is left, comes to what the whole comes to.
use Rattle.std.proofs.Common.{◌≡◌, ℕ, ◌+◌, ◌-◌, ◌*◌, length}
use Rattle.engine.specs.Areas.{view, view_end}
use Rattle.engine.proofs.Walks.{Climbing, Walking}
use Rattle.engine.proofs.Turns.{Turning}
use Rattle.engine.proofs.parser_state.+evaluation.Given as goal

abbrev pub decreases-node : goal.decreases-node
decreases-node l = l.depth * 8196 + l.line * 2 + 3

abbrev pub decreases-packed_node : goal.decreases-packed_node
decreases-packed_node l = l.depth * 8196 + l.line * 2 + 2

abbrev pub decreases-left_side : goal.decreases-left_side
decreases-left_side l = l.depth * 8196 + l.line * 2 + 1

abbrev pub decreases-simple : goal.decreases-simple
decreases-simple l = l.depth * 8196 + 1

abbrev pub decreases-rule : goal.decreases-rule
decreases-rule l = l.depth * 8196

abbrev pub decreases-sequence : goal.decreases-sequence
decreases-sequence l = l.depth * 8196

abbrev pub decreases-repeat : goal.decreases-repeat
decreases-repeat l = l.depth * 8196

abbrev pub decreases-optional : goal.decreases-optional
decreases-optional l = l.depth * 8196

abbrev pub decreases-lookahead : goal.decreases-lookahead
decreases-lookahead l = l.depth * 8196

abbrev pub decreases-atomic : goal.decreases-atomic
decreases-atomic l = l.depth * 8196

abbrev pub decreases-stack_push : goal.decreases-stack_push
decreases-stack_push l = l.depth * 8196

abbrev pub decreases-restore_on_err : goal.decreases-restore_on_err
decreases-restore_on_err l = l.depth * 8196

abbrev pub invariant-left_side-loop-k : goal.invariant-left_side-loop-k
invariant-left_side-loop-k l =
    (i : ℕ) × (i + l.k ≡ l.low.count + 1)
    × Climbing l.g.nodes.now l.g.literals.now l.g.text.now l.g.room l.depth l.line l.low.count l.initial.tokens l.initial.scratch
    (view_end l.initial.tokens l.initial.scratch l.initial.s l.initial.e) l.tokens l.scratch (view_end l.tokens l.scratch l.s l.e) i

abbrev pub invariant-packed_node-loop-good : goal.invariant-packed_node-loop-good
invariant-packed_node-loop-good l =
    Walking l.g.nodes.now l.g.literals.now l.g.text.now l.g.room l.depth l.line l.initial.tokens l.initial.scratch
    (view l.initial.tokens l.initial.scratch l.initial.s) l.tokens l.scratch l.at (view l.tokens l.scratch l.s)

abbrev pub decreases-packed_node-loop-good : goal.decreases-packed_node-loop-good
decreases-packed_node-loop-good l = l.at

abbrev pub invariant-repeat-loop-s : goal.invariant-repeat-loop-s
invariant-repeat-loop-s l =
    Turning l.g.nodes.now l.g.literals.now l.g.text.now l.g.room l.deeper l.n.a l.initial.tokens l.initial.scratch
    (view l.initial.tokens l.initial.scratch l.initial.s) l.tokens l.scratch (view l.tokens l.scratch l.s)

abbrev pub decreases-repeat-loop-s : goal.decreases-repeat-loop-s
decreases-repeat-loop-s l = length l.g.text.now - l.s.position.0
