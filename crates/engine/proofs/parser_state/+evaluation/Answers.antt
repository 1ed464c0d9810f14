use Prim.Native.Nat.{◌-◌}
use mathlib.Core.Path.{refl, ap, sym, ◌∙◌}
use mathlib.Core.Bool.{not}
use native.Mathlib.Omega.{arith}
use Rattle.reading.specs.declared.parser_state.Lookahead.{Lookahead}
use Rattle.reading.specs.Pest as Pest
use Rattle.engine.specs.Fields.{set_position, set_lookahead}
use Rattle.engine.specs.Areas.{view, view_end}
use Rattle.engine.proofs.Climbs.{goes_yes, goes_no, goes_fork}
use Rattle.engine.proofs.LeafSteps.{answers, at_done, at_fork, no_higher}
use Rattle.engine.proofs.LetIn.{rule_at, sequence_at, repeat_at, optional_at, lookahead_at, atomic_at, push_at, restore_at, on_tree, let_in}
use Rattle.engine.proofs.LetIn.{shut_out, calls, less, marked, setting}
use Rattle.engine.proofs.LineSteps.{whole, fork_at, at_8, moves_10, rule_line, rule_runs}
use Rattle.engine.proofs.Steps.{tests, told, refused_test, passed_test, ready_atom, ready_looking, ready_marked, mark_of, few_of}
use Rattle.engine.proofs.Steps.{recording_of, begun, place_of, held, placed, marked_queue}
use Rattle.engine.proofs.Steps.{atomic_refused, lookahead_refused, optional_refused, restore_refused, rule_refused, sequence_refused}
use Rattle.engine.proofs.Steps.{push_refused}
use Rattle.engine.proofs.Steps.{atomic_step, lookahead_step, optional_step, restore_step, rule_step, rule_err, rule_stop, sequence_step}
use Rattle.engine.proofs.Steps.{push_step, body_ready, body_push, body_rule}
use Rattle.engine.proofs.Turns.{first_turn, turned, next_turn, repeat_err, repeat_stop, repeat_refused}
use Rattle.engine.proofs.Walks.{slopes, low_line, low_upto, forks_below, line_whole, first_climb, go_ready, climb_in, climb_line, climb_go}
use Rattle.engine.proofs.Walks.{climb_stay, climbed, top_in, top_stay, top_go}
use Rattle.engine.proofs.parser_state.+evaluation.Goals.{left_side-then-goes_right, left_side-else-goes_right}
use Rattle.engine.proofs.parser_state.+evaluation.Goals as goal

-- ── atomic ──
-- An open entry, the body under the line's atomicity, and the one before it again: put together by `atomic_step`.

pub atomic-returns-in_default : goal.atomic-returns-in_default
atomic-returns-in_default t c =
    on_tree (atomic_at c.args.g.now c.requires.ready c.line_at-n.ensures c.requires.line refl)
    (atomic_refused _ _ _ _ _ _ (shut_out c.args.tokens.now c.args.scratch.now c.enter.ensures c.in_default.is))

pub atomic-node-r-requires : goal.atomic-node-r-requires
atomic-node-r-requires t c =
    let o = let_in (atomic_at c.args.g.now c.requires.ready c.line_at-n.ensures c.requires.line c.atomicity_of-s.ensures) c.enter.ensures
    c.in-Some.is in
    calls o c.decreases (ready_atom _ _ _ _ (less o) c.atomicity_of-s.result)

pub atomic-returns : goal.atomic-returns
atomic-returns t c =
    let o = let_in (atomic_at c.args.g.now c.requires.ready c.line_at-n.ensures c.requires.line c.atomicity_of-s.ensures) c.enter.ensures
    c.in-Some.is in
    on_tree o.over
    (atomic_step _ _ _ _ _ _ o.entry (ready_atom _ _ _ _ (less o) _) c.node-r.ensures refl
    (c.atomic_end.ensures c.node-r.new.tokens c.node-r.new.scratch))

-- ── left_side ──
-- Down to the leftmost line, and up again line by line: each comes to what its own evaluation comes to (Walks, Climbs).

pub left_side-descend-low-requires : goal.left_side-descend-low-requires
left_side-descend-low-requires t c = slopes _ _ _ _ _ c.requires.ready c.requires.line

pub left_side-simple-e-requires : goal.left_side-simple-e-requires
left_side-simple-e-requires t c = (
  omega (arith, c.decreases, low_upto _ _ _ _ _ c.requires.ready c.requires.line c.descend-low.ensures),
  (c.requires.ready, (low_line _ _ _ _ _ c.requires.ready c.requires.line c.descend-low.ensures, c.descend-low.ensures.last)),
)

pub left_side-loop-k-init : goal.left_side-loop-k-init
left_side-loop-k-init t c = (
  c.descend-low.result.count,
  refl,
  first_climb _ _ _ _ _ c.requires.ready c.requires.line c.descend-low.ensures c.simple-e.ensures,
)

pub left_side-spine_at-l-requires : goal.left_side-spine_at-l-requires
left_side-spine_at-l-requires t c = (
  slopes _ _ _ _ _ c.requires.ready c.requires.line,
  forks_below _ _ _ _ _ c.requires.ready c.requires.line c.descend-low.ensures _ (omega (arith, c.loop-k.invariant.1, c.loop-k.invariant.2.upto)),
)

pub left_side-line_at-n-requires : goal.left_side-line_at-n-requires
left_side-line_at-n-requires t c =
    line_whole _ _ _ _ _ c.requires.ready c.requires.line c.descend-low.ensures _ (omega (arith, c.loop-k.invariant.1, c.loop-k.invariant.2.upto))
    c.spine_at-l.ensures

pub left_side-node-e-requires : goal.left_side-node-e-requires
left_side-node-e-requires t c =
    let lower =
    climb_in _ _ _ _ _ c.requires.ready c.requires.line c.descend-low.ensures c.simple-e.auto.tokens c.simple-e.auto.scratch c.loop-k.invariant.2
    (c.descend-low.result.count - c.loop-k.k) (omega (arith, c.loop-k.invariant.1)) (omega arith) c.spine_at-l.ensures c.line_at-n.ensures in
    let ready =
    go_ready _ _ _ _ _ c.requires.ready c.requires.line c.descend-low.ensures c.simple-e.auto.tokens c.simple-e.auto.scratch c.loop-k.invariant.2
    _ (goes_yes _ _ _ _ _ (sym c.goes_right.ensures ∙ c.if-goes_right.true)) in
    let line =
    climb_line _ _ _ _ _ c.requires.ready c.requires.line c.descend-low.ensures c.simple-e.auto.tokens c.simple-e.auto.scratch c.loop-k.invariant.2
    (c.descend-low.result.count - c.loop-k.k) (omega (arith, c.loop-k.invariant.1)) (omega arith) c.spine_at-l.ensures c.line_at-n.ensures in
    (omega (arith, c.decreases, lower.1), (ready, line))

pub left_side-loop-k-preserved : goal.left_side-loop-k-preserved
left_side-loop-k-preserved t c =
    elim c.if-goes_right.branch [
      | left_side-then-goes_right w ↦ rw (w.tokens-is, w.scratch-is, w.s-is, w.e-is) (
        c.descend-low.result.count - c.loop-k.k,
        omega arith,
        climb_go _ _ _ _ _ c.requires.ready c.requires.line c.descend-low.ensures c.simple-e.auto.tokens c.simple-e.auto.scratch c.loop-k.invariant.2
            (c.descend-low.result.count - c.loop-k.k) (omega (arith, c.loop-k.invariant.1)) (omega arith) c.spine_at-l.ensures c.line_at-n.ensures
            (goes_yes _ _ _ _ _ (sym c.goes_right.ensures ∙ w.if-goes_right.true)) w.node-e.ensures w.node-e.auto.tokens w.node-e.auto.scratch,
      )
      | left_side-else-goes_right w ↦ rw (w.tokens-is, w.scratch-is, w.s-is, w.e-is) (
        c.descend-low.result.count - c.loop-k.k,
        omega arith,
        climb_stay _ _ _ _ _ c.requires.ready c.requires.line c.descend-low.ensures c.simple-e.auto.tokens c.simple-e.auto.scratch
            c.loop-k.invariant.2
            (c.descend-low.result.count - c.loop-k.k) (omega (arith, c.loop-k.invariant.1)) (omega arith) c.spine_at-l.ensures c.line_at-n.ensures
            (goes_no _ _ _ _ _ (sym c.goes_right.ensures ∙ w.if-goes_right.false)),
      )
    ]

pub left_side-returns : goal.left_side-returns
left_side-returns t c =
    climbed _ _ _ _ _ c.requires.ready c.requires.line c.descend-low.ensures c.simple-e.auto.tokens c.simple-e.auto.scratch c.loop-k.invariant.2
    (omega (arith, c.loop-k.invariant.1)) c.simple-e.ensures

-- ── lookahead ──
-- An open entry, a checkpoint of the state that looks ahead, the body, `lookahead_end`: put together by `lookahead_step`.

pub lookahead-returns-in_default : goal.lookahead-returns-in_default
lookahead-returns-in_default t c =
    on_tree (lookahead_at c.args.g.now c.requires.ready c.line_at-n.ensures c.requires.line)
    (lookahead_refused _ _ _ _ _ _ (shut_out c.args.tokens.now c.args.scratch.now c.enter.ensures c.in_default.is))

pub lookahead-checkpoint-requires : goal.lookahead-checkpoint-requires
lookahead-checkpoint-requires t c =
    let o = let_in (lookahead_at c.args.g.now c.requires.ready c.line_at-n.ensures c.requires.line) c.enter.ensures c.in-Some.is in
    let looking = ready_looking _ _ _ _ o.ready c.lookahead_in-s.result in
    mark_of _ _ _ _ (set_lookahead c.lookahead_in-s.result c.enter.new.s) looking o.entry

pub lookahead-node-r-requires : goal.lookahead-node-r-requires
lookahead-node-r-requires t c =
    let o = let_in (lookahead_at c.args.g.now c.requires.ready c.line_at-n.ensures c.requires.line) c.enter.ensures c.in-Some.is in
    let looking = ready_looking _ _ _ _ o.ready c.lookahead_in-s.result in
    calls o c.decreases (ready_marked _ _ _ _ looking o.entry.next (c.checkpoint.ensures.state_after c.args.tokens.now) c.checkpoint.auto.scratch)

pub lookahead-lookahead_end-requires : goal.lookahead-lookahead_end-requires
lookahead-lookahead_end-requires t c =
    let o = let_in (lookahead_at c.args.g.now c.requires.ready c.line_at-n.ensures c.requires.line) c.enter.ensures c.in-Some.is in
    let looking = ready_looking _ _ _ _ o.ready c.lookahead_in-s.result in
    let marked = ready_marked _ _ _ _ looking o.entry.next (c.checkpoint.ensures.state_after c.args.tokens.now) c.checkpoint.auto.scratch in
    body_ready _ _ _ _ _ marked
    c.node-r.new.tokens c.node-r.new.scratch c.node-r.auto.scratch c.node-r.new.s c.node-r.result c.node-r.ensures (omega arith)

pub lookahead-returns : goal.lookahead-returns
lookahead-returns t c =
    let o = let_in (lookahead_at c.args.g.now c.requires.ready c.line_at-n.ensures c.requires.line) c.enter.ensures c.in-Some.is in
    let looking = λ (l : Lookahead). Pest.checkpoint (Pest.set_lookahead l (view c.args.tokens.now c.args.scratch.now c.enter.new.s)) in
    on_tree o.over
    (lookahead_step _ _ _ _ _ _ o.entry refl (c.checkpoint.ensures.state_after c.args.tokens.now ∙ ap looking c.lookahead_in-s.ensures)
    c.node-r.ensures (placed refl) (c.lookahead_end.ensures c.node-r.new.tokens))

-- ── optional ──
-- An open entry, the body, `optional_end`: put together by `optional_step`.

pub optional-returns-in_default : goal.optional-returns-in_default
optional-returns-in_default t c =
    on_tree (optional_at c.args.g.now c.requires.ready c.line_at-n.ensures c.requires.line)
    (optional_refused _ _ _ _ _ (shut_out c.args.tokens.now c.args.scratch.now c.enter.ensures c.in_default.is))

pub optional-node-r-requires : goal.optional-node-r-requires
optional-node-r-requires t c =
    let o = let_in (optional_at c.args.g.now c.requires.ready c.line_at-n.ensures c.requires.line) c.enter.ensures c.in-Some.is in
    calls o c.decreases (less o)

pub optional-returns : goal.optional-returns
optional-returns t c =
    let o = let_in (optional_at c.args.g.now c.requires.ready c.line_at-n.ensures c.requires.line) c.enter.ensures c.in-Some.is in
    on_tree o.over (optional_step _ _ _ _ _ o.entry c.node-r.ensures (c.optional_end.ensures c.node-r.new.tokens c.node-r.new.scratch))

-- ── packed_node ──
-- Each turn goes over leaves, and then over one fork to its right side; what is left to evaluate is what was to evaluate (Walks).
-- The ending goes out as its number.

pub packed_node-returns-in-Done : goal.packed_node-returns-in-Done
packed_node-returns-in-Done t c =
    let s = set_position c.walk-halt.result.0 c.loop-good.s in
    ap (view_end c.loop-good.tokens c.loop-good.scratch s) (c.packed.ensures.back ∙ c.ended.ensures)
    ∙ answers c.loop-good.tokens c.loop-good.scratch s c.in-Done.good
    ∙ at_done c.args.g.now c.args.depth c.loop-good.at _ _ (c.walk-halt.ensures _ _ c.loop-good.invariant.ready.fit refl) _ c.in-Done.is
    ∙ c.loop-good.invariant.runs

pub packed_node-line_at-n-requires : goal.packed_node-line_at-n-requires
packed_node-line_at-n-requires t c =
    let w = c.loop-good.invariant in
    let on = at_fork c.args.g.now c.args.depth c.loop-good.at _ _ (c.walk-halt.ensures _ _ w.ready.fit refl) _ c.in-At.is w in
    whole _ _ (tests _ _ _ _ c.requires.ready) _ on.here

pub packed_node-left_side-e-requires : goal.packed_node-left_side-e-requires
packed_node-left_side-e-requires t c =
    let w = c.loop-good.invariant in
    let on = at_fork c.args.g.now c.args.depth c.loop-good.at _ _ (c.walk-halt.ensures _ _ w.ready.fit refl) _ c.in-At.is w in
    (omega (arith, c.decreases, on.upto), (on.ready, on.here))

pub packed_node-returns-then-not-goes_right : goal.packed_node-returns-then-not-goes_right
packed_node-returns-then-not-goes_right t c =
    let w = c.loop-good.invariant in
    let on = at_fork c.args.g.now c.args.depth c.loop-good.at _ _ (c.walk-halt.ensures _ _ w.ready.fit refl) _ c.in-At.is w in
    let stays = refused_test c.goes_right.result (ap not c.if-not-goes_right.true) in
    let top = top_stay _ _ _ _ _ on.ready on.here c.left_side-e.ensures c.line_at-n.ensures (goes_no _ _ _ _ _ (sym c.goes_right.ensures ∙ stays)) in
    told _ _ _ (top ∙ on.runs) (sym c.packed-then-not-goes_right.ensures.back)

pub packed_node-loop-good-smaller : goal.packed_node-loop-good-smaller
packed_node-loop-good-smaller t c =
    let w = c.loop-good.invariant in
    let on = at_fork c.args.g.now c.args.depth c.loop-good.at _ _ (c.walk-halt.ensures _ _ w.ready.fit refl) _ c.in-At.is w in
    let goes = sym c.goes_right.ensures ∙ passed_test c.goes_right.result (ap not c.if-not-goes_right.false) in
    let is_fork = fork_at _ _ _ c.line_at-n.ensures (goes_fork _ _ goes) in
    let lower = (top_in _ _ _ _ _ on.ready on.here is_fork c.left_side-e.ensures c.line_at-n.ensures).1 in
    omega (
      arith,
      lower,
      no_higher c.args.g.now c.args.depth c.loop-good.at (view c.loop-good.tokens c.loop-good.scratch c.loop-good.s) _
          (c.walk-halt.ensures _ _ w.ready.fit refl) _ c.in-At.is,
    )

pub packed_node-loop-good-preserved : goal.packed_node-loop-good-preserved
packed_node-loop-good-preserved t c =
    let w = c.loop-good.invariant in
    let on = at_fork c.args.g.now c.args.depth c.loop-good.at _ _ (c.walk-halt.ensures _ _ w.ready.fit refl) _ c.in-At.is w in
    let goes = sym c.goes_right.ensures ∙ passed_test c.goes_right.result (ap not c.if-not-goes_right.false) in
    let is_fork = fork_at _ _ _ c.line_at-n.ensures (goes_fork _ _ goes) in
    top_go _ _ _ _ _ on.ready on.here is_fork c.left_side-e.ensures c.line_at-n.ensures c.left_side-e.auto.tokens c.left_side-e.auto.scratch on
    (goes_yes _ _ _ _ _ goes)

-- ── repeat ──
-- Each turn is the body once more: what is left to run is what was to run (Turns). The body moves on Ok, so that the turns end.

pub repeat-returns-in_default : goal.repeat-returns-in_default
repeat-returns-in_default t c =
    on_tree (repeat_at c.args.g.now c.requires.ready c.line_at-n.ensures c.requires.line)
    (repeat_refused _ _ _ _ _ (shut_out c.args.tokens.now c.args.scratch.now c.enter.ensures c.in_default.is))

pub repeat-loop-s-init : goal.repeat-loop-s-init
repeat-loop-s-init t c =
    let o = let_in (repeat_at c.args.g.now c.requires.ready c.line_at-n.ensures c.requires.line) c.enter.ensures c.in-Some.is in
    first_turn _ _ _ _ _ _ (less o)

pub repeat-node-requires : goal.repeat-node-requires
repeat-node-requires t c =
    let o = let_in (repeat_at c.args.g.now c.requires.ready c.line_at-n.ensures c.requires.line) c.enter.ensures c.in-Some.is in
    calls o c.decreases c.loop-s.invariant.ready

pub repeat-loop-s-smaller : goal.repeat-loop-s-smaller
repeat-loop-s-smaller t c =
    let o = let_in (repeat_at c.args.g.now c.requires.ready c.line_at-n.ensures c.requires.line) c.enter.ensures c.in-Some.is in
    let moves = moves_10 _ _ (tests _ _ _ _ c.requires.ready) _ c.requires.line.0 _ c.line_at-n.ensures c.requires.line.1 in
    let w = turned _ _ _ _ _ _ c.loop-s.invariant.ready o.over.here moves (told _ _ _ c.node.ensures c.in-Ok.is) in
    omega (arith, w.0, w.1)

pub repeat-loop-s-preserved : goal.repeat-loop-s-preserved
repeat-loop-s-preserved t c =
    let o = let_in (repeat_at c.args.g.now c.requires.ready c.line_at-n.ensures c.requires.line) c.enter.ensures c.in-Some.is in
    let moves = moves_10 _ _ (tests _ _ _ _ c.requires.ready) _ c.requires.line.0 _ c.line_at-n.ensures c.requires.line.1 in
    next_turn _ _ _ _ _ _ c.loop-s.invariant o.over.here moves (told _ _ _ c.node.ensures c.in-Ok.is) c.node.auto.tokens c.node.auto.scratch

pub repeat-returns-in-Err : goal.repeat-returns-in-Err
repeat-returns-in-Err t c =
    let o = let_in (repeat_at c.args.g.now c.requires.ready c.line_at-n.ensures c.requires.line) c.enter.ensures c.in-Some.is in
    on_tree o.over
    (repeat_err _ _ _ _ _ _ c.loop-s.invariant o.entry (told _ _ _ c.node.ensures c.in-Err.is)
    (c.forgiven.ensures c.node.new.tokens c.node.new.scratch))

pub repeat-returns-in-Stop : goal.repeat-returns-in-Stop
repeat-returns-in-Stop t c =
    let o = let_in (repeat_at c.args.g.now c.requires.ready c.line_at-n.ensures c.requires.line) c.enter.ensures c.in-Some.is in
    on_tree o.over (repeat_stop _ _ _ _ _ _ c.loop-s.invariant o.entry (told _ _ _ c.node.ensures c.in-Stop.is))

-- ── restore_on_err ──
-- An open entry, which is not counted, a checkpoint, the body, `restore_on_err_end`: put together by `restore_step`.

pub restore_on_err-returns-in_default : goal.restore_on_err-returns-in_default
restore_on_err-returns-in_default t c =
    on_tree (restore_at c.args.g.now c.requires.ready c.line_at-n.ensures c.requires.line)
    (restore_refused _ _ _ _ _ (shut_out c.args.tokens.now c.args.scratch.now c.enter.ensures c.in_default.is))

pub restore_on_err-checkpoint-requires : goal.restore_on_err-checkpoint-requires
restore_on_err-checkpoint-requires t c =
    let o = let_in (restore_at c.args.g.now c.requires.ready c.line_at-n.ensures c.requires.line) c.enter.ensures c.in-Some.is in
    mark_of _ _ _ _ c.enter.new.s o.ready o.entry

pub restore_on_err-node-r-requires : goal.restore_on_err-node-r-requires
restore_on_err-node-r-requires t c =
    let o = let_in (restore_at c.args.g.now c.requires.ready c.line_at-n.ensures c.requires.line) c.enter.ensures c.in-Some.is in
    calls o c.decreases (marked o c.checkpoint.new.s (c.checkpoint.ensures.state_after c.args.tokens.now) c.checkpoint.auto.scratch)

pub restore_on_err-restore_on_err_end-requires : goal.restore_on_err-restore_on_err_end-requires
restore_on_err-restore_on_err_end-requires t c =
    let o = let_in (restore_at c.args.g.now c.requires.ready c.line_at-n.ensures c.requires.line) c.enter.ensures c.in-Some.is in
    body_ready _ _ _ _ _ (marked o c.checkpoint.new.s (c.checkpoint.ensures.state_after c.args.tokens.now) c.checkpoint.auto.scratch)
    c.node-r.new.tokens c.node-r.new.scratch c.node-r.auto.scratch c.node-r.new.s c.node-r.result c.node-r.ensures (omega arith)

pub restore_on_err-returns : goal.restore_on_err-returns
restore_on_err-returns t c =
    let o = let_in (restore_at c.args.g.now c.requires.ready c.line_at-n.ensures c.requires.line) c.enter.ensures c.in-Some.is in
    on_tree o.over
    (restore_step _ _ _ _ _ o.entry (c.checkpoint.ensures.state_after c.args.tokens.now) c.node-r.ensures
    (c.restore_on_err_end.ensures c.node-r.new.tokens))

-- ── rule ──
-- An open entry, the rule's Start, the body, `rule_end` from what was noted before: put together by `rule_step`.

pub rule-returns-in_default : goal.rule-returns-in_default
rule-returns-in_default t c =
    on_tree (rule_at c.args.g.now c.requires.ready c.line_at-n.ensures c.requires.line)
    (rule_refused _ _ _ _ _ _ _ (shut_out c.args.tokens.now c.args.scratch.now c.enter.ensures c.in_default.is))

pub rule-note-requires : goal.rule-note-requires
rule-note-requires t c =
    let o = let_in (rule_at c.args.g.now c.requires.ready c.line_at-n.ensures c.requires.line) c.enter.ensures c.in-Some.is in
    few_of _ _ _ _ c.enter.new.s o.ready

pub rule-start_rule-requires : goal.rule-start_rule-requires
rule-start_rule-requires t c =
    let o = let_in (rule_at c.args.g.now c.requires.ready c.line_at-n.ensures c.requires.line) c.enter.ensures c.in-Some.is in
    recording_of _ _ _ _ c.enter.new.s o.ready

pub rule-node-r-requires : goal.rule-node-r-requires
rule-node-r-requires t c =
    let o = let_in (rule_at c.args.g.now c.requires.ready c.line_at-n.ensures c.requires.line) c.enter.ensures c.in-Some.is in
    let begins = told _ _ _ (c.start_rule.ensures.state_after (setting c.args.g.now) c.args.scratch.now refl) c.in-Ok.is in
    calls o c.decreases (begun _ _ _ _ o.entry.next o.ready _ begins c.start_rule.auto.tokens)

pub rule-overflow_cast-begun-2 : goal.rule-overflow_cast-begun-2
rule-overflow_cast-begun-2 t c =
    let h = (at_8 _ _ (tests _ _ _ _ c.requires.ready) _ c.requires.line.0 _ c.line_at-n.ensures c.requires.line.1).1 in
    omega arith

pub rule-rule_end-requires : goal.rule-rule_end-requires
rule-rule_end-requires t c =
    let o = let_in (rule_at c.args.g.now c.requires.ready c.line_at-n.ensures c.requires.line) c.enter.ensures c.in-Some.is in
    let begins = told _ _ _ (c.start_rule.ensures.state_after (setting c.args.g.now) c.args.scratch.now refl) c.in-Ok.is in
    body_rule _ _ _ _ _ (begun _ _ _ _ o.entry.next o.ready _ begins c.start_rule.auto.tokens)
    c.node-r.new.tokens c.node-r.new.scratch c.node-r.auto.scratch c.node-r.new.s c.node-r.result c.node-r.ensures c.node-r.auto.tokens
    (place_of _ _ _ _ c.enter.new.s o.ready)

pub rule-returns-in-Ok : goal.rule-returns-in-Ok
rule-returns-in-Ok t c =
    let o = let_in (rule_at c.args.g.now c.requires.ready c.line_at-n.ensures c.requires.line) c.enter.ensures c.in-Some.is in
    let begins = told _ _ _ (c.start_rule.ensures.state_after (setting c.args.g.now) c.args.scratch.now refl) c.in-Ok.is in
    on_tree o.over
    (rule_step _ _ _ _ _ _ _ o.entry begins c.node-r.ensures (held _ refl) (placed refl)
    (c.note.ensures c.args.scratch.now) (c.rule_end.ensures (setting c.args.g.now) refl))

pub rule-returns-in-Err : goal.rule-returns-in-Err
rule-returns-in-Err t c =
    let o = let_in (rule_at c.args.g.now c.requires.ready c.line_at-n.ensures c.requires.line) c.enter.ensures c.in-Some.is in
    on_tree o.over
    (rule_err _ _ _ _ _ _ _ o.entry (told _ _ _ (c.start_rule.ensures.state_after (setting c.args.g.now) c.args.scratch.now refl) c.in-Err.is))

pub rule-returns-in-Stop : goal.rule-returns-in-Stop
rule-returns-in-Stop t c =
    let o = let_in (rule_at c.args.g.now c.requires.ready c.line_at-n.ensures c.requires.line) c.enter.ensures c.in-Some.is in
    on_tree o.over
    (rule_stop _ _ _ _ _ _ _ o.entry (told _ _ _ (c.start_rule.ensures.state_after (setting c.args.g.now) c.args.scratch.now refl) c.in-Stop.is))

-- ── sequence ──
-- An open entry, a checkpoint, the body, `sequence_end`: each one's equation, put together by `sequence_step`.

pub sequence-returns-in_default : goal.sequence-returns-in_default
sequence-returns-in_default t c =
    on_tree (sequence_at c.args.g.now c.requires.ready c.line_at-n.ensures c.requires.line)
    (sequence_refused _ _ _ _ _ (shut_out c.args.tokens.now c.args.scratch.now c.enter.ensures c.in_default.is))

pub sequence-checkpoint-requires : goal.sequence-checkpoint-requires
sequence-checkpoint-requires t c =
    let o = let_in (sequence_at c.args.g.now c.requires.ready c.line_at-n.ensures c.requires.line) c.enter.ensures c.in-Some.is in
    mark_of _ _ _ _ c.enter.new.s o.ready o.entry

pub sequence-node-r-requires : goal.sequence-node-r-requires
sequence-node-r-requires t c =
    let o = let_in (sequence_at c.args.g.now c.requires.ready c.line_at-n.ensures c.requires.line) c.enter.ensures c.in-Some.is in
    calls o c.decreases (marked o c.checkpoint.new.s (c.checkpoint.ensures.state_after c.args.tokens.now) c.checkpoint.auto.scratch)

pub sequence-sequence_end-requires : goal.sequence-sequence_end-requires
sequence-sequence_end-requires t c =
    let o = let_in (sequence_at c.args.g.now c.requires.ready c.line_at-n.ensures c.requires.line) c.enter.ensures c.in-Some.is in
    body_ready _ _ _ _ _ (marked o c.checkpoint.new.s (c.checkpoint.ensures.state_after c.args.tokens.now) c.checkpoint.auto.scratch)
    c.node-r.new.tokens c.node-r.new.scratch c.node-r.auto.scratch c.node-r.new.s c.node-r.result c.node-r.ensures
    (marked_queue c.args.tokens.now _ _ c.enter.new.s c.checkpoint.new.s (c.checkpoint.ensures.state_after c.args.tokens.now))

pub sequence-returns : goal.sequence-returns
sequence-returns t c =
    let o = let_in (sequence_at c.args.g.now c.requires.ready c.line_at-n.ensures c.requires.line) c.enter.ensures c.in-Some.is in
    on_tree o.over
    (sequence_step _ _ _ _ _ o.entry (c.checkpoint.ensures.state_after c.args.tokens.now) c.node-r.ensures (held _ refl) (placed refl)
    (c.sequence_end.ensures c.node-r.new.tokens))

-- ── simple ──
-- Each kind's function answers for its line; a call is evaluated as the rule that it names.

pub simple-rule-requires : goal.simple-rule-requires
simple-rule-requires t c =
    let line = rule_line _ _ (tests _ _ _ _ c.requires.ready) _ c.requires.line.0 _ c.line_at-n.ensures c.in-8.is _ c.rule_line-at.ensures in
    (omega (arith, c.decreases), (c.requires.ready, line))

pub simple-returns-in-8 : goal.simple-returns-in-8
simple-returns-in-8 t c =
    rule_runs _ _ (tests _ _ _ _ c.requires.ready) _ c.requires.line.0 _ c.line_at-n.ensures c.in-8.is _ c.rule_line-at.ensures
    _ _ _ _ _ c.rule.ensures

-- ── stack_push ──
-- An open entry, the body, `push_end` from where the body began: put together by `push_step`.

pub stack_push-returns-in_default : goal.stack_push-returns-in_default
stack_push-returns-in_default t c =
    on_tree (push_at c.args.g.now c.requires.ready c.line_at-n.ensures c.requires.line)
    (push_refused _ _ _ _ _ _ (shut_out c.args.tokens.now c.args.scratch.now c.enter.ensures c.in_default.is))

pub stack_push-node-r-requires : goal.stack_push-node-r-requires
stack_push-node-r-requires t c =
    let o = let_in (push_at c.args.g.now c.requires.ready c.line_at-n.ensures c.requires.line) c.enter.ensures c.in-Some.is in
    calls o c.decreases (less o)

pub stack_push-push_end-requires : goal.stack_push-push_end-requires
stack_push-push_end-requires t c =
    let o = let_in (push_at c.args.g.now c.requires.ready c.line_at-n.ensures c.requires.line) c.enter.ensures c.in-Some.is in
    body_push _ _ _ _ _ (less o)
    c.node-r.new.tokens c.node-r.new.scratch c.node-r.auto.scratch c.node-r.new.s c.node-r.result c.node-r.ensures o.ready.fit.edge.inside

pub stack_push-returns : goal.stack_push-returns
stack_push-returns t c =
    let o = let_in (push_at c.args.g.now c.requires.ready c.line_at-n.ensures c.requires.line) c.enter.ensures c.in-Some.is in
    on_tree o.over
    (push_step _ _ _ _ _ _ o.entry c.node-r.ensures (placed refl) (c.push_end.ensures c.args.g.now.text.now c.node-r.new.tokens))
