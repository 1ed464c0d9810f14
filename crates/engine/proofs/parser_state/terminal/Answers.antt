-- In each arm the kind is known; the leaf answers what the tree of that kind does.
use native.Mathlib.Omega.{arith}
use Rattle.checks.proofs.FieldLaws.{back}
use Rattle.engine.proofs.Steps.{state_of, place_of, tests}
use Rattle.engine.proofs.TerminalSteps.{tag_low, leaf_of, end_15, end_16, end_17, end_19}
use borrow.Author.Rules.{rules}
use Rattle.engine.proofs.parser_state.terminal.Goals as goal

pub stack_pop-requires : goal.stack_pop-requires
stack_pop-requires c = state_of _ _ _ _ c.args.s.now c.requires.ready

pub stack_match_peek_slice-requires : goal.stack_match_peek_slice-requires
stack_match_peek_slice-requires c = (state_of _ _ _ _ c.args.s.now c.requires.ready).stack

pub stack_match_pop-requires : goal.stack_match_pop-requires
stack_match_pop-requires c = state_of _ _ _ _ c.args.s.now c.requires.ready

pub overflow_cast-n : goal.overflow_cast-n
overflow_cast-n c =
    let h = tag_low _ _ (tests _ _ _ _ c.requires.ready) _ c.requires.line.0 _ c.line_at-n.ensures c.in-19.is in
    omega arith

pub tag_node-requires : goal.tag_node-requires
tag_node-requires c = omega (arith, place_of _ _ _ _ c.args.s.now c.requires.ready, c.requires.ready.area)

pub leaf-requires : goal.leaf-requires
leaf-requires c =
    let w = tests _ _ _ _ c.requires.ready in
    (c.requires.line.0, leaf_of _ _ w _ c.requires.line.0 _ c.line_at-n.ensures c.requires.line.1 c.requires.line.2 (search rules))

pub returns-in-15 : goal.returns-in-15
returns-in-15 c =
    end_15 _ _ _ _ _ (tests _ _ _ _ c.requires.ready) _ c.requires.line.0 _ c.line_at-n.ensures c.in-15.is
    _ _ (c.stack_pop.ensures.state_after c.args.tokens.now)

pub returns-in-16 : goal.returns-in-16
returns-in-16 c =
    end_16 _ _ _ _ _ (tests _ _ _ _ c.requires.ready) _ c.requires.line.0 _ c.line_at-n.ensures c.in-16.is
    c.ends_at-e.result c.ends_at-e.ensures _ _ (back c.ends_at-e.result.start (search rules)) (back c.ends_at-e.result.end (search rules))
    _ _ (c.stack_match_peek_slice.ensures c.args.tokens.now)

pub returns-in-17 : goal.returns-in-17
returns-in-17 c =
    end_17 _ _ _ _ _ (tests _ _ _ _ c.requires.ready) _ c.requires.line.0 _ c.line_at-n.ensures c.in-17.is
    _ _ (c.stack_match_pop.ensures.state_after c.args.tokens.now)

pub returns-in-19 : goal.returns-in-19
returns-in-19 c =
    end_19 _ _ _ _ _ (tests _ _ _ _ c.requires.ready) _ c.requires.line.0 _ c.line_at-n.ensures c.in-19.is
    _ _ (c.tag_node.ensures.state_after c.args.scratch.now)
