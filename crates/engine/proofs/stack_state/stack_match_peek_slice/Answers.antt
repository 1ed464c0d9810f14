-- Either index outside, an empty slice, or the slice matched: one law of StateSteps for each.
use mathlib.Core.Path.{refl, ap, ◌∙◌}
use lib.IntN.{ℤ}
use Rattle.reading.specs.Reading.{index_in, end_in}
use Rattle.checks.proofs.FieldLaws.{back}
use Rattle.engine.proofs.StateSteps.{end_of, start_out, end_out, slice_empty, slice_moved}
use Rattle.engine.proofs.stack_state.stack_match_peek_slice.Goals as goal

pub returns-in_default : goal.returns-in_default
returns-in_default c =
    let first = c.normalize_index.ensures ∙ ap (λ (z : ℤ). index_in c.args.s.now.stack.height z) (back _ c.ranges.a) in
    start_out c.args.text.now c.args.scratch.now c.args.a c.args.b c.args.c c.args.s.now _ refl first c.in_default.is

pub returns-in_default-normalize_end : goal.returns-in_default-normalize_end
returns-in_default-normalize_end c =
    let first = c.normalize_index.ensures ∙ ap (λ (z : ℤ). index_in c.args.s.now.stack.height z) (back _ c.ranges.a) in
    let last = c.normalize_end.ensures ∙ ap (λ (z : ℤ). end_in c.args.s.now.stack.height (end_of c.args.c z)) (back _ c.ranges.b) in
    end_out c.args.text.now c.args.scratch.now c.args.a c.args.b c.args.c c.args.s.now _ refl first c.in-Some.is last c.in_default-normalize_end.is

pub returns-then-end-start : goal.returns-then-end-start
returns-then-end-start c =
    let first = c.normalize_index.ensures ∙ ap (λ (z : ℤ). index_in c.args.s.now.stack.height z) (back _ c.ranges.a) in
    let last = c.normalize_end.ensures ∙ ap (λ (z : ℤ). end_in c.args.s.now.stack.height (end_of c.args.c z)) (back _ c.ranges.b) in
    slice_empty c.args.text.now c.args.scratch.now c.args.a c.args.b c.args.c c.args.s.now _ refl first c.in-Some.is last c.in-Some-normalize_end.is
    c.if-end-start.true

pub returns : goal.returns
returns c =
    let first = c.normalize_index.ensures ∙ ap (λ (z : ℤ). index_in c.args.s.now.stack.height z) (back _ c.ranges.a) in
    let last = c.normalize_end.ensures ∙ ap (λ (z : ℤ). end_in c.args.s.now.stack.height (end_of c.args.c z)) (back _ c.ranges.b) in
    slice_moved c.args.text.now c.args.scratch.now c.args.a c.args.b c.args.c c.args.s.now _ refl first c.in-Some.is last c.in-Some-normalize_end.is
    c.if-end-start.false _ c.is_top_down-down.ensures refl _ c.match_slice.ensures _ c.moved.result c.moved.ensures
