-- Each turn goes one left side further down; the measure is the line.
use borrow.Author.Rules.{rules}
use mathlib.Core.Path.{ap}
use mathlib.Core.Bool.{not}
use Rattle.engine.proofs.Steps.{passed_test}
use Rattle.engine.proofs.Spines.{first_slide, slide_in, slide_whole, slide_less, next_slide}
use Rattle.engine.proofs.spine.descend.Goals as goal

pub loop-n-init : goal.loop-n-init
loop-n-init c = first_slide _ _

pub line_at-n-requires : goal.line_at-n-requires
line_at-n-requires c = slide_whole _ _ _ _ c.loop-n.invariant c.requires

pub overflow_add-count : goal.overflow_add-count
overflow_add-count c = let r = slide_in _ _ _ _ c.loop-n.invariant c.requires in let b = r.1 in let a = r.0 in search rules

pub loop-n-smaller : goal.loop-n-smaller
loop-n-smaller c =
    (slide_less _ _ _ _ c.loop-n.invariant _ c.line_at-n.ensures c.requires (c.is_fork.ensures.0 (passed_test _ (ap not c.if-not-is_fork.false)))).1

pub loop-n-preserved : goal.loop-n-preserved
loop-n-preserved c = next_slide _ _ _ _ c.loop-n.invariant _ c.line_at-n.ensures (c.is_fork.ensures.0 (passed_test _ (ap not c.if-not-is_fork.false)))
