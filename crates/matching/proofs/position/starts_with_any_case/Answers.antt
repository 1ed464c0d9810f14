-- The invariant: the first i bytes are the same, so that the rest decides.
use mathlib.Core.Path.{sym, ◌∙◌}
use borrow.Author.Tests.{eq-eqb, ne_eqb}
use Rattle.matching.specs.Position.{same_folded}
use Rattle.matching.proofs.Starts.{starts_short, from_start, from_more, from_fails, from_end}
use Rattle.matching.proofs.position.starts_with_any_case.Goals as goal

pub returns-then-text-string : goal.returns-then-text-string
returns-then-text-string c = sym (starts_short same_folded c.args.string.now c.args.text.now c.if-text-string.true)

pub loop-i-init : goal.loop-i-init
loop-i-init c = from_start same_folded _ _ c.if-text-string.false

pub returns-then-fold_case : goal.returns-then-fold_case
returns-then-fold_case c =
    let differ = ne_eqb _ _ (λ e. c.if-fold_case.true (c.fold_case.ensures ∙ e ∙ sym c.fold_case-in-loop-i.ensures)) in
    from_fails same_folded c.args.string.now c.args.text.now c.loop-i.i c.loop-i.invariant c.loop-i-test.true differ

pub loop-i-preserved : goal.loop-i-preserved
loop-i-preserved c =
    let same = eq-eqb _ _ (sym c.fold_case.ensures ∙ c.if-fold_case.false ∙ c.fold_case-in-loop-i.ensures) in
    from_more same_folded c.args.string.now c.args.text.now c.loop-i.i c.loop-i.invariant c.loop-i-test.true same

pub returns : goal.returns
returns c = from_end same_folded _ _ c.loop-i.i c.loop-i.invariant c.loop-i-test.false
