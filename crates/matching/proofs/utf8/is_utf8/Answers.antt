-- The invariant: the rest from here is UTF-8 exactly if the whole text is.
use mathlib.Core.Path.{refl, sym, ◌∙◌}
use native.Mathlib.Omega.{arith}
use Rattle.matching.proofs.Steps.{ascii, inside, utf8_more, utf8_fails, utf8_done}
use Rattle.matching.proofs.utf8.is_utf8.Goals as goal

pub loop-at-preserved-then-a-lt128 : goal.loop-at-preserved-then-a-lt128
loop-at-preserved-then-a-lt128 c =
    let e = ascii c.args.s.now c.loop-at.at _ c.loop-at-test.true refl c.if-a-lt128.true in
    (omega arith, sym (utf8_more c.args.s.now c.loop-at.at _ e) ∙ c.loop-at.invariant.1)

pub returns-in_default : goal.returns-in_default
returns-in_default c = sym (utf8_fails c.args.s.now c.loop-at.at (sym c.in_default.ensures) c.loop-at-test.true) ∙ c.loop-at.invariant.1

pub overflow_add-at-in-loop-at : goal.overflow_add-at-in-loop-at
overflow_add-at-in-loop-at c = omega (arith, inside c.args.s.now c.loop-at.at _ (sym c.in-Some.ensures))

pub loop-at-smaller : goal.loop-at-smaller
loop-at-smaller c = omega (arith, inside c.args.s.now c.loop-at.at _ (sym c.in-Some.ensures))

pub loop-at-preserved : goal.loop-at-preserved
loop-at-preserved c = let e = sym c.in-Some.ensures in
    ((inside c.args.s.now c.loop-at.at _ e).all_there, sym (utf8_more c.args.s.now c.loop-at.at _ e) ∙ c.loop-at.invariant.1)

pub returns : goal.returns
returns c = sym (utf8_done c.args.s.now c.loop-at.at c.loop-at-test.false) ∙ c.loop-at.invariant.1
