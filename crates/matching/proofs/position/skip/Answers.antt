-- The invariant: what is left to skip from here gives what all of it gives from the start.
use mathlib.Core.Path.{sym, ap, ◌∙◌}
use Rattle.matching.specs.Answers.{matched}
use Prim.Native.Nat.{◌+◌, ◌-◌}
use native.Mathlib.Omega.{arith}
use Rattle.matching.proofs.Characters.{skip_past}
use Rattle.matching.proofs.Steps.{inside, skip_more, skip_fails}
use Rattle.matching.proofs.position.skip.Goals as goal

pub returns-then-input-at : goal.returns-then-input-at
returns-then-input-at c = sym (ap matched (skip_past c.args.input.now c.args.n c.args.pos.0 c.if-input-at.true))

pub returns-in_default : goal.returns-in_default
returns-in_default c =
    let e = skip_fails c.args.input.now c.loop.at (sym c.in_default.ensures) (c.args.n - c.loop.counter) (omega arith) in
    ap matched (sym e ∙ c.loop.invariant.1)

pub overflow_add-at : goal.overflow_add-at
overflow_add-at c = omega (arith, inside c.args.input.now c.loop.at _ (sym c.in-Some.ensures))

pub loop-preserved : goal.loop-preserved
loop-preserved c = let e = sym c.in-Some.ensures in
    let more = skip_more c.args.input.now c.loop.at _ e (c.args.n - c.loop.counter) (c.args.n - (c.loop.counter + 1)) (omega arith) in
    ((inside c.args.input.now c.loop.at _ e).all_there, sym more ∙ c.loop.invariant.1)
