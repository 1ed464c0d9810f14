-- No character, one outside the range, or one inside: the definition's match of one character in each case.
use mathlib.Core.Path.{◌≡◌, sym, ap, ◌∙◌}
use mathlib.Core.Bool.{false}
use mathlib.Core.Logic.{inl, inr}
use native.Mathlib.Omega.{arith}
use Rattle.matching.specs.Utf8.{within}
use Rattle.matching.specs.Answers.{matched}
use Rattle.matching.proofs.Lead.{within_is, below, above}
use Rattle.matching.proofs.Steps.{inside, char_fails, char_moves}
use Rattle.matching.proofs.position.match_range.Goals as goal

pub returns-in_err-c : goal.returns-in_err-c
returns-in_err-c c =
    c.from_residual.ensures ∙ sym (ap matched (char_fails c.args.input.now c.args.pos.0 (sym c.in_err-c.ensures) (within c.args.low c.args.high)))

pub overflow_add-result : goal.overflow_add-result
overflow_add-result c = omega (arith, inside c.args.input.now c.args.pos.0 c.in_ok-c.c (sym c.in_ok-c.ensures))

pub returns-then-c-high : goal.returns-then-c-high
returns-then-c-high c =
    let w = within_is c.args.low c.args.high c.in_ok-c.c.value c.if-low-c.true c.if-c-high.true in
    sym (ap matched (rw w at (char_moves c.args.input.now c.args.pos.0 c.in_ok-c.c (sym c.in_ok-c.ensures) (within c.args.low c.args.high))))

pub returns-else-low-c : goal.returns-else-low-c
returns-else-low-c c =
    let w : within c.args.low c.args.high c.in_ok-c.c.value ≡ false =
    elim c.else-low-c.either [
      | inl h ↦ above c.args.low c.args.high c.in_ok-c.c.value h.1
      | inr h ↦ below c.args.low c.args.high c.in_ok-c.c.value h
    ] in
    sym (ap matched (rw w at (char_moves c.args.input.now c.args.pos.0 c.in_ok-c.c (sym c.in_ok-c.ensures) (within c.args.low c.args.high))))
