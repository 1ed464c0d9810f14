-- `decimal` carries the number read so far: with the digits that are left behind it, it is the number of all the digits.
-- After i columns it is below the i-th power of ten, so that twelve columns never leave 64 bits.
use mathlib.Core.Path.{◌≡◌, sym, ◌∙◌}
use native.Mathlib.Omega.{arith}
use lib.ListN.{length}
use Rattle.sheet.proofs.FieldLaws.{decimal_more, decimal_other, decimal_end, digit_small, pow_more, pow_room}
use Rattle.sheet.proofs.field.decimal.Goals as goal

pub overflow_mul-n : goal.overflow_mul-n
overflow_mul-n c = omega (arith, pow_room c.loop-b.b-index (omega arith))

pub returns-in_err-n : goal.returns-in_err-n
returns-in_err-n c = c.from_residual.ensures
    ∙ sym (c.loop-b.invariant.1 ∙ decimal_other _ _ c.loop-b-test.true _ (sym c.digit.ensures ∙ c.in_err-n.was))

pub overflow_add-n : goal.overflow_add-n
overflow_add-n c = omega (arith, pow_room c.loop-b.b-index (omega arith), digit_small _ _ (sym c.digit.ensures ∙ c.in_ok-n.was))

pub loop-b-preserved : goal.loop-b-preserved
loop-b-preserved c = let e = sym c.digit.ensures ∙ c.in_ok-n.was in (
  pow_more _ _ _ c.loop-b.invariant.0 (digit_small _ _ e),
  c.loop-b.invariant.1 ∙ decimal_more _ _ c.loop-b-test.true _ _ e,
)

pub returns : goal.returns
returns c = let z : c.loop-b.b-index ≡ length c.args.s.now = omega arith in
    sym (c.loop-b.invariant.1 ∙ decimal_end _ _ _ z)
