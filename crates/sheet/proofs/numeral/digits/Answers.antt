-- A number from the k-th power of ten on, and below the next, has k + 1 digits.
use mathlib.Core.Path.{ap, ◌∙◌}
use Prim.Native.Nat.{◌+◌}
use Rattle.sheet.proofs.ListingLaws.{digits_counted}
use Rattle.sheet.proofs.numeral.digits.Goals as goal

pub returns : goal.returns
returns c = ap (λ k. k + 1) c.unwrap_or.ensures
    ∙ digits_counted _ c.checked_ilog10.result c.checked_ilog10.ensures.none c.checked_ilog10.ensures.power_le c.checked_ilog10.ensures.next_power_gt
