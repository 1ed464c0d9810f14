-- `decimal` carries the number read so far: with the digits that are left behind it, it is the number of all the digits.
-- After i columns it is below the i-th power of ten, so that twelve columns never leave 64 bits.
use mathlib.Core.Path.{◌≡◌}
use Prim.Native.Nat.{◌^◌, ◌<◌}
use lib.ListN.{drop}
use Rattle.sheet.specs.Field.{decimal}
use Rattle.sheet.proofs.field.decimal.Given as goal

abbrev pub invariant-loop-b : goal.invariant-loop-b
invariant-loop-b l = (l.n < 10 ^ l.b-index) × (decimal 0 l.s ≡ decimal l.n (drop l.b-index l.s))
