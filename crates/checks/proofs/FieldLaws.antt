-- A signed 32-bit field as the machine reads it: what it reads back is the field.
use Prim.Native.Nat.{◌<◌, ◌^◌}
use mathlib.Core.Path.{◌≡◌}
use lib.IntN.{ℤ}
use lib.Signed.{mag}
use mir.Syntax.{w32}
use mir.Val.{SFits, to_z, of_z}
use mir.Facts.{to_z-of_z}

pub back : (x : ℤ) → SFits w32 x → to_z w32 (of_z w32 x) ≡ x
back x f = to_z-of_z f

pub read_back : (x : ℤ) → mag x < 2 ^ 31 → to_z w32 (of_z w32 x) ≡ x
read_back x h = back x (record { sfits = h })
