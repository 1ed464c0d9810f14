-- `behind_spaces` drops space by space: what is behind the spaces of what is left is what is behind them in the whole field.
use mathlib.Core.Path.{◌≡◌}
use Prim.Native.Nat.{◌≤◌}
use lib.ListN.{length}
use Rattle.sheet.specs.Field.{behind_spaces}
use Rattle.sheet.proofs.field.behind_spaces.Given as goal

abbrev pub invariant-loop-s : goal.invariant-loop-s
invariant-loop-s l = (behind_spaces l.f ≡ behind_spaces l.s) × (length l.s ≤ length l.f)

abbrev pub decreases-loop-s : goal.decreases-loop-s
decreases-loop-s l = length l.s
