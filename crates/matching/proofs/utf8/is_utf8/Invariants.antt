-- The invariant: the rest from here is UTF-8 exactly if the whole text is.
use mathlib.Core.Path.{◌≡◌}
use Prim.Native.Nat.{◌-◌, ◌≤◌}
use lib.ListN.{length, drop}
use Rattle.matching.specs.Utf8.{is_utf8}
use Rattle.matching.proofs.utf8.is_utf8.Given as goal

abbrev pub invariant-loop-at : goal.invariant-loop-at
invariant-loop-at l = (l.at ≤ length l.s) × (is_utf8 (drop l.at l.s) ≡ is_utf8 l.s)

abbrev pub decreases-loop-at : goal.decreases-loop-at
decreases-loop-at l = length l.s - l.at
