-- `first_malformed` passes a line that reads: the first malformed line from line i on is the first of all.
use mathlib.Core.Path.{◌≡◌}
use Prim.Native.Nat.{◌+◌}
use lib.ListN.{drop}
use Rattle.sheet.specs.Sheet.{first_malformed}
use Rattle.sheet.proofs.sheet.first_malformed.Given as goal

abbrev pub invariant-loop-i : goal.invariant-loop-i
invariant-loop-i l = first_malformed 1 l.lines ≡ first_malformed (l.i + 1) (drop l.i l.lines)
