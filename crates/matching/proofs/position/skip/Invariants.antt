-- The invariant: what is left to skip from here gives what all of it gives from the start.
use mathlib.Core.Path.{◌≡◌}
use Prim.Native.Nat.{◌-◌, ◌≤◌}
use lib.ListN.{length}
use Rattle.matching.specs.Position.{skip}
use Rattle.matching.proofs.position.skip.Given as goal

abbrev pub invariant-loop : goal.invariant-loop
invariant-loop l = (l.at ≤ length l.input) × (skip l.input (l.n - l.counter) l.at ≡ skip l.input l.n l.initial.at)
