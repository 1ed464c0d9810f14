-- The lines so far are swept, and the flags are as at first unless a change is noted.
use mathlib.Core.Path.{◌≡◌}
use mathlib.Core.Bool.{false}
use Rattle.reading.specs.Nullable.{swept}
use Rattle.checks.proofs.nullable.sweep.Given as goal

abbrev pub invariant-loop-index : goal.invariant-loop-index
invariant-loop-index l = record {
  so_far : l.flags ≡ swept l.nodes l.index l.initial.flags;
  unchanged : l.changed ≡ false → l.flags ≡ l.initial.flags;
}
