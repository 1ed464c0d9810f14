-- As many rounds as are counted are done. A round that changes nothing is the last that matters.
use mathlib.Core.Path.{◌≡◌}
use lib.ListN.{length}
use Rattle.reading.specs.Nullable.{rounds}
use Rattle.checks.proofs.nullable.flag_all.Given as goal

abbrev pub invariant-loop : goal.invariant-loop
invariant-loop l = l.flags ≡ rounds l.nodes (length l.initial.flags) l.counter
