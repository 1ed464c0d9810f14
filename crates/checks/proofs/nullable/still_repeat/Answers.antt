-- The part of the flags that is lent is all false.
use native.Mathlib.Omega.{arith}
use Rattle.std.proofs.Common.{rules}
use Rattle.reading.specs.Grammar.{line_count}
use Rattle.checks.proofs.NullableSteps.{part_false}
use Rattle.checks.proofs.nullable.still_repeat.Goals as goal

pub flag_all-requires-clause-none_flagged : goal.flag_all-requires-clause-none_flagged
flag_all-requires-clause-none_flagged c = part_false (line_count c.args.nodes.now) _ (search rules) (omega arith)
