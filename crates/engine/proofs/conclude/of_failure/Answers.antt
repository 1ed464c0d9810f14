-- The report is written, the tokens are cleared, and no more rules are counted than attempts.
use native.Mathlib.Omega.{arith}
use Rattle.engine.proofs.ConcludeLaws.{rules_few}
use Rattle.engine.proofs.conclude.of_failure.Goals as goal

pub overflow_cast-count : goal.overflow_cast-count
overflow_cast-count c =
    let few = c.requires.lent.few in
    let p = rules_few c.args.scratch.now 2304 c.args.t.positives in
    let n = rules_few c.args.scratch.now 2560 c.args.t.negatives in
    omega (arith, c.write_report-rules.ensures.count, p, n, few.few_positives, few.few_negatives)
