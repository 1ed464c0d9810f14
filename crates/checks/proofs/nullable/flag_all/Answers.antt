-- As many rounds as are counted are done. A round that changes nothing is the last that matters.
use mathlib.Core.Path.{◌∙◌}
use lib.ListN.{length}
use Rattle.reading.proofs.NullableLaws.{rounds_zero, rounds_next, ended, swept_all}
use Rattle.checks.proofs.nullable.flag_all.Goals as goal

pub loop-init : goal.loop-init
loop-init c = c.requires.none_flagged ∙ rounds_zero _ _

pub returns-then-not-sweep : goal.returns-then-not-sweep
returns-then-not-sweep c =
    ended c.args.nodes.now (length c.args.flags.now) c.loop.counter c.loop.flags _ c.loop.auto.counter-end c.loop.invariant
    (swept_all c.args.nodes.now c.args.flags.now c.loop.flags _ c.loop.auto.flags c.sweep.ensures.flags_after)
    (c.sweep.ensures.unchanged c.if-not-sweep.true)

pub loop-preserved : goal.loop-preserved
loop-preserved c =
    rounds_next c.args.nodes.now (length c.args.flags.now) c.loop.counter c.loop.flags _ c.loop.invariant
    (swept_all c.args.nodes.now c.args.flags.now c.loop.flags _ c.loop.auto.flags c.sweep.ensures.flags_after)
