-- The invariants: `Going`, the answer from here on is the whole answer; and of the bytes of one entry, that those below i were the same.
use mathlib.Core.Path.{ap}
use mathlib.Core.Bool.{not}
use Rattle.engine.proofs.PopMatch.{bytes_fit, bytes_differ, bytes_all}
use Rattle.engine.proofs.PopMatch.{going_full, going_height, going_more, going_empty, going_failed}
use Rattle.engine.proofs.stack_match.match_pop.Goals as goal

pub returns-in_default-clause-state_after : goal.returns-in_default-clause-state_after
returns-in_default-clause-state_after c =
    going_full c.entries.invariant c.if-h-eq0.false c.pop.result (c.pop.ensures.state_after, c.pop.ensures.outside_stack) c.in_default.not-Ok

pub entries-smaller : goal.entries-smaller
entries-smaller c =
    going_height c.entries.invariant c.if-h-eq0.false c.pop.result (c.pop.ensures.state_after, c.pop.ensures.outside_stack) c.in-Ok.is

pub entries-preserved : goal.entries-preserved
entries-preserved c =
    let fits = bytes_fit c.args.text.now c.as_bytes-bytes.result.now c.entries.at _ c.has_room.ensures (ap not c.if-not-has_room.false) in
    going_more c.entries.invariant c.if-h-eq0.false c.pop.result (
      c.pop.ensures.state_after,
      c.pop.ensures.outside_stack,
    ) c.in-Ok.is c.as_bytes-bytes.ensures
    (bytes_all c.args.text.now c.as_bytes-bytes.result.now c.entries.at _ c.loop-i.invariant fits c.loop-i-test.false)

pub returns-then-h-eq0-clause-state_after : goal.returns-then-h-eq0-clause-state_after
returns-then-h-eq0-clause-state_after c = going_empty c.entries.invariant c.if-h-eq0.true

pub returns-then-text-at-clause-state_after : goal.returns-then-text-at-clause-state_after
returns-then-text-at-clause-state_after c =
    going_failed c.entries.invariant c.if-h-eq0.false c.pop.result (
      c.pop.ensures.state_after,
      c.pop.ensures.outside_stack,
    ) c.in-Ok.is c.as_bytes-bytes.ensures
    (bytes_differ c.args.text.now c.as_bytes-bytes.result.now c.entries.at _ c.loop-i.invariant
    (bytes_fit c.args.text.now c.as_bytes-bytes.result.now c.entries.at _ c.has_room.ensures (ap not c.if-not-has_room.false))
    c.loop-i-test.true c.if-text-at.true)
