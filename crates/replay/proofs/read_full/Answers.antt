-- What a round reads comes behind what was read before it.
use Rattle.std.proofs.Common.{rules, length, ◌-◌, subst}
use Rattle.std.proofs.KnownBytes.{Consumes-trans}
use Rattle.std.specs.Io.KnownBytes.{Consumes}
use Rattle.replay.proofs.Filled.{filled}
use Rattle.replay.proofs.read_full.Goals as goal

pub loop-done-preserved : goal.loop-done-preserved
loop-done-preserved g c =
    let done = c.loop-done.done in
    let buf = c.loop-done.buf in
    let joined = filled done (length buf - done) c.in-Ok.n buf c.read.new.buf c.loop-done.invariant.0 c.in-Ok.ensures.bound.0 in
    (search rules, subst (Consumes _ _) joined (Consumes-trans _ _ _ _ _ c.loop-done.invariant.1 c.in-Ok.ensures.bytes.0))
