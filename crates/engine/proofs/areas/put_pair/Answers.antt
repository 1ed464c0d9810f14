-- Two writes, one after the other: `put`.
use mathlib.Core.Path.{refl}
use Rattle.engine.specs.Pairs.{put}
use Rattle.engine.proofs.areas.put_pair.Goals as goal

pub returns : goal.returns
unfolding put
returns c = refl
