-- In each arm the ending is known.
use Rattle.engine.proofs.Climbs.{goes_ok, goes_err, goes_stop}
use Rattle.engine.proofs.spine.goes_right.Goals as goal

pub returns-in-Ok : goal.returns-in-Ok
returns-in-Ok c = goes_ok _ _ c.in-Ok.is

pub returns-in-Err : goal.returns-in-Err
returns-in-Err c = goes_err _ _ c.in-Err.is

pub returns-in-Stop : goal.returns-in-Stop
returns-in-Stop c = goes_stop _ _ _ c.in-Stop.is
