-- The entry of a combinator: what the tracker answers is stored in the state, which then goes on or is refused.
use Rattle.std.specs.Prelude.{if◌then◌else◌}
use mathlib.Core.Path.{◌≡◌, refl}
use mathlib.Core.Bool.{Bool, true, false}
use Rattle.reading.specs.Ending.{Ending, Err}
use Rattle.reading.specs.Pest as Pest
use Rattle.reading.specs.Pest.{ParserState, CallLimitTracker, set_call_tracker, check_limit}
use Rattle.engine.specs.Entry.{opened, refused, entering, go_on}

-- How the combinators' own words use it.
pub check_limit_is : (room counted : Bool) (m : ParserState) (k : ParserState → Ending ParserState)
    → check_limit room counted m k ≡ go_on (entering room counted m) k
check_limit_is room counted m k = go (Pest.enter room counted m.call_tracker).answer
    (set_call_tracker (Pest.enter room counted m.call_tracker).tracker m)
  where
    go : (b : Bool) (n : ParserState) → elim b [ false ↦ Err n | true ↦ k n ] ≡ go_on (if b then opened n else refused n) k
    go true n = refl
    go false n = refl
