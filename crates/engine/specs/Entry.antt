-- What an entry answers, as the state that goes on or is refused.
use Rattle.std.specs.Prelude.{◌≡◌, Bool, true, false, List, ℕ, ◌+◌, ltb, Option, is_some, IfSome, if◌then◌else◌}
use Rattle.engine.specs.declared.parser_state.ParserState as Code
use Rattle.engine.specs.Areas.{view}
use Rattle.reading.specs.Ending.{Ending, Err}
use Rattle.reading.specs.Pest.{ParserState, Entered, enter, set_call_tracker}

-- The state that goes on, or the one that a refused entry answers with Err.
pub data Entry : Type 0 where
  opened refused : ParserState → Entry

-- The code's answer, with the state that it left.
abbrev pub view_entry : (let_in : Bool) → ParserState → Entry
view_entry true m = opened m
view_entry false m = refused m

-- `inc_call_check_limit` (a counted call) and `check_stack_limit`
abbrev pub entering : (room count_call : Bool) → ParserState → Entry
entering room counted m =
    let e : Entered = enter room counted m.call_tracker in
    if e.answer then opened (set_call_tracker e.tracker m) else refused (set_call_tracker e.tracker m)

-- `?` at an entry
abbrev pub go_on : Entry → (ParserState → Ending ParserState) → Ending ParserState
go_on (opened m) k = k m
go_on (refused m) k = Err m

-- What the code's entry answers: whether the call is let in, with the state that it left, and then how many more may be open.
pub record EnteredBy (counted : Bool) (depth : ℕ) (s t : Code.ParserState) (r : Option ℕ) : Type 0 where
  pub entry : (tokens scratch : List ℕ) → view_entry (is_some r) (view tokens scratch t) ≡ entering (ltb 0 depth) counted (view tokens scratch s)
  pub deeper : IfSome r (λ d. d + 1 ≡ depth)
