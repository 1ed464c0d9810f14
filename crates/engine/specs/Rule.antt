-- The leaves of `rule`: the part before its body, and what the code needs of the areas.
use Rattle.std.specs.Prelude.{true, false, List, ℕ, ◌*◌, ◌≤◌, length, take, if◌then◌else◌}
use Rattle.reading.specs.Ending.{Ending, Ok}
use Rattle.reading.specs.Reading.{Setting, most_entries, most_debt}
use Rattle.reading.specs.Pest.{ParserState, Start, produces, push_token, set_queue}
use Rattle.engine.specs.declared.parser_state.ParserState as State
use Rattle.engine.specs.Attempts.{Lent}

-- `rule`, up to its body
abbrev pub starting : Setting → (line : ℕ) → ParserState → Ending ParserState
starting g line m = elim (produces m) [ false ↦ Ok m | true ↦ push_token g true line (Start 0 m.position) m (λ t. Ok t) ]

-- `rule`, after an Err of its body
abbrev pub dropped : (index : ℕ) → ParserState → ParserState
dropped i m = if produces m then set_queue (take i m.queue) m else m

-- What a rule that is recorded needs: an area with room for `capacity` tokens, whose indexes and positions fit their numbers.
pub record Recording (tokens : List ℕ) (capacity : ℕ) (s : State.ParserState) : Type 0 where
  pub room : capacity * 5 ≤ length tokens
  pub most : capacity ≤ 65535
  pub near : s.position.0 ≤ 65535

-- What tracking needs: its two lists in the area, and a stack that stands before them.
pub record Tracking (scratch : List ℕ) (s : State.ParserState) : Type 0 where
  pub lent : Lent scratch s.attempts
  pub tall : s.stack.height ≤ most_entries
  pub owing : s.stack.popped ≤ most_debt
