-- Entries from the bottom, the direction of a slice, and what popping and matching answers.
use Rattle.std.specs.Prelude.{Bool, List, ℕ, ◌+◌, ◌*◌, ◌-◌, get_or, if◌then◌else◌}
use Rattle.std.specs.Prelude.{Option, None, Some}
use Rattle.matching.specs.declared.position.BytePosition.{BytePosition}
use Rattle.engine.specs.declared.stack.Stack.{Stack}
use Rattle.reading.specs.declared.parser_state.Cause.TheVariants.{StackFull}
use Rattle.reading.specs.Ending.{Ending, Stop, Span}
use Rattle.reading.specs.Pest.{ParserState, halted, set_stack, moved}
use Rattle.engine.specs.Areas.{entries_at, span, stack_of}

-- The entry at an index from the bottom.
abbrev pub entry_at : (scratch : List ℕ) → (index : ℕ) → Span
entry_at a i = span (get_or a (entries_at + i * 2) 0) (get_or a (entries_at + i * 2 + 1) 0)

-- A match as the definitions say it.
abbrev pub match_of : Option BytePosition → Option ℕ
match_of (Some p) = Some p.0
match_of None = None

-- Of the entries from `start` to before `end`: which one comes at turn k, counted from `start` on.
abbrev pub index_at : (start end k : ℕ) → (top_to_bottom : Bool) → ℕ
index_at start end k down = if down then end - 1 - (k - start) else k

-- What the code's answer says of a state m, seen at the stack and the position: a match, a miss, or no room to owe an entry.
abbrev pub match_end : (scratch : List ℕ) → (line : ℕ) → ParserState → Option (Stack × Option BytePosition) → Ending ParserState
match_end a line m None = Stop (halted (StackFull line) m)
match_end a line m (Some (s, r)) = moved (match_of r) (set_stack (stack_of a s) m)
