-- What a function of the stack asks of scratch, and what it leaves alone.
use Rattle.std.specs.Prelude.{◌≡◌, List, ℕ, ◌≤◌, ◌<◌, length, get_or}
use Rattle.matching.specs.declared.position.BytePosition.{BytePosition}
use Rattle.engine.specs.declared.stack.Stack.{Stack}
use Rattle.reading.specs.Reading.{most_entries, most_debt, most_attempts}
use Rattle.reading.specs.Sound.{Sound}
use Rattle.engine.specs.declared.parser_state.ParserState.{ParserState}
use Rattle.engine.specs.Areas.{stack_of, positives_at, lengths_at, scratch_size}

-- As many checkpoints as the last region holds: one for each open call.
abbrev pub most_checkpoints : ℕ
most_checkpoints = 1024

-- What every function of the stack asks.
pub record StackReady (scratch : List ℕ) (s : Stack) : Type 0 where
  pub room : scratch_size ≤ length scratch
  pub tall : s.height ≤ most_entries
  pub owing : s.popped ≤ most_debt
  pub few : s.checkpoints ≤ most_checkpoints
  pub sound : Sound (stack_of scratch s)

-- The same of a state: its two lists of attempts lie in their regions besides.
pub record StateReady (scratch : List ℕ) (s : ParserState) : Type 0 where
  pub stack : StackReady scratch s.stack
  pub positives : s.attempts.positives ≤ most_attempts
  pub negatives : s.attempts.negatives ≤ most_attempts

-- "text over 65,535 bytes" is refused, so that a position fits 32 bits.
abbrev pub most_text : ℕ
most_text = 65535

-- Of a push: where the span starts and where the state is.
pub record PushReady (scratch : List ℕ) (start : BytePosition) (s : ParserState) : Type 0 where
  pub state : StateReady scratch s
  pub from : start.0 ≤ most_text
  pub to : s.position.0 ≤ most_text

-- b is a, changed in the stack's regions at most: the attempts, which lie between them, and what stands after them are as they were.
pub record OutsideStack (a b : List ℕ) : Type 0 where
  pub size : length b ≡ length a
  pub between : (k : ℕ) → positives_at ≤ k → k < lengths_at → get_or a k 0 ≡ get_or b k 0
  pub above : (k : ℕ) → scratch_size ≤ k → get_or a k 0 ≡ get_or b k 0
