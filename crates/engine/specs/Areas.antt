-- How the lent areas and the code's structs stand for pest's own state: the abstraction functions that contracts cite.
use Rattle.std.specs.Prelude.{◌≡◌, List, [], ◌∷◌, ◌++◌, ℕ, zero, suc, ◌+◌, ◌*◌, ◌≤◌, ◌<◌, length, get_or, eqb, if◌then◌else◌}
use Rattle.engine.specs.declared.stack.Stack.{Stack}
use Rattle.reading.specs.declared.parser_state.Ending.{Ending}
use Rattle.reading.specs.declared.parser_state.Ending.TheVariants as Code
use Rattle.engine.specs.declared.parser_state.ParserState.{ParserState}
use Rattle.reading.specs.declared.parser_state.Cause.{Cause}
use Rattle.reading.specs.Ending as Model
use Rattle.reading.specs.Ending.{Halted, Span, Checkpoint}
use Rattle.reading.specs.Pest as Pest
use Rattle.reading.specs.Pest.{QueueableToken, Start, End}
use Rattle.checks.specs.Tracker.{tracker_of}

-- ── Regions of an area ──
-- The n pairs of numbers that stand from `at` on, the last one first.
unfoldable pub pairs : {A : Type 0} → (ℕ → ℕ → A) → List ℕ → (at n : ℕ) → List A
pairs mk a at zero = []
pairs mk a at (suc n) = mk (get_or a (at + n * 2) 0) (get_or a (at + n * 2 + 1) 0) ∷ pairs mk a at n

-- The n numbers that stand from `at` on, the first one first.
unfoldable pub numbers : List ℕ → (at n : ℕ) → List ℕ
numbers a at zero = []
numbers a at (suc n) = numbers a at n ++ (get_or a (at + n) 0 ∷ [])

-- b is a, changed in [lo, hi) at most.
pub record Outside (lo hi : ℕ) (a b : List ℕ) : Type 0 where
  pub size : length b ≡ length a
  pub below : (k : ℕ) → k < lo → get_or a k 0 ≡ get_or b k 0
  pub above : (k : ℕ) → hi ≤ k → get_or a k 0 ≡ get_or b k 0

-- ── Scratch: 128 entries, 1,024 popped entries, 256 and 256 attempts, 1,024 checkpoints ──
abbrev pub entries_at : ℕ
entries_at = 0

abbrev pub popped_at : ℕ
popped_at = 256

abbrev pub positives_at : ℕ
positives_at = 2304

abbrev pub negatives_at : ℕ
negatives_at = 2560

abbrev pub lengths_at : ℕ
lengths_at = 2816

abbrev pub scratch_size : ℕ
scratch_size = 4864

abbrev pub span : ℕ → ℕ → Span
span x y = record { start = x; end = y }

abbrev pub checkpoint : ℕ → ℕ → Checkpoint
checkpoint h l = record { height = h; lowest = l }

abbrev pub stack_of : (scratch : List ℕ) → Stack → Pest.Stack
stack_of a s = record {
  cache = pairs span a entries_at s.height;
  popped = pairs span a popped_at s.popped;
  lengths = pairs checkpoint a lengths_at s.checkpoints;
}

-- ── Tokens: five numbers each, "kind (1 Start, 2 End), partner's index from 0, position, rule, tag" ──
abbrev pub token_at : (tokens : List ℕ) → (index : ℕ) → QueueableToken
token_at a i =
    if eqb (get_or a (i * 5) 0) 1 then Start (get_or a (i * 5 + 1) 0) (get_or a (i * 5 + 2) 0)
    else End (get_or a (i * 5 + 1) 0) (get_or a (i * 5 + 3) 0) (get_or a (i * 5 + 4) 0) (get_or a (i * 5 + 2) 0)

-- The first n tokens.
unfoldable pub queue_of : (tokens : List ℕ) → (n : ℕ) → List QueueableToken
queue_of a zero = []
queue_of a (suc n) = queue_of a n ++ (token_at a n ∷ [])

-- ── The state ──
abbrev pub view : (tokens scratch : List ℕ) → ParserState → Pest.ParserState
view tokens scratch s = record {
  position = s.position.0;
  queue = queue_of tokens s.queue.0;
  lookahead = s.lookahead;
  pos_attempts = numbers scratch positives_at s.attempts.positives;
  neg_attempts = numbers scratch negatives_at s.attempts.negatives;
  attempt_pos = s.attempts.furthest.0;
  atomicity = s.atomicity;
  stack = stack_of scratch s.stack;
  call_tracker = tracker_of s.tracker;
}

-- A stop at this state, with its counted calls.
abbrev pub halted_at : Cause → ParserState → Halted
halted_at c s = record { cause = c; calls = s.tracker.current }

-- The ending with the state that it left.
abbrev pub view_end : (tokens scratch : List ℕ) → ParserState → Ending → Model.Ending Pest.ParserState
view_end tokens scratch s Code.Ok = Model.Ok (view tokens scratch s)
view_end tokens scratch s Code.Err = Model.Err (view tokens scratch s)
view_end tokens scratch s (Code.Stop c) = Model.Stop (halted_at c s)
