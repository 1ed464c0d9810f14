-- How an evaluation ends, and the small words that the reading and pest's own state share. `if` is for data: both branches are computed. A
-- branch that evaluates a node is an `elim`.
use Rattle.std.specs.Prelude.{◌≡◌, Bool, true, false, ℕ, if◌then◌else◌}
use Rattle.reading.specs.declared.parser_state.Lookahead.{Lookahead}
use Rattle.reading.specs.declared.parser_state.Lookahead.TheVariants.{Positive, Negative, None}
use Rattle.reading.specs.declared.parser_state.Atomicity.{Atomicity}
use Rattle.reading.specs.declared.parser_state.Atomicity.TheVariants.{Atomic, CompoundAtomic, NonAtomic}
use Rattle.reading.specs.declared.parser_state.Cause.{Cause}

-- What is left of a run that stops: its cause, and (document 02, request 5) "the counted calls entered".
pub record Halted : Type 0 where
  pub cause : Cause
  pub calls : ℕ

-- "Evaluation ends Ok, Err, or in a stop that names its cause; a stop ends the run", over the state that it threads.
pub data Ending (S : Type 0) : Type 0 where
  Ok : S → Ending S
  Err : S → Ending S
  Stop : Halted → Ending S

module _ {S : Type 0} where
  -- "Kind 6 evaluates b on a's Ok, 7 on a's Err, from what a left."
  abbrev pub on_ok : Ending S → (S → Ending S) → Ending S
  on_ok (Ok s) k = k s
  on_ok (Err s) k = Err s
  on_ok (Stop h) k = Stop h

  abbrev pub on_err : Ending S → (S → Ending S) → Ending S
  on_err (Ok s) k = Ok s
  on_err (Err s) k = k s
  on_err (Stop h) k = Stop h

  -- A stop, where there is no room for what comes next.
  abbrev pub stop_if : Bool → Halted → (Unit {0} → Ending S) → Ending S
  stop_if full h k = elim full [ true ↦ Stop h | false ↦ k tt ]

-- A loop with no bound: "Repeat runs until Err and answers Ok; .. pass on an Err that comes with a limit cause".
pub data Loops {S : Type 0} (limited : S → Bool) (body : S → Ending S) : S → Ending S → Type 0 where
  loops_ok : (s t : S) (r : Ending S) → body s ≡ Ok t → Loops limited body t r → Loops limited body s r
  loops_err : (s t : S) → body s ≡ Err t → Loops limited body s (if limited t then Err t else Ok t)
  loops_stop : (s : S) (h : Halted) → body s ≡ Stop h → Loops limited body s (Stop h)

-- "Entries are text spans": from `start` to before `end`.
pub record Span : Type 0 where
  pub start : ℕ
  pub end : ℕ

-- A checkpoint: its height, and "the lowest height while it was innermost" (stack.rs: len, remained).
pub record Checkpoint : Type 0 where
  pub height : ℕ
  pub lowest : ℕ

abbrev pub is_negative : Lookahead → Bool
is_negative Positive = false
is_negative Negative = true
is_negative None = false

abbrev pub is_none : Lookahead → Bool
is_none Positive = false
is_none Negative = false
is_none None = true

abbrev pub is_atomic : Atomicity → Bool
is_atomic Atomic = true
is_atomic CompoundAtomic = false
is_atomic NonAtomic = false
