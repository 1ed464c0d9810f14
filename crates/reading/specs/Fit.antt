-- What holds of every state of a run (the law `eval_keeps` of proofs/): what the evaluation's functions ask of the state.
use Rattle.std.specs.Prelude.{List, [], ◌∷◌, ℕ, ◌≤◌, length}
use Rattle.matching.specs.Utf8.{Utf8, Edge}
use Rattle.reading.specs.Ending.{Span}
use Rattle.reading.specs.Reading.{Setting, most_attempts}
use Rattle.reading.specs.Pest as Pest
use Rattle.reading.specs.Pest.{ParserState, Stack}
use Rattle.reading.specs.Sound.{Sound}

-- Every entry is whole characters.
abbrev pub Entries : (text : List ℕ) → List Span → Type 0
Entries text [] = Unit {0}
Entries text (v ∷ vs) = Utf8 (Pest.as_str text v) × Entries text vs

-- The position is a character edge, the stack is sound, and the queue and the attempts keep their bounds.
pub record Sane (g : Setting) (p : ℕ) (v : Stack) (held furthest : ℕ) (ps ns : List ℕ) : Type 0 where
  pub edge : Edge g.text p
  pub entries : Entries g.text v.cache
  pub saved : Entries g.text v.popped
  pub sound : Sound v
  pub room : held ≤ g.capacity
  pub inside : furthest ≤ length g.text
  pub positives : length ps ≤ most_attempts
  pub negatives : length ns ≤ most_attempts

abbrev pub Fit : Setting → ParserState → Type 0
Fit g m = Sane g m.position m.stack (length m.queue) m.attempt_pos m.pos_attempts m.neg_attempts
