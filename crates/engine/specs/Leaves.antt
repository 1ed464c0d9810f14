-- A walk over lines that only move the position: what it promises for every state that stands at its position.
use Rattle.std.specs.Prelude.{◌≡◌, Bool, true, false, List, ℕ, ◌≤◌, ℤ}
use Rattle.reading.specs.Ending.{Ending, Ok, Err}
use Rattle.reading.specs.Fit.{Fit}
use Rattle.reading.specs.Grammar.{tree_at}
use Rattle.reading.specs.Pest as Pest
use Rattle.reading.specs.Pest.{ParserState}
use Rattle.matching.specs.declared.position.BytePosition.{BytePosition}
use Rattle.engine.specs.declared.leaves.Halt.{Halt}
use Rattle.engine.specs.declared.leaves.Halt.TheVariants.{Done, At}
use Rattle.engine.specs.declared.setting.Setting as Given
use Rattle.engine.specs.Evaluation.{setting_of, Line, evaluated}

-- From the line `at` and the position p, the evaluation comes to what it comes to from the line `line` and the state m.
pub record Onto (ns : List ℤ) (literals text : List ℕ) (capacity d line : ℕ) (m : ParserState) (at p : ℕ) : Type 0 where
  pub here : Line ns at
  pub upto : at ≤ line
  pub fit : Fit (setting_of ns literals text capacity) (Pest.set_position p m)
  pub runs : evaluated ns literals text capacity d (tree_at ns literals at) (Pest.set_position p m)
      ≡ evaluated ns literals text capacity d (tree_at ns literals line) m

-- An ending that is no stop.
abbrev pub answer : (good : Bool) → ParserState → Ending ParserState
answer true m = Ok m
answer false m = Err m

-- Where a walk from the line `line` and the state m ends, at the position p.
abbrev pub Walked : List ℤ → (literals text : List ℕ) → (capacity d line : ℕ) → ParserState → BytePosition → Halt → Type 0
Walked ns literals text capacity d line m p (At l) = Onto ns literals text capacity d line m l p.0
Walked ns literals text capacity d line m p (Done good) = answer good (Pest.set_position p.0 m)
    ≡ evaluated ns literals text capacity d (tree_at ns literals line) m

-- ── Of the code's setting ──
-- A state that is fit for the grammar and the text.
abbrev pub FitIn : Given.Setting → ParserState → Type 0
FitIn g m = Fit (setting_of g.nodes.now g.literals.now g.text.now g.room) m

abbrev pub WalkedFrom : Given.Setting → (d line : ℕ) → ParserState → BytePosition × Halt → Type 0
WalkedFrom g d line m r = Walked g.nodes.now g.literals.now g.text.now g.room d line m r.0 r.1
