-- What each function of the evaluation asks and answers: one equation with pest's evaluation, through the abstraction of Areas.
use Rattle.std.specs.Prelude.{◌≡◌, Bool, true, ◌||◌, List, ℕ, ◌+◌, ◌*◌, ◌≤◌, eqb, ℤ, length}
use Rattle.std.specs.Prelude.{None}
use Rattle.matching.specs.Utf8.{within}
use Rattle.reading.specs.Ending.{Ending}
use Rattle.reading.specs.Grammar.{Exp, line_count, misfit, rule_at, kind_at, tree_at}
use Rattle.reading.specs.Nullable.{still_repeat}
use Rattle.reading.specs.Reading.{Setting}
use Rattle.reading.specs.Pest as Pest
use Rattle.reading.specs.Pest.{ParserState}
use Rattle.engine.specs.declared.parser_state.ParserState as Code
use Rattle.engine.specs.declared.setting.Setting as Given
use Rattle.engine.specs.Areas.{scratch_size, view}
use Rattle.engine.specs.StackReady.{most_checkpoints}
use Rattle.reading.specs.Fit.{Fit}

abbrev pub setting_of : List ℤ → (literals text : List ℕ) → (capacity : ℕ) → Setting
setting_of ns literals text capacity = record { text = text; rule_at = rule_at ns literals; capacity = capacity }

-- The tests of a run have passed, the areas are large enough, the state is fit, and there is a checkpoint for each call that may
-- still open.
pub record Ready (ns : List ℤ) (literals text tokens scratch : List ℕ) (capacity depth : ℕ) (m : ParserState) : Type 0 where
  pub fitting : misfit ns literals ≡ None
  pub moving : still_repeat ns ≡ None
  pub short : length text ≤ 65535
  pub small : capacity ≤ 65535
  pub area : capacity * 5 ≤ length tokens
  pub room : scratch_size ≤ length scratch
  pub fit : Fit (setting_of ns literals text capacity) m
  pub deep : length m.stack.lengths + depth ≤ most_checkpoints

-- A line of the grammar.
pub record Line (ns : List ℤ) (line : ℕ) : Type 0 where
  pub low : 1 ≤ line
  pub high : line ≤ line_count ns

-- pest's evaluation, with the stops, of a tree where `depth` more calls may be open.
unfoldable pub evaluated : List ℤ → (literals text : List ℕ) → (capacity depth : ℕ) → Exp → ParserState → Ending ParserState
evaluated ns literals text capacity depth e m = Pest.eval (setting_of ns literals text capacity) true depth e m

-- Kinds 8 to 14 and 18 open a call, and so does a call's line.
abbrev pub opens_call : (kind : ℕ) → Bool
opens_call k = within 8 14 k || (eqb k 18 || eqb k 20)

-- ── Of the code's setting and state ──
abbrev pub ReadyOf : Given.Setting → (tokens scratch : List ℕ) → (depth : ℕ) → Code.ParserState → Type 0
ReadyOf g tokens scratch depth s = Ready g.nodes.now g.literals.now g.text.now tokens scratch g.room depth (view tokens scratch s)

-- A line of this kind.
abbrev pub LineOf : Given.Setting → (kind line : ℕ) → Type 0
LineOf g k line = Line g.nodes.now line × (kind_at g.nodes.now line ≡ k)

abbrev pub evaluates : Given.Setting → (depth line : ℕ) → ParserState → Ending ParserState
evaluates g depth line m = evaluated g.nodes.now g.literals.now g.text.now g.room depth (tree_at g.nodes.now g.literals.now line) m
