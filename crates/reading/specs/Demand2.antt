-- Demand 2, in the customer's words, of what a started run gave.
use Rattle.std.specs.Prelude.{◌≡◌, List, ◌++◌, ◌↔◌, ◌⊎◌, ℕ, ◌≤◌, take}
use Rattle.std.specs.Prelude.{Option, None, Some}
use Rattle.reading.specs.Ending.{Ending, Ok}
use Rattle.reading.specs.Reading.{State}
use Rattle.reading.specs.Grammar.{plain}
use Rattle.reading.specs.Pest as Pest
use Rattle.reading.specs.Pest.{ParserState, Result}
use Rattle.reading.specs.Outcome.{Input, setting, root_tree, reading, started, Outcome}
use Rattle.reading.specs.Answer.{answer_to}
use Rattle.reading.specs.Ford.{Ford, peg, rules_of, characters_of}

-- Ford's relation of the grammar and the text's characters: `some y` where it consumes a prefix and leaves y, none where it fails.
abbrev pub Relates : Input → Option (List ℕ) → Type 0
Relates i o = Ford (rules_of (setting i)) (peg (root_tree i)) (characters_of i.text) o

-- "Ford's relation consumes a prefix of the text"
pub record Consumes (i : Input) (prefix : List ℕ) : Type 0 where
  pub left : List ℕ
  pub relates : Relates i (Some left)
  pub whole : characters_of i.text ≡ prefix ++ left

-- "it fails"
abbrev pub Fails : Input → Type 0
Fails i = Relates i None

-- The text's characters up to the position of a state.
abbrev pub up_to : Input → State → List ℕ
up_to i s = characters_of (take s.position i.text)

-- Match or failure: the run gives 0 or 10.
abbrev pub MatchOrFailure : ℕ → Type 0
MatchOrFailure n = (n ≡ 0) ⊎ (n ≡ 10)

-- How pest's own evaluation ends, and what its `state` gives. `spent` stands for a loop whose rounds are used up (`loop` of Pest).
abbrev pub pest_ending : Input → (spent : ParserState → Ending ParserState) → Ending ParserState
pest_ending i spent = Pest.ending spent (setting i) i.depth_limit i.call_limit (root_tree i)

abbrev pub pest_state : Input → (spent : ParserState → Ending ParserState) → Result
pest_state i spent = Pest.state spent (setting i) i.depth_limit i.call_limit (root_tree i)

pub record Demand2 (i : Input) (o : Outcome) : Type 0 where
  -- "For every accepted grammar, text and pair of limits whose run stops for no added reason (13 to 16), the outcome, tokens, furthest
  -- position and sorted rules equal those of pest's `state`"
  pub state : o.number ≤ 12 → (spent : ParserState → Ending ParserState) → o ≡ started i (answer_to (pest_state i spent))
  -- `spent` may be anything, a stop of any cause too, and also where the run stops: so no loop of pest's comes to it.
  pub loops : (spent other : ParserState → Ending ParserState) → pest_ending i spent ≡ pest_ending i other
  -- "for every grammar that document 01 calls plain, match or failure is proved equal to Ford's 2004 definition": a run that gives 0
  -- or 10 gives 0 exactly where Ford's relation consumes a prefix of the text ..
  pub matches : plain i.nodes ≡ None → MatchOrFailure o.number → (o.number ≡ 0) ↔ ((prefix : List ℕ) × Consumes i prefix)
  -- .. and 10 exactly where it fails.
  pub fails : plain i.nodes ≡ None → MatchOrFailure o.number → (o.number ≡ 10) ↔ Fails i
  -- What it consumes is the text up to the position at which the reading ended, and nothing else.
  pub consumed : plain i.nodes ≡ None → o.number ≡ 0 → (s : State) → reading i ≡ Ok s
      → (prefix : List ℕ) → Consumes i prefix ↔ (prefix ≡ up_to i s)
  -- Ford's relation gives at most one answer, whatever the run gave.
  pub only : (x y : Option (List ℕ)) → Relates i x → Relates i y → x ≡ y
