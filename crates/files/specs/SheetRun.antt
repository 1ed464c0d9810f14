-- A sheet's grammar over a text. Document 01, "Stops and refusals": "Sheet reading tests 1 to 3, a run 4 to 9, in order".
use Rattle.std.specs.Prelude.{ℕ, ◌≡◌, List, ℤ, length}
use Rattle.engine.specs.declared.state.RunOutcome.{RunOutcome}
use Rattle.engine.specs.Conclude.{run_outcome_of}
use Rattle.reading.specs.Grammar.{line_count}
use Rattle.reading.specs.Outcome.{Input}
use Rattle.reading.specs.Run.{input, Ran}
use Rattle.sheet.specs.Sheet.{Reading, refused, read, reading, outcome, area_after}

-- What is handed over: the two texts, the limits, and the areas of a run as they are at the start.
pub record Given : Type 0 where
  pub literals : List ℕ
  pub text : List ℕ
  pub depth_limit : ℕ
  pub call_limit : ℕ
  pub tokens : List ℕ
  pub report : List ℕ
  pub scratch : List ℕ

-- What comes back: number, place, count, the counted calls, and those areas as they stand at the end.
pub record Back : Type 0 where
  pub answer : RunOutcome
  pub tokens : List ℕ
  pub report : List ℕ
  pub scratch : List ℕ

-- What the run is handed: the nodes that the sheet gave, and no others. Document 02, request 4: it names "the last line" as its root.
abbrev pub handed : List ℤ → Given → Input
handed ns g = input ns g.literals g.text (line_count ns) g.depth_limit g.call_limit g.tokens g.report (length g.scratch)

-- A refused sheet is answered by its own number, counts no call, and leaves all areas. A good one is run.
abbrev pub Answered : Reading → Given → Back → Type 0
Answered (refused n p) g b =
    (b.answer ≡ record { outcome = outcome (refused n p); calls = 0 }) × (b.tokens ≡ g.tokens) × (b.report ≡ g.report) × (b.scratch ≡ g.scratch)
Answered (read k ns) g b = Ran (handed ns g) (run_outcome_of b.answer b.tokens b.report) g.scratch b.scratch

-- What `run_sheet` promises: the answer, the areas of a run, and the node area.
pub record SheetRun (sheet : List ℕ) (before after : List ℤ) (g : Given) (b : Back) : Type 0 where
  pub answered : Answered (reading sheet (length before)) g b
  pub area : after ≡ area_after (reading sheet (length before)) before
