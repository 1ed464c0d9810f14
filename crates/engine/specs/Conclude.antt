-- What the end of a run asks, and how what it returns stands for an outcome.
use Rattle.std.specs.Prelude.{List, ℕ, ◌*◌, ◌≤◌, length}
use Rattle.reading.specs.declared.parser_state.Ending as Declared
use Rattle.reading.specs.declared.parser_state.Ending.TheVariants as Code
use Rattle.engine.specs.declared.state.Outcome as Returned
use Rattle.engine.specs.declared.state.RunOutcome as ReturnedRun
use Rattle.checks.specs.declared.grammar.Refused.{Refused}
use Rattle.checks.specs.Refusals.{refusal_of}
use Rattle.reading.specs.Outcome.{Outcome, RunOutcome}
use Rattle.engine.specs.declared.parser_state.ParserState as State
use Rattle.engine.specs.Report.{Reportable}

-- What a function returns, with the areas as they then stand.
abbrev pub outcome_of : Returned.Outcome → (tokens report : List ℕ) → Outcome
outcome_of o tokens report = record { number = o.number; place = o.place; count = o.count; tokens = tokens; report = report }

abbrev pub run_outcome_of : ReturnedRun.RunOutcome → (tokens report : List ℕ) → RunOutcome
run_outcome_of o tokens report = record { outcome = outcome_of o.outcome tokens report; calls = o.calls }

-- What a refused run returns.
abbrev pub refused_with : Refused → Returned.Outcome
refused_with r = record { number = (refusal_of r).number; place = (refusal_of r).place; count = 0 }

-- The queue lies in its area, and the attempts can be reported.
pub record Concluding (tokens scratch report : List ℕ) (s : State.ParserState) : Type 0 where
  pub queue : s.queue.0 * 5 ≤ length tokens
  pub few : s.queue.0 ≤ 65535
  pub attempts : Reportable scratch s.attempts report

abbrev pub ConcludeReady : (tokens scratch report : List ℕ) → State.ParserState → Declared.Ending → Type 0
ConcludeReady tokens scratch report s Code.Ok = Concluding tokens scratch report s
ConcludeReady tokens scratch report s Code.Err = Concluding tokens scratch report s
ConcludeReady tokens scratch report s (Code.Stop c) = Unit {0}
