-- What `run` is handed, as the input of document 01's definitions, and what it promises.
use Rattle.std.specs.Prelude.{◌≡◌, List, ℕ, ℤ}
use Rattle.std.specs.Prelude.{Some}
use Rattle.reading.specs.Outcome.{Input, Refusal, refusal, outcome, RunOutcome, counted_calls}

abbrev pub input : List ℤ → (literals text : List ℕ) → (root depth_limit call_limit : ℕ) → (tokens report : List ℕ) → (scratch : ℕ) → Input
input nodes literals text root depth calls tokens report scratch = record {
  nodes = nodes;
  literals = literals;
  text = text;
  root = root;
  depth_limit = depth;
  call_limit = calls;
  tokens = tokens;
  report = report;
  scratch = scratch;
}

-- The promise. `before` and `after`: scratch at the run's start and at its end.
pub record Ran (i : Input) (o : RunOutcome) (before after : List ℕ) : Type 0 where
  -- Number, place, count and both areas are those of document 01.
  pub is : o.outcome ≡ outcome i
  -- The counted calls are those of document 02, request 5.
  pub counted : o.calls ≡ counted_calls i
  -- 4 to 9 and 18 leave "all areas", scratch too. "Scratch after a started run is free".
  pub left : (r : Refusal) → refusal i ≡ Some r → after ≡ before
