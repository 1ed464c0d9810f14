-- The customer's three demands and document 02's requests 4 and 5, of what `run` returns: the record that its `ensures` cites is all that the
-- laws of reading ask for.
use mathlib.Core.Path.{◌≡◌}
use mathlib.Core.List.{List}
use Rattle.std.specs.Prelude.{None}
use Prim.Native.Nat.{ℕ}
use Rattle.engine.specs.declared.state.RunOutcome as Returned
use Rattle.engine.specs.Conclude.{run_outcome_of}
use Rattle.reading.specs.Outcome.{Input, refusal, RunOutcome}
use Rattle.reading.specs.Run.{Ran}
use Rattle.reading.specs.Demand1.{Demand1}
use Rattle.reading.specs.Demand2.{Demand2}
use Rattle.reading.specs.Demand3.{Demand3}
use Rattle.reading.specs.Request4.{SharedRoot, Request4}
use Rattle.reading.specs.Request5.{Request5}
use Rattle.reading.proofs.Demand1 as First
use Rattle.reading.proofs.Demand2 as Second
use Rattle.reading.proofs.Demand3 as Third
use Rattle.reading.proofs.Request4 as Fourth
use Rattle.reading.proofs.Request5 as Fifth

-- What a run was handed, what it returned, and its areas as they then stand; of scratch also what it held before.
pub record Run : Type 0 where
  pub handed : Input
  pub returned : Returned.RunOutcome
  pub tokens : List ℕ
  pub report : List ℕ
  pub before : List ℕ
  pub scratch : List ℕ
  pub ran : Ran handed (run_outcome_of returned tokens report) before scratch

abbrev gave : Run → RunOutcome
gave a = run_outcome_of a.returned a.tokens a.report

pub demand_1 : (a : Run) → Demand1 a.handed (gave a) a.before a.scratch
demand_1 a = First.demand_1 a.handed a.before a.scratch (gave a) a.ran

pub demand_2 : (a : Run) → refusal a.handed ≡ None → Demand2 a.handed (gave a).outcome
demand_2 a e = Second.demand_2 a.handed e (gave a) a.ran

-- "Take any two started runs, whatever grammar, text, limits and areas each was given."
pub demand_3 : (a b : Run) → refusal a.handed ≡ None → refusal b.handed ≡ None → Demand3 a.handed b.handed (gave a).outcome (gave b).outcome
demand_3 a b e d = Third.demand_3 a.handed b.handed e d (gave a) (gave b) a.ran b.ran

pub request_4 : (a b : Run) → SharedRoot a.handed b.handed → Request4 a.handed b.handed (gave a) (gave b)
request_4 a b c = Fourth.request_4 a.handed b.handed c (gave a) (gave b) a.ran b.ran

pub request_5 : (a : Run) → Request5 a.handed (gave a)
request_5 a = Fifth.request_5 a.handed (gave a) a.ran
