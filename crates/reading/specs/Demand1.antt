-- Demand 1, in the customer's words, of what a run gave. Of a sheet's reading (1 to 3) the crate sheet has the same.
use Rattle.std.specs.Prelude.{◌≡◌, List, ℕ, ◌≤◌, length}
use Rattle.std.specs.Prelude.{None, Some}
use Rattle.matching.specs.Utf8.{Edge}
use Rattle.reading.specs.Ending.{Halted, Ending, Ok, Err, Stop}
use Rattle.reading.specs.Reading.{State, most_entries, most_debt, most_attempts, debt, held}
use Rattle.reading.specs.Outcome.{Input, Refusal, refusal, setting, reading, of_cause, started, RunOutcome}

-- At its end a run stands at a character edge of the text, and no list has passed its bound.
pub record Bounded (i : Input) (t : State) : Type 0 where
  pub edge : Edge i.text t.position
  pub entries : length t.stack ≤ most_entries
  pub owed : debt t.checkpoints ≤ most_debt
  pub tokens : held t ≤ (setting i).capacity
  pub inside : t.attempts.furthest ≤ length i.text
  pub positives : length t.attempts.positive ≤ most_attempts
  pub negatives : length t.attempts.negative ≤ most_attempts

pub data Within (i : Input) : Ending State → Type 0 where
  bounded_ok : (t : State) → Bounded i t → Within i (Ok t)
  bounded_err : (t : State) → Bounded i t → Within i (Err t)
  bounded_stop : (h : Halted) → Within i (Stop h)

-- The numbers of a run's refusals: 4 to 9 and (document 02, request 4) 18.
pub data Refusing : ℕ → Type 0 where
  tested : (n : ℕ) → 4 ≤ n → n ≤ 9 → Refusing n
  no_root : Refusing 18

-- "Refused by number, with the areas left as document 01 fixes": all areas as they were.
pub record Refused (i : Input) (r : Refusal) (o : RunOutcome) (before after : List ℕ) : Type 0 where
  pub by : Refusing r.number
  pub number : o.outcome.number ≡ r.number
  pub place : o.outcome.place ≡ r.place
  pub count : o.outcome.count ≡ 0
  -- (document 02, request 5) "0 if it never started"
  pub calls : o.calls ≡ 0
  pub tokens : o.outcome.tokens ≡ i.tokens
  pub report : o.outcome.report ≡ i.report
  pub scratch : after ≡ before

-- "run to an end": 0, or 10 to 16.
pub data Ended : ℕ → Type 0 where
  with_tokens : Ended 0
  without : (n : ℕ) → 10 ≤ n → n ≤ 16 → Ended n

-- `before` and `after`: scratch.
pub record Demand1 (i : Input) (o : RunOutcome) (before after : List ℕ) : Type 0 where
  pub refused : (r : Refusal) → refusal i ≡ Some r → Refused i r o before after
  -- "Every other sheet, text and limit is accepted and run to an end."
  pub accepted : refusal i ≡ None → Ended o.outcome.number
  -- "full lists, a pop of an empty stack": their numbers, both areas zeroed, and the calls entered by then.
  pub full : refusal i ≡ None → (h : Halted) → reading i ≡ Stop h → (o.outcome ≡ started i (of_cause h.cause)) × (o.calls ≡ h.calls)
  -- So nothing is cut silently.
  pub within : refusal i ≡ None → Within i (reading i)
