-- Document 02, request 5, "Generous limits", in the customer's words, of what a run gave.
use Rattle.std.specs.Prelude.{◌≡◌, List, ◌↔◌, ℕ, ◌≤◌, ◌<◌, length}
use Rattle.std.specs.Prelude.{None}
use Rattle.reading.specs.Reading.{most_calls}
use Rattle.reading.specs.Outcome.{Input, refusal, RunOutcome}
use Rattle.reading.specs.Run.{Ran}
use Rattle.reading.specs.Demand2.{MatchOrFailure}

-- Document 01: "Call limit is any unsigned 32-bit number".
abbrev pub most_limit : ℕ
most_limit = 4294967295

-- "as a 64-bit number". Beside it, for request 13: a limit of N above 0 lets N counted calls in and no more, and just N after 11.
pub record CallsWithin (i : Input) (o : RunOutcome) : Type 0 where
  pub small : o.calls ≤ most_calls
  pub within : 0 < i.call_limit → o.calls ≤ i.call_limit
  pub spent : i.call_limit ≤ most_limit → o.outcome.number ≡ 11 → o.calls ≡ i.call_limit

-- "every run of the same grammar, text and area sizes that isn't refused": the areas may hold other numbers, and scratch may be of
-- another size. Request 4: "Here and later, runs compared so share root".
pub record AlsoRan (i j : Input) (p : RunOutcome) : Type 0 where
  pub before : List ℕ
  pub after : List ℕ
  pub ran : Ran j p before after
  pub started : refusal j ≡ None
  pub nodes : i.nodes ≡ j.nodes
  pub literals : i.literals ≡ j.literals
  pub text : i.text ≡ j.text
  pub root : i.root ≡ j.root
  pub tokens : length i.tokens ≡ length j.tokens
  pub report : length i.report ≡ length j.report

-- "with a call limit that is 0 or, the first being above 0, no smaller"
pub data NoSmaller (first : ℕ) : ℕ → Type 0 where
  without : NoSmaller first 0
  above : (second : ℕ) → 0 < first → first ≤ second → NoSmaller first second

-- "If a run gives 0 or 10, every run .. with no smaller depth limit, and with a call limit that is 0 or, the first being above 0, no
-- smaller, gives the same number, place, tokens and report", and the same count and calls.
pub record LargerLimits (i : Input) (o : RunOutcome) : Type 0 where
  pub same : MatchOrFailure o.outcome.number → (j : Input) (p : RunOutcome) → AlsoRan i j p
      → i.depth_limit ≤ j.depth_limit → NoSmaller i.call_limit j.call_limit → p ≡ o

-- "With limit 0 and such an ending, a limit of N above 0 ends the same way exactly when N is at least that count."
pub record EnoughCalls (i : Input) (o : RunOutcome) (j : Input) (p : RunOutcome) : Type 0 where
  pub exactly : j.call_limit ≤ most_limit → (p ≡ o) ↔ (o.calls ≤ j.call_limit)
  -- With a smaller N the other run's number is neither 0 nor 10.
  pub needed : MatchOrFailure p.outcome.number → o.calls ≤ j.call_limit

pub record Request5 (i : Input) (o : RunOutcome) : Type 0 where
  pub counted : CallsWithin i o
  pub larger : LargerLimits i o
  pub enough : i.call_limit ≡ 0 → MatchOrFailure o.outcome.number → (j : Input) (p : RunOutcome) → AlsoRan i j p
      → i.depth_limit ≡ j.depth_limit → 0 < j.call_limit → EnoughCalls i o j p
