-- Demand 3, in the customer's words, of what two started runs gave.
use Rattle.std.specs.Prelude.{◌≡◌, ◌↔◌, ℕ, ◌*◌, length, take}
use mathlib.Core.List.{List, Memᴰ}
use Rattle.std.specs.Prelude.{None}
use Rattle.reading.specs.Ending.{Ending, Ok, Err}
use Rattle.reading.specs.Forest.{Forest, tokens}
use Rattle.reading.specs.Reading.{State, Attempts}
use Rattle.reading.specs.Outcome.{Input, reading, ascending, report_of, numbers, filled, Outcome}

-- "The reading's forest is the siblings it ends with": it comes to 0 with a forest.
pub data Parses : Ending State → Forest → Type 0 where
  parses : (s : State) → s.tracker.cause ≡ None → Parses (Ok s) s.siblings

-- "its two sets the rules then in its positive and in its negative list": it comes to 10 with attempts.
pub data Fails : Ending State → Attempts → Type 0 where
  fails : (s : State) → s.tracker.cause ≡ None → Fails (Err s) s.attempts

-- The two lists hold the same numbers.
abbrev pub SameSet : List ℕ → List ℕ → Type 0
SameSet l m = (y : ℕ) → Memᴰ y l ↔ Memᴰ y m

-- A run's token list: "the first count tokens". Its error report: "the first 515 numbers".
abbrev pub token_list : Outcome → List ℕ
token_list o = take (o.count * 5) o.tokens

abbrev pub error_report : Outcome → List ℕ
error_report o = take 515 o.report

-- "Each gives 0 exactly when document 01's reading, stops included, comes to 0, and 10 exactly when it comes to 10, with that
-- reading's tokens or report as laid out there."
pub record Each (i : Input) (o : Outcome) : Type 0 where
  pub zero_exactly : (o.number ≡ 0) ↔ ((f : Forest) × Parses (reading i) f)
  pub ten_exactly : (o.number ≡ 10) ↔ ((a : Attempts) × Fails (reading i) a)
  pub tokens_laid : (f : Forest) → Parses (reading i) f → o.tokens ≡ filled (length i.tokens) (numbers (tokens f))
  pub count_laid : (f : Forest) → Parses (reading i) f → o.count ≡ length (tokens f)
  pub report_laid : (a : Attempts) → Fails (reading i) a
      → o.report ≡ filled (length i.report) (report_of a.furthest (ascending a.positive) (ascending a.negative))

pub record Demand3 (i j : Input) (o p : Outcome) : Type 0 where
  pub first : Each i o
  pub second : Each j p
  -- "If both parsed, their token lists are equal exactly when that reading gives both the same forest"
  pub same_tokens : (f h : Forest) → Parses (reading i) f → Parses (reading j) h → (token_list o ≡ token_list p) ↔ (f ≡ h)
  -- "If both failed to match, their error reports are equal exactly when that reading gives both the same furthest position, the same
  -- set of positive rules and the same set of negative rules."
  pub same_reports : (a b : Attempts) → Fails (reading i) a → Fails (reading j) b
      → (error_report o ≡ error_report p) ↔ ((a.furthest ≡ b.furthest) × SameSet a.positive b.positive × SameSet a.negative b.negative)
