-- Demand 1, in the customer's words, of a sheet's reading: the rows 1 to 3 of document 01's table, in order, and "Every other sheet".
use Rattle.std.specs.Prelude.{ℕ, ◌*◌, ◌≤◌, ◌<◌, ◌≡◌, true, false, List, ℤ, length}
use Rattle.engine.specs.declared.state.Outcome.{Outcome}
use Rattle.sheet.specs.Area.{over}
use Rattle.sheet.specs.Sheet.{count, lines, lined, first_malformed, numbers}

-- "Refused by number, with the areas left as document 01 fixes": number and place, count 0, and the node area as it was.
pub record Refused (number place : ℕ) (before after : List ℤ) (r : Outcome) : Type 0 where
  pub answer : r ≡ record { number = number; place = place; count = 0 }
  pub nodes : after ≡ before

-- "Reading's 0 returns place 0, count of lines, and writes just their nodes": four numbers a line, and what lies behind them as it was.
pub record Accepted (sheet : List ℕ) (before after : List ℤ) (r : Outcome) : Type 0 where
  pub answer : r ≡ record { number = 0; place = 0; count = count sheet }
  pub nodes : after ≡ over (numbers (lines sheet)) before
  pub fours : length (numbers (lines sheet)) ≡ count sheet * 4

pub record Demand1 (sheet : List ℕ) (before after : List ℤ) (r : Outcome) : Type 0 where
  -- "sheet empty, broken line, over 4,096 lines": "0, 0"
  pub broken : lined sheet ≡ false → Refused 1 0 before after r
  -- "malformed field": "first line, 0"
  pub malformed :
      lined sheet ≡ true → (first_malformed 1 (lines sheet) ≡ 0 → ⊥) → Refused 2 (first_malformed 1 (lines sheet)) before after r
  -- "node area short": "0, 0"
  pub short :
      lined sheet ≡ true → first_malformed 1 (lines sheet) ≡ 0 → length before < count sheet * 4 → Refused 3 0 before after r
  -- "Every other sheet .. is accepted".
  pub accepted :
      lined sheet ≡ true → first_malformed 1 (lines sheet) ≡ 0 → count sheet * 4 ≤ length before → Accepted sheet before after r
