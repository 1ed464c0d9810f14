-- Demand 1, in the customer's words, of a sheet's grammar over a text: refused by 1 to 3 or by 4 to 9 with the areas left, or run to an
-- end.
use Rattle.std.specs.Prelude.{ℕ, ◌≤◌, ◌≡◌, List, ℤ, length}
use Rattle.engine.specs.Conclude.{run_outcome_of}
use Rattle.reading.specs.Demand1 as Run
use Rattle.sheet.specs.Area.{over}
use Rattle.sheet.specs.Sheet.{refused, read, reading}
use Rattle.files.specs.SheetRun.{Given, Back, handed}

-- "Refused by number, with the areas left as document 01 fixes": one of 1 to 3, and the node area and the run's three as they were.
pub record SheetRefused (number place : ℕ) (before after : List ℤ) (g : Given) (b : Back) : Type 0 where
  pub from : 1 ≤ number
  pub to : number ≤ 3
  pub answer : b.answer ≡ record { outcome = record { number = number; place = place; count = 0 }; calls = 0 }
  pub nodes : after ≡ before
  pub tokens : b.tokens ≡ g.tokens
  pub report : b.report ≡ g.report
  pub scratch : b.scratch ≡ g.scratch

-- A sheet that was read to these nodes, "and writes just their nodes". Demand 1 of the run over them, whose root is the last line: refused
-- by 4 to 9 (18 never comes: past 5 a sheet has a last line), with tokens, report and scratch as they were, or "accepted and run to an end"
-- in 0 or 10 to 16.
pub record SheetAccepted (ns before after : List ℤ) (g : Given) (b : Back) : Type 0 where
  pub nodes : after ≡ over ns before
  pub run : Run.Demand1 (handed ns g) (run_outcome_of b.answer b.tokens b.report) g.scratch b.scratch

pub record Demand1 (sheet : List ℕ) (before after : List ℤ) (g : Given) (b : Back) : Type 0 where
  pub refused : (n p : ℕ) → reading sheet (length before) ≡ refused n p → SheetRefused n p before after g b
  -- "Every other sheet".
  pub accepted : (k : ℕ) (ns : List ℤ) → reading sheet (length before) ≡ read k ns → SheetAccepted ns before after g b
