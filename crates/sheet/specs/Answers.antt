-- The definitions' answers as the code's Option and Result: what the contracts of src/sheet.rt cite.
use Rattle.std.specs.Prelude.{ℕ, zero, suc, cond, List, Option, None, Some, Result, Ok, Err}
use Rattle.engine.specs.declared.state.Outcome.{Outcome}
use Rattle.sheet.specs.Sheet.{lines, lined, first_malformed, Reading, refused, outcome}
use Rattle.sheet.specs.declared.sheet.Refused.{Refused}
use Rattle.sheet.specs.declared.sheet.Refused.TheVariants.{Broken, Malformed, NoRoom}

-- The lines of a sheet that passes the first test.
abbrev pub lines_if_lined : List ℕ → Option (List (List ℕ))
lines_if_lined s = cond (lined s) (Some (lines s)) None

abbrev pub unless_zero : ℕ → Option ℕ
unless_zero zero = None
unless_zero (suc n) = Some (suc n)

-- The second test: the first line that has a malformed field.
abbrev pub malformed_line : List (List ℕ) → Option ℕ
malformed_line ls = unless_zero (first_malformed 1 ls)

-- Document 01's number and place of each refusal.
abbrev pub told : Refused → Reading
told Broken = refused 1 0
told (Malformed p) = refused 2 p
told NoRoom = refused 3 0

-- "Each returns number, place, count." "Reading's 0 returns place 0, count of lines".
abbrev pub answered : Result ℕ Refused → Outcome
answered (Ok k) = record { number = 0; place = 0; count = k }
answered (Err e) = outcome (told e)
