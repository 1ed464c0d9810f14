-- pest's stack within document 01's capacity, "128 entries, total debt 1,024": what pushing and popping answer, and how the code's
-- answers stand for it.
use Rattle.std.specs.Prelude.{List, [], ◌∷◌, ℕ, length, leb, ltb, if◌then◌else◌, Option, None, Some, Result, Ok, Err}
use Rattle.matching.specs.declared.span.Span as Code
use Rattle.engine.specs.declared.stack.Stack.{Stack}
use Rattle.engine.specs.declared.stack.Unpopped.{Unpopped}
use Rattle.reading.specs.Ending.{Span}
use Rattle.reading.specs.Reading.{most_entries, most_debt, debt}
use Rattle.reading.specs.Pest as Pest
use Rattle.engine.specs.Areas.{span, stack_of}

pub data Take : Type 0 where
  got : Pest.Stack → Span → Take
  empty : Take
  full : Take

-- "entry 129" stops.
abbrev pub pushed : Span → Pest.Stack → Option Pest.Stack
pushed x v = if leb most_entries (length v.cache) then None else Some (Pest.push x v)

-- "debt 1,025" stops.
abbrev pub taken_from : List Span → Pest.Stack → Take
taken_from [] v = empty
taken_from (x ∷ rest) v = if ltb most_debt (debt (Pest.pop x rest v).lengths) then full else got (Pest.pop x rest v) x

abbrev pub taken : Pest.Stack → Take
taken v = taken_from v.cache v

-- The code's answer, over the scratch that it speaks of.
abbrev pub take_of : (scratch : List ℕ) → Result (Stack × Code.Span) Unpopped → Take
take_of a (Ok (s, x)) = got (stack_of a s) (span x.start.0 x.end.0)
take_of a (Err Unpopped.Empty) = empty
take_of a (Err Unpopped.Full) = full
