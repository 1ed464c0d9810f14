-- An ending as one number, and back (law: `unpacked_packed` of proofs/PackedLaws): 0 is Err, 1 is Ok, and a stop is 4 times its line,
-- plus 2, plus its cause's number from 0 to 3.
use Rattle.std.specs.Prelude.{ℕ, ◌+◌, ◌-◌, ◌*◌, ◌/◌, ◌%◌, eqb, if◌then◌else◌}
use Rattle.reading.specs.declared.parser_state.Cause.{Cause}
use Rattle.reading.specs.declared.parser_state.Cause.TheVariants.{EmptyStack, TokensFull, StackFull, AttemptsFull}
use Rattle.reading.specs.declared.parser_state.Ending.{Ending}
use Rattle.reading.specs.declared.parser_state.Ending.TheVariants.{Ok, Err, Stop}

abbrev pub packed : Ending → ℕ
packed Err = 0
packed Ok = 1
packed (Stop (EmptyStack line)) = line * 4 + 2
packed (Stop (TokensFull line)) = line * 4 + 3
packed (Stop (StackFull line)) = line * 4 + 4
packed (Stop (AttemptsFull line)) = line * 4 + 5

abbrev pub cause_of : (number line : ℕ) → Cause
cause_of n l =
    if eqb n 0 then EmptyStack l else if eqb n 1 then TokensFull l else if eqb n 2 then StackFull l else AttemptsFull l

-- The ending that a number stands for. (A cause's line has 32 bits in the code.)
unfoldable pub unpacked : ℕ → Ending
unpacked n = if eqb n 0 then Err else if eqb n 1 then Ok else Stop (cause_of ((n - 2) % 4) ((n - 2) / 4 % 4294967296))
