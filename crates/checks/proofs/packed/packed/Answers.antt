-- In each arm the ending is known, and the line that it names has 32 bits.
use mathlib.Core.Path.{ap, ◌∙◌}
use native.Mathlib.Omega.{arith}
use Rattle.reading.specs.declared.parser_state.Cause.TheVariants.{EmptyStack, TokensFull, StackFull, AttemptsFull}
use Rattle.reading.specs.declared.parser_state.Ending.TheVariants.{Ok, Err, Stop}
use Rattle.checks.proofs.PackedLaws.{packed_as}
use Rattle.checks.proofs.packed.packed.Goals as goal

pub returns-in-Err-clause-back : goal.returns-in-Err-clause-back
returns-in-Err-clause-back c = (packed_as Err c.in-Err.is tt).1

pub returns-in-Ok-clause-back : goal.returns-in-Ok-clause-back
returns-in-Ok-clause-back c = (packed_as Ok c.in-Ok.is tt).1

pub returns-in-EmptyStack-clause-back : goal.returns-in-EmptyStack-clause-back
returns-in-EmptyStack-clause-back c =
    (packed_as (Stop (EmptyStack c.in-EmptyStack.line)) (c.in-Stop.is ∙ ap Stop c.in-EmptyStack.is) (omega arith)).1

pub returns-in-TokensFull-clause-back : goal.returns-in-TokensFull-clause-back
returns-in-TokensFull-clause-back c =
    (packed_as (Stop (TokensFull c.in-TokensFull.line)) (c.in-Stop.is ∙ ap Stop c.in-TokensFull.is) (omega arith)).1

pub returns-in-StackFull-clause-back : goal.returns-in-StackFull-clause-back
returns-in-StackFull-clause-back c =
    (packed_as (Stop (StackFull c.in-StackFull.line)) (c.in-Stop.is ∙ ap Stop c.in-StackFull.is) (omega arith)).1

pub returns-in-AttemptsFull-clause-back : goal.returns-in-AttemptsFull-clause-back
returns-in-AttemptsFull-clause-back c =
    (packed_as (Stop (AttemptsFull c.in-AttemptsFull.line)) (c.in-Stop.is ∙ ap Stop c.in-AttemptsFull.is) (omega arith)).1
