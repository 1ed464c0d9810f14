-- What the functions over an ending ask of it, and the two that say it more shortly than pest.
use Rattle.std.specs.Prelude.{Bool, true, List, ℕ, ◌≤◌, if◌then◌else◌}
use Rattle.matching.specs.declared.position.BytePosition.{BytePosition}
use Rattle.reading.specs.declared.parser_state.Atomicity.{Atomicity}
use Rattle.reading.specs.declared.parser_state.Ending as Declared
use Rattle.reading.specs.declared.parser_state.Ending.TheVariants as Code
use Rattle.engine.specs.declared.parser_state.ParserState as State
use Rattle.reading.specs.Ending.{Ending, Ok, Err, Stop}
use Rattle.reading.specs.Reading.{Setting}
use Rattle.reading.specs.Pest.{ParserState, set_atomicity, limit_reached, rule_end}
use Rattle.engine.specs.declared.rule.Begun.{Begun}
use Rattle.engine.specs.StackReady.{StateReady, PushReady}
use Rattle.engine.specs.Rule.{Recording, Tracking}

-- The ending's state is ready, and holds no fewer than n tokens.
abbrev pub EndReady : (scratch : List ℕ) → (n : ℕ) → State.ParserState → Declared.Ending → Type 0
EndReady a n s Code.Ok = StateReady a s × (n ≤ s.queue.0)
EndReady a n s Code.Err = StateReady a s × (n ≤ s.queue.0)
EndReady a n s (Code.Stop c) = Unit {0}

-- Of a push: only a matched body's span is pushed.
abbrev pub PushEndReady : (scratch : List ℕ) → (start : BytePosition) → State.ParserState → Declared.Ending → Type 0
PushEndReady a start s Code.Ok = PushReady a start s
PushEndReady a start s Code.Err = Unit {0}
PushEndReady a start s (Code.Stop c) = Unit {0}

-- Of a rule that matched: it may track an attempt and write its End.
abbrev pub RuleOkReady : (tokens scratch : List ℕ) → (capacity index : ℕ) → State.ParserState → Type 0
RuleOkReady t a capacity i s = Recording t capacity s × Tracking a s × (i ≤ capacity)

-- Of a rule, by its body's ending.
abbrev pub RuleEndReady : (tokens scratch : List ℕ) → (capacity index : ℕ) → State.ParserState → Declared.Ending → Type 0
RuleEndReady t a capacity i s Code.Ok = RuleOkReady t a capacity i s
RuleEndReady t a capacity i s Code.Err = Tracking a s
RuleEndReady t a capacity i s (Code.Stop c) = Unit {0}

-- `atomic`, after its body: the atomicity is toggled back, which is to set it.
abbrev pub atomic_back : Atomicity → Ending ParserState → Ending ParserState
atomic_back a (Ok m) = Ok (set_atomicity a m)
atomic_back a (Err m) = Err (set_atomicity a m)
atomic_back a (Stop c) = Stop c

-- `lookahead`, from the state that it returns to: `good`, where the body did what was asked.
abbrev pub looking : (good : Bool) → ParserState → Ending ParserState
looking good m = if limit_reached m then Err m else if good then Ok m else Err m

-- `rule`, after its body, from what it noted before.
abbrev pub rule_ended : Setting → Begun → Ending ParserState → Ending ParserState
rule_ended g b x = rule_end g true b.line b.rule b.position.0 b.index.0 b.noted.positives b.noted.negatives b.noted.total x
