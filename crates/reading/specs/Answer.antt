-- What document 01 answers to pest's endings.
use Rattle.std.specs.Prelude.{List, [], ◌∷◌, ℕ}
use Rattle.std.specs.Prelude.{None, Some}
use Rattle.reading.specs.declared.parser_state.Cause.TheVariants.{EmptyStack}
use Rattle.reading.specs.Ending.{Ending, Ok, Err, Stop}
use Rattle.reading.specs.Forest.{Token, start_token, end_token}
use Rattle.reading.specs.Pest.{QueueableToken, Start, End, ParserState, Result, Pairs, CustomError, ParsingError, Panic}
use Rattle.reading.specs.Outcome.{Answer, of_tokens, of_limit, of_failure, of_cause, ascending}

-- The five numbers that a token of pest's stands for: "rule and tag are 0 in a Start".
abbrev pub token_of : QueueableToken → Token
token_of (Start i p) = start_token i p
token_of (End i r t p) = end_token i p r t

abbrev pub tokens_of : List QueueableToken → List Token
tokens_of [] = []
tokens_of (t ∷ q) = token_of t ∷ tokens_of q

-- To an ending of pest's with document 01's stops, as `answer` of Outcome is to the reading's.
abbrev pub pest_answer : Ending ParserState → Answer
pest_answer (Ok m) = elim m.call_tracker.limit_reached [ Some c ↦ of_limit c m.attempt_pos | None ↦ of_tokens (tokens_of m.queue) ]
pest_answer (Err m) =
    elim m.call_tracker.limit_reached [
      | Some c ↦ of_limit c m.attempt_pos
      | None ↦ of_failure m.attempt_pos (ascending m.pos_attempts) (ascending m.neg_attempts)
    ]
pest_answer (Stop h) = of_cause h.cause

-- The number of calls that a result carries, as `calls_of` of Outcome.
abbrev pub pest_calls : Ending ParserState → ℕ
pest_calls (Ok m) = m.call_tracker.calls
pest_calls (Err m) = m.call_tracker.calls
pest_calls (Stop h) = h.calls

-- To what pest's `state` gives. A panic is no answer of a run.
abbrev pub answer_to : Result → Answer
answer_to (Pairs q) = of_tokens (tokens_of q)
answer_to (CustomError c p) = of_limit c p
answer_to (ParsingError ps ns p) = of_failure p ps ns
answer_to Panic = of_cause (EmptyStack 0)
