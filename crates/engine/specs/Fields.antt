-- The code's state (src/parser_state.rt) with one field changed.
use Rattle.matching.specs.declared.position.BytePosition.{BytePosition}
use Rattle.matching.specs.declared.position.TokenIndex.{TokenIndex}
use Rattle.reading.specs.declared.parser_state.Lookahead.{Lookahead}
use Rattle.reading.specs.declared.parser_state.Atomicity.{Atomicity}
use Rattle.engine.specs.declared.attempts.Attempts.{Attempts}
use Rattle.engine.specs.declared.stack.Stack.{Stack}
use Rattle.engine.specs.declared.parser_state.ParserState.{ParserState}

abbrev pub set_position : BytePosition → ParserState → ParserState
set_position p s = record s { position = p }

abbrev pub set_queue : TokenIndex → ParserState → ParserState
set_queue n s = record s { queue = n }

abbrev pub set_attempts : Attempts → ParserState → ParserState
set_attempts t s = record s { attempts = t }

abbrev pub set_stack : Stack → ParserState → ParserState
set_stack v s = record s { stack = v }

abbrev pub set_lookahead : Lookahead → ParserState → ParserState
set_lookahead l s = record s { lookahead = l }

abbrev pub set_atomicity : Atomicity → ParserState → ParserState
set_atomicity a s = record s { atomicity = a }
