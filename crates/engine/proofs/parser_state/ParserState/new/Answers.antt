-- The fields are the first state's. The cause, which the view does not show, is none.
use Rattle.engine.proofs.RunLaws.{first_is}
use Rattle.engine.proofs.parser_state.ParserState.new.Goals as goal

pub returns : goal.returns
returns c = first_is c.args.call_limit
