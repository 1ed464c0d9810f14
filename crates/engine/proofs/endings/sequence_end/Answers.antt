-- The queue cut to an index is the area's first tokens.
use mathlib.Core.Path.{refl, ap, subst, ◌∙◌}
use Rattle.reading.specs.Ending.{Err}
use Rattle.reading.specs.Pest.{restored}
use Rattle.engine.specs.declared.parser_state.ParserState.{ParserState}
use Rattle.engine.specs.Ends.{EndReady}
use Rattle.engine.proofs.EndLaws.{cut_view}
use Rattle.engine.proofs.endings.sequence_end.Goals as goal

pub returns-in-Err : goal.returns-in-Err
returns-in-Err c = let s : ParserState = c.args.s.now in
    let short = (subst (EndReady c.args.scratch.now c.args.queue.0 s) c.in-Err.is c.requires).1 in
    λ tokens.
    let cut = cut_view c.args.scratch.now s _ c.args.position c.args.queue s.lookahead refl tokens short in
    rw c.in-Err.is (ap Err (c.restored.ensures.state_after tokens ∙ ap restored cut))
