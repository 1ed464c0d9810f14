-- The queue is cut, is short already, or is not the rule's.
use mathlib.Core.Path.{sym, ◌∙◌}
use Prim.Native.Nat.{ℕ}
use Rattle.engine.specs.declared.parser_state.ParserState.{ParserState}
use Rattle.engine.specs.Areas.{view, queue_of}
use Rattle.engine.proofs.TokenLaws.{queue_take, queue_length}
use Rattle.engine.proofs.RuleLaws.{drop_some, drop_none, drop_off}
use native.Mathlib.Omega.{arith}
use Rattle.engine.proofs.rule.drop_rule.Goals.{else-produces-via-then-produces+else-index-s, else-produces-via-else-produces}
use Rattle.engine.proofs.rule.drop_rule.Goals as goal

pub returns-then-index-s : goal.returns-then-index-s
returns-then-index-s c =
    let s : ParserState = c.args.s.now in
    let i : ℕ = c.args.index.0 in
    λ tokens scratch.
    drop_some i (view tokens scratch s) (queue_of tokens i) (sym (c.produces.ensures tokens scratch) ∙ c.if-produces.true)
    (sym (queue_take tokens s.queue.0 i (omega (arith, c.if-index-s.true))))

pub returns-else-produces : goal.returns-else-produces
returns-else-produces c =
    let s : ParserState = c.args.s.now in
    elim c.else-produces.branch [
      | else-produces-via-then-produces+else-index-s w ↦
          λ tokens scratch.
          drop_none c.args.index.0 (view tokens scratch s) (sym (c.produces.ensures tokens scratch) ∙ w.if-produces.true)
          (omega (arith, queue_length tokens s.queue.0, w.if-index-s.false))
      | else-produces-via-else-produces w ↦ λ tokens scratch. drop_off c.args.index.0 (view tokens scratch s)
          (sym (c.produces.ensures tokens scratch) ∙ w.if-produces.false)
    ]
