-- The Start gets its partner and an End is pushed, there is no room for it, or the rule is not recorded.
use mathlib.Core.Path.{refl, ◌≡◌, ap, sym, ◌∙◌}
use mathlib.Core.Bool.{true, false, not}
use mathlib.Core.List.{List}
use Prim.Native.Nat.{ℕ}
use Rattle.engine.specs.declared.parser_state.ParserState.{ParserState}
use Rattle.reading.specs.Ending.{Ok}
use Rattle.reading.specs.Pest as Pest
use Rattle.reading.specs.Pest.{produces, End}
use Rattle.engine.specs.Areas.{view}
use Rattle.engine.specs.Tokens.{Paired, Pushed}
use Rattle.engine.proofs.RuleLaws.{close_ok, close_full, close_off, paired_queue, paired_at, pushed_at, one_more, room_yes, room_no}
use Rattle.engine.proofs.Steps.{passed_test, refused_test}
use Rattle.engine.proofs.rule.close_rule.Goals as goal

pub returns-then-not-produces-clause-state_after : goal.returns-then-not-produces-clause-state_after
returns-then-not-produces-clause-state_after c =
    let a : List ℕ = c.args.tokens.now in
    let s : ParserState = c.args.s.now in
    let off : ((scratch : List ℕ) → produces (view a scratch s) ≡ false) =
    λ scratch. sym (c.produces.ensures a scratch) ∙ refused_test _ (ap not c.if-not-produces.true) in
    λ g scratch e. close_off g c.args.b.now.line c.args.b.now.rule c.args.b.now.index.0 (view a scratch s) (off scratch)

pub returns-then-room-n-clause-state_after : goal.returns-then-room-n-clause-state_after
returns-then-room-n-clause-state_after c =
    let a : List ℕ = c.args.tokens.now in
    let s : ParserState = c.args.s.now in
    let on : ((scratch : List ℕ) → produces (view a scratch s) ≡ true) =
    λ scratch. sym (c.produces.ensures a scratch) ∙ passed_test _ (ap not c.if-not-produces.false) in
    λ g scratch e.
    close_full g c.args.b.now.line c.args.b.now.rule c.args.b.now.index.0 (view a scratch s) (on scratch)
    (room_no a _ _ refl c.args.room g.capacity e c.if-room-n.true)

pub returns-clause-state_after : goal.returns-clause-state_after
returns-clause-state_after c =
    let a : List ℕ = c.args.tokens.now in
    let b : List ℕ = c.pair_up.new.tokens in
    let d : List ℕ = c.push_end.new.tokens in
    let s : ParserState = c.args.s.now in
    let i : ℕ = c.args.b.now.index.0 in
    let on : ((scratch : List ℕ) → produces (view a scratch s) ≡ true) =
    λ scratch. sym (c.produces.ensures a scratch) ∙ passed_test _ (ap not c.if-not-produces.false) in
    let pair : Paired a i s.queue.0 b = paired_at a b s _ i refl c.pair_up.ensures in
    let push : Pushed b s.queue.0 (End i c.args.b.now.rule 0 s.position.0) d =
    pushed_at b d s _ _ (End i c.args.b.now.rule 0) refl refl c.push_end.ensures in
    λ g scratch e.
    ap (λ (m : Pest.ParserState). Ok m) (one_more d scratch s _ _ refl refl) ∙ close_ok g c.args.b.now.line c.args.b.now.rule i
    (view a scratch s) _ _ (on scratch)
    (room_yes a _ _ refl c.args.room g.capacity e c.if-room-n.false) (paired_queue a b i s.queue.0 pair) push.queue
