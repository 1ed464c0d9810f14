-- A Start is pushed, there is no room for it, or the rule is not recorded.
use mathlib.Core.Path.{refl, ◌≡◌, ap, sym, ◌∙◌}
use mathlib.Core.Bool.{true, false, not}
use mathlib.Core.List.{List}
use Prim.Native.Nat.{ℕ}
use Rattle.engine.specs.declared.parser_state.ParserState.{ParserState}
use Rattle.reading.specs.Ending.{Ok}
use Rattle.reading.specs.Pest as Pest
use Rattle.reading.specs.Pest.{produces, Start}
use Rattle.engine.specs.Areas.{view}
use Rattle.engine.specs.Tokens.{Pushed}
use Rattle.engine.proofs.RuleLaws.{start_ok, start_full, start_off, pushed_at, one_more, room_yes, room_no}
use Rattle.engine.proofs.Steps.{passed_test, refused_test}
use Rattle.engine.proofs.rule.start_rule.Goals as goal

pub returns-then-not-produces-clause-state_after : goal.returns-then-not-produces-clause-state_after
returns-then-not-produces-clause-state_after c =
    let a : List ℕ = c.args.tokens.now in
    let s : ParserState = c.args.s.now in
    let off : ((scratch : List ℕ) → produces (view a scratch s) ≡ false) =
    λ scratch. sym (c.produces.ensures a scratch) ∙ refused_test _ (ap not c.if-not-produces.true) in
    λ g scratch e. start_off g c.args.line (view a scratch s) (off scratch)

pub returns-then-room-n-clause-state_after : goal.returns-then-room-n-clause-state_after
returns-then-room-n-clause-state_after c =
    let a : List ℕ = c.args.tokens.now in
    let s : ParserState = c.args.s.now in
    let on : ((scratch : List ℕ) → produces (view a scratch s) ≡ true) =
    λ scratch. sym (c.produces.ensures a scratch) ∙ passed_test _ (ap not c.if-not-produces.false) in
    λ g scratch e.
    start_full g c.args.line (view a scratch s) (on scratch) (room_no a _ _ refl c.args.room g.capacity e c.if-room-n.true)

pub returns-clause-state_after : goal.returns-clause-state_after
returns-clause-state_after c =
    let a : List ℕ = c.args.tokens.now in
    let b : List ℕ = c.push_start.new.tokens in
    let s : ParserState = c.args.s.now in
    let on : ((scratch : List ℕ) → produces (view a scratch s) ≡ true) =
    λ scratch. sym (c.produces.ensures a scratch) ∙ passed_test _ (ap not c.if-not-produces.false) in
    let push : Pushed a s.queue.0 (Start 0 s.position.0) b = pushed_at a b s _ _ (Start 0) refl refl c.push_start.ensures in
    λ g scratch e.
    ap (λ (m : Pest.ParserState). Ok m) (one_more b scratch s _ _ refl refl) ∙ start_ok g c.args.line (view a scratch s) _ (on scratch)
    (room_yes a _ _ refl c.args.room g.capacity e c.if-room-n.false) push.queue
