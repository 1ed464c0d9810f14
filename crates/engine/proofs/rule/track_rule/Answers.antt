-- Tracking is not due, is due in Atomic, keeps the attempts, or finds a list full.
use mathlib.Core.Path.{refl, ◌≡◌, ap, sym, ◌∙◌}
use mathlib.Core.Bool.{true, false}
use borrow.Author.Rules.{rules}
use mathlib.Core.List.{List}
use Prim.Native.Nat.{ℕ}
use Rattle.std.specs.Prelude.{option_map}
use Rattle.reading.specs.Ending.{Ok, is_negative, is_atomic}
use Rattle.reading.specs.Pest as Pest
use Rattle.engine.specs.declared.parser_state.ParserState.{ParserState}
use Rattle.engine.specs.Areas.{view}
use Rattle.engine.specs.Attempts.{tried}
use Rattle.engine.proofs.RuleLaws.{track_told, track_read, kept_view}
use Rattle.engine.proofs.rule.track_rule.Goals as goal

pub returns-in-Some : goal.returns-in-Some
returns-in-Some c = let a : List ℕ = c.args.scratch.now in
    let b : List ℕ = c.track.new.scratch in
    let s : ParserState = c.args.s.now in
    let off : is_atomic s.atomicity ≡ false = search rules in
    let negative : c.eq-negative.result ≡ is_negative s.lookahead = search rules in
    let due : c.args.due ≡ true = search rules in (
      λ g tokens. ap (λ (m : Pest.ParserState). Ok m) (kept_view tokens a b s c.in-Some.t c.requires.tall c.requires.owing c.track.ensures.1)
          ∙ track_told g c.args.due c.args.b.now.line c.args.b.now.rule c.args.b.now.position.0 c.args.b.now.noted
          (view tokens a s) _ _ _ (ap (option_map (tried b)) (sym c.in-Some.is))
          (track_read a _ _ refl c.args.b.now.rule c.args.b.now.position.0 c.args.b.now.noted c.eq-negative.result _ c.track.ensures.0)
          negative due off,
      c.track.ensures.1,
    )
