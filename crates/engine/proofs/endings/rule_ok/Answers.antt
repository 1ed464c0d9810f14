-- Tracking ends Ok, and the End is written to the state that it left; or it does not, and that is the end.
use mathlib.Core.Path.{◌≡◌, refl}
use Rattle.reading.specs.Ending.{is_negative}
use Rattle.engine.proofs.RuleEnds.{after_ok, recording_after}
use borrow.Author.Rules.{rules}
use Rattle.engine.proofs.endings.rule_ok.Goals as goal

pub close_rule-requires : goal.close_rule-requires
close_rule-requires c = (
  recording_after c.args.tokens.now c.args.scratch.now c.track_rule.new.scratch c.eq-due.result c.args.b.now c.args.s.now c.track_rule.new.s
      c.in-Ok.is c.track_rule.ensures.0 c.requires.0,
  c.requires.2,
)

pub returns-in-Ok : goal.returns-in-Ok
returns-in-Ok c =
    let due : c.eq-due.result ≡ is_negative c.args.s.now.lookahead = search rules in
    λ g h.
    after_ok g _ c.args.b.now _ c.args.tokens.now c.track_rule.new.scratch c.track_rule.new.s c.in-Ok.is
    (c.track_rule.ensures.0 g c.args.tokens.now) due
    (c.close_rule.ensures.state_after g c.track_rule.new.scratch h)

pub returns-in-Err : goal.returns-in-Err
returns-in-Err c =
    let due : c.eq-due.result ≡ is_negative c.args.s.now.lookahead = search rules in
    λ g h.
    after_ok g _ c.args.b.now _ c.args.tokens.now c.track_rule.new.scratch c.track_rule.new.s c.in-Err.is
    (c.track_rule.ensures.0 g c.args.tokens.now) due refl

pub returns-in-Stop : goal.returns-in-Stop
returns-in-Stop c =
    let due : c.eq-due.result ≡ is_negative c.args.s.now.lookahead = search rules in
    λ g h.
    after_ok g _ c.args.b.now _ c.args.tokens.now c.track_rule.new.scratch c.track_rule.new.s c.in-Stop.is
    (c.track_rule.ensures.0 g c.args.tokens.now) due refl
