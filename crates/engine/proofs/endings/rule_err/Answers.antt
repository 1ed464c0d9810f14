-- Tracking ends Ok, and the state that it left loses the rule's tokens; or it does not, and that is the end.
use mathlib.Core.Path.{◌≡◌, refl, ap}
use mathlib.Core.Bool.{not}
use Rattle.reading.specs.Ending.{Err, is_negative}
use Rattle.engine.proofs.RuleEnds.{after_err}
use borrow.Author.Rules.{rules}
use Rattle.engine.proofs.endings.rule_err.Goals as goal

pub returns-in-Ok : goal.returns-in-Ok
returns-in-Ok c =
    let due : c.ne-due.result ≡ not (is_negative c.args.s.now.lookahead) = search rules in
    λ g tokens.
    after_err g _ c.args.b.now _ tokens c.track_rule.new.scratch c.track_rule.new.s c.in-Ok.is (c.track_rule.ensures.0 g tokens) due
    (ap Err (c.drop_rule.ensures tokens c.track_rule.new.scratch))

pub returns-in-Err : goal.returns-in-Err
returns-in-Err c =
    let due : c.ne-due.result ≡ not (is_negative c.args.s.now.lookahead) = search rules in
    λ g tokens.
    after_err g _ c.args.b.now _ tokens c.track_rule.new.scratch c.track_rule.new.s c.in-Err.is (c.track_rule.ensures.0 g tokens) due refl

pub returns-in-Stop : goal.returns-in-Stop
returns-in-Stop c =
    let due : c.ne-due.result ≡ not (is_negative c.args.s.now.lookahead) = search rules in
    λ g tokens.
    after_err g _ c.args.b.now _ tokens c.track_rule.new.scratch c.track_rule.new.s c.in-Stop.is (c.track_rule.ensures.0 g tokens) due refl
