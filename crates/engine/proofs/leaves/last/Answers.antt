-- A leaf's match ends the walk; any other line is left to others.
use native.Mathlib.Omega.{arith}
use Rattle.reading.proofs.Accepted.{accepted}
use Rattle.engine.proofs.LineSteps.{whole}
use Rattle.engine.proofs.LeafSteps.{kind_low, first_onto, last_ok, last_err}
use Rattle.engine.proofs.leaves.last.Goals as goal

pub line_at-n-requires : goal.line_at-n-requires
line_at-n-requires c = whole _ _ (accepted _ _ c.args.g.now.accepted.0 c.args.g.now.accepted.1) _ c.requires

pub returns-then-n-gt5 : goal.returns-then-n-gt5
returns-then-n-gt5 c = λ depth m f x. first_onto _ _ _ _ depth _ m _ c.requires f x

pub leaf-requires : goal.leaf-requires
leaf-requires c = (c.requires, kind_low _ _ _ c.line_at-n.ensures (omega (arith, c.if-n-gt5.false)))

pub returns-in-Some : goal.returns-in-Some
returns-in-Some c = λ depth m f x. last_ok _ _ _ _ (c.leaf.ensures depth m f x) c.in-Some.is

pub returns-in-None : goal.returns-in-None
returns-in-None c = λ depth m f x. last_err _ _ _ _ x (c.leaf.ensures depth m f x) c.in-None.is
