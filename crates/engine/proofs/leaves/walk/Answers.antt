-- The invariant: from the line and the position so far, the evaluation comes to what it comes to from the first line.
use mathlib.Core.Path.{ap}
use mathlib.Core.Bool.{not}
use mathlib.Core.Path.{refl}
use mathlib.Core.Logic.{⊎_elim}
use native.Mathlib.Omega.{arith}
use borrow.Author.Tests.{not-false}
use Rattle.reading.specs.Pest.{set_position}
use Rattle.reading.proofs.Accepted.{accepted}
use Rattle.engine.proofs.LineSteps.{whole}
use Rattle.engine.proofs.LeafSteps.{kind_low, last_ok, last_err, right_in, left_line, right_line, on_right, over_right, done_ok}
use Rattle.engine.proofs.LeafSteps.{done_err, walked_on}
use Rattle.engine.proofs.leaves.walk.Goals as goal

pub returns-then-not-is_fork : goal.returns-then-not-is_fork
returns-then-not-is_fork c = λ d m f x.
    let o = c.loop-n.invariant.1 d m f x in
    walked_on _ _ _ _ d _ m _ _ o _ _ (c.last.ensures d (set_position c.loop-n.position.0 m) o.fit refl)

pub line_at-m-requires : goal.line_at-m-requires
line_at-m-requires c =
    let a = accepted _ _ c.args.g.now.accepted.0 c.args.g.now.accepted.1 in
    let f = c.is_fork.ensures.0 (not-false _ (ap not c.if-not-is_fork.false)) in
    whole _ _ a _ (left_line _ _ a _ c.loop-n.invariant.0 _ c.line_at-n.ensures f)

pub leaf-requires : goal.leaf-requires
leaf-requires c =
    let a = accepted _ _ c.args.g.now.accepted.0 c.args.g.now.accepted.1 in
    let f = c.is_fork.ensures.0 (not-false _ (ap not c.if-not-is_fork.false)) in
    (left_line _ _ a _ c.loop-n.invariant.0 _ c.line_at-n.ensures f, kind_low _ _ _ c.line_at-m.ensures (omega (arith, c.if-m-gt5.false)))

pub returns-then-n-eq7 : goal.returns-then-n-eq7
returns-then-n-eq7 c =
    let a = accepted _ _ c.args.g.now.accepted.0 c.args.g.now.accepted.1 in
    let f = c.is_fork.ensures.0 (not-false _ (ap not c.if-not-is_fork.false)) in
    λ d m fit x.
    let o = c.loop-n.invariant.1 d m fit x in
    done_ok _ _ a _ c.loop-n.invariant.0 _ c.line_at-n.ensures f _ _ d _ m _ o (λ k. omega (arith, k, c.if-n-eq7.true)) _
    (last_ok _ (set_position c.loop-n.position.0 m) _ _ (c.leaf.ensures d (set_position c.loop-n.position.0 m) o.fit refl) c.in-Some.is)

pub returns-then-n-eq6 : goal.returns-then-n-eq6
returns-then-n-eq6 c =
    let a = accepted _ _ c.args.g.now.accepted.0 c.args.g.now.accepted.1 in
    let f = c.is_fork.ensures.0 (not-false _ (ap not c.if-not-is_fork.false)) in
    λ d m fit x.
    let o = c.loop-n.invariant.1 d m fit x in
    done_err _ _ a _ c.loop-n.invariant.0 _ c.line_at-n.ensures f _ _ d _ m _ o c.if-n-eq6.true
    (last_err _ (set_position c.loop-n.position.0 m) _ _ refl (c.leaf.ensures d (set_position c.loop-n.position.0 m) o.fit refl) c.in-None.is)

pub loop-n-smaller-else-n-eq7 : goal.loop-n-smaller-else-n-eq7
loop-n-smaller-else-n-eq7 c =
    let a = accepted _ _ c.args.g.now.accepted.0 c.args.g.now.accepted.1 in
    let f = c.is_fork.ensures.0 (not-false _ (ap not c.if-not-is_fork.false)) in
    (right_in _ _ a _ c.loop-n.invariant.0 _ c.line_at-n.ensures f).1

pub loop-n-preserved-else-n-eq7 : goal.loop-n-preserved-else-n-eq7
loop-n-preserved-else-n-eq7 c =
    let a = accepted _ _ c.args.g.now.accepted.0 c.args.g.now.accepted.1 in
    let f = c.is_fork.ensures.0 (not-false _ (ap not c.if-not-is_fork.false)) in (
      right_line _ _ a _ c.loop-n.invariant.0 _ c.line_at-n.ensures f,
      λ d m fit x.
          let o = c.loop-n.invariant.1 d m fit x in
          on_right _ _ a _ c.loop-n.invariant.0 _ c.line_at-n.ensures f _ _ d _ m _ o (⊎_elim (λ k. k) (λ k. absurd (c.if-n-eq7.false k)) f) _
          (last_ok _ (set_position c.loop-n.position.0 m) _ _ (c.leaf.ensures d (set_position c.loop-n.position.0 m) o.fit refl) c.in-Some.is),
    )

pub loop-n-smaller : goal.loop-n-smaller
loop-n-smaller c =
    let a = accepted _ _ c.args.g.now.accepted.0 c.args.g.now.accepted.1 in
    let f = c.is_fork.ensures.0 (not-false _ (ap not c.if-not-is_fork.false)) in
    (right_in _ _ a _ c.loop-n.invariant.0 _ c.line_at-n.ensures f).1

pub loop-n-preserved : goal.loop-n-preserved
loop-n-preserved c =
    let a = accepted _ _ c.args.g.now.accepted.0 c.args.g.now.accepted.1 in
    let f = c.is_fork.ensures.0 (not-false _ (ap not c.if-not-is_fork.false)) in (
      right_line _ _ a _ c.loop-n.invariant.0 _ c.line_at-n.ensures f,
      λ d m fit x.
          let o = c.loop-n.invariant.1 d m fit x in
          over_right _ _ a _ c.loop-n.invariant.0 _ c.line_at-n.ensures f _ _ d _ m _ o c.if-n-eq6.false
          (last_err _ (set_position c.loop-n.position.0 m) _ _ refl (c.leaf.ensures d (set_position c.loop-n.position.0 m) o.fit refl) c.in-None.is),
    )
