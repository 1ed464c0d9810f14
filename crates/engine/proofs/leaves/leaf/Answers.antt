-- In each arm the kind is known; the match is what the tree of that kind does.
use mathlib.Core.Path.{refl}
use mathlib.Core.Logic.{inl, inr}
use Rattle.reading.proofs.Accepted.{accepted}
use Rattle.engine.proofs.TerminalSteps.{literal_in, scalars}
use Rattle.engine.proofs.LeafSteps.{leaf_1, leaf_2, leaf_3, leaf_4, leaf_5, fifth}
use borrow.Author.Rules.{rules}
use Rattle.engine.proofs.leaves.leaf.Goals as goal

pub match_literal-requires : goal.match_literal-requires
match_literal-requires c =
    literal_in _ _ (accepted _ _ c.args.g.now.accepted.0 c.args.g.now.accepted.1) _ c.requires.0 _ c.line_at-n.ensures 1 (inl refl) c.in-1.is

pub match_literal-requires-in-2 : goal.match_literal-requires-in-2
match_literal-requires-in-2 c =
    literal_in _ _ (accepted _ _ c.args.g.now.accepted.0 c.args.g.now.accepted.1) _ c.requires.0 _ c.line_at-n.ensures 2 (inr refl) c.in-2.is

pub overflow_cast-n : goal.overflow_cast-n
overflow_cast-n c =
    let h = (scalars _ _ (accepted _ _ c.args.g.now.accepted.0 c.args.g.now.accepted.1) _ c.requires.0 _ c.line_at-n.ensures c.in-3.is).0 in
    search rules

pub overflow_cast-n-in-3 : goal.overflow_cast-n-in-3
overflow_cast-n-in-3 c =
    let h = (scalars _ _ (accepted _ _ c.args.g.now.accepted.0 c.args.g.now.accepted.1) _ c.requires.0 _ c.line_at-n.ensures c.in-3.is).1 in
    search rules

pub returns-in-1 : goal.returns-in-1
returns-in-1 c = λ d m f x.
    let w = accepted _ _ c.args.g.now.accepted.0 c.args.g.now.accepted.1 in
    leaf_1 _ _ _ _ _ w _ c.requires.0 _ c.line_at-n.ensures m _ x c.in-1.is _ (c.match_literal.ensures m)

pub returns-in-2 : goal.returns-in-2
returns-in-2 c = λ d m f x.
    let w = accepted _ _ c.args.g.now.accepted.0 c.args.g.now.accepted.1 in
    leaf_2 _ _ _ _ _ w _ c.requires.0 _ c.line_at-n.ensures m _ x c.in-2.is f _ (c.match_literal-in-2.ensures m)

pub returns-in-3 : goal.returns-in-3
returns-in-3 c = λ d m f x.
    let w = accepted _ _ c.args.g.now.accepted.0 c.args.g.now.accepted.1 in
    leaf_3 _ _ _ _ _ w _ c.requires.0 _ c.line_at-n.ensures m _ x c.in-3.is _ c.match_range.ensures

pub returns-in-4 : goal.returns-in-4
returns-in-4 c = λ d m f x.
    let w = accepted _ _ c.args.g.now.accepted.0 c.args.g.now.accepted.1 in
    leaf_4 _ _ _ _ _ w _ c.requires.0 _ c.line_at-n.ensures m _ x c.in-4.is f _ c.skip.ensures

pub returns-in_default : goal.returns-in_default
returns-in_default c = λ d m f x.
    let w = accepted _ _ c.args.g.now.accepted.0 c.args.g.now.accepted.1 in
    leaf_5 _ _ _ _ _ w _ c.requires.0 _ c.line_at-n.ensures m _ x
    (fifth _ _ c.args.g.now.text.now c.args.g.now.room d w _ c.requires.0 _ c.line_at-n.ensures c.requires.1 (search rules))
    c.match_end.result c.match_end.ensures
