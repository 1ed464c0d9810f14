-- The first byte has no row of RFC 3629's table, or the row of its arm.
use mathlib.Core.Path.{refl, sym}
use native.Mathlib.Omega.{arith}
use Rattle.matching.proofs.Lead.{row_gap, row_over}
use Rattle.matching.proofs.Steps.{no_row, by_its_row}
use Rattle.matching.proofs.utf8.multibyte.Goals as goal

pub returns-then-a-lt194 : goal.returns-then-a-lt194
returns-then-a-lt194 c =
    sym (no_row c.args.s.now c.args.at c.args.a c.requires.0 c.requires.1 (row_gap c.args.a (omega arith) (omega arith)))

pub returns-then-a-lt224 : goal.returns-then-a-lt224
returns-then-a-lt224 c =
    by_its_row c.args.s.now c.args.at c.args.a c.requires.0 c.requires.1 1 refl (omega arith) (omega arith) c.of_two.ensures

pub returns-in-224 : goal.returns-in-224
returns-in-224 c =
    by_its_row c.args.s.now c.args.at c.args.a c.requires.0 c.requires.1 2 refl (omega arith) (omega arith) c.of_three.ensures

pub returns-in-225-to-236 : goal.returns-in-225-to-236
returns-in-225-to-236 c =
    by_its_row c.args.s.now c.args.at c.args.a c.requires.0 c.requires.1 3 refl (omega arith) (omega arith) c.of_three-in-225-to-236.ensures

pub returns-in-237 : goal.returns-in-237
returns-in-237 c =
    by_its_row c.args.s.now c.args.at c.args.a c.requires.0 c.requires.1 4 refl (omega arith) (omega arith) c.of_three-in-237.ensures

pub returns-in-238-to-239 : goal.returns-in-238-to-239
returns-in-238-to-239 c =
    by_its_row c.args.s.now c.args.at c.args.a c.requires.0 c.requires.1 5 refl (omega arith) (omega arith) c.of_three-in-238-to-239.ensures

pub returns-in-240 : goal.returns-in-240
returns-in-240 c =
    by_its_row c.args.s.now c.args.at c.args.a c.requires.0 c.requires.1 6 refl (omega arith) (omega arith) c.of_four.ensures

pub returns-in-241-to-243 : goal.returns-in-241-to-243
returns-in-241-to-243 c =
    by_its_row c.args.s.now c.args.at c.args.a c.requires.0 c.requires.1 7 refl (omega arith) (omega arith) c.of_four-in-241-to-243.ensures

pub returns-in-244 : goal.returns-in-244
returns-in-244 c =
    by_its_row c.args.s.now c.args.at c.args.a c.requires.0 c.requires.1 8 refl (omega arith) (omega arith) c.of_four-in-244.ensures

pub returns-in_default : goal.returns-in_default
returns-in_default c =
    sym (no_row c.args.s.now c.args.at c.args.a c.requires.0 c.requires.1 (row_gap c.args.a (omega arith) (omega arith)))

pub returns-in_default-2 : goal.returns-in_default-2
returns-in_default-2 c =
    sym (no_row c.args.s.now c.args.at c.args.a c.requires.0 c.requires.1 (row_over c.args.a (omega arith)))
