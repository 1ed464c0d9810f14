-- The lines are the library's chunks, and each test of them is a part of `lined`.
use mathlib.Core.Path.{◌≡◌, sym, ◌∙◌}
use mathlib.Core.Bool.{true, false}
use Prim.Native.Nat.{◌%◌, ◌≤◌}
use lib.ListN.{length}
use Rattle.std.proofs.Common.{arith}
use Rattle.sheet.specs.Sheet.{count, lined}
use Rattle.sheet.proofs.SheetLaws.{chunks_cut, lined_not, lined_ends}
use Rattle.sheet.proofs.sheet.lines.Goals as goal

pub returns-then-not-is_empty : goal.returns-then-not-is_empty
returns-then-not-is_empty c = rw (lined_not c.args.sheet.now (grind arith))

pub returns-then-not-all_ended : goal.returns-then-not-all_ended
returns-then-not-all_ended c =
    let m : length c.args.sheet.now % 41 ≡ 0 = grind arith in
    let l : 1 ≤ count c.args.sheet.now = grind arith in
    let h : count c.args.sheet.now ≤ 4096 = grind arith in
    let e = c.as_chunks.ensures.front ∙ chunks_cut (count c.args.sheet.now) c.args.sheet.now in
    let x : lined c.args.sheet.now ≡ false = lined_ends c.args.sheet.now m l h ∙ rw (← e) (sym c.if-not-all_ended.ensures) in
    rw x

pub returns : goal.returns
returns c =
    let m : length c.args.sheet.now % 41 ≡ 0 = grind arith in
    let l : 1 ≤ count c.args.sheet.now = grind arith in
    let h : count c.args.sheet.now ≤ 4096 = grind arith in
    let e = c.as_chunks.ensures.front ∙ chunks_cut (count c.args.sheet.now) c.args.sheet.now in
    let x : lined c.args.sheet.now ≡ true = lined_ends c.args.sheet.now m l h ∙ rw (← e) (sym c.if-not-all_ended.ensures) in
    rw (x, e)
