-- `listing_size` sums what each line took of an area that holds any line.
use mathlib.Core.Path.{refl}
use native.Mathlib.Omega.{arith}
use Rattle.sheet.proofs.WholeLaws.{Numbers, sized_head, sized_small, sized_more, sized_all}
use Rattle.sheet.proofs.listing.listing_size.Goals as goal

pub loop-k-init : goal.loop-k-init
loop-k-init c = let numbers : Numbers c.args.o c.args.tokens.now c.args.report.now =
    record {
      number = omega arith;
      place = omega arith;
      count = omega arith;
      in_tokens = λ i. omega (arith, c.type_inv.tokens i);
      in_report = λ i. omega (arith, c.type_inv.report i);
    }
    in
    (c.later_count-lines.ensures, sized_head _ _ _ _ _ _ numbers refl c.write_head-size.auto.out c.write_head-size.ensures)

pub slice_bounds-write_later-end : goal.slice_bounds-write_later-end
slice_bounds-write_later-end c = c.loop-k.invariant.1.room

pub overflow_add-size : goal.overflow_add-size
overflow_add-size c = omega (
  arith,
  sized_small _ _ _ _ _ _
      (sized_more _ _ _ _ _ _ c.loop-k.invariant.1 _ _ (omega arith) c.write_later-size.auto.out c.write_later-size.ensures),
)

pub loop-k-preserved : goal.loop-k-preserved
loop-k-preserved c = (
  c.loop-k.invariant.0,
  sized_more _ _ _ _ _ _ c.loop-k.invariant.1 _ _
      (omega (arith, c.loop-k.invariant.0, c.loop-k-test.true)) c.write_later-size.auto.out c.write_later-size.ensures,
)

pub returns : goal.returns
returns c = sized_all _ _ _ _ _ _ c.loop-k.invariant.1 (omega (arith, c.loop-k.invariant.0, c.loop-k-test.false))
