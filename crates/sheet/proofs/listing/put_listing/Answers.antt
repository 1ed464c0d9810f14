-- `put_listing` writes line behind line over the start of the area, each into what lies behind the others.
use native.Mathlib.Omega.{arith}
use Rattle.sheet.proofs.WholeLaws.{lined_head, lined_within, lined_place, lined_from, lined_more, lined_all}
use Rattle.sheet.proofs.listing.put_listing.Goals as goal

pub loop-k-init : goal.loop-k-init
loop-k-init c = (c.later_count-count.ensures, lined_head _ _ _ _ _ _ c.requires c.write_head-at.ensures c.write_head-at.auto.out)

pub slice_bounds-write_later-count : goal.slice_bounds-write_later-count
slice_bounds-write_later-count c = lined_within _ _ _ _ _ _ _ c.loop-k.invariant.1

pub slice_bounds-write_later-start : goal.slice_bounds-write_later-start
slice_bounds-write_later-start c = lined_within _ _ _ _ _ _ _ c.loop-k.invariant.1

pub overflow_add-at : goal.overflow_add-at
overflow_add-at c = let s = lined_more _ _ _ _ _ _ _ c.loop-k.invariant.1 _ _ (omega (arith, c.loop-k.invariant.0, c.loop-k-test.true))
    c.write_later-at.ensures in
    omega (arith, lined_place _ _ _ _ _ _ _ s, c.write_head-at.auto.out)

pub loop-k-preserved : goal.loop-k-preserved
loop-k-preserved c = (
  c.loop-k.invariant.0,
  lined_more _ _ _ _ _ _ _ c.loop-k.invariant.1 _ _
      (omega (arith, c.loop-k.invariant.0, c.loop-k-test.true)) c.write_later-at.ensures,
)

pub returns : goal.returns
returns c = lined_from _ _ _ _ _ _ c.requires c.write_head-at.ensures _ _
    (lined_all _ _ _ _ _ _ _ c.loop-k.invariant.1 (omega (arith, c.loop-k.invariant.0, c.loop-k-test.false)))
