-- `put_six` writes the spaces and then the numeral behind them: two runs of stores that meet.
use native.Mathlib.Omega.{arith}
use lib.ListN.{length-append, length-drop, length-take}
use Rattle.sheet.proofs.ListingLaws.{six_length, six_put}
use Rattle.sheet.proofs.listing.put_six.Goals as goal

pub overflow_sub-start : goal.overflow_sub-start
overflow_sub-start c = omega (arith, six_length c.args.n)

pub slice_bounds-fill-count : goal.slice_bounds-fill-count
slice_bounds-fill-count c = omega (arith, six_length c.args.n)

pub slice_bounds-fill-start : goal.slice_bounds-fill-start
slice_bounds-fill-start c = omega (arith, six_length c.args.n)

pub put_numeral-requires : goal.put_numeral-requires
put_numeral-requires c = (
  omega (arith, six_length c.args.n),
  simp (length-append, length-drop, length-take) (omega (arith, six_length c.args.n, simp (length-take, length-drop) at c.fill.ensures.len)),
)

pub returns : goal.returns
returns c = (
  six_put _ _ _ _ _ _ _ _ c.width.ensures c.digits.ensures (omega arith) (c.fill.ensures.after (λ y e. e)) c.put_numeral.ensures.0
      c.put_numeral.ensures.1,
  omega arith,
)
