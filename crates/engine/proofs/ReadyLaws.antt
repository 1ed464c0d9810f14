-- Each call of the stack finds what it asks, since pest's operations keep every stack sound; and what the stack's functions and the
-- attempts' leave to one another.
use mathlib.Core.Path.{◌≡◌, sym, ap}
use mathlib.Core.List.{List}
use Prim.Native.Nat.{ℕ, ◌+◌, ◌*◌, ◌≤◌}
use native.Mathlib.Omega.{arith}
use lib.ListN.{length}
use Rattle.engine.specs.declared.stack.Stack.{Stack}
use Rattle.reading.specs.Pest as Pest
use Rattle.engine.specs.Areas.{numbers, span, checkpoint, stack_of, Outside}
use Rattle.reading.specs.Sound.{Sound}
use Rattle.engine.specs.StackReady.{StackReady, OutsideStack}
use Rattle.reading.proofs.StackLaws.{pest}
use Rattle.reading.proofs.SoundLaws.{fits_high}
use Rattle.engine.proofs.Regions.{pairs_length, pairs_same, numbers_same, same_below, same_above}

-- ── What the next call asks ──
pub ready_of : (a : List ℕ) (s : Stack) → 4864 ≤ length a → Sound (stack_of a s) → length (stack_of a s).lengths ≤ 1024 → StackReady a s
ready_of a s r v k = record {
  room = r;
  tall = omega (arith, pairs_length span a 0 s.height, fits_high v.fits);
  owing = omega (arith, pairs_length span a 256 s.popped, v.owed, v.low);
  few = omega (arith, pairs_length checkpoint a 2816 s.checkpoints);
  sound = v;
}

-- From the equation that a call ensures: v is what Pest's operation gives, b and s are scratch and the stack after the call.
pub ready_after : (a b : List ℕ) (s : Stack) (v : Pest.Stack) → 4864 ≤ length a → OutsideStack a b → stack_of b s ≡ v → Sound v
    → length v.lengths ≤ 1024 → StackReady b s
ready_after a b s v r o e f k = ready_of b s (omega (arith, o.size)) (rw e f) (omega (arith, ap (λ (w : Pest.Stack). length w.lengths) e))

-- ── Stack and attempts, left to one another ──
module _ (a b : List ℕ) (o : OutsideStack a b) where
  pub positives_kept : (n : ℕ) → n ≤ 256 → numbers b 2304 n ≡ numbers a 2304 n
  positives_kept n h = sym (numbers_same a b 2304 n (λ k l m. o.between k (omega arith) (omega arith)))

  pub negatives_kept : (n : ℕ) → n ≤ 256 → numbers b 2560 n ≡ numbers a 2560 n
  negatives_kept n h = sym (numbers_same a b 2560 n (λ k l m. o.between k (omega arith) (omega arith)))

-- A function of the attempts leaves the stack as it was.
pub stack_kept : (a b : List ℕ) (s : Stack) → Outside 2304 2816 a b → s.height ≤ 128 → s.popped ≤ 1024 → stack_of b s ≡ stack_of a s
stack_kept a b s o h p = sym (λ i. pest
    (pairs_same span a b 0 s.height (same_below 0 (0 + s.height * 2) (omega arith) o) i)
    (pairs_same span a b 256 s.popped (same_below 256 (256 + s.popped * 2) (omega arith) o) i)
    (pairs_same checkpoint a b 2816 s.checkpoints (same_above 2816 (2816 + s.checkpoints * 2) (omega arith) o) i))
