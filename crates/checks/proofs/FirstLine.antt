-- The first line that a test finds, as the search of a range answers it: the lines before it fail the test, and all do where there is none.
use mathlib.Core.Path.{◌≡◌, refl}
use mathlib.Core.Bool.{Bool, true, false}
use Rattle.std.specs.Prelude.{Option, None, Some, MatchOption}
use Prim.Native.Nat.{ℕ, zero, suc, ◌+◌, ◌≤◌, ◌<◌}
use native.Mathlib.Omega.{arith}
use native.Mathlib.Decide.{dec_lt}
use Rattle.reading.specs.Grammar.{first_line}

module _ (test : ℕ → Bool) where
  -- The lines from l on, before line i, fail the test.
  abbrev pub Fails : (l i : ℕ) → Type 0
  Fails l i = (k : ℕ) → l ≤ k → k < i → test k ≡ false

  none : (l n : ℕ) → Fails l (l + n) → None ≡ first_line test l n
  none l zero h = refl
  none l (suc n) h = rw (h l (omega arith) (omega arith)) (none (suc l) n (λ k a b. h k (omega arith) (omega arith)))

  some : (l n i : ℕ) → l ≤ i → i < l + n → test i ≡ true → Fails l i → Some i ≡ first_line test l n
  some l zero i a b e h = absurd (omega arith)
  some l (suc n) i a b e h =
      go (dec_lt l i) (λ (w : l < i). some (suc l) n i (omega arith) (omega arith) e (λ k x y. h k (omega arith) y))
    where
      go : Dec (l < i) → (l < i → Some i ≡ first_line test (suc l) n) → Some i ≡ first_line test l (suc n)
      go (yes w) rest = rw (h l (omega arith) w) (rest w)
      go (no w) rest = let z : l ≡ i = omega arith in rw (z, e)

  pub found_first : (n : ℕ) (r : Option ℕ)
      → MatchOption r (Fails 1 (n + 1)) (λ i. (1 ≤ i) × (i < n + 1) × (test i ≡ true) × Fails 1 i)
      → r ≡ first_line test 1 n
  found_first n None h = none 1 n (λ k a b. h k a (omega arith))
  found_first n (Some i) h = some 1 n i h.0 (omega arith) h.2 h.3
