-- What one write does to a region of numbers, and an area zeroed.
use mathlib.Core.Path.{◌≡◌, sym, ap₂, ◌∙◌}
use mathlib.Core.List.{List, [], ◌∷◌, ◌++◌}
use Prim.Native.Nat.{ℕ, zero, suc, ◌+◌, ◌≤◌, ◌<◌}
use native.Mathlib.Omega.{arith}
use native.Mathlib.Decide.{dec_le}
use native.Mathlib.Numerals.{add-one, unary_clauses}
use lib.ListN.{length, get_or, take, set, replicate}
use lib.Seq.{get_or-set_same, take-append-le, take_all}
use Rattle.engine.specs.Areas.{numbers, Outside}
use Rattle.reading.specs.Outcome.{filled}
use Rattle.engine.proofs.Regions.{outside_wider, outside_set, same_below, numbers_length, numbers_same}

-- a write within [lo, hi)
pub outside_set_in : (a : List ℕ) (lo hi i v : ℕ) → lo ≤ i → i < hi → Outside lo hi a (set a i v)
outside_set_in a lo hi i v p q = outside_wider p (omega arith) (outside_set a i v)

-- ── A region of numbers ──
-- one number more
pub numbers_set : (a : List ℕ) (at n x : ℕ) → at + n < length a → numbers (set a (at + n) x) at (n + 1) ≡ numbers a at n ++ (x ∷ [])
unfolding numbers
numbers_set a at n x h =
    rw (add-one n)
    (ap₂ (λ (l : List ℕ) (u : ℕ). l ++ (u ∷ []))
    (sym (numbers_same a (set a (at + n) x) at n (same_below at (at + n) (omega arith) (outside_set a (at + n) x))))
    (get_or-set_same a (at + n) x 0 h))

pub numbers_take : (a : List ℕ) (at n m : ℕ) → m ≤ n → take m (numbers a at n) ≡ numbers a at m
unfolding numbers
numbers_take a at zero m h = let e : m ≡ 0 = omega arith in rw e
numbers_take a at (suc n) m h = go (λ l. numbers_take a at n m l) (dec_le m n)
  where
    go : (m ≤ n → take m (numbers a at n) ≡ numbers a at m) → Dec (m ≤ n) → take m (numbers a at n ++ (get_or a (at + n) 0 ∷ [])) ≡ numbers a at m
    go r (yes l) = take-append-le m (numbers a at n) (get_or a (at + n) 0 ∷ []) (rw (numbers_length a at n) l) ∙ r l
    go r (no f) =
        let e : m ≡ suc n = omega arith in
        rw e (take_all (suc n) (numbers a at (suc n)) (omega (arith, numbers_length a at (suc n))))

-- A whole area zeroed.
pub cleared : (a : List ℕ) {b : List ℕ} → b ≡ replicate (length a) 0 → b ≡ filled (length a) []
cleared a e = simp unary_clauses e
