-- Regions of an area: what a function that writes within [lo, hi) leaves, and what a written pair or number does to its region.
use mathlib.Core.Path.{◌≡◌, refl, sym, ap, ap₂, ◌∙◌}
use mathlib.Core.List.{List, [], ◌∷◌, ◌++◌}
use Prim.Native.Nat.{ℕ, zero, suc, ◌+◌, ◌*◌, ◌≤◌, ◌<◌}
use native.Mathlib.Omega.{arith}
use native.Mathlib.Numerals.{add-one}
use lib.ListN.{length, get_or, drop, set, length-set, length-append}
use lib.Seq.{get_or-set_same, get_or-set_other}
use Rattle.engine.specs.Areas.{pairs, numbers, Outside}
use Rattle.engine.specs.Pairs.{put}
use Rattle.engine.specs.StackReady.{OutsideStack}

-- ── Frames ──
-- a and b agree on [lo, hi).
abbrev pub Same : (lo hi : ℕ) → List ℕ → List ℕ → Type 0
Same lo hi a b = (k : ℕ) → lo ≤ k → k < hi → get_or a k 0 ≡ get_or b k 0

pub outside_refl : {lo hi : ℕ} (a : List ℕ) → Outside lo hi a a
outside_refl a = record { size = refl; below = λ k l. refl; above = λ k l. refl }

pub outside_trans : {lo hi : ℕ} {a b c : List ℕ} → Outside lo hi a b → Outside lo hi b c → Outside lo hi a c
outside_trans p q = record { size = q.size ∙ p.size; below = λ k l. p.below k l ∙ q.below k l; above = λ k l. p.above k l ∙ q.above k l }

pub outside_wider : {lo hi lo' hi' : ℕ} {a b : List ℕ} → lo' ≤ lo → hi ≤ hi' → Outside lo hi a b → Outside lo' hi' a b
outside_wider p q o = record { size = o.size; below = λ k l. o.below k (omega arith); above = λ k l. o.above k (omega arith) }

pub same_below : {lo hi : ℕ} {a b : List ℕ} (from to : ℕ) → to ≤ lo → Outside lo hi a b → Same from to a b
same_below from to h o = λ k l m. o.below k (omega arith)

pub same_above : {lo hi : ℕ} {a b : List ℕ} (from to : ℕ) → hi ≤ from → Outside lo hi a b → Same from to a b
same_above from to h o = λ k l m. o.above k (omega arith)

pub outside_set : (a : List ℕ) (i v : ℕ) → Outside i (i + 1) a (set a i v)
outside_set a i v = record {
  size = length-set a i v;
  below = λ k l. sym (get_or-set_other a i k v 0 (omega arith));
  above = λ k l. sym (get_or-set_other a i k v 0 (omega arith));
}

pub outside_put : (a : List ℕ) (at x y : ℕ) → Outside at (at + 2) a (put a at x y)
unfolding put
outside_put a at x y = outside_trans (outside_wider (omega arith) (omega arith) (outside_set a at x))
    (outside_wider (omega arith) (omega arith) (outside_set (set a at x) (at + 1) y))

-- What lies below the attempts, and what lies after them, is the stack's.
pub stack_refl : (a : List ℕ) → OutsideStack a a
stack_refl a = record { size = refl; between = λ k l m. refl; above = λ k l. refl }

pub stack_trans : {a b c : List ℕ} → OutsideStack a b → OutsideStack b c → OutsideStack a c
stack_trans p q = record { size = q.size ∙ p.size; between = λ k l m. p.between k l m ∙ q.between k l m; above = λ k l. p.above k l ∙ q.above k l }

pub stack_below : {lo hi : ℕ} {a b : List ℕ} → hi ≤ 2304 → Outside lo hi a b → OutsideStack a b
stack_below h o = record { size = o.size; between = λ k l m. o.above k (omega arith); above = λ k l. o.above k (omega arith) }

pub stack_above : {lo hi : ℕ} {a b : List ℕ} → 2816 ≤ lo → hi ≤ 4864 → Outside lo hi a b → OutsideStack a b
stack_above h g o = record { size = o.size; between = λ k l m. o.below k (omega arith); above = λ k l. o.above k (omega arith) }

-- ── A region of pairs ──
module _ {A : Type 0} (mk : ℕ → ℕ → A) where
  pub pairs_length : (a : List ℕ) (at n : ℕ) → length (pairs mk a at n) ≡ n
  unfolding pairs
  pairs_length a at zero = refl
  pairs_length a at (suc n) = ap suc (pairs_length a at n)

  pub pairs_same : (a b : List ℕ) (at n : ℕ) → Same at (at + n * 2) a b → pairs mk a at n ≡ pairs mk b at n
  unfolding pairs
  pairs_same a b at zero h = refl
  pairs_same a b at (suc n) h =
      ap₂ (λ (x : A) (l : List A). x ∷ l)
      (ap₂ mk (h (at + n * 2) (omega arith) (omega arith)) (h (at + n * 2 + 1) (omega arith) (omega arith)))
      (pairs_same a b at n (λ k l m. h k l (omega arith)))

  -- The last d pairs, dropped.
  pairs_drop_add : (a : List ℕ) (at d n : ℕ) → drop d (pairs mk a at (d + n)) ≡ pairs mk a at n
  unfolding pairs
  pairs_drop_add a at zero n = let e : 0 + n ≡ n = omega arith in ap (λ (m : ℕ). pairs mk a at m) e
  pairs_drop_add a at (suc d) n = let e : suc d + n ≡ suc (d + n) = omega arith in ap (λ (m : ℕ). drop (suc d) (pairs mk a at m)) e
      ∙ pairs_drop_add a at d n

  pub pairs_drop : (a : List ℕ) (at d m n : ℕ) → d + n ≡ m → drop d (pairs mk a at m) ≡ pairs mk a at n
  pairs_drop a at d m n e = rw (← e) (pairs_drop_add a at d n)

  -- A pair written after the last one.
  pub pairs_put : (a : List ℕ) (at n x y : ℕ) → at + n * 2 + 2 ≤ length a → pairs mk (put a (at + n * 2) x y) at (suc n) ≡ mk x y ∷ pairs mk a at n
  unfolding pairs put
  pairs_put a at n x y h =
      ap₂ (λ (u : A) (l : List A). u ∷ l)
      (ap₂ mk
      (get_or-set_other (set a (at + n * 2) x) (at + n * 2 + 1) (at + n * 2) y 0 (omega arith) ∙ get_or-set_same a (at + n * 2) x 0 (omega arith))
      (get_or-set_same (set a (at + n * 2) x) (at + n * 2 + 1) y 0 (simp length-set (omega arith))))
      (sym (pairs_same a (put a (at + n * 2) x y) at n (same_below at (at + n * 2) (omega arith) (outside_put a (at + n * 2) x y))))

  -- The last pair.
  pub pairs_last : (a : List ℕ) (at m n : ℕ) → m ≡ suc n
      → pairs mk a at m ≡ mk (get_or a (at + n * 2) 0) (get_or a (at + n * 2 + 1) 0) ∷ pairs mk a at n
  unfolding pairs
  pairs_last a at m n e = ap (λ (k : ℕ). pairs mk a at k) e

  -- The pair that stands n below the last.
  pub pairs_getD : (a : List ℕ) (at n k p : ℕ) (d : A) → p ≡ n + suc k
      → get_or (pairs mk a at p) n d ≡ mk (get_or a (at + k * 2) 0) (get_or a (at + k * 2 + 1) 0)
  unfolding pairs
  pairs_getD a at zero k p d e = let f : p ≡ suc k = omega arith in ap (λ (m : ℕ). get_or (pairs mk a at m) 0 d) f
  pairs_getD a at (suc n) k p d e =
      let f : p ≡ suc (n + suc k) = omega arith in
      ap (λ (m : ℕ). get_or (pairs mk a at m) (suc n) d) f ∙ pairs_getD a at n k (n + suc k) d refl

-- ── A region of numbers ──
pub numbers_length : (a : List ℕ) (at n : ℕ) → length (numbers a at n) ≡ n
unfolding numbers
numbers_length a at zero = refl
numbers_length a at (suc n) = length-append (numbers a at n) (get_or a (at + n) 0 ∷ []) ∙ ap (λ (k : ℕ). k + 1) (numbers_length a at n) ∙ add-one n

pub numbers_same : (a b : List ℕ) (at n : ℕ) → Same at (at + n) a b → numbers a at n ≡ numbers b at n
unfolding numbers
numbers_same a b at zero h = refl
numbers_same a b at (suc n) h =
    ap₂ (λ (l : List ℕ) (x : ℕ). l ++ (x ∷ [])) (numbers_same a b at n (λ k l m. h k l (omega arith))) (h (at + n) (omega arith) (omega arith))
