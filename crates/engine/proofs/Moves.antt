-- Popped entries moved down by `copy_within`, and popped entries put back on the stack, by one turn of a loop more.
use mathlib.Core.Path.{◌≡◌, refl, sym, ap, ap₂, ◌∙◌}
use mathlib.Core.List.{List, [], ◌∷◌, ◌++◌, reverse, reverse-append}
use Prim.Native.Nat.{ℕ, zero, suc, ◌+◌, ◌*◌, ◌-◌, ◌≤◌}
use native.Mathlib.Omega.{arith}
use native.Mathlib.Numerals.{add-one}
use lib.ListN.{length, get_or, take}
use lib.Seq.{take-suc}
use Rattle.reading.specs.Ending.{Span}
use Rattle.engine.specs.Areas.{pairs, span, Outside}
use Rattle.std.specs.List.{CopiedTo, SameBelow, SameFrom}
use Rattle.engine.specs.Pairs.{copied, refilled}
use Rattle.engine.proofs.Regions.{outside_refl, outside_trans, outside_wider, outside_put, pairs_put, pairs_length, pairs_getD, pairs_same}

-- ── The loop's invariant ──
pub refilled_zero : (a : List ℕ) (low p : ℕ) → a ≡ refilled a low p 0
unfolding refilled
refilled_zero a low p = refl

pub refilled_next : (a₀ : List ℕ) {a a' : List ℕ} (low p n : ℕ) → a ≡ refilled a₀ low p n
    → a' ≡ copied a (0 + (low + n) * 2) (256 + (p - n - 1) * 2) → a' ≡ refilled a₀ low p (n + 1)
unfolding refilled
refilled_next a₀ low p n e f = f ∙ ap (λ (b : List ℕ). copied b (0 + (low + n) * 2) (256 + (p - n - 1) * 2)) e ∙ rw (add-one n)

-- b is a, where 2 n numbers moved down: `copy_within`, index by index.
pub record Drained (a b : List ℕ) (to from n : ℕ) : Type 0 where
  pub size : length b ≡ length a
  pub moved : CopiedTo a b (256 + from * 2) (256 + to * 2) (n * 2)
  pub below : SameBelow a b (256 + to * 2)
  pub above : SameFrom a b (256 + to * 2 + n * 2)

-- ── Their frames, and the regions after them ──
pub refilled_outside : (a : List ℕ) (low p n : ℕ) → Outside (0 + low * 2) (0 + (low + n) * 2) a (refilled a low p n)
unfolding refilled
refilled_outside a low p zero = outside_refl a
refilled_outside a low p (suc n) =
    outside_trans (outside_wider (omega arith) (omega arith) (refilled_outside a low p n))
    (outside_wider (omega arith) (omega arith) (outside_put (refilled a low p n) (0 + (low + n) * 2)
    (get_or (refilled a low p n) (256 + (p - n - 1) * 2) 0) (get_or (refilled a low p n) (256 + (p - n - 1) * 2 + 1) 0)))

-- What `copy_within` says, at the number of numbers that it moves.
pub drained_by : (a b : List ℕ) (to from n k : ℕ) → k ≡ n * 2 → length b ≡ length a
    → CopiedTo a b (256 + from * 2) (256 + to * 2) k × SameBelow a b (256 + to * 2) × SameFrom a b (256 + to * 2 + k) → Drained a b to from n
drained_by a b to from n k e size by = record { size = size; moved = rw e at by.0; below = by.1; above = rw e at by.2 }

-- What `copy_within` leaves of n popped entries, moved from the index `from` down to the index `to`.
pub drained_outside : (a b : List ℕ) (to from n : ℕ) → Drained a b to from n → Outside (256 + to * 2) (256 + (to + n) * 2) a b
drained_outside a b to from n d = record { size = d.size; below = λ k l. sym (d.below k 0 l); above = λ k l. sym (d.above k 0 (omega arith)) }

pub drained_pairs : (a b : List ℕ) (to from n m : ℕ) → Drained a b to from n → m ≤ n
    → pairs span b 256 (to + m) ≡ take m (pairs span a 256 (from + m)) ++ pairs span a 256 to
unfolding pairs
drained_pairs a b to from n zero d h =
    let e : to + 0 ≡ to = omega arith in
    ap (λ (i : ℕ). pairs span b 256 i) e ∙ sym (pairs_same span a b 256 to (λ k l g. sym (d.below k 0 (omega arith))))
drained_pairs a b to from n (suc m) d h =
    let e : to + suc m ≡ suc (to + m) = omega arith in
    let e₂ : from + suc m ≡ suc (from + m) = omega arith in
    let j : 256 + from * 2 + (256 + (to + m) * 2 - (256 + to * 2)) ≡ 256 + (from + m) * 2 = omega arith in
    let i : 256 + from * 2 + (256 + (to + m) * 2 + 1 - (256 + to * 2)) ≡ 256 + (from + m) * 2 + 1 = omega arith in
    let x : get_or b (256 + (to + m) * 2) 0 ≡ get_or a (256 + (from + m) * 2) 0 =
    d.moved (256 + (to + m) * 2) 0 (omega arith) (omega arith) ∙ ap (λ (k : ℕ). get_or a k 0) j in
    let y : get_or b (256 + (to + m) * 2 + 1) 0 ≡ get_or a (256 + (from + m) * 2 + 1) 0 =
    d.moved (256 + (to + m) * 2 + 1) 0 (omega arith) (omega arith) ∙ ap (λ (k : ℕ). get_or a k 0) i in
    ap (λ (k : ℕ). pairs span b 256 k) e
    ∙ ap₂ (λ (u : Span) (l : List Span). u ∷ l) (ap₂ span x y) (drained_pairs a b to from n m d (omega arith))
    ∙ ap (λ (k : ℕ). take (suc m) (pairs span a 256 k) ++ pairs span a 256 to) (sym e₂)

pub refilled_pairs : (a : List ℕ) (low p n : ℕ) → n ≤ p → low + n ≤ 128 → 4864 ≤ length a
    → pairs span (refilled a low p n) 0 (low + n) ≡ reverse (take n (pairs span a 256 p)) ++ pairs span a 0 low
unfolding refilled
refilled_pairs a low p zero h g f = let e : low + 0 ≡ low = omega arith in ap (λ (m : ℕ). pairs span a 0 m) e
refilled_pairs a low p (suc n) h g f =
    let d : List ℕ = refilled a low p n in
    let o : Outside (0 + low * 2) (0 + (low + n) * 2) a d = refilled_outside a low p n in
    let e : low + suc n ≡ suc (low + n) = omega arith in
    let k : ℕ = p - n - 1 in
    let x : get_or a (256 + k * 2) 0 ≡ get_or d (256 + k * 2) 0 = o.above (256 + k * 2) (omega arith) in
    let y : get_or a (256 + k * 2 + 1) 0 ≡ get_or d (256 + k * 2 + 1) 0 = o.above (256 + k * 2 + 1) (omega arith) in
    let u : Span = span (get_or a (256 + k * 2) 0) (get_or a (256 + k * 2 + 1) 0) in
    let q : List Span = pairs span a 256 p in
    let at : get_or q n u ≡ u = pairs_getD span a 256 n k p u (omega arith) in
    let more : take (suc n) q ≡ take n q ++ (u ∷ []) = take-suc q n u (omega (arith, pairs_length span a 256 p))
    ∙ ap (λ (w : Span). take n q ++ (w ∷ [])) at in
    let turned : reverse (take (suc n) q) ≡ u ∷ reverse (take n q) = ap (λ (l : List Span). reverse l) more ∙ reverse-append (take n q) (u ∷ []) in
    ap (λ (m : ℕ). pairs span (refilled a low p (suc n)) 0 m) e
    ∙ pairs_put span d 0 (low + n) (get_or d (256 + k * 2) 0) (get_or d (256 + k * 2 + 1) 0) (omega (arith, o.size))
    ∙ ap₂ (λ (w : Span) (l : List Span). w ∷ l) (ap₂ span (sym x) (sym y)) (refilled_pairs a low p n (omega arith) (omega arith) f)
    ∙ ap (λ (l : List Span). l ++ pairs span a 0 low) (sym turned)
