-- pest's stack (cache, popped, lengths) stands for a list and the lists saved by the open checkpoints.
use Rattle.std.specs.Prelude.{if◌then◌else◌}
use mathlib.Core.Path.{◌≡◌, refl, sym, ap, ap₂, ◌∙◌}
use mathlib.Core.List.{List, [], ◌∷◌, ◌++◌, reverse, append_assoc, reverse-append, reverse-reverse}
use Prim.Native.Nat.{ℕ, suc, ◌+◌, ◌-◌, ◌≤◌, min}
use native.Mathlib.Omega.{arith}
use lib.ListN.{length, take, drop, length-append, length-reverse}
use lib.Seq.{take_at, drop_at}
use lib.Dec.{ltb}
use borrow.Author.Tests.{eq-eqb, ne_eqb, lt-ltb, le-ltb}
use Rattle.reading.specs.Ending.{Span, Checkpoint}
use Rattle.reading.specs.Reading.{lower_to, dropped, outer_checkpoints, debt}
use Rattle.reading.specs.Pest.{Stack, pop, clear_snapshot, restore, truncate}

abbrev pub Stk : Type 0
Stk = List Span

abbrev pub mark : ℕ → ℕ → Checkpoint
mark h l = record { height = h; lowest = l }

abbrev pub pest : Stk → Stk → List Checkpoint → Stack
pest c p ks = record { cache = c; popped = p; lengths = ks }

-- `Inv c saves p ks`: a stack with the cache c, the popped p and the lengths ks stands for the list c and the saved lists.
-- A saved list is a ++ z: its lowest part z is still in the stack above it, and a was popped.
pub data Inv : Stk → List Stk → Stk → List Checkpoint → Type 0 where
  bottom : {c : Stk} → Inv c [] [] []
  snap : {c s p : Stk} {k : Checkpoint} {ss : List Stk} {ks : List Checkpoint} (a b z q : Stk)
      → c ≡ b ++ z → s ≡ a ++ z → p ≡ reverse a ++ q → k ≡ mark (length s) (length z) → Inv s ss q ks → Inv c (s ∷ ss) p (k ∷ ks)

pub inv_push : (x : Span) {c p : Stk} {ss : List Stk} {ks : List Checkpoint} → Inv c ss p ks → Inv (x ∷ c) ss p ks
inv_push x bottom = bottom
inv_push x (snap a b z q ec es ep ek i) = snap a (x ∷ b) z q (ap (λ (l : Stk). x ∷ l) ec) es ep ek i

pub inv_snapshot : {c p : Stk} {ss : List Stk} {ks : List Checkpoint} → Inv c ss p ks → Inv c (c ∷ ss) p (mark (length c) (length c) ∷ ks)
inv_snapshot {c} {p} i = snap [] [] c p refl refl refl refl i

-- what a pop leaves
pub record Popped (x : Span) (rest : Stk) (ss : List Stk) (p : Stk) (ks : List Checkpoint) : Type 0 where
  pub left : Stk
  pub same : pop x rest (pest (x ∷ rest) p ks) ≡ pest rest left (lower_to (length rest) ks)
  pub inv : Inv rest ss left (lower_to (length rest) ks)

-- The first test of `pop` and its two outcomes.
pop_at : (x : Span) (rest p : Stk) (k : Checkpoint) (ks : List Checkpoint) → k.lowest ≡ suc (length rest)
    → pop x rest (pest (x ∷ rest) p (k ∷ ks)) ≡ pest rest (x ∷ p) (lower_to (length rest) (k ∷ ks))
pop_at x rest p k ks e =
    let l : k.lowest - 1 ≡ min k.lowest (length rest) = omega arith in
    rw (eq-eqb (suc (length rest)) k.lowest (sym e)) (ap (λ (n : ℕ). pest rest (x ∷ p) (mark k.height n ∷ ks)) l)

pop_above : (x : Span) (rest p : Stk) (k : Checkpoint) (ks : List Checkpoint) → k.lowest ≤ length rest
    → pop x rest (pest (x ∷ rest) p (k ∷ ks)) ≡ pest rest p (lower_to (length rest) (k ∷ ks))
pop_above x rest p k ks h =
    let l : k.lowest ≡ min k.lowest (length rest) = omega arith in
    rw (ne_eqb (suc (length rest)) k.lowest (λ (e : suc (length rest) ≡ k.lowest). omega arith))
    (ap (λ (n : ℕ). pest rest p (mark k.height n ∷ ks)) l)

pub inv_pop : (x : Span) (rest : Stk) {p : Stk} {ss : List Stk} {ks : List Checkpoint} → Inv (x ∷ rest) ss p ks → Popped x rest ss p ks
inv_pop x rest bottom = record { left = []; same = refl; inv = bottom }
inv_pop x rest (snap {s = s} {p = p} {k = k} {ks = ks} a [] z q ec es ep ek i) =
    let n : k.lowest ≡ suc (length rest) = ap (λ (c : Checkpoint). c.lowest) ek ∙ ap length (sym ec) in
    let m : min k.lowest (length rest) ≡ length rest = omega arith in
    record {
      left = x ∷ p;
      same = pop_at x rest p k ks n;
      inv = snap (a ++ (x ∷ [])) [] rest q refl
          (es ∙ ap (λ (l : Stk). a ++ l) (sym ec) ∙ sym (append_assoc a (x ∷ []) rest))
          (ap (λ (l : Stk). x ∷ l) ep ∙ ap (λ (l : Stk). l ++ q) (sym (reverse-append a (x ∷ []))))
          (ap₂ mark (ap (λ (c : Checkpoint). c.height) ek) m)
          i;
    }
inv_pop x rest (snap {s = s} {p = p} {k = k} {ks = ks} a (y ∷ b) z q ec es ep ek i) =
    let er : rest ≡ b ++ z = cc in
    let h : k.lowest ≤ length rest = omega (arith, ap (λ (c : Checkpoint). c.lowest) ek, simp length-append at (ap length er)) in
    let m : min k.lowest (length rest) ≡ length z = omega (arith, ap (λ (c : Checkpoint). c.lowest) ek) in
    record {
      left = p;
      same = pop_above x rest p k ks h;
      inv = snap a b z q er es ep (ap₂ mark (ap (λ (c : Checkpoint). c.height) ek) m) i;
    }

-- ── restore ──
pub record Restored (c s : Stk) (ss : List Stk) (p : Stk) (ks : List Checkpoint) : Type 0 where
  pub left : Stk
  pub same : restore (pest c p ks) ≡ pest s left (outer_checkpoints ks)
  pub inv : Inv s ss left (outer_checkpoints ks)

-- What `restore` computes, at a cache b ++ z and a saved list a ++ z.
kept_is : (b z : Stk) → (if ltb (length z) (length (b ++ z)) then truncate (length z) (b ++ z) else b ++ z) ≡ z
kept_is [] z = rw (le-ltb (length z) (length z) (omega arith))
kept_is (y ∷ b) z =
    let n : length ((y ∷ b) ++ z) ≡ length (y ∷ b) + length z = length-append (y ∷ b) z in
    let h : length (y ∷ b) ≡ length ((y ∷ b) ++ z) - length z = omega arith in
    rw (lt-ltb (length z) (length ((y ∷ b) ++ z)) (omega arith)) (drop_at (y ∷ b) z (length ((y ∷ b) ++ z) - length z) h)

over_popped : (a z : Stk) → length (reverse a) ≡ length (a ++ z) - length z
over_popped a z = omega (arith, length-append a z, length-reverse a)

restore_is : (a b z q : Stk) (ks : List Checkpoint) → restore (pest (b ++ z) (reverse a ++ q) (mark (length (a ++ z)) (length z) ∷ ks))
    ≡ pest (a ++ z) q ks
restore_is [] b z q ks = rw (le-ltb (length z) (length z) (omega arith)) (ap (λ (l : Stk). pest l q ks) (kept_is b z))
restore_is (x ∷ a) b z q ks =
    let r : Stk = reverse (x ∷ a) in
    let n : ℕ = length ((x ∷ a) ++ z) - length z in
    rw (
      lt-ltb (length z) (length ((x ∷ a) ++ z)) (omega (arith, length-append (x ∷ a) z)),
      kept_is b z,
      take_at r q n (over_popped (x ∷ a) z),
      drop_at r q n (over_popped (x ∷ a) z),
      reverse-reverse (x ∷ a),
    )

pub inv_restore : {c s p : Stk} {ss : List Stk} {ks : List Checkpoint} → Inv c (s ∷ ss) p ks → Restored c s ss p ks
inv_restore (snap {ks = ks} a b z q ec es ep ek i) = record {
  left = q;
  same = rw (ec, ep, ek, es) (restore_is a b z q ks);
  inv = i;
}

-- ── clear_snapshot ──
pub record Cleared (c : Stk) (ss : List Stk) (p : Stk) (ks : List Checkpoint) : Type 0 where
  pub left : Stk
  pub same : clear_snapshot (pest c p ks) ≡ pest c left (dropped ks)
  pub inv : Inv c ss left (dropped ks)

-- Two ways to split a list: one tail is a tail of the other.
data Tails (a z b w : Stk) : Type 0 where
  shorter : (d : Stk) → w ≡ d ++ z → a ≡ b ++ d → Tails a z b w
  longer : (d : Stk) → z ≡ d ++ w → b ≡ a ++ d → Tails a z b w

tails : (a z b w : Stk) → a ++ z ≡ b ++ w → Tails a z b w
tails [] z b w e = longer b e refl
tails (x ∷ a) z [] w e = shorter (x ∷ a) (sym e) refl
tails (x ∷ a) z (y ∷ b) w e =
    let h : x ≡ y = cc in
    let t : a ++ z ≡ b ++ w = cc in
    go (tails a z b w t) h
  where
    go : Tails a z b w → x ≡ y → Tails (x ∷ a) z (y ∷ b) w
    go (shorter d ew ea) h = shorter d ew (ap₂ (λ (u : Span) (l : Stk). u ∷ l) h ea)
    go (longer d ez eb) h = longer d ez (ap₂ (λ (u : Span) (l : Stk). u ∷ l) (sym h) eb)

lowest_of : {k : Checkpoint} {h l : ℕ} → k ≡ mark h l → k.lowest ≡ l
lowest_of e = ap (λ (c : Checkpoint). c.lowest) e

height_of : {k : Checkpoint} {h l : ℕ} → k ≡ mark h l → k.height ≡ h
height_of e = ap (λ (c : Checkpoint). c.height) e

-- What was popped under the innermost checkpoint, dropped.
drop_popped : {s p : Stk} {k : Checkpoint} (a z q : Stk) → s ≡ a ++ z → p ≡ reverse a ++ q → k ≡ mark (length s) (length z)
    → drop (k.height - k.lowest) p ≡ q
drop_popped {s} {p} {k} a z q es ep ek =
    let n : length (reverse a) ≡ k.height - k.lowest = omega (arith, height_of ek, lowest_of ek, ap length es, length-append a z, length-reverse a) in
    rw ep (drop_at (reverse a) q (k.height - k.lowest) n)

pub inv_clear : {c s p : Stk} {ss : List Stk} {ks : List Checkpoint} → Inv c (s ∷ ss) p ks → Cleared c ss p ks
inv_clear (snap {c = c} {s = s} {p = p} {k = k} a b z q ec es ep ek i) = onto i (drop_popped a z q es ep ek)
  where
    onto : {ss' : List Stk} {q' : Stk} {ks' : List Checkpoint} → Inv s ss' q' ks' → drop (k.height - k.lowest) p ≡ q' → Cleared c ss' p (k ∷ ks')
    onto bottom e = record { left = []; same = ap (λ (l : Stk). pest c l []) e; inv = bottom }
    onto (snap {s = s₁} {k = k₁} {ss = ss₁} {ks = ks₁} a₁ b₁ z₁ q₁ ec₁ es₁ ep₁ ek₁ i₁) e = record {
      left = take (k₁.lowest - min k₁.lowest k.lowest) p ++ drop (k.height - k.lowest) p;
      same = refl;
      inv = both (tails a z b₁ z₁ (sym es ∙ ec₁));
    }
      where
        low : k.lowest ≡ length z
        low = lowest_of ek

        low₁ : k₁.lowest ≡ length z₁
        low₁ = lowest_of ek₁

        both : Tails a z b₁ z₁ → Inv c (s₁ ∷ ss₁) (take (k₁.lowest - min k₁.lowest k.lowest) p ++ drop (k.height - k.lowest) p)
            (mark k₁.height (min k₁.lowest k.lowest) ∷ ks₁)
        both (shorter d ez ea) =
            let n : length z₁ ≡ length d + length z = ap length ez ∙ length-append d z in
            let lo : min k₁.lowest k.lowest ≡ length z = omega (arith, low, low₁) in
            let cnt : length (reverse d) ≡ k₁.lowest - min k₁.lowest k.lowest = omega (arith, low, low₁, length-reverse d) in
            let pp : p ≡ reverse d ++ (reverse b₁ ++ q) = ep ∙ simp (ea, reverse-append, append_assoc) in
            snap (a₁ ++ d) b z q₁ ec
            (es₁ ∙ ap (λ (l : Stk). a₁ ++ l) ez ∙ sym (append_assoc a₁ d z))
            (ap₂ (λ (l r : Stk). l ++ r) (ap (take (k₁.lowest - min k₁.lowest k.lowest)) pp ∙ take_at (reverse d) (reverse b₁ ++ q) _ cnt)
            (e ∙ ep₁) ∙ simp (reverse-append, append_assoc))
            (ap₂ mark (height_of ek₁) lo)
            i₁
        both (longer d ez eb) =
            let n : length z ≡ length d + length z₁ = ap length ez ∙ length-append d z₁ in
            let lo : min k₁.lowest k.lowest ≡ length z₁ = omega (arith, low, low₁) in
            let none_left : k₁.lowest - min k₁.lowest k.lowest ≡ 0 = omega (arith, low, low₁) in
            let left_is : take (k₁.lowest - min k₁.lowest k.lowest) p ++ drop (k.height - k.lowest) p ≡ reverse a₁ ++ q₁ = rw none_left (e ∙ ep₁) in
            snap a₁ (b ++ d) z₁ q₁
            (ec ∙ ap (λ (l : Stk). b ++ l) ez ∙ sym (append_assoc b d z₁))
            es₁
            left_is
            (ap₂ mark (height_of ek₁) lo)
            i₁

-- ── Document 01's words ──
-- "restoring brings it back exactly": whatever was pushed and popped since, the saved list is the cache again (inv_restore.same).
-- "dropping an inner one leaves the outer intact": the saved lists below are the same (inv_clear.inv).
-- "Restore without a checkpoint empties the stack."
pub restore_none : (c p : Stk) → restore (pest c p []) ≡ pest [] p []
restore_none c p = refl

-- The popped entries number the total debt.
pub popped_is_debt : {c p : Stk} {ss : List Stk} {ks : List Checkpoint} → Inv c ss p ks → length p ≡ debt ks
popped_is_debt bottom = refl
popped_is_debt (snap {p = p} {k = k} a b z q ec es ep ek i) =
    omega (
      arith,
      popped_is_debt i,
      ap length ep,
      length-append (reverse a) q,
      length-reverse a,
      height_of ek,
      lowest_of ek,
      ap length es,
      length-append a z,
    )
