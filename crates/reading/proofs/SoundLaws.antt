-- What holds of every stack of a run is kept by each of pest's operations.
use Rattle.std.specs.Prelude.{if◌then◌else◌}
use mathlib.Core.Path.{◌≡◌, refl, ◌∙◌}
use mathlib.Core.Bool.{Bool, true, false}
use mathlib.Core.List.{List, [], ◌∷◌, ◌++◌, reverse}
use Prim.Native.Nat.{ℕ, suc, ◌+◌, ◌-◌, ◌≤◌, ◌<◌, min}
use native.Mathlib.Omega.{arith}
use native.Mathlib.Decide.{dec_lt}
use lib.ListN.{length, take, length-append, length-take, length-drop, length-reverse}
use lib.Dec.{eqb, ltb}
use borrow.Author.Tests.{eqb-true, eqb-false, lt-ltb, le-ltb}
use Rattle.reading.specs.Pest as Pest
use Rattle.reading.specs.Ending.{Span, Checkpoint}
use Rattle.reading.specs.Reading.{debt}
use Rattle.reading.specs.Pest.{push, pop, snapshot, clear_snapshot, restore, truncate}
use Rattle.reading.specs.Sound.{Fits, fits_none, fits_one, Sound}
use Rattle.reading.proofs.StackLaws.{pest}

pub fits_high : {h : ℕ} {ks : List Checkpoint} → Fits h ks → h ≤ 128
fits_high (fits_none l) = l
fits_high (fits_one l u o f) = l

fits_to : {h h' : ℕ} {ks : List Checkpoint} → Fits h ks → h ≤ h' → h' ≤ 128 → Fits h' ks
fits_to (fits_none l) le l' = fits_none l'
fits_to {h' = h'} (fits_one {k = k} l u o f) le l' = let u' : k.lowest ≤ h' = omega arith in fits_one l' u' o f

-- ── Kept by each operation ──
pub sound_push : (x : Span) (v : Pest.Stack) → Sound v → length v.cache < 128 → Sound (push x v)
sound_push x v s l = record { fits = fits_to s.fits (omega arith) l; owed = s.owed; low = s.low }

module _ (x : Span) (rest p : List Span) where
  pop_sound : (ks : List Checkpoint) → Fits (suc (length rest)) ks → length p ≡ debt ks
      → debt (pop x rest (pest (x ∷ rest) p ks)).lengths ≤ 1024 → Sound (pop x rest (pest (x ∷ rest) p ks))
  pop_sound [] (fits_none l) e d = let l' : length rest ≤ 128 = omega arith in record { fits = fits_none l'; owed = e; low = d }
  pop_sound (k ∷ ks) (fits_one l u o f) e d = go (eqb (suc (length rest)) k.lowest) refl d
    where
      l' : length rest ≤ 128
      l' = omega arith

      go : (b : Bool) → eqb (suc (length rest)) k.lowest ≡ b
          → debt (if b then pest rest (x ∷ p) (record { height = k.height; lowest = k.lowest - 1 } ∷ ks) else pest rest p (k ∷ ks)).lengths ≤ 1024
          → Sound (if b then pest rest (x ∷ p) (record { height = k.height; lowest = k.lowest - 1 } ∷ ks) else pest rest p (k ∷ ks))
      go true t d₁ =
          let q : suc (length rest) ≡ k.lowest = eqb-true (suc (length rest)) k.lowest t in
          let u' : k.lowest - 1 ≤ length rest = omega arith in
          let o' : k.lowest - 1 ≤ k.height = omega arith in
          record { fits = fits_one l' u' o' f; owed = omega arith; low = d₁ }
      go false t d₁ =
          let u' : k.lowest ≤ length rest = omega (arith, eqb-false (suc (length rest)) k.lowest t) in
          record { fits = fits_one l' u' o f; owed = e; low = d₁ }

-- A pop that the debt allows.
pub sound_pop : (x : Span) (rest : List Span) (v : Pest.Stack) → v.cache ≡ x ∷ rest → Sound v → debt (pop x rest v).lengths ≤ 1024
    → Sound (pop x rest v)
sound_pop x rest v e s d = pop_sound x rest v.popped v.lengths (rw e at s.fits) s.owed d

pub sound_snapshot : (v : Pest.Stack) → Sound v → Sound (snapshot v)
sound_snapshot v s =
    let z : length v.cache - length v.cache ≡ 0 = omega arith in
    let r : length v.cache ≤ length v.cache = omega arith in
    record { fits = fits_one (fits_high s.fits) r r s.fits; owed = omega (arith, s.owed); low = omega (arith, s.low) }

clear_sum : (a l b l₁ d n h₁ : ℕ) → l₁ ≤ a + l → h₁ ≡ b + l₁ → n ≡ a + (b + d) → min (l₁ - min l₁ l) n + (n - a) ≡ (h₁ - min l₁ l) + d
clear_sum a l b l₁ d n h₁ le e f = go (dec_lt l l₁)
  where
    go : Dec (l < l₁) → min (l₁ - min l₁ l) n + (n - a) ≡ (h₁ - min l₁ l) + d
    go (yes lt) = let m : min l₁ l ≡ l = omega arith in rw m (omega arith)
    go (no ge) = let m : min l₁ l ≡ l₁ = omega arith in rw m (omega arith)

clear_sound : (c p : List Span) (ks : List Checkpoint) → Sound (pest c p ks) → Sound (clear_snapshot (pest c p ks))
clear_sound c p [] s = s
clear_sound c p (k ∷ []) s = go s.fits
  where
    go : Fits (length c) (k ∷ []) → Sound (clear_snapshot (pest c p (k ∷ [])))
    go (fits_one l u o f) = record { fits = fits_none l; owed = simp length-drop (omega (arith, s.owed)); low = omega arith }
clear_sound c p (k ∷ k₁ ∷ ks) s = go s.fits
  where
    go : Fits (length c) (k ∷ k₁ ∷ ks) → Sound (clear_snapshot (pest c p (k ∷ k₁ ∷ ks)))
    go (fits_one l u o (fits_one l₁ u₁ o₁ f)) =
        let u' : min k₁.lowest k.lowest ≤ length c = omega arith in
        let o' : min k₁.lowest k.lowest ≤ k₁.height = omega arith in
        record {
          fits = fits_one l u' o' f;
          owed = simp (length-append, length-take, length-drop)
              (clear_sum (k.height - k.lowest) k.lowest (k₁.height - k₁.lowest) k₁.lowest (debt ks) (length p) k₁.height (omega arith)
              (omega arith) s.owed);
          low = omega (arith, s.low);
        }

pub sound_clear : (v : Pest.Stack) → Sound v → Sound (clear_snapshot v)
sound_clear v s = clear_sound v.cache v.popped v.lengths s

restore_sound : (c p : List Span) (ks : List Checkpoint) → Sound (pest c p ks) → Sound (restore (pest c p ks))
restore_sound c p [] s = let z : 0 ≤ 128 = omega arith in record { fits = fits_none z; owed = s.owed; low = s.low }
restore_sound c p (k ∷ ks) s = go s.fits (dec_lt k.lowest (length c)) (dec_lt k.lowest k.height)
  where
    go : Fits (length c) (k ∷ ks) → Dec (k.lowest < length c) → Dec (k.lowest < k.height) → Sound (restore (pest c p (k ∷ ks)))
    go (fits_one l u o f) (yes a) (yes b) =
        let e : length (reverse (take (k.height - k.lowest) p) ++ truncate k.lowest c) ≡ k.height =
        simp (length-append, length-reverse, length-take, length-drop) (omega (arith, s.owed)) in
        rw (lt-ltb k.lowest (length c) a, lt-ltb k.lowest k.height b)
        (record { fits = rw e f; owed = simp length-drop (omega (arith, s.owed)); low = omega (arith, s.low) })
    go (fits_one l u o f) (yes a) (no b) =
        let e : length (truncate k.lowest c) ≡ k.height = simp length-drop (omega arith) in
        rw (lt-ltb k.lowest (length c) a, le-ltb k.lowest k.height (omega arith))
        (record { fits = rw e f; owed = omega (arith, s.owed); low = omega (arith, s.low) })
    go (fits_one l u o f) (no a) (yes b) =
        let e : length (reverse (take (k.height - k.lowest) p) ++ c) ≡ k.height =
        simp (length-append, length-reverse, length-take) (omega (arith, s.owed)) in
        rw (le-ltb k.lowest (length c) (omega arith), lt-ltb k.lowest k.height b)
        (record { fits = rw e f; owed = simp length-drop (omega (arith, s.owed)); low = omega (arith, s.low) })
    go (fits_one l u o f) (no a) (no b) =
        let e : length c ≡ k.height = omega arith in
        rw (le-ltb k.lowest (length c) (omega arith), le-ltb k.lowest k.height (omega arith))
        (record { fits = rw e f; owed = omega (arith, s.owed); low = omega (arith, s.low) })

pub sound_restore : (v : Pest.Stack) → Sound v → Sound (restore v)
sound_restore v s = restore_sound v.cache v.popped v.lengths s

-- ── How many checkpoints are open ──
pub lengths_pop : (x : Span) (rest : List Span) (v : Pest.Stack) → length (pop x rest v).lengths ≡ length v.lengths
lengths_pop x rest v = go v.lengths
  where
    pick : (b : Bool) (k : Checkpoint) (ks : List Checkpoint)
        → length (if b then pest rest (x ∷ v.popped) (record { height = k.height; lowest = k.lowest - 1 } ∷ ks)
        else pest rest v.popped (k ∷ ks)).lengths ≡ suc (length ks)
    pick true k ks = refl
    pick false k ks = refl

    go : (ks : List Checkpoint) → length (pop x rest (pest v.cache v.popped ks)).lengths ≡ length ks
    go [] = refl
    go (k ∷ ks) = pick (eqb (suc (length rest)) k.lowest) k ks

pub lengths_clear : (v : Pest.Stack) → length (clear_snapshot v).lengths ≡ length v.lengths - 1
lengths_clear v = go v.lengths
  where
    go : (ks : List Checkpoint) → length (clear_snapshot (pest v.cache v.popped ks)).lengths ≡ length ks - 1
    go [] = refl
    go (k ∷ []) = refl
    go (k ∷ k₁ ∷ ks) = omega arith

pub lengths_restore : (v : Pest.Stack) → length (restore v).lengths ≡ length v.lengths - 1
lengths_restore v = go v.lengths
  where
    pick : (b : Bool) (c p q q' : List Span) (ks : List Checkpoint) → length (if b then pest c p ks else pest q q' ks).lengths ≡ length ks
    pick true c p q q' ks = refl
    pick false c p q q' ks = refl

    go : (ks : List Checkpoint) → length (restore (pest v.cache v.popped ks)).lengths ≡ length ks - 1
    go [] = refl
    go (k ∷ ks) = pick (ltb k.lowest k.height) _ _ _ _ ks ∙ omega arith
