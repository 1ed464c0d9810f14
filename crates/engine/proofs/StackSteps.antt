-- What each function of the stack does, over the numbers of scratch: a region is a list of pairs, the last one first, so that to write
-- after the last pair is `∷`, and the other regions lie outside of what is written.
use Rattle.std.specs.Prelude.{None, Some, if◌then◌else◌}
use mathlib.Core.Path.{◌≡◌, refl, sym, ap, ap₂, ◌∙◌}
use mathlib.Core.List.{List, [], ◌∷◌, ◌++◌, reverse}
use Prim.Native.Nat.{ℕ, suc, ◌+◌, ◌*◌, ◌-◌, ◌≤◌, ◌<◌, min}
use native.Mathlib.Omega.{arith}
use native.Mathlib.Decide.{dec_lt}
use lib.ListN.{length, take, drop}
use lib.Dec.{ltb}
use borrow.Author.Tests.{eq-eqb, ne_eqb, lt-ltb, le-ltb, le-leb, lt-leb}
use Rattle.matching.specs.declared.span.Span as Code
use Rattle.reading.specs.Pest as Pest
use Rattle.engine.specs.declared.stack.Stack.{Stack}
use Rattle.reading.specs.Ending.{Span, Checkpoint}
use Rattle.reading.specs.Reading.{debt}
use Rattle.reading.specs.Pest.{snapshot, clear_snapshot, restore, truncate}
use Rattle.engine.specs.Areas.{pairs, span, checkpoint, stack_of, Outside}
use Rattle.engine.specs.Pairs.{pair, put, refilled}
use Rattle.engine.specs.Bounded.{Take, got, pushed, taken, taken_from}
use Rattle.reading.specs.Sound.{Fits, fits_one}
use Rattle.engine.specs.StackReady.{StackReady, OutsideStack}
use Rattle.reading.proofs.StackLaws.{pest}
use Rattle.reading.proofs.SoundLaws.{fits_high}
use Rattle.engine.proofs.Regions.{outside_put, pairs_put, pairs_length, pairs_same, pairs_last, pairs_drop, same_above, same_below}
use Rattle.engine.proofs.Regions.{stack_refl, stack_trans, stack_below, stack_above}
use Rattle.engine.proofs.Moves.{Drained, drained_outside, drained_pairs, refilled_outside, refilled_pairs}

abbrev pub counts : (height popped checkpoints : ℕ) → Stack
counts h p c = record { height = h; popped = p; checkpoints = c }

pest_ext : {c c' p p' : List Span} {k k' : List Checkpoint} → c ≡ c' → p ≡ p' → k ≡ k' → pest c p k ≡ pest c' p' k'
pest_ext e f g = λ i. pest (e i) (f i) (g i)

-- ── What Sound says of the innermost checkpoint ──
pub record Top (h p tall low more : ℕ) : Type 0 where
  pub under : low ≤ h
  pub own : low ≤ tall
  pub high : tall ≤ 128
  pub owing : (tall - low) + more ≡ p

top_fits : {h : ℕ} {k : Checkpoint} {ks : List Checkpoint} (p : ℕ) → Fits h (k ∷ ks) → p ≡ debt (k ∷ ks) → Top h p k.height k.lowest (debt ks)
top_fits p (fits_one l u o f) e = record { under = u; own = o; high = fits_high f; owing = sym e }

below_fits : {h : ℕ} {k : Checkpoint} {ks : List Checkpoint} → Fits h (k ∷ ks) → Fits k.height ks
below_fits (fits_one l u o f) = f

-- ── Popping, over lists ──
module _ (x : Span) (rest c p : List Span) (k : Checkpoint) (ks : List Checkpoint) where
  taken_above : (suc (length rest) ≡ k.lowest → ⊥) → debt (k ∷ ks) ≤ 1024 → got (pest rest p (k ∷ ks)) x ≡ taken_from (x ∷ rest) (pest c p (k ∷ ks))
  taken_above n d = rw (ne_eqb (suc (length rest)) k.lowest n, le-ltb 1024 (debt (k ∷ ks)) d)

  taken_at : suc (length rest) ≡ k.lowest → k.lowest ≤ k.height → debt (k ∷ ks) < 1024
      → got (pest rest (x ∷ p) (checkpoint k.height (k.lowest - 1) ∷ ks)) x ≡ taken_from (x ∷ rest) (pest c p (k ∷ ks))
  taken_at e o d = rw (eq-eqb (suc (length rest)) k.lowest e, le-ltb 1024 ((k.height - (k.lowest - 1)) + debt ks) (omega arith))

  taken_full : suc (length rest) ≡ k.lowest → k.lowest ≤ k.height → 1024 ≤ debt (k ∷ ks) → Take.full ≡ taken_from (x ∷ rest) (pest c p (k ∷ ks))
  taken_full e o d = rw (eq-eqb (suc (length rest)) k.lowest e, lt-ltb 1024 ((k.height - (k.lowest - 1)) + debt ks) (omega arith))

-- What `restore` picks is the same list where nothing was popped.
restored_pick : (tall low : ℕ) (q z : List Span) (ks : List Checkpoint) → Dec (low < tall)
    → (if ltb low tall then pest (reverse (take (tall - low) q) ++ z) (drop (tall - low) q) ks else pest z q ks)
    ≡ pest (reverse (take (tall - low) q) ++ z) (drop (tall - low) q) ks
restored_pick tall low q z ks (yes l) = rw (lt-ltb low tall l)
restored_pick tall low q z ks (no n) =
    let e : tall - low ≡ 0 = omega arith in
    rw (le-ltb low tall (omega arith), e)

module _ (a : List ℕ) (s : Stack) (r : StackReady a s) where
  abbrev h : ℕ
  h = s.height

  abbrev p : ℕ
  p = s.popped

  abbrev c : ℕ
  c = s.checkpoints

  abbrev entries : ℕ → List Span
  entries n = pairs span a 0 n

  abbrev owed : ℕ → List Span
  owed n = pairs span a 256 n

  abbrev marks : ℕ → List Checkpoint
  marks n = pairs checkpoint a 2816 n

  owed_is : p ≡ debt (marks c)
  owed_is = sym (pairs_length span a 256 p) ∙ r.sound.owed

  fits_is : Fits h (marks c)
  fits_is = rw (pairs_length span a 0 h) at r.sound.fits

  -- ── push ──
  pub push_ok : (x y : ℕ) (a' : List ℕ) → h < 128 → a' ≡ put a (0 + h * 2) x y
      → (Some (stack_of a' (counts (h + 1) p c)) ≡ pushed (span x y) (stack_of a s)) × OutsideStack a a'
  push_ok x y a' l e =
      let o : Outside (0 + h * 2) (0 + h * 2 + 2) a a' = rw e (outside_put a (0 + h * 2) x y) in
      let j : h + 1 ≡ suc h = omega arith in
      let q : pairs span a' 0 (h + 1) ≡ span x y ∷ entries h = ap₂ (λ (b : List ℕ) (m : ℕ). pairs span b 0 m) e j
      ∙ pairs_put span a 0 h x y (omega arith) in (
        rw (pairs_length span a 0 h, lt-leb 128 h l) (ap (λ (v : Pest.Stack). Some v) (pest_ext q
            (sym (pairs_same span a a' 256 p (same_above 256 (256 + p * 2) (omega arith) o)))
            (sym (pairs_same checkpoint a a' 2816 c (same_above 2816 (2816 + c * 2) (omega arith) o))))),
        stack_below (omega arith) o,
      )

  pub push_full : (x y : ℕ) → 128 ≤ h → (None ≡ pushed (span x y) (stack_of a s)) × OutsideStack a a
  push_full x y l = (rw (pairs_length span a 0 h, le-leb 128 h l), stack_refl a)

  -- ── snapshot ──
  pub snapshot_ok : (a' : List ℕ) → c < 1024 → a' ≡ put a (2816 + c * 2) h h → (stack_of a' (counts h p (c + 1)) ≡ snapshot (stack_of a s))
      × OutsideStack a a'
  snapshot_ok a' l e =
      let o : Outside (2816 + c * 2) (2816 + c * 2 + 2) a a' = rw e (outside_put a (2816 + c * 2) h h) in
      let j : c + 1 ≡ suc c = omega arith in (
        rw (pairs_length span a 0 h) (pest_ext
            (sym (pairs_same span a a' 0 h (same_below 0 (0 + h * 2) (omega arith) o)))
            (sym (pairs_same span a a' 256 p (same_below 256 (256 + p * 2) (omega arith) o)))
            (ap₂ (λ (b : List ℕ) (m : ℕ). pairs checkpoint b 2816 m) e j ∙ pairs_put checkpoint a 2816 c h h (omega arith))),
        stack_above (omega arith) (omega arith) o,
      )

  -- ── The innermost checkpoint, as the code reads it ──
  module _ (cz : c ≡ 0 → ⊥) (top : ℕ × ℕ) (et : top ≡ pair a (2816 + (c - 1) * 2)) where
    abbrev tall : ℕ
    tall = top.0

    abbrev low : ℕ
    low = top.1

    lengths_is : marks c ≡ checkpoint tall low ∷ marks (c - 1)
    lengths_is = rw et (pairs_last checkpoint a 2816 c (c - 1) (omega arith))

    pub top_is : Top h p tall low (debt (marks (c - 1)))
    top_is = top_fits p (rw lengths_is at fits_is) (rw lengths_is at owed_is)

  -- ── pop ──
  pub pop_empty : h ≡ 0 → (Take.empty ≡ taken (stack_of a s)) × OutsideStack a a
  unfolding pairs
  pop_empty e = (rw e, stack_refl a)

  module _ (hz : h ≡ 0 → ⊥) (x : ℕ × ℕ) (ex : x ≡ pair a (0 + (h - 1) * 2)) (w : Code.Span) (ew : (w.start.0 ≡ x.0) × (w.end.0 ≡ x.1)) where
    abbrev gone : Span
    gone = span w.start.0 w.end.0

    gone_is : gone ≡ span x.0 x.1
    gone_is = ap₂ span ew.0 ew.1

    cache_is : entries h ≡ gone ∷ entries (h - 1)
    cache_is = rw (gone_is, ex) (pairs_last span a 0 h (h - 1) (omega arith))

    pub pop_free : c ≡ 0 → (got (stack_of a (counts (h - 1) p c)) gone ≡ taken (stack_of a s)) × OutsideStack a a
    unfolding pairs
    pop_free e = (rw (e, cache_is), stack_refl a)

    low_len : suc (length (entries (h - 1))) ≡ h
    low_len = omega (arith, pairs_length span a 0 (h - 1))

    module _ (cz : c ≡ 0 → ⊥) (top : ℕ × ℕ) (et : top ≡ pair a (2816 + (c - 1) * 2)) where
      pub pop_above : (top.1 ≡ h → ⊥) → (got (stack_of a (counts (h - 1) p c)) gone ≡ taken (stack_of a s)) × OutsideStack a a
      pop_above n =
          let t : Top h p top.0 top.1 (debt (marks (c - 1))) = top_is cz top et in (
            rw (cache_is, lengths_is cz top et) (taken_above gone (entries (h - 1)) [] (owed p) _ _ (λ e. n (sym e ∙ low_len))
                (omega (arith, t.owing))),
            stack_refl a,
          )

      pub pop_at : (a₁ a₂ : List ℕ) → top.1 ≡ h → p < 1024
          → a₁ ≡ put a (2816 + (c - 1) * 2) top.0 (top.1 - 1) → a₂ ≡ put a₁ (256 + p * 2) x.0 x.1
          → (got (stack_of a₂ (counts (h - 1) (p + 1) c)) gone ≡ taken (stack_of a s)) × OutsideStack a a₂
      pop_at a₁ a₂ e l e₁ e₂ =
          let t : Top h p top.0 top.1 (debt (marks (c - 1))) = top_is cz top et in
          let o₁ : Outside (2816 + (c - 1) * 2) (2816 + (c - 1) * 2 + 2) a a₁ = rw e₁ (outside_put a (2816 + (c - 1) * 2) top.0 (top.1 - 1)) in
          let o₂ : Outside (256 + p * 2) (256 + p * 2 + 2) a₁ a₂ = rw e₂ (outside_put a₁ (256 + p * 2) x.0 x.1) in
          let k : c ≡ suc (c - 1) = omega arith in
          let j : p + 1 ≡ suc p = omega arith in
          let cache₂ : pairs span a₂ 0 (h - 1) ≡ entries (h - 1) =
          sym (pairs_same span a a₁ 0 (h - 1) (same_below 0 (0 + (h - 1) * 2) (omega arith) o₁)
          ∙ pairs_same span a₁ a₂ 0 (h - 1) (same_below 0 (0 + (h - 1) * 2) (omega arith) o₂)) in
          let popped₂ : pairs span a₂ 256 (p + 1) ≡ gone ∷ owed p =
          ap₂ (λ (b : List ℕ) (m : ℕ). pairs span b 256 m) e₂ j
          ∙ pairs_put span a₁ 256 p x.0 x.1 (omega (arith, o₁.size))
          ∙ ap₂ (λ (u : Span) (q : List Span). u ∷ q) (sym gone_is)
          (sym (pairs_same span a a₁ 256 p (same_below 256 (256 + p * 2) (omega arith) o₁))) in
          let lengths₂ : pairs checkpoint a₂ 2816 c ≡ checkpoint top.0 (top.1 - 1) ∷ marks (c - 1) =
          sym (pairs_same checkpoint a₁ a₂ 2816 c (same_above 2816 (2816 + c * 2) (omega arith) o₂))
          ∙ ap₂ (λ (b : List ℕ) (m : ℕ). pairs checkpoint b 2816 m) e₁ k
          ∙ pairs_put checkpoint a 2816 (c - 1) top.0 (top.1 - 1) (omega arith) in (
            ap (λ (v : Pest.Stack). got v gone) (pest_ext cache₂ popped₂ lengths₂)
                ∙ rw (cache_is, lengths_is cz top et) (taken_at gone (entries (h - 1)) [] (owed p) (checkpoint top.0 top.1) (marks (c - 1))
                (low_len ∙ sym e) t.own (omega (arith, t.owing))),
            stack_trans (stack_above (omega arith) (omega arith) o₁) (stack_below (omega arith) o₂),
          )

      full_at : top.1 ≡ h → 1024 ≤ p → (Take.full ≡ taken (stack_of a s)) × OutsideStack a a
      full_at e l =
          let t : Top h p top.0 top.1 (debt (marks (c - 1))) = top_is cz top et in (
            rw (cache_is, lengths_is cz top et) (taken_full gone (entries (h - 1)) [] (owed p) _ _ (low_len
                ∙ sym e) t.own (omega (arith, t.owing))),
            stack_refl a,
          )

  pub pop_full : (h ≡ 0 → ⊥) → (x : ℕ × ℕ) → x ≡ pair a (0 + (h - 1) * 2) → (c ≡ 0 → ⊥) → (top : ℕ × ℕ) → top ≡ pair a (2816 + (c - 1) * 2)
      → top.1 ≡ h → 1024 ≤ p
      → (Take.full ≡ taken (stack_of a s)) × OutsideStack a a
  pop_full hz x ex cz top et e l = full_at hz x ex (record { start = record { 0 = x.0 }; end = record { 0 = x.1 } }) (refl, refl) cz top et e l

  -- ── clear_snapshot ──
  pub clear_none : c ≡ 0 → (stack_of a s ≡ clear_snapshot (stack_of a s)) × OutsideStack a a
  unfolding pairs
  clear_none e = (rw e, stack_refl a)

  module _ (cz : c ≡ 0 → ⊥) (top : ℕ × ℕ) (et : top ≡ pair a (2816 + (c - 1) * 2)) where
    -- What the innermost checkpoint owes, dropped.
    left_is : owed (p - (top.0 - top.1)) ≡ drop (top.0 - top.1) (owed p)
    left_is =
        let t : Top h p top.0 top.1 (debt (marks (c - 1))) = top_is cz top et in
        sym (pairs_drop span a 256 (top.0 - top.1) p (p - (top.0 - top.1)) (omega (arith, t.owing)))

    pub clear_one : c ≡ 1 → (stack_of a (counts h (p - (top.0 - top.1)) 0) ≡ clear_snapshot (stack_of a s)) × OutsideStack a a
    unfolding pairs
    clear_one e =
        let last : marks (c - 1) ≡ [] = rw e in
        (rw (lengths_is cz top et, last) (pest_ext refl left_is refl), stack_refl a)

    module _ (more : c ≡ 1 → ⊥) (outer : ℕ × ℕ) (eo : outer ≡ pair a (2816 + (c - 2) * 2)) where
      outer_is : marks (c - 1) ≡ checkpoint outer.0 outer.1 ∷ marks (c - 2)
      outer_is = rw eo (pairs_last checkpoint a 2816 (c - 1) (c - 2) (omega arith))

      pub outer_top : Top top.0 (debt (marks (c - 1))) outer.0 outer.1 (debt (marks (c - 2)))
      outer_top =
          let g : Fits top.0 (marks (c - 1)) = below_fits (rw (lengths_is cz top et) at fits_is) in
          top_fits (debt (marks (c - 1))) (rw outer_is at g) (ap debt outer_is)

      cleared_is : clear_snapshot (stack_of a s)
          ≡ pest (entries h) (take (outer.1 - min outer.1 top.1) (owed p) ++ drop (top.0 - top.1) (owed p))
          (checkpoint outer.0 (min outer.1 top.1) ∷ marks (c - 2))
      cleared_is = rw (lengths_is cz top et, outer_is)

      pub clear_more : (a₁ a₂ : List ℕ) (low n : ℕ) → low ≡ min outer.1 top.1 → n ≡ outer.1 - top.1 → a₁ ≡ put a (2816 + (c - 2) * 2) outer.0 low
          → Drained a₁ a₂ (p - (top.0 - top.1)) (p - n) n
          → (stack_of a₂ (counts h (p - (top.0 - top.1) + n) (c - 1)) ≡ clear_snapshot (stack_of a s)) × OutsideStack a a₂
      clear_more a₁ a₂ low n m k₁ e₁ d =
          let t : Top h p top.0 top.1 (debt (marks (c - 1))) = top_is cz top et in
          let t₁ : Top top.0 (debt (marks (c - 1))) outer.0 outer.1 (debt (marks (c - 2))) = outer_top in
          let to : ℕ = p - (top.0 - top.1) in
          let from : ℕ = p - n in
          let k₀ : n ≡ outer.1 - low = omega arith in
          let hn : from + n ≡ p = omega (arith, t.owing, t₁.under) in
          let ht : to ≤ from = omega (arith, t.owing, t₁.under) in
          let hs : to + n ≤ p = omega (arith, t.owing, t₁.under) in
          let o₁ : Outside (2816 + (c - 2) * 2) (2816 + (c - 2) * 2 + 2) a a₁ = rw e₁ (outside_put a (2816 + (c - 2) * 2) outer.0 low) in
          let o₂ : Outside (256 + to * 2) (256 + (to + n) * 2) a₁ a₂ = drained_outside a₁ a₂ to from n d in
          let k : c - 1 ≡ suc (c - 2) = omega arith in
          let same₁ : (j : ℕ) → j ≤ p → pairs span a₁ 256 j ≡ owed j =
          λ j hj. sym (pairs_same span a a₁ 256 j (same_below 256 (256 + j * 2) (omega arith) o₁)) in
          let cache₂ : pairs span a₂ 0 h ≡ entries h =
          sym (pairs_same span a a₁ 0 h (same_below 0 (0 + h * 2) (omega arith) o₁)
          ∙ pairs_same span a₁ a₂ 0 h (same_below 0 (0 + h * 2) (omega arith) o₂)) in
          let popped₂ : pairs span a₂ 256 (to + n) ≡ take n (owed p) ++ drop (top.0 - top.1) (owed p) =
          drained_pairs a₁ a₂ to from n n d (omega arith)
          ∙ ap₂ (λ (q q' : List Span). take n q ++ q') (ap (λ (j : ℕ). pairs span a₁ 256 j) hn
          ∙ same₁ p (omega arith)) (same₁ to (omega arith) ∙ left_is) in
          let lengths₂ : pairs checkpoint a₂ 2816 (c - 1) ≡ checkpoint outer.0 low ∷ marks (c - 2) =
          sym (pairs_same checkpoint a₁ a₂ 2816 (c - 1) (same_above 2816 (2816 + (c - 1) * 2) (omega arith) o₂))
          ∙ ap₂ (λ (b : List ℕ) (j : ℕ). pairs checkpoint b 2816 j) e₁ k
          ∙ pairs_put checkpoint a 2816 (c - 2) outer.0 low (omega arith) in (
            pest_ext cache₂
                (popped₂ ∙ ap (λ (j : ℕ). take j (owed p) ++ drop (top.0 - top.1) (owed p)) (k₀ ∙ ap (λ (j : ℕ). outer.1 - j) m))
                (lengths₂ ∙ ap (λ (j : ℕ). checkpoint outer.0 j ∷ marks (c - 2)) m)
                ∙ sym cleared_is,
            stack_trans (stack_above (omega arith) (omega arith) o₁) (stack_below (omega arith) o₂),
          )

    -- ── restore ──
    kept_is : (if ltb top.1 (length (entries h)) then truncate top.1 (entries h) else entries h) ≡ entries top.1
    kept_is = go (dec_lt top.1 h)
      where
        go : Dec (top.1 < h) → (if ltb top.1 (length (entries h)) then truncate top.1 (entries h) else entries h) ≡ entries top.1
        go (yes l) = rw (pairs_length span a 0 h, lt-ltb top.1 h l) (pairs_drop span a 0 (h - top.1) h top.1 (omega arith))
        go (no n) =
            let t : Top h p top.0 top.1 (debt (marks (c - 1))) = top_is cz top et in
            let e : h ≡ top.1 = omega (arith, t.under) in
            rw (pairs_length span a 0 h, le-ltb top.1 h (omega arith)) (ap (λ (m : ℕ). entries m) e)

    restored_is : restore (stack_of a s) ≡ pest (reverse (take (top.0 - top.1) (owed p)) ++ entries top.1) (drop (top.0 - top.1) (owed p))
        (marks (c - 1))
    restored_is = rw (lengths_is cz top et, kept_is) (restored_pick top.0 top.1 (owed p) (entries top.1) (marks (c - 1)) (dec_lt top.1 top.0))

    pub restore_ok : (a' : List ℕ) → a' ≡ refilled a top.1 p (top.0 - top.1)
        → (stack_of a' (counts top.0 (p - (top.0 - top.1)) (c - 1)) ≡ restore (stack_of a s)) × OutsideStack a a'
    restore_ok a' e =
        let t : Top h p top.0 top.1 (debt (marks (c - 1))) = top_is cz top et in
        let n : ℕ = top.0 - top.1 in
        let o : Outside (0 + top.1 * 2) (0 + (top.1 + n) * 2) a a' = rw e (refilled_outside a top.1 p n) in
        let j : top.0 ≡ top.1 + n = omega (arith, t.own) in (
          pest_ext
              (ap₂ (λ (b : List ℕ) (m : ℕ). pairs span b 0 m) e j
              ∙ refilled_pairs a top.1 p n (omega (arith, t.owing)) (omega (arith, t.high)) r.room)
              (sym (pairs_same span a a' 256 (p - n) (same_above 256 (256 + (p - n) * 2) (omega (arith, t.high)) o)) ∙ left_is)
              (sym (pairs_same checkpoint a a' 2816 (c - 1) (same_above 2816 (2816 + (c - 1) * 2) (omega (arith, t.high)) o)))
              ∙ sym restored_is,
          stack_below (omega (arith, t.high)) o,
        )

  pub restore_none : c ≡ 0 → (stack_of a (counts 0 p c) ≡ restore (stack_of a s)) × OutsideStack a a
  unfolding pairs
  restore_none e = (rw e, stack_refl a)
