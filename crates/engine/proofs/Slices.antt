-- A slice of the stack, taken one entry at a time from either end.
use mathlib.Core.Path.{◌≡◌, refl, sym, ap, ap₂, ◌∙◌}
use mathlib.Core.Bool.{Bool, true, false}
use mathlib.Core.List.{List, [], ◌∷◌, ◌++◌, reverse, reverse-append}
use Rattle.std.specs.Prelude.{Option, None, Some}
use Prim.Native.Nat.{ℕ, zero, suc, ◌+◌, ◌-◌, ◌≤◌, ◌<◌}
use native.Mathlib.Omega.{arith}
use native.Mathlib.Decide.{dec_lt}
use lib.ListN.{length, get_or, take, drop, length-drop, length-reverse, get_or-append}
use lib.Seq.{take-suc, drop-cons, get_or-drop, get_or_at}
use Rattle.matching.specs.Answers.{matched}
use Rattle.matching.specs.Position.{match_string}
use Rattle.matching.specs.declared.position.BytePosition.{BytePosition}
use Rattle.reading.specs.Pest as Pest
use Rattle.reading.specs.Ending.{Span}
use Rattle.reading.specs.Pest.{slice, all_match, as_str}
use Rattle.engine.specs.Areas.{pairs, span}
use Rattle.engine.specs.StackMatch.{entry_at, index_at}
use Rattle.engine.proofs.Regions.{pairs_length}
use Rattle.engine.proofs.Matching.{match_string_same}

module _ (a : List ℕ) where
  -- The entries, the bottom one first.
  abbrev up : ℕ → List Span
  up h = reverse (pairs span a 0 h)

  up_length : (h : ℕ) → length (up h) ≡ h
  up_length h = length-reverse (pairs span a 0 h) ∙ pairs_length span a 0 h

  up_more : (h : ℕ) → up (suc h) ≡ up h ++ (entry_at a h ∷ [])
  unfolding pairs
  up_more h = reverse-append (entry_at a h ∷ []) (pairs span a 0 h)

  pub up_at : (h i : ℕ) (d : Span) → i < h → get_or (up h) i d ≡ entry_at a i
  up_at zero i d l = absurd (omega arith)
  up_at (suc h) i d l = rw (up_more h) (go (up_at h i d) (dec_lt i h))
    where
      go : (i < h → get_or (up h) i d ≡ entry_at a i) → Dec (i < h) → get_or (up h ++ (entry_at a h ∷ [])) i d ≡ entry_at a i
      go r (yes m) = get_or-append (up h) (entry_at a h ∷ []) d i (omega (arith, up_length h)) ∙ r m
      go r (no n) =
          let e : i ≡ h = omega arith in
          rw e (get_or_at (up h) (entry_at a h) [] d h (up_length h))

  module _ (low high h : ℕ) (l : low < high) (m : high ≤ h) where
    pub slice_up : slice low high false (pairs span a 0 h) ≡ entry_at a low ∷ slice (low + 1) high false (pairs span a 0 h)
    slice_up =
        let d : Span = entry_at a low in
        let j : high - low ≡ suc (high - (low + 1)) = omega arith in
        let k : low + 1 ≡ suc low = omega arith in
        ap₂ (λ (n : ℕ) (q : List Span). take n q) j (drop-cons (up h) low d (omega (arith, up_length h)))
        ∙ ap₂ (λ (x : Span) (n : ℕ). x ∷ take (high - (low + 1)) (drop n (up h))) (up_at h low d (omega arith)) (sym k)

    pub slice_down : slice low high true (pairs span a 0 h) ≡ entry_at a (high - 1) ∷ slice low (high - 1) true (pairs span a 0 h)
    slice_down =
        let d : Span = entry_at a low in
        let j : high - low ≡ suc (high - 1 - low) = omega arith in
        let k : low + (high - 1 - low) ≡ high - 1 = omega arith in
        let q : List Span = drop low (up h) in
        let more : take (high - low) q ≡ take (high - 1 - low) q ++ (entry_at a (high - 1) ∷ []) =
        ap (λ (n : ℕ). take n q) j
        ∙ take-suc q (high - 1 - low) d (omega (arith, up_length h, length-drop low (up h)))
        ∙ ap (λ (x : Span). take (high - 1 - low) q ++ (x ∷ [])) (get_or-drop low (up h) (high - 1 - low) d
        ∙ ap (λ (n : ℕ). get_or (up h) n d) k ∙ up_at h (high - 1) d (omega arith)) in
        ap (λ (x : List Span). reverse x) more ∙ reverse-append (take (high - 1 - low) q) (entry_at a (high - 1) ∷ [])

  -- What is left of a slice at turn k.
  abbrev pub left : (start end k : ℕ) → (down : Bool) → (h : ℕ) → List Span
  left start end k true h = slice start (end - (k - start)) true (pairs span a 0 h)
  left start end k false h = slice k end false (pairs span a 0 h)

  pub left_next : (start end k : ℕ) (down : Bool) (h : ℕ) → start ≤ k → k < end → end ≤ h
      → left start end k down h ≡ entry_at a (index_at start end k down) ∷ left start end (k + 1) down h
  left_next start end k true h m l g =
      let i : end - (k - start) - 1 ≡ end - 1 - (k - start) = omega arith in
      let j : end - (k - start) - 1 ≡ end - (k + 1 - start) = omega arith in
      slice_down start (end - (k - start)) h (omega arith) (omega arith)
      ∙ ap₂ (λ (x y : ℕ). entry_at a x ∷ slice start y true (pairs span a 0 h)) i j
  left_next start end k false h m l g = slice_up k end h l g

-- ── A slice, matched ──
pub matched_at : (o : Option ℕ) (q : BytePosition) → matched o ≡ Some q → o ≡ Some q.0
matched_at None q e = let z : ◌≡◌ {A = ℕ} 0 1 = cc in absurd (omega arith)
matched_at (Some p) q e = let f : record { 0 = p } ≡ q = cc in ap (λ (x : BytePosition). Some x.0) f

pub matched_failed : (o : Option ℕ) → matched o ≡ None → o ≡ None
matched_failed None e = refl
matched_failed (Some p) e = let z : ◌≡◌ {A = ℕ} 0 1 = cc in absurd (omega arith)

module _ (text : List ℕ) (x : Span) (bytes : List ℕ) (eb : bytes ≡ as_str text x) (p : ℕ) (r : Option BytePosition)
    (er : r ≡ matched (match_string text bytes p)) where
  -- What a string that was matched by the crate below says of pest's match of an entry.
  pub entry_at_end : (q : BytePosition) → r ≡ Some q → Pest.match_string text (as_str text x) p ≡ Some q.0
  entry_at_end q e = rw (← eb) (match_string_same text bytes p ∙ matched_at (match_string text bytes p) q (sym er ∙ e))

  pub entry_failed : r ≡ None → Pest.match_string text (as_str text x) p ≡ None
  entry_failed e = rw (← eb) (match_string_same text bytes p ∙ matched_failed (match_string text bytes p) (sym er ∙ e))

module _ (text : List ℕ) (x : Span) (xs : List Span) (p : ℕ) where
  all_some : (q : ℕ) → Pest.match_string text (as_str text x) p ≡ Some q → all_match text (x ∷ xs) p ≡ all_match text xs q
  all_some q e = go (Pest.match_string text (as_str text x) p) e
    where
      go : (o : Option ℕ) → o ≡ Some q → elim o [ None ↦ None | Some r ↦ all_match text xs r ] ≡ all_match text xs q
      go o e = rw e

  all_none : Pest.match_string text (as_str text x) p ≡ None → all_match text (x ∷ xs) p ≡ None
  all_none e = go (Pest.match_string text (as_str text x) p) e
    where
      go : (o : Option ℕ) → o ≡ None → ◌≡◌ {A = Option ℕ} (elim o [ None ↦ None | Some r ↦ all_match text xs r ]) None
      go o e = rw e

module _ (text a : List ℕ) (down : Bool) (start end : ℕ) (pos : BytePosition) where
  -- The loop's invariant, whatever the height is: what is left of the slice decides, from here on.
  pub record Left (k : ℕ) (at : BytePosition) : Type 0 where
    pub rest : (h : ℕ) → end ≤ h → all_match text (left a start end k down h) at.0 ≡ all_match text (slice start end down (pairs span a 0 h)) pos.0

  module _ (k : ℕ) (at : BytePosition) (w : Left k at) (m : start ≤ k) where
    module _ (l : k < end) (i : ℕ) (ei : i ≡ index_at start end k down) (bytes : List ℕ) (eb : bytes ≡ as_str text (entry_at a i))
        (r : Option BytePosition) (er : r ≡ matched (match_string text bytes at.0)) where
      next : (h : ℕ) → end ≤ h → left a start end k down h ≡ entry_at a i ∷ left a start end (k + 1) down h
      next h g = left_next a start end k down h m l g ∙ ap (λ (j : ℕ). entry_at a j ∷ left a start end (k + 1) down h) (sym ei)

      pub left_more : (q : BytePosition) → r ≡ Some q → Left (k + 1) q
      left_more q e = record {
        rest = λ h g.
            let t : all_match text (left a start end k down h) at.0 ≡ all_match text (left a start end (k + 1) down h) q.0 =
            ap (λ (xs : List Span). all_match text xs at.0) (next h g)
            ∙ all_some text (entry_at a i) (left a start end (k + 1) down h) at.0 q.0 (entry_at_end text (entry_at a i) bytes eb at.0 r er q e) in
            sym t ∙ w.rest h g;
      }

      pub left_fails : (h : ℕ) → end ≤ h → r ≡ None → None ≡ matched (all_match text (slice start end down (pairs span a 0 h)) pos.0)
      left_fails h g e =
          let t : all_match text (left a start end k down h) at.0 ≡ None =
          ap (λ (xs : List Span). all_match text xs at.0) (next h g)
          ∙ all_none text (entry_at a i) (left a start end (k + 1) down h) at.0 (entry_failed text (entry_at a i) bytes eb at.0 r er e) in
          ap matched (sym t ∙ w.rest h g)
