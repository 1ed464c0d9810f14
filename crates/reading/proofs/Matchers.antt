-- pest's own matchers (position.rs) answer what document 01's do, at a character edge of valid text: `slice.get(0..len)` asks for an
-- edge, which stands there where the bytes match.
use Rattle.std.specs.Prelude.{if◌then◌else◌}
use mathlib.Core.Path.{◌≡◌, refl, sym, ap, ◌∙◌, subst}
use mathlib.Core.Bool.{Bool, true, false, ◌&&◌, cond}
use mathlib.Core.List.{List, [], ◌∷◌}
use Rattle.std.specs.Prelude.{Option, None, Some}
use Prim.Native.Nat.{ℕ, zero, suc, ◌+◌, ◌≤◌, ◌<◌}
use native.Mathlib.Omega.{arith}
use native.Mathlib.Nat.{add-zero}
use lib.IntN.{ℤ, pos, negsuc}
use lib.ListN.{length, take, drop, length-drop}
use lib.Seq.{drop-drop}
use lib.Dec.{eqb, leb}
use borrow.Author.Tests.{leb-true, leb-false, le-leb, lt-leb, lt-ltb, le-ltb}
use Rattle.matching.specs.Utf8.{Utf8, decode}
use Rattle.matching.specs.declared.utf8.Character.{Character}
use Rattle.matching.specs.Position as Position
use Rattle.matching.specs.Position.{starts_by, same_folded, match_by, match_char_by, past}
use Rattle.matching.proofs.Forward.{starts_length, Found, found, char_forward}
use Rattle.matching.proofs.Edges.{edge_after, folded_keeps}
use Rattle.matching.proofs.Boundary.{edge_boundary}
use Rattle.reading.specs.Ending.{Span}
use Rattle.reading.specs.Reading as Reading
use Rattle.reading.specs.Pest as Pest

same_starts : (same : ℕ → ℕ → Bool) (l x : List ℕ) → length l ≤ length x → Pest.same_bytes same l (take (length l) x) ≡ starts_by same l x
same_starts same [] x h = refl
same_starts same (a ∷ l) [] h = absurd (omega arith)
same_starts same (a ∷ l) (b ∷ x) h = ap (λ (y : Bool). same a b && y) (same_starts same l x (omega arith))

module _ (text : List ℕ) where
  pub string_same : (l : List ℕ) (p : ℕ) → Position.match_string text l p ≡ Pest.match_string text l p
  unfolding match_by
  string_same l p = go (leb (p + length l) (length text)) refl (starts_by eqb l (drop p text)) refl
    where
      no_match : (b : Bool) → cond (b && false) (Some (p + length l)) None ≡ None
      no_match true = refl
      no_match false = refl

      go : (a : Bool) → leb (p + length l) (length text) ≡ a → (b : Bool) → starts_by eqb l (drop p text) ≡ b
          → Position.match_string text l p ≡ Pest.match_string text l p
      go true e true f =
          let h : p + length l ≤ length text = leb-true (p + length l) (length text) e in
          rw (le-leb p (length text) (omega arith), e, same_starts eqb l (drop p text) (omega (arith, length-drop p text)), f)
      go true e false f =
          let h : p + length l ≤ length text = leb-true (p + length l) (length text) e in
          rw (le-leb p (length text) (omega arith), e, same_starts eqb l (drop p text) (omega (arith, length-drop p text)), f)
      go false e true f =
          let h : length text < p + length l = leb-false (p + length l) (length text) e in
          let k : leb p (length text) ≡ false = lt-leb p (length text) (omega (arith, starts_length eqb l (drop p text) f, length-drop p text)) in
          rw (e, k)
      go false e false f = rw (e, f) (no_match (leb p (length text)))

  pub folded_same : (l : List ℕ) → Utf8 l → (p : ℕ) → p ≤ length text → Utf8 (drop p text)
      → Position.match_insensitive text l p ≡ Pest.match_insensitive text l p
  unfolding match_by
  folded_same l u p k v = go (starts_by same_folded l x) refl
    where
      x : List ℕ
      x = drop p text

      none_of : (a : Bool) → (if a && false then Some (p + length l) else None) ≡ None
      none_of true = refl
      none_of false = refl

      part : starts_by same_folded l x ≡ true → Pest.has_part x (length l) ≡ true
      part f =
          let n : length l ≤ length x = starts_length same_folded l x f in
          rw (le-leb (length l) (length x) n) (edge_boundary x (length l)
          (record { inside = n; whole = edge_after same_folded folded_keeps l u x v f }))

      go : (b : Bool) → starts_by same_folded l x ≡ b → Position.match_insensitive text l p ≡ Pest.match_insensitive text l p
      go true f =
          let n : length l ≤ length x = starts_length same_folded l x f in
          rw (le-leb p (length text) k, f, part f, same_starts same_folded l x n, f)
      go false f = rw (le-leb p (length text) k, f) (sym (fails (leb (length l) (length x)) refl))
        where
          fails : (c : Bool) → leb (length l) (length x) ≡ c → Pest.match_insensitive text l p ≡ None
          fails true e = rw (same_starts same_folded l x (leb-true (length l) (length x) e), f) (none_of (Pest.has_part x (length l)))
          fails false e = rw e

  pub range_same : (a b p : ℕ) → Position.match_range text a b p ≡ Pest.match_range text a b p
  unfolding match_char_by
  range_same a b p = refl

  -- ── skip ──
  skip_from : (n p len : ℕ) → p + len ≤ length text → Position.skip text n (p + len) ≡ Pest.advance p (Pest.skipped n (drop (p + len) text) len)
  unfolding match_char_by
  skip_from zero p len h = rw (le-leb (p + len) (length text) h)
  skip_from (suc n) p len h = go (decode (drop (p + len) text)) (char_forward text (λ v. true) (p + len)) (λ c. skip_from n p (len + c))
    where
      go : (o : Option Character) → Found (length text) (p + len) 1 (past (λ v. true) (p + len) o)
          → ((c : ℕ) → p + (len + c) ≤ length text
          → Position.skip text n (p + (len + c)) ≡ Pest.advance p (Pest.skipped n (drop (p + (len + c)) text) (len + c)))
          → elim (past (λ v. true) (p + len) o) as (λ y. Option ℕ) [ None ↦ None | Some q ↦ Position.skip text n q ]
          ≡ Pest.advance p (elim o as (λ y. Option ℕ) [ None ↦ None | Some c ↦ Pest.skipped n (drop c.size (drop (p + len) text)) (len + c.size) ])
      go None f ih = refl
      go (Some c) (found q f) ih =
          let e : p + (len + c.size) ≡ p + len + c.size = omega arith in
          let h : p + (len + c.size) ≤ length text = omega (arith, f.fits) in
          ap (Position.skip text n) (sym e) ∙ ih c.size h
          ∙ ap (λ (x : List ℕ). Pest.advance p (Pest.skipped n x (len + c.size))) (ap (λ (m : ℕ). drop m text) e
          ∙ sym (drop-drop c.size (p + len) text))

  pub skip_same : (n p : ℕ) → p ≤ length text → Position.skip text n p ≡ Pest.skip text n p
  skip_same n p h = subst (λ (m : ℕ). Position.skip text n m ≡ Pest.advance p (Pest.skipped n (drop m text) 0)) (add-zero p)
      (skip_from n p 0 (omega arith))

  -- ── entries ──
  pub entries_same : (vs : List Span) (p : ℕ) → Reading.after_entries text vs p ≡ Pest.all_match text vs p
  entries_same [] p = refl
  entries_same (v ∷ vs) p =
      subst (λ (y : Option ℕ). ◌≡◌ {A = Option ℕ} (Reading.after_entries text (v ∷ vs) p) (elim y
      [ None ↦ None | Some q ↦ Pest.all_match text vs q ]))
      (string_same (Pest.as_str text v) p) (go (Reading.after_entry text v p) (entries_same vs))
    where
      go : (x : Option ℕ) → ((q : ℕ) → Reading.after_entries text vs q ≡ Pest.all_match text vs q)
          → ◌≡◌ {A = Option ℕ} (elim x [ None ↦ None | Some q ↦ Reading.after_entries text vs q ]) (elim x
          [ None ↦ None | Some q ↦ Pest.all_match text vs q ])
      go None ih = refl
      go (Some q) ih = ih q

-- ── normalize_index ──
pub index_same : (i : ℤ) (h : ℕ) → Reading.index_in h i ≡ Pest.normalize_index i h
index_same (pos i) h = go (leb i h) refl
  where
    go : (b : Bool) → leb i h ≡ b → Reading.index_in h (pos i) ≡ Pest.normalize_index (pos i) h
    go true e = rw (e, le-ltb h i (leb-true i h e))
    go false e = rw (e, lt-ltb h i (leb-false i h e))
index_same (negsuc i) h = go (leb (suc i) h) refl
  where
    go : (b : Bool) → leb (suc i) h ≡ b → Reading.index_in h (negsuc i) ≡ Pest.normalize_index (negsuc i) h
    go true e = rw (e, le-ltb h (suc i) (leb-true (suc i) h e))
    go false e = rw (e, lt-ltb h (suc i) (leb-false (suc i) h e))

pub end_same : (j : Option ℤ) (h : ℕ) → Reading.end_in h j ≡ Pest.normalize_end j h
end_same None h = refl
end_same (Some j) h = index_same j h

pub slice_same : (i j : ℕ) (d : Bool) (v : List Span) → Reading.entries i j d v ≡ Pest.slice i j d v
slice_same i j true v = refl
slice_same i j false v = refl
