-- Two texts of whole characters match byte by byte exactly where they match character by character: a character's bytes are one of
-- four forms, in which the value fixes the size and every byte, and folding changes characters of one byte only.
use mathlib.Core.Path.{◌≡◌, refl, sym, ap, ◌∙◌, subst}
use mathlib.Core.Bool.{Bool, true, false, ◌&&◌, cond}
use mathlib.Core.List.{List, [], ◌∷◌, ◌++◌}
use Rattle.std.specs.Prelude.{Option, None, Some, is_some}
use Prim.Native.Nat.{ℕ, ◌+◌, ◌*◌, ◌≤◌, ◌<◌}
use native.Mathlib.Omega.{arith}
use lib.ListN.{length, take, drop, take-append-drop}
use lib.Seq.{take-append_seam, drop-append-le}
use lib.Dec.{eqb, leb}
use borrow.Author.Tests.{eqb-true, eqb-false, eq-eqb, ne_eqb, leb-true}
use Rattle.matching.specs.Utf8.{Range, range, tail, utf8_char, within, fits, value_of, first_of, decode, Utf8, utf8_end, utf8_next}
use Rattle.matching.specs.Utf8.{after_value, characters, Edge}
use Rattle.matching.specs.declared.utf8.Character.{Character}
use Rattle.matching.specs.Position.{starts_by, fold_case, same_folded}
use Rattle.matching.proofs.Lead.{and_left, and_right, within_true, decode_nil}
use Rattle.matching.proofs.Forward.{char_size}
use Rattle.matching.proofs.Agree.{decode_grow}
use Rattle.matching.proofs.Edges.{between}
use Rattle.matching.proofs.Characters.{characters_nil, characters_next, is_utf8_iff}
use Rattle.reading.specs.Ford.{or_nil, characters_of}

-- ── The forms of a character: its size and value ──
pub data Form : List ℕ → ℕ → ℕ → Type 0 where
  one : (a v : ℕ) (x : List ℕ) → a < 0x80 → v ≡ a → Form (a ∷ x) 1 v
  two : (a t v : ℕ) (x : List ℕ) → (0xC2 ≤ a) × (a ≤ 0xDF) → (0x80 ≤ t) × (t ≤ 0xBF) → v + 12416 ≡ a * 64 + t → Form (a ∷ t ∷ x) 2 v
  three : (a t u v : ℕ) (x : List ℕ) → (0xE0 ≤ a) × (a ≤ 0xEF) → (0x80 ≤ t) × (t ≤ 0xBF) → (0x80 ≤ u) × (u ≤ 0xBF)
      → v + 925824 ≡ a * 4096 + t * 64 + u → 0x800 ≤ v → Form (a ∷ t ∷ u ∷ x) 3 v
  four : (a t u w v : ℕ) (x : List ℕ) → (0xF0 ≤ a) × (a ≤ 0xF4) → (0x80 ≤ t) × (t ≤ 0xBF) → (0x80 ≤ u) × (u ≤ 0xBF) → (0x80 ≤ w)
      × (w ≤ 0xBF) → v + 63447168 ≡ a * 262144 + t * 4096 + u * 64 + w → 0x10000 ≤ v → Form (a ∷ t ∷ u ∷ w ∷ x) 4 v

no_byte : {A : Type 0} → false ≡ true → A
no_byte e = let z : ◌≡◌ {A = ℕ} 0 1 = cc in absurd (omega arith)

-- The first byte of some that fit.
in_first : (low high a : ℕ) (b : Bool) → (within low high a && b) ≡ true → (low ≤ a) × (a ≤ high)
in_first low high a b e = within_true low high a (and_left (within low high a) b e)

in_rest : (low high a : ℕ) (b : Bool) → (within low high a && b) ≡ true → b ≡ true
in_rest low high a b e = and_right (within low high a) b e

form_one : (x : List ℕ) (v : ℕ) → fits (range 0x00 0x7F ∷ []) x ≡ true → v ≡ value_of 1 x → Form x 1 v
form_one [] v e q = no_byte e
form_one (a ∷ x) v e q = one a v x (omega (arith, in_first 0x00 0x7F a true e)) (omega arith)

form_two : (x : List ℕ) (v : ℕ) → fits (range 0xC2 0xDF ∷ tail ∷ []) x ≡ true → v ≡ value_of 2 x → Form x 2 v
form_two [] v e q = no_byte e
form_two (a ∷ []) v e q = no_byte (in_rest 0xC2 0xDF a false e)
form_two (a ∷ t ∷ x) v e q =
    let h : (0xC2 ≤ a) × (a ≤ 0xDF) = in_first 0xC2 0xDF a (fits (tail ∷ []) (t ∷ x)) e in
    let k : (0x80 ≤ t) × (t ≤ 0xBF) = in_first 0x80 0xBF t true (in_rest 0xC2 0xDF a (fits (tail ∷ []) (t ∷ x)) e) in
    two a t v x h k (omega (arith, q))

-- Rows of three and four bytes, over the ranges of the first two.
module _ (low high from to : ℕ) (l : 0x80 ≤ from) (h : to ≤ 0xBF) where
  form_three : 0xE0 ≤ low → high ≤ 0xEF → 925824 + 0x800 ≤ low * 4096 + from * 64 + 0x80 → (x : List ℕ) (v : ℕ)
      → fits (range low high ∷ range from to ∷ tail ∷ []) x ≡ true → v ≡ value_of 3 x → Form x 3 v
  form_three i j least [] v e q = no_byte e
  form_three i j least (a ∷ []) v e q = no_byte (in_rest low high a false e)
  form_three i j least (a ∷ t ∷ []) v e q = no_byte (in_rest from to t false (in_rest low high a (within from to t && false) e))
  form_three i j least (a ∷ t ∷ u ∷ x) v e q =
      let r : (low ≤ a) × (a ≤ high) = in_first low high a (fits (range from to ∷ tail ∷ []) (t ∷ u ∷ x)) e in
      let e₁ : fits (range from to ∷ tail ∷ []) (t ∷ u ∷ x) ≡ true = in_rest low high a (fits (range from to ∷ tail ∷ []) (t ∷ u ∷ x)) e in
      let s : (from ≤ t) × (t ≤ to) = in_first from to t (fits (tail ∷ []) (u ∷ x)) e₁ in
      let k : (0x80 ≤ u) × (u ≤ 0xBF) = in_first 0x80 0xBF u true (in_rest from to t (fits (tail ∷ []) (u ∷ x)) e₁) in
      let z : v + 925824 ≡ a * 4096 + t * 64 + u = omega (arith, q, r, s, k) in
      three a t u v x (omega (arith, r), omega (arith, r)) (omega (arith, s), omega (arith, s)) k z (omega (arith, r, s, k))

  form_four : 0xF0 ≤ low → high ≤ 0xF4 → 63447168 + 0x10000 ≤ low * 262144 + from * 4096 + 0x80 * 64 + 0x80 → (x : List ℕ) (v : ℕ)
      → fits (range low high ∷ range from to ∷ tail ∷ tail ∷ []) x ≡ true → v ≡ value_of 4 x → Form x 4 v
  form_four i j least [] v e q = no_byte e
  form_four i j least (a ∷ []) v e q = no_byte (in_rest low high a false e)
  form_four i j least (a ∷ t ∷ []) v e q = no_byte (in_rest from to t false (in_rest low high a (within from to t && false) e))
  form_four i j least (a ∷ t ∷ u ∷ []) v e q =
      no_byte (in_rest 0x80 0xBF u false (in_rest from to t (within 0x80 0xBF u && false)
      (in_rest low high a (within from to t && (within 0x80 0xBF u && false)) e)))
  form_four i j least (a ∷ t ∷ u ∷ w ∷ x) v e q =
      let r : (low ≤ a) × (a ≤ high) = in_first low high a (fits (range from to ∷ tail ∷ tail ∷ []) (t ∷ u ∷ w ∷ x)) e in
      let e₁ : fits (range from to ∷ tail ∷ tail ∷ []) (t ∷ u ∷ w ∷ x) ≡ true =
      in_rest low high a (fits (range from to ∷ tail ∷ tail ∷ []) (t ∷ u ∷ w ∷ x)) e in
      let s : (from ≤ t) × (t ≤ to) = in_first from to t (fits (tail ∷ tail ∷ []) (u ∷ w ∷ x)) e₁ in
      let e₂ : fits (tail ∷ tail ∷ []) (u ∷ w ∷ x) ≡ true = in_rest from to t (fits (tail ∷ tail ∷ []) (u ∷ w ∷ x)) e₁ in
      let k : (0x80 ≤ u) × (u ≤ 0xBF) = in_first 0x80 0xBF u (fits (tail ∷ []) (w ∷ x)) e₂ in
      let m : (0x80 ≤ w) × (w ≤ 0xBF) = in_first 0x80 0xBF w true (in_rest 0x80 0xBF u (fits (tail ∷ []) (w ∷ x)) e₂) in
      let z : v + 63447168 ≡ a * 262144 + t * 4096 + u * 64 + w = omega (arith, q, r, s, k, m) in
      four a t u w v x (omega (arith, r), omega (arith, r)) (omega (arith, s), omega (arith, s)) k m z (omega (arith, r, s, k, m))

-- Each row gives a form, so the first that fits does.
infixr 20 ◌or_row◌
data Rows (x : List ℕ) : List (List Range) → Type 0 where
  no_row : Rows x []
  ◌or_row◌ : {f : List Range} {fs : List (List Range)} → ((v : ℕ) → fits f x ≡ true → v ≡ value_of (length f) x → Form x (length f) v)
      → Rows x fs → Rows x (f ∷ fs)

by_rows : (x : List ℕ) (fs : List (List Range)) → Rows x fs → (c : Character) → first_of fs x ≡ Some c → Form x c.size c.value
by_rows x fs no_row c e = let z : ◌≡◌ {A = ℕ} 0 1 = cc in absurd (omega arith)
by_rows x _ (◌or_row◌ {f = f} {fs = gs} r rs) c e = go (fits f x) refl e (by_rows x gs rs c)
  where
    go : (b : Bool) → fits f x ≡ b → cond b (Some (record { size = length f; value = value_of (length f) x })) (first_of gs x) ≡ Some c
        → (first_of gs x ≡ Some c → Form x c.size c.value) → Form x c.size c.value
    go true q e ih =
        let k : record { size = length f; value = value_of (length f) x } ≡ c = cc in
        subst (λ (d : Character). Form x d.size d.value) k (r (value_of (length f) x) q refl)
    go false q e ih = ih e

table : (x : List ℕ) → Rows x utf8_char
table x =
    form_one x
    or_row form_two x
    or_row form_three 0xE0 0xE0 0xA0 0xBF (omega arith) (omega arith) (omega arith) (omega arith) (omega arith) x
    or_row form_three 0xE1 0xEC 0x80 0xBF (omega arith) (omega arith) (omega arith) (omega arith) (omega arith) x
    or_row form_three 0xED 0xED 0x80 0x9F (omega arith) (omega arith) (omega arith) (omega arith) (omega arith) x
    or_row form_three 0xEE 0xEF 0x80 0xBF (omega arith) (omega arith) (omega arith) (omega arith) (omega arith) x
    or_row form_four 0xF0 0xF0 0x90 0xBF (omega arith) (omega arith) (omega arith) (omega arith) (omega arith) x
    or_row form_four 0xF1 0xF3 0x80 0xBF (omega arith) (omega arith) (omega arith) (omega arith) (omega arith) x
    or_row form_four 0xF4 0xF4 0x80 0x8F (omega arith) (omega arith) (omega arith) (omega arith) (omega arith) x
    or_row no_row

pub form_of : (x : List ℕ) (c : Character) → decode x ≡ Some c → Form x c.size c.value
unfolding decode
form_of x c e = by_rows x utf8_char (table x) c e

-- ── Comparisons that are equality outside ASCII ──
pub record Ascii (same : ℕ → ℕ → Bool) : Type 0 where
  pub left : (m n : ℕ) → 0x80 ≤ m → same m n ≡ eqb m n
  pub right : (m n : ℕ) → 0x80 ≤ n → same m n ≡ eqb m n

pub eqb_ascii : Ascii eqb
eqb_ascii = record { left = λ m n h. refl; right = λ m n h. refl }

data Folded (m : ℕ) : Type 0 where
  letter : m ≤ 90 → fold_case m ≡ m + 32 → Folded m
  other : fold_case m ≡ m → Folded m

folded : (m : ℕ) → Folded m
folded m = go (leb 65 m) refl (leb m 90) refl
  where
    go : (b : Bool) → leb 65 m ≡ b → (c : Bool) → leb m 90 ≡ c → Folded m
    go true p true q = letter (leb-true m 90 q) (rw (p, q))
    go true p false q = other (rw (p, q))
    go false p c q = other (rw p)

fold_high : (m : ℕ) → 0x80 ≤ m → fold_case m ≡ m
fold_high m h = go (folded m)
  where
    go : Folded m → fold_case m ≡ m
    go (letter k e) = absurd (omega arith)
    go (other e) = e

pub folded_ascii : Ascii same_folded
folded_ascii = record { left = on_left; right = on_right }
  where
    on_left : (m n : ℕ) → 0x80 ≤ m → same_folded m n ≡ eqb m n
    on_left m n h = go (folded n)
      where
        go : Folded n → same_folded m n ≡ eqb m n
        go (letter k e) = ne_eqb (fold_case m) (fold_case n) (λ (q : fold_case m ≡ fold_case n). absurd (omega (arith, fold_high m h, e)))
            ∙ sym (ne_eqb m n (λ (q : m ≡ n). absurd (omega arith)))
        go (other e) = rw (fold_high m h, e)

    on_right : (m n : ℕ) → 0x80 ≤ n → same_folded m n ≡ eqb m n
    on_right m n h = go (folded m)
      where
        go : Folded m → same_folded m n ≡ eqb m n
        go (letter k e) = ne_eqb (fold_case m) (fold_case n) (λ (q : fold_case m ≡ fold_case n). absurd (omega (arith, fold_high n h, e)))
            ∙ sym (ne_eqb m n (λ (q : m ≡ n). absurd (omega arith)))
        go (other e) = rw (fold_high n h, e)

-- ── The first characters of two texts ──
-- They are alike, and the texts match as what follows the two does; or they are not, and the texts do not match.
pub data Compared (same : ℕ → ℕ → Bool) (l x : List ℕ) (c d v w : ℕ) : Type 0 where
  alike : c ≡ d → same v w ≡ true → starts_by same l x ≡ starts_by same (drop c l) (drop d x) → Compared same l x c d v w
  unlike : same v w ≡ false → starts_by same l x ≡ false → Compared same l x c d v w

module _ (same : ℕ → ℕ → Bool) (h : Ascii same) where
  -- Numbers that differ, one of them outside ASCII.
  left_not : (m n : ℕ) → 0x80 ≤ m → (m ≡ n → ⊥) → same m n ≡ false
  left_not m n k d = h.left m n k ∙ ne_eqb m n d

  right_not : (m n : ℕ) → 0x80 ≤ n → (m ≡ n → ⊥) → same m n ≡ false
  right_not m n k d = h.right m n k ∙ ne_eqb m n d

  left_is : (m n : ℕ) → 0x80 ≤ m → m ≡ n → same m n ≡ true
  left_is m n k d = h.left m n k ∙ eq-eqb m n d

  -- The characters differ in their first bytes and in their values, and the greater ones are outside ASCII.
  less : {l x : List ℕ} {c d v w a b : ℕ} → (a < b) × (0x80 ≤ b) → (v < w) × (0x80 ≤ w) → Compared same (a ∷ l) (b ∷ x) c d v w
  less {v = v} {w = w} {a = a} {b = b} p q =
      unlike (right_not v w q.1 (λ (z : v ≡ w). absurd (omega (arith, q)))) (rw (right_not a b p.1 (λ (z : a ≡ b). absurd (omega (arith, p)))))

  more : {l x : List ℕ} {c d v w a b : ℕ} → (b < a) × (0x80 ≤ a) → (w < v) × (0x80 ≤ v) → Compared same (a ∷ l) (b ∷ x) c d v w
  more {v = v} {w = w} {a = a} {b = b} p q =
      unlike (left_not v w q.1 (λ (z : v ≡ w). absurd (omega (arith, q)))) (rw (left_not a b p.1 (λ (z : a ≡ b). absurd (omega (arith, p)))))

  false_unless : (b : Bool) → (b ≡ true → ⊥) → b ≡ false
  false_unless true n = absurd (n refl)
  false_unless false n = refl

  -- The first byte of two texts that match, and what follows.
  head : (a b : ℕ) (y : Bool) → 0x80 ≤ a → (same a b && y) ≡ true → a ≡ b
  head a b y k e = eqb-true a b (sym (h.left a b k) ∙ and_left (same a b) y e)

  rest : (a b : ℕ) (y : Bool) → (same a b && y) ≡ true → y ≡ true
  rest a b y e = and_right (same a b) y e

  of_one : {l x : List ℕ} {a b v w : ℕ} → v ≡ a → w ≡ b → Compared same (a ∷ l) (b ∷ x) 1 1 v w
  of_one {l} {x} {a} {b} {v} {w} e f = go (same a b) refl
    where
      go : (y : Bool) → same a b ≡ y → Compared same (a ∷ l) (b ∷ x) 1 1 v w
      go true k = alike refl (rw (e, f) k) (rw k)
      go false k = unlike (rw (e, f) k) (rw k)

  -- Characters of the same size: the values are equal exactly where all bytes are.
  of_two : {l x : List ℕ} {a t b s v w : ℕ} → (0x80 ≤ a) × (0x80 ≤ t) × (0x80 ≤ v) → (v ≡ w → (a ≡ b) × (t ≡ s)) → (a ≡ b → t ≡ s → v ≡ w)
      → Compared same (a ∷ t ∷ l) (b ∷ s ∷ x) 2 2 v w
  of_two {l} {x} {a} {t} {b} {s} {v} {w} k to from = go (eqb v w) refl
    where
      go : (y : Bool) → eqb v w ≡ y → Compared same (a ∷ t ∷ l) (b ∷ s ∷ x) 2 2 v w
      go true e =
          let z : v ≡ w = eqb-true v w e in
          alike refl (left_is v w k.2 z) (rw (left_is a b k.0 (to z).0, left_is t s k.1 (to z).1))
      go false e = unlike (h.left v w k.2 ∙ e) (false_unless _ (λ (m : (same a b && (same t s && starts_by same l x)) ≡ true).
          eqb-false v w e (from (head a b _ k.0 m) (head t s _ k.1 (rest a b _ m)))))

  of_three : {l x : List ℕ} {a t u b s r v w : ℕ} → (0x80 ≤ a) × (0x80 ≤ t) × (0x80 ≤ u) × (0x80 ≤ v)
      → (v ≡ w → (a ≡ b) × (t ≡ s) × (u ≡ r)) → (a ≡ b → t ≡ s → u ≡ r → v ≡ w)
      → Compared same (a ∷ t ∷ u ∷ l) (b ∷ s ∷ r ∷ x) 3 3 v w
  of_three {l} {x} {a} {t} {u} {b} {s} {r} {v} {w} k to from = go (eqb v w) refl
    where
      go : (y : Bool) → eqb v w ≡ y → Compared same (a ∷ t ∷ u ∷ l) (b ∷ s ∷ r ∷ x) 3 3 v w
      go true e =
          let z : v ≡ w = eqb-true v w e in
          alike refl (left_is v w k.3 z) (rw (left_is a b k.0 (to z).0, left_is t s k.1 (to z).1, left_is u r k.2 (to z).2))
      go false e = unlike (h.left v w k.3 ∙ e) (false_unless _ (λ (m : (same a b && (same t s && (same u r && starts_by same l x))) ≡ true).
          let m₁ : (same t s && (same u r && starts_by same l x)) ≡ true = rest a b _ m in
          eqb-false v w e (from (head a b _ k.0 m) (head t s _ k.1 m₁) (head u r _ k.2 (rest t s _ m₁)))))

  of_four : {l x : List ℕ} {a t u i b s r j v w : ℕ} → (0x80 ≤ a) × (0x80 ≤ t) × (0x80 ≤ u) × (0x80 ≤ i) × (0x80 ≤ v)
      → (v ≡ w → (a ≡ b) × (t ≡ s) × (u ≡ r) × (i ≡ j))
      → (a ≡ b → t ≡ s → u ≡ r → i ≡ j → v ≡ w) → Compared same (a ∷ t ∷ u ∷ i ∷ l) (b ∷ s ∷ r ∷ j ∷ x) 4 4 v w
  of_four {l} {x} {a} {t} {u} {i} {b} {s} {r} {j} {v} {w} k to from = go (eqb v w) refl
    where
      go : (y : Bool) → eqb v w ≡ y → Compared same (a ∷ t ∷ u ∷ i ∷ l) (b ∷ s ∷ r ∷ j ∷ x) 4 4 v w
      go true e =
          let z : v ≡ w = eqb-true v w e in
          alike refl (left_is v w k.4 z) (rw (left_is a b k.0 (to z).0, left_is t s k.1 (to z).1, left_is u r k.2 (to z).2, left_is i j k.3 (to z).3))
      go false e = unlike (h.left v w k.4 ∙ e) (false_unless _
          (λ (m : (same a b && (same t s && (same u r && (same i j && starts_by same l x)))) ≡ true).
          let m₁ : (same t s && (same u r && (same i j && starts_by same l x))) ≡ true = rest a b _ m in
          let m₂ : (same u r && (same i j && starts_by same l x)) ≡ true = rest t s _ m₁ in
          eqb-false v w e (from (head a b _ k.0 m) (head t s _ k.1 m₁) (head u r _ k.2 m₂) (head i j _ k.3 (rest u r _ m₂)))))

  compare : (l x : List ℕ) (c d v w : ℕ) → Form l c v → Form x d w → Compared same l x c d v w
  compare l x c d v w (one a v' l' p e) (one b w' x' q f) = of_one e f
  compare l x c d v w (one a v' l' p e) (two b s w' x' q r f) = less (omega (arith, q), omega (arith, q)) (omega (arith, q, r), omega (arith, q, r))
  compare l x c d v w (one a v' l' p e) (three b s r w' x' q q₁ q₂ f m) = less (omega (arith, q), omega (arith, q)) (omega arith, omega arith)
  compare l x c d v w (one a v' l' p e) (four b s r j w' x' q q₁ q₂ q₃ f m) = less (omega (arith, q), omega (arith, q)) (omega arith, omega arith)
  compare l x c d v w (two a t v' l' p p₁ e) (one b w' x' q f) =
      more (omega (arith, p), omega (arith, p)) (omega (arith, p, p₁), omega (arith, p, p₁))
  compare l x c d v w (two a t v' l' p p₁ e) (two b s w' x' q q₁ f) =
      of_two (omega (arith, p), omega (arith, p₁), omega (arith, p, p₁)) (λ (z : v ≡ w). (omega (arith, p₁, q₁), omega (arith, p₁, q₁)))
      (λ (z : a ≡ b) (z₁ : t ≡ s). omega arith)
  compare l x c d v w (two a t v' l' p p₁ e) (three b s r w' x' q q₁ q₂ f m) =
      less (omega (arith, p, q), omega (arith, q)) (omega (arith, p, p₁), omega arith)
  compare l x c d v w (two a t v' l' p p₁ e) (four b s r j w' x' q q₁ q₂ q₃ f m) =
      less (omega (arith, p, q), omega (arith, q)) (omega (arith, p, p₁), omega arith)
  compare l x c d v w (three a t u v' l' p p₁ p₂ e k) (one b w' x' q f) = more (omega (arith, p), omega (arith, p)) (omega arith, omega arith)
  compare l x c d v w (three a t u v' l' p p₁ p₂ e k) (two b s w' x' q q₁ f) =
      more (omega (arith, p, q), omega (arith, p)) (omega (arith, q, q₁), omega arith)
  compare l x c d v w (three a t u v' l' p p₁ p₂ e k) (three b s r w' x' q q₁ q₂ f m) =
      of_three (omega (arith, p), omega (arith, p₁), omega (arith, p₂), omega arith)
      (λ (z : v ≡ w). (omega (arith, p₁, p₂, q₁, q₂), omega (arith, p₁, p₂, q₁, q₂), omega (arith, p₁, p₂, q₁, q₂)))
      (λ (z : a ≡ b) (z₁ : t ≡ s) (z₂ : u ≡ r). omega arith)
  compare l x c d v w (three a t u v' l' p p₁ p₂ e k) (four b s r j w' x' q q₁ q₂ q₃ f m) =
      less (omega (arith, p, q), omega (arith, q)) (omega (arith, p, p₁, p₂), omega arith)
  compare l x c d v w (four a t u i v' l' p p₁ p₂ p₃ e k) (one b w' x' q f) = more (omega (arith, p), omega (arith, p)) (omega arith, omega arith)
  compare l x c d v w (four a t u i v' l' p p₁ p₂ p₃ e k) (two b s w' x' q q₁ f) =
      more (omega (arith, p, q), omega (arith, p)) (omega (arith, q, q₁), omega arith)
  compare l x c d v w (four a t u i v' l' p p₁ p₂ p₃ e k) (three b s r w' x' q q₁ q₂ f m) =
      more (omega (arith, p, q), omega (arith, p)) (omega (arith, q, q₁, q₂), omega arith)
  compare l x c d v w (four a t u i v' l' p p₁ p₂ p₃ e k) (four b s r j w' x' q q₁ q₂ q₃ f m) =
      of_four (omega (arith, p), omega (arith, p₁), omega (arith, p₂), omega (arith, p₃), omega arith)
      (λ (z : v ≡ w). (
        omega (arith, p₁, p₂, p₃, q₁, q₂, q₃),
        omega (arith, p₁, p₂, p₃, q₁, q₂, q₃),
        omega (arith, p₁, p₂, p₃, q₁, q₂, q₃),
        omega (arith, p₁, p₂, p₃, q₁, q₂, q₃),
      ))
      (λ (z : a ≡ b) (z₁ : t ≡ s) (z₂ : u ≡ r) (z₃ : i ≡ j). omega arith)

  pub compared : (l x : List ℕ) (c d : Character) → decode l ≡ Some c → decode x ≡ Some d → Compared same l x c.size d.size c.value d.value
  compared l x c d e f = compare l x c.size d.size c.value d.value (form_of l c e) (form_of x d f)

given : (o : Option (List ℕ)) → is_some o ≡ true → o ≡ Some (or_nil o)
given None e = no_byte e
given (Some vs) e = refl

pub all_characters : (x : List ℕ) → Utf8 x → characters x ≡ Some (characters_of x)
all_characters x u = given (characters x) ((is_utf8_iff x).1 u)

pub of_nil : characters_of [] ≡ []
of_nil = ap or_nil characters_nil

pub of_next : (x : List ℕ) (c : Character) → decode x ≡ Some c → Utf8 (drop c.size x) → characters_of x ≡ c.value ∷ characters_of (drop c.size x)
of_next x c e u = ap or_nil (characters_next x c e ∙ ap (after_value c.value) (all_characters (drop c.size x) u))

-- How a text of whole characters begins.
pub data Begins (x : List ℕ) : Type 0 where
  no_character : x ≡ [] → decode x ≡ None → characters_of x ≡ [] → Begins x
  a_character : (c : Character) → decode x ≡ Some c → Utf8 (drop c.size x) → characters_of x ≡ c.value ∷ characters_of (drop c.size x) → Begins x

pub begins : (x : List ℕ) → Utf8 x → Begins x
begins x utf8_end = no_character refl decode_nil of_nil
begins x (utf8_next x' c e u) = a_character c e u (of_next x' c e u)

-- ── A text in two parts ──
-- The first character of a text is the first of what it begins.
decode_longer : (x y : List ℕ) (c : Character) → decode x ≡ Some c → decode (x ++ y) ≡ Some c
decode_longer x y c e = decode_grow (length x) (x ++ y) c (ap decode (take-append_seam x y) ∙ e)

rest_longer : (x y : List ℕ) (c : Character) → decode x ≡ Some c → drop c.size (x ++ y) ≡ drop c.size x ++ y
rest_longer x y c e = drop-append-le c.size x y (omega (arith, char_size x c e))

whole_append : (x : List ℕ) → Utf8 x → (y : List ℕ) → Utf8 y → Utf8 (x ++ y)
whole_append x utf8_end y v = v
whole_append x (utf8_next x' c e u) y v = utf8_next (x' ++ y) c (decode_longer x' y c e)
    (subst Utf8 (sym (rest_longer x' y c e)) (whole_append (drop c.size x') u y v))

characters_append : (x : List ℕ) → Utf8 x → (y : List ℕ) → Utf8 y → characters_of (x ++ y) ≡ characters_of x ++ characters_of y
characters_append x utf8_end y v = rw of_nil
characters_append x (utf8_next x' c e u) y v =
    let l : drop c.size (x' ++ y) ≡ drop c.size x' ++ y = rest_longer x' y c e in
    of_next (x' ++ y) c (decode_longer x' y c e) (subst Utf8 (sym l) (whole_append (drop c.size x') u y v))
    ∙ ap (λ (z : List ℕ). c.value ∷ z) (ap characters_of l ∙ characters_append (drop c.size x') u y v)
    ∙ ap (λ (z : List ℕ). z ++ characters_of y) (sym (of_next x' c e u))

-- The characters before an edge of a text, and those after it.
pub characters_split : (p : ℕ) (x : List ℕ) → Utf8 x → Edge x p → characters_of x ≡ characters_of (take p x) ++ characters_of (drop p x)
characters_split p x u e =
    ap characters_of (sym (take-append-drop p x)) ∙ characters_append (take p x) (between p x u e.inside e.whole) (drop p x) e.whole
