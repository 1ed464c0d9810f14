-- The table of kinds as the code reads it: pest's boundaries are a text's character edges, and the code's twenty rows are the definition's.
use mathlib.Core.Path.{◌≡◌, refl, sym, ap, ◌∙◌}
use mathlib.Core.Bool.{Bool, true, false, ◌&&◌, ◌||◌}
use mathlib.Core.List.{List, [], ◌∷◌}
use Prim.Native.Nat.{ℕ, ◌-◌}
use borrow.Author.Tests.{le-leb}
use lib.IntN.{ℤ}
use lib.ListN.{length, drop}
use Rattle.matching.specs.Utf8.{is_utf8, Edge}
use Rattle.reading.specs.Grammar.{row, between, nil, scalar, count, name, edge, literal_part, called, fields_fit}
use Rattle.reading.proofs.EdgeLaws.{edge_inside, edge_whole}
use Rattle.matching.proofs.Boundary.{boundary_edge, edge_boundary}
use Rattle.matching.proofs.Characters.{is_utf8_iff}
use Rattle.matching.specs.Position.{is_char_boundary}

-- ── Character edges ──
both : (x y : Bool) → (x ≡ true → y ≡ true) → (y ≡ true → x ≡ true) → x ≡ y
both true y f g = sym (f refl)
both false true f g = g refl
both false false f g = refl

-- In a UTF-8 text pest's boundaries are the edges.
pub boundary_is : (x : List ℕ) (n : ℕ) → is_utf8 x ≡ true → is_char_boundary x n ≡ edge x n
boundary_is x n u = both (is_char_boundary x n) (edge x n) to_edge
    (λ e. edge_boundary x n (record { inside = edge_inside x n e; whole = edge_whole x n e }))
  where
    to_edge : is_char_boundary x n ≡ true → edge x n ≡ true
    to_edge e =
        let s : Edge x n = boundary_edge x n ((is_utf8_iff x).0 u) e in
        rw (le-leb n (length x) s.inside) ((is_utf8_iff (drop n x)).1 s.whole)

-- ── The rows ──
-- Lower than a number that is the line's.
pub lower_by : (field : ℤ) {lower : Bool} {m l : ℕ} → lower ≡ between 1 (m - 1) field → m ≡ l → lower ≡ between 1 (l - 1) field
lower_by field e same = e ∙ ap (λ (n : ℕ). between 1 (n - 1) field) same

-- The table over the tests that its rows are made of.
abbrev pub rows_of : (literal scalar_a scalar_b count_a nil_a nil_b nil_c : Bool)
    → (lower_a lower_b name_a called positive atomicity with_end without : Bool) → List Bool
rows_of literal scalar_a scalar_b count_a nil_a nil_b nil_c lower_a lower_b name_a called positive atomicity with_end without =
    let two : Bool = lower_a && lower_b && nil_c in
    let one : Bool = lower_a && nil_b && nil_c in
    let no : Bool = nil_a && nil_b && nil_c in
    (literal && nil_c) ∷ (literal && nil_c) ∷ (scalar_a && scalar_b && nil_c) ∷ (count_a && nil_b && nil_c)
    ∷ no ∷ two ∷ two ∷ (name_a && lower_b && nil_c) ∷ one ∷ one ∷ one
    ∷ (lower_a && positive && nil_c) ∷ (lower_a && atomicity && nil_c) ∷ one ∷ no
    ∷ (with_end || (without && nil_b)) ∷ no ∷ one ∷ (name_a && nil_b && nil_c) ∷ (called && nil_b && nil_c) ∷ []

-- Tests that answer as the definition's do, on the fields as they are handed on, give the line's row of the table.
pub rows_fit : (ns : List ℤ) (literals : List ℕ) (l : ℕ) {k a b c k' a' b' c' : ℤ} → k' ≡ k → a' ≡ a → b' ≡ b → c' ≡ c
    → {literal scalar_a scalar_b count_a nil_a nil_b nil_c lower_a lower_b name_a rule_a positive atomicity with_end without : Bool}
    → literal ≡ literal_part literals a' b' → scalar_a ≡ scalar a' → scalar_b ≡ scalar b' → count_a ≡ count a'
    → nil_a ≡ nil a' → nil_b ≡ nil b' → nil_c ≡ nil c' → lower_a ≡ between 1 (l - 1) a' → lower_b ≡ between 1 (l - 1) b'
    → name_a ≡ name a' → rule_a ≡ called ns literals a'
    → positive ≡ between 0 1 b' → atomicity ≡ between 0 2 b' → with_end ≡ between 0 1 c' → without ≡ between 2 3 c'
    → row (rows_of literal scalar_a scalar_b count_a nil_a nil_b nil_c lower_a lower_b name_a rule_a positive atomicity with_end without) false k'
    ≡ fields_fit ns literals l (record { kind = k; a = a; b = b; c = c })
unfolding fields_fit
rows_fit ns literals l {k' = k'} ek ea eb ec e₁ e₂ e₃ e₄ e₅ e₆ e₇ e₈ e₉ f₁ f₂ f₃ f₄ f₅ f₆ =
    (λ i. row (rows_of (e₁ i) (e₂ i) (e₃ i) (e₄ i) (e₅ i) (e₆ i) (e₇ i) (e₈ i) (e₉ i) (f₁ i) (f₂ i) (f₃ i) (f₄ i) (f₅ i) (f₆ i)) false k')
    ∙ (λ i. fields_fit ns literals l (record { kind = ek i; a = ea i; b = eb i; c = ec i }))
