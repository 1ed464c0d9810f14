-- Character edges of a UTF-8 text in one step: an edge is the end, or a place whose byte is no tail, since every byte of a character after
-- its first is one.
use mathlib.Core.Path.{◌≡◌, sym, ◌∙◌, subst}
use mathlib.Core.Bool.{Bool, true, ◌&&◌}
use mathlib.Core.List.{List}
use Prim.Native.Nat.{ℕ, ◌+◌, ◌≤◌}
use native.Mathlib.Omega.{arith}
use lib.Dec.{leb}
use lib.ListN.{length, take, drop, length-drop, length-take}
use lib.Seq.{drop-drop}
use borrow.Author.Tests.{leb-true}
use Rattle.matching.specs.Utf8.{Utf8, is_utf8}
use Rattle.matching.proofs.Lead.{and_left, and_right}
use Rattle.matching.proofs.Characters.{is_utf8_iff}
use Rattle.matching.proofs.Edges.{edge_byte, tails_of}
use Rattle.matching.proofs.Edges as Edges
use Rattle.reading.specs.Grammar.{edge}

utf8_of : (x : List ℕ) → is_utf8 x ≡ true → Utf8 x
utf8_of x e = (is_utf8_iff x).0 e

is_utf8_of : (x : List ℕ) → Utf8 x → is_utf8 x ≡ true
is_utf8_of x u = (is_utf8_iff x).1 u

-- ── The code's test ──
module _ (x : List ℕ) (n : ℕ) where
  pub edge_inside : edge x n ≡ true → n ≤ length x
  edge_inside e = leb-true n (length x) (and_left (leb n (length x)) (is_utf8 (drop n x)) e)

  pub edge_whole : edge x n ≡ true → Utf8 (drop n x)
  edge_whole e = utf8_of (drop n x) (and_right (leb n (length x)) (is_utf8 (drop n x)) e)

-- ── A part between two edges ──
module _ (x : List ℕ) (o n : ℕ) where
  pub part_is : {b r : Bool} → b ≡ edge x o → b ≡ true → r ≡ edge x (o + n) → r ≡ (edge x o && edge x (o + n))
  part_is e f g = let z : edge x o ≡ true = sym e ∙ f in rw z g

  pub part_whole : edge x o ≡ true → edge x (o + n) ≡ true → Utf8 (take n (drop o x))
  part_whole e f =
      let l : n ≤ length (drop o x) = omega (arith, length-drop o x, edge_inside x (o + n) f) in
      Edges.between n (drop o x) (edge_whole x o e) l (subst Utf8 (sym (drop-drop n o x)) (edge_whole x (o + n) f))

  pub part_length : edge x (o + n) ≡ true → length (take n (drop o x)) ≡ n
  part_length f = length-take n (drop o x) ∙ omega (arith, length-drop o x, edge_inside x (o + n) f)
