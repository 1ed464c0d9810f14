-- How the code comes to the set "may stand still": the table's rows over a line as it is read, and a part of the flags, worked on and put
-- back.
use mathlib.Core.Path.{◌≡◌, refl, sym, ap, ◌∙◌}
use mathlib.Core.Bool.{Bool, true, false, ◌||◌, true≢false}
use mathlib.Core.List.{List, ◌∷◌}
use Prim.Native.Nat.{ℕ, zero, suc, ◌+◌, ◌≤◌}
use native.Mathlib.Omega.{arith}
use lib.ListN.{length, get_or, set, take, replicate}
use lib.Seq.{length-take-le}
use lib.Dec.{eqb}
use lib.IntN.{ℤ}
use Rattle.reading.specs.declared.node.Node.{Node}
use Rattle.reading.specs.Grammar.{row, natural, node_at}
use Rattle.reading.specs.Nullable.{still_rows, stands_still, flag, raised}
use Rattle.reading.proofs.NullableLaws.{still_of}

-- ── One line, as the code reads it ──
pub line_rows : (s : ℕ → Bool) (n : Node) {k za zb : ℤ} → k ≡ n.kind → za ≡ n.a → zb ≡ n.b
    → {a b : ℕ} → a ≡ natural za → b ≡ natural zb
    → row (still_rows (eqb a 0) (eqb b 0) (s a) (s b)) false k ≡ stands_still s n
unfolding stands_still
line_rows s n ek za zb ea eb =
    let fa = ea ∙ ap natural za in
    let fb = eb ∙ ap natural zb in
    λ i. row (still_rows (eqb (fa i) 0) (eqb (fb i) 0) (s (fa i)) (s (fb i))) false (ek i)

-- ── A part of the flags, worked on and put back ──
pub part_length : (n : ℕ) (f : List Bool) → n ≤ length f → n ≡ length (take n f)
part_length n f h = sym (length-take-le n f h)

take_replicate : (n m : ℕ) → n ≤ m → take n (replicate m false) ≡ replicate n false
take_replicate zero m h = refl
take_replicate (suc n) zero h = absurd (omega arith)
take_replicate (suc n) (suc m) h = ap (λ (l : List Bool). false ∷ l) (take_replicate n m (omega arith))

pub part_false : (n : ℕ) (f : List Bool)
    → f ≡ replicate (length f) false → n ≤ length f → take n f ≡ replicate (length (take n f)) false
part_false n f e h =
    ap (take n) e ∙ take_replicate n (length f) h ∙ ap (λ (k : ℕ). replicate k false) (part_length n f h)

-- A line that is not flagged is set to whether it may stand still. (The code counts it as index + 1.)
pub raised_is : (ns : List ℤ) (i : ℕ) (f : List Bool) {r : Bool}
    → get_or f i false ≡ false → r ≡ stands_still (flag f) (node_at ns (i + 1)) → set f i r ≡ raised ns i f
unfolding raised
raised_is ns i f e g = let s = still_of ns i f g in rw (e, s)

pub neither : (x y : Bool) → (x || y) ≡ false → (x ≡ false) × (y ≡ false)
neither false y e = (refl, e)
neither true y e = absurd (true≢false e)
