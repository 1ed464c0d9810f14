-- Walks by the left sides of kinds 6 and 7: they lead to lower lines, so a walk ends, and each of its lines is one of the grammar's.
use mathlib.Core.Path.{◌≡◌, refl, sym, ap, subst, ◌∙◌}
use mathlib.Core.List.{List}
use Prim.Native.Nat.{ℕ, zero, suc, ◌+◌, ◌*◌, ◌≤◌, ◌<◌}
use native.Mathlib.Decide.{dec_le}
use native.Mathlib.Numerals.{add-one}
use native.Mathlib.Omega.{arith}
use lib.IntN.{ℤ}
use lib.ListN.{length}
use Rattle.engine.specs.declared.node.Line.{Line}
use Rattle.reading.specs.Grammar.{node_at, kind_at}
use Rattle.engine.specs.Lines.{line_of}
use Rattle.engine.specs.Spine.{left_of, Fork, spine_line, Forks, Slopes}

module _ (ns : List ℤ) (top : ℕ) where
  pub spine_first : top ≡ spine_line ns top 0
  unfolding spine_line
  spine_first = refl

  spine_suc : (i : ℕ) → spine_line ns top (suc i) ≡ left_of ns (spine_line ns top i)
  unfolding spine_line
  spine_suc i = refl

  pub spine_next : (i : ℕ) → spine_line ns top (i + 1) ≡ left_of ns (spine_line ns top i)
  spine_next i = ap (spine_line ns top) (add-one i) ∙ spine_suc i

  pub spine_step : (line i : ℕ) → line ≡ spine_line ns top i → (n : Line) → n ≡ line_of (node_at ns line) → n.a ≡ spine_line ns top (i + 1)
  spine_step line i p n e = ap (λ (m : Line). m.a) e ∙ ap (left_of ns) p ∙ sym (spine_next i)

  forks_less : (i : ℕ) → Forks ns top (suc i) → Forks ns top i
  forks_less i f j h = f j (omega arith)

  pub forks_none : Forks ns top 0
  forks_none j h = absurd (omega arith)

  forks_more : (i : ℕ) → Forks ns top i → Fork (kind_at ns (spine_line ns top i)) → Forks ns top (i + 1)
  forks_more i f k j h = go (dec_le (j + 1) i)
    where
      go : Dec (j + 1 ≤ i) → Fork (kind_at ns (spine_line ns top j))
      go (yes w) = f j (omega arith)
      go (no w) = let e : j ≡ i = omega arith in rw e k

  module _ (sl : Slopes ns top) where
    pub spine_in : (i : ℕ) → Forks ns top i → (1 ≤ spine_line ns top i) × (spine_line ns top i + i ≤ top)
    spine_in zero f = let e = spine_first in (rw e at sl.low, omega arith)
    spine_in (suc i) f =
        let w = spine_in i (forks_less i f) in
        let v = sl.falls (spine_line ns top i) w.0 (omega (arith, sl.high, w.1)) (f i (omega arith)) in
        let e = spine_suc i in
        (rw e v.0, omega (arith, w.1, v.1))

    pub spine_whole : (i : ℕ) → Forks ns top i → (1 ≤ spine_line ns top i) × (spine_line ns top i * 4 ≤ length ns)
    spine_whole i f =
        let w = spine_in i f in
        (w.0, omega (arith, sl.whole, sl.high, w.1))

-- A walk's line, and the forks above it.
pub record Sliding (ns : List ℤ) (top line count : ℕ) : Type 0 where
  pub place : line ≡ spine_line ns top count
  pub forks : Forks ns top count

module _ (ns : List ℤ) (top : ℕ) where
  pub first_slide : Sliding ns top top 0
  first_slide = record { place = spine_first ns top; forks = forks_none ns top }

  module _ (line count : ℕ) (w : Sliding ns top line count) where
    pub slide_in : Slopes ns top → (1 ≤ line) × (line + count ≤ top)
    slide_in sl = rw w.place (spine_in ns top sl count w.forks)

    pub slide_whole : Slopes ns top → (1 ≤ line) × (line * 4 ≤ length ns)
    slide_whole sl = rw w.place (spine_whole ns top sl count w.forks)

    module _ (n : Line) (e : n ≡ line_of (node_at ns line)) where
      kind_here : n.kind ≡ kind_at ns line
      kind_here = ap (λ (m : Line). m.kind) e

      pub slide_less : Slopes ns top → Fork n.kind → (1 ≤ n.a) × (n.a < line)
      slide_less sl k =
          let r = slide_in sl in
          subst (λ (m : Line). Fork m.kind → (1 ≤ m.a) × (m.a < line)) (sym e) (sl.falls line r.0 (omega (arith, r.1, sl.high))) k

      pub next_slide : Fork n.kind → Sliding ns top n.a (count + 1)
      next_slide k =
          record {
            place = ap (λ (m : Line). m.a) e ∙ ap (left_of ns) w.place ∙ sym (spine_next ns top count);
            forks = forks_more ns top count w.forks (subst (λ (x : ℕ). Fork (kind_at ns x)) w.place (subst Fork kind_here k));
          }
