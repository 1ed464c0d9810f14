-- The turns of a repeat: what is left to run after some turns is what was to run where the loop began. The body moves on Ok, so that
-- the text's length bounds the turns.
use mathlib.Core.Path.{◌≡◌, refl, sym, ap, ◌∙◌}
use mathlib.Core.Bool.{true, false}
use mathlib.Core.List.{List}
use Prim.Native.Nat.{ℕ, zero, suc, ◌-◌, ◌≤◌, ◌<◌}
use native.Mathlib.Omega.{arith}
use lib.IntN.{ℤ}
use lib.ListN.{length}
use Rattle.reading.specs.Ending.{Halted, Ending, Ok, Err, Stop}
use Rattle.reading.specs.Grammar as Grammar
use Rattle.reading.specs.Grammar.{Exp, tree_at}
use Rattle.reading.specs.Nullable.{nullable}
use Rattle.reading.specs.Reading.{Setting}
use Rattle.reading.specs.Pest as Pest
use Rattle.reading.specs.Pest.{ParserState}
use Rattle.engine.specs.Evaluation.{setting_of, Ready, Line, evaluated}
use Rattle.reading.proofs.Invariant.{After}
use Rattle.engine.proofs.Steps.{Opened, Refused, ready_on, kept, moves_on, entry_refused, entry_open}

unroll : (f : ℕ) (F : ParserState → Ending ParserState) (m : ParserState) → 0 < f
    → Pest.repeat f F m ≡ Pest.round_end (F m) (λ t. Pest.repeat (f - 1) F t)
unroll zero F m h = absurd (omega arith)
unroll (suc f) F m h = let k : suc f - 1 ≡ f = omega arith in rw k

-- m₀, tokens₀ and scratch₀: where the loop began.
pub record Turning (ns : List ℤ) (literals text : List ℕ) (capacity j body : ℕ) (tokens₀ scratch₀ : List ℕ) (m₀ : ParserState)
    (tokens scratch : List ℕ) (m : ParserState) : Type 0 where
  pub ready : Ready ns literals text tokens scratch capacity j m
  pub tokens_same : length tokens ≡ length tokens₀
  pub scratch_same : length scratch ≡ length scratch₀
  pub fuel : ℕ
  pub enough : length text - m.position < fuel
  pub runs : Pest.repeat fuel (evaluated ns literals text capacity j (tree_at ns literals body)) m
      ≡ Pest.repeat (suc (length text - m₀.position)) (evaluated ns literals text capacity j (tree_at ns literals body)) m₀

module _ (ns : List ℤ) (literals text : List ℕ) (capacity j body : ℕ) where
  abbrev g : Setting
  g = setting_of ns literals text capacity

  abbrev B : Exp
  B = tree_at ns literals body

  abbrev F : ParserState → Ending ParserState
  F m = evaluated ns literals text capacity j B m

  abbrev T : (tokens₀ scratch₀ : List ℕ) → ParserState → (tokens scratch : List ℕ) → ParserState → Type 0
  T tokens₀ scratch₀ m₀ tokens scratch m = Turning ns literals text capacity j body tokens₀ scratch₀ m₀ tokens scratch m

  pub first_turn : {tokens scratch : List ℕ} {m : ParserState} → Ready ns literals text tokens scratch capacity j m
      → T tokens scratch m tokens scratch m
  first_turn {m = m} r = record {
    ready = r;
    tokens_same = refl;
    scratch_same = refl;
    fuel = suc (length text - m.position);
    enough = omega arith;
    runs = refl;
  }

  -- The body's Ok: it moved, and stays in the text.
  pub turned : {tokens scratch : List ℕ} {m v : ParserState} → Ready ns literals text tokens scratch capacity j m → Line ns body
      → nullable ns body ≡ false → Ok v ≡ F m
      → (m.position < v.position) × (v.position ≤ length text)
  turned {tokens} {scratch} {m} {v} r l s e =
      let w : After g m.position m.lookahead m.atomicity (length m.stack.lengths) (length m.queue) v =
      kept ns literals text capacity tokens scratch j body m (Ok v) r e in
      (moves_on ns literals text capacity tokens scratch j body m v r l s e, w.fit.edge.inside)

  -- From here on, where the loop began, and where it stands.
  module _ {tokens₀ scratch₀ : List ℕ} {m₀ : ParserState} {tokens scratch : List ℕ} {m : ParserState}
      (w : T tokens₀ scratch₀ m₀ tokens scratch m) where
    pub next_turn : Line ns body → nullable ns body ≡ false → {v : ParserState} → Ok v ≡ F m
        → {tokens' scratch' : List ℕ} → length tokens' ≡ length tokens → length scratch' ≡ length scratch → T tokens₀ scratch₀ m₀ tokens' scratch' v
    next_turn l s {v} e p q =
        let k : After g m.position m.lookahead m.atomicity (length m.stack.lengths) (length m.queue) v =
        kept ns literals text capacity tokens scratch j body m (Ok v) w.ready e in
        let t : (m.position < v.position) × (v.position ≤ length text) = turned w.ready l s e in
        let h : length text - m.position < w.fuel = w.enough in
        record {
          ready = ready_on ns literals text capacity w.ready p q k.fit (omega (arith, k.level, w.ready.deep));
          tokens_same = p ∙ w.tokens_same;
          scratch_same = q ∙ w.scratch_same;
          fuel = w.fuel - 1;
          enough = omega (arith, t.0, t.1);
          runs = ap (λ (x : Ending ParserState). Pest.round_end x (λ y. Pest.repeat (w.fuel - 1) F y)) e
              ∙ sym (unroll w.fuel F m (omega arith)) ∙ w.runs;
        }

    -- The turn that ends the loop, by the body's ending; o is the state before the entry.
    module _ {d : ℕ} {o : ParserState} (i : Opened true d j o m₀) where
      last_turn : (x : Ending ParserState) → x ≡ F m → Pest.round_end x (λ y. Pest.repeat (w.fuel - 1) F y)
          ≡ evaluated ns literals text capacity d (Grammar.repeat B) o
      last_turn x e =
          let h : length text - m.position < w.fuel = w.enough in
          ap (λ (z : Ending ParserState). Pest.round_end z (λ y. Pest.repeat (w.fuel - 1) F y)) e ∙ sym (unroll w.fuel F m (omega arith)) ∙ w.runs
          ∙ entry_open ns literals text capacity (Grammar.repeat B) true (λ f k. Pest.repeat (suc (length text - k.position)) (f B) k)
          (λ room f k. refl) d j o m₀ i

      pub repeat_err : {v : ParserState} → Err v ≡ F m → {y : Ending ParserState} → y ≡ Pest.optional (Err v)
          → y ≡ evaluated ns literals text capacity d (Grammar.repeat B) o
      repeat_err {v} e z = z ∙ last_turn (Err v) e

      pub repeat_stop : {c : Halted} → Stop c ≡ F m → Stop c ≡ evaluated ns literals text capacity d (Grammar.repeat B) o
      repeat_stop {c} e = last_turn (Stop c) e

pub repeat_refused : (ns : List ℤ) (literals text : List ℕ) (capacity body : ℕ) {d : ℕ} {m n : ParserState} → Refused true d m n
    → Err n ≡ evaluated ns literals text capacity d (Grammar.repeat (tree_at ns literals body)) m
repeat_refused ns literals text capacity body {d} {m} {n} e =
    let B : Exp = tree_at ns literals body in
    entry_refused ns literals text capacity (Grammar.repeat B) true (λ f k. Pest.repeat (suc (length text - k.position)) (f B) k)
    (λ room f k. refl) d m n e
