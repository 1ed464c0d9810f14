-- Demand 1 of a sheet's grammar over a text: `SheetRun` says which of the two it is, the sheet's refusal or the run, and the run has
-- demand 1 of its own.
use Prim.Native.Nat.{ℕ, ◌*◌, ◌≤◌}
use native.Mathlib.Omega.{arith}
use mathlib.Core.Path.{◌≡◌, ap, ◌∙◌, subst}
use mathlib.Core.Bool.{Bool, true, false, cond, not}
use mathlib.Core.List.{List}
use lib.Dec.{eqb, ltb}
use lib.IntN.{ℤ}
use lib.ListN.{length}
use Rattle.engine.specs.Conclude.{run_outcome_of}
use Rattle.reading.proofs.Demand1 as Run
use Rattle.sheet.specs.Sheet.{count, lines, lined, first_malformed, refused, read, reading, area_after}
use Rattle.files.specs.SheetRun.{Given, Back, handed, Answered, SheetRun}
use Rattle.files.specs.Demand1.{Demand1}

-- a sheet is refused by 1 to 3
refused_by : (s : List ℕ) (room n p : ℕ) → reading s room ≡ refused n p → (1 ≤ n) × (n ≤ 3)
unfolding reading
refused_by s room n p e = go (lined s) (eqb (first_malformed 1 (lines s)) 0) (ltb room (count s * 4)) _ _ _ e
  where
    go :
        (a b c : Bool) (q k : ℕ) (ns : List ℤ) →
        cond (not a) (refused 1 0) (cond (not b) (refused 2 q) (cond c (refused 3 0) (read k ns))) ≡ refused n p → (1 ≤ n) × (n ≤ 3)
    go false b c q k ns e = let h : 1 ≡ n = cc in (omega arith, omega arith)
    go true false c q k ns e = let h : 2 ≡ n = cc in (omega arith, omega arith)
    go true true true q k ns e = let h : 3 ≡ n = cc in (omega arith, omega arith)
    go true true false q k ns e = let z : ◌≡◌ {A = ℕ} 0 1 = cc in absurd (omega arith)

module _ (s : List ℕ) (before after : List ℤ) (g : Given) (b : Back) (w : SheetRun s before after g b) where
  -- Demand 1, of any values that keep `run_sheet`'s promise.
  pub demand_1 : Demand1 s before after g b
  demand_1 = record {
    refused = λ n p e.
        let a : Answered (refused n p) g b = subst (λ x. Answered x g b) e w.answered in
        record {
          from = (refused_by s (length before) n p e).0;
          to = (refused_by s (length before) n p e).1;
          answer = a.0;
          nodes = w.area ∙ ap (λ x. area_after x before) e;
          tokens = a.1;
          report = a.2;
          scratch = a.3;
        };
    accepted = λ k ns e.
        let a : Answered (read k ns) g b = subst (λ x. Answered x g b) e w.answered in
        record {
          nodes = w.area ∙ ap (λ x. area_after x before) e;
          run = Run.demand_1 (handed ns g) g.scratch b.scratch (run_outcome_of b.answer b.tokens b.report) a;
        };
  }

-- What `run_sheet` was handed and what came back: the record that its `ensures` cites.
pub record SheetRunning : Type 0 where
  pub sheet : List ℕ
  pub before : List ℤ
  pub after : List ℤ
  pub given : Given
  pub back : Back
  pub ran : SheetRun sheet before after given back

pub demand_1_run : (x : SheetRunning) → Demand1 x.sheet x.before x.after x.given x.back
demand_1_run x = demand_1 x.sheet x.before x.after x.given x.back x.ran
