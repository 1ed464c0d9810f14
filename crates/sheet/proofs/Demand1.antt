-- Demand 1 of a sheet's reading: each of its rows is one case of `reading`, and what keeps `SheetRead` is what that case says.
use Prim.Native.Nat.{ℕ}
use mathlib.Core.Path.{◌≡◌, refl, ap, ◌∙◌}
use mathlib.Core.List.{List}
use lib.IntN.{ℤ}
use lib.ListN.{length}
use Rattle.engine.specs.declared.state.Outcome.{Outcome}
use Rattle.sheet.specs.Sheet.{refused, reading, outcome, area_after, SheetRead}
use Rattle.sheet.specs.Demand1.{Refused, Demand1}
use Rattle.sheet.proofs.SheetLaws.{test_0, test_1, test_2, test_3, lines_numbers}

module _ (s : List ℕ) (a b : List ℤ) (r : Outcome) (w : SheetRead s a b r) where
  as_refused : (n p : ℕ) → reading s (length a) ≡ refused n p → Refused n p a b r
  as_refused n p e = record { answer = w.answer ∙ ap outcome e; nodes = w.area ∙ ap (λ x. area_after x a) e }

  -- Demand 1, of any values that keep `read_sheet`'s promise.
  pub demand_1 : Demand1 s a b r
  demand_1 = record {
    broken = λ t. as_refused 1 0 (test_1 s (length a) t);
    malformed = λ t z. as_refused 2 _ (test_2 s (length a) t _ refl z);
    short = λ t z h. as_refused 3 0 (test_3 s (length a) t z h);
    accepted = λ t z h.
        let e = test_0 s (length a) t z h in
        record { answer = w.answer ∙ ap outcome e; nodes = w.area ∙ ap (λ x. area_after x a) e; fours = lines_numbers s z };
  }

-- What `read_sheet` was handed and what it returned, with the node area before and after: the record that its `ensures` cites.
pub record SheetReading : Type 0 where
  pub sheet : List ℕ
  pub before : List ℤ
  pub after : List ℤ
  pub returned : Outcome
  pub read : SheetRead sheet before after returned

pub demand_1_read : (x : SheetReading) → Demand1 x.sheet x.before x.after x.returned
demand_1_read x = demand_1 x.sheet x.before x.after x.returned x.read
