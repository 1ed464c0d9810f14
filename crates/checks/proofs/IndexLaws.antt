-- The normalised peek index is pest's.
use mathlib.Core.Path.{◌≡◌, ◌∙◌}
use Rattle.std.specs.Prelude.{Option}
use Prim.Native.Nat.{ℕ}
use lib.IntN.{ℤ}
use Rattle.reading.specs.Reading.{index_in, end_in}
use Rattle.reading.specs.Pest as Pest
use Rattle.reading.proofs.Matchers.{index_same, end_same}

-- pest's `normalize_index` gives the same.
pub pest_index : (i : ℤ) (len : ℕ) {r : Option ℕ} → r ≡ index_in len i → r ≡ Pest.normalize_index i len
pest_index i len e = e ∙ index_same i len

pub pest_end : (j : Option ℤ) (len : ℕ) {r : Option ℕ} → r ≡ end_in len j → r ≡ Pest.normalize_end j len
pest_end j len e = e ∙ end_same j len
