-- What holds of every stack of a run.
use Rattle.std.specs.Prelude.{◌≡◌, List, [], ◌∷◌, ℕ, ◌≤◌, length}
use Rattle.reading.specs.Ending.{Checkpoint}
use Rattle.reading.specs.Reading.{most_entries, most_debt, debt}
use Rattle.reading.specs.Pest as Pest

-- The checkpoints fit a stack of height h: none is higher than a stack may be, and each one's lowest height is at most its own
-- height and the height of the stack above it.
pub data Fits : ℕ → List Checkpoint → Type 0 where
  fits_none : {h : ℕ} → h ≤ most_entries → Fits h []
  fits_one : {h : ℕ} {k : Checkpoint} {ks : List Checkpoint}
      → h ≤ most_entries → k.lowest ≤ h → k.lowest ≤ k.height → Fits k.height ks → Fits h (k ∷ ks)

-- The popped entries number the total debt, "total debt 1,024".
pub record Sound (v : Pest.Stack) : Type 0 where
  pub fits : Fits (length v.cache) v.lengths
  pub owed : length v.popped ≡ debt v.lengths
  pub low : debt v.lengths ≤ most_debt
