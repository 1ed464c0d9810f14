-- Pairs of numbers in an area: one read, one written, and what the loop of `restore` leaves.
use Rattle.std.specs.Prelude.{List, ℕ, zero, suc, ◌+◌, ◌*◌, ◌-◌, get_or, set}
use Rattle.engine.specs.Areas.{entries_at, popped_at}

abbrev pub pair : List ℕ → (at : ℕ) → ℕ × ℕ
pair a at = (get_or a at 0, get_or a (at + 1) 0)

unfoldable pub put : List ℕ → (at x y : ℕ) → List ℕ
put a at x y = set (set a at x) (at + 1) y

abbrev pub copied : List ℕ → (to from : ℕ) → List ℕ
copied a to from = put a to (get_or a from 0) (get_or a (from + 1) 0)

-- the last n of p popped entries, the last one first, put back at the height `low`
unfoldable pub refilled : List ℕ → (low p n : ℕ) → List ℕ
refilled a low p zero = a
refilled a low p (suc n) = copied (refilled a low p n) (entries_at + (low + n) * 2) (popped_at + (p - n - 1) * 2)
