-- Left sides of kinds 6 and 7, one below the other: how the evaluation goes down them without opening a call.
use Rattle.std.specs.Prelude.{◌≡◌, Bool, true, false, ◌||◌, ◌⊎◌, List, ℕ, zero, suc, ◌*◌, ◌≤◌, ◌<◌, ℤ, length, eqb, if◌then◌else◌}
use Rattle.engine.specs.declared.spine.Spine.{Spine}
use Rattle.reading.specs.declared.parser_state.Ending.{Ending}
use Rattle.reading.specs.declared.parser_state.Ending.TheVariants.{Ok, Err, Stop}
use Rattle.reading.specs.Grammar.{natural, node_at, kind_at, line_count}

abbrev pub left_of : List ℤ → (line : ℕ) → ℕ
left_of ns l = natural (node_at ns l).a

-- The kinds with a left and a right side.
abbrev pub Fork : (kind : ℕ) → Type 0
Fork k = (k ≡ 6) ⊎ (k ≡ 7)

-- The line i steps below, by left sides.
unfoldable pub spine_line : List ℤ → (top i : ℕ) → ℕ
spine_line ns top zero = top
spine_line ns top (suc i) = left_of ns (spine_line ns top i)

abbrev pub Forks : List ℤ → (top i : ℕ) → Type 0
Forks ns top i = (j : ℕ) → j < i → Fork (kind_at ns (spine_line ns top j))

-- What a walk by left sides asks: they lead to lower lines.
pub record Slopes (ns : List ℤ) (top : ℕ) : Type 0 where
  pub whole : line_count ns * 4 ≡ length ns
  pub falls : (l : ℕ) → 1 ≤ l → l ≤ line_count ns → Fork (kind_at ns l) → (1 ≤ left_of ns l) × (left_of ns l < l)
  pub low : 1 ≤ top
  pub high : top ≤ line_count ns

-- The leftmost line below a line.
pub record Spined (ns : List ℤ) (top : ℕ) (r : Spine) : Type 0 where
  pub forks : Forks ns top r.count
  pub place : r.line ≡ spine_line ns top r.count
  pub last : Fork (kind_at ns r.line) → ⊥

-- A fork's left side; another line itself.
abbrev pub below : List ℤ → (line : ℕ) → ℕ
below ns l = if eqb (kind_at ns l) 6 || eqb (kind_at ns l) 7 then left_of ns l else l

-- Whether the line's right side is evaluated, where its left side ended so: a fork's, as its kind asks.
unfoldable pub goes : (kind : ℕ) → Ending → Bool
goes k Ok = eqb k 6
goes k Err = eqb k 7
goes k (Stop c) = false

-- An ending that is no stop.
abbrev pub ending_of : (good : Bool) → Ending
ending_of true = Ok
ending_of false = Err
