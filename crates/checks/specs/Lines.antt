-- The tests of a line that the contracts of src/grammar.rt and nullable.rt cite.
use Rattle.std.specs.Prelude.{Bool, ◌&&◌, not, List, ℕ, eqb, ℤ}
use Rattle.reading.specs.declared.node.Node.{Node}
use Rattle.reading.specs.Grammar.{natural, line_fits}
use Rattle.reading.specs.Nullable.{flag}

-- A line against the table.
abbrev pub line_misfits : List ℤ → List ℕ → (line : ℕ) → Bool
line_misfits ns literals l = not (line_fits ns literals l)

-- A repeat whose body is flagged.
abbrev pub flagged_repeat : List Bool → Node → Bool
flagged_repeat f n = eqb (natural n.kind) 10 && flag f (natural n.a)
