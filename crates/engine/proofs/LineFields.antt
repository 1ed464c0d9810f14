-- A whole line, read field by field: each number reads back as the field that it is.
use Prim.Native.Nat.{ℕ, ◌*◌, ◌-◌, ◌<◌, ◌^◌}
use mathlib.Core.Path.{◌≡◌, ap, ◌∙◌}
use mathlib.Core.List.{List}
use lib.ListN.{get_or}
use lib.IntN.{ℤ, pos}
use lib.Signed.{mag}
use mir.Syntax.{w32}
use mir.Val.{to_z, of_z}
use Rattle.reading.specs.Grammar.{natural, node_at}
use Rattle.checks.proofs.FieldLaws.{read_back}
use Rattle.engine.specs.declared.node.Line.{Line}
use Rattle.engine.specs.declared.node.Ends.{Ends}
use Rattle.engine.specs.Lines.{line_of, ends_of}

module _ (ns : List ℤ) (l : ℕ) where
  abbrev field : ℕ → ℤ
  field i = get_or ns i (pos 0)

  pub line_read : {k a b c : ℕ} → mag (field (l * 4 - 4)) < 2 ^ 31 → mag (field (l * 4 - 3)) < 2 ^ 31 → mag (field (l * 4 - 2)) < 2 ^ 31
      → mag (field (l * 4 - 1)) < 2 ^ 31
      → k ≡ natural (to_z w32 (of_z w32 (field (l * 4 - 4)))) → a ≡ natural (to_z w32 (of_z w32 (field (l * 4 - 3))))
      → b ≡ natural (to_z w32 (of_z w32 (field (l * 4 - 2)))) → c ≡ natural (to_z w32 (of_z w32 (field (l * 4 - 1))))
      → ◌≡◌ {A = Line} record { kind = k; a = a; b = b; c = c } (line_of (node_at ns l))
  unfolding node_at
  line_read f₁ f₂ f₃ f₄ e₁ e₂ e₃ e₄ = λ i.
      record {
        kind = (e₁ ∙ ap natural (read_back (field (l * 4 - 4)) f₁)) i;
        a = (e₂ ∙ ap natural (read_back (field (l * 4 - 3)) f₂)) i;
        b = (e₃ ∙ ap natural (read_back (field (l * 4 - 2)) f₃)) i;
        c = (e₄ ∙ ap natural (read_back (field (l * 4 - 1)) f₄)) i;
      }

  pub ends_read : mag (field (l * 4 - 3)) < 2 ^ 31 → mag (field (l * 4 - 2)) < 2 ^ 31
      → ◌≡◌ {A = Ends} record { start = to_z w32 (of_z w32 (field (l * 4 - 3))); end = to_z w32 (of_z w32 (field (l * 4 - 2))) }
      (ends_of (node_at ns l))
  unfolding node_at
  ends_read f g = λ i. record { start = read_back (field (l * 4 - 3)) f i; end = read_back (field (l * 4 - 2)) g i }
