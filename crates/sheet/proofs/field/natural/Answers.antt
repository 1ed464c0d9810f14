-- The arms of `natural` are those of its definition.
use mathlib.Core.Path.{sym, ◌∙◌}
use native.Mathlib.Omega.{arith}
use Prim.Native.Nat.{◌≤◌}
use lib.ListN.{length}
use Rattle.sheet.proofs.FieldLaws.{natural_none, natural_zero, natural_more}
use Rattle.sheet.proofs.field.natural.Goals as goal

pub returns-in-empty : goal.returns-in-empty
returns-in-empty c = sym (natural_none _ c.in-empty.len_below)

pub returns-in-48 : goal.returns-in-48
returns-in-48 c = sym (natural_zero _ c.in-48.len_at_least (omega arith))

pub returns-in_default : goal.returns-in_default
returns-in_default c = let h : 1 ≤ length c.args.s.now = grind arith in
    c.decimal.ensures ∙ sym (natural_more _ h (grind arith))
