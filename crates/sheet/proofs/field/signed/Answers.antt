-- The arms of `signed` are those of its definition.
use mathlib.Core.Path.{sym, ap, ◌∙◌}
use native.Mathlib.Omega.{arith}
use Rattle.sheet.specs.Field.{positive}
use Rattle.sheet.proofs.FieldLaws.{signed_plus}
use Rattle.sheet.proofs.field.signed.Goals as goal

pub returns-in_ok-natural-in_default : goal.returns-in_ok-natural-in_default
returns-in_ok-natural-in_default c = c.positive.ensures
    ∙ sym (signed_plus _ (grind arith) ∙ ap positive (sym c.natural-in_default.ensures ∙ c.in_ok-natural-in_default.was))
