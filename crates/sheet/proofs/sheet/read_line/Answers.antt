-- `read_line` reads the four fields in order and stops at the first that is malformed, as `line` does.
use mathlib.Core.Path.{sym, ◌∙◌}
use Rattle.sheet.proofs.SheetLaws.{line_bad, line_bad_a, line_bad_b, line_bad_c, line_good}
use Rattle.sheet.proofs.sheet.read_line.Goals as goal

pub returns-in_err-read_field : goal.returns-in_err-read_field
returns-in_err-read_field c = c.from_residual.ensures ∙ sym (line_bad _ (sym c.read_field.ensures ∙ c.in_err-read_field.was))

pub returns-in_err-read_field-2 : goal.returns-in_err-read_field-2
returns-in_err-read_field-2 c = c.from_residual-in_err-read_field-2.ensures
    ∙ sym (line_bad_a _ _ (sym c.read_field.ensures ∙ c.in_ok-read_field.was) (sym c.read_field-2.ensures ∙ c.in_err-read_field-2.was))

pub returns-in_err-read_field-3 : goal.returns-in_err-read_field-3
returns-in_err-read_field-3 c = c.from_residual-in_err-read_field-3.ensures
    ∙ sym (line_bad_b _ _ (sym c.read_field.ensures ∙ c.in_ok-read_field.was) _ (sym c.read_field-2.ensures ∙ c.in_ok-read_field-2.was)
    (sym c.read_field-3.ensures ∙ c.in_err-read_field-3.was))

pub returns-in_err-read_field-4 : goal.returns-in_err-read_field-4
returns-in_err-read_field-4 c = c.from_residual-in_err-read_field-4.ensures
    ∙ sym (line_bad_c _ _ (sym c.read_field.ensures ∙ c.in_ok-read_field.was) _ (sym c.read_field-2.ensures ∙ c.in_ok-read_field-2.was)
    _ (sym c.read_field-3.ensures ∙ c.in_ok-read_field-3.was) (sym c.read_field-4.ensures ∙ c.in_err-read_field-4.was))

pub returns : goal.returns
returns c = sym (line_good _ _ (sym c.read_field.ensures ∙ c.in_ok-read_field.was) _ (sym c.read_field-2.ensures ∙ c.in_ok-read_field-2.was)
    _ (sym c.read_field-3.ensures ∙ c.in_ok-read_field-3.was) _ (sym c.read_field-4.ensures ∙ c.in_ok-read_field-4.was))
