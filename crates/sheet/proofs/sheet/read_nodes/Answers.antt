-- Each way out is one case of `reading`, and only the last one writes.
use mathlib.Core.Path.{◌≡◌, sym, ap, ◌∙◌}
use native.Mathlib.Omega.{arith}
use Rattle.std.specs.Option.{option_copied}
use Rattle.std.proofs.lemmas.Result.{err_from_is_err_and}
use Rattle.sheet.specs.declared.sheet.Refused.TheVariants.{Broken}
use Rattle.sheet.proofs.SheetLaws.{left_broken, lines_few, left_malformed, left_short, sheet_read}
use Rattle.sheet.proofs.sheet.read_nodes.Goals as goal

pub returns-in_err-lines : goal.returns-in_err-lines
returns-in_err-lines c =
    let p = err_from_is_err_and c.from_residual.result c.from_residual.ensures.1 in
    let e = rw c.in_err-lines.ensures.ok_part at c.in_err-lines.ensures.value in
    let f : c.in_err-lines.field-0.0 ≡ Broken = cc in
    rw (p.1, p.2, f) (left_broken _ _ (ap option_copied (sym c.in_err-lines.ensures.ok_part) ∙ c.lines.ensures))

pub first_malformed-requires : goal.first_malformed-requires
first_malformed-requires c = lines_few _ c.args.nodes.now _ (ap option_copied (sym c.in_ok-lines.ensures.ok_part) ∙ c.lines.ensures)

pub returns-in-Some : goal.returns-in-Some
returns-in-Some c = left_malformed _ _ _ (ap option_copied (sym c.in_ok-lines.ensures.ok_part) ∙ c.lines.ensures) _ c.in-Some.ensures

pub returns-then-nodes-lines : goal.returns-then-nodes-lines
returns-then-nodes-lines c = left_short _ _ _ (ap option_copied (sym c.in_ok-lines.ensures.ok_part)
    ∙ c.lines.ensures) c.in_default.ensures c.if-nodes-lines.true

pub overflow_cast-result : goal.overflow_cast-result
overflow_cast-result c = omega (arith, lines_few _ c.args.nodes.now _ (ap option_copied (sym c.in_ok-lines.ensures.ok_part) ∙ c.lines.ensures))

pub returns : goal.returns
returns c = sheet_read _ _ _ (ap option_copied (sym c.in_ok-lines.ensures.ok_part) ∙ c.lines.ensures) c.in_default.ensures
    _ c.if-nodes-lines.false c.put_nodes.ensures c.put_nodes.auto.nodes
