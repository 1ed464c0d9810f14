-- `behind_spaces` drops space by space: what is behind the spaces of what is left is what is behind them in the whole field.
use mathlib.Core.Path.{sym, ◌∙◌}
use native.Mathlib.Omega.{arith}
use lib.ListN.{length-take}
use Rattle.sheet.proofs.FieldLaws.{spaces_more, spaces_here, spaces_end}
use Rattle.sheet.proofs.field.behind_spaces.Goals as goal

pub loop-s-preserved : goal.loop-s-preserved
loop-s-preserved c = (c.loop-s.invariant.0 ∙ spaces_more _ c.in-32.len_at_least (omega arith), simp length-take (omega arith))

pub returns-in_default-clause-value : goal.returns-in_default-clause-value
returns-in_default-clause-value c = sym (c.loop-s.invariant.0 ∙ spaces_end _ c.in_default.len_below)

pub returns-in_default-2-clause-value : goal.returns-in_default-2-clause-value
returns-in_default-2-clause-value c = sym (c.loop-s.invariant.0 ∙ spaces_here _ c.in_default.len_at_least (λ e. omega arith))
