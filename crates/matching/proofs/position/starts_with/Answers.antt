-- Where the text is too short it does not begin so; else as many bytes of it are compared.
use mathlib.Core.Path.{sym, ◌∙◌}
use lib.Dec.{eqb}
use borrow.Author.Tests.{lt-leb}
use Rattle.matching.proofs.Starts.{starts_short}
use Rattle.matching.proofs.Steps.{starts_pointwise}
use Rattle.matching.proofs.position.starts_with.Goals as goal

pub returns-then-string-text : goal.returns-then-string-text
returns-then-string-text c = c.eq.ensures ∙ starts_pointwise eqb c.args.string.now c.args.text.now

pub returns-else-string-text : goal.returns-else-string-text
returns-else-string-text c =
    lt-leb _ _ c.if-string-text.false ∙ sym (starts_short eqb c.args.string.now c.args.text.now c.if-string-text.false)
