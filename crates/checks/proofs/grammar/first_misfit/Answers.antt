-- What the search finds is the first such line.
use mathlib.Core.Path.{◌≡◌}
use mathlib.Core.Bool.{Bool, true, false}
use Prim.Native.Nat.{ℕ}
use borrow.Author.Tests.{tests}
use Rattle.std.proofs.Common.{rules}
use Rattle.std.proofs.lemmas.Iterator.{first_from_Range}
use Rattle.reading.specs.Grammar.{line_count}
use Rattle.checks.specs.Lines.{line_misfits}
use Rattle.checks.proofs.FirstLine.{found_first}
use Rattle.checks.proofs.grammar.first_misfit.Goals as goal

pub returns : goal.returns
returns c =
    let test : ℕ → Bool = line_misfits c.args.nodes.now c.args.literals.bytes.now in
    found_first test (line_count c.args.nodes.now) c.find.result
    (first_from_Range _ _ _ _ (λ l. test l ≡ true) (λ l. test l ≡ false) c.find.ensures.ran
    (λ x q k. search (rules, tests)) (λ x q k. search (rules, tests)))
