-- What the search finds is the first such line.
use mathlib.Core.Path.{◌≡◌}
use mathlib.Core.Bool.{Bool, true, false}
use Prim.Native.Nat.{ℕ}
use lib.ListN.{length}
use borrow.Author.Tests.{tests}
use Rattle.std.proofs.Common.{rules}
use Rattle.std.proofs.lemmas.Iterator.{first_from_Range}
use Rattle.reading.specs.Grammar.{node_at}
use Rattle.checks.specs.Lines.{flagged_repeat}
use Rattle.checks.proofs.FirstLine.{found_first}
use Rattle.checks.proofs.nullable.first_repeat.Goals as goal

pub returns : goal.returns
returns c =
    let test : ℕ → Bool = λ l. flagged_repeat c.args.flags.now (node_at c.args.nodes.now l) in
    found_first test (length c.args.flags.now) c.find.result
    (first_from_Range _ _ _ _ (λ l. test l ≡ true) (λ l. test l ≡ false) c.find.ensures.ran
    (λ x q k. search (rules, tests)) (λ x q k. search (rules, tests)))
