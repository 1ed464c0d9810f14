-- The invariants: `Going`, the answer from here on is the whole answer; and of the bytes of one entry, that those below i were the same.
use lib.Dec.{eqb}
use lib.ListN.{drop}
use Rattle.matching.proofs.Starts.{From}
use Rattle.engine.proofs.PopMatch.{Going}
use Rattle.engine.proofs.stack_match.match_pop.Given as goal

abbrev pub invariant-loop-i : goal.invariant-loop-i
invariant-loop-i l = From eqb l.bytes (drop l.at l.text) l.i

abbrev pub invariant-entries : goal.invariant-entries
invariant-entries l = Going l.text l.initial.scratch l.initial.t l.initial.at l.scratch l.t l.at

abbrev pub decreases-entries : goal.decreases-entries
decreases-entries l = l.t.height
