-- The number and the place of each refusal, 4 to 9 and 18: what the contracts of src/grammar.rt cite.
use Rattle.std.specs.Prelude.{◌&&◌, List, [], ◌∷◌, ℕ, leb, Option, None, Some, Result, Ok, Err, ℤ}
use Rattle.matching.specs.Utf8.{within}
use Rattle.checks.specs.declared.grammar.Refused.{Refused}
use Rattle.checks.specs.declared.grammar.Refused.TheVariants.{Literals, Nodes, StillRepeat, Root, Text, DepthLimit, Areas}
use Rattle.reading.specs.Grammar.{line_count, misfit}
use Rattle.reading.specs.Nullable.{still_repeat}
use Rattle.reading.specs.Outcome.{Refusal, refuse, unless, good_text}

abbrev pub refusal_of : Refused → Refusal
refusal_of Literals = record { number = 4; place = 0 }
refusal_of (Nodes line) = record { number = 5; place = line }
refusal_of (StillRepeat line) = record { number = 6; place = line }
refusal_of Root = record { number = 18; place = 0 }
refusal_of Text = record { number = 7; place = 0 }
refusal_of DepthLimit = record { number = 8; place = 0 }
refusal_of Areas = record { number = 9; place = 0 }

-- What a test's answer refuses.
abbrev pub refused_of : Result (Unit {0}) Refused → Option Refusal
refused_of (Ok _) = None
refused_of (Err r) = Some (refusal_of r)

-- The tests of the grammar: 4 to 6.
abbrev pub grammar_tests : List ℤ → (literals : List ℕ) → List (Option Refusal)
grammar_tests nodes literals =
    refuse 4 (unless (good_text literals))
    ∷ refuse 5 (misfit nodes literals)
    ∷ refuse 6 (still_repeat nodes)
    ∷ []

-- Document 02's test of the root: 18.
abbrev pub root_tests : List ℤ → (root : ℕ) → List (Option Refusal)
root_tests nodes root = refuse 18 (unless (within 1 (line_count nodes) root)) ∷ []

-- The tests that do not look at the grammar: 7 to 9.
abbrev pub later_tests : (text : List ℕ) → (depth report scratch : ℕ) → List (Option Refusal)
later_tests text depth report scratch =
    refuse 7 (unless (good_text text))
    ∷ refuse 8 (unless (within 1 1024 depth))
    ∷ refuse 9 (unless (leb 515 report && leb 4864 scratch))
    ∷ []
