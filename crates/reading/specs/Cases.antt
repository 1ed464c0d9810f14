-- The cases M1 to M10 of document 01, "Plans on the test desk", of the reading, in one table: each run is started, and answers.
use Rattle.std.specs.Prelude.{◌≡◌, refl, List, [], ◌∷◌, map, ℕ, length, replicate, ℤ, pos, negsuc}
use Rattle.std.specs.Prelude.{Option, None}
use Rattle.matching.specs.Utf8.{decode, characters}
use Rattle.matching.specs.Position.{match_by, match_char_by}
use Rattle.reading.specs.declared.node.Node.{Node}
use Rattle.reading.specs.Grammar.{node_at, fields_fit, tree_of, trees}
use Rattle.reading.specs.Nullable.{stands_still, raised, swept, rounds}
use Rattle.reading.specs.Forest.{start_token, end_token}
use Rattle.reading.specs.Outcome.{Input, Refusal, refusal, reading, Answer, answer, of_tokens, of_failure, stopped}

abbrev signed : (kind : ℕ) → (a b c : ℤ) → Node
signed k a b c = record { kind = pos k; a = a; b = b; c = c }

abbrev node : (kind a b c : ℕ) → Node
node k a b c = signed k (pos a) (pos b) (pos c)

abbrev numbers : List Node → List ℤ
numbers [] = []
numbers (n ∷ ns) = n.kind ∷ n.a ∷ n.b ∷ n.c ∷ numbers ns

-- A grammar over the literals `abc`, a text, the two limits, and what a run answers.
record Case : Type 0 where
  nodes : List Node
  text : List ℕ
  depth : ℕ
  calls : ℕ
  expected : Answer

abbrev case : List Node → (text : List ℕ) → (depth calls : ℕ) → Answer → Case
case ns t d l a = record { nodes = ns; text = t; depth = d; calls = l; expected = a }

-- What the run of a case is handed: the last line for its root, room for two tokens, and the other areas as short as they may be.
abbrev handed : Case → Input
handed c = record {
  nodes = numbers c.nodes;
  literals = 97 ∷ 98 ∷ 99 ∷ [];
  text = c.text;
  root = length c.nodes;
  depth_limit = c.depth;
  call_limit = c.calls;
  tokens = replicate 10 0;
  report = replicate 515 0;
  scratch = 4864;
}

-- Which of a run's tests refuses a case's run, if one does, and the answer of the reading.
record Given : Type 0 where
  refused : Option Refusal
  answered : Answer

abbrev given : Case → Given
given c = record { refused = refusal (handed c); answered = answer (reading (handed c)) }

-- None does, and the answer is document 01's.
abbrev wanted : Case → Given
wanted c = record { refused = None; answered = c.expected }

abbrev M1 : List Node
M1 = node 1 0 1 0 ∷ node 8 7 1 0 ∷ node 19 3 0 0 ∷ node 6 2 3 0 ∷ []

-- "(`a` then `b`) or `c`"
abbrev M3 : List Node
M3 = node 1 0 1 0 ∷ node 1 1 1 0 ∷ node 6 1 2 0 ∷ node 1 2 1 0 ∷ node 7 3 4 0 ∷ []

-- "the left side in a sequence"
abbrev M4 : List Node
M4 = node 1 0 1 0 ∷ node 1 1 1 0 ∷ node 6 1 2 0 ∷ node 9 3 0 0 ∷ node 1 2 1 0 ∷ node 7 4 5 0 ∷ []

-- "two nested sequences over `a`"
abbrev M5 : List Node
M5 = node 1 0 1 0 ∷ node 9 1 0 0 ∷ node 9 2 0 0 ∷ []

-- "rule 7 over `a`, then optional sequence (tag 3, `b`)"
abbrev M6 : List Node
M6 = node 1 0 1 0 ∷ node 8 7 1 0 ∷ node 19 3 0 0 ∷ node 1 1 1 0 ∷ node 6 3 4 0 ∷ node 9 5 0 0 ∷ node 11 6 0 0 ∷ node 6 2 7 0 ∷ []

-- "negative lookahead of rule 7 on `a`"
abbrev M7 : List Node
M7 = node 1 0 1 0 ∷ node 8 7 1 0 ∷ node 12 2 0 0 ∷ []

-- "two such, nested"
abbrev M8 : List Node
M8 = node 1 0 1 0 ∷ node 8 7 1 0 ∷ node 12 2 0 0 ∷ node 12 3 0 0 ∷ []

-- "empty stack, no end"
abbrev M9 : (start : ℤ) → List Node
M9 i = signed 16 i (pos 0) (pos 2) ∷ []

-- "pop"
abbrev M10 : List Node
M10 = node 15 0 0 0 ∷ []

abbrev «a» : List ℕ
«a» = 97 ∷ []

abbrev «b» : List ℕ
«b» = 98 ∷ []

abbrev «ac» : List ℕ
«ac» = 97 ∷ 99 ∷ []

abbrev table : List Case
table =
    case M1 «a» 1024 0 (of_tokens (start_token 1 0 ∷ end_token 0 1 7 3 ∷ []))
    -- "M2 text `b`: 10, place 0, positive 7."
    ∷ case M1 «b» 1024 0 (of_failure 0 (7 ∷ []) [])
    -- "text `ac`: 0"
    ∷ case M3 «ac» 1024 0 (of_tokens [])
    -- "10, place 0, no rules"
    ∷ case M4 «ac» 1024 0 (of_failure 0 [] [])
    -- "depth 1 gives 12, depth 2 gives 0, depth 1 with call limit 1 gives 11"
    ∷ case M5 «a» 1 0 (stopped 12 0)
    ∷ case M5 «a» 2 0 (of_tokens [])
    ∷ case M5 «a» 1 1 (stopped 11 0)
    -- "the pair keeps tag 3"
    ∷ case M6 «a» 1024 0 (of_tokens (start_token 1 0 ∷ end_token 0 1 7 3 ∷ []))
    -- "10, negative 7"
    ∷ case M7 «a» 1024 0 (of_failure 0 [] (7 ∷ []))
    -- "0, no tokens"
    ∷ case M8 «a» 1024 0 (of_tokens [])
    -- "start 0 gives 0; 1 and -1 give 10"
    ∷ case (M9 (pos 0)) «a» 1024 0 (of_tokens [])
    ∷ case (M9 (pos 1)) «a» 1024 0 (of_failure 0 [] [])
    ∷ case (M9 (negsuc 0)) «a» 1024 0 (of_failure 0 [] [])
    -- "13"
    ∷ case M10 «a» 1024 0 (stopped 13 1)
    ∷ []

cases_hold : map given table ≡ map wanted table
unfolding decode characters match_by match_char_by node_at fields_fit tree_of trees stands_still raised swept rounds refusal reading
cases_hold = refl
