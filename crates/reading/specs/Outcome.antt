-- What a run returns and what stands in each area afterwards. Document 01, "Stops and refusals".
use Rattle.std.specs.Prelude.{Bool, ◌&&◌, List, [], ◌∷◌, ◌++◌, ℕ, ◌+◌, ◌-◌, ◌/◌, min, ℤ, length, replicate, eqb, ltb, leb, if◌then◌else◌}
use Rattle.std.specs.Prelude.{Option, None, Some}
use Rattle.matching.specs.Utf8.{within, is_utf8}
use Rattle.reading.specs.declared.parser_state.Cause.{Cause}
use Rattle.reading.specs.declared.parser_state.Cause.TheVariants.{EmptyStack, TokensFull, StackFull, AttemptsFull}
use Rattle.reading.specs.declared.call_limit_tracker.LimitKind.{LimitKind}
use Rattle.reading.specs.declared.call_limit_tracker.LimitKind.TheVariants.{Call, Stack}
use Rattle.reading.specs.Ending.{Ending, Ok, Err, Stop}
use Rattle.reading.specs.Grammar.{Exp, line_count, misfit, tree_at, rule_at}
use Rattle.reading.specs.Nullable.{still_repeat}
use Rattle.reading.specs.Forest.{Token, tokens}
use Rattle.reading.specs.Reading.{State, Setting, initial, calls_in, eval}

-- What a run is handed: nodes, literal text, text, root line (document 02, request 4: "A run names its root line"), limits, the two areas
-- as they are at its start, and the size of scratch.
pub record Input : Type 0 where
  pub nodes : List ℤ
  pub literals : List ℕ
  pub text : List ℕ
  pub root : ℕ
  pub depth_limit : ℕ
  pub call_limit : ℕ
  pub tokens : List ℕ
  pub report : List ℕ
  pub scratch : ℕ

-- ── Refusals ──
pub record Refusal : Type 0 where
  pub number : ℕ
  pub place : ℕ

abbrev pub refuse : ℕ → Option ℕ → Option Refusal
refuse n None = None
refuse n (Some p) = Some (record { number = n; place = p })

-- A refusal that names no place.
abbrev pub unless : Bool → Option ℕ
unless good = if good then None else Some 0

-- "over 65,535 bytes or not UTF-8"
abbrev pub good_text : List ℕ → Bool
good_text x = leb (length x) 65535 && is_utf8 x

-- The tests of a run, in order, by all that they look at: `report` and `scratch` are sizes.
abbrev pub tests_on : List ℤ → (literals text : List ℕ) → (root depth_limit report scratch : ℕ) → List (Option Refusal)
tests_on nodes literals text root depth report scratch =
    -- "literal text over 65,535 bytes or not UTF-8"
    refuse 4 (unless (good_text literals))
    -- "nodes not 1 to 4,096 fours; a line against the table"
    ∷ refuse 5 (misfit nodes literals)
    -- "repeat body may stand still"
    ∷ refuse 6 (still_repeat nodes)
    -- Document 02, request 4: "root not a line of the sheet, place 0, tested after 6"
    ∷ refuse 18 (unless (within 1 (line_count nodes) root))
    -- "text over 65,535 bytes or not UTF-8"
    ∷ refuse 7 (unless (good_text text))
    -- "depth limit not 1 to 1,024"
    ∷ refuse 8 (unless (within 1 1024 depth))
    -- "report under 515 or scratch under 4,864 numbers"
    ∷ refuse 9 (unless (leb 515 report && leb 4864 scratch))
    ∷ []

abbrev pub tests : Input → List (Option Refusal)
tests i = tests_on i.nodes i.literals i.text i.root i.depth_limit (length i.report) i.scratch

abbrev pub first_of : List (Option Refusal) → Option Refusal
first_of [] = None
first_of (None ∷ ts) = first_of ts
first_of (Some r ∷ ts) = Some r

-- The first test that fails.
abbrev pub refusal_on : List ℤ → (literals text : List ℕ) → (root depth_limit report scratch : ℕ) → Option Refusal
refusal_on nodes literals text root depth report scratch = first_of (tests_on nodes literals text root depth report scratch)

-- The refusal of an input; none where "a run is started".
unfoldable pub refusal : Input → Option Refusal
refusal i = first_of (tests i)

-- ── The reading of an input ──
-- "Capacity is a fifth of the area, rounded down, at most 65,535."
abbrev pub capacity : List ℕ → ℕ
capacity area = min (length area / 5) 65535

abbrev pub setting : Input → Setting
setting i = record { text = i.text; rule_at = rule_at i.nodes i.literals; capacity = capacity i.tokens }

-- The tree of the root line.
abbrev pub root_tree : Input → Exp
root_tree i = tree_at i.nodes i.literals i.root

unfoldable pub reading : Input → Ending State
reading i = eval (setting i) i.depth_limit (root_tree i) (initial i.call_limit)

-- ── The answer to an ending ──
-- Number, place, count, the tokens, and what stands in the report before its zeros.
pub record Answer : Type 0 where
  pub number : ℕ
  pub place : ℕ
  pub count : ℕ
  pub tokens : List Token
  pub report : List ℕ

-- 11 to 16: "tokens, report zeroed"
abbrev pub stopped : (number place : ℕ) → Answer
stopped n p = record { number = n; place = p; count = 0; tokens = []; report = [] }

abbrev pub of_cause : Cause → Answer
-- "kind 15 on an empty stack": "its line"
of_cause (EmptyStack l) = stopped 13 l
-- "token needed, none free": "rule's line"
of_cause (TokensFull l) = stopped 14 l
-- "entry 129 or debt 1,025": "node's line"
of_cause (StackFull l) = stopped 15 l
-- "attempt 257 in a list": "rule's line"
of_cause (AttemptsFull l) = stopped 16 l

-- "call limit cause", "stack limit cause": "furthest"
abbrev pub of_limit : LimitKind → (furthest : ℕ) → Answer
of_limit Call f = stopped 11 f
of_limit Stack f = stopped 12 f

-- "Reported rules ascend without duplicates."
abbrev pub insert : ℕ → List ℕ → List ℕ
insert x [] = x ∷ []
insert x (y ∷ ys) = if ltb x y then x ∷ y ∷ ys else if eqb x y then y ∷ ys else y ∷ insert x ys

abbrev pub ascending : List ℕ → List ℕ
ascending [] = []
ascending (x ∷ xs) = insert x (ascending xs)

-- "Report after 10: furthest, two counts, positives, negatives, zeros."
abbrev pub report_of : (furthest : ℕ) → (positives negatives : List ℕ) → List ℕ
report_of f ps ns = f ∷ length ps ∷ length ns ∷ (ps ++ ns)

-- "Err, no limit cause": "furthest, rules reported"
abbrev pub of_failure : (furthest : ℕ) → (positives negatives : List ℕ) → Answer
of_failure f ps ns = record { number = 10; place = f; count = length ps + length ns; tokens = []; report = report_of f ps ns }

-- "A run's 0 returns place 0, count of tokens; tokens, then zeros; report zeros."
abbrev pub of_tokens : List Token → Answer
of_tokens ts = record { number = 0; place = 0; count = length ts; tokens = ts; report = [] }

-- "Ok without a limit cause is 0, even with text left over."
abbrev pub answer : Ending State → Answer
answer (Ok s) = elim s.tracker.cause [ Some c ↦ of_limit c s.attempts.furthest | None ↦ of_tokens (tokens s.siblings) ]
answer (Err s) =
    elim s.tracker.cause [
      | Some c ↦ of_limit c s.attempts.furthest
      | None ↦ of_failure s.attempts.furthest (ascending s.attempts.positive) (ascending s.attempts.negative)
    ]
answer (Stop h) = of_cause h.cause

-- ── The outcome ──
-- Number, place and count, and the two areas as they stand at the end.
pub record Outcome : Type 0 where
  pub number : ℕ
  pub place : ℕ
  pub count : ℕ
  pub tokens : List ℕ
  pub report : List ℕ

-- "Tokens are five unsigned 32-bit numbers"
abbrev pub numbers : List Token → List ℕ
numbers [] = []
numbers (t ∷ ts) = t.kind ∷ t.partner ∷ t.position ∷ t.rule ∷ t.tag ∷ numbers ts

-- An area of n numbers: xs, then zeros.
abbrev pub filled : (n : ℕ) → List ℕ → List ℕ
filled n xs = xs ++ replicate (n - length xs) 0

-- The outcome of an answer in areas of n and m numbers.
abbrev pub laid : (n m : ℕ) → Answer → Outcome
laid n m a = record { number = a.number; place = a.place; count = a.count; tokens = filled n (numbers a.tokens); report = filled m a.report }

abbrev pub started : Input → Answer → Outcome
started i a = laid (length i.tokens) (length i.report) a

-- A refused run returns count 0 and leaves "all areas".
abbrev pub refused : Input → Refusal → Outcome
refused i r = record { number = r.number; place = r.place; count = 0; tokens = i.tokens; report = i.report }

unfoldable pub outcome : Input → Outcome
outcome i = elim (refusal i) [ Some r ↦ refused i r | None ↦ started i (answer (reading i)) ]

-- ── Document 02, request 5 ──
-- "Every run's result carries the counted calls entered"
pub record RunOutcome : Type 0 where
  pub outcome : Outcome
  pub calls : ℕ

abbrev pub calls_of : Ending State → ℕ
calls_of (Ok s) = calls_in s.tracker
calls_of (Err s) = calls_in s.tracker
calls_of (Stop h) = h.calls

-- "0 if it never started"
unfoldable pub counted_calls : Input → ℕ
counted_calls i = elim (refusal i) [ Some r ↦ 0 | None ↦ calls_of (reading i) ]
