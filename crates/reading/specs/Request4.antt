-- Document 02, request 4, "Two crews, one sheet", in the customer's words, of what two runs gave.
use mathlib.Core.List.{Memᴰ}
use Rattle.std.specs.Prelude.{◌≡◌, true, List, [], ◌∷◌, ℕ, ◌≤◌, ℤ, length}
use Rattle.std.specs.Prelude.{None}
use Rattle.reading.specs.declared.node.Node.{Node}
use Rattle.reading.specs.Grammar.{node_at, natural, row, misfit}
use Rattle.reading.specs.Nullable.{still_repeat}
use Rattle.reading.specs.Outcome.{Input, good_text, refusal, RunOutcome}

-- ── Reachable ──
-- The lines that a node names (kinds 6 to 14 and 18) or calls (20): a row for each kind, over the lines in its fields a and b.
abbrev pub named_rows : (a b : ℕ) → List (List ℕ)
named_rows a b =
    -- 1 to 5 only match
    [] ∷ [] ∷ [] ∷ [] ∷ []
    -- 6 and_then, 7 or_else
    ∷ (a ∷ b ∷ []) ∷ (a ∷ b ∷ [])
    -- 8 rule
    ∷ (b ∷ [])
    -- 9 sequence, 10 repeat, 11 optional, 12 lookahead, 13 atomic, 14 stack_push
    ∷ (a ∷ []) ∷ (a ∷ []) ∷ (a ∷ []) ∷ (a ∷ []) ∷ (a ∷ []) ∷ (a ∷ [])
    -- 15 stack_pop, 16 stack_match_peek_slice, 17 stack_match_pop
    ∷ [] ∷ [] ∷ []
    -- 18 restore_on_err
    ∷ (a ∷ [])
    -- 19 tag_node
    ∷ []
    -- 20 calls a rule
    ∷ (a ∷ []) ∷ []

abbrev pub named : Node → List ℕ
named n = row (named_rows (natural n.a) (natural n.b)) [] n.kind

-- "every line reachable from a root": the least such set. 0 is no line, and reaches none.
pub data Reachable (ns : List ℤ) (root : ℕ) : ℕ → Type 0 where
  from_root : 1 ≤ root → Reachable ns root root
  through : (l m : ℕ) → Reachable ns root l → Memᴰ m (named (node_at ns l)) → Reachable ns root m

-- ── The two runs ──
-- "accepted": the sheet passes the tests 4 to 6.
pub record AcceptedSheet (i : Input) : Type 0 where
  pub literals : good_text i.literals ≡ true
  pub fitting : misfit i.nodes i.literals ≡ None
  pub moving : still_repeat i.nodes ≡ None

-- "two accepted sheets that agree on every line reachable from a root, and share the literals, that root's run on one text, with the same
-- limits and area sizes"
pub record SharedRoot (i j : Input) : Type 0 where
  pub first : AcceptedSheet i
  pub second : AcceptedSheet j
  pub root : i.root ≡ j.root
  pub agree : (l : ℕ) → Reachable i.nodes i.root l → node_at i.nodes l ≡ node_at j.nodes l
  pub literals : i.literals ≡ j.literals
  pub text : i.text ≡ j.text
  pub depth_limit : i.depth_limit ≡ j.depth_limit
  pub call_limit : i.call_limit ≡ j.call_limit
  pub tokens : length i.tokens ≡ length j.tokens
  pub report : length i.report ≡ length j.report
  pub scratch : i.scratch ≡ j.scratch

-- "gives the same number, place, count and, once started, tokens and report": both are refused alike, or neither is. The counted calls of
-- request 5 are the same too.
pub record Request4 (i j : Input) (o p : RunOutcome) : Type 0 where
  pub tests : refusal i ≡ refusal j
  pub number : o.outcome.number ≡ p.outcome.number
  pub place : o.outcome.place ≡ p.outcome.place
  pub count : o.outcome.count ≡ p.outcome.count
  pub calls : o.calls ≡ p.calls
  pub started : refusal i ≡ None → (o.outcome.tokens ≡ p.outcome.tokens) × (o.outcome.report ≡ p.outcome.report)
