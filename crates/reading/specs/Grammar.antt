-- Grammars as node lines: the table of kinds, and the tree that a line stands for. Document 01, "Nodes".
use Rattle.std.specs.Prelude.{Bool, true, false, ◌&&◌, ◌||◌, not, List, [], ◌∷◌, ◌++◌, ℕ, zero, suc, ◌+◌, ◌-◌, ◌*◌, ◌/◌, ℤ, pos, negsuc}
use Rattle.std.specs.Prelude.{length, get_or, take, drop, eqb, leb, ltb, if◌then◌else◌}
use Rattle.std.specs.Prelude.{Option, None, Some}
use Rattle.matching.specs.Utf8.{within, is_utf8}
use Rattle.reading.specs.declared.node.Node.{Node}
use Rattle.reading.specs.declared.parser_state.Atomicity.{Atomicity}
use Rattle.reading.specs.declared.parser_state.Atomicity.TheVariants.{Atomic, CompoundAtomic, NonAtomic}

-- ── Lines ──
abbrev pub line_count : List ℤ → ℕ
line_count ns = length ns / 4

-- "lines numbered from 1. Each is kind, a, b, c as signed 32-bit numbers"
unfoldable pub node_at : List ℤ → (line : ℕ) → Node
node_at ns l = record {
  kind = get_or ns (l * 4 - 4) (pos 0);
  a = get_or ns (l * 4 - 3) (pos 0);
  b = get_or ns (l * 4 - 2) (pos 0);
  c = get_or ns (l * 4 - 1) (pos 0);
}

-- A field as a natural number. The table lets a negative one stand only in kind 16, which takes the field itself.
abbrev pub natural : ℤ → ℕ
natural (pos n) = n
natural (negsuc n) = 0

abbrev pub kind_at : List ℤ → (line : ℕ) → ℕ
kind_at ns l = natural (node_at ns l).kind

-- What a table of twenty rows, one for each kind, says of a kind.
abbrev pub row : {A : Type 0} → List A → A → (kind : ℤ) → A
row rows other k = get_or rows (natural k - 1) other

-- The first of n lines, from `line` on, that a test finds.
abbrev pub first_line : (ℕ → Bool) → (line n : ℕ) → Option ℕ
first_line test l zero = None
first_line test l (suc n) = if test l then Some l else first_line test (suc l) n

-- ── The table of kinds (refusal 5) ──
abbrev pub between : (low high : ℕ) → ℤ → Bool
between low high (pos n) = within low high n
between low high (negsuc n) = false

-- "unnamed fields are 0"
abbrev pub nil : ℤ → Bool
nil z = between 0 0 z

-- "a, b Unicode scalar values"
abbrev pub scalar : ℤ → Bool
scalar z = between 0 0xD7FF z || between 0xE000 0x10FFFF z

-- "a count, 0 or more"
abbrev pub count : ℤ → Bool
count (pos n) = true
count (negsuc n) = false

-- "rule 1 to 65,535", "tag 1 to 65,535"
abbrev pub name : ℤ → Bool
name z = between 1 65535 z

-- "on character edges": whole characters follow
abbrev pub edge : List ℕ → ℕ → Bool
edge x n = leb n (length x) && is_utf8 (drop n x)

-- "a offset, b length in the literal text, on character edges"
abbrev pub literal_part : List ℕ → (offset size : ℤ) → Bool
literal_part x o n = count o && count n && edge x (natural o) && edge x (natural o + natural n)

module _ (ns : List ℤ) (literals : List ℕ) where
  -- "a: any line of kind 8"
  abbrev pub called : ℤ → Bool
  called z = between 1 (line_count ns) z && eqb (kind_at ns (natural z)) 8

  -- A test for each kind's row of the table.
  abbrev pub field_rows : (line : ℕ) → Node → List Bool
  field_rows line n =
      -- "Lines named by kinds 6 to 14 and 18 are lower than their own."
      let lower : ℤ → Bool = between 1 (line - 1) in
      let literal : Bool = literal_part literals n.a n.b && nil n.c in
      let two : Bool = lower n.a && lower n.b && nil n.c in
      let one : Bool = lower n.a && nil n.b && nil n.c in
      let no : Bool = nil n.a && nil n.b && nil n.c in
      literal
      ∷ literal
      ∷ (scalar n.a && scalar n.b && nil n.c)
      ∷ (count n.a && nil n.b && nil n.c)
      ∷ no
      ∷ two
      ∷ two
      ∷ (name n.a && lower n.b && nil n.c)
      ∷ one
      ∷ one
      ∷ one
      ∷ (lower n.a && between 0 1 n.b && nil n.c)
      ∷ (lower n.a && between 0 2 n.b && nil n.c)
      ∷ one
      ∷ no
      ∷ (between 0 1 n.c || (between 2 3 n.c && nil n.b))
      ∷ no
      ∷ one
      ∷ (name n.a && nil n.b && nil n.c)
      ∷ (called n.a && nil n.b && nil n.c)
      ∷ []

  unfoldable pub fields_fit : (line : ℕ) → Node → Bool
  fields_fit line n = row (field_rows line n) false n.kind

  abbrev pub line_fits : (line : ℕ) → Bool
  line_fits line = between 1 20 (node_at ns line).kind && fields_fit line (node_at ns line)

  -- "nodes not 1 to 4,096 fours": 0; "a line against the table": the first such line
  abbrev pub misfit : Option ℕ
  misfit =
      if eqb (line_count ns * 4) (length ns) && within 1 4096 (line_count ns)
      then first_line (λ l. not (line_fits l)) 1 (line_count ns)
      else Some 0

-- ── The tree of a line ──
-- A node with what it names put in its place, but for a call, which keeps its line. Those that can stop a run carry their own line.
pub data Exp : Type 0 where
  match_string match_insensitive : (literal : List ℕ) → Exp
  match_range : (low high : ℕ) → Exp
  skip : (count : ℕ) → Exp
  end_of_input : Exp
  and_then or_else : Exp → Exp → Exp
  rule : (line rule : ℕ) → Exp → Exp
  sequence repeat optional : Exp → Exp
  lookahead : (positive : Bool) → Exp → Exp
  atomic : Atomicity → Exp → Exp
  stack_push : (line : ℕ) → Exp → Exp
  stack_pop : (line : ℕ) → Exp
  stack_match_peek_slice : (start : ℤ) → (end : Option ℤ) → (top_down : Bool) → Exp
  stack_match_pop : (line : ℕ) → Exp
  restore_on_err : Exp → Exp
  tag_node : (tag : ℕ) → Exp
  call : (line : ℕ) → Exp

-- "b 0 Atomic, 1 CompoundAtomic, 2 NonAtomic"
abbrev pub atomicity_of : ℕ → Atomicity
atomicity_of zero = Atomic
atomicity_of (suc zero) = CompoundAtomic
atomicity_of (suc (suc n)) = NonAtomic

-- "a start, b end, c 0 bottom up, 1 top down; 2, 3 the same without end"
abbrev pub peek_slice : Node → Exp
peek_slice n =
    let c : ℕ = natural n.c in
    stack_match_peek_slice n.a (if ltb c 2 then Some n.b else None) (eqb c 1 || eqb c 3)

-- The tree of the node at `line`, over the trees of the lines below it, the first line first.
unfoldable pub tree_of : (literals : List ℕ) → (below : List Exp) → (line : ℕ) → Node → Exp
tree_of literals below line n =
    let a : ℕ = natural n.a in
    let b : ℕ = natural n.b in
    let lower : ℕ → Exp = λ l. get_or below (l - 1) end_of_input in
    let literal : List ℕ = take b (drop a literals) in
    row (
    match_string literal
    ∷ match_insensitive literal
    ∷ match_range a b
    ∷ skip a
    ∷ end_of_input
    ∷ and_then (lower a) (lower b)
    ∷ or_else (lower a) (lower b)
    ∷ rule line a (lower b)
    ∷ sequence (lower a)
    ∷ repeat (lower a)
    ∷ optional (lower a)
    ∷ lookahead (eqb b 1) (lower a)
    ∷ atomic (atomicity_of b) (lower a)
    ∷ stack_push line (lower a)
    ∷ stack_pop line
    ∷ peek_slice n
    ∷ stack_match_pop line
    ∷ restore_on_err (lower a)
    ∷ tag_node a
    ∷ call a
    ∷ [])
    end_of_input n.kind

-- What a call finds at a line of kind 8.
pub record RuleLine : Type 0 where
  pub line : ℕ
  pub rule : ℕ
  pub body : Exp

module _ (ns : List ℤ) (literals : List ℕ) where
  -- The trees of the first n lines.
  unfoldable pub trees : (n : ℕ) → List Exp
  trees zero = []
  trees (suc n) = trees n ++ (tree_of literals (trees n) (suc n) (node_at ns (suc n)) ∷ [])

  abbrev pub tree_at : (line : ℕ) → Exp
  tree_at l = get_or (trees (line_count ns)) (l - 1) end_of_input

  abbrev pub rule_at : (line : ℕ) → RuleLine
  rule_at l = record { line = l; rule = natural (node_at ns l).a; body = tree_at (natural (node_at ns l).b) }

-- ── Plain grammars ──
module _ (ns : List ℤ) where
  -- "only kinds 1 to 13, 19 and 20, and only kinds 6 and 9 name lines of kind 6"
  abbrev pub plain_line : (line : ℕ) → Bool
  plain_line l =
      let n : Node = node_at ns l in
      let whole : ℤ → Bool = λ z. not (eqb (kind_at ns (natural z)) 6) in
      row (
      true
      ∷ true
      ∷ true
      ∷ true
      ∷ true
      ∷ true
      ∷ (whole n.a && whole n.b)
      ∷ whole n.b
      ∷ true
      ∷ whole n.a
      ∷ whole n.a
      ∷ whole n.a
      ∷ whole n.a
      ∷ false
      ∷ false
      ∷ false
      ∷ false
      ∷ false
      ∷ true
      ∷ true
      ∷ [])
      false n.kind

  abbrev pub plain : Option ℕ
  plain = first_line (λ l. not (plain_line l)) 1 (line_count ns)
