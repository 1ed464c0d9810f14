-- "May stand still, the least such set", over node lines, and refusal 6.
use Rattle.std.specs.Prelude.{◌≡◌, Bool, true, false, ◌&&◌, ◌||◌, List, [], ◌∷◌, ℕ, zero, suc, ◌≤◌, ℤ, get_or, set, replicate, eqb}
use Rattle.std.specs.Prelude.{Option}
use Rattle.reading.specs.declared.node.Node.{Node}
use Rattle.reading.specs.Grammar.{node_at, natural, kind_at, line_count, row, first_line}

-- "kinds 1, 2 and 4 with zero; 5, 10, 11, 12, 15, 16, 17, 19; 6 if both do; 7 if either does; 8, 9, 13, 14, 18, 20 as their line does":
-- a row for each kind, by whether fields a and b are zero, and whether the lines that they name may stand still.
abbrev pub still_rows : (none_a none_b a b : Bool) → List Bool
still_rows none_a none_b a b =
    none_b ∷ none_b ∷ false ∷ none_a ∷ true ∷ (a && b) ∷ (a || b) ∷ b ∷ a ∷ true ∷ true ∷ true ∷ a ∷ a ∷ true ∷ true ∷ true ∷ a ∷ true ∷ a ∷ []

unfoldable pub stands_still : (ℕ → Bool) → Node → Bool
stands_still still n =
    let a : ℕ = natural n.a in
    let b : ℕ = natural n.b in
    row (still_rows (eqb a 0) (eqb b 0) (still a) (still b)) false n.kind

module _ (ns : List ℤ) where
  -- A set of lines that holds each line which the clauses put into it.
  abbrev pub Closed : (ℕ → Bool) → Type 0
  Closed still = (l : ℕ) → 1 ≤ l → l ≤ line_count ns → stands_still still (node_at ns l) ≡ true → still l ≡ true

  -- "the least such set"
  pub record Least (still : ℕ → Bool) : Type 0 where
    pub closed : Closed still
    pub least : (other : ℕ → Bool) → Closed other → (l : ℕ) → still l ≡ true → other l ≡ true

-- ── The set, computed: as many rounds as there are lines, each over all lines (the law `nullable_least` of proofs/) ──
-- Flags, one for each line.
abbrev pub flag : List Bool → (line : ℕ) → Bool
flag f zero = false
flag f (suc i) = get_or f i false

module _ (ns : List ℤ) where
  unfoldable pub raised : (index : ℕ) → List Bool → List Bool
  raised i f = set f i (get_or f i false || stands_still (flag f) (node_at ns (suc i)))

  unfoldable pub swept : (n : ℕ) → List Bool → List Bool
  swept zero f = f
  swept (suc n) f = raised n (swept n f)

  unfoldable pub rounds : (lines n : ℕ) → List Bool
  rounds m zero = replicate m false
  rounds m (suc n) = swept m (rounds m n)

  abbrev pub flags : List Bool
  flags = rounds (line_count ns) (line_count ns)

  abbrev pub nullable : (line : ℕ) → Bool
  nullable l = flag flags l

  -- "repeat body may stand still": the first such repeat
  abbrev pub still_repeat : Option ℕ
  still_repeat = first_line (λ l. eqb (kind_at ns l) 10 && nullable (natural (node_at ns l).a)) 1 (line_count ns)
