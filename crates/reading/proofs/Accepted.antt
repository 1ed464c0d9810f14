-- What the tests 5 and 6 give once they are passed: each line fits the table, unpacked by kind, and each line's tree is its kind's over
-- the trees of the lines that it names. What is said of a kind is said once, in a list of twenty rows, and taken at the line's kind.
use Rattle.std.specs.Prelude.{if◌then◌else◌}
use mathlib.Core.Path.{◌≡◌, refl, sym, ap, ap₂, ◌∙◌, subst}
use mathlib.Core.Bool.{Bool, true, false, ◌&&◌, ◌||◌, not, true≢false}
use mathlib.Core.List.{List, [], ◌∷◌}
use Rattle.std.specs.Prelude.{Option, None, Some}
use Prim.Native.Nat.{ℕ, zero, suc, ◌+◌, ◌-◌, ◌*◌, ◌≤◌, ◌<◌}
use native.Mathlib.Omega.{arith}
use native.Mathlib.Decide.{dec_le}
use native.Mathlib.Numerals.{add-one}
use lib.Dec.{eqb, leb}
use lib.IntN.{ℤ, pos, negsuc}
use lib.ListN.{length, get_or, take, drop, length-append, get_or-append, get_or-eq_default}
use lib.Seq.{get_or_at}
use borrow.Author.Tests.{leb-true, eqb-true, eq-eqb, not-false}
use Rattle.matching.specs.Utf8.{within, Utf8, is_utf8}
use Rattle.matching.proofs.Lead.{and_left, and_right, within_true, within_is}
use Rattle.matching.proofs.Characters.{is_utf8_iff}
use Rattle.reading.specs.declared.node.Node.{Node}
use Rattle.reading.specs.Grammar.{node_at, natural, kind_at, line_count, row, first_line, between, nil, scalar, count, name, edge}
use Rattle.reading.specs.Grammar.{literal_part, called, field_rows, fields_fit, line_fits, misfit, Exp, match_string, match_insensitive}
use Rattle.reading.specs.Grammar.{match_range, skip, end_of_input, and_then, or_else, rule, sequence, repeat, optional, lookahead, atomic}
use Rattle.reading.specs.Grammar.{stack_push, stack_pop, stack_match_pop, restore_on_err, tag_node, call, atomicity_of, peek_slice, tree_of}
use Rattle.reading.specs.Grammar.{trees, tree_at, rule_at, plain_line, plain}
use Rattle.reading.specs.Nullable.{still_rows, stands_still, nullable, still_repeat}
use Rattle.reading.specs.Outcome.{Input, Refusal, refuse, unless, good_text, first_of, tests, refusal}
use Rattle.reading.proofs.Rows.{◌▹◌}
use Rattle.reading.proofs.EdgeLaws as EdgeLaws
use Rattle.reading.proofs.NullableLaws.{nullable_is}
use Rattle.reading.proofs.Trees.{still, Steady, Literals, Calls, whole, Plain}

-- ── A search that finds nothing ──
first_none : (test : ℕ → Bool) (l n : ℕ) → first_line test l n ≡ None → (k : ℕ) → l ≤ k → k < l + n → test k ≡ false
first_none test l zero e k lo hi = absurd (omega arith)
first_none test l (suc n) e k lo hi = go (test l) refl e (first_none test (suc l) n) (dec_le (suc l) k)
  where
    go : (b : Bool) → test l ≡ b → (if b then Some l else first_line test (suc l) n) ≡ None
        → (first_line test (suc l) n ≡ None → (k : ℕ) → suc l ≤ k → k < suc l + n → test k ≡ false) → Dec (suc l ≤ k) → test k ≡ false
    go true t q r d = let z : ◌≡◌ {A = ℕ} 0 1 = cc in absurd (omega arith)
    go false t q r (yes h) = r q k h (omega arith)
    go false t q r (no h) = let z : k ≡ l = omega arith in ap test z ∙ t

pub none_found : (test : ℕ → Bool) (n : ℕ) → first_line test 1 n ≡ None → (k : ℕ) → 1 ≤ k → k ≤ n → test k ≡ false
none_found test n e k lo hi = first_none test 1 n e k lo (omega arith)

-- ── The tests passed ──
pub record Accepted (ns : List ℤ) (literals : List ℕ) : Type 0 where
  pub fours : line_count ns * 4 ≡ length ns
  pub some_line : 1 ≤ line_count ns
  pub few : line_count ns ≤ 4096
  pub fits : (l : ℕ) → 1 ≤ l → l ≤ line_count ns → line_fits ns literals l ≡ true
  -- No repeat has a body that may stand still.
  pub moves : (l : ℕ) → 1 ≤ l → l ≤ line_count ns → kind_at ns l ≡ 10 → nullable ns (natural (node_at ns l).a) ≡ false

pub misfit_fours : (ns : List ℤ) (literals : List ℕ) → misfit ns literals ≡ None
    → (eqb (line_count ns * 4) (length ns) && within 1 4096 (line_count ns)) ≡ true
misfit_fours ns literals e = go (eqb (line_count ns * 4) (length ns) && within 1 4096 (line_count ns)) e
  where
    go : (b : Bool) → (if b then first_line (λ (l : ℕ). not (line_fits ns literals l)) 1 (line_count ns) else Some 0) ≡ None → b ≡ true
    go true q = refl
    go false q = let z : ◌≡◌ {A = ℕ} 0 1 = cc in absurd (omega arith)

pub accepted : (ns : List ℤ) (literals : List ℕ) → misfit ns literals ≡ None → still_repeat ns ≡ None → Accepted ns literals
accepted ns literals m s =
    let t : (eqb (line_count ns * 4) (length ns) && within 1 4096 (line_count ns)) ≡ true = misfit_fours ns literals m in
    let w : (1 ≤ line_count ns) × (line_count ns ≤ 4096) = within_true 1 4096 (line_count ns) (and_right (eqb (line_count ns * 4) (length ns)) _ t) in
    let f : first_line (λ (l : ℕ). not (line_fits ns literals l)) 1 (line_count ns) ≡ None = rw t at m in
    record {
      fours = eqb-true (line_count ns * 4) (length ns) (and_left (eqb (line_count ns * 4) (length ns)) _ t);
      some_line = w.0;
      few = w.1;
      fits = λ l lo hi. not-false (line_fits ns literals l) (none_found (λ (l : ℕ). not (line_fits ns literals l)) (line_count ns) f l lo hi);
      moves = λ l lo hi k. moves_at l k (none_found flagged (line_count ns) s l lo hi);
    }
  where
    flagged : ℕ → Bool
    flagged l = eqb (kind_at ns l) 10 && nullable ns (natural (node_at ns l).a)

    moves_at : (l : ℕ) → kind_at ns l ≡ 10 → (eqb (kind_at ns l) 10 && nullable ns (natural (node_at ns l).a)) ≡ false
        → nullable ns (natural (node_at ns l).a) ≡ false
    moves_at l k e = rw k at e

-- ── A line that fits, unpacked by kind ──
-- A line of the grammar.
abbrev pub In : List ℤ → ℕ → Type 0
In ns l = (1 ≤ l) × (l ≤ line_count ns)

-- A line below `l`.
pub record Lower (l x : ℕ) : Type 0 where
  pub low : 1 ≤ x
  pub high : x < l

-- A part of the literal text: whole characters, all there.
pub record Part (literals : List ℕ) (offset size : ℕ) : Type 0 where
  pub inside : offset + size ≤ length literals
  pub text : Utf8 (take size (drop offset literals))
  pub length_is : length (take size (drop offset literals)) ≡ size

-- A line of kind 8.
pub record RuleLine (ns : List ℤ) (l : ℕ) : Type 0 where
  pub low : 1 ≤ l
  pub high : l ≤ line_count ns
  pub kind_is : kind_at ns l ≡ 8

module _ (ns : List ℤ) (literals : List ℕ) (l : ℕ) where
  abbrev pub a_at : ℕ
  a_at = natural (node_at ns l).a

  abbrev pub b_at : ℕ
  b_at = natural (node_at ns l).b

  abbrev pub c_at : ℕ
  c_at = natural (node_at ns l).c

  pub record Fits : Type 0 where
    pub known_low : 1 ≤ kind_at ns l
    pub known_high : kind_at ns l ≤ 20
    pub part₁ : kind_at ns l ≡ 1 → Part literals a_at b_at
    pub part₂ : kind_at ns l ≡ 2 → Part literals a_at b_at
    pub scalars₃ : kind_at ns l ≡ 3 → (a_at ≤ 0x10FFFF) × (b_at ≤ 0x10FFFF)
    pub a₆ : kind_at ns l ≡ 6 → Lower l a_at
    pub b₆ : kind_at ns l ≡ 6 → Lower l b_at
    pub a₇ : kind_at ns l ≡ 7 → Lower l a_at
    pub b₇ : kind_at ns l ≡ 7 → Lower l b_at
    pub rule₈ : kind_at ns l ≡ 8 → (1 ≤ a_at) × (a_at ≤ 65535)
    pub b₈ : kind_at ns l ≡ 8 → Lower l b_at
    pub a₉ : kind_at ns l ≡ 9 → Lower l a_at
    pub a₁₀ : kind_at ns l ≡ 10 → Lower l a_at
    pub a₁₁ : kind_at ns l ≡ 11 → Lower l a_at
    pub a₁₂ : kind_at ns l ≡ 12 → Lower l a_at
    pub b₁₂ : kind_at ns l ≡ 12 → b_at ≤ 1
    pub a₁₃ : kind_at ns l ≡ 13 → Lower l a_at
    pub b₁₃ : kind_at ns l ≡ 13 → b_at ≤ 2
    pub a₁₄ : kind_at ns l ≡ 14 → Lower l a_at
    pub c₁₆ : kind_at ns l ≡ 16 → c_at ≤ 3
    pub a₁₈ : kind_at ns l ≡ 18 → Lower l a_at
    pub tag₁₉ : kind_at ns l ≡ 19 → (1 ≤ a_at) × (a_at ≤ 65535)
    pub call₂₀ : kind_at ns l ≡ 20 → RuleLine ns a_at

-- What the table's tests say of a field.
between_true : (low high : ℕ) (z : ℤ) → between low high z ≡ true → (low ≤ natural z) × (natural z ≤ high)
between_true low high (pos n) e = within_true low high n e
between_true low high (negsuc n) e = absurd (true≢false (sym e))

lower_true : (l : ℕ) (z : ℤ) → between 1 (l - 1) z ≡ true → Lower l (natural z)
lower_true l z e = let w : (1 ≤ natural z) × (natural z ≤ l - 1) = between_true 1 (l - 1) z e in record { low = w.0; high = omega arith }

or_true : (x y : Bool) {A : Type 0} → (x || y) ≡ true → (x ≡ true → A) → (y ≡ true → A) → A
or_true true y e f g = f refl
or_true false y e f g = g e

scalar_true : (z : ℤ) → scalar z ≡ true → natural z ≤ 0x10FFFF
scalar_true z e =
    or_true (between 0 0xD7FF z) (between 0xE000 0x10FFFF z) e
    (λ p. omega (arith, (between_true 0 0xD7FF z p).1))
    (λ p. (between_true 0xE000 0x10FFFF z p).1)

part_true : (x : List ℕ) (o n : ℤ) → literal_part x o n ≡ true → Part x (natural o) (natural n)
part_true x o n e =
    let f : edge x (natural o + natural n) ≡ true = and_right (count o && count n && edge x (natural o)) (edge x (natural o + natural n)) e in
    let g : edge x (natural o) ≡ true = and_right (count o && count n) (edge x (natural o))
    (and_left (count o && count n && edge x (natural o)) (edge x (natural o + natural n)) e) in
    record {
      inside = EdgeLaws.edge_inside x (natural o + natural n) f;
      text = EdgeLaws.part_whole x (natural o) (natural n) g f;
      length_is = EdgeLaws.part_length x (natural o) (natural n) f;
    }

called_true : (ns : List ℤ) (literals : List ℕ) (z : ℤ) → called ns literals z ≡ true → RuleLine ns (natural z)
called_true ns literals z e =
    let w : (1 ≤ natural z) × (natural z ≤ line_count ns) = between_true 1 (line_count ns) z (and_left (between 1 (line_count ns) z) _ e) in
    record { low = w.0; high = w.1; kind_is = eqb-true (kind_at ns (natural z)) 8 (and_right (between 1 (line_count ns) z) _ e) }

module _ (ns : List ℤ) (literals : List ℕ) (l : ℕ) (e : line_fits ns literals l ≡ true) where
  -- The row of the line's kind holds.
  row_true : (k : ℕ) → kind_at ns l ≡ k → get_or (field_rows ns literals l (node_at ns l)) (k - 1) false ≡ true
  unfolding fields_fit
  row_true k q =
      let f : fields_fit ns literals l (node_at ns l) ≡ true =
      and_right (between 1 20 (node_at ns l).kind) (fields_fit ns literals l (node_at ns l)) e in
      ap (λ (j : ℕ). get_or (field_rows ns literals l (node_at ns l)) (j - 1) false) (sym q) ∙ f

  -- The first and the second of a row's three tests.
  first : (x y z : Bool) → (x && y && z) ≡ true → x ≡ true
  first x y z q = and_left x y (and_left (x && y) z q)

  second : (x y z : Bool) → (x && y && z) ≡ true → y ≡ true
  second x y z q = and_right x y (and_left (x && y) z q)

  pub line_facts : Fits ns literals l
  line_facts =
      let n : Node = node_at ns l in
      let la : Bool = between 1 (l - 1) n.a in
      let lb : Bool = between 1 (l - 1) n.b in
      let nb : Bool = nil n.b in
      let nc : Bool = nil n.c in
      let w : (1 ≤ kind_at ns l) × (kind_at ns l ≤ 20) = between_true 1 20 n.kind (and_left (between 1 20 n.kind) (fields_fit ns literals l n) e) in
      record {
        known_low = w.0;
        known_high = w.1;
        part₁ = λ q. part_true literals n.a n.b (and_left _ (nil n.c) (row_true 1 q));
        part₂ = λ q. part_true literals n.a n.b (and_left _ (nil n.c) (row_true 2 q));
        scalars₃ = λ q. (
          scalar_true n.a (first (scalar n.a) (scalar n.b) nc (row_true 3 q)),
          scalar_true n.b (second (scalar n.a) (scalar n.b) nc (row_true 3 q)),
        );
        a₆ = λ q. lower_true l n.a (first la lb nc (row_true 6 q));
        b₆ = λ q. lower_true l n.b (second la lb nc (row_true 6 q));
        a₇ = λ q. lower_true l n.a (first la lb nc (row_true 7 q));
        b₇ = λ q. lower_true l n.b (second la lb nc (row_true 7 q));
        rule₈ = λ q. between_true 1 65535 n.a (first (name n.a) lb nc (row_true 8 q));
        b₈ = λ q. lower_true l n.b (second (name n.a) lb nc (row_true 8 q));
        a₉ = λ q. lower_true l n.a (first la nb nc (row_true 9 q));
        a₁₀ = λ q. lower_true l n.a (first la nb nc (row_true 10 q));
        a₁₁ = λ q. lower_true l n.a (first la nb nc (row_true 11 q));
        a₁₂ = λ q. lower_true l n.a (first la (between 0 1 n.b) nc (row_true 12 q));
        b₁₂ = λ q. (between_true 0 1 n.b (second la (between 0 1 n.b) nc (row_true 12 q))).1;
        a₁₃ = λ q. lower_true l n.a (first la (between 0 2 n.b) nc (row_true 13 q));
        b₁₃ = λ q. (between_true 0 2 n.b (second la (between 0 2 n.b) nc (row_true 13 q))).1;
        a₁₄ = λ q. lower_true l n.a (first la nb nc (row_true 14 q));
        c₁₆ = λ q. or_true (between 0 1 n.c) (between 2 3 n.c && nil n.b) (row_true 16 q) (λ p. omega (arith, (between_true 0 1 n.c p).1))
            (λ p. (between_true 2 3 n.c (and_left _ _ p)).1);
        a₁₈ = λ q. lower_true l n.a (first la nb nc (row_true 18 q));
        tag₁₉ = λ q. between_true 1 65535 n.a (first (name n.a) nb nc (row_true 19 q));
        call₂₀ = λ q. called_true ns literals n.a (first (called ns literals n.a) nb nc (row_true 20 q));
      }

-- ── The tree of a line, over the trees of the lines that it names ──
-- The twenty rows of `tree_of`, over any trees of lower lines.
abbrev pub tree_rows : (literals : List ℕ) → (lower : ℕ → Exp) → (line : ℕ) → Node → List Exp
tree_rows literals lower line n =
    let a : ℕ = natural n.a in
    let b : ℕ = natural n.b in
    let literal : List ℕ = take b (drop a literals) in
    match_string literal ∷ match_insensitive literal ∷ match_range a b ∷ skip a ∷ end_of_input ∷ and_then (lower a) (lower b)
    ∷ or_else (lower a) (lower b)
    ∷ rule line a (lower b) ∷ sequence (lower a) ∷ repeat (lower a) ∷ optional (lower a) ∷ lookahead (eqb b 1) (lower a)
    ∷ atomic (atomicity_of b) (lower a)
    ∷ stack_push line (lower a) ∷ stack_pop line ∷ peek_slice n ∷ stack_match_pop line ∷ restore_on_err (lower a) ∷ tag_node a ∷ call a ∷ []

module _ (ns : List ℤ) (literals : List ℕ) where
  abbrev below_at : ℕ → ℕ → Exp
  below_at n l = get_or (trees ns literals n) (l - 1) end_of_input

  abbrev new_at : ℕ → Exp
  new_at n = tree_of literals (trees ns literals n) (suc n) (node_at ns (suc n))

  trees_length : (n : ℕ) → length (trees ns literals n) ≡ n
  unfolding trees
  trees_length zero = refl
  trees_length (suc n) = length-append (trees ns literals n) (new_at n ∷ []) ∙ ap (λ (k : ℕ). k + 1) (trees_length n) ∙ add-one n

  look_old : (n l : ℕ) → 1 ≤ l → l ≤ n → below_at (suc n) l ≡ below_at n l
  unfolding trees
  look_old n l lo hi = get_or-append (trees ns literals n) (new_at n ∷ []) end_of_input (l - 1) (rw (trees_length n) (omega arith))

  look_new : (n : ℕ) → below_at (suc n) (suc n) ≡ new_at n
  unfolding trees
  look_new n =
      let e : suc n - 1 ≡ n = omega arith in
      rw e (get_or_at (trees ns literals n) (new_at n) [] end_of_input n (trees_length n))

  look_step : (n m l : ℕ) → 1 ≤ l → l ≤ m → m ≤ suc n → (m ≤ n → below_at n l ≡ below_at m l) → Dec (m ≤ n) → below_at (suc n) l ≡ below_at m l
  look_step n m l lo mid hi r (yes h) = look_old n l lo (omega arith) ∙ r h
  look_step n m l lo mid hi r (no f) = let e : m ≡ suc n = omega arith in rw e

  -- A line's tree stays as more lines are added.
  look_up : (n m l : ℕ) → 1 ≤ l → l ≤ m → m ≤ n → below_at n l ≡ below_at m l
  look_up zero m l lo mid hi = absurd (omega arith)
  look_up (suc n) m l lo mid hi = look_step n m l lo mid hi (look_up n m l lo mid) (dec_le m n)

  -- "tree_at unfolded one step"
  pub tree_step : (l : ℕ) → 1 ≤ l → l ≤ line_count ns → tree_at ns literals l ≡ tree_of literals (trees ns literals (l - 1)) l (node_at ns l)
  tree_step zero lo hi = absurd (omega arith)
  tree_step (suc k) lo hi =
      let e : suc k - 1 ≡ k = omega arith in
      look_up (line_count ns) (suc k) (suc k) (omega arith) (omega arith) hi ∙ look_new k
      ∙ ap (λ (m : ℕ). tree_of literals (trees ns literals m) (suc k) (node_at ns (suc k))) (sym e)

  lower_tree : (l x : ℕ) → l ≤ line_count ns → Lower l x → below_at (l - 1) x ≡ tree_at ns literals x
  lower_tree l x hi w = sym (look_up (line_count ns) (l - 1) x w.low (omega (arith, w.high)) (omega (arith, w.high, w.low)))

-- ── Twenty rows, of which the one of the line's kind counts ──
-- R holds between two lists at the place of kind k; i: how many places are left behind.
module _ {A B : Type 0} (R : A → B → Type 0) (k : ℕ) where
  abbrev pub Each : (i : ℕ) → List A → List B → Type 0
  Each i [] ys = Unit {0}
  Each i (x ∷ xs) [] = ⊥
  Each i (x ∷ xs) (y ∷ ys) = (k ≡ suc i → R x y) × Each (suc i) xs ys

  each_at : (i : ℕ) (xs : List A) (ys : List B) → Each i xs ys → (j : ℕ) → k ≡ suc i + j → j < length xs → (a : A) (b : B)
      → R (get_or xs j a) (get_or ys j b)
  each_at i [] ys h j e l a b = absurd (omega arith)
  each_at i (x ∷ xs) [] h j e l a b = absurd h
  each_at i (x ∷ xs) (y ∷ ys) h zero e l a b = h.0 (omega arith)
  each_at i (x ∷ xs) (y ∷ ys) h (suc j) e l a b = each_at (suc i) xs ys h.1 j (omega arith) (omega arith) a b

module _ (ns : List ℤ) (literals : List ℕ) (g : Accepted ns literals) (l : ℕ) (lo : 1 ≤ l) (hi : l ≤ line_count ns) where
  pub facts : Fits ns literals l
  facts = line_facts ns literals l (g.fits l lo hi)

  -- What holds at the row of the line's kind.
  pub by_kind : {A B : Type 0} (R : A → B → Type 0) (xs : List A) (ys : List B) (a : A) (b : B) → length xs ≡ 20
      → Each R (kind_at ns l) 0 xs ys → R (row xs a (node_at ns l).kind) (row ys b (node_at ns l).kind)
  by_kind R xs ys a b n h = each_at R (kind_at ns l) 0 xs ys h (kind_at ns l - 1) (omega (arith, facts.known_low))
      (omega (arith, facts.known_low, facts.known_high)) a b

  down : (x : ℕ) → Lower l x → get_or (trees ns literals (l - 1)) (x - 1) end_of_input ≡ tree_at ns literals x
  down x w = lower_tree ns literals l x hi w

  -- The line's tree is its kind's over the trees of the lines that it names.
  pub tree_row : tree_at ns literals l ≡ row (tree_rows literals (tree_at ns literals) l (node_at ns l)) end_of_input (node_at ns l).kind
  unfolding tree_of
  tree_row =
      let n : Node = node_at ns l in
      let a : ℕ = natural n.a in
      let b : ℕ = natural n.b in
      let f : Fits ns literals l = facts in
      tree_step ns literals l lo hi
      ∙ by_kind (λ x y. x ≡ y) (tree_rows literals (below_at ns literals (l - 1)) l n) (tree_rows literals (tree_at ns literals) l n)
      end_of_input end_of_input refl
      ((λ q. refl) ▹ (λ q. refl) ▹ (λ q. refl) ▹ (λ q. refl) ▹ (λ q. refl) ▹ (λ q. ap₂ and_then (down a (f.a₆ q)) (down b (f.b₆ q)))
      ▹ (λ q. ap₂ or_else (down a (f.a₇ q)) (down b (f.b₇ q))) ▹ (λ q. ap (rule l a) (down b (f.b₈ q)))
      ▹ (λ q. ap sequence (down a (f.a₉ q))) ▹ (λ q. ap repeat (down a (f.a₁₀ q))) ▹ (λ q. ap optional (down a (f.a₁₁ q)))
      ▹ (λ q. ap (lookahead (eqb b 1)) (down a (f.a₁₂ q))) ▹ (λ q. ap (atomic (atomicity_of b)) (down a (f.a₁₃ q)))
      ▹ (λ q. ap (stack_push l) (down a (f.a₁₄ q))) ▹ (λ q. refl) ▹ (λ q. refl) ▹ (λ q. refl)
      ▹ (λ q. ap restore_on_err (down a (f.a₁₈ q))) ▹ (λ q. refl) ▹ (λ q. refl) ▹ tt)

  -- The same at a kind: at 6, `tree_at l ≡ and_then (tree_at a) (tree_at b)`, and so for each.
  pub tree_kind : (k : ℕ) → kind_at ns l ≡ k
      → tree_at ns literals l ≡ get_or (tree_rows literals (tree_at ns literals) l (node_at ns l)) (k - 1) end_of_input
  tree_kind k q = tree_row ∙ ap (λ (j : ℕ). get_or (tree_rows literals (tree_at ns literals) l (node_at ns l)) (j - 1) end_of_input) q

-- ── What holds of every line's tree, by induction over the lines ──
module _ (ns : List ℤ) (literals : List ℕ) (g : Accepted ns literals) where
  module _ (P : ℕ → Type 0) (step : (l : ℕ) → In ns l → ((x : ℕ) → Lower l x → P x) → P l) where
    up_to : (m l : ℕ) → In ns l → l ≤ m → P l
    up_to zero l i h = absurd (omega (arith, i.0))
    up_to (suc m) l i h = step l i (λ x w. up_to m x (w.low, omega (arith, w.high, i.1)) (omega (arith, w.high)))

    pub by_lines : (l : ℕ) → In ns l → P l
    by_lines l i = up_to l l i (omega arith)

  -- A property of trees that each kind has, if the trees that it is made of have it.
  abbrev Rows : (Exp → Type 0) → ℕ → Type 0
  Rows P l = Each (λ (x y : Exp). P x) (kind_at ns l) 0 (tree_rows literals (tree_at ns literals) l (node_at ns l))
      (tree_rows literals (tree_at ns literals) l (node_at ns l))

  module _ (P : Exp → Type 0) (each : (l : ℕ) → In ns l → ((x : ℕ) → Lower l x → P (tree_at ns literals x)) → Rows P l) where
    pub every_line : (l : ℕ) → In ns l → P (tree_at ns literals l)
    every_line =
        by_lines (λ l. P (tree_at ns literals l))
        (λ l i ih. subst P (sym (tree_row ns literals g l i.0 i.1))
        (by_kind ns literals g l i.0 i.1 (λ (x y : Exp). P x) (tree_rows literals (tree_at ns literals) l (node_at ns l))
        (tree_rows literals (tree_at ns literals) l (node_at ns l)) end_of_input end_of_input refl (each l i ih)))

    -- Line 0 reads as line 1, and past the lines stands `end_of_input`.
    pub everywhere : P end_of_input → (l : ℕ) → P (tree_at ns literals l)
    everywhere p zero = every_line 1 (omega arith, g.some_line)
    everywhere p (suc l) = go (dec_le (suc l) (line_count ns))
      where
        go : Dec (suc l ≤ line_count ns) → P (tree_at ns literals (suc l))
        go (yes h) = every_line (suc l) (omega arith, h)
        go (no h) = subst P (sym (get_or-eq_default (trees ns literals (line_count ns)) end_of_input
            (omega (arith, trees_length ns literals (line_count ns))))) p

-- ── The literals of every tree are whole characters, and its calls name rules ──
module _ (ns : List ℤ) (literals : List ℕ) (g : Accepted ns literals) where
  literal_rows : (l : ℕ) → In ns l → ((x : ℕ) → Lower l x → Literals (tree_at ns literals x)) → Rows ns literals g Literals l
  literal_rows l i ih =
      let a : ℕ = natural (node_at ns l).a in
      let b : ℕ = natural (node_at ns l).b in
      let f : Fits ns literals l = facts ns literals g l i.0 i.1 in
      ((λ q. (f.part₁ q).text) ▹ (λ q. (f.part₂ q).text) ▹ (λ q. tt) ▹ (λ q. tt) ▹ (λ q. tt) ▹ (λ q. (ih a (f.a₆ q), ih b (f.b₆ q)))
      ▹ (λ q. (ih a (f.a₇ q), ih b (f.b₇ q))) ▹ (λ q. ih b (f.b₈ q)) ▹ (λ q. ih a (f.a₉ q)) ▹ (λ q. ih a (f.a₁₀ q))
      ▹ (λ q. ih a (f.a₁₁ q)) ▹ (λ q. ih a (f.a₁₂ q)) ▹ (λ q. ih a (f.a₁₃ q)) ▹ (λ q. ih a (f.a₁₄ q)) ▹ (λ q. tt) ▹ (λ q. tt)
      ▹ (λ q. tt) ▹ (λ q. ih a (f.a₁₈ q)) ▹ (λ q. tt) ▹ (λ q. tt) ▹ tt)

  pub tree_literals : (l : ℕ) → Literals (tree_at ns literals l)
  tree_literals = everywhere ns literals g Literals literal_rows tt

  pub body_literals : (l : ℕ) → Literals (rule_at ns literals l).body
  body_literals l = tree_literals (natural (node_at ns l).b)

  call_rows : (l : ℕ) → In ns l → ((x : ℕ) → Lower l x → Calls (RuleLine ns) (tree_at ns literals x)) → Rows ns literals g (Calls (RuleLine ns)) l
  call_rows l i ih =
      let a : ℕ = natural (node_at ns l).a in
      let b : ℕ = natural (node_at ns l).b in
      let f : Fits ns literals l = facts ns literals g l i.0 i.1 in
      ((λ q. tt) ▹ (λ q. tt) ▹ (λ q. tt) ▹ (λ q. tt) ▹ (λ q. tt) ▹ (λ q. (ih a (f.a₆ q), ih b (f.b₆ q)))
      ▹ (λ q. (ih a (f.a₇ q), ih b (f.b₇ q))) ▹ (λ q. ih b (f.b₈ q)) ▹ (λ q. ih a (f.a₉ q)) ▹ (λ q. ih a (f.a₁₀ q))
      ▹ (λ q. ih a (f.a₁₁ q)) ▹ (λ q. ih a (f.a₁₂ q)) ▹ (λ q. ih a (f.a₁₃ q)) ▹ (λ q. ih a (f.a₁₄ q)) ▹ (λ q. tt) ▹ (λ q. tt)
      ▹ (λ q. tt) ▹ (λ q. ih a (f.a₁₈ q)) ▹ (λ q. tt) ▹ (λ q. f.call₂₀ q) ▹ tt)

  pub tree_calls : (l : ℕ) → Calls (RuleLine ns) (tree_at ns literals l)
  tree_calls = everywhere ns literals g (Calls (RuleLine ns)) call_rows tt

  pub body_calls : (l : ℕ) → Calls (RuleLine ns) (rule_at ns literals l).body
  body_calls l = tree_calls (natural (node_at ns l).b)

  -- A rule's body is a lower line.
  pub body_lower : (l : ℕ) → RuleLine ns l → Lower l (natural (node_at ns l).b)
  body_lower l r = (facts ns literals g l r.low r.high).b₈ r.kind_is

-- ── Standing still: the set over lines is what the trees compute ──
-- `set` may say anything of lines that are no rules: no tree calls them.
module _ (ns : List ℤ) (literals : List ℕ) (g : Accepted ns literals) (set : ℕ → Bool) (same : (l : ℕ) → RuleLine ns l → set l ≡ nullable ns l) where
  still_step : (l : ℕ) → In ns l → ((x : ℕ) → Lower l x → still set (tree_at ns literals x) ≡ nullable ns x)
      → still set (tree_at ns literals l) ≡ nullable ns l
  unfolding stands_still
  still_step l i ih =
      let n : Node = node_at ns l in
      let a : ℕ = natural n.a in
      let b : ℕ = natural n.b in
      let f : Fits ns literals l = facts ns literals g l i.0 i.1 in
      ap (still set) (tree_row ns literals g l i.0 i.1)
      ∙ by_kind ns literals g l i.0 i.1 (λ (x : Exp) (y : Bool). still set x ≡ y)
      (tree_rows literals (tree_at ns literals) l n) (still_rows (eqb a 0) (eqb b 0) (nullable ns a) (nullable ns b)) end_of_input false refl
      ((λ q. ap (λ (m : ℕ). eqb m 0) (f.part₁ q).length_is) ▹ (λ q. ap (λ (m : ℕ). eqb m 0) (f.part₂ q).length_is) ▹ (λ q. refl)
      ▹ (λ q. refl) ▹ (λ q. refl) ▹ (λ q. ap₂ (λ x y. x && y) (ih a (f.a₆ q)) (ih b (f.b₆ q)))
      ▹ (λ q. ap₂ (λ x y. x || y) (ih a (f.a₇ q)) (ih b (f.b₇ q))) ▹ (λ q. ih b (f.b₈ q)) ▹ (λ q. ih a (f.a₉ q)) ▹ (λ q. refl)
      ▹ (λ q. refl) ▹ (λ q. refl) ▹ (λ q. ih a (f.a₁₃ q)) ▹ (λ q. ih a (f.a₁₄ q)) ▹ (λ q. refl) ▹ (λ q. refl) ▹ (λ q. refl)
      ▹ (λ q. ih a (f.a₁₈ q)) ▹ (λ q. refl) ▹ (λ q. same a (f.call₂₀ q)) ▹ tt)
      ∙ sym (nullable_is ns l i.0 i.1)

  pub tree_still : (l : ℕ) → In ns l → still set (tree_at ns literals l) ≡ nullable ns l
  tree_still = by_lines ns literals g (λ l. still set (tree_at ns literals l) ≡ nullable ns l) still_step

  steady_rows : (l : ℕ) → In ns l → ((x : ℕ) → Lower l x → Steady set (tree_at ns literals x)) → Rows ns literals g (Steady set) l
  steady_rows l i ih =
      let a : ℕ = natural (node_at ns l).a in
      let b : ℕ = natural (node_at ns l).b in
      let f : Fits ns literals l = facts ns literals g l i.0 i.1 in
      ((λ q. tt) ▹ (λ q. tt) ▹ (λ q. tt) ▹ (λ q. tt) ▹ (λ q. tt) ▹ (λ q. (ih a (f.a₆ q), ih b (f.b₆ q)))
      ▹ (λ q. (ih a (f.a₇ q), ih b (f.b₇ q))) ▹ (λ q. ih b (f.b₈ q)) ▹ (λ q. ih a (f.a₉ q))
      ▹ (λ q. (tree_still a ((f.a₁₀ q).low, omega (arith, (f.a₁₀ q).high, i.1)) ∙ g.moves l i.0 i.1 q, ih a (f.a₁₀ q)))
      ▹ (λ q. ih a (f.a₁₁ q)) ▹ (λ q. ih a (f.a₁₂ q)) ▹ (λ q. ih a (f.a₁₃ q)) ▹ (λ q. ih a (f.a₁₄ q)) ▹ (λ q. tt) ▹ (λ q. tt)
      ▹ (λ q. tt) ▹ (λ q. ih a (f.a₁₈ q)) ▹ (λ q. tt) ▹ (λ q. tt) ▹ tt)

  pub tree_steady : (l : ℕ) → Steady set (tree_at ns literals l)
  tree_steady = everywhere ns literals g (Steady set) steady_rows tt

  pub body_steady : (l : ℕ) → Steady set (rule_at ns literals l).body
  body_steady l = tree_steady (natural (node_at ns l).b)

  -- A rule may stand still as its body may.
  pub body_still : (l : ℕ) → RuleLine ns l → still set (rule_at ns literals l).body ≡ nullable ns l
  unfolding stands_still
  body_still l r =
      let w : Lower l (natural (node_at ns l).b) = body_lower ns literals g l r in
      tree_still (natural (node_at ns l).b) (w.low, omega (arith, w.high, r.high))
      ∙ sym (nullable_is ns l r.low r.high ∙ ap (λ (k : ℕ).
      get_or (still_rows (eqb (natural (node_at ns l).a) 0) (eqb (natural (node_at ns l).b) 0) (nullable ns (natural (node_at ns l).a))
      (nullable ns (natural (node_at ns l).b))) (k - 1) false) r.kind_is)

-- The set for laws that speak of every number as a line: a rule as the set says, any other line may.
abbrev pub rule_still : List ℤ → ℕ → Bool
rule_still ns l = not (within 1 (line_count ns) l && eqb (kind_at ns l) 8) || nullable ns l

rule_test : (ns : List ℤ) (l : ℕ) → RuleLine ns l → (within 1 (line_count ns) l && eqb (kind_at ns l) 8) ≡ true
rule_test ns l r = rw (within_is 1 (line_count ns) l r.low r.high, eq-eqb (kind_at ns l) 8 r.kind_is)

pub rule_still_is : (ns : List ℤ) (l : ℕ) → RuleLine ns l → rule_still ns l ≡ nullable ns l
rule_still_is ns l r = rw (rule_test ns l r)

module _ (ns : List ℤ) (literals : List ℕ) (g : Accepted ns literals) where
  pub body_closed : (l : ℕ) → rule_still ns l ≡ false → still (rule_still ns) (rule_at ns literals l).body ≡ false
  body_closed l e = go (within 1 (line_count ns) l && eqb (kind_at ns l) 8) refl e
    where
      go : (b : Bool) → (within 1 (line_count ns) l && eqb (kind_at ns l) 8) ≡ b → (not b || nullable ns l) ≡ false
          → still (rule_still ns) (rule_at ns literals l).body ≡ false
      go false t q = absurd (true≢false q)
      go true t q =
          let w : (1 ≤ l) × (l ≤ line_count ns) = within_true 1 (line_count ns) l (and_left (within 1 (line_count ns) l) _ t) in
          let k : kind_at ns l ≡ 8 = eqb-true (kind_at ns l) 8 (and_right (within 1 (line_count ns) l) _ t) in
          body_still ns literals g (rule_still ns) (rule_still_is ns) l (record { low = w.0; high = w.1; kind_is = k }) ∙ q

-- ── Plain grammars ──
-- The twenty rows of `plain_line`; a and b: the lines named there are not of kind 6.
abbrev plain_rows : (a b : Bool) → List Bool
plain_rows a b =
    true ∷ true ∷ true ∷ true ∷ true ∷ true ∷ (a && b) ∷ b ∷ true ∷ a ∷ a ∷ a ∷ a ∷ false ∷ false ∷ false ∷ false ∷ false ∷ true ∷ true ∷ []

abbrev not_six : List ℤ → ℕ → Bool
not_six ns l = not (eqb (kind_at ns l) 6)

module _ (ns : List ℤ) (literals : List ℕ) (g : Accepted ns literals) (p : plain ns ≡ None) where
  plain_row : (l : ℕ) → In ns l → (k : ℕ) → kind_at ns l ≡ k
      → get_or (plain_rows (not_six ns (natural (node_at ns l).a)) (not_six ns (natural (node_at ns l).b))) (k - 1) false ≡ true
  plain_row l i k q =
      let f : plain_line ns l ≡ true = not-false (plain_line ns l) (none_found (λ j. not (plain_line ns j)) (line_count ns) p l i.0 i.1) in
      ap (λ (j : ℕ). get_or (plain_rows (not_six ns (natural (node_at ns l).a)) (not_six ns (natural (node_at ns l).b))) (j - 1) false) (sym q) ∙ f

  six_no : (l : ℕ) → not_six ns l ≡ true → kind_at ns l ≡ 6 → false ≡ true
  six_no l e q = absurd (true≢false (sym e ∙ ap not (eq-eqb (kind_at ns l) 6 q)))

  -- A line that is not of kind 6 has a whole tree.
  whole_at : (l : ℕ) → In ns l → not_six ns l ≡ true → whole (tree_at ns literals l) ≡ true
  whole_at l i e =
      let n : Node = node_at ns l in
      ap whole (tree_row ns literals g l i.0 i.1)
      ∙ by_kind ns literals g l i.0 i.1 (λ (x y : Exp). whole x ≡ true) (tree_rows literals (tree_at ns literals) l n)
      (tree_rows literals (tree_at ns literals) l n) end_of_input end_of_input refl
      ((λ q. refl) ▹ (λ q. refl) ▹ (λ q. refl) ▹ (λ q. refl) ▹ (λ q. refl) ▹ (λ q. six_no l e q) ▹ (λ q. refl) ▹ (λ q. refl) ▹ (λ q. refl)
      ▹ (λ q. refl) ▹ (λ q. refl) ▹ (λ q. refl) ▹ (λ q. refl) ▹ (λ q. refl) ▹ (λ q. refl) ▹ (λ q. refl) ▹ (λ q. refl) ▹ (λ q. refl)
      ▹ (λ q. refl) ▹ (λ q. refl) ▹ tt)

  module _ (l : ℕ) (i : In ns l) where
    inside : (x : ℕ) → Lower l x → In ns x
    inside x w = (w.low, omega (arith, w.high, i.1))

    never : {A : Type 0} (k : ℕ) → kind_at ns l ≡ k
        → get_or (plain_rows (not_six ns (natural (node_at ns l).a)) (not_six ns (natural (node_at ns l).b))) (k - 1) false ≡ false → A
    never k q e = absurd (true≢false (sym (plain_row l i k q) ∙ e))

    plain_each : ((x : ℕ) → Lower l x → Plain (tree_at ns literals x)) → Rows ns literals g Plain l
    plain_each ih =
        let a : ℕ = natural (node_at ns l).a in
        let b : ℕ = natural (node_at ns l).b in
        let f : Fits ns literals l = facts ns literals g l i.0 i.1 in
        let r : (k : ℕ) → kind_at ns l ≡ k → get_or (plain_rows (not_six ns a) (not_six ns b)) (k - 1) false ≡ true = plain_row l i in
        let one : Lower l a → not_six ns a ≡ true → Plain (tree_at ns literals a) × (whole (tree_at ns literals a) ≡ true) =
        λ w e. (ih a w, whole_at a (inside a w) e) in
        ((λ q. tt) ▹ (λ q. tt) ▹ (λ q. tt) ▹ (λ q. tt) ▹ (λ q. tt) ▹ (λ q. (ih a (f.a₆ q), ih b (f.b₆ q)))
        ▹ (λ q. (
          ih a (f.a₇ q),
          ih b (f.b₇ q),
          whole_at a (inside a (f.a₇ q)) (and_left (not_six ns a) (not_six ns b) (r 7 q)),
          whole_at b (inside b (f.b₇ q)) (and_right (not_six ns a) (not_six ns b) (r 7 q)),
        ))
        ▹ (λ q. (ih b (f.b₈ q), whole_at b (inside b (f.b₈ q)) (r 8 q))) ▹ (λ q. ih a (f.a₉ q)) ▹ (λ q. one (f.a₁₀ q) (r 10 q))
        ▹ (λ q. one (f.a₁₁ q) (r 11 q)) ▹ (λ q. one (f.a₁₂ q) (r 12 q)) ▹ (λ q. one (f.a₁₃ q) (r 13 q)) ▹ (λ q. never 14 q refl)
        ▹ (λ q. never 15 q refl) ▹ (λ q. never 16 q refl) ▹ (λ q. never 17 q refl) ▹ (λ q. never 18 q refl) ▹ (λ q. tt) ▹ (λ q. tt) ▹ tt)

  pub tree_plain : (l : ℕ) → Plain (tree_at ns literals l)
  tree_plain = everywhere ns literals g Plain plain_each tt

  -- A rule's body is plain and not of kind 6.
  pub body_plain : (l : ℕ) → Plain (rule_at ns literals l).body
  body_plain l = tree_plain (natural (node_at ns l).b)

  pub body_whole : (l : ℕ) → RuleLine ns l → whole (rule_at ns literals l).body ≡ true
  body_whole l r =
      let w : Lower l (natural (node_at ns l).b) = body_lower ns literals g l r in
      whole_at (natural (node_at ns l).b) (w.low, omega (arith, w.high, r.high)) (plain_row l (r.low, r.high) 8 r.kind_is)

-- ── All tests passed ──
pub record Started (i : Input) : Type 0 where
  pub literals_short : length i.literals ≤ 65535
  pub literals_whole : Utf8 i.literals
  pub fitting : misfit i.nodes i.literals ≡ None
  pub moving : still_repeat i.nodes ≡ None
  pub grammar : Accepted i.nodes i.literals
  pub root_line : In i.nodes i.root
  pub text_short : length i.text ≤ 65535
  pub text_whole : Utf8 i.text
  pub depth_low : 1 ≤ i.depth_limit
  pub depth_high : i.depth_limit ≤ 1024
  pub report_room : 515 ≤ length i.report
  pub scratch_room : 4864 ≤ i.scratch

abbrev AllNone : List (Option Refusal) → Type 0
AllNone [] = Unit {0}
AllNone (t ∷ ts) = (t ≡ None) × AllNone ts

all_none : (ts : List (Option Refusal)) → first_of ts ≡ None → AllNone ts
all_none [] e = tt
all_none (None ∷ ts) e = (refl, all_none ts e)
all_none (Some r ∷ ts) e = let z : ◌≡◌ {A = ℕ} 0 1 = cc in absurd (omega arith)

refuse_none : (n : ℕ) (o : Option ℕ) → refuse n o ≡ None → o ≡ None
refuse_none n None e = refl
refuse_none n (Some p) e = let z : ◌≡◌ {A = ℕ} 0 1 = cc in absurd (omega arith)

unless_none : (b : Bool) → unless b ≡ None → b ≡ true
unless_none true e = refl
unless_none false e = let z : ◌≡◌ {A = ℕ} 0 1 = cc in absurd (omega arith)

good_short : (x : List ℕ) → good_text x ≡ true → length x ≤ 65535
good_short x e = leb-true (length x) 65535 (and_left (leb (length x) 65535) (is_utf8 x) e)

good_whole : (x : List ℕ) → good_text x ≡ true → Utf8 x
good_whole x e = (is_utf8_iff x).0 (and_right (leb (length x) 65535) (is_utf8 x) e)

pub started : (i : Input) → refusal i ≡ None → Started i
unfolding refusal
started i e =
    let h : AllNone (tests i) = all_none (tests i) e in
    let good : (n : ℕ) (b : Bool) → refuse n (unless b) ≡ None → b ≡ true = λ n b q. unless_none b (refuse_none n (unless b) q) in
    let g₄ : good_text i.literals ≡ true = good 4 (good_text i.literals) h.0 in
    let g₇ : good_text i.text ≡ true = good 7 (good_text i.text) h.1.1.1.1.0 in
    let d : (1 ≤ i.depth_limit) × (i.depth_limit ≤ 1024) = within_true 1 1024 i.depth_limit (good 8 (within 1 1024 i.depth_limit) h.1.1.1.1.1.0) in
    let a : (leb 515 (length i.report) && leb 4864 i.scratch) ≡ true = good 9 (leb 515 (length i.report) && leb 4864 i.scratch) h.1.1.1.1.1.1.0 in
    let f : misfit i.nodes i.literals ≡ None = refuse_none 5 (misfit i.nodes i.literals) h.1.0 in
    let m : still_repeat i.nodes ≡ None = refuse_none 6 (still_repeat i.nodes) h.1.1.0 in
    record {
      literals_short = good_short i.literals g₄;
      literals_whole = good_whole i.literals g₄;
      fitting = f;
      moving = m;
      grammar = accepted i.nodes i.literals f m;
      root_line = within_true 1 (line_count i.nodes) i.root (good 18 (within 1 (line_count i.nodes) i.root) h.1.1.1.0);
      text_short = good_short i.text g₇;
      text_whole = good_whole i.text g₇;
      depth_low = d.0;
      depth_high = d.1;
      report_room = leb-true 515 (length i.report) (and_left (leb 515 (length i.report)) _ a);
      scratch_room = leb-true 4864 i.scratch (and_right (leb 515 (length i.report)) _ a);
    }
