-- A line of an accepted grammar as the code reads it: the lines that it names, and the tree that its evaluation is of. One lemma for
-- each kind; `n` is the line as read.
use Rattle.std.specs.Prelude.{if◌then◌else◌}
use mathlib.Core.Path.{◌≡◌, refl, sym, ap, subst, ◌∙◌}
use mathlib.Core.Bool.{true, false}
use mathlib.Core.Logic.{◌⊎◌, inl, inr}
use mathlib.Core.List.{List}
use Prim.Native.Nat.{ℕ, zero, suc, ◌+◌, ◌*◌, ◌≤◌}
use native.Mathlib.Omega.{arith}
use lib.Dec.{eqb}
use lib.IntN.{ℤ}
use lib.ListN.{length}
use borrow.Author.Tests.{eq-eqb, ne_eqb}
use Rattle.engine.specs.declared.node.Line as Read
use Rattle.reading.specs.declared.parser_state.Atomicity.{Atomicity}
use Rattle.reading.specs.Ending.{Ending}
use Rattle.reading.specs.Grammar as Grammar
use Rattle.reading.specs.Grammar.{Exp, node_at, natural, kind_at, tree_at, atomicity_of}
use Rattle.reading.specs.Nullable.{nullable}
use Rattle.reading.specs.Pest as Pest
use Rattle.reading.specs.Pest.{ParserState}
use Rattle.engine.specs.Lines.{line_of}
use Rattle.engine.specs.Spine.{Fork}
use Rattle.engine.specs.Evaluation.{setting_of, Line, evaluated}
use Rattle.reading.proofs.Accepted.{Accepted, Lower, Fits, RuleLine, facts, tree_kind}

-- ── Kinds ──
-- None of three numbers that follow one another.
pub three : (a k : ℕ) → a ≤ k → k ≤ a + 2 → (k ≡ a → ⊥) → (k ≡ a + 1 → ⊥) → (k ≡ a + 2 → ⊥) → ⊥
three a k lo hi x y z = omega arith

below : (k : ℕ) → (k ≤ 10 → ⊥) → 11 ≤ k
below k h = omega arith

last : (k : ℕ) → k ≤ 14 → (k ≤ 13 → ⊥) → k ≡ 14
last k hi q = omega arith

module _ (ns : List ℤ) (literals : List ℕ) (w : Accepted ns literals) where
  pub whole : (l : ℕ) → Line ns l → (1 ≤ l) × (l * 4 ≤ length ns)
  whole l i = (i.low, omega (arith, i.high, w.fours))

  pub few : (l : ℕ) → Line ns l → l ≤ 4096
  few l i = omega (arith, i.high, w.few)

  lower_line : (l x : ℕ) → Line ns l → Lower l x → Line ns x
  lower_line l x i v = record { low = v.low; high = omega (arith, i.high, v.high) }

  module _ (l : ℕ) (i : Line ns l) (n : Read.Line) (e : n ≡ line_of (node_at ns l)) where
    abbrev K : ℕ → Type 0
    K k = kind_at ns l ≡ k

    pub kind_of : (k : ℕ) → n.kind ≡ k → K k
    kind_of k q = sym (ap (λ (x : Read.Line). x.kind) e) ∙ q

    fits : Fits ns literals l
    fits = facts ns literals w l i.low i.high

    -- The line that it names, and its tree.
    abbrev One : (Exp → Exp) → ℕ → Type 0
    One f a = Line ns a × (tree_at ns literals l ≡ f (tree_at ns literals a))

    one : (f : Exp → Exp) → Lower l (natural (node_at ns l).a) → tree_at ns literals l ≡ f (tree_at ns literals (natural (node_at ns l).a))
        → One f n.a
    one f v t = subst (λ (x : Read.Line). One f x.a) (sym e) (lower_line l (natural (node_at ns l).a) i v, t)

    pub at_8 : K 8 → Line ns n.b × (n.a ≤ 65535) × (tree_at ns literals l ≡ Grammar.rule l n.a (tree_at ns literals n.b))
    at_8 q =
        subst (λ (x : Read.Line). Line ns x.b × (x.a ≤ 65535) × (tree_at ns literals l ≡ Grammar.rule l x.a (tree_at ns literals x.b))) (sym e)
        (lower_line l (natural (node_at ns l).b) i (fits.b₈ q), (fits.rule₈ q).1, tree_kind ns literals w l i.low i.high 8 q)

    pub at_9 : K 9 → One Grammar.sequence n.a
    at_9 q = one Grammar.sequence (fits.a₉ q) (tree_kind ns literals w l i.low i.high 9 q)

    pub at_10 : K 10 → One Grammar.repeat n.a
    at_10 q = one Grammar.repeat (fits.a₁₀ q) (tree_kind ns literals w l i.low i.high 10 q)

    -- A repeat's body moves.
    pub moves_10 : K 10 → nullable ns n.a ≡ false
    moves_10 q = ap (λ (x : Read.Line). nullable ns x.a) e ∙ w.moves l i.low i.high q

    pub at_11 : K 11 → One Grammar.optional n.a
    at_11 q = one Grammar.optional (fits.a₁₁ q) (tree_kind ns literals w l i.low i.high 11 q)

    pub at_12 : K 12 → One (Grammar.lookahead (eqb n.b 1)) n.a
    at_12 q =
        subst (λ (x : Read.Line). Line ns x.a × (tree_at ns literals l ≡ Grammar.lookahead (eqb x.b 1) (tree_at ns literals x.a))) (sym e)
        (lower_line l (natural (node_at ns l).a) i (fits.a₁₂ q), tree_kind ns literals w l i.low i.high 12 q)

    pub at_13 : (a : Atomicity) → a ≡ atomicity_of n.b → K 13 → One (Grammar.atomic a) n.a
    at_13 a h q =
        let v : One (Grammar.atomic (atomicity_of n.b)) n.a =
        subst (λ (x : Read.Line). Line ns x.a × (tree_at ns literals l ≡ Grammar.atomic (atomicity_of x.b) (tree_at ns literals x.a))) (sym e)
        (lower_line l (natural (node_at ns l).a) i (fits.a₁₃ q), tree_kind ns literals w l i.low i.high 13 q) in
        (v.0, v.1 ∙ ap (λ (b : Atomicity). Grammar.atomic b (tree_at ns literals n.a)) (sym h))

    pub at_14 : K 14 → One (Grammar.stack_push l) n.a
    at_14 q = one (Grammar.stack_push l) (fits.a₁₄ q) (tree_kind ns literals w l i.low i.high 14 q)

    pub at_18 : K 18 → One Grammar.restore_on_err n.a
    at_18 q = one Grammar.restore_on_err (fits.a₁₈ q) (tree_kind ns literals w l i.low i.high 18 q)

    -- A call names a rule.
    pub called : K 20 → RuleLine ns n.a
    called q = subst (λ (x : Read.Line). RuleLine ns x.a) (sym e) (fits.call₂₀ q)

    pub at_20 : K 20 → tree_at ns literals l ≡ Grammar.call n.a
    at_20 q = subst (λ (x : Read.Line). tree_at ns literals l ≡ Grammar.call x.a) (sym e) (tree_kind ns literals w l i.low i.high 20 q)

    pub called_line : K 20 → Line ns n.a × (kind_at ns n.a ≡ 8)
    called_line q = let r : RuleLine ns n.a = called q in (record { low = r.low; high = r.high }, r.kind_is)

-- A fork by its line as read.
pub fork_at : (ns : List ℤ) (l : ℕ) (n : Read.Line) → n ≡ line_of (node_at ns l) → Fork n.kind → Fork (kind_at ns l)
fork_at ns l n e f = subst (λ (x : Read.Line). Fork x.kind) e f

-- What is evaluated of a tree is evaluated of the line that has it.
pub by_tree : (ns : List ℤ) (literals text : List ℕ) (capacity d : ℕ) (x y : Exp) (m : ParserState) (r : Ending ParserState) → x ≡ y
    → r ≡ evaluated ns literals text capacity d y m → r ≡ evaluated ns literals text capacity d x m
by_tree ns literals text capacity d x y m r e f = f ∙ ap (λ (z : Exp). evaluated ns literals text capacity d z m) (sym e)

-- A call is evaluated as its rule.
call_is : (ns : List ℤ) (literals text : List ℕ) (capacity d a : ℕ) (m : ParserState)
    → evaluated ns literals text capacity d (Grammar.rule a (natural (node_at ns a).a) (tree_at ns literals (natural (node_at ns a).b))) m
    ≡ evaluated ns literals text capacity d (Grammar.call a) m
unfolding evaluated
call_is ns literals text capacity d a m = go d
  where
    go : (d : ℕ) → Pest.eval (setting_of ns literals text capacity) true d
        (Grammar.rule a (natural (node_at ns a).a) (tree_at ns literals (natural (node_at ns a).b))) m
        ≡ Pest.eval (setting_of ns literals text capacity) true d (Grammar.call a) m
    go zero = refl
    go (suc d) = refl

module _ (ns : List ℤ) (literals : List ℕ) (w : Accepted ns literals) (l : ℕ) (i : Line ns l) (n : Read.Line) (e : n ≡ line_of (node_at ns l)) where
  call_runs : (text : List ℕ) (capacity d : ℕ) (m : ParserState) (r : Ending ParserState) → kind_at ns l ≡ 20
      → r ≡ evaluated ns literals text capacity d (tree_at ns literals n.a) m → r ≡ evaluated ns literals text capacity d (tree_at ns literals l) m
  call_runs text capacity d m r q f =
      let v : Line ns n.a × (kind_at ns n.a ≡ 8) = called_line ns literals w l i n e q in
      by_tree ns literals text capacity d _ _ m r (at_20 ns literals w l i n e q)
      (f ∙ ap (λ (x : Exp). evaluated ns literals text capacity d x m) (at_8 ns literals w n.a v.0 (line_of (node_at ns n.a)) refl v.1).2
      ∙ call_is ns literals text capacity d n.a m)

  -- A line of kind 8 or 20, by the line of its rule.
  module _ (k : (n.kind ≡ 8) ⊎ (n.kind ≡ 20)) (v : ℕ) (h : v ≡ (if eqb n.kind 20 then n.a else l)) where
    itself : n.kind ≡ 8 → v ≡ l
    itself q = h ∙ rw (ne_eqb n.kind 20 (λ z. omega arith))

    named : n.kind ≡ 20 → v ≡ n.a
    named q = h ∙ rw (eq-eqb n.kind 20 q)

    pub rule_line : Line ns v × (kind_at ns v ≡ 8)
    rule_line = go k
      where
        go : (n.kind ≡ 8) ⊎ (n.kind ≡ 20) → Line ns v × (kind_at ns v ≡ 8)
        go (inl q) = subst (λ (x : ℕ). Line ns x × (kind_at ns x ≡ 8)) (sym (itself q)) (i, kind_of ns literals w l i n e 8 q)
        go (inr q) = subst (λ (x : ℕ). Line ns x
            × (kind_at ns x ≡ 8)) (sym (named q)) (called_line ns literals w l i n e (kind_of ns literals w l i n e 20 q))

    pub rule_runs : (text : List ℕ) (capacity d : ℕ) (m : ParserState) (r : Ending ParserState)
        → r ≡ evaluated ns literals text capacity d (tree_at ns literals v) m → r ≡ evaluated ns literals text capacity d (tree_at ns literals l) m
    rule_runs text capacity d m r f = go k
      where
        at : (x : ℕ) → v ≡ x → r ≡ evaluated ns literals text capacity d (tree_at ns literals x) m
        at x q = f ∙ ap (λ (y : ℕ). evaluated ns literals text capacity d (tree_at ns literals y) m) q

        go : (n.kind ≡ 8) ⊎ (n.kind ≡ 20) → r ≡ evaluated ns literals text capacity d (tree_at ns literals l) m
        go (inl q) = at l (itself q)
        go (inr q) = call_runs text capacity d m r (kind_of ns literals w l i n e 20 q) (at n.a (named q))
