-- The lines that open no call and are no fork: what the code's leaf answers for a line's kind is what pest's evaluation makes of the
-- line's tree, at any depth.
use Rattle.std.specs.Prelude.{if◌then◌else◌}
use mathlib.Core.Path.{◌≡◌, refl, sym, ap, ap₂, subst, ◌∙◌}
use mathlib.Core.Bool.{Bool, true, false, ◌||◌, true≢false}
use mathlib.Core.Logic.{◌⊎◌, inl, inr}
use mathlib.Core.List.{List}
use Rattle.std.specs.Prelude.{Option, None, Some}
use Prim.Native.Nat.{ℕ, zero, suc, ◌+◌, ◌≤◌}
use native.Mathlib.Omega.{arith}
use native.Mathlib.Decide.{dec_le}
use lib.Dec.{eqb, ltb}
use lib.IntN.{ℤ}
use lib.ListN.{length, take, drop}
use Rattle.matching.specs.Position as Position
use Rattle.matching.proofs.Lead.{within_is}
use Rattle.engine.specs.declared.node.Line as Read
use Rattle.engine.specs.declared.node.Ends.{Ends}
use Rattle.reading.specs.Ending.{Ending, Ok, Err}
use Rattle.reading.specs.Grammar as Grammar
use Rattle.reading.specs.Grammar.{Exp, node_at, kind_at, tree_at}
use Rattle.reading.specs.Reading.{Setting}
use Rattle.reading.specs.Pest as Pest
use Rattle.reading.specs.Pest.{ParserState}
use Rattle.engine.specs.Lines.{line_of, ends_of}
use Rattle.engine.specs.Spine.{Fork}
use Rattle.reading.specs.Fit.{Fit}
use Rattle.engine.specs.Evaluation.{setting_of, Line, evaluated, opens_call}
use Rattle.reading.proofs.Matchers.{string_same, folded_same, range_same, skip_same}
use Rattle.engine.proofs.LineSteps.{three}
use Rattle.reading.proofs.Accepted.{Accepted, Fits, Part, facts, tree_kind}

six_seven : (k : ℕ) → (k ≤ 5 → ⊥) → k ≤ 7 → (k ≡ 6 → ⊥) → (k ≡ 7 → ⊥) → ⊥
six_seven k lo hi n₆ n₇ = omega arith

eighteen : (k : ℕ) → (k ≤ 17 → ⊥) → k ≤ 20 → (k ≡ 18 → ⊥) → (k ≡ 19 → ⊥) → (k ≡ 20 → ⊥) → ⊥
eighteen k lo hi n₁₈ n₁₉ n₂₀ = omega arith

over : (k : ℕ) → (k ≤ 7 → ⊥) → 8 ≤ k
over k h = omega arith

under : (k : ℕ) → (15 ≤ k → ⊥) → k ≤ 14
under k h = omega arith

-- Of the kinds that open no call and are no fork, those that are left.
leaf_kind : (k : ℕ) → k ≤ 20 → (Fork k → ⊥) → opens_call k ≡ false → (k ≡ 15 → ⊥) → (k ≡ 16 → ⊥) → (k ≡ 17 → ⊥) → (k ≡ 19 → ⊥) → k ≤ 5
leaf_kind k hi f o n₁₅ n₁₆ n₁₇ n₁₉ = go (dec_le k 5) (dec_le k 7) (dec_le 15 k) (dec_le k 17)
  where
    opens : (j : ℕ) → k ≡ j → opens_call j ≡ true → ⊥
    opens j x t = true≢false (sym t ∙ ap opens_call (sym x) ∙ o)

    between : 8 ≤ k → k ≤ 14 → ⊥
    between p q = true≢false (sym (ap (λ (b : Bool). b || (eqb k 18 || eqb k 20)) (within_is 8 14 k p q)) ∙ o)

    go : Dec (k ≤ 5) → Dec (k ≤ 7) → Dec (15 ≤ k) → Dec (k ≤ 17) → k ≤ 5
    go (yes a) b c d = a
    go (no a) (yes b) c d = absurd (six_seven k a b (λ x. f (inl x)) (λ x. f (inr x)))
    go (no a) (no b) (yes c) (yes d) = absurd (three 15 k c d n₁₅ n₁₆ n₁₇)
    go (no a) (no b) (yes c) (no d) = absurd (eighteen k d hi (λ x. opens 18 x refl) n₁₉ (λ x. opens 20 x refl))
    go (no a) (no b) (no c) d = absurd (between (over k b) (under k c))

module _ (ns : List ℤ) (literals : List ℕ) (w : Accepted ns literals) (l : ℕ) (i : Line ns l) (n : Read.Line) (e : n ≡ line_of (node_at ns l)) where
  -- The line's kind, and what the table says of its fields.
  kind_of : (k : ℕ) → n.kind ≡ k → kind_at ns l ≡ k
  kind_of k q = sym (ap (λ (x : Read.Line). x.kind) e) ∙ q

  fits : Fits ns literals l
  fits = facts ns literals w l i.low i.high

  pub literal_in : (k : ℕ) → (k ≡ 1) ⊎ (k ≡ 2) → n.kind ≡ k → n.a + n.b ≤ length literals
  literal_in k (inl o) q = subst (λ (x : Read.Line). x.a + x.b ≤ length literals) (sym e) (fits.part₁ (kind_of k q ∙ o)).inside
  literal_in k (inr o) q = subst (λ (x : Read.Line). x.a + x.b ≤ length literals) (sym e) (fits.part₂ (kind_of k q ∙ o)).inside

  pub scalars : n.kind ≡ 3 → (n.a ≤ 0x10FFFF) × (n.b ≤ 0x10FFFF)
  scalars q = subst (λ (x : Read.Line). (x.a ≤ 0x10FFFF) × (x.b ≤ 0x10FFFF)) (sym e) (fits.scalars₃ (kind_of 3 q))

  pub tag_low : n.kind ≡ 19 → n.a ≤ 65535
  tag_low q = subst (λ (x : Read.Line). x.a ≤ 65535) (sym e) (fits.tag₁₉ (kind_of 19 q)).1

  -- The kinds that are left; `rest` as the code's match gives it.
  pub leaf_of : (Fork (kind_at ns l) → ⊥) → opens_call (kind_at ns l) ≡ false
      → (((Unit {0} × (n.kind ≡ 15 → ⊥)) × (n.kind ≡ 16 → ⊥)) × (n.kind ≡ 17 → ⊥)) × (n.kind ≡ 19 → ⊥) → kind_at ns l ≤ 5
  leaf_of f o r =
      let p : n.kind ≡ kind_at ns l = ap (λ (x : Read.Line). x.kind) e in
      subst (λ (k : ℕ). k ≤ 5) p
      (leaf_kind n.kind (subst (λ (k : ℕ). k ≤ 20) (sym p) fits.known_high) (subst (λ (k : ℕ). Fork k → ⊥) (sym p) f) (ap opens_call p
      ∙ o) r.0.0.0.1 r.0.0.1 r.0.1 r.1)

module _ (ns : List ℤ) (literals text : List ℕ) (capacity d : ℕ) (w : Accepted ns literals) (l : ℕ) (i : Line ns l) (n : Read.Line)
    (e : n ≡ line_of (node_at ns l)) where
  abbrev g : Setting
  g = setting_of ns literals text capacity

  abbrev At : ParserState → Ending ParserState
  At m = evaluated ns literals text capacity d (tree_at ns literals l) m

  -- A tree whose evaluation opens no call.
  flat : (T : Exp) (F : ParserState → Ending ParserState)
      → ((room : Bool) (f : Exp → ParserState → Ending ParserState) (m : ParserState) → Pest.level g true room f T m ≡ F m)
      → (m : ParserState) → evaluated ns literals text capacity d T m ≡ F m
  unfolding evaluated
  flat T F h m = go d
    where
      go : (d : ℕ) → Pest.eval g true d T m ≡ F m
      go zero = h false (Pest.no_deeper g true) m
      go (suc d) = h true (Pest.eval g true d) m

  by_kind : (k : ℕ) (T : Exp) (F : ParserState → Ending ParserState) → tree_at ns literals l ≡ T
      → ((room : Bool) (f : Exp → ParserState → Ending ParserState) (m : ParserState) → Pest.level g true room f T m ≡ F m)
      → (m : ParserState) (y : Ending ParserState) → y ≡ F m → y ≡ At m
  by_kind k T F t h m y z = z ∙ sym (ap (λ (x : Exp). evaluated ns literals text capacity d x m) t ∙ flat T F h m)

  tree : (k : ℕ) → n.kind ≡ k → (f : Read.Line → Exp) → tree_at ns literals l ≡ f (line_of (node_at ns l)) → tree_at ns literals l ≡ f n
  tree k q f t = t ∙ ap f (sym e)

  pub end_1 : n.kind ≡ 1 → (m : ParserState) (y : Ending ParserState)
      → y ≡ Pest.moved (Position.match_string text (take n.b (drop n.a literals)) m.position) m → y ≡ At m
  end_1 q m y z =
      let L : List ℕ = take n.b (drop n.a literals) in
      by_kind 1 (Grammar.match_string L) (λ k. Pest.moved (Pest.match_string text L k.position) k)
      (tree 1 q (λ x. Grammar.match_string (take x.b (drop x.a literals)))
      (tree_kind ns literals w l i.low i.high 1 (kind_of ns literals w l i n e 1 q))) (λ room f k. refl) m y
      (z ∙ ap (λ (o : Option ℕ). Pest.moved o m) (string_same text L m.position))

  pub end_2 : n.kind ≡ 2 → (m : ParserState) → Fit g m → (y : Ending ParserState)
      → y ≡ Pest.moved (Position.match_insensitive text (take n.b (drop n.a literals)) m.position) m → y ≡ At m
  end_2 q m f y z =
      let L : List ℕ = take n.b (drop n.a literals) in
      let u : Part literals n.a n.b = subst (λ (x : Read.Line). Part literals x.a x.b) (sym e)
      ((fits ns literals w l i n e).part₂ (kind_of ns literals w l i n e 2 q)) in
      by_kind 2 (Grammar.match_insensitive L) (λ k. Pest.moved (Pest.match_insensitive text L k.position) k)
      (tree 2 q (λ x. Grammar.match_insensitive (take x.b (drop x.a literals)))
      (tree_kind ns literals w l i.low i.high 2 (kind_of ns literals w l i n e 2 q))) (λ room h k. refl) m y
      (z ∙ ap (λ (o : Option ℕ). Pest.moved o m) (folded_same text L u.text m.position f.edge.inside f.edge.whole))

  pub end_3 : n.kind ≡ 3 → (m : ParserState) (y : Ending ParserState) → y ≡ Pest.moved (Position.match_range text n.a n.b m.position) m → y ≡ At m
  end_3 q m y z =
      by_kind 3 (Grammar.match_range n.a n.b) (λ k. Pest.moved (Pest.match_range text n.a n.b k.position) k)
      (tree 3 q (λ x. Grammar.match_range x.a x.b) (tree_kind ns literals w l i.low i.high 3 (kind_of ns literals w l i n e 3 q)))
      (λ room f k. refl) m y
      (z ∙ ap (λ (o : Option ℕ). Pest.moved o m) (range_same text n.a n.b m.position))

  pub end_4 : n.kind ≡ 4 → (m : ParserState) → Fit g m → (y : Ending ParserState) → y ≡ Pest.moved (Position.skip text n.a m.position) m → y ≡ At m
  end_4 q m f y z =
      by_kind 4 (Grammar.skip n.a) (λ k. Pest.moved (Pest.skip text n.a k.position) k)
      (tree 4 q (λ x. Grammar.skip x.a) (tree_kind ns literals w l i.low i.high 4 (kind_of ns literals w l i n e 4 q))) (λ room h k. refl) m y
      (z ∙ ap (λ (o : Option ℕ). Pest.moved o m) (skip_same text n.a m.position f.edge.inside))

  pub end_5 : n.kind ≡ 5 → (m : ParserState) (y : Ending ParserState) → y ≡ (if Position.at_end text m.position then Ok m else Err m) → y ≡ At m
  end_5 q m y z =
      by_kind 5 Grammar.end_of_input (λ k. if Pest.at_end text k.position then Ok k else Err k)
      (tree_kind ns literals w l i.low i.high 5 (kind_of ns literals w l i n e 5 q)) (λ room f k. refl) m y z

  pub end_15 : n.kind ≡ 15 → (m : ParserState) (y : Ending ParserState) → y ≡ Pest.stack_pop text true l m.stack.cache m → y ≡ At m
  end_15 q m y z =
      by_kind 15 (Grammar.stack_pop l) (λ k. Pest.stack_pop text true l k.stack.cache k)
      (tree_kind ns literals w l i.low i.high 15 (kind_of ns literals w l i n e 15 q)) (λ room f k. refl) m y z

  -- x and y: the two ends as the code passes them on.
  pub end_16 : n.kind ≡ 16 → (v : Ends) → v ≡ ends_of (node_at ns l) → (x y : ℤ) → x ≡ v.start → y ≡ v.end
      → (m : ParserState) (r : Ending ParserState)
      → r ≡ Pest.stack_match_peek_slice text x (if ltb n.c 2 then Some y else None) (eqb n.c 1 || eqb n.c 3) m → r ≡ At m
  end_16 q v u x y p o m r z =
      by_kind 16 (Grammar.stack_match_peek_slice x (if ltb n.c 2 then Some y else None) (eqb n.c 1 || eqb n.c 3))
      (λ k. Pest.stack_match_peek_slice text x (if ltb n.c 2 then Some y else None) (eqb n.c 1 || eqb n.c 3) k)
      (tree_kind ns literals w l i.low i.high 16 (kind_of ns literals w l i n e 16 q)
      ∙ ap₂ (λ (j : Ends) (c : ℕ). Grammar.stack_match_peek_slice j.start (if ltb c 2 then Some j.end else None) (eqb c 1 || eqb c 3))
      (sym u) (ap (λ (j : Read.Line). j.c) (sym e))
      ∙ ap₂ (λ (j k : ℤ). Grammar.stack_match_peek_slice j (if ltb n.c 2 then Some k else None) (eqb n.c 1 || eqb n.c 3)) (sym p) (sym o))
      (λ room f k. refl) m r z

  pub end_17 : n.kind ≡ 17 → (m : ParserState) (y : Ending ParserState) → y ≡ Pest.stack_match_pop text true l m.stack.cache m.position m → y ≡ At m
  end_17 q m y z =
      by_kind 17 (Grammar.stack_match_pop l) (λ k. Pest.stack_match_pop text true l k.stack.cache k.position k)
      (tree_kind ns literals w l i.low i.high 17 (kind_of ns literals w l i n e 17 q)) (λ room f k. refl) m y z

  pub end_19 : n.kind ≡ 19 → (m : ParserState) (y : Ending ParserState) → y ≡ Pest.tag_node n.a m → y ≡ At m
  end_19 q m y z =
      by_kind 19 (Grammar.tag_node n.a) (λ k. Pest.tag_node n.a k)
      (tree 19 q (λ x. Grammar.tag_node x.a) (tree_kind ns literals w l i.low i.high 19 (kind_of ns literals w l i n e 19 q)))
      (λ room f k. refl) m y z
