-- A leaf's match is its line's evaluation, for every state at its position. A fork whose left side is a leaf then goes on at its right
-- side or is done, and the evaluation of the line that the walk began with goes along.
use Rattle.std.specs.Prelude.{if◌then◌else◌}
use mathlib.Core.Path.{◌≡◌, refl, sym, ap, subst, ◌∙◌}
use mathlib.Core.Bool.{Bool, true, false}
use mathlib.Core.Logic.{inl, inr}
use mathlib.Core.List.{List}
use Rattle.std.specs.Prelude.{Option, None, Some}
use Prim.Native.Nat.{ℕ, ◌≤◌, ◌<◌}
use native.Mathlib.Omega.{arith}
use lib.IntN.{ℤ}
use lib.ListN.{take, drop}
use borrow.Author.Tests.{eq-eqb, ne_eqb}
use Rattle.matching.specs.Position as Position
use Rattle.matching.specs.Answers.{matched}
use Rattle.matching.specs.declared.position.BytePosition.{BytePosition}
use Rattle.engine.specs.declared.node.Line as Read
use Rattle.engine.specs.declared.parser_state.ParserState as Code
use Rattle.reading.specs.Ending.{Ending, Ok, Err}
use Rattle.reading.specs.Fit.{Fit}
use Rattle.reading.specs.Grammar.{node_at, kind_at, tree_at}
use Rattle.reading.specs.Pest as Pest
use Rattle.reading.specs.Pest.{ParserState, set_position}
use Rattle.engine.specs.Areas.{view, view_end}
use Rattle.engine.specs.Evaluation.{setting_of, Line, evaluated, evaluates}
use Rattle.engine.specs.declared.leaves.Halt.{Halt}
use Rattle.engine.specs.declared.leaves.Halt.TheVariants as Halt-of
use Rattle.engine.specs.declared.setting.Setting.{Setting as Given}
use Rattle.engine.specs.Leaves.{WalkedFrom, Onto, Walked, answer}
use Rattle.engine.specs.Lines.{line_of}
use Rattle.engine.specs.Spine.{Fork, ending_of}
use Rattle.engine.specs.StackMatch.{match_of}
use Rattle.reading.proofs.Accepted.{Accepted, Fits, facts}
use Rattle.engine.proofs.Climbs as Climbs
use Rattle.engine.proofs.Climbs.{go, stay, going, onto, Forked, Lower}
use Rattle.engine.proofs.EndLaws.{moved_by}
use Rattle.engine.proofs.Steps.{kept_by, ready_on}
use Rattle.engine.proofs.TerminalSteps.{end_1, end_2, end_3, end_4, end_5}
use Rattle.engine.proofs.Walks.{Walking, forked}

-- ── A leaf ──
five : (k : ℕ) → 1 ≤ k → k ≤ 5 → (k ≡ 1 → ⊥) → (k ≡ 2 → ⊥) → (k ≡ 3 → ⊥) → (k ≡ 4 → ⊥) → k ≡ 5
five k lo hi a b c d = omega arith

at_end_moves : (b : Bool) (m : ParserState) → Pest.moved (if b then Some m.position else None) m ≡ (if b then Ok m else Err m)
at_end_moves true m = refl
at_end_moves false m = refl

module _ (ns : List ℤ) (literals text : List ℕ) (capacity d : ℕ) (w : Accepted ns literals) (l : ℕ) (i : Line ns l) (n : Read.Line)
    (e : n ≡ line_of (node_at ns l)) where
  abbrev At : ParserState → Ending ParserState
  At m = evaluated ns literals text capacity d (tree_at ns literals l) m

  abbrev L : List ℕ
  L = take n.b (drop n.a literals)

  module _ (m : ParserState) (p : ℕ) (x : m.position ≡ p) where
    pub leaf_1 : n.kind ≡ 1 → (y : Ending ParserState) → y ≡ Pest.moved (Position.match_string text L p) m → y ≡ At m
    leaf_1 q y z = end_1 ns literals text capacity d w l i n e q m y (z ∙ ap (λ (k : ℕ). Pest.moved (Position.match_string text L k) m) (sym x))

    pub leaf_2 : n.kind ≡ 2 → Fit (setting_of ns literals text capacity) m → (y : Ending ParserState)
        → y ≡ Pest.moved (Position.match_insensitive text L p) m → y ≡ At m
    leaf_2 q f y z = end_2 ns literals text capacity d w l i n e q m f y (z
        ∙ ap (λ (k : ℕ). Pest.moved (Position.match_insensitive text L k) m) (sym x))

    pub leaf_3 : n.kind ≡ 3 → (r : Option BytePosition) → r ≡ matched (Position.match_range text n.a n.b p) → Pest.moved (match_of r) m ≡ At m
    leaf_3 q r z =
        end_3 ns literals text capacity d w l i n e q m (Pest.moved (match_of r) m)
        (moved_by (Position.match_range text n.a n.b p) r m z ∙ ap (λ (k : ℕ). Pest.moved (Position.match_range text n.a n.b k) m) (sym x))

    pub leaf_4 : n.kind ≡ 4 → Fit (setting_of ns literals text capacity) m → (r : Option BytePosition)
        → r ≡ matched (Position.skip text n.a p) → Pest.moved (match_of r) m ≡ At m
    leaf_4 q f r z =
        end_4 ns literals text capacity d w l i n e q m f (Pest.moved (match_of r) m)
        (moved_by (Position.skip text n.a p) r m z ∙ ap (λ (k : ℕ). Pest.moved (Position.skip text n.a k) m) (sym x))

    pub leaf_5 : n.kind ≡ 5 → (r : Option BytePosition) → match_of r ≡ (if Position.at_end text p then Some p else None)
        → Pest.moved (match_of r) m ≡ At m
    leaf_5 q r z =
        end_5 ns literals text capacity d w l i n e q m (Pest.moved (match_of r) m)
        (ap (λ (o : Option ℕ). Pest.moved o m) (z ∙ ap (λ (k : ℕ). if Position.at_end text k then Some k else None) (sym x))
        ∙ at_end_moves (Position.at_end text m.position) m)

  -- The kind that is left; `rest` as the code's match gives it.
  pub fifth : kind_at ns l ≤ 5 → (((Unit {0} × (n.kind ≡ 1 → ⊥)) × (n.kind ≡ 2 → ⊥)) × (n.kind ≡ 3 → ⊥)) × (n.kind ≡ 4 → ⊥) → n.kind ≡ 5
  fifth h r =
      let p : n.kind ≡ kind_at ns l = ap (λ (x : Read.Line). x.kind) e in
      let f : Fits ns literals l = facts ns literals w l i.low i.high in
      five n.kind (subst (λ (k : ℕ). 1 ≤ k) (sym p) f.known_low) (subst (λ (k : ℕ). k ≤ 5) (sym p) h) r.0.0.0.1 r.0.0.1 r.0.1 r.1

-- The kind as read is the line's.
pub kind_low : (ns : List ℤ) (l : ℕ) (n : Read.Line) → n ≡ line_of (node_at ns l) → n.kind ≤ 5 → kind_at ns l ≤ 5
kind_low ns l n e h = subst (λ (k : ℕ). k ≤ 5) (ap (λ (x : Read.Line). x.kind) e) h

-- ── The walk ──
same_place : (m : ParserState) (p : ℕ) → m.position ≡ p → set_position p m ≡ m
same_place m p x = ap (λ (k : ℕ). set_position k m) (sym x)

pub first_onto : (ns : List ℤ) (literals text : List ℕ) (capacity d line : ℕ) (m : ParserState) (p : ℕ) → Line ns line
    → Fit (setting_of ns literals text capacity) m → m.position ≡ p → Onto ns literals text capacity d line m line p
first_onto ns literals text capacity d line m p i f x = record {
  here = i;
  upto = omega arith;
  fit = subst (Fit (setting_of ns literals text capacity)) (sym (same_place m p x)) f;
  runs = ap (evaluated ns literals text capacity d (tree_at ns literals line)) (same_place m p x);
}

-- A walk from where another one stands.
pub walked_on : (ns : List ℤ) (literals text : List ℕ) (capacity d line : ℕ) (m : ParserState) (at p : ℕ)
    → Onto ns literals text capacity d line m at p
    → (q : BytePosition) (h : Halt) → Walked ns literals text capacity d at (set_position p m) q h → Walked ns literals text capacity d line m q h
walked_on ns literals text capacity d line m at p o q (Halt-of.At l) w =
    record { here = w.here; upto = omega (arith, w.upto, o.upto); fit = w.fit; runs = w.runs ∙ o.runs }
walked_on ns literals text capacity d line m at p o q (Halt-of.Done good) w = w ∙ o.runs

-- What a match says of a state's ending.
pub last_ok : (r : Option BytePosition) (m : ParserState) (q : BytePosition) (x : Ending ParserState) → Pest.moved (match_of r) m ≡ x
    → r ≡ Some q → Ok (set_position q.0 m) ≡ x
last_ok r m q x h e = ap (λ (y : Option BytePosition). Pest.moved (match_of y) m) (sym e) ∙ h

pub last_err : (r : Option BytePosition) (m : ParserState) (p : ℕ) (x : Ending ParserState) → m.position ≡ p
    → Pest.moved (match_of r) m ≡ x → r ≡ None → Err (set_position p m) ≡ x
last_err r m p x z h e = ap Err (same_place m p z) ∙ ap (λ (y : Option BytePosition). Pest.moved (match_of y) m) (sym e) ∙ h

go_ok : (k : ℕ) → k ≡ 6 → (m : ParserState) → go m ≡ going k (Ok m)
unfolding going
go_ok k e m = simp (eq-eqb k 6 e)

stay_ok : (k : ℕ) → (k ≡ 6 → ⊥) → (m : ParserState) → stay (Ok m) ≡ going k (Ok m)
unfolding going
stay_ok k e m = simp (ne_eqb k 6 e)

stay_err : (k : ℕ) → k ≡ 6 → (m : ParserState) → stay (Err m) ≡ going k (Err m)
unfolding going
stay_err k e m = simp (ne_eqb k 7 (λ q. omega arith))

go_err : (k : ℕ) → Fork k → (k ≡ 6 → ⊥) → (m : ParserState) → go m ≡ going k (Err m)
unfolding going
go_err k (inl e) n m = absurd (n e)
go_err k (inr e) n m = simp (eq-eqb k 7 e)

-- The walk's fork at `at`, as read.
module _ (ns : List ℤ) (literals : List ℕ) (w : Accepted ns literals) (at : ℕ) (i : Line ns at) (n : Read.Line)
    (e : n ≡ line_of (node_at ns at)) (f : Fork n.kind) where
  abbrev fk : Forked ns literals
  fk = forked ns literals w

  a_fork : Fork (kind_at ns at)
  a_fork = subst Fork (ap (λ (x : Read.Line). x.kind) e) f

  pub right_in : (1 ≤ n.b) × (n.b < at)
  right_in = subst (λ (x : Read.Line). Lower at x.b) (sym e) (fk.lower at i.low i.high a_fork).1

  pub left_line : Line ns n.a
  left_line =
      let v : Lower at n.a = subst (λ (x : Read.Line). Lower at x.a) (sym e) (fk.lower at i.low i.high a_fork).0 in
      record { low = v.0; high = omega (arith, v.1, i.high) }

  pub right_line : Line ns n.b
  right_line = let v = right_in in record { low = v.0; high = omega (arith, v.1, i.high) }

  module _ (text : List ℕ) (capacity d line : ℕ) (m : ParserState) (p : ℕ) (o : Onto ns literals text capacity d line m at p) where
    abbrev at_line : ℕ → ParserState → Ending ParserState
    at_line l k = evaluated ns literals text capacity d (tree_at ns literals l) k

    ends : (x : Ending ParserState) → x ≡ at_line n.a (set_position p m) → onto (at_line n.b) (going n.kind x) ≡ at_line line m
    ends x h =
        Climbs.step_of ns literals text capacity d fk at n x e
        ∙ ap (Climbs.step ns literals text capacity d fk at) (h ∙ ap (λ (y : Read.Line). at_line y.a (set_position p m)) e)
        ∙ Climbs.fork_eval ns literals text capacity d fk at (set_position p m) i.low i.high a_fork
        ∙ o.runs

    pub on_right : n.kind ≡ 6 → (q : ℕ) → Ok (set_position q m) ≡ at_line n.a (set_position p m) → Onto ns literals text capacity d line m n.b q
    on_right k q h = record {
      here = right_line;
      upto = omega (arith, right_in.1, o.upto);
      fit = (kept_by ns literals text capacity w d n.a (set_position p m) (Ok (set_position q m)) o.fit h).fit;
      runs = ap (onto (at_line n.b)) (go_ok n.kind k (set_position q m)) ∙ ends (Ok (set_position q m)) h;
    }

    pub over_right : (n.kind ≡ 6 → ⊥) → Err (set_position p m) ≡ at_line n.a (set_position p m) → Onto ns literals text capacity d line m n.b p
    over_right k h = record {
      here = right_line;
      upto = omega (arith, right_in.1, o.upto);
      fit = o.fit;
      runs = ap (onto (at_line n.b)) (go_err n.kind f k (set_position p m)) ∙ ends (Err (set_position p m)) h;
    }

    pub done_ok : (n.kind ≡ 6 → ⊥) → (q : ℕ) → Ok (set_position q m) ≡ at_line n.a (set_position p m) → Ok (set_position q m) ≡ at_line line m
    done_ok k q h = ap (onto (at_line n.b)) (stay_ok n.kind k (set_position q m)) ∙ ends (Ok (set_position q m)) h

    pub done_err : n.kind ≡ 6 → Err (set_position p m) ≡ at_line n.a (set_position p m) → Err (set_position p m) ≡ at_line line m
    done_err k h = ap (onto (at_line n.b)) (stay_err n.kind k (set_position p m)) ∙ ends (Err (set_position p m)) h

-- A walk's end in the evaluation's loop.
pub walk_on : (ns : List ℤ) (literals text : List ℕ) (capacity d line : ℕ) (tokens₀ scratch₀ : List ℕ) (m₀ : ParserState)
    (tokens scratch : List ℕ) (at : ℕ) (m : ParserState)
    → Walking ns literals text capacity d line tokens₀ scratch₀ m₀ tokens scratch at m → (to p : ℕ) → Onto ns literals text capacity d at m to p
    → Walking ns literals text capacity d line tokens₀ scratch₀ m₀ tokens scratch to (set_position p m)
walk_on ns literals text capacity d line tokens₀ scratch₀ m₀ tokens scratch at m v to p o = record {
  ready = ready_on ns literals text capacity v.ready refl refl o.fit v.ready.deep;
  here = o.here;
  upto = omega (arith, o.upto, v.upto);
  tokens_same = v.tokens_same;
  scratch_same = v.scratch_same;
  runs = o.runs ∙ v.runs;
}

pub answers : (a b : List ℕ) (s : Code.ParserState) (good : Bool) → view_end a b s (ending_of good) ≡ answer good (view a b s)
answers a b s true = refl
answers a b s false = refl

-- Where the walk from the line `at` and the state m ended: done, or at a line that it leaves to others.
module _ (g : Given) (d at : ℕ) (m : ParserState) (r : BytePosition × Halt) (w : WalkedFrom g d at m r) where
  pub at_done : (good : Bool) → r.1 ≡ Halt-of.Done good → answer good (set_position r.0.0 m) ≡ evaluates g d at m
  at_done good e = subst (Walked g.nodes.now g.literals.now g.text.now g.room d at m r.0) e w

  pub at_fork : (l : ℕ) → r.1 ≡ Halt-of.At l → {line : ℕ} {tokens₀ scratch₀ : List ℕ} {m₀ : ParserState} {tokens scratch : List ℕ}
      → Walking g.nodes.now g.literals.now g.text.now g.room d line tokens₀ scratch₀ m₀ tokens scratch at m
      → Walking g.nodes.now g.literals.now g.text.now g.room d line tokens₀ scratch₀ m₀ tokens scratch l (set_position r.0.0 m)
  at_fork l e v = walk_on _ _ _ _ _ _ _ _ _ _ _ _ _ v l r.0.0 (subst (Walked g.nodes.now g.literals.now g.text.now g.room d at m r.0) e w)

  pub no_higher : (l : ℕ) → r.1 ≡ Halt-of.At l → l ≤ at
  no_higher l e = (subst (Walked g.nodes.now g.literals.now g.text.now g.room d at m r.0) e w).upto
