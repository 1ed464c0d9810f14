-- The climb from the leftmost line of a spine: what each line makes of its left side's ending is what its own evaluation comes to.
use Rattle.std.specs.Prelude.{if◌then◌else◌}
use mathlib.Core.Path.{◌≡◌, refl, sym, ap, subst, ◌∙◌}
use mathlib.Core.Logic.{inl, inr}
use mathlib.Core.Bool.{true, false, false≢true}
use mathlib.Core.List.{List}
use Prim.Native.Nat.{ℕ, zero, suc, ◌+◌, ◌-◌, ◌*◌, ◌≤◌, ◌<◌}
use native.Mathlib.Omega.{arith}
use lib.Dec.{eqb}
use lib.IntN.{ℤ}
use lib.ListN.{length}
use borrow.Author.Tests.{eq-eqb, ne_eqb, eqb-true}
use Rattle.engine.specs.declared.node.Line.{Line}
use Rattle.engine.specs.declared.spine.Spine.{Spine}
use Rattle.engine.specs.declared.parser_state.ParserState as Code
use Rattle.reading.specs.declared.parser_state.Ending as Coded
use Rattle.reading.specs.declared.parser_state.Ending.TheVariants as Coded-of
use Rattle.reading.specs.declared.parser_state.Cause.{Cause}
use Rattle.reading.specs.Ending.{Ending, Ok, Err, Stop, on_ok, on_err}
use Rattle.reading.specs.Grammar.{Exp, and_then, or_else, natural, node_at, kind_at, line_count, tree_at}
use Rattle.reading.specs.Pest as Pest
use Rattle.reading.specs.Pest.{ParserState}
use Rattle.engine.specs.Areas.{view, view_end}
use Rattle.engine.specs.Lines.{line_of}
use Rattle.engine.specs.Spine.{left_of, Fork, spine_line, Forks, Slopes, Spined, goes}
use Rattle.engine.specs.Evaluation.{setting_of, evaluated}
use Rattle.engine.proofs.Spines.{spine_first, spine_next, spine_in, spine_whole}

-- ── What follows a fork's left side ──
-- The right side is evaluated from a state, or the ending stays.
pub data Onward : Type 0 where
  go : ParserState → Onward
  stay : Ending ParserState → Onward

unfoldable pub going : (kind : ℕ) → Ending ParserState → Onward
going k (Ok m) = if eqb k 6 then go m else stay (Ok m)
going k (Err m) = if eqb k 7 then go m else stay (Err m)
going k (Stop c) = stay (Stop c)

abbrev pub onto : (ParserState → Ending ParserState) → Onward → Ending ParserState
onto f (go m) = f m
onto f (stay x) = x

going_and : (f : ParserState → Ending ParserState) (k : ℕ) → k ≡ 6 → (x : Ending ParserState) → onto f (going k x) ≡ on_ok x (λ m. f m)
unfolding going
going_and f k e (Ok m) = simp (eq-eqb k 6 e)
going_and f k e (Err m) = simp (ne_eqb k 7 (λ q. omega arith))
going_and f k e (Stop c) = refl

going_or : (f : ParserState → Ending ParserState) (k : ℕ) → k ≡ 7 → (x : Ending ParserState) → onto f (going k x) ≡ on_err x (λ m. f m)
unfolding going
going_or f k e (Ok m) = simp (ne_eqb k 6 (λ q. omega arith))
going_or f k e (Err m) = simp (eq-eqb k 7 e)
going_or f k e (Stop c) = refl

-- The code's test, by the ending that it is asked of.
pub goes_ok : (k : ℕ) (e : Coded.Ending) → e ≡ Coded-of.Ok → eqb k 6 ≡ goes k e
unfolding goes
goes_ok k e h = rw h

pub goes_err : (k : ℕ) (e : Coded.Ending) → e ≡ Coded-of.Err → eqb k 7 ≡ goes k e
unfolding goes
goes_err k e h = rw h

pub goes_stop : (k : ℕ) (e : Coded.Ending) (c : Cause) → e ≡ Coded-of.Stop c → false ≡ goes k e
unfolding goes
goes_stop k e c h = rw h

pub goes_yes : (a b : List ℕ) (s : Code.ParserState) (k : ℕ) (e : Coded.Ending) → goes k e ≡ true → go (view a b s) ≡ going k (view_end a b s e)
unfolding going goes
goes_yes a b s k Coded-of.Ok h = simp h
goes_yes a b s k Coded-of.Err h = simp h
goes_yes a b s k (Coded-of.Stop c) h = absurd (false≢true h)

pub goes_no : (a b : List ℕ) (s : Code.ParserState) (k : ℕ) (e : Coded.Ending) → goes k e ≡ false
    → stay (view_end a b s e) ≡ going k (view_end a b s e)
unfolding going goes
goes_no a b s k Coded-of.Ok h = simp h
goes_no a b s k Coded-of.Err h = simp h
goes_no a b s k (Coded-of.Stop c) h = refl

pub goes_fork : (k : ℕ) (e : Coded.Ending) → goes k e ≡ true → Fork k
unfolding goes
goes_fork k Coded-of.Ok h = inl (eqb-true k 6 h)
goes_fork k Coded-of.Err h = inr (eqb-true k 7 h)
goes_fork k (Coded-of.Stop c) h = absurd (false≢true h)

-- ── The lines of an accepted grammar that are forks ──
abbrev pub right_of : List ℤ → (line : ℕ) → ℕ
right_of ns l = natural (node_at ns l).b

abbrev pub Lower : ℕ → ℕ → Type 0
Lower l a = (1 ≤ a) × (a < l)

pub record Forked (ns : List ℤ) (literals : List ℕ) : Type 0 where
  pub whole : line_count ns * 4 ≡ length ns
  pub lower : (l : ℕ) → 1 ≤ l → l ≤ line_count ns → Fork (kind_at ns l) → Lower l (left_of ns l) × Lower l (right_of ns l)
  pub and_tree : (l : ℕ) → 1 ≤ l → l ≤ line_count ns → kind_at ns l ≡ 6
      → tree_at ns literals l ≡ and_then (tree_at ns literals (left_of ns l)) (tree_at ns literals (right_of ns l))
  pub or_tree : (l : ℕ) → 1 ≤ l → l ≤ line_count ns → kind_at ns l ≡ 7
      → tree_at ns literals l ≡ or_else (tree_at ns literals (left_of ns l)) (tree_at ns literals (right_of ns l))

module _ (ns : List ℤ) (literals text : List ℕ) (capacity d : ℕ) (k : Forked ns literals) where
  abbrev pub at_line : (line : ℕ) → ParserState → Ending ParserState
  at_line l m = evaluated ns literals text capacity d (tree_at ns literals l) m

  eval_and : (x y : Exp) (m : ParserState) → evaluated ns literals text capacity d (and_then x y) m
      ≡ on_ok (evaluated ns literals text capacity d x m) (λ n. evaluated ns literals text capacity d y n)
  unfolding evaluated
  eval_and x y m = go d
    where
      go : (d : ℕ) → Pest.eval (setting_of ns literals text capacity) true d (and_then x y) m
          ≡ on_ok (Pest.eval (setting_of ns literals text capacity) true d x m) (λ n. Pest.eval (setting_of ns literals text capacity) true d y n)
      go zero = refl
      go (suc d) = refl

  eval_or : (x y : Exp) (m : ParserState) → evaluated ns literals text capacity d (or_else x y) m
      ≡ on_err (evaluated ns literals text capacity d x m) (λ n. evaluated ns literals text capacity d y n)
  unfolding evaluated
  eval_or x y m = go d
    where
      go : (d : ℕ) → Pest.eval (setting_of ns literals text capacity) true d (or_else x y) m
          ≡ on_err (Pest.eval (setting_of ns literals text capacity) true d x m) (λ n. Pest.eval (setting_of ns literals text capacity) true d y n)
      go zero = refl
      go (suc d) = refl

  -- A fork's right side, after an ending of its left side.
  unfoldable pub step : (line : ℕ) → Ending ParserState → Ending ParserState
  step l x = onto (at_line (right_of ns l)) (going (kind_at ns l) x)

  pub step_of : (l : ℕ) (n : Line) (x : Ending ParserState) → n ≡ line_of (node_at ns l) → onto (at_line n.b) (going n.kind x) ≡ step l x
  unfolding step
  step_of l n x e = ap (λ (m : Line). onto (at_line m.b) (going m.kind x)) e

  pub fork_eval : (l : ℕ) (m : ParserState) → 1 ≤ l → l ≤ line_count ns → Fork (kind_at ns l) → step l (at_line (left_of ns l) m) ≡ at_line l m
  unfolding step
  fork_eval l m lo hi (inl e) =
      going_and (at_line (right_of ns l)) (kind_at ns l) e (at_line (left_of ns l) m)
      ∙ sym (ap (λ (x : Exp). evaluated ns literals text capacity d x m) (k.and_tree l lo hi e)
      ∙ eval_and (tree_at ns literals (left_of ns l)) (tree_at ns literals (right_of ns l)) m)
  fork_eval l m lo hi (inr e) =
      going_or (at_line (right_of ns l)) (kind_at ns l) e (at_line (left_of ns l) m)
      ∙ sym (ap (λ (x : Exp). evaluated ns literals text capacity d x m) (k.or_tree l lo hi e)
      ∙ eval_or (tree_at ns literals (left_of ns l)) (tree_at ns literals (right_of ns l)) m)

  module _ (top : ℕ) (lo : 1 ≤ top) (hi : top ≤ line_count ns) where
    pub slopes : Slopes ns top
    slopes = record { whole = k.whole; falls = λ l a b f. (k.lower l a b f).0; low = lo; high = hi }

    module _ (p : Spine) (w : Spined ns top p) where
      pub low_in : (1 ≤ p.line) × (p.line ≤ top)
      low_in =
          let v = spine_in ns top slopes p.count w.forks in
          let e : p.line ≡ spine_line ns top p.count = w.place in
          (rw e v.0, omega (arith, v.1))

      low_none : p.count ≡ 0 → p.line ≡ top
      low_none z = w.place ∙ ap (spine_line ns top) z ∙ sym (spine_first ns top)

      pub top_last : p.count ≡ 0 → Fork (kind_at ns top) → ⊥
      top_last z f = w.last (subst (λ (l : ℕ). Fork (kind_at ns l)) (sym (low_none z)) f)

      pub forks_below : (i : ℕ) → i ≤ p.count → Forks ns top i
      forks_below i h j q = w.forks j (omega arith)

      pub line_whole : (i l : ℕ) → i ≤ p.count → l ≡ spine_line ns top i → (1 ≤ l) × (l * 4 ≤ length ns)
      line_whole i l h e = rw e (spine_whole ns top slopes i (forks_below i h))

      -- A line of the spine above its leftmost line: its right side is a lower line.
      pub right_lower : (i l : ℕ) → i < p.count → l ≡ spine_line ns top i → (n : Line) → n ≡ line_of (node_at ns l) → Lower l n.b × (l + i ≤ top)
      right_lower i l h q n e =
          let v : (1 ≤ l) × (l + i ≤ top) = rw q (spine_in ns top slopes i (forks_below i (omega arith))) in
          let f : Fork (kind_at ns l) = subst (λ (x : ℕ). Fork (kind_at ns x)) (sym q) (w.forks i h) in
          (subst (λ (m : Line). Lower l m.b) (sym e) (k.lower l v.0 (omega (arith, v.1)) f).1, v.1)

      -- The leftmost line's ending is that of the spine's last line.
      pub low_is : (x : Ending ParserState) (m : ParserState) → x ≡ at_line p.line m → x ≡ at_line (spine_line ns top p.count) m
      low_is x m f = f ∙ ap (λ (l : ℕ). at_line l m) w.place

      -- One line up: what its right side makes of its left side's ending.
      pub climb_runs : (m : ParserState) (i : ℕ) (x : Ending ParserState) → 1 ≤ i → i ≤ p.count → x ≡ at_line (spine_line ns top i) m
          → (l : ℕ) → l ≡ spine_line ns top (i - 1) → (n : Line) → n ≡ line_of (node_at ns l) → (y : Ending ParserState)
          → y ≡ onto (at_line n.b) (going n.kind x) → y ≡ at_line (spine_line ns top (i - 1)) m
      climb_runs m i x lo₁ hi₁ r l q n e y f =
          let v = spine_in ns top slopes (i - 1) (forks_below (i - 1) (omega arith)) in
          let u : i ≡ i - 1 + 1 = omega arith in
          f ∙ step_of l n x e ∙ ap (λ (z : ℕ). step z x) q
          ∙ ap (step (spine_line ns top (i - 1))) (r ∙ ap (λ (j : ℕ). at_line (spine_line ns top j) m) u
          ∙ ap (λ (l : ℕ). at_line l m) (spine_next ns top (i - 1)))
          ∙ fork_eval (spine_line ns top (i - 1)) m v.0 (omega (arith, v.1)) (w.forks (i - 1) (omega arith))

  -- The top line, from the ending of its left side.
  pub top_runs : (top : ℕ) → 1 ≤ top → top ≤ line_count ns → Fork (kind_at ns top) → (x : Ending ParserState) (m : ParserState)
      → x ≡ at_line (left_of ns top) m
      → (n : Line) → n ≡ line_of (node_at ns top) → (y : Ending ParserState) → y ≡ onto (at_line n.b) (going n.kind x) → y ≡ at_line top m
  top_runs top lo hi k x m r n e y f = f ∙ step_of top n x e ∙ ap (step top) r ∙ fork_eval top m lo hi k
