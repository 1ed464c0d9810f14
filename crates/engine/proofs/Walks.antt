-- The two loops of a line's evaluation as records: the outer one walks by right sides, each answering for the line that it began with;
-- the inner one climbs a spine (Climbs has its equations) and keeps the state fit for the next right side.
use Rattle.std.specs.Prelude.{if◌then◌else◌}
use mathlib.Core.Path.{◌≡◌, refl, sym, ap, subst, ◌∙◌}
use mathlib.Core.Bool.{Bool, true, false}
use mathlib.Core.Logic.{inl, inr}
use mathlib.Core.List.{List}
use Prim.Native.Nat.{ℕ, ◌+◌, ◌-◌, ◌*◌, ◌≤◌, ◌<◌}
use borrow.Author.Tests.{eqb-true, eqb-false}
use native.Mathlib.Decide.{dec_le}
use native.Mathlib.Omega.{arith}
use lib.Dec.{eqb}
use lib.IntN.{ℤ}
use lib.ListN.{length}
use Rattle.engine.specs.declared.node.Line as Read
use Rattle.engine.specs.declared.spine.Spine.{Spine}
use Rattle.reading.specs.Ending.{Ending, Ok, Err, Stop}
use Rattle.reading.specs.Grammar.{node_at, kind_at, line_count, tree_at}
use Rattle.reading.specs.Reading.{Setting}
use Rattle.reading.specs.Pest.{ParserState}
use Rattle.engine.specs.Lines.{line_of}
use Rattle.engine.specs.Spine.{left_of, below, Fork, spine_line, Forks, Slopes, Spined}
use Rattle.reading.specs.Fit.{Fit}
use Rattle.engine.specs.Evaluation.{setting_of, Ready, Line, evaluated}
use Rattle.reading.proofs.Accepted.{Accepted, Fits, facts, tree_kind}
use Rattle.engine.proofs.Spines.{spine_first, spine_next}
use Rattle.engine.proofs.Climbs as Climbs
use Rattle.engine.proofs.Climbs.{Onward, go, stay, going, onto, right_of, Forked}
use Rattle.engine.proofs.Steps.{LeftFrom, tests, ready_on, kept}

pub forked : (ns : List ℤ) (literals : List ℕ) → Accepted ns literals → Forked ns literals
forked ns literals w = record {
  whole = w.fours;
  lower = lower;
  and_tree = λ l lo hi q. tree_kind ns literals w l lo hi 6 q;
  or_tree = λ l lo hi q. tree_kind ns literals w l lo hi 7 q;
}
  where
    lower : (l : ℕ) → 1 ≤ l → l ≤ line_count ns → Fork (kind_at ns l) → Climbs.Lower l (left_of ns l) × Climbs.Lower l (right_of ns l)
    lower l lo hi (inl q) = let f : Fits ns literals l = facts ns literals w l lo hi in (((f.a₆ q).low, (f.a₆ q).high), ((f.b₆ q).low, (f.b₆ q).high))
    lower l lo hi (inr q) = let f : Fits ns literals l = facts ns literals w l lo hi in (((f.a₇ q).low, (f.a₇ q).high), ((f.b₇ q).low, (f.b₇ q).high))

-- The outer loop: from `at` and the state m it comes to what the line it began with comes to.
pub record Walking (ns : List ℤ) (literals text : List ℕ) (capacity d line : ℕ) (tokens₀ scratch₀ : List ℕ) (m₀ : ParserState)
    (tokens scratch : List ℕ) (at : ℕ) (m : ParserState) : Type 0 where
  pub ready : Ready ns literals text tokens scratch capacity d m
  pub here : Line ns at
  pub upto : at ≤ line
  pub tokens_same : length tokens ≡ length tokens₀
  pub scratch_same : length scratch ≡ length scratch₀
  pub runs : evaluated ns literals text capacity d (tree_at ns literals at) m ≡ evaluated ns literals text capacity d (tree_at ns literals line) m₀

-- Whether a line is a fork, and what is then below it.
data Below (ns : List ℤ) (l : ℕ) : Type 0 where
  left : Fork (kind_at ns l) → below ns l ≡ left_of ns l → Below ns l
  itself : (Fork (kind_at ns l) → ⊥) → below ns l ≡ l → Below ns l

is_fork : (ns : List ℤ) (l : ℕ) → Below ns l
is_fork ns l = six (eqb (kind_at ns l) 6) refl
  where
    seven : (b : Bool) → eqb (kind_at ns l) 7 ≡ b → eqb (kind_at ns l) 6 ≡ false → Below ns l
    seven true e n = left (inr (eqb-true (kind_at ns l) 7 e)) (rw (n, e))
    seven false e n = itself (none_of n e) (rw (n, e))
      where
        none_of : eqb (kind_at ns l) 6 ≡ false → eqb (kind_at ns l) 7 ≡ false → Fork (kind_at ns l) → ⊥
        none_of a b (inl q) = eqb-false (kind_at ns l) 6 a q
        none_of a b (inr q) = eqb-false (kind_at ns l) 7 b q

    six : (b : Bool) → eqb (kind_at ns l) 6 ≡ b → Below ns l
    six true e = left (inl (eqb-true (kind_at ns l) 6 e)) (rw e)
    six false e = seven (eqb (kind_at ns l) 7) refl e

below_fork : (ns : List ℤ) (l : ℕ) → Fork (kind_at ns l) → below ns l ≡ left_of ns l
below_fork ns l k = go (is_fork ns l)
  where
    go : Below ns l → below ns l ≡ left_of ns l
    go (left _ e) = e
    go (itself n e) = absurd (n k)

-- The state of an ending may go on at the same depth.
abbrev Able : Setting → (d : ℕ) → ParserState → Type 0
Able g d n = Fit g n × (length n.stack.lengths + d ≤ 1024)

abbrev pub Fine : Setting → (d : ℕ) → Ending ParserState → Type 0
Fine g d (Ok n) = Able g d n
Fine g d (Err n) = Able g d n
Fine g d (Stop c) = Unit {0}

abbrev FineOn : Setting → (d : ℕ) → Onward → Type 0
FineOn g d (go m) = Able g d m
FineOn g d (stay x) = Fine g d x

fine_or : (g : Setting) (d : ℕ) (b : Bool) (n : ParserState) (x : Ending ParserState) → Able g d n → Fine g d x
    → FineOn g d (if b then go n else stay x)
fine_or g d true n x h f = h
fine_or g d false n x h f = f

fine_going : (g : Setting) (d k : ℕ) (x : Ending ParserState) → Fine g d x → FineOn g d (going k x)
unfolding going
fine_going g d k (Ok n) h = fine_or g d (eqb k 6) n (Ok n) h h
fine_going g d k (Err n) h = fine_or g d (eqb k 7) n (Err n) h h
fine_going g d k (Stop c) h = tt

fine_left : (g : Setting) (d : ℕ) (m : ParserState) (x : Ending ParserState) → length m.stack.lengths + d ≤ 1024 → LeftFrom g m x → Fine g d x
fine_left g d m (Ok n) h w = (w.fit, omega (arith, w.level))
fine_left g d m (Err n) h w = (w.fit, omega (arith, w.level))
fine_left g d m (Stop c) h w = tt

-- The loop up a spine: x₀ is the ending of the line `count` steps below the top, and x that of the line i steps below it, from any state.
pub record Climbing (ns : List ℤ) (literals text : List ℕ) (capacity d top count : ℕ) (tokens₀ scratch₀ : List ℕ) (x₀ : Ending ParserState)
    (tokens scratch : List ℕ) (x : Ending ParserState) (i : ℕ) : Type 0 where
  pub tokens_same : length tokens ≡ length tokens₀
  pub scratch_same : length scratch ≡ length scratch₀
  pub low : 1 ≤ count → 1 ≤ i
  pub upto : i ≤ count
  pub fine : Fine (setting_of ns literals text capacity) d x
  pub runs : (m : ParserState) → x₀ ≡ evaluated ns literals text capacity d (tree_at ns literals (spine_line ns top count)) m
      → x ≡ evaluated ns literals text capacity d (tree_at ns literals (spine_line ns top i)) m

module _ (ns : List ℤ) (literals text : List ℕ) (capacity d : ℕ) where
  abbrev g : Setting
  g = setting_of ns literals text capacity

  abbrev at_line : ℕ → ParserState → Ending ParserState
  at_line l m = evaluated ns literals text capacity d (tree_at ns literals l) m

  fine_line : (tokens scratch : List ℕ) (l : ℕ) (m : ParserState) (x : Ending ParserState)
      → Ready ns literals text tokens scratch capacity d m → x ≡ at_line l m → Fine g d x
  fine_line tokens scratch l m x r e = fine_left g d m x r.deep (kept ns literals text capacity tokens scratch d l m x r e)

  module _ {tokensₒ scratchₒ : List ℕ} {top : ℕ} {m : ParserState} (r : Ready ns literals text tokensₒ scratchₒ capacity d m)
      (here : Line ns top) where
    abbrev fk : Forked ns literals
    fk = forked ns literals (tests ns literals text capacity r)

    pub slopes : Slopes ns top
    slopes = Climbs.slopes ns literals text capacity d fk top here.low here.high

    module _ {p : Spine} (w : Spined ns top p) where
      pub low_upto : p.line ≤ top
      low_upto = (Climbs.low_in ns literals text capacity d fk top here.low here.high p w).1

      pub low_line : Line ns p.line
      low_line = record {
        low = (Climbs.low_in ns literals text capacity d fk top here.low here.high p w).0;
        high = omega (arith, low_upto, here.high);
      }

      pub top_last : p.count ≡ 0 → Fork (kind_at ns top) → ⊥
      top_last = Climbs.top_last ns literals text capacity d fk top here.low here.high p w

      pub forks_below : (i : ℕ) → i ≤ p.count → Forks ns top i
      forks_below = Climbs.forks_below ns literals text capacity d fk top here.low here.high p w

      pub line_whole : (i : ℕ) {l : ℕ} → i ≤ p.count → l ≡ spine_line ns top i → (1 ≤ l) × (l * 4 ≤ length ns)
      line_whole i {l} = Climbs.line_whole ns literals text capacity d fk top here.low here.high p w i l

      pub first_climb : {tokens scratch : List ℕ} {x : Ending ParserState} → x ≡ at_line p.line m
          → Climbing ns literals text capacity d top p.count tokens scratch x tokens scratch x p.count
      first_climb {x = x} f = record {
        tokens_same = refl;
        scratch_same = refl;
        low = λ h. h;
        upto = omega arith;
        fine = fine_line tokensₒ scratchₒ p.line m x r f;
        runs = λ _ e. e;
      }

      some_below : Fork (kind_at ns top) → 1 ≤ p.count
      some_below fork = go (dec_le 1 p.count)
        where
          go : Dec (1 ≤ p.count) → 1 ≤ p.count
          go (yes h) = h
          go (no h) = absurd (top_last (omega arith) fork)

      none_below : (Fork (kind_at ns top) → ⊥) → p.count ≡ 0
      none_below f = go (dec_le 1 p.count)
        where
          go : Dec (1 ≤ p.count) → p.count ≡ 0
          go (yes h) = absurd (f (subst (λ (l : ℕ). Fork (kind_at ns l)) (sym (spine_first ns top)) (w.forks 0 (omega arith))))
          go (no h) = omega arith

      module _ {tokens₀ scratch₀ : List ℕ} {x₀ : Ending ParserState} (ut : length tokens₀ ≡ length tokensₒ) (us : length scratch₀ ≡ length scratchₒ)
          {tokens scratch : List ℕ} {x : Ending ParserState} {i : ℕ}
          (c : Climbing ns literals text capacity d top p.count tokens₀ scratch₀ x₀ tokens scratch x i) where
        -- The state from which a right side is evaluated.
        pub go_ready : (k : ℕ) {t : ParserState} → go t ≡ going k x → Ready ns literals text tokens scratch capacity d t
        go_ready k {t} f =
            let v : Able g d t = subst (FineOn g d) (sym f) (fine_going g d k x c.fine) in
            ready_on ns literals text capacity r (c.tokens_same ∙ ut) (c.scratch_same ∙ us) v.0 v.1

        module _ (j : ℕ) (above : j + 1 ≡ i) (o : 1 ≤ j) {l : ℕ} (q : l ≡ spine_line ns top j) {n : Read.Line} (h : n ≡ line_of (node_at ns l)) where
          -- The right side is lower than the spine's line, which is lower than the top.
          pub climb_in : (1 ≤ n.b) × (n.b + 1 < top)
          climb_in =
              let v = Climbs.right_lower ns literals text capacity d fk top here.low here.high p w j l (omega (arith, above, c.upto)) q n h in
              (v.0.0, omega (arith, v.0.1, v.1))

          pub climb_line : Line ns n.b
          climb_line = let v = climb_in in record { low = v.0; high = omega (arith, v.1, here.high) }

          climbs : (y : Ending ParserState) → y ≡ onto (at_line n.b) (going n.kind x) → (m' : ParserState)
              → x₀ ≡ at_line (spine_line ns top p.count) m' → y ≡ at_line (spine_line ns top j) m'
          climbs y f m' e =
              let back : i - 1 ≡ j = omega (arith, above) in
              Climbs.climb_runs ns literals text capacity d fk top here.low here.high p w m' i x (omega (arith, above, o)) c.upto
              (c.runs m' e) l (q ∙ ap (spine_line ns top) (sym back)) n h y f
              ∙ ap (λ (k : ℕ). at_line (spine_line ns top k) m') back

          pub climb_go : {t : ParserState} → go t ≡ going n.kind x → {y : Ending ParserState} → y ≡ at_line n.b t
              → {tokens' scratch' : List ℕ} → length tokens' ≡ length tokens → length scratch' ≡ length scratch
              → Climbing ns literals text capacity d top p.count tokens₀ scratch₀ x₀ tokens' scratch' y j
          climb_go {t} f {y} v a b = record {
            tokens_same = a ∙ c.tokens_same;
            scratch_same = b ∙ c.scratch_same;
            low = λ _. o;
            upto = omega (arith, above, c.upto);
            fine = fine_line tokens scratch n.b t y (go_ready n.kind f) v;
            runs = climbs y (v ∙ ap (onto (at_line n.b)) f);
          }

          pub climb_stay : stay x ≡ going n.kind x → Climbing ns literals text capacity d top p.count tokens₀ scratch₀ x₀ tokens scratch x j
          climb_stay f = record {
            tokens_same = c.tokens_same;
            scratch_same = c.scratch_same;
            low = λ _. o;
            upto = omega (arith, above, c.upto);
            fine = c.fine;
            runs = climbs x (ap (onto (at_line n.b)) f);
          }

        -- The line one step below a fork is its left side; another line is its own leftmost line.
        pub climbed : i ≤ 1 → x₀ ≡ at_line p.line m → x ≡ at_line (below ns top) m
        climbed o f = go (is_fork ns top)
          where
            from : (j : ℕ) → i ≡ j → x ≡ at_line (spine_line ns top j) m
            from j e = c.runs m (Climbs.low_is ns literals text capacity d fk top here.low here.high p w x₀ m f)
                ∙ ap (λ (j : ℕ). at_line (spine_line ns top j) m) e

            go : Below ns top → x ≡ at_line (below ns top) m
            go (left k e) =
                from (0 + 1) (omega (arith, c.low (some_below k), o))
                ∙ ap (λ (l : ℕ). at_line l m) (spine_next ns top 0 ∙ ap (left_of ns) (sym (spine_first ns top)) ∙ sym e)
            go (itself k e) = from 0 (omega (arith, c.upto, none_below k)) ∙ ap (λ (l : ℕ). at_line l m) (sym (spine_first ns top) ∙ sym e)

    -- The top, from its left side's ending x.
    module _ (fork : Fork (kind_at ns top)) {x : Ending ParserState} (g₀ : x ≡ at_line (below ns top) m) {n : Read.Line}
        (h : n ≡ line_of (node_at ns top)) where
      f₀ : x ≡ at_line (left_of ns top) m
      f₀ = g₀ ∙ ap (λ (l : ℕ). at_line l m) (below_fork ns top fork)

      pub top_in : (1 ≤ n.b) × (n.b < top)
      top_in = subst (λ (k : Read.Line). Climbs.Lower top k.b) (sym h) (fk.lower top here.low here.high fork).1

      top_is : (y : Ending ParserState) → y ≡ onto (at_line n.b) (going n.kind x) → y ≡ at_line top m
      top_is y f = Climbs.top_runs ns literals text capacity d fk top here.low here.high fork x m f₀ n h y f

      pub top_go : {tokens scratch : List ℕ} → length tokens ≡ length tokensₒ → length scratch ≡ length scratchₒ
          → {line : ℕ} {tokensₛ scratchₛ : List ℕ} {mₛ : ParserState}
          → Walking ns literals text capacity d line tokensₛ scratchₛ mₛ tokensₒ scratchₒ top m → {t : ParserState} → go t ≡ going n.kind x
          → Walking ns literals text capacity d line tokensₛ scratchₛ mₛ tokens scratch n.b t
      top_go ut us v {t} f =
          let b = top_in in
          let a : Able g d t = subst (FineOn g d) (sym f) (fine_going g d n.kind x (fine_line tokensₒ scratchₒ (left_of ns top) m x r f₀)) in
          record {
            ready = ready_on ns literals text capacity r ut us a.0 a.1;
            here = record { low = b.0; high = omega (arith, b.1, here.high) };
            upto = omega (arith, b.1, v.upto);
            tokens_same = ut ∙ v.tokens_same;
            scratch_same = us ∙ v.scratch_same;
            runs = top_is (at_line n.b t) (ap (onto (at_line n.b)) f) ∙ v.runs;
          }

    -- An ending that stays is the top's, whether it is a fork or not.
    pub top_stay : {x : Ending ParserState} → x ≡ at_line (below ns top) m → {n : Read.Line} → n ≡ line_of (node_at ns top)
        → stay x ≡ going n.kind x → x ≡ at_line top m
    top_stay {x} f {n} h q = go (is_fork ns top)
      where
        go : Below ns top → x ≡ at_line top m
        go (left k e) = Climbs.top_runs ns literals text capacity d fk top here.low here.high k x m (f
            ∙ ap (λ (l : ℕ). at_line l m) e) n h x (ap (onto (at_line n.b)) q)
        go (itself k e) = f ∙ ap (λ (l : ℕ). at_line l m) e
