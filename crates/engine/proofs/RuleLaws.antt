-- The leaves of `rule`: each law is one arm of the code, over pest's own state. The last part puts the leaves together again: `rule` is
-- its start, its body, and its end.
use Rattle.std.specs.Prelude.{Option, None, Some, if◌then◌else◌}
use mathlib.Core.Path.{◌≡◌, refl, sym, ap, ◌∙◌}
use mathlib.Core.Bool.{Bool, true, false, ◌&&◌, ◌||◌, not}
use mathlib.Core.List.{List, [], ◌∷◌, ◌++◌}
use Prim.Native.Nat.{ℕ, ◌+◌, ◌*◌, ◌≤◌, ◌<◌}
use native.Mathlib.Omega.{arith}
use lib.ListN.{length, get_or, take, set, length-set}
use lib.Seq.{set_out, take_all}
use lib.Dec.{ltb, leb}
use borrow.Author.Tests.{le-leb, lt-leb}
use Rattle.matching.specs.declared.position.BytePosition.{BytePosition}
use Rattle.matching.specs.declared.position.TokenIndex.{TokenIndex}
use Rattle.reading.specs.declared.parser_state.Cause.TheVariants.{TokensFull, AttemptsFull}
use Rattle.engine.specs.declared.attempts.Noted.{Noted}
use Rattle.engine.specs.declared.attempts.Attempts.{Attempts}
use Rattle.engine.specs.declared.stack.Stack.{Stack}
use Rattle.engine.specs.Fields as Declared
use Rattle.engine.specs.declared.parser_state.ParserState as DeclaredState
use Rattle.reading.specs.Ending.{Ending, Ok, Stop, on_ok, stop_if, is_negative, is_atomic}
use Rattle.reading.specs.Reading.{Setting, most_attempts}
use Rattle.reading.specs.Pest as Pest
use Rattle.reading.specs.Pest.{ParserState, QueueableToken, Start, End, produces, with_end, set_queue, push_token, tracking, close_rule}
use Rattle.reading.specs.Pest.{tag_last, tag_node}
use Rattle.engine.specs.Areas.{Outside, view, queue_of, stack_of, span, checkpoint, positives_at, lengths_at, entries_at, popped_at}
use Rattle.engine.specs.Attempts.{Tried, tried, tried_of, with_tried, noted, tracked, within}
use Rattle.engine.specs.Tokens.{Paired, Pushed}
use Rattle.engine.specs.Rule.{starting, dropped}
use Rattle.engine.proofs.Regions.{outside_refl, same_below, same_above, pairs_same}
use Rattle.engine.proofs.TokenLaws.{queue_length}
use Rattle.engine.proofs.AttemptLaws.{track_is}

-- ── produces ──
-- ── a test that is decided ──
module _ {A : Type 0} (b : Bool) (x y : A) where
  when_true : b ≡ true → y ≡ elim b [ false ↦ x | true ↦ y ]
  when_true e = ap (λ (c : Bool). elim c [ false ↦ x | true ↦ y ]) (sym e)

  when_false : b ≡ false → x ≡ elim b [ false ↦ x | true ↦ y ]
  when_false e = ap (λ (c : Bool). elim c [ false ↦ x | true ↦ y ]) (sym e)

-- ── push ──
module _ (g : Setting) (line : ℕ) (t : QueueableToken) (m : ParserState) where
  push_ok : length m.queue < g.capacity → Ok (set_queue (m.queue ++ (t ∷ [])) m) ≡ push_token g true line t m (λ s. Ok s)
  push_ok l = when_false (leb g.capacity (length m.queue)) (Ok (set_queue (m.queue ++ (t ∷ [])) m)) (Stop (Pest.halted (TokensFull line) m))
      (lt-leb g.capacity (length m.queue) l)

  push_full : g.capacity ≤ length m.queue → Stop (Pest.halted (TokensFull line) m) ≡ push_token g true line t m (λ s. Ok s)
  push_full l = when_true (leb g.capacity (length m.queue)) (Ok (set_queue (m.queue ++ (t ∷ [])) m)) (Stop (Pest.halted (TokensFull line) m))
      (le-leb g.capacity (length m.queue) l)

-- ── start ──
module _ (g : Setting) (line : ℕ) (m : ParserState) where
  pub start_ok : (q : List QueueableToken) → produces m ≡ true → length m.queue < g.capacity → q ≡ m.queue ++ (Start 0 m.position ∷ [])
      → Ok (set_queue q m) ≡ starting g line m
  start_ok q t l e =
      ap (λ (x : List QueueableToken). Ok (set_queue x m)) e ∙ push_ok g line (Start 0 m.position) m l
      ∙ when_true (produces m) (Ok m) (push_token g true line (Start 0 m.position) m (λ s. Ok s)) t

  pub start_full : produces m ≡ true → g.capacity ≤ length m.queue → Stop (Pest.halted (TokensFull line) m) ≡ starting g line m
  start_full t l = push_full g line (Start 0 m.position) m l
      ∙ when_true (produces m) (Ok m) (push_token g true line (Start 0 m.position) m (λ s. Ok s)) t

  pub start_off : produces m ≡ false → Ok m ≡ starting g line m
  start_off f = when_false (produces m) (Ok m) (push_token g true line (Start 0 m.position) m (λ s. Ok s)) f

-- What was read of the state, put for what the state has.
pub pushed_at : (a b : List ℕ) (s : DeclaredState.ParserState) (n : TokenIndex) (p : BytePosition) (f : ℕ → QueueableToken) → n ≡ s.queue
    → p ≡ s.position → Pushed a n.0 (f p.0) b
    → Pushed a s.queue.0 (f s.position.0) b
pushed_at a b s n p f e h q = rw (e, h) at q

-- ── close ──
-- the queue whose Start at index i has its partner
abbrev partnered : ℕ → List QueueableToken → List QueueableToken
partnered i q = set q i (with_end (length q) (get_or q i (Start 0 0)))

module _ (g : Setting) (line r i : ℕ) (m : ParserState) where
  same_size : length (partnered i m.queue) ≡ length m.queue
  same_size = length-set m.queue i (with_end (length m.queue) (get_or m.queue i (Start 0 0)))

  pub close_ok : (q₁ q : List QueueableToken) → produces m ≡ true → length m.queue < g.capacity → q₁ ≡ partnered i m.queue
      → q ≡ q₁ ++ (End i r 0 m.position ∷ [])
      → Ok (set_queue q m) ≡ close_rule g true line r i m
  close_ok q₁ q t l e h =
      ap (λ (x : List QueueableToken). Ok (set_queue x m)) (h ∙ ap (λ (x : List QueueableToken). x ++ (End i r 0 m.position ∷ [])) e)
      ∙ push_ok g line (End i r 0 m.position) (set_queue (partnered i m.queue) m) (omega (arith, same_size))
      ∙ when_true (produces m) (Ok m) (push_token g true line (End i r 0 m.position) (set_queue (partnered i m.queue) m) (λ s. Ok s)) t

  pub close_full : produces m ≡ true → g.capacity ≤ length m.queue → Stop (Pest.halted (TokensFull line) m) ≡ close_rule g true line r i m
  close_full t l =
      push_full g line (End i r 0 m.position) (set_queue (partnered i m.queue) m) (omega (arith, same_size))
      ∙ when_true (produces m) (Ok m) (push_token g true line (End i r 0 m.position) (set_queue (partnered i m.queue) m) (λ s. Ok s)) t

  pub close_off : produces m ≡ false → Ok m ≡ close_rule g true line r i m
  close_off f = when_false (produces m) (Ok m) (push_token g true line (End i r 0 m.position) (set_queue (partnered i m.queue) m) (λ s. Ok s)) f

-- the capacity against how many tokens there are, n, which stands in the state as q
module _ (a : List ℕ) (n q : TokenIndex) (same : n ≡ q) (capacity c : ℕ) (e : c ≡ capacity) where
  pub room_yes : n.0 < capacity → length (queue_of a q.0) < c
  room_yes h = let k : n.0 ≡ q.0 = ap (λ (x : TokenIndex). x.0) same in omega (arith, queue_length a q.0)

  pub room_no : capacity ≤ n.0 → c ≤ length (queue_of a q.0)
  room_no h = let k : n.0 ≡ q.0 = ap (λ (x : TokenIndex). x.0) same in omega (arith, queue_length a q.0)

-- What a push asks.
-- One more token than were read.
pub one_more : (tokens scratch : List ℕ) (s t : DeclaredState.ParserState) (n : TokenIndex) → n ≡ s.queue
    → t ≡ Declared.set_queue (record { 0 = n.0 + 1 }) s
    → view tokens scratch t ≡ set_queue (queue_of tokens (s.queue.0 + 1)) (view tokens scratch s)
one_more tokens scratch s t n e h = rw (h, e)

-- ── the partner of a Start among n tokens ──
module _ (a b : List ℕ) (i n : ℕ) where
  pub paired_out : n ≤ i → Paired a i n a
  paired_out l = record { queue = sym (set_out (queue_of a n) i _ (omega (arith, queue_length a n))); others = outside_refl a }

pub paired_queue : (a b : List ℕ) (i n : ℕ) → Paired a i n b → queue_of b n ≡ partnered i (queue_of a n)
paired_queue a b i n p = p.queue ∙ ap (λ (k : ℕ). set (queue_of a n) i (with_end k (get_or (queue_of a n) i (Start 0 0)))) (sym (queue_length a n))

pub paired_at : (a b : List ℕ) (s : DeclaredState.ParserState) (n : TokenIndex) (i : ℕ) → n ≡ s.queue → Paired a i n.0 b → Paired a i s.queue.0 b
paired_at a b s n i e h = rw e at h

-- ── drop ──
module _ (i : ℕ) (m : ParserState) where
  pub drop_some : (q : List QueueableToken) → produces m ≡ true → q ≡ take i m.queue → set_queue q m ≡ dropped i m
  drop_some q t e = rw t (ap (λ (x : List QueueableToken). set_queue x m) e)

  pub drop_none : produces m ≡ true → length m.queue ≤ i → m ≡ dropped i m
  drop_none t l = rw t (ap (λ (x : List QueueableToken). set_queue x m) (sym (take_all i m.queue l)))

  pub drop_off : produces m ≡ false → m ≡ dropped i m
  drop_off f = rw f

-- ── tag ──
-- the queue's length as it was read, put for what the state has
-- ── track ──
-- Tracking leaves the stack as it was.
pub stack_kept : (a b : List ℕ) (s : Stack) → s.height ≤ 128 → s.popped ≤ 1024 → Outside positives_at lengths_at a b → stack_of b s ≡ stack_of a s
stack_kept a b s h p o = sym (λ i. record {
  cache = pairs_same span a b entries_at s.height (same_below entries_at (entries_at + s.height * 2) (omega arith) o) i;
  popped = pairs_same span a b popped_at s.popped (same_below popped_at (popped_at + s.popped * 2) (omega arith) o) i;
  lengths = pairs_same checkpoint a b lengths_at s.checkpoints (same_above lengths_at (lengths_at + s.checkpoints * 2) (omega arith) o) i;
})

-- The state with other attempts, seen from the area as tracking left it.
pub kept_view : (tokens a b : List ℕ) (s : DeclaredState.ParserState) (u : Attempts) → s.stack.height ≤ 128 → s.stack.popped ≤ 1024
    → Outside positives_at lengths_at a b
    → view tokens b (Declared.set_attempts u s)
    ≡ with_tried (tried b u) (view tokens a s)
kept_view tokens a b s u h p o = ap (λ (v : Pest.Stack). Pest.set_stack v (with_tried (tried b u) (view tokens a s))) (stack_kept a b s.stack h p o)

-- The state with the attempts that were kept, or a stop.
abbrev pub told : (line : ℕ) → Option Tried → ParserState → Ending ParserState
told line (Some t) m = Ok (with_tried t m)
told line None m = Stop (Pest.halted (AttemptsFull line) m)

-- `tracking`, once it is due
abbrev now_tracked : (line : ℕ) → (before after : ParserState) → Ending ParserState
now_tracked line m n =
    stop_if (ltb most_attempts (length n.pos_attempts) || ltb most_attempts (length n.neg_attempts)) (Pest.halted (AttemptsFull line) m) (λ _. Ok n)

told_within : (line : ℕ) (t : Tried) (m : ParserState) → told line (within t) m ≡ now_tracked line m (with_tried t m)
told_within line t m = go (ltb most_attempts (length t.positive) || ltb most_attempts (length t.negative))
  where
    go : (b : Bool) → told line (if b then None else Some t) m ≡ stop_if b (Pest.halted (AttemptsFull line) m) (λ _. Ok (with_tried t m))
    go true = refl
    go false = refl

module _ (g : Setting) (due : Bool) (line r p : ℕ) (n : Noted) (m : ParserState) where
  abbrev after : ParserState
  after = Pest.track r p n.positives n.negatives n.total m

  -- w is what tracking gave under the lookahead that `neg` tells of, and v is that answer seen again.
  pub track_told : (v w : Option Tried) (neg : Bool) → v ≡ w → w ≡ within (tracked r p n neg (tried_of m)) → neg ≡ is_negative m.lookahead
      → due ≡ true → is_atomic m.atomicity ≡ false
      → told line v m ≡ tracking g true due line r p n.positives n.negatives n.total m (λ t. Ok t)
  track_told v w neg q e h d f =
      ap (λ (x : Option Tried). told line x m) (q ∙ e ∙ ap (λ (b : Bool). within (tracked r p n b (tried_of m))) h)
      ∙ told_within line (tracked r p n (is_negative m.lookahead) (tried_of m)) m
      ∙ ap (now_tracked line m) (sym (track_is r p n m f))
      ∙ when_true (due && not (is_atomic m.atomicity)) (Ok m) (now_tracked line m after) (rw (d, f))

-- The attempts t that were read, put for those of the state, u.
module _ (a : List ℕ) (t u : Attempts) (same : t ≡ u) where
  pub track_read : (r p : ℕ) (n : Noted) (neg : Bool) (w : Option Tried) → w ≡ within (tracked r p n neg (tried a t))
      → w ≡ within (tracked r p n neg (tried a u))
  track_read r p n neg w h = rw same at h

-- ── `rule` is its leaves ──
module _ (g : Setting) (line r : ℕ) where
  -- The start, then the body and the end of it: `f` is the body, and what is noted is noted before the start.
  pub rule_is : (f : ParserState → Ending ParserState) (m : ParserState)
      → Pest.rule g true line r f m
      ≡ on_ok (starting g line m) (λ n. Pest.rule_end g true line r m.position (length m.queue) (noted m.position (tried_of m)).positives
      (noted m.position (tried_of m)).negatives (noted m.position (tried_of m)).total (f n))
  rule_is f m = go (produces m) (leb g.capacity (length m.queue))
    where
      k : ParserState → Ending ParserState
      k n = Pest.rule_end g true line r m.position (length m.queue) (noted m.position (tried_of m)).positives
          (noted m.position (tried_of m)).negatives (noted m.position (tried_of m)).total (f n)

      pushed : ParserState
      pushed = set_queue (m.queue ++ (Start 0 m.position ∷ [])) m

      go : (b c : Bool) → elim b [ false ↦ k m | true ↦ stop_if c (Pest.halted (TokensFull line) m) (λ _. k pushed) ]
          ≡ on_ok (elim b [ false ↦ Ok m | true ↦ stop_if c (Pest.halted (TokensFull line) m) (λ _. Ok pushed) ]) k
      go true true = refl
      go true false = refl
      go false true = refl
      go false false = refl

  pub tracking_then : (due : Bool) (p pi ni prev : ℕ) (m : ParserState) (k : ParserState → Ending ParserState)
      → tracking g true due line r p pi ni prev m k ≡ on_ok (tracking g true due line r p pi ni prev m (λ t. Ok t)) k
  tracking_then due p pi ni prev m k = go (due && not (is_atomic m.atomicity))
      (ltb most_attempts (length n.pos_attempts) || ltb most_attempts (length n.neg_attempts))
    where
      n : ParserState
      n = Pest.track r p pi ni prev m

      go : (b c : Bool) → elim b [ false ↦ k m | true ↦ stop_if c (Pest.halted (AttemptsFull line) m) (λ _. k n) ]
          ≡ on_ok (elim b [ false ↦ Ok m | true ↦ stop_if c (Pest.halted (AttemptsFull line) m) (λ _. Ok n) ]) k
      go true true = refl
      go true false = refl
      go false true = refl
      go false false = refl
