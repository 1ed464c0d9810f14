-- A state whose stack was changed in scratch: the rest of what the state stands for is as it was, so that each combinator over the stack
-- comes down to what the stack's function answered.
use Rattle.std.specs.Prelude.{if◌then◌else◌}
use Rattle.std.specs.Prelude.{option_map, Result}
use mathlib.Core.Path.{◌≡◌, refl, sym, ap, ap₂, ◌∙◌}
use mathlib.Core.Bool.{Bool, true, false, ◌||◌}
use mathlib.Core.List.{List, [], ◌∷◌}
use Rattle.std.specs.Prelude.{Option, None, Some}
use Prim.Native.Nat.{ℕ, ◌≤◌, ◌<◌}
use native.Mathlib.Omega.{arith}
use lib.IntN.{ℤ}
use lib.ListN.{length}
use lib.Dec.{ltb, leb, eqb}
use borrow.Author.Tests.{le-leb, lt-leb, le-ltb}
use Rattle.matching.specs.declared.span.Span as Code
use Rattle.matching.specs.Answers.{matched}
use Rattle.matching.specs.Position.{match_string, bytes_of}
use Rattle.matching.specs.declared.position.BytePosition.{BytePosition}
use Rattle.reading.specs.declared.parser_state.Ending as Code·ending
use Rattle.reading.specs.Pest as Pest
use Rattle.engine.specs.declared.stack.Stack.{Stack}
use Rattle.engine.specs.declared.stack.Unpopped.{Unpopped}
use Rattle.engine.specs.Fields as Fields
use Rattle.engine.specs.declared.parser_state.ParserState.{ParserState}
use Rattle.reading.specs.declared.parser_state.Cause.TheVariants.{EmptyStack, StackFull}
use Rattle.reading.specs.Ending.{Ending, Ok, Err, Stop, stop_if, Span}
use Rattle.reading.specs.Reading.{debt}
use Rattle.reading.specs.Pest.{set_position, set_stack, push, pop, as_str, moved, stack_pop, stack_match_pop, stack_match_peek_slice}
use Rattle.reading.specs.Pest.{normalize_index, normalize_end, slice, all_match}
use Rattle.engine.specs.Areas.{span, stack_of, halted_at, view, view_end}
use Rattle.engine.specs.Bounded.{Take, got, pushed, taken, taken_from, take_of}
use Rattle.reading.specs.Sound.{Sound}
use Rattle.engine.specs.StackReady.{StateReady, OutsideStack}
use Rattle.engine.specs.StackMatch.{match_of, match_end}
use Rattle.reading.specs.Reading.{index_in, end_in}
use Rattle.checks.proofs.IndexLaws.{pest_index, pest_end}
use Rattle.engine.proofs.Regions.{pairs_length, numbers_length}
use Rattle.engine.proofs.ReadyLaws.{positives_kept, negatives_kept, ready_of}
use Rattle.engine.proofs.Matching.{match_string_same}
use Rattle.engine.proofs.PopMatch.{Took, took}

-- What the cycle asks of a state, from what holds of pest's.
pub state_ready : (tokens a : List ℕ) (s : ParserState) → 4864 ≤ length a → Sound (view tokens a s).stack
    → length (view tokens a s).stack.lengths ≤ 1024
    → length (view tokens a s).pos_attempts ≤ 256 → length (view tokens a s).neg_attempts ≤ 256 → StateReady a s
state_ready tokens a s r v k p n = record {
  stack = ready_of a s.stack r v k;
  positives = omega (arith, numbers_length a 2304 s.attempts.positives);
  negatives = omega (arith, numbers_length a 2560 s.attempts.negatives);
}

-- pest's state m with other attempts and another stack
abbrev with_parts : Pest.ParserState → List ℕ → List ℕ → Pest.Stack → Pest.ParserState
with_parts m ps ns v = record m { pos_attempts = ps; neg_attempts = ns; stack = v }

module _ {a b : List ℕ} {s t : ParserState} (r : StateReady a s) (o : OutsideStack a b) where
  view_stack : (w : Stack) (v : Pest.Stack) → stack_of b w ≡ v → t ≡ Fields.set_stack w s → (tokens : List ℕ)
      → view tokens b t ≡ set_stack v (view tokens a s)
  view_stack w v e et tokens =
      ap (view tokens b) et
      ∙ (λ i. with_parts (view tokens a s) (positives_kept a b o s.attempts.positives r.positives i)
      (negatives_kept a b o s.attempts.negatives r.negatives i) (e i))

-- checkpoint, checkpoint_ok, restored
pub stack_changed : (f : Pest.Stack → Pest.Stack) {a b : List ℕ} {s t : ParserState} {v : Stack} (w : Stack) → StateReady a s → v ≡ s.stack
    → (stack_of b w ≡ f (stack_of a v)) × OutsideStack a b
    → t ≡ Fields.set_stack w s → ((tokens : List ℕ) → view tokens b t ≡ set_stack (f (stack_of a s.stack)) (view tokens a s)) × OutsideStack a b
stack_changed f {a} {b} {s} w r ev e et = (view_stack r e.1 w (f (stack_of a s.stack)) (e.0 ∙ ap (λ (u : Stack). f (stack_of a u)) ev) et, e.1)

-- ── moved ──
matched_back : (o : Option ℕ) → match_of (matched o) ≡ o
matched_back None = refl
matched_back (Some p) = refl

-- ── stack_push ──
module _ {a b : List ℕ} {s : ParserState} (r : StateReady a s) {v : Stack} (ev : v ≡ s.stack) {y : BytePosition} (ey : y ≡ s.position)
    (x : ℕ) (p : Option Stack) (e : (option_map (stack_of b) p ≡ pushed (span x y.0) (stack_of a v)) × OutsideStack a b) (line : ℕ) where
  abbrev after : Pest.Stack
  after = push (span x s.position.0) (stack_of a s.stack)

  said : option_map (stack_of b) p ≡ pushed (span x s.position.0) (stack_of a s.stack)
  said = e.0 ∙ ap₂ (λ (u : Stack) (n : BytePosition). pushed (span x n.0) (stack_of a u)) ev ey

  pub push_kept : (w : Stack) → p ≡ Some w → {t : ParserState} → t ≡ Fields.set_stack w s
      → ((tokens : List ℕ) → Ok (view tokens b t) ≡ stop_if (leb 128 (length (stack_of a s.stack).cache)) (halted_at (StackFull line) s) (λ _.
      Ok (set_stack after (view tokens a s)))) × OutsideStack a b
  push_kept w f {t} et = (λ tokens. go tokens (leb 128 (length (stack_of a s.stack).cache)) (rw f at said), e.1)
    where
      go : (tokens : List ℕ) (b₀ : Bool) → Some (stack_of b w) ≡ (if b₀ then None else Some after)
          → Ok (view tokens b t) ≡ stop_if b₀ (halted_at (StackFull line) s) (λ _. Ok (set_stack after (view tokens a s)))
      go tokens true q = let z : ◌≡◌ {A = ℕ} 0 1 = cc in absurd (omega arith)
      go tokens false q = let u : stack_of b w ≡ after = cc in ap Ok (view_stack r e.1 w after u et tokens)

-- ── stack_pop ──
module _ (text : List ℕ) (line : ℕ) (m : Pest.ParserState) where
  step_got : (w : Pest.Stack) (x : Span) → Took m.stack w x → moved (Pest.match_string text (as_str text x) m.position) (set_stack w m)
      ≡ stack_pop text true line m.stack.cache m
  step_got w x t =
      sym (ap (λ (c : List Span). stack_pop text true line c m) t.cache
      ∙ pick (ltb 1024 (debt (pop x w.cache m.stack).lengths)) (sym (ap (λ (u : Pest.Stack). ltb 1024 (debt u.lengths)) t.is)
      ∙ le-ltb 1024 (debt w.lengths) t.owing)
      ∙ ap (λ (u : Pest.Stack). moved (Pest.match_string text (as_str text x) m.position) (set_stack u m)) (sym t.is))
    where
      pick : (b : Bool) → b ≡ false
          → stop_if b (Pest.halted (StackFull line) m)
          (λ _. moved (Pest.match_string text (as_str text x) m.position) (set_stack (pop x w.cache m.stack) m))
          ≡ moved (Pest.match_string text (as_str text x) m.position) (set_stack (pop x w.cache m.stack) m)
      pick b e = rw e

  step_empty : Take.empty ≡ taken m.stack → Stop (Pest.halted (EmptyStack line) m) ≡ stack_pop text true line m.stack.cache m
  step_empty e = go m.stack.cache e
    where
      pick : (b : Bool) (v : Pest.Stack) (y : Span) → Take.empty ≡ (if b then Take.full else got v y) → ⊥
      pick true v y q = let z : ◌≡◌ {A = ℕ} 0 1 = cc in omega arith
      pick false v y q = let z : ◌≡◌ {A = ℕ} 0 1 = cc in omega arith

      go : (c : List Span) → Take.empty ≡ taken_from c m.stack → Stop (Pest.halted (EmptyStack line) m) ≡ stack_pop text true line c m
      go [] e = refl
      go (y ∷ rest) e = absurd (pick (ltb 1024 (debt (pop y rest m.stack).lengths)) (pop y rest m.stack) y e)

  step_full : Take.full ≡ taken m.stack → Stop (Pest.halted (StackFull line) m) ≡ stack_pop text true line m.stack.cache m
  step_full e = go m.stack.cache e
    where
      pick : (b : Bool) (v : Pest.Stack) (y : Span) (k : Unit {0} → Ending Pest.ParserState)
          → Take.full ≡ (if b then Take.full else got v y) → Stop (Pest.halted (StackFull line) m) ≡ stop_if b (Pest.halted (StackFull line) m) k
      pick true v y k q = refl
      pick false v y k q = let z : ◌≡◌ {A = ℕ} 0 1 = cc in absurd (omega arith)

      go : (c : List Span) → Take.full ≡ taken_from c m.stack → Stop (Pest.halted (StackFull line) m) ≡ stack_pop text true line c m
      go [] e = let z : ◌≡◌ {A = ℕ} 0 1 = cc in absurd (omega arith)
      go (y ∷ rest) e =
          pick (ltb 1024 (debt (pop y rest m.stack).lengths)) (pop y rest m.stack) y
          (λ _. moved (Pest.match_string text (as_str text y) m.position) (set_stack (pop y rest m.stack) m)) e

module _ (text : List ℕ) (line : ℕ) {a b : List ℕ} {s : ParserState} (r : StateReady a s) {v : Stack} (ev : v ≡ s.stack)
    (p : Result (Stack × Code.Span) Unpopped) (e : (take_of b p ≡ taken (stack_of a v)) × OutsideStack a b) where
  took_of : take_of b p ≡ taken (stack_of a s.stack)
  took_of = e.0 ∙ ap (λ (u : Stack). taken (stack_of a u)) ev

  pub pop_moved : (w : Stack) (x : Code.Span) → p ≡ Result.Ok (w, x) → {t : ParserState} → t ≡ Fields.set_stack w s → (bytes : List ℕ)
      → bytes ≡ bytes_of text x.start.0 x.end.0
      → {y : BytePosition} → y ≡ s.position → (q : Option BytePosition) → q ≡ matched (match_string text bytes y.0)
      → (end : ParserState) (z : Code·ending.Ending)
      → ((tokens scratch : List ℕ) → view_end tokens scratch end z ≡ moved (match_of q) (view tokens scratch t))
      → ((tokens : List ℕ) → view_end tokens b end z ≡ stack_pop text true line (stack_of a s.stack).cache (view tokens a s)) × OutsideStack a b
  pop_moved w x f et bytes eb {y} ey q eq end z ez = (
    λ tokens.
        ez tokens b
        ∙ ap₂ moved
        (ap match_of eq ∙ matched_back (match_string text bytes y.0) ∙ sym (match_string_same text bytes y.0)
        ∙ ap₂ (λ (l : List ℕ) (n : BytePosition). Pest.match_string text l n.0) eb ey)
        (view_stack r e.1 w (stack_of b w) refl et tokens)
        ∙ step_got text line (view tokens a s) (stack_of b w) (span x.start.0 x.end.0)
        (took (stack_of a s.stack) (stack_of b w) (span x.start.0 x.end.0) (sym (rw f at took_of))),
    e.1,
  )

-- ── stack_match_pop ──
module _ (text : List ℕ) (line : ℕ) {a b : List ℕ} {s : ParserState} (r : StateReady a s) {v : Stack} (ev : v ≡ s.stack) {y : BytePosition}
    (ey : y ≡ s.position) (p : Option (Stack × Option BytePosition))
    (e : ((l : ℕ) → (m : Pest.ParserState) →
    match_end b l m p ≡ stack_match_pop text true l (stack_of a v).cache y.0 (set_stack (stack_of a v) m)) × OutsideStack a b) where
  ends : (tokens : List ℕ) → match_end b line (view tokens a s) p ≡ stack_match_pop text true line (stack_of a s.stack).cache s.position.0
      (view tokens a s)
  ends tokens =
      e.0 line (view tokens a s)
      ∙ ap₂ (λ (u : Stack) (n : BytePosition).
      stack_match_pop text true line (stack_of a u).cache n.0 (set_stack (stack_of a u) (view tokens a s))) ev ey

  pub popped_some : (w : Stack) (q : Option BytePosition) → p ≡ Some (w, q) → {t : ParserState} → t ≡ Fields.set_stack w s
      → (end : ParserState) (z : Code·ending.Ending)
      → ((tokens scratch : List ℕ) → view_end tokens scratch end z ≡ moved (match_of q) (view tokens scratch t))
      → ((tokens : List ℕ) → view_end tokens b end z ≡ stack_match_pop text true line (stack_of a s.stack).cache s.position.0
      (view tokens a s)) × OutsideStack a b
  popped_some w q f et end z ez = (
    λ tokens.
        ez tokens b
        ∙ ap (moved (match_of q)) (view_stack r e.1 w (stack_of b w) refl et tokens)
        ∙ sym (ap (match_end b line (view tokens a s)) f)
        ∙ ends tokens,
    e.1,
  )

  pub popped_indebted : p ≡ None
      → ((tokens : List ℕ) → Stop (halted_at (StackFull line) s) ≡ stack_match_pop text true line (stack_of a s.stack).cache s.position.0
      (view tokens a s)) × OutsideStack a b
  popped_indebted f = (λ tokens. sym (ap (match_end b line (view tokens a s)) f) ∙ ends tokens, e.1)

-- ── stack_match_peek_slice ──
index_at : (o r : Option ℕ) (n : ℕ) → r ≡ o → r ≡ Some n → o ≡ Some n
index_at o r n e f = sym e ∙ f

index_out : (o r : Option ℕ) → r ≡ o → r ≡ None → o ≡ None
index_out o r e f = sym e ∙ f

module _ (text : List ℕ) (i : ℤ) (j : Option ℤ) (d : Bool) (m : Pest.ParserState) (h : ℕ) (eh : length m.stack.cache ≡ h) where
  abbrev sliced : Option ℕ → Option ℕ → Ending Pest.ParserState
  sliced o q =
      elim o [
        | None ↦ Err m
        | Some start ↦
            elim q [
              | None ↦ Err m
              | Some end ↦ elim (leb end start) [ true ↦ Ok m | false ↦ moved (all_match text (slice start end d m.stack.cache) m.position) m ]
            ]
      ]

  peek_is : (o q : Option ℕ) → normalize_index i h ≡ o → normalize_end j h ≡ q → stack_match_peek_slice text i j d m ≡ sliced o q
  peek_is o q e f = ap₂ sliced (ap (normalize_index i) eh ∙ e) (ap (normalize_end j) eh ∙ f)

  peek_start_out : normalize_index i h ≡ None → Err m ≡ stack_match_peek_slice text i j d m
  peek_start_out e = sym (peek_is None (normalize_end j h) e refl)

  module _ (start : ℕ) (e : normalize_index i h ≡ Some start) where
    peek_end_out : normalize_end j h ≡ None → Err m ≡ stack_match_peek_slice text i j d m
    peek_end_out f = sym (peek_is (Some start) None e f)

    module _ (end : ℕ) (f : normalize_end j h ≡ Some end) where
      peek_nothing : end ≤ start → Ok m ≡ stack_match_peek_slice text i j d m
      peek_nothing l = sym (peek_is (Some start) (Some end) e f ∙ go (leb end start) (le-leb end start l))
        where
          go : (b : Bool) → b ≡ true → ◌≡◌ {A = Ending Pest.ParserState} (elim b
              [ true ↦ Ok m | false ↦ moved (all_match text (slice start end d m.stack.cache) m.position) m ]) (Ok m)
          go b t = rw t

      peek_moved : start < end → (q : Option BytePosition) → q ≡ matched (all_match text (slice start end d m.stack.cache) m.position)
          → moved (match_of q) m ≡ stack_match_peek_slice text i j d m
      peek_moved l q eq =
          ap (λ (o : Option ℕ). moved o m) (ap match_of eq ∙ matched_back (all_match text (slice start end d m.stack.cache) m.position))
          ∙ sym (peek_is (Some start) (Some end) e f ∙ go (leb end start) (lt-leb end start l))
        where
          go : (b : Bool) → b ≡ false
              → ◌≡◌ {A = Ending Pest.ParserState} (elim b
              [ true ↦ Ok m | false ↦ moved (all_match text (slice start end d m.stack.cache) m.position) m ])
              (moved (all_match text (slice start end d m.stack.cache) m.position) m)
          go b t = rw t

-- Fields b and c of kind 16.
abbrev pub end_of : (c : ℕ) → (b : ℤ) → Option ℤ
end_of c b = if ltb c 2 then Some b else None

module _ (text a : List ℕ) (i b : ℤ) (c : ℕ) (s : ParserState) (v : Stack) (ev : v ≡ s.stack) {r : Option ℕ} (er : r ≡ index_in v.height i) where
  tall : (tokens : List ℕ) → length (view tokens a s).stack.cache ≡ v.height
  tall tokens = pairs_length span a 0 s.stack.height ∙ sym (ap (λ (u : Stack). u.height) ev)

  abbrev down : Bool
  down = eqb c 1 || eqb c 3

  pub start_out : r ≡ None → (tokens : List ℕ) → Err (view tokens a s) ≡ stack_match_peek_slice text i (end_of c b) down (view tokens a s)
  start_out f tokens = peek_start_out text i (end_of c b) down (view tokens a s) v.height (tall tokens)
      (index_out (normalize_index i v.height) r (pest_index i v.height er) f)

  module _ {start : ℕ} (f : r ≡ Some start) {r₂ : Option ℕ} (er₂ : r₂ ≡ end_in v.height (end_of c b)) where
    start_is : normalize_index i v.height ≡ Some start
    start_is = index_at (normalize_index i v.height) r start (pest_index i v.height er) f

    pub end_out : r₂ ≡ None → (tokens : List ℕ) → Err (view tokens a s) ≡ stack_match_peek_slice text i (end_of c b) down (view tokens a s)
    end_out g tokens =
        peek_end_out text i (end_of c b) down (view tokens a s) v.height (tall tokens) start start_is
        (index_out (normalize_end (end_of c b) v.height) r₂ (pest_end (end_of c b) v.height er₂) g)

    module _ {end : ℕ} (g : r₂ ≡ Some end) where
      end_is : normalize_end (end_of c b) v.height ≡ Some end
      end_is = index_at (normalize_end (end_of c b) v.height) r₂ end (pest_end (end_of c b) v.height er₂) g

      pub slice_empty : end ≤ start → (tokens : List ℕ) → Ok (view tokens a s) ≡ stack_match_peek_slice text i (end_of c b) down (view tokens a s)
      slice_empty l tokens = peek_nothing text i (end_of c b) down (view tokens a s) v.height (tall tokens) start start_is end end_is l

      pub slice_moved : start < end → (d : Bool) → d ≡ down → {y : BytePosition} → y ≡ s.position
          → (q : Option BytePosition) → q ≡ matched (all_match text (slice start end d (stack_of a v).cache) y.0)
          → (t : ParserState) (z : Code·ending.Ending)
          → ((tokens scratch : List ℕ) → view_end tokens scratch t z ≡ moved (match_of q) (view tokens scratch s))
          → (tokens : List ℕ) → view_end tokens a t z ≡ stack_match_peek_slice text i (end_of c b) down (view tokens a s)
      slice_moved l d ed {y} ey q eq t z ez tokens =
          ez tokens a
          ∙ peek_moved text i (end_of c b) down (view tokens a s) v.height (tall tokens) start start_is end end_is l q
          (eq
          ∙ ap (λ (o : Bool). matched (all_match text (slice start end o (stack_of a v).cache) y.0)) ed
          ∙ ap₂ (λ (u : Stack) (n : BytePosition). matched (all_match text (slice start end down (stack_of a u).cache) n.0)) ev ey)
