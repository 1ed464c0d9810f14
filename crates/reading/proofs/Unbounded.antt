-- pest itself, whose Vecs have no bounds, ends as pest with document 01's stops does wherever that does not stop: both go the same
-- way until the first stop.
use Rattle.std.specs.Prelude.{if◌then◌else◌}
use mathlib.Core.Path.{◌≡◌, refl}
use mathlib.Core.Bool.{Bool, true, false, ◌&&◌, ◌||◌, not}
use mathlib.Core.List.{List, [], ◌∷◌, ◌++◌}
use Rattle.std.specs.Prelude.{Option, None, Some}
use Prim.Native.Nat.{ℕ, zero, suc}
use lib.ListN.{length, take, set, get_or}
use lib.Dec.{eqb, ltb, leb}
use Rattle.reading.specs.declared.parser_state.Cause.{Cause}
use Rattle.reading.specs.Ending.{Halted, Ending, Ok, Err, Stop, on_ok, on_err, stop_if, Span, is_negative, is_atomic}
use Rattle.reading.specs.Grammar as Grammar
use Rattle.reading.specs.Grammar.{Exp, RuleLine}
use Rattle.reading.specs.Reading.{Setting, most_entries, most_debt, most_attempts, most_rounds, debt}
use Rattle.reading.specs.Pest as Pest
use Rattle.reading.specs.Pest.{ParserState, QueueableToken, Entered}

-- The bounded ending and the unbounded one: the same, unless the first is a stop.
pub data Freed : Ending ParserState → Ending ParserState → Type 0 where
  freed : (x : Ending ParserState) → Freed x x
  freed_stop : (c : Halted) (y : Ending ParserState) → Freed (Stop c) y

abbrev pub Frees : (ParserState → Ending ParserState) → (ParserState → Ending ParserState) → Type 0
Frees f h = (m : ParserState) → Freed (f m) (h m)

-- What a combinator makes of its body's ending, where a stop stays a stop.
record Strict (f : Ending ParserState → Ending ParserState) : Type 0 where
  stops : (c : Halted) → f (Stop c) ≡ Stop c

after : (f : Ending ParserState → Ending ParserState) → Strict f → (x y : Ending ParserState) → Freed x y → Freed (f x) (f y)
after f s x y (freed z) = freed (f z)
after f s x y (freed_stop c z) = rw (s.stops c) (freed_stop c (f z))

-- A bound that is not there.
unless_full : (b : Bool) (c : Halted) (x y : Ending ParserState) → Freed x y → Freed (stop_if b c (λ _. x)) y
unless_full true c x y h = freed_stop c y
unless_full false c x y h = h

then_ok : (f h : ParserState → Ending ParserState) → Frees f h → (x y : Ending ParserState) → Freed x y
    → Freed (on_ok x (λ n. f n)) (on_ok y (λ n. h n))
then_ok f h k x y (freed (Ok m)) = k m
then_ok f h k x y (freed (Err m)) = freed (Err m)
then_ok f h k x y (freed (Stop c)) = freed (Stop c)
then_ok f h k x y (freed_stop c z) = freed_stop c (on_ok z (λ n. h n))

then_err : (f h : ParserState → Ending ParserState) → Frees f h → (x y : Ending ParserState) → Freed x y
    → Freed (on_err x (λ n. f n)) (on_err y (λ n. h n))
then_err f h k x y (freed (Ok m)) = freed (Ok m)
then_err f h k x y (freed (Err m)) = k m
then_err f h k x y (freed (Stop c)) = freed (Stop c)
then_err f h k x y (freed_stop c z) = freed_stop c (on_err z (λ n. h n))

entering_frees : (room counts : Bool) (f h : ParserState → Ending ParserState) → Frees f h
    → Frees (λ m. Pest.check_limit room counts m f) (λ m. Pest.check_limit room counts m h)
entering_frees room counts f h k m = go (Pest.enter room counts m.call_tracker)
  where
    go : (e : Entered) → Freed (elim e.answer
        [ false ↦ Err (Pest.set_call_tracker e.tracker m) | true ↦ f (Pest.set_call_tracker e.tracker m) ]) (elim e.answer
        [ false ↦ Err (Pest.set_call_tracker e.tracker m) | true ↦ h (Pest.set_call_tracker e.tracker m) ])
    go e = pick e.answer
      where
        pick : (b : Bool) → Freed (elim b [
          | false ↦ Err (Pest.set_call_tracker e.tracker m)
          | true ↦ f (Pest.set_call_tracker e.tracker m)
        ]) (elim b
            [ false ↦ Err (Pest.set_call_tracker e.tracker m) | true ↦ h (Pest.set_call_tracker e.tracker m) ])
        pick true = k (Pest.set_call_tracker e.tracker m)
        pick false = freed _

repeat_frees : (n : ℕ) (f h : ParserState → Ending ParserState) → Frees f h → Frees (λ m. Pest.repeat n f m) (λ m. Pest.repeat n h m)
repeat_frees zero f h k m = freed (Err m)
repeat_frees (suc n) f h k m = go (f m) (h m) (k m) (repeat_frees n f h k)
  where
    go : (x y : Ending ParserState) → Freed x y → Frees (λ m. Pest.repeat n f m) (λ m. Pest.repeat n h m)
        → Freed (Pest.round_end x (λ t. Pest.repeat n f t)) (Pest.round_end y (λ t. Pest.repeat n h t))
    go x y (freed (Ok m)) ih = ih m
    go x y (freed (Err m)) ih = freed _
    go x y (freed (Stop c)) ih = freed (Stop c)
    go x y (freed_stop c z) ih = freed_stop c _

module _ (g : Setting) where
  -- ── Kind 8 ──
  tracking_frees : (due : Bool) (line r p pi ni prev : ℕ) (m : ParserState) (f h : ParserState → Ending ParserState) → Frees f h
      → Freed (Pest.tracking g true due line r p pi ni prev m f) (Pest.tracking g false due line r p pi ni prev m h)
  tracking_frees due line r p pi ni prev m f h k = go (due && not (is_atomic m.atomicity))
    where
      n : ParserState
      n = Pest.track r p pi ni prev m

      full : Bool
      full = ltb most_attempts (length n.pos_attempts) || ltb most_attempts (length n.neg_attempts)

      go : (b : Bool) → Freed (elim b [ false ↦ f m | true ↦ stop_if full (Pest.halted (Cause.AttemptsFull line) m) (λ _. f n) ]) (elim b
          [ false ↦ h m | true ↦ h n ])
      go false = k m
      go true = unless_full full (Pest.halted (Cause.AttemptsFull line) m) (f n) (h n) (k n)

  push_frees : (line : ℕ) (t : QueueableToken) (m : ParserState) (f h : ParserState → Ending ParserState) → Frees f h
      → Freed (Pest.push_token g true line t m f) (Pest.push_token g false line t m h)
  push_frees line t m f h k =
      unless_full (leb g.capacity (length m.queue)) (Pest.halted (Cause.TokensFull line) m) _ _ (k (Pest.set_queue (m.queue ++ (t ∷ [])) m))

  close_frees : (line r index : ℕ) → Frees (λ m. Pest.close_rule g true line r index m) (λ m. Pest.close_rule g false line r index m)
  close_frees line r index m = go (Pest.produces m)
    where
      n : ParserState
      n = Pest.set_queue (set m.queue index (Pest.with_end (length m.queue) (get_or m.queue index (Pest.Start 0 0)))) m

      go : (b : Bool) → Freed (elim b [ false ↦ Ok m | true ↦ Pest.push_token g true line (Pest.End index r 0 m.position) n (λ t. Ok t) ])
          (elim b [ false ↦ Ok m | true ↦ Pest.push_token g false line (Pest.End index r 0 m.position) n (λ t. Ok t) ])
      go false = freed (Ok m)
      go true = push_frees line (Pest.End index r 0 m.position) n (λ t. Ok t) (λ t. Ok t) (λ t. freed (Ok t))

  rule_frees : (line r : ℕ) (f h : ParserState → Ending ParserState) → Frees f h
      → Frees (λ m. Pest.rule g true line r f m) (λ m. Pest.rule g false line r h m)
  rule_frees line r f h k m = go (Pest.produces m)
    where
      pi : ℕ
      pi = if eqb m.position m.attempt_pos then length m.pos_attempts else 0

      ni : ℕ
      ni = if eqb m.position m.attempt_pos then length m.neg_attempts else 0

      cut : ParserState → ParserState
      cut t = if Pest.produces t then Pest.set_queue (take (length m.queue) t.queue) t else t

      ends : (prev : ℕ) (x y : Ending ParserState) → Freed x y
          → Freed (Pest.rule_end g true line r m.position (length m.queue) pi ni prev x)
          (Pest.rule_end g false line r m.position (length m.queue) pi ni prev y)
      ends prev x y (freed (Ok n)) = tracking_frees (is_negative n.lookahead) line r m.position pi ni prev n (λ t.
          Pest.close_rule g true line r (length m.queue) t) (λ t. Pest.close_rule g false line r (length m.queue) t)
          (close_frees line r (length m.queue))
      ends prev x y (freed (Err n)) = tracking_frees (not (is_negative n.lookahead)) line r m.position pi ni prev n (λ t. Err (cut t))
          (λ t. Err (cut t)) (λ t. freed (Err (cut t)))
      ends prev x y (freed (Stop c)) = freed (Stop c)
      ends prev x y (freed_stop c z) = freed_stop c _

      go : (b : Bool) → Freed
          (elim b [
            | false ↦ Pest.rule_start g true line r pi ni f m m
            | true ↦ Pest.push_token g true line (Pest.Start 0 m.position) m (λ n. Pest.rule_start g true line r pi ni f m n)
          ])
          (elim b [
            | false ↦ Pest.rule_start g false line r pi ni h m m
            | true ↦ Pest.push_token g false line (Pest.Start 0 m.position) m (λ n. Pest.rule_start g false line r pi ni h m n)
          ])
      go false = ends (Pest.attempts_at m.position m) (f m) (h m) (k m)
      go true = push_frees line (Pest.Start 0 m.position) m (λ n. Pest.rule_start g true line r pi ni f m n) (λ n.
          Pest.rule_start g false line r pi ni h m n) (λ n. ends (Pest.attempts_at m.position n) (f n) (h n) (k n))

  -- ── Kinds 14, 15 and 17 ──
  push_end_frees : (line start : ℕ) (x y : Ending ParserState) → Freed x y
      → Freed (Pest.push_end g.text true line start x) (Pest.push_end g.text false line start y)
  push_end_frees line start x y (freed (Ok m)) =
      unless_full (leb most_entries (length m.stack.cache)) (Pest.halted (Cause.StackFull line) m) _ _ (freed _)
  push_end_frees line start x y (freed (Err m)) = freed (Err m)
  push_end_frees line start x y (freed (Stop c)) = freed (Stop c)
  push_end_frees line start x y (freed_stop c z) = freed_stop c _

  popping_frees : (line : ℕ) (x : Span) (rest : List Span) (m : ParserState) (f h : ParserState → Ending ParserState) → Frees f h
      → Freed (Pest.popping g.text true line x rest m f) (Pest.popping g.text false line x rest m h)
  popping_frees line x rest m f h k = unless_full (ltb most_debt (debt (Pest.pop x rest m.stack).lengths)) (Pest.halted (Cause.StackFull line) m) _ _
      (k (Pest.set_stack (Pest.pop x rest m.stack) m))

  pop_frees : (line : ℕ) (c : List Span) → Frees (λ m. Pest.stack_pop g.text true line c m) (λ m. Pest.stack_pop g.text false line c m)
  pop_frees line [] m = freed _
  pop_frees line (x ∷ rest) m = popping_frees line x rest m after_pop after_pop (λ n. freed (after_pop n))
    where
      after_pop : ParserState → Ending ParserState
      after_pop n = Pest.moved (Pest.match_string g.text (Pest.as_str g.text x) n.position) n

  match_pop_frees : (line : ℕ) (c : List Span) (p : ℕ)
      → Frees (λ m. Pest.stack_match_pop g.text true line c p m) (λ m. Pest.stack_match_pop g.text false line c p m)
  match_pop_frees line [] p m = freed _
  match_pop_frees line (x ∷ rest) p m = popping_frees line x rest m
      (λ n. elim (Pest.match_string g.text (Pest.as_str g.text x) p) [ None ↦ Err n | Some q ↦ Pest.stack_match_pop g.text true line rest q n ])
      (λ n. elim (Pest.match_string g.text (Pest.as_str g.text x) p) [ None ↦ Err n | Some q ↦ Pest.stack_match_pop g.text false line rest q n ])
      (λ n. go (Pest.match_string g.text (Pest.as_str g.text x) p) n (λ q. match_pop_frees line rest q))
    where
      go : (o : Option ℕ) (n : ParserState) →
          ((q : ℕ) → Frees (λ m. Pest.stack_match_pop g.text true line rest q m) (λ m. Pest.stack_match_pop g.text false line rest q m))
          → Freed (elim o [ None ↦ Err n | Some q ↦ Pest.stack_match_pop g.text true line rest q n ]) (elim o
          [ None ↦ Err n | Some q ↦ Pest.stack_match_pop g.text false line rest q n ])
      go None n ih = freed (Err n)
      go (Some q) n ih = ih q n

  -- ── All kinds ──
  module _ (room : Bool) (d e : Exp → ParserState → Ending ParserState) (k : (x : Exp) → Frees (d x) (e x)) where
    counted : (f h : ParserState → Ending ParserState) → Frees f h → Frees (λ m. Pest.check_limit room true m f) (λ m. Pest.check_limit room true m h)
    counted f h z = entering_frees room true f h z

    level_frees : (x : Exp) → Frees (Pest.level g true room d x) (Pest.level g false room e x)
    level_frees (Grammar.match_string l) m = freed _
    level_frees (Grammar.match_insensitive l) m = freed _
    level_frees (Grammar.match_range a b) m = freed _
    level_frees (Grammar.skip n) m = freed _
    level_frees Grammar.end_of_input m = freed _
    level_frees (Grammar.and_then a b) m = then_ok _ _ (level_frees b) _ _ (level_frees a m)
    level_frees (Grammar.or_else a b) m = then_err _ _ (level_frees b) _ _ (level_frees a m)
    level_frees (Grammar.rule line r x) m = counted _ _ (rule_frees line r (d x) (e x) (k x)) m
    level_frees (Grammar.sequence x) m = counted _ _ (λ n.
        after (Pest.sequence_end (length n.queue) n.position) (record { stops = λ c. refl }) _ _ (k x (Pest.checkpoint n))) m
    level_frees (Grammar.repeat x) m = counted _ _ (λ n. repeat_frees (most_rounds g n.position) (d x) (e x) (k x) n) m
    level_frees (Grammar.optional x) m = counted _ _ (λ n. after Pest.optional (record { stops = λ c. refl }) _ _ (k x n)) m
    level_frees (Grammar.lookahead b x) m = counted _ _ (λ n.
        after (Pest.lookahead_end b n.lookahead n.position) (record { stops = λ c. refl }) _ _
        (k x (Pest.checkpoint (Pest.set_lookahead (Pest.lookahead_in b n.lookahead) n)))) m
    level_frees (Grammar.atomic a x) m = counted _ _ (λ n.
        after (Pest.atomic_end (not (Pest.same_atomicity n.atomicity a)) n.atomicity) (record { stops = λ c. refl }) _ _
        (k x (Pest.toggle (not (Pest.same_atomicity n.atomicity a)) a n))) m
    level_frees (Grammar.stack_push line x) m = counted _ _ (λ n. push_end_frees line n.position _ _ (k x n)) m
    level_frees (Grammar.stack_pop line) m = pop_frees line m.stack.cache m
    level_frees (Grammar.stack_match_peek_slice i j t) m = freed _
    level_frees (Grammar.stack_match_pop line) m = match_pop_frees line m.stack.cache m.position m
    level_frees (Grammar.restore_on_err x) m =
        entering_frees room false _ _ (λ n. after Pest.restore_on_err_end (record { stops = λ c. refl }) _ _ (k x (Pest.checkpoint n))) m
    level_frees (Grammar.tag_node t) m = freed _
    level_frees (Grammar.call l) m = counted _ _ (rule_frees (g.rule_at l).line (g.rule_at l).rule (d (g.rule_at l).body)
        (e (g.rule_at l).body) (k (g.rule_at l).body)) m

  -- The bounded evaluation and pest's, at every depth and for every tree.
  pub eval_frees : (depth : ℕ) (x : Exp) → Frees (Pest.eval g true depth x) (Pest.eval g false depth x)
  eval_frees zero x = level_frees false (Pest.no_deeper g true) (Pest.no_deeper g false) (λ y m. freed _) x
  eval_frees (suc n) x = level_frees true (Pest.eval g true n) (Pest.eval g false n) (eval_frees n) x
