-- pest 2.9.5's own state and methods, carried over from parser_state.rs, stack.rs, queueable_token.rs, position.rs and span.rs under
-- pest's names. A Vec is a list: the queue and the attempts in the order of their indexes, the stack's three Vecs with the last first.
-- A Vec that has no room for one more stops where `bounded` is true: document 01's stops 14 to 16. With `bounded` false nothing
-- but a failed `expect` stops, and this is pest. Left out is `parse_attempts`, which only error detail reads, and that is off. Added is
-- `calls` of the tracker, document 02's counted calls: pest counts only under a limit, in `current_call_limit`. Of what `state` answers
-- nothing depends on it (`result_of`).
--
-- The reading and pest's side share these definitions, so no law between the two can see a mistake in them, only rust/'s comparison
-- with pest can. Of matching: `decode` and `within` (a character, and whether it is in a range), `past` (the step over one),
-- `same_folded`, `bytes_of`. Of Grammar: which tree a line stands for, and `rule_at`. Of Ending: `on_ok` and `on_err` (kinds 6 and 7),
-- `is_none`, `is_negative`, `is_atomic`. Of Reading: `is_set`. Shared too, but no part of pest: the stops (`stop_if`, `debt`, the bounds),
-- the largest count (`most_calls`), and the number of rounds that a loop is given (`most_rounds`; see `loop`).
use Rattle.std.specs.Prelude.{Bool, true, false, ◌&&◌, ◌||◌, not, List, [], ◌∷◌, ◌++◌, reverse, ℕ, zero, suc, ◌+◌, ◌-◌, min, ℤ, pos, negsuc}
use Rattle.std.specs.Prelude.{◌+ℤ◌, length, get_or, take, drop, set, eqb, ltb, leb, if◌then◌else◌}
use Rattle.std.specs.Prelude.{Option, None, Some}
use Rattle.std.specs.Int.Signed.{lt_z, non_neg}
use Rattle.matching.specs.Utf8.{decode, within}
use Rattle.matching.specs.Position.{past, same_folded, is_char_boundary, bytes_of}
use Rattle.reading.specs.declared.parser_state.Lookahead.{Lookahead}
use Rattle.reading.specs.declared.parser_state.Lookahead.TheVariants.{Positive, Negative}
use Rattle.reading.specs.declared.parser_state.Lookahead.TheVariants as Looks
use Rattle.reading.specs.declared.parser_state.Atomicity.{Atomicity}
use Rattle.reading.specs.declared.parser_state.Atomicity.TheVariants.{Atomic, CompoundAtomic, NonAtomic}
use Rattle.reading.specs.declared.parser_state.Cause.{Cause}
use Rattle.reading.specs.declared.parser_state.Cause.TheVariants.{EmptyStack, TokensFull, StackFull, AttemptsFull}
use Rattle.reading.specs.declared.call_limit_tracker.LimitKind.{LimitKind}
use Rattle.reading.specs.Ending.{Halted, Ending, Ok, Err, Stop, on_ok, on_err, stop_if, Span, Checkpoint, is_negative, is_none, is_atomic}
use Rattle.reading.specs.Grammar as Grammar
use Rattle.reading.specs.Grammar.{Exp, RuleLine}
use Rattle.reading.specs.Reading.{Setting, most_entries, most_debt, most_attempts, most_rounds, most_calls, debt, is_set}

-- ── iterators/queueable_token.rs; tag 0 is `None` ──
pub data QueueableToken : Type 0 where
  Start : (end_token_index input_pos : ℕ) → QueueableToken
  End : (start_token_index rule tag input_pos : ℕ) → QueueableToken

-- ── stack.rs ──
pub record Stack : Type 0 where
  pub cache : List Span
  pub popped : List Span
  pub lengths : List Checkpoint

abbrev pub push : Span → Stack → Stack
push x v = record v { cache = x ∷ v.cache }

-- `pop`, of a cache that is x over `rest`
abbrev pub pop_onto : Span → (rest popped : List Span) → List Checkpoint → Stack
pop_onto x rest popped [] = record { cache = rest; popped = popped; lengths = [] }
pop_onto x rest popped (l ∷ ls) =
    if eqb (suc (length rest)) l.lowest then record { cache = rest; popped = x ∷ popped; lengths = record l { lowest = l.lowest - 1 } ∷ ls }
    else record { cache = rest; popped = popped; lengths = l ∷ ls }

abbrev pub pop : Span → (rest : List Span) → Stack → Stack
pop x rest v = pop_onto x rest v.popped v.lengths

abbrev pub snapshot : Stack → Stack
snapshot v = record v { lengths = record { height = length v.cache; lowest = length v.cache } ∷ v.lengths }

-- `drain(popped_start..popped_start + popped_count - parent_popped)` leaves the last `parent_popped`, and what stands before the
-- last `popped_count`.
abbrev pub clear_onto : (popped_count remained : ℕ) → (cache popped : List Span) → List Checkpoint → Stack
clear_onto n remained cache popped [] = record { cache = cache; popped = drop n popped; lengths = [] }
clear_onto n remained cache popped (l ∷ ls) =
    let merged : ℕ = min l.lowest remained in
    record { cache = cache; popped = take (l.lowest - merged) popped ++ drop n popped; lengths = record l { lowest = merged } ∷ ls }

abbrev pub clear_top : List Checkpoint → Stack → Stack
clear_top [] v = v
clear_top (l ∷ ls) v = clear_onto (l.height - l.lowest) l.lowest v.cache v.popped ls

abbrev pub clear_snapshot : Stack → Stack
clear_snapshot v = clear_top v.lengths v

abbrev pub truncate : ℕ → List Span → List Span
truncate n v = drop (length v - n) v

abbrev pub restore_top : List Checkpoint → Stack → Stack
restore_top [] v = record v { cache = [] }
restore_top (l ∷ ls) v =
    let kept : List Span = if ltb l.lowest (length v.cache) then truncate l.lowest v.cache else v.cache in
    let n : ℕ = l.height - l.lowest in
    if ltb l.lowest l.height then record { cache = reverse (take n v.popped) ++ kept; popped = drop n v.popped; lengths = ls }
    else record v { cache = kept; lengths = ls }

abbrev pub restore : Stack → Stack
restore v = restore_top v.lengths v

-- ── CallLimitTracker ──
pub record CallLimit : Type 0 where
  pub current : ℕ
  pub limit : ℕ

-- `calls`: the counted calls, with no limit too. pest has no such field; nothing reads it here but a stop (`halted`).
pub record CallLimitTracker : Type 0 where
  pub current_call_limit : Option CallLimit
  pub limit_reached : Option LimitKind
  pub calls : ℕ

abbrev pub exceeded : Option CallLimit → Bool
exceeded None = false
exceeded (Some c) = leb c.limit c.current

-- What `enter` answers, and the tracker after it.
pub record Entered : Type 0 where
  pub answer : Bool
  pub tracker : CallLimitTracker

abbrev pub reached : LimitKind → CallLimitTracker → Entered
reached c t = record { answer = false; tracker = record t { limit_reached = Some c } }

abbrev pub one_more : Option CallLimit → Option CallLimit
one_more None = None
one_more (Some c) = Some (record c { current = suc c.current })

-- Document 02, request 5: "stays at its largest once there"
abbrev pub called : (calls : ℕ) → ℕ
called n = min (suc n) most_calls

-- `REQUIRED_STACK_SPACE`
abbrev pub short_of_stack : Option ℕ → Bool
short_of_stack None = false
short_of_stack (Some remaining) = ltb remaining 65536

abbrev pub enter_with_stack : (count_call : Bool) → Option ℕ → CallLimitTracker → Entered
enter_with_stack count_call space t =
    if is_set t.limit_reached then record { answer = false; tracker = t }
    else if count_call && exceeded t.current_call_limit then reached LimitKind.Call t
    else if short_of_stack space then reached LimitKind.Stack t
    else record {
      answer = true;
      tracker = record t {
        current_call_limit = if count_call then one_more t.current_call_limit else t.current_call_limit;
        calls = if count_call then called t.calls else t.calls;
      };
    }

-- Document 01's stand-in: "gives `Some(0)` when the open calls number the depth limit or more, else `None`".
abbrev pub remaining_stack : (room : Bool) → Option ℕ
remaining_stack room = if room then None else Some 0

abbrev pub enter : (room count_call : Bool) → CallLimitTracker → Entered
enter room count_call t =
    if is_set t.limit_reached then record { answer = false; tracker = t }
    else if count_call && exceeded t.current_call_limit then reached LimitKind.Call t
    else enter_with_stack count_call (remaining_stack room) t

-- ── ParserState ──
pub record ParserState : Type 0 where
  pub position : ℕ
  pub queue : List QueueableToken
  pub lookahead : Lookahead
  pub pos_attempts : List ℕ
  pub neg_attempts : List ℕ
  pub attempt_pos : ℕ
  pub atomicity : Atomicity
  pub stack : Stack
  pub call_tracker : CallLimitTracker

-- `ParserState::new`
abbrev pub new : (call_limit : ℕ) → ParserState
new l = record {
  position = 0;
  queue = [];
  lookahead = Looks.None;
  pos_attempts = [];
  neg_attempts = [];
  attempt_pos = 0;
  atomicity = NonAtomic;
  stack = record { cache = []; popped = []; lengths = [] };
  call_tracker = record { current_call_limit = if ltb 0 l then Some (record { current = 0; limit = l }) else None; limit_reached = None; calls = 0 };
}

abbrev pub set_position : ℕ → ParserState → ParserState
set_position p m = record m { position = p }

abbrev pub set_queue : List QueueableToken → ParserState → ParserState
set_queue q m = record m { queue = q }

abbrev pub set_lookahead : Lookahead → ParserState → ParserState
set_lookahead l m = record m { lookahead = l }

abbrev pub set_attempts : ℕ → List ℕ → List ℕ → ParserState → ParserState
set_attempts p ps ns m = record m { pos_attempts = ps; neg_attempts = ns; attempt_pos = p }

abbrev pub set_atomicity : Atomicity → ParserState → ParserState
set_atomicity a m = record m { atomicity = a }

abbrev pub set_stack : Stack → ParserState → ParserState
set_stack v m = record m { stack = v }

abbrev pub set_call_tracker : CallLimitTracker → ParserState → ParserState
set_call_tracker t m = record m { call_tracker = t }

abbrev pub limit_reached : ParserState → Bool
limit_reached m = is_set m.call_tracker.limit_reached

-- A stop at this state.
abbrev pub halted : Cause → ParserState → Halted
halted c m = record { cause = c; calls = m.call_tracker.calls }

-- `inc_call_check_limit` and `check_stack_limit`, with `?`
abbrev pub check_limit : (room count_call : Bool) → ParserState → (ParserState → Ending ParserState) → Ending ParserState
check_limit room count_call m k =
    let e : Entered = enter room count_call m.call_tracker in
    elim e.answer [ false ↦ Err (set_call_tracker e.tracker m) | true ↦ k (set_call_tracker e.tracker m) ]

abbrev pub checkpoint : ParserState → ParserState
checkpoint m = set_stack (snapshot m.stack) m

abbrev pub checkpoint_ok : ParserState → ParserState
checkpoint_ok m = set_stack (clear_snapshot m.stack) m

abbrev pub restored : ParserState → ParserState
restored m = set_stack (restore m.stack) m

-- ── rule, tag_node, attempts_at, track ──
abbrev pub attempts_at : ℕ → ParserState → ℕ
attempts_at p m = if eqb m.attempt_pos p then length m.pos_attempts + length m.neg_attempts else 0

abbrev pub truncate_attempts : (p pos_index neg_index : ℕ) → ParserState → ParserState
truncate_attempts p pi ni m = if eqb p m.attempt_pos then set_attempts m.attempt_pos (take pi m.pos_attempts) (take ni m.neg_attempts) m else m

abbrev pub advance_attempts : ℕ → ParserState → ParserState
advance_attempts p m = if ltb m.attempt_pos p then set_attempts p [] [] m else m

abbrev pub push_attempt : (rule p : ℕ) → ParserState → ParserState
push_attempt r p m =
    if eqb p m.attempt_pos then
    (if not (is_negative m.lookahead) then set_attempts m.attempt_pos (m.pos_attempts ++ (r ∷ [])) m.neg_attempts m
    else set_attempts m.attempt_pos m.pos_attempts (m.neg_attempts ++ (r ∷ [])) m)
    else m

abbrev pub track : (rule p pos_index neg_index prev_attempts : ℕ) → ParserState → ParserState
track r p pi ni prev m =
    if is_atomic m.atomicity then m
    else if ltb prev (attempts_at p m) && eqb (attempts_at p m - prev) 1 then m
    else push_attempt r p (advance_attempts p (truncate_attempts p pi ni m))

abbrev pub produces : ParserState → Bool
produces m = is_none m.lookahead && not (is_atomic m.atomicity)

-- `*end_token_index = new_index`; at an End pest's `unreachable!()`, which is not reached
abbrev pub with_end : ℕ → QueueableToken → QueueableToken
with_end i (Start e p) = Start i p
with_end i (End s r t p) = End s r t p

-- `queue.last_mut()`
abbrev pub tag_last : ℕ → List QueueableToken → List QueueableToken
tag_last u [] = []
tag_last u (Start e p ∷ []) = Start e p ∷ []
tag_last u (End s r t p ∷ []) = End s r u p ∷ []
tag_last u (x ∷ y ∷ q) = x ∷ tag_last u (y ∷ q)

abbrev pub tag_node : ℕ → ParserState → Ending ParserState
tag_node u m = if not (is_none m.lookahead) then Ok m else Ok (set_queue (tag_last u m.queue) m)

module _ (g : Setting) (bounded : Bool) where
  -- `queue.push`
  abbrev pub push_token : (line : ℕ) → QueueableToken → ParserState → (ParserState → Ending ParserState) → Ending ParserState
  push_token line t m k =
      stop_if (bounded && leb g.capacity (length m.queue)) (halted (TokensFull line) m) (λ _. k (set_queue (m.queue ++ (t ∷ [])) m))

  -- `attempts.push`, in `track`
  abbrev pub tracking : (due : Bool) → (line rule p pos_index neg_index prev_attempts : ℕ) → ParserState
      → (ParserState → Ending ParserState) → Ending ParserState
  tracking due line r p pi ni prev m k =
      elim (due && not (is_atomic m.atomicity)) [
        | false ↦ k m
        | true ↦
            let n : ParserState = track r p pi ni prev m in
            stop_if (bounded && (ltb most_attempts (length n.pos_attempts) || ltb most_attempts (length n.neg_attempts)))
            (halted (AttemptsFull line) m) (λ _. k n)
      ]

  abbrev pub close_rule : (line rule index : ℕ) → ParserState → Ending ParserState
  close_rule line r index m =
      elim (produces m) [
        | false ↦ Ok m
        | true ↦
            push_token line (End index r 0 m.position)
            (set_queue (set m.queue index (with_end (length m.queue) (get_or m.queue index (Start 0 0)))) m)
            (λ t. Ok t)
      ]

  abbrev pub rule_end : (line rule p index pos_index neg_index attempts : ℕ) → Ending ParserState → Ending ParserState
  rule_end line r p index pi ni attempts (Ok m) = tracking (is_negative m.lookahead) line r p pi ni attempts m (λ t. close_rule line r index t)
  rule_end line r p index pi ni attempts (Err m) = tracking (not (is_negative m.lookahead)) line r p pi ni attempts m (λ t.
      Err (if produces t then set_queue (take index t.queue) t else t))
  rule_end line r p index pi ni attempts (Stop h) = Stop h

  abbrev pub rule_start : (line rule pos_index neg_index : ℕ) → (ParserState → Ending ParserState) → (before after : ParserState) → Ending ParserState
  rule_start line r pi ni f m n = rule_end line r m.position (length m.queue) pi ni (attempts_at m.position n) (f n)

  abbrev pub rule : (line rule : ℕ) → (ParserState → Ending ParserState) → ParserState → Ending ParserState
  rule line r f m =
      let pi : ℕ = if eqb m.position m.attempt_pos then length m.pos_attempts else 0 in
      let ni : ℕ = if eqb m.position m.attempt_pos then length m.neg_attempts else 0 in
      elim (produces m) [
        | false ↦ rule_start line r pi ni f m m
        | true ↦ push_token line (Start 0 m.position) m (λ n. rule_start line r pi ni f m n)
      ]

-- ── sequence, repeat, optional, lookahead, atomic, restore_on_err ──
abbrev pub sequence_end : (token_index initial_pos : ℕ) → Ending ParserState → Ending ParserState
sequence_end i p (Ok m) = Ok (checkpoint_ok m)
sequence_end i p (Err m) = Err (restored (set_queue (take i m.queue) (set_position p m)))
sequence_end i p (Stop h) = Stop h

abbrev pub sequence : (ParserState → Ending ParserState) → ParserState → Ending ParserState
sequence f m = sequence_end (length m.queue) m.position (f (checkpoint m))

abbrev pub round_end : Ending ParserState → (ParserState → Ending ParserState) → Ending ParserState
round_end (Ok m) again = again m
round_end (Err m) again = if limit_reached m then Err m else Ok m
round_end (Stop h) again = Stop h

-- `loop`. A definition has to end, so the rounds are numbered, and `spent` is what a loop answers whose rounds are used up. In an
-- accepted grammar they never are: a run's `ending` is the same for every `spent`, also if that is a stop like no other (`Demand2`, by the
-- law `ending_alike` of proofs/Rounds); and the rounds are those of a loop with no bound, `Loops` of Ending (the law
-- `pest_repeat_is_loop` of proofs/Loop).
abbrev pub loop : (spent : ParserState → Ending ParserState) → (fuel : ℕ) → (ParserState → Ending ParserState)
    → ParserState → Ending ParserState
loop spent zero f m = spent m
loop spent (suc n) f m = round_end (f m) (λ t. loop spent n f t)

-- The loop that the code's is proved equal to.
abbrev pub repeat : (fuel : ℕ) → (ParserState → Ending ParserState) → ParserState → Ending ParserState
repeat n f m = loop (λ t. Err t) n f m

abbrev pub optional : Ending ParserState → Ending ParserState
optional (Ok m) = Ok m
optional (Err m) = if limit_reached m then Err m else Ok m
optional (Stop h) = Stop h

abbrev pub lookahead_in : (is_positive : Bool) → Lookahead → Lookahead
lookahead_in true Looks.None = Positive
lookahead_in true Positive = Positive
lookahead_in true Negative = Negative
lookahead_in false Looks.None = Negative
lookahead_in false Positive = Negative
lookahead_in false Negative = Positive

abbrev pub lookahead_end : (is_positive : Bool) → Lookahead → (initial_pos : ℕ) → Ending ParserState → Ending ParserState
lookahead_end positive l p (Ok m) =
    let n : ParserState = restored (set_lookahead l (set_position p m)) in
    if limit_reached n then Err n else if positive then Ok n else Err n
lookahead_end positive l p (Err m) =
    let n : ParserState = restored (set_lookahead l (set_position p m)) in
    if limit_reached n then Err n else if positive then Err n else Ok n
lookahead_end positive l p (Stop h) = Stop h

abbrev pub lookahead : (is_positive : Bool) → (ParserState → Ending ParserState) → ParserState → Ending ParserState
lookahead positive f m = lookahead_end positive m.lookahead m.position (f (checkpoint (set_lookahead (lookahead_in positive m.lookahead) m)))

abbrev pub same_atomicity : Atomicity → Atomicity → Bool
same_atomicity Atomic Atomic = true
same_atomicity Atomic CompoundAtomic = false
same_atomicity Atomic NonAtomic = false
same_atomicity CompoundAtomic Atomic = false
same_atomicity CompoundAtomic CompoundAtomic = true
same_atomicity CompoundAtomic NonAtomic = false
same_atomicity NonAtomic Atomic = false
same_atomicity NonAtomic CompoundAtomic = false
same_atomicity NonAtomic NonAtomic = true

-- `should_toggle`
abbrev pub toggle : Bool → Atomicity → ParserState → ParserState
toggle should a m = if should then set_atomicity a m else m

abbrev pub atomic_end : (should_toggle : Bool) → Atomicity → Ending ParserState → Ending ParserState
atomic_end t a (Ok m) = Ok (toggle t a m)
atomic_end t a (Err m) = Err (toggle t a m)
atomic_end t a (Stop h) = Stop h

abbrev pub atomic : Atomicity → (ParserState → Ending ParserState) → ParserState → Ending ParserState
atomic a f m =
    let t : Bool = not (same_atomicity m.atomicity a) in
    atomic_end t m.atomicity (f (toggle t a m))

abbrev pub restore_on_err_end : Ending ParserState → Ending ParserState
restore_on_err_end (Ok m) = Ok (checkpoint_ok m)
restore_on_err_end (Err m) = Err (restored m)
restore_on_err_end (Stop h) = Stop h

abbrev pub restore_on_err : (ParserState → Ending ParserState) → ParserState → Ending ParserState
restore_on_err f m = restore_on_err_end (f (checkpoint m))

-- ── position.rs ──
-- `==` of two byte slices, and `eq_ignore_ascii_case`
abbrev pub same_bytes : (ℕ → ℕ → Bool) → List ℕ → List ℕ → Bool
same_bytes same [] [] = true
same_bytes same [] (y ∷ ys) = false
same_bytes same (x ∷ xs) [] = false
same_bytes same (x ∷ xs) (y ∷ ys) = same x y && same_bytes same xs ys

-- `slice.get(0..len)` of a `str` gives a part that ends at a character boundary, or none
abbrev pub has_part : (slice : List ℕ) → (len : ℕ) → Bool
has_part slice len = leb len (length slice) && is_char_boundary slice len

-- `for _ in 0..n` over `chars()`: the bytes skipped
abbrev pub skipped : ℕ → List ℕ → (len : ℕ) → Option ℕ
skipped zero x len = Some len
skipped (suc n) x len = elim (decode x) [ None ↦ None | Some c ↦ skipped n (drop c.size x) (len + c.size) ]

abbrev pub advance : ℕ → Option ℕ → Option ℕ
advance p None = None
advance p (Some len) = Some (p + len)

module _ (input : List ℕ) where
  abbrev pub match_string : List ℕ → ℕ → Option ℕ
  match_string string p =
      let to : ℕ = p + length string in
      if leb to (length input) && same_bytes eqb string (take (length string) (drop p input)) then Some to else None

  abbrev pub match_insensitive : List ℕ → ℕ → Option ℕ
  match_insensitive string p =
      let slice : List ℕ = drop p input in
      if has_part slice (length string) && same_bytes same_folded string (take (length string) slice) then Some (p + length string) else None

  abbrev pub match_range : (start end : ℕ) → ℕ → Option ℕ
  match_range start end p = past (within start end) p (decode (drop p input))

  abbrev pub skip : ℕ → ℕ → Option ℕ
  skip n p = advance p (skipped n (drop p input) 0)

  abbrev pub at_end : ℕ → Bool
  at_end p = eqb p (length input)

  -- `as_str` of an entry's span
  abbrev pub as_str : Span → List ℕ
  as_str v = bytes_of input v.start v.end

-- The state after a match, or the same state with Err.
abbrev pub moved : Option ℕ → ParserState → Ending ParserState
moved None m = Err m
moved (Some p) m = Ok (set_position p m)

-- ── stack_push, stack_pop, stack_match_peek_slice, stack_match_pop ──
abbrev pub in_range : ℤ → Option ℕ
in_range (pos r) = Some r
in_range (negsuc r) = None

abbrev pub normalize_index : ℤ → (len : ℕ) → Option ℕ
normalize_index i len = if lt_z (pos len) i then None else if non_neg i then in_range i else in_range (pos len +ℤ i)

abbrev pub normalize_end : Option ℤ → (len : ℕ) → Option ℕ
normalize_end None len = Some len
normalize_end (Some e) len = normalize_index e len

-- `self.stack[range].iter()`, or `.rev()` of it
abbrev pub slice : (start end : ℕ) → (top_to_bottom : Bool) → List Span → List Span
slice i j true cache = reverse (take (j - i) (drop i (reverse cache)))
slice i j false cache = take (j - i) (drop i (reverse cache))

module _ (input : List ℕ) where
  -- `iter.all(matcher)`
  abbrev pub all_match : List Span → ℕ → Option ℕ
  all_match [] p = Some p
  all_match (v ∷ vs) p = elim (match_string input (as_str input v) p) [ None ↦ None | Some q ↦ all_match vs q ]

  abbrev pub stack_match_peek_slice : ℤ → Option ℤ → (top_to_bottom : Bool) → ParserState → Ending ParserState
  stack_match_peek_slice i j d m =
      elim (normalize_index i (length m.stack.cache)) [
        | None ↦ Err m
        | Some start ↦
            elim (normalize_end j (length m.stack.cache)) [
              | None ↦ Err m
              | Some end ↦
                  elim (leb end start) [
                    | true ↦ Ok m
                    | false ↦ moved (all_match (slice start end d m.stack.cache) m.position) m
                  ]
            ]
      ]

  module _ (bounded : Bool) where
    abbrev pub push_end : (line start : ℕ) → Ending ParserState → Ending ParserState
    push_end line start (Ok m) =
        stop_if (bounded && leb most_entries (length m.stack.cache)) (halted (StackFull line) m) (λ _.
        Ok (set_stack (push (record { start = start; end = m.position }) m.stack) m))
    push_end line start (Err m) = Err m
    push_end line start (Stop h) = Stop h

    abbrev pub stack_push : (line : ℕ) → (ParserState → Ending ParserState) → ParserState → Ending ParserState
    stack_push line f m = push_end line m.position (f m)

    -- `self.stack.pop()` of x over `rest`
    abbrev pub popping : (line : ℕ) → Span → List Span → ParserState → (ParserState → Ending ParserState) → Ending ParserState
    popping line x rest m k =
        let v : Stack = pop x rest m.stack in
        stop_if (bounded && ltb most_debt (debt v.lengths)) (halted (StackFull line) m) (λ _. k (set_stack v m))

    -- `expect("pop was called on empty stack")` is a stop
    abbrev pub stack_pop : (line : ℕ) → List Span → ParserState → Ending ParserState
    stack_pop line [] m = Stop (halted (EmptyStack line) m)
    stack_pop line (x ∷ rest) m = popping line x rest m (λ n. moved (match_string input (as_str input x) n.position) n)

    -- `while let Some(span) = self.stack.pop()`
    abbrev pub stack_match_pop : (line : ℕ) → List Span → (position : ℕ) → ParserState → Ending ParserState
    stack_match_pop line [] p m = Ok (set_position p m)
    stack_match_pop line (x ∷ rest) p m =
        popping line x rest m (λ n. elim (match_string input (as_str input x) p) [ None ↦ Err n | Some q ↦ stack_match_pop line rest q n ])

-- ── The nodes, driven: closures become lines ──
module _ (g : Setting) (bounded : Bool) where
  module _ (room : Bool) (deeper : Exp → ParserState → Ending ParserState) where
    abbrev pub inc_call_check_limit : ParserState → (ParserState → Ending ParserState) → Ending ParserState
    inc_call_check_limit m k = check_limit room true m k

    abbrev pub check_stack_limit : ParserState → (ParserState → Ending ParserState) → Ending ParserState
    check_stack_limit m k = check_limit room false m k

    abbrev pub at_rule : RuleLine → ParserState → Ending ParserState
    at_rule r m = inc_call_check_limit m (λ n. rule g bounded r.line r.rule (deeper r.body) n)

    module _ (spent : ParserState → Ending ParserState) where
      abbrev pub level_with : Exp → ParserState → Ending ParserState
      level_with (Grammar.match_string l) m = moved (match_string g.text l m.position) m
      level_with (Grammar.match_insensitive l) m = moved (match_insensitive g.text l m.position) m
      level_with (Grammar.match_range a b) m = moved (match_range g.text a b m.position) m
      level_with (Grammar.skip n) m = moved (skip g.text n m.position) m
      level_with Grammar.end_of_input m = if at_end g.text m.position then Ok m else Err m
      level_with (Grammar.and_then a b) m = on_ok (level_with a m) (λ n. level_with b n)
      level_with (Grammar.or_else a b) m = on_err (level_with a m) (λ n. level_with b n)
      level_with (Grammar.rule line r e) m = at_rule (record { line = line; rule = r; body = e }) m
      level_with (Grammar.sequence e) m = inc_call_check_limit m (λ n. sequence (deeper e) n)
      level_with (Grammar.repeat e) m = inc_call_check_limit m (λ n. loop spent (most_rounds g n.position) (deeper e) n)
      level_with (Grammar.optional e) m = inc_call_check_limit m (λ n. optional (deeper e n))
      level_with (Grammar.lookahead b e) m = inc_call_check_limit m (λ n. lookahead b (deeper e) n)
      level_with (Grammar.atomic a e) m = inc_call_check_limit m (λ n. atomic a (deeper e) n)
      level_with (Grammar.stack_push line e) m = inc_call_check_limit m (λ n. stack_push g.text bounded line (deeper e) n)
      level_with (Grammar.stack_pop line) m = stack_pop g.text bounded line m.stack.cache m
      level_with (Grammar.stack_match_peek_slice i j d) m = stack_match_peek_slice g.text i j d m
      level_with (Grammar.stack_match_pop line) m = stack_match_pop g.text bounded line m.stack.cache m.position m
      level_with (Grammar.restore_on_err e) m = check_stack_limit m (λ n. restore_on_err (deeper e) n)
      level_with (Grammar.tag_node u) m = tag_node u m
      level_with (Grammar.call l) m = at_rule (g.rule_at l) m

    abbrev pub level : Exp → ParserState → Ending ParserState
    level e m = level_with (λ t. Err t) e m

  -- Not reached: where no call may open, every entry is refused.
  abbrev pub no_deeper : Exp → ParserState → Ending ParserState
  no_deeper e m = Err (set_call_tracker (record m.call_tracker { limit_reached = Some LimitKind.Stack }) m)

  abbrev pub eval_with : (spent : ParserState → Ending ParserState) → (room : ℕ) → Exp → ParserState → Ending ParserState
  eval_with spent zero e m = level_with false no_deeper spent e m
  eval_with spent (suc d) e m = level_with true (eval_with spent d) spent e m

  -- The evaluation that the code is proved equal to, where `bounded` is true.
  abbrev pub eval : (room : ℕ) → Exp → ParserState → Ending ParserState
  eval d e m = eval_with (λ t. Err t) d e m

-- ── state ──
abbrev pub sort_in : ℕ → List ℕ → List ℕ
sort_in x [] = x ∷ []
sort_in x (y ∷ l) = if leb x y then x ∷ y ∷ l else y ∷ sort_in x l

abbrev pub sort : List ℕ → List ℕ
sort [] = []
sort (x ∷ l) = sort_in x (sort l)

abbrev pub dedup_in : ℕ → List ℕ → List ℕ
dedup_in x [] = x ∷ []
dedup_in x (y ∷ l) = if eqb x y then y ∷ l else x ∷ y ∷ l

abbrev pub dedup : List ℕ → List ℕ
dedup [] = []
dedup (x ∷ l) = dedup_in x (dedup l)

-- Pairs over the queue; an `Error` with its variant and `attempt_pos`; or a failed `expect`.
pub data Result : Type 0 where
  Pairs : (queue : List QueueableToken) → Result
  CustomError : (message : LimitKind) → (attempt_pos : ℕ) → Result
  ParsingError : (positives negatives : List ℕ) → (attempt_pos : ℕ) → Result
  Panic : Result

abbrev pub error_of : Option LimitKind → ParserState → Result
error_of (Some c) m = CustomError c m.attempt_pos
error_of None m = ParsingError (dedup (sort m.pos_attempts)) (dedup (sort m.neg_attempts)) m.attempt_pos

abbrev pub pairs_of : Option LimitKind → ParserState → Result
pairs_of (Some c) m = CustomError c m.attempt_pos
pairs_of None m = Pairs m.queue

abbrev pub result_of : Ending ParserState → Result
result_of (Ok m) = pairs_of m.call_tracker.limit_reached m
result_of (Err m) = error_of m.call_tracker.limit_reached m
result_of (Stop h) = Panic

-- How pest's own evaluation of a root ends, in which nothing is bounded and no loop comes to `spent`.
abbrev pub ending : (spent : ParserState → Ending ParserState) → Setting → (depth_limit call_limit : ℕ) → Exp → Ending ParserState
ending spent g depth limit e = eval_with g false spent depth e (new limit)

-- `state`
abbrev pub state : (spent : ParserState → Ending ParserState) → Setting → (depth_limit call_limit : ℕ) → Exp → Result
state spent g depth limit e = result_of (ending spent g depth limit e)
