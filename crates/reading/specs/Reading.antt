-- Document 01's reading: what it threads, and how each node is evaluated. pest's own state is in Pest, whose header
-- names what it takes from here.
use Rattle.std.specs.Prelude.{Bool, true, false, ◌&&◌, ◌||◌, not, List, [], ◌∷◌, ◌++◌, reverse, ℕ, zero, suc, ◌+◌, ◌-◌, min, ℤ, pos, negsuc}
use Rattle.std.specs.Prelude.{length, take, drop, eqb, ltb, leb, if◌then◌else◌}
use Rattle.std.specs.Prelude.{Option, None, Some}
use Rattle.matching.specs.Position as Position
use Rattle.reading.specs.declared.parser_state.Lookahead.{Lookahead}
use Rattle.reading.specs.declared.parser_state.Lookahead.TheVariants.{Positive, Negative}
use Rattle.reading.specs.declared.parser_state.Lookahead.TheVariants as Looks
use Rattle.reading.specs.declared.parser_state.Atomicity.{Atomicity}
use Rattle.reading.specs.declared.parser_state.Atomicity.TheVariants.{NonAtomic}
use Rattle.reading.specs.declared.parser_state.Cause.{Cause}
use Rattle.reading.specs.declared.parser_state.Cause.TheVariants.{EmptyStack, TokensFull, StackFull, AttemptsFull}
use Rattle.reading.specs.declared.call_limit_tracker.LimitKind.{LimitKind}
use Rattle.reading.specs.declared.call_limit_tracker.LimitKind.TheVariants.{Call, Stack}
use Rattle.reading.specs.Ending.{Halted, Ending, Ok, Err, Stop, on_ok, on_err, stop_if, Span, Checkpoint, is_negative, is_none, is_atomic}
use Rattle.reading.specs.Grammar.{Exp, match_string, match_insensitive, match_range, skip, end_of_input, and_then, or_else, rule, sequence}
use Rattle.reading.specs.Grammar.{repeat, optional, lookahead, atomic, stack_push, stack_pop, stack_match_peek_slice, stack_match_pop}
use Rattle.reading.specs.Grammar.{restore_on_err, tag_node, call, RuleLine}
use Rattle.reading.specs.Forest.{Forest, empty, add, count, size, cut, tag_last}

-- What stays the same through a run: the text, the rules by their lines, and how many tokens there is room for.
pub record Setting : Type 0 where
  pub text : List ℕ
  pub rule_at : ℕ → RuleLine
  pub capacity : ℕ

-- "Capacity: 128 entries, total debt 1,024"; "attempt 257 in a list" stops
abbrev pub most_entries : ℕ
most_entries = 128

abbrev pub most_debt : ℕ
most_debt = 1024

abbrev pub most_attempts : ℕ
most_attempts = 256

-- How many rounds a repeat that begins at p is given, here and on pest's side: one for each byte that is left, and one to fail.
abbrev pub most_rounds : Setting → (p : ℕ) → ℕ
most_rounds g p = suc (length g.text - p)

-- ── State ──
-- The call limit, the counted calls, and "A cause once set".
pub record Tracker : Type 0 where
  pub limit : ℕ
  pub counted : ℕ
  pub cause : Option LimitKind

-- The furthest position, and the rules of "the positive list" and "the negative list", the first attempt first.
pub record Attempts : Type 0 where
  pub furthest : ℕ
  pub positive : List ℕ
  pub negative : List ℕ

-- "It threads position, stack as a list, siblings .., lookahead, atomicity, tracker, attempts." The stack's top is first, and the
-- innermost checkpoint. `outer`: the tokens held outside the siblings, by the open recorded rules and the pairs before them.
pub record State : Type 0 where
  pub position : ℕ
  pub stack : List Span
  pub checkpoints : List Checkpoint
  pub siblings : Forest
  pub outer : ℕ
  pub lookahead : Lookahead
  pub atomicity : Atomicity
  pub tracker : Tracker
  pub attempts : Attempts

-- "at 0, furthest 0, stack, siblings and both lists empty, nothing counted, lookahead None, atomicity NonAtomic"
abbrev pub initial : (call_limit : ℕ) → State
initial limit = record {
  position = 0;
  stack = [];
  checkpoints = [];
  siblings = empty;
  outer = 0;
  lookahead = Looks.None;
  atomicity = NonAtomic;
  tracker = record { limit = limit; counted = 0; cause = None };
  attempts = record { furthest = 0; positive = []; negative = [] };
}

abbrev pub at_position : ℕ → State → State
at_position p s = record s { position = p }

abbrev pub with_stack : List Span → List Checkpoint → State → State
with_stack v k s = record s { stack = v; checkpoints = k }

abbrev pub with_siblings : Forest → ℕ → State → State
with_siblings f o s = record s { siblings = f; outer = o }

abbrev pub with_lookahead : Lookahead → State → State
with_lookahead l s = record s { lookahead = l }

abbrev pub with_atomicity : Atomicity → State → State
with_atomicity a s = record s { atomicity = a }

abbrev pub with_tracker : Tracker → State → State
with_tracker t s = record s { tracker = t }

abbrev pub with_attempts : Attempts → State → State
with_attempts a s = record s { attempts = a }

-- "Held are one token for each open recorded rule and two for each pair."
abbrev pub held : State → ℕ
held s = s.outer + size s.siblings

abbrev pub is_set : Option LimitKind → Bool
is_set None = false
is_set (Some c) = true

-- "an Err that comes with a limit cause"
abbrev pub limited : State → Bool
limited s = is_set s.tracker.cause

-- Document 02, request 5: "the counted calls entered .. as a 64-bit number that stays at its largest once there"
abbrev pub most_calls : ℕ
most_calls = 18446744073709551615

abbrev pub calls_in : Tracker → ℕ
calls_in t = min t.counted most_calls

-- A stop at this state.
abbrev pub halted : Cause → State → Halted
halted c s = record { cause = c; calls = calls_in s.tracker }

-- ── Stack and checkpoints ──
-- "A checkpoint's debt is its height less the lowest height while it was innermost"
abbrev pub debt : List Checkpoint → ℕ
debt [] = 0
debt (k ∷ ks) = (k.height - k.lowest) + debt ks

-- The innermost checkpoint sees the height h.
abbrev pub lower_to : ℕ → List Checkpoint → List Checkpoint
lower_to h [] = []
lower_to h (k ∷ ks) = record k { lowest = min k.lowest h } ∷ ks

abbrev pub open_checkpoint : State → State
open_checkpoint s = with_stack s.stack (record { height = length s.stack; lowest = length s.stack } ∷ s.checkpoints) s

-- "on dropping, the outer takes the lower of the two lowest heights"
abbrev pub dropped : List Checkpoint → List Checkpoint
dropped [] = []
dropped (k ∷ ks) = lower_to k.lowest ks

abbrev pub drop_checkpoint : State → State
drop_checkpoint s = with_stack s.stack (dropped s.checkpoints) s

abbrev pub outer_checkpoints : List Checkpoint → List Checkpoint
outer_checkpoints [] = []
outer_checkpoints (k ∷ ks) = ks

-- "A checkpoint remembers the content; restoring brings it back exactly"
abbrev pub restore_stack : (content : List Span) → State → State
restore_stack v s = with_stack v (outer_checkpoints s.checkpoints) s

-- ── Call tracker ──
pub data Entry : Type 0 where
  entered : Tracker → Entry
  refused : Tracker → Entry

-- "0 means none; N refuses counted call N+1"
abbrev pub over : (limit counted : ℕ) → Bool
over zero n = false
over (suc l) n = leb (suc l) n

-- "A cause once set refuses every later entry"; the call limit is "tested before the stack limit". `room`: fewer calls are open
-- than the depth limit.
abbrev pub enter : (room counts : Bool) → Tracker → Entry
enter room counts t =
    if is_set t.cause then refused t
    else if counts && over t.limit t.counted then refused (record t { cause = Some Call })
    else if room then entered (record t { counted = if counts then suc t.counted else t.counted })
    else refused (record t { cause = Some Stack })

-- "A refused entry answers Err before all else in its combinator"
abbrev pub entering : (room counts : Bool) → State → (State → Ending State) → Ending State
entering room counts s k = elim (enter room counts s.tracker) [ refused t ↦ Err (with_tracker t s) | entered t ↦ k (with_tracker t s) ]

-- ── Attempts ──
pub record Note : Type 0 where
  pub total : ℕ
  pub positives : ℕ
  pub negatives : ℕ

abbrev pub count_at : ℕ → Attempts → ℕ
count_at p a = if eqb a.furthest p then length a.positive + length a.negative else 0

-- "a rule at p notes count c (both lists) and the two lengths if furthest = p, else zeros"
abbrev pub note_at : ℕ → Attempts → Note
note_at p a = record {
  total = count_at p a;
  positives = if eqb p a.furthest then length a.positive else 0;
  negatives = if eqb p a.furthest then length a.negative else 0;
}

-- "if p = furthest, cut both lists to the noted lengths; if p > furthest, empty both and furthest = p"
abbrev pub cleared : ℕ → Note → Attempts → Attempts
cleared p n a =
    if eqb p a.furthest then record a { positive = take n.positives a.positive; negative = take n.negatives a.negative }
    else if ltb a.furthest p then record { furthest = p; positive = []; negative = [] }
    else a

-- "then if p = furthest, append to the negative list under Negative, else to the positive"
abbrev pub appended : (negative : Bool) → (p rule : ℕ) → Attempts → Attempts
appended neg p r a =
    if eqb p a.furthest then
    (if neg then record a { negative = a.negative ++ (r ∷ []) } else record a { positive = a.positive ++ (r ∷ []) })
    else a

-- "if the count at p is now c+1, nothing"
abbrev pub tracked : (negative : Bool) → (p rule : ℕ) → Note → Attempts → Attempts
tracked neg p r n a = if eqb (count_at p a) (suc n.total) then a else appended neg p r (cleared p n a)

abbrev pub attempts_full : Attempts → Bool
attempts_full a = ltb most_attempts (length a.positive) || ltb most_attempts (length a.negative)

-- "tracked on Err unless lookahead is Negative, on Ok if it is" (`due`); "never in Atomic"
abbrev pub tracking : (due : Bool) → (line rule p : ℕ) → Note → State → (State → Ending State) → Ending State
tracking due line r p n s k =
    elim (due && not (is_atomic s.atomicity)) [
      | false ↦ k s
      | true ↦
          let a : Attempts = tracked (is_negative s.lookahead) p r n s.attempts in
          stop_if (attempts_full a) (halted (AttemptsFull line) s) (λ _. k (with_attempts a s))
    ]

-- ── Rule ──
-- "A rule is recorded if lookahead is None and atomicity isn't Atomic."
abbrev pub recorded : State → Bool
recorded s = is_none s.lookahead && not (is_atomic s.atomicity)

module _ (g : Setting) where
  -- "token needed, none free"
  abbrev pub no_token : State → Bool
  no_token s = leb g.capacity (held s)

  -- "Ok adds a pair of rule, no tag, start, end, children." "An unrecorded rule leaves siblings as its body did."
  abbrev pub closed : (rec : Bool) → (line rule : ℕ) → (before after : State) → Ending State
  closed false line r s t = Ok t
  closed true line r s t =
      stop_if (no_token t) (halted (TokensFull line) t) (λ _. Ok (with_siblings (add s.siblings r 0 s.position t.position t.siblings) s.outer t))

  -- "Err adds none and drops its children; position stays where the failure left it."
  abbrev pub discarded : (rec : Bool) → (before after : State) → Ending State
  discarded false s t = Err t
  discarded true s t = Err (with_siblings s.siblings s.outer t)

  abbrev pub rule_end : (rec : Bool) → (line rule : ℕ) → Note → (before : State) → Ending State → Ending State
  rule_end rec line r n s (Ok t) = tracking (is_negative t.lookahead) line r s.position n t (λ u. closed rec line r s u)
  rule_end rec line r n s (Err t) = tracking (not (is_negative t.lookahead)) line r s.position n t (λ u. discarded rec s u)
  rule_end rec line r n s (Stop h) = Stop h

  -- Inside an open recorded rule no sibling is there yet, and its Start is held.
  abbrev pub opened : State → State
  opened s = with_siblings empty (suc (held s)) s

  abbrev pub rule_body : (line rule : ℕ) → (State → Ending State) → State → Ending State
  rule_body line r body s =
      let n : Note = note_at s.position s.attempts in
      elim (recorded s) [
        | false ↦ rule_end false line r n s (body s)
        | true ↦ stop_if (no_token s) (halted (TokensFull line) s) (λ _. rule_end true line r n s (body (opened s)))
      ]

-- ── The other combinators, as functions of the state at their start and their body's ending ──
-- "on Err, position and stack return, and siblings are cut to their number at its start, keeping present tags"
abbrev pub sequence_end : State → Ending State → Ending State
sequence_end s (Ok t) = Ok (drop_checkpoint t)
sequence_end s (Err t) = Err (restore_stack s.stack (at_position s.position (with_siblings (cut (count s.siblings) t.siblings) t.outer t)))
sequence_end s (Stop h) = Stop h

-- "Repeat runs until Err and answers Ok; .. pass on an Err that comes with a limit cause"
abbrev pub round_end : Ending State → (State → Ending State) → Ending State
round_end (Ok t) again = again t
round_end (Err t) again = if limited t then Err t else Ok t
round_end (Stop h) again = Stop h

-- A definition has to end, so `fuel` bounds the rounds. In an accepted grammar it is never used up: the law `repeat_is_loop` of
-- proofs/Loop says that the rounds are those of a loop with no bound, `Loops` of Ending.
abbrev pub rounds : (fuel : ℕ) → (State → Ending State) → State → Ending State
rounds zero body s = Err s
rounds (suc n) body s = round_end (body s) (λ t. rounds n body t)

-- "optional answers Ok"
abbrev pub optional_end : Ending State → Ending State
optional_end (Ok t) = Ok t
optional_end (Err t) = if limited t then Err t else Ok t
optional_end (Stop h) = Stop h

-- "Negative inside Negative is Positive, positive inside Negative stays Negative, else it is as b says."
abbrev pub lookahead_in : (positive : Bool) → Lookahead → Lookahead
lookahead_in true Negative = Negative
lookahead_in true Positive = Positive
lookahead_in true Looks.None = Positive
lookahead_in false Negative = Positive
lookahead_in false Positive = Negative
lookahead_in false Looks.None = Negative

-- "Lookahead always restores position, lookahead and stack."
abbrev pub back_to : State → State → State
back_to s t = restore_stack s.stack (with_lookahead s.lookahead (at_position s.position t))

-- "With b 0, Ok and Err swap. With a limit cause it answers Err."
abbrev pub lookahead_end : (positive : Bool) → State → Ending State → Ending State
lookahead_end positive s (Ok t) = if limited t then Err (back_to s t) else if positive then Ok (back_to s t) else Err (back_to s t)
lookahead_end positive s (Err t) = if limited t then Err (back_to s t) else if positive then Err (back_to s t) else Ok (back_to s t)
lookahead_end positive s (Stop h) = Stop h

-- "Atomic restores atomicity."
abbrev pub atomic_end : State → Ending State → Ending State
atomic_end s (Ok t) = Ok (with_atomicity s.atomicity t)
atomic_end s (Err t) = Err (with_atomicity s.atomicity t)
atomic_end s (Stop h) = Stop h

-- "Push adds the span on Ok." "entry 129" stops.
abbrev pub push_end : (line : ℕ) → State → Ending State → Ending State
push_end line s (Ok t) =
    stop_if (leb most_entries (length t.stack)) (halted (StackFull line) t) (λ _.
    Ok (with_stack (record { start = s.position; end = t.position } ∷ t.stack) t.checkpoints t))
push_end line s (Err t) = Err t
push_end line s (Stop h) = Stop h

-- "Kind 18 restores the stack only, on Err."
abbrev pub restore_end : State → Ending State → Ending State
restore_end s (Ok t) = Ok (drop_checkpoint t)
restore_end s (Err t) = Err (restore_stack s.stack t)
restore_end s (Stop h) = Stop h

-- ── Nodes that open no call ──
-- A match: moved, or "A failed match moves nothing."
abbrev pub moved : Option ℕ → State → Ending State
moved None s = Err s
moved (Some p) s = Ok (at_position p s)

-- "Tag always succeeds; under lookahead None it sets the last sibling's tag, if any."
abbrev pub tagged : ℕ → State → Ending State
tagged u s = if is_none s.lookahead then Ok (with_siblings (tag_last u s.siblings) s.outer s) else Ok s

-- "an index above the height, or below minus the height, fails; a negative one counts from the height"
abbrev pub index_in : (height : ℕ) → ℤ → Option ℕ
index_in h (pos i) = if leb i h then Some i else None
index_in h (negsuc i) = if leb (suc i) h then Some (h - suc i) else None

abbrev pub end_in : (height : ℕ) → Option ℤ → Option ℕ
end_in h None = Some h
end_in h (Some e) = index_in h e

-- "entries from start to before end", counted from the bottom, bottom up or top down
abbrev pub entries : (start end : ℕ) → (top_down : Bool) → List Span → List Span
entries i j true v = reverse (take (j - i) (drop i (reverse v)))
entries i j false v = take (j - i) (drop i (reverse v))

module _ (text : List ℕ) where
  abbrev pub bytes : Span → List ℕ
  bytes v = Position.bytes_of text v.start v.end

  -- An entry's match at p.
  abbrev pub after_entry : Span → ℕ → Option ℕ
  after_entry v p = Position.match_string text (bytes v) p

  -- All of the entries, one after the other.
  abbrev pub after_entries : List Span → ℕ → Option ℕ
  after_entries [] p = Some p
  after_entries (v ∷ vs) p = elim (after_entry v p) [ None ↦ None | Some q ↦ after_entries vs q ]

  -- One entry popped, with `rest` left: "debt 1,025" stops.
  abbrev pub popping : (line : ℕ) → (rest : List Span) → State → (State → Ending State) → Ending State
  popping line rest s k =
      let ks : List Checkpoint = lower_to (length rest) s.checkpoints in
      stop_if (ltb most_debt (debt ks)) (halted (StackFull line) s) (λ _. k (with_stack rest ks s))

  -- "`stack_pop` matches what it pops"; "kind 15 on an empty stack" stops
  abbrev pub popped : (line : ℕ) → List Span → State → Ending State
  popped line [] s = Stop (halted (EmptyStack line) s)
  popped line (v ∷ rest) s = popping line rest s (λ t. moved (after_entry v t.position) t)

  -- "`stack_match_pop` keeps popping entries until one fails to match; failing, both move nothing, and popped entries are gone.
  -- Kind 17 succeeds on an empty stack." `p`: the position after the entries that matched.
  abbrev pub match_popped : (line : ℕ) → List Span → (p : ℕ) → State → Ending State
  match_popped line [] p s = Ok (at_position p s)
  match_popped line (v ∷ rest) p s =
      popping line rest s (λ t. elim (after_entry v p) [ None ↦ Err t | Some q ↦ match_popped line rest q t ])

  -- "all or nothing moved"; "start at or past end succeeds unmoved"
  abbrev pub sliced : (start end : ℕ) → (top_down : Bool) → State → Ending State
  sliced i j top_down s = elim (leb j i) [ true ↦ Ok s | false ↦ moved (after_entries (entries i j top_down s.stack) s.position) s ]

  abbrev pub peeked : ℤ → Option ℤ → (top_down : Bool) → State → Ending State
  peeked i j top_down s =
      elim (index_in (length s.stack) i) [
        | None ↦ Err s
        | Some start ↦ elim (end_in (length s.stack) j) [ None ↦ Err s | Some end ↦ sliced start end top_down s ]
      ]

-- ── Evaluation ──
module _ (g : Setting) where
  -- One level of open calls: `deeper` evaluates under one more open call, and `room` says whether one more may open.
  module _ (room : Bool) (deeper : Exp → State → Ending State) where
    -- "Kinds 8 to 14 enter counted, 18 uncounted, others not at all."
    abbrev pub counted : State → (State → Ending State) → Ending State
    counted s k = entering room true s k

    abbrev pub uncounted : State → (State → Ending State) → Ending State
    uncounted s k = entering room false s k

    abbrev pub at_rule : RuleLine → State → Ending State
    at_rule r s = counted s (λ t. rule_body g r.line r.rule (deeper r.body) t)

    abbrev pub level : Exp → State → Ending State
    level (match_string l) s = moved (Position.match_string g.text l s.position) s
    level (match_insensitive l) s = moved (Position.match_insensitive g.text l s.position) s
    level (match_range a b) s = moved (Position.match_range g.text a b s.position) s
    level (skip n) s = moved (Position.skip g.text n s.position) s
    level end_of_input s = if Position.at_end g.text s.position then Ok s else Err s
    level (and_then a b) s = on_ok (level a s) (λ t. level b t)
    level (or_else a b) s = on_err (level a s) (λ t. level b t)
    level (rule line r e) s = at_rule (record { line = line; rule = r; body = e }) s
    level (sequence e) s = counted s (λ t. sequence_end t (deeper e (open_checkpoint t)))
    level (repeat e) s = counted s (λ t. rounds (most_rounds g t.position) (deeper e) t)
    level (optional e) s = counted s (λ t. optional_end (deeper e t))
    level (lookahead b e) s = counted s (λ t. lookahead_end b t (deeper e (open_checkpoint (with_lookahead (lookahead_in b t.lookahead) t))))
    level (atomic a e) s = counted s (λ t. atomic_end t (deeper e (with_atomicity a t)))
    level (stack_push line e) s = counted s (λ t. push_end line t (deeper e t))
    level (stack_pop line) s = popped g.text line s.stack s
    level (stack_match_peek_slice i j d) s = peeked g.text i j d s
    level (stack_match_pop line) s = match_popped g.text line s.stack s.position s
    level (restore_on_err e) s = uncounted s (λ t. restore_end t (deeper e (open_checkpoint t)))
    level (tag_node u) s = tagged u s
    -- "A call is its line."
    level (call l) s = at_rule (g.rule_at l) s

  -- Where no call may open, every entry is refused, and what stands here is not reached.
  abbrev pub no_deeper : Exp → State → Ending State
  no_deeper e s = Err (with_tracker (record s.tracker { cause = Some Stack }) s)

  -- Evaluation where `room` more calls may be open at once.
  abbrev pub eval : (room : ℕ) → Exp → State → Ending State
  eval zero e s = level false no_deeper e s
  eval (suc d) e s = level true (eval d) e s
