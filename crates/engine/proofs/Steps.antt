-- One step of the evaluation at a time: an entry that is refused or open, what is ready for the body, and what its ending is ready for.
-- Each member of the cycle cites these; what differs between them is the tree and what the combinator makes of an ending.
use Rattle.std.specs.Prelude.{if◌then◌else◌}
use mathlib.Core.Path.{◌≡◌, refl, sym, ap, ap₂, subst, ◌∙◌}
use mathlib.Core.Bool.{Bool, true, false, ◌&&◌, not, true≢false, false≢true}
use mathlib.Core.List.{List, [], ◌∷◌, ◌++◌}
use Prim.Native.Nat.{ℕ, zero, suc, ◌+◌, ◌*◌, ◌≤◌, ◌<◌}
use native.Mathlib.Omega.{arith}
use lib.Dec.{leb, ltb}
use lib.IntN.{ℤ}
use borrow.Author.Tests.{lt-ltb}
use lib.ListN.{length, length-append}
use Rattle.matching.specs.declared.position.BytePosition.{BytePosition}
use Rattle.matching.specs.declared.position.TokenIndex.{TokenIndex}
use Rattle.reading.specs.declared.parser_state.Lookahead.{Lookahead}
use Rattle.reading.specs.declared.parser_state.Atomicity.{Atomicity}
use Rattle.reading.specs.declared.parser_state.Cause.TheVariants as Cause-of
use Rattle.reading.specs.declared.call_limit_tracker.LimitKind.TheVariants as LimitKind
use Rattle.engine.specs.declared.attempts.Noted.{Noted}
use Rattle.engine.specs.declared.parser_state.ParserState as Code
use Rattle.reading.specs.declared.parser_state.Ending as Coded
use Rattle.reading.specs.declared.parser_state.Ending.TheVariants as Coded-of
use Rattle.reading.specs.Ending.{Halted, Ending, Ok, Err, Stop, on_ok, stop_if}
use Rattle.reading.specs.Grammar as Grammar
use Rattle.reading.specs.Grammar.{Exp, tree_at}
use Rattle.reading.specs.Nullable.{nullable}
use Rattle.reading.specs.Reading.{Setting, is_set}
use Rattle.reading.specs.Pest as Pest
use Rattle.reading.specs.Pest.{ParserState, CallLimitTracker, Entered}
use Rattle.engine.specs.Areas as Areas
use Rattle.engine.specs.Areas.{queue_of, view, view_end}
use Rattle.engine.specs.Entry.{Entry, opened, refused, view_entry, entering, go_on}
use Rattle.engine.specs.Attempts.{tried_of, noted, Few}
use Rattle.engine.specs.StackReady.{StateReady}
use Rattle.engine.specs.Rule.{starting, Recording, Tracking}
use Rattle.engine.specs.Ends.{EndReady, PushEndReady, RuleEndReady, atomic_back}
use Rattle.reading.specs.Fit.{Fit}
use Rattle.engine.specs.Evaluation.{setting_of, Ready, Line, evaluated}
use Rattle.reading.proofs.Trees.{still}
use Rattle.engine.proofs.Regions.{pairs_length}
use Rattle.engine.proofs.TokenLaws.{queue_length}
use Rattle.engine.proofs.EntryLaws.{check_limit_is}
use Rattle.engine.proofs.StateSteps.{state_ready}
use Rattle.reading.proofs.Invariant.{Tested, After, Keeps, keeps_ok, keeps_err, keeps_stop, KeepsFrom, eval_keeps, checkpoint_fit}
use Rattle.reading.proofs.Invariant.{pushed_fit, toggled, toggled_back}
use Rattle.engine.proofs.RuleLaws.{rule_is}
use Rattle.reading.proofs.Accepted.{Accepted, accepted, tree_literals, body_literals, tree_still, tree_steady, body_steady, body_closed}
use Rattle.reading.proofs.Accepted.{rule_still, rule_still_is}

-- What is known of a value is known of the variant that it is.
pub told : (a b : List ℕ) (s : Code.ParserState) {r y : Coded.Ending} {x : Ending ParserState} → view_end a b s r ≡ x → r ≡ y → view_end a b s y ≡ x
told a b s h e = ap (view_end a b s) (sym e) ∙ h

pub refused_by : (r : Bool) (n : ParserState) (x : Entry) → view_entry r n ≡ x → not r ≡ true → refused n ≡ x
refused_by true n x h e = absurd (false≢true e)
refused_by false n x h e = h

pub refused_test : (r : Bool) → not r ≡ true → r ≡ false
refused_test true e = absurd (false≢true e)
refused_test false e = refl

pub passed_test : (r : Bool) → not r ≡ false → r ≡ true
passed_test true e = refl
passed_test false e = absurd (true≢false e)

-- ── An entry ──
-- Where no call may open, none does.
no_answer : (c : Bool) (t : CallLimitTracker) → (Pest.enter false c t).answer ≡ false
no_answer c t = go (is_set t.limit_reached) (c && Pest.exceeded t.current_call_limit)
  where
    no : CallLimitTracker → Entered
    no u = record { answer = false; tracker = u }

    go : (x y : Bool) → (if x then no t else if y then Pest.reached LimitKind.Call t else if x then no t else if y
        then Pest.reached LimitKind.Call t else Pest.reached LimitKind.Stack t).answer ≡ false
    go true y = refl
    go false true = refl
    go false false = refl

abbrev Shut : Entry → Type 0
Shut (opened n) = ⊥
Shut (refused n) = Unit {0}

shut : (b : Bool) (x y : ParserState) → b ≡ false → Shut (if b then opened x else refused y)
shut true x y e = let z : ◌≡◌ {A = ℕ} 0 1 = cc in absurd (omega arith)
shut false x y e = tt

no_room : (c : Bool) (m n : ParserState) → opened n ≡ entering false c m → ⊥
no_room c m n e = subst Shut (sym e) (shut (Pest.enter false c m.call_tracker).answer _ _ (no_answer c m.call_tracker))

pub deep : (c : Bool) (d : ℕ) (m n : ParserState) → opened n ≡ entering (ltb 0 d) c m → 1 ≤ d
deep c zero m n e = absurd (no_room c m n e)
deep c (suc d) m n e = omega arith

-- An entry that was let in, with j more calls, and one that was not.
pub record Opened (counted : Bool) (d j : ℕ) (m n : ParserState) : Type 0 where
  pub next : j + 1 ≡ d
  pub opens : opened n ≡ entering (ltb 0 d) counted m

pub record Refused (counted : Bool) (d : ℕ) (m n : ParserState) : Type 0 where
  pub refuses : refused n ≡ entering (ltb 0 d) counted m

-- An entry changes the tracker alone.
abbrev Tracks : ParserState → Entry → Type 0
Tracks m (opened n) = n ≡ Pest.set_call_tracker n.call_tracker m
Tracks m (refused n) = Unit {0}

tracks : (b : Bool) (t : CallLimitTracker) (m : ParserState)
    → Tracks m (if b then opened (Pest.set_call_tracker t m) else refused (Pest.set_call_tracker t m))
tracks true t m = refl
tracks false t m = tt

entering_same : (room c : Bool) (m n : ParserState) → opened n ≡ entering room c m → n ≡ Pest.set_call_tracker n.call_tracker m
entering_same room c m n e = subst (Tracks m) (sym e) (tracks (Pest.enter room c m.call_tracker).answer (Pest.enter room c m.call_tracker).tracker m)

-- ── What an ending left, whichever it is ──
abbrev pub Left : Setting → (p : ℕ) → Lookahead → Atomicity → (marks held : ℕ) → Ending ParserState → Type 0
Left g p l a marks held (Ok n) = After g p l a marks held n
Left g p l a marks held (Err n) = After g p l a marks held n
Left g p l a marks held (Stop c) = Unit {0}

abbrev pub LeftFrom : Setting → ParserState → Ending ParserState → Type 0
LeftFrom g m x = Left g m.position m.lookahead m.atomicity (length m.stack.lengths) (length m.queue) x

left_of : {g : Setting} {b : Bool} {p : ℕ} {l : Lookahead} {a : Atomicity} {marks held : ℕ} (x : Ending ParserState)
    → Keeps g b p l a marks held x → Left g p l a marks held x
left_of x (keeps_ok n y i) = y
left_of x (keeps_err n y) = y
left_of x (keeps_stop c) = tt

abbrev Ahead : (p : ℕ) → Ending ParserState → Type 0
Ahead p (Ok n) = p < n.position
Ahead p (Err n) = Unit {0}
Ahead p (Stop c) = Unit {0}

ahead_of : {g : Setting} {b : Bool} {p : ℕ} {l : Lookahead} {a : Atomicity} {marks held : ℕ} (x : Ending ParserState)
    → Keeps g b p l a marks held x → b ≡ false → Ahead p x
ahead_of x (keeps_ok n y i) e = i e
ahead_of x (keeps_err n y) e = tt
ahead_of x (keeps_stop c) e = tt

-- What the tests of a run give the laws of the evaluation.
pub tested_of : (ns : List ℤ) (literals text : List ℕ) (capacity : ℕ) → Accepted ns literals
    → Tested (setting_of ns literals text capacity) (rule_still ns)
tested_of ns literals text capacity w = record {
  literals = body_literals ns literals w;
  closed = body_closed ns literals w;
  steady = body_steady ns literals w (rule_still ns) (rule_still_is ns);
}

-- A checkpoint leaves the queue.
pub marked_queue : (tokens scratch b : List ℕ) (t u : Code.ParserState) → view tokens b u ≡ Pest.checkpoint (view tokens scratch t)
    → t.queue.0 ≤ length (queue_of tokens u.queue.0)
marked_queue tokens scratch b t u e = omega (arith, ap (λ (x : ParserState). length x.queue) e, queue_length tokens t.queue.0)

-- How many tokens the queue holds, as the code read it.
pub held : (tokens : List ℕ) {j q : TokenIndex} → q ≡ j → length (queue_of tokens j.0) ≡ q.0
held tokens {j} i = queue_length tokens j.0 ∙ ap (λ (x : TokenIndex). x.0) (sym i)

pub placed : {j p : BytePosition} → p ≡ j → j.0 ≡ p.0
placed i = ap (λ (x : BytePosition). x.0) (sym i)

module _ (ns : List ℤ) (literals text : List ℕ) (capacity : ℕ) where
  abbrev g : Setting
  g = setting_of ns literals text capacity

  abbrev E : (depth : ℕ) → Exp → ParserState → Ending ParserState
  E d e m = evaluated ns literals text capacity d e m

  abbrev R : (tokens scratch : List ℕ) → (depth : ℕ) → ParserState → Type 0
  R tokens scratch d m = Ready ns literals text tokens scratch capacity d m

  abbrev pub tests : {tokens scratch : List ℕ} {d : ℕ} {m : ParserState} → R tokens scratch d m → Accepted ns literals
  tests r = accepted ns literals r.fitting r.moving

  -- Another state, with areas as long.
  pub ready_on : {tokens scratch tokens' scratch' : List ℕ} {d d' : ℕ} {m n : ParserState} → R tokens scratch d m
      → length tokens' ≡ length tokens → length scratch' ≡ length scratch → Fit g n
      → length n.stack.lengths + d' ≤ 1024 → R tokens' scratch' d' n
  ready_on r t s f k = record {
    fitting = r.fitting;
    moving = r.moving;
    short = r.short;
    small = r.small;
    area = rw t r.area;
    room = rw s r.room;
    fit = f;
    deep = k;
  }

  -- ── A tree that enters: k is what it does one call deeper ──
  module _ (T : Exp) (c : Bool) (k : (Exp → ParserState → Ending ParserState) → ParserState → Ending ParserState)
      (enters : (room : Bool) (f : Exp → ParserState → Ending ParserState) (m : ParserState)
      → Pest.level g true room f T m ≡ Pest.check_limit room c m (k f)) where
    pub entry_refused : (d : ℕ) (m n : ParserState) → Refused c d m n → Err n ≡ E d T m
    unfolding evaluated
    entry_refused zero m n o = ap (λ (x : Entry). go_on x (k (Pest.no_deeper g true))) o.refuses
        ∙ sym (enters false (Pest.no_deeper g true) m ∙ check_limit_is false c m (k (Pest.no_deeper g true)))
    entry_refused (suc d) m n o = ap (λ (x : Entry). go_on x (k (Pest.eval g true d)))
        (o.refuses ∙ ap (λ (b : Bool). entering b c m) (lt-ltb 0 (suc d) (omega arith)))
        ∙ sym (enters true (Pest.eval g true d) m ∙ check_limit_is true c m (k (Pest.eval g true d)))

    pub entry_open : (d j : ℕ) (m n : ParserState) → Opened c d j m n → k (E j) n ≡ E d T m
    unfolding evaluated
    entry_open zero j m n o = absurd (no_room c m n o.opens)
    entry_open (suc d) j m n o =
        let h : j + 1 ≡ suc d = o.next in
        let z : j ≡ d = omega arith in
        ap (λ (y : ℕ). k (Pest.eval g true y) n) z
        ∙ ap (λ (x : Entry). go_on x (k (Pest.eval g true d))) (o.opens ∙ ap (λ (b : Bool). entering b c m) (lt-ltb 0 (suc d) (omega arith)))
        ∙ sym (enters true (Pest.eval g true d) m ∙ check_limit_is true c m (k (Pest.eval g true d)))

  -- ── Readiness, along an entry and a checkpoint ──
  pub ready_open : (tokens scratch : List ℕ) (c : Bool) (d : ℕ) (m n : ParserState) → R tokens scratch d m
      → opened n ≡ entering (ltb 0 d) c m → R tokens scratch d n
  ready_open tokens scratch c d m n r e =
      let s : n ≡ Pest.set_call_tracker n.call_tracker m = entering_same (ltb 0 d) c m n e in
      ready_on r refl refl (subst (Fit g) (sym s) r.fit) (omega (arith, ap (λ (x : ParserState). length x.stack.lengths) s, r.deep))

  pub ready_less : {tokens scratch : List ℕ} {d : ℕ} {m : ParserState} {j : ℕ} → j + 1 ≡ d → R tokens scratch d m → R tokens scratch j m
  ready_less h r = ready_on r refl refl r.fit (omega (arith, h, r.deep))

  pub ready_marked : {tokens scratch : List ℕ} {d : ℕ} {m : ParserState} → R tokens scratch d m
      → {j : ℕ} → j + 1 ≡ d → {b : List ℕ} {u : ParserState} → u ≡ Pest.checkpoint m → length b ≡ length scratch → R tokens b j u
  ready_marked {m = m} r h e s = ready_on r refl s (subst (Fit g) (sym e) (checkpoint_fit g m r.fit))
      (omega (arith, h, ap (λ (x : ParserState). length x.stack.lengths) e, r.deep))

  -- What the code's functions ask of a state that is ready.
  pub state_of : {tokens scratch : List ℕ} {d : ℕ} (s : Code.ParserState) → R tokens scratch d (view tokens scratch s) → StateReady scratch s
  state_of {tokens} {scratch} s r = state_ready tokens scratch s r.room r.fit.sound (omega (arith, r.deep)) r.fit.positives r.fit.negatives

  pub mark_of : {tokens scratch : List ℕ} {d : ℕ} (s : Code.ParserState) → R tokens scratch d (view tokens scratch s)
      → {c : Bool} {j : ℕ} {m n : ParserState} → Opened c d j m n
      → StateReady scratch s × (s.stack.checkpoints < 1024)
  mark_of {tokens} {scratch} {d} s r o = (state_of s r, omega (arith, o.next, r.deep, pairs_length Areas.checkpoint scratch 2816 s.stack.checkpoints))

  -- ── After the body ──
  pub kept_by : Accepted ns literals → (d l : ℕ) (m : ParserState) (x : Ending ParserState) → Fit g m → x ≡ E d (tree_at ns literals l) m
      → LeftFrom g m x
  unfolding evaluated
  kept_by w d l m x f e =
      left_of x (subst (KeepsFrom g (still (rule_still ns) (tree_at ns literals l)) m) (sym e)
      (eval_keeps g (rule_still ns) (tested_of ns literals text capacity w) d (tree_at ns literals l) (tree_literals ns literals w l)
      (tree_steady ns literals w (rule_still ns) (rule_still_is ns) l) m f))

  pub kept : (tokens scratch : List ℕ) (d l : ℕ) (m : ParserState) (x : Ending ParserState) → R tokens scratch d m → x ≡ E d (tree_at ns literals l) m
      → LeftFrom g m x
  kept tokens scratch d l m x r e = kept_by (tests r) d l m x r.fit e

  -- A line that may not stand still moves on Ok.
  pub moves_on : (tokens scratch : List ℕ) (d l : ℕ) (m v : ParserState) → R tokens scratch d m → Line ns l → nullable ns l ≡ false
      → Ok v ≡ E d (tree_at ns literals l) m → m.position < v.position
  unfolding evaluated
  moves_on tokens scratch d l m v r i s e =
      ahead_of {g = g} {b = still (rule_still ns) (tree_at ns literals l)} (Ok v)
      (subst (KeepsFrom g (still (rule_still ns) (tree_at ns literals l)) m) (sym e)
      (eval_keeps g (rule_still ns) (tested_of ns literals text capacity (tests r)) d (tree_at ns literals l)
      (tree_literals ns literals (tests r) l) (tree_steady ns literals (tests r) (rule_still ns) (rule_still_is ns) l) m r.fit))
      (tree_still ns literals (tests r) (rule_still ns) (rule_still_is ns) l (i.low, i.high) ∙ s)

  -- From the state m, at which the body began.
  module _ (m : ParserState) (marks : length m.stack.lengths ≤ 1024) (tokens scratch : List ℕ) (room : 4864 ≤ length scratch) where
    ready_after : (s : Code.ParserState) → LeftFrom g m (Ok (view tokens scratch s)) → StateReady scratch s
    ready_after s w = state_ready tokens scratch s room w.fit.sound (omega (arith, w.level)) w.fit.positives w.fit.negatives

    grown_after : (s : Code.ParserState) → LeftFrom g m (Ok (view tokens scratch s)) → length m.queue ≤ s.queue.0
    grown_after s w = omega (arith, w.grown, queue_length tokens s.queue.0)

    pub end_ready : (n : ℕ) (s : Code.ParserState) (r : Coded.Ending) → LeftFrom g m (view_end tokens scratch s r) → n ≤ length m.queue
        → EndReady scratch n s r
    end_ready n s Coded-of.Ok w h = (ready_after s w, omega (arith, grown_after s w))
    end_ready n s Coded-of.Err w h = (ready_after s w, omega (arith, grown_after s w))
    end_ready n s (Coded-of.Stop c) w h = tt

    pub push_ready : (start : BytePosition) (s : Code.ParserState) (r : Coded.Ending) → LeftFrom g m (view_end tokens scratch s r)
        → length text ≤ 65535 → start.0 ≤ length text → PushEndReady scratch start s r
    push_ready start s Coded-of.Ok w h i = record { state = ready_after s w; from = omega arith; to = omega (arith, w.fit.edge.inside) }
    push_ready start s Coded-of.Err w h i = tt
    push_ready start s (Coded-of.Stop c) w h i = tt

    tracking_after : (s : Code.ParserState) → LeftFrom g m (Ok (view tokens scratch s)) → Tracking scratch s
    tracking_after s w =
        let r : StateReady scratch s = ready_after s w in
        record {
          lent = record { room = room; few = record { few_positives = r.positives; few_negatives = r.negatives } };
          tall = r.stack.tall;
          owing = r.stack.owing;
        }

    pub rule_ready : (i : ℕ) (s : Code.ParserState) (r : Coded.Ending) → LeftFrom g m (view_end tokens scratch s r)
        → capacity * 5 ≤ length tokens → capacity ≤ 65535 → length text ≤ 65535 → i ≤ capacity
        → RuleEndReady tokens scratch capacity i s r
    rule_ready i s Coded-of.Ok w area small short h =
        (record { room = area; most = small; near = omega (arith, w.fit.edge.inside) }, tracking_after s w, h)
    rule_ready i s Coded-of.Err w area small short h = tracking_after s w
    rule_ready i s (Coded-of.Stop c) w area small short h = tt

  -- ── Each combinator: its own words over what the code's parts answer ──
  -- A refused entry answers Err before all else.
  module _ (body : ℕ) where
    abbrev B : Exp
    B = tree_at ns literals body

    module _ {d : ℕ} {m n : ParserState} where
      pub sequence_refused : Refused true d m n → Err n ≡ E d (Grammar.sequence B) m
      sequence_refused o = entry_refused (Grammar.sequence B) true (λ f k. Pest.sequence (f B) k) (λ room f k. refl) d m n o

      pub optional_refused : Refused true d m n → Err n ≡ E d (Grammar.optional B) m
      optional_refused o = entry_refused (Grammar.optional B) true (λ f k. Pest.optional (f B k)) (λ room f k. refl) d m n o

      pub restore_refused : Refused false d m n → Err n ≡ E d (Grammar.restore_on_err B) m
      restore_refused o = entry_refused (Grammar.restore_on_err B) false (λ f k. Pest.restore_on_err (f B) k) (λ room f k. refl) d m n o

      pub lookahead_refused : (positive : Bool) → Refused true d m n → Err n ≡ E d (Grammar.lookahead positive B) m
      lookahead_refused positive o =
          entry_refused (Grammar.lookahead positive B) true (λ f k. Pest.lookahead positive (f B) k) (λ room f k. refl) d m n o

      pub push_refused : (line : ℕ) → Refused true d m n → Err n ≡ E d (Grammar.stack_push line B) m
      push_refused line o = entry_refused (Grammar.stack_push line B) true (λ f k. Pest.stack_push text true line (f B) k) (λ room f k. refl) d m n o

      pub atomic_refused : (a : Atomicity) → Refused true d m n → Err n ≡ E d (Grammar.atomic a B) m
      atomic_refused a o = entry_refused (Grammar.atomic a B) true (λ f k. Pest.atomic a (f B) k) (λ room f k. refl) d m n o

      pub rule_refused : (line r : ℕ) → Refused true d m n → Err n ≡ E d (Grammar.rule line r B) m
      rule_refused line r o = entry_refused (Grammar.rule line r B) true (λ f k. Pest.rule g true line r (f B) k) (λ room f k. refl) d m n o

  -- Toggled back or set: the body left the atomicity that it began with.
  atomic_same : (a b : Atomicity) (j : ParserState) (x : Ending ParserState) → LeftFrom g (Pest.set_atomicity a j) x
      → atomic_back b x ≡ Pest.atomic_end (not (Pest.same_atomicity b a)) b x
  atomic_same a b j (Ok k) w = ap Ok (sym (toggled_back g b a k w.atom))
  atomic_same a b j (Err k) w = ap Err (sym (toggled_back g b a k w.atom))
  atomic_same a b j (Stop c) w = refl

  -- An entry that is let in, and what comes after it.
  module _ (body : ℕ) where
    abbrev C : Exp
    C = tree_at ns literals body

    -- The rule's end, over its body's ending.
    abbrev rule_over : (n : ParserState) (line r : ℕ) → Ending ParserState → Ending ParserState
    rule_over n line r x =
        let w : Noted = noted n.position (tried_of n) in
        Pest.rule_end g true line r n.position (length n.queue) w.positives w.negatives w.total x

    module _ {d j : ℕ} {m n : ParserState} where
      pub sequence_step : Opened true d j m n → {u : ParserState} → u ≡ Pest.checkpoint n → {x : Ending ParserState} → x ≡ E j C u
          → {i : ℕ} → length n.queue ≡ i → {p : ℕ} → n.position ≡ p → {y : Ending ParserState} → y ≡ Pest.sequence_end i p x
          → y ≡ E d (Grammar.sequence C) m
      sequence_step o v {x} w q h z =
          z ∙ ap₂ (λ (j k : ℕ). Pest.sequence_end j k x) (sym q) (sym h) ∙ ap (Pest.sequence_end (length n.queue) n.position) (w ∙ ap (E j C) v)
          ∙ entry_open (Grammar.sequence C) true (λ f k. Pest.sequence (f C) k) (λ room f k. refl) d j m n o

      pub optional_step : Opened true d j m n → {x : Ending ParserState} → x ≡ E j C n → {y : Ending ParserState} → y ≡ Pest.optional x
          → y ≡ E d (Grammar.optional C) m
      optional_step o w z = z ∙ ap Pest.optional w ∙ entry_open (Grammar.optional C) true (λ f k. Pest.optional (f C k)) (λ room f k. refl) d j m n o

      pub restore_step : Opened false d j m n → {u : ParserState} → u ≡ Pest.checkpoint n → {x : Ending ParserState} → x ≡ E j C u
          → {y : Ending ParserState} → y ≡ Pest.restore_on_err_end x → y ≡ E d (Grammar.restore_on_err C) m
      restore_step o v w z =
          z ∙ ap Pest.restore_on_err_end (w ∙ ap (E j C) v)
          ∙ entry_open (Grammar.restore_on_err C) false (λ f k. Pest.restore_on_err (f C) k) (λ room f k. refl) d j m n o

      pub lookahead_step : (positive : Bool) → Opened true d j m n → {l : Lookahead} → n.lookahead ≡ l
          → {u : ParserState} → u ≡ Pest.checkpoint (Pest.set_lookahead (Pest.lookahead_in positive l) n) → {x : Ending ParserState} → x ≡ E j C u
          → {p : ℕ} → n.position ≡ p → {y : Ending ParserState} → y ≡ Pest.lookahead_end positive l p x → y ≡ E d (Grammar.lookahead positive C) m
      lookahead_step positive o q v {x} w h z =
          let marked = λ (j : Lookahead). Pest.checkpoint (Pest.set_lookahead (Pest.lookahead_in positive j) n) in
          z ∙ ap₂ (λ (j : Lookahead) (k : ℕ). Pest.lookahead_end positive j k x) (sym q) (sym h)
          ∙ ap (Pest.lookahead_end positive n.lookahead n.position) (w ∙ ap (E j C) (v ∙ ap marked (sym q)))
          ∙ entry_open (Grammar.lookahead positive C) true (λ f k. Pest.lookahead positive (f C) k) (λ room f k. refl) d j m n o

      pub push_step : (line : ℕ) → Opened true d j m n → {x : Ending ParserState} → x ≡ E j C n → {p : ℕ} → n.position ≡ p
          → {y : Ending ParserState} → y ≡ Pest.push_end text true line p x → y ≡ E d (Grammar.stack_push line C) m
      push_step line o {x} w h z =
          z ∙ ap (λ (k : ℕ). Pest.push_end text true line k x) (sym h) ∙ ap (Pest.push_end text true line n.position) w
          ∙ entry_open (Grammar.stack_push line C) true (λ f k. Pest.stack_push text true line (f C) k) (λ room f k. refl) d j m n o

      pub atomic_step : (a : Atomicity) → Opened true d j m n → {tokens scratch : List ℕ} → R tokens scratch j (Pest.set_atomicity a n)
          → {x : Ending ParserState} → x ≡ E j C (Pest.set_atomicity a n) → {b : Atomicity} → n.atomicity ≡ b → {y : Ending ParserState}
          → y ≡ atomic_back b x → y ≡ E d (Grammar.atomic a C) m
      atomic_step a o {tokens} {scratch} r {x} w h z =
          let t : Bool = not (Pest.same_atomicity n.atomicity a) in
          z ∙ ap (λ (j : Atomicity). atomic_back j x) (sym h)
          ∙ atomic_same a n.atomicity n x (kept tokens scratch j body (Pest.set_atomicity a n) x r w)
          ∙ ap (Pest.atomic_end t n.atomicity) (w ∙ ap (E j C) (sym (toggled g n.atomicity a n refl)))
          ∙ entry_open (Grammar.atomic a C) true (λ f k. Pest.atomic a (f C) k) (λ room f k. refl) d j m n o

      rule_whole : (line r : ℕ) → Opened true d j m n → on_ok (starting g line n) (λ k. rule_over n line r (E j C k)) ≡ E d (Grammar.rule line r C) m
      rule_whole line r o =
          sym (rule_is g line r (E j C) n)
          ∙ entry_open (Grammar.rule line r C) true (λ f k. Pest.rule g true line r (f C) k) (λ room f k. refl) d j m n o

      pub rule_err : (line r : ℕ) → Opened true d j m n → {u : ParserState} → Err u ≡ starting g line n → Err u ≡ E d (Grammar.rule line r C) m
      rule_err line r o w = ap (λ (e : Ending ParserState). on_ok e (λ k. rule_over n line r (E j C k))) w ∙ rule_whole line r o

      pub rule_stop : (line r : ℕ) → Opened true d j m n → {c : Halted} → Stop c ≡ starting g line n → Stop c ≡ E d (Grammar.rule line r C) m
      rule_stop line r o w = ap (λ (e : Ending ParserState). on_ok e (λ k. rule_over n line r (E j C k))) w ∙ rule_whole line r o

      pub rule_step : (line r : ℕ) → Opened true d j m n → {u : ParserState} → Ok u ≡ starting g line n → {x : Ending ParserState} → x ≡ E j C u
          → {i : ℕ} → length n.queue ≡ i → {p : ℕ} → n.position ≡ p → {w : Noted} → w ≡ noted p (tried_of n)
          → {y : Ending ParserState} → y ≡ Pest.rule_end g true line r p i w.positives w.negatives w.total x → y ≡ E d (Grammar.rule line r C) m
      rule_step line r o s {x} f q {p} k h z =
          let at = λ (j : ℕ). noted j (tried_of n) in
          z ∙ ap₂ (λ (j : ℕ) (v : Noted). Pest.rule_end g true line r p j v.positives v.negatives v.total x) (sym q) h
          ∙ ap (λ (j : ℕ). Pest.rule_end g true line r j (length n.queue) (at j).positives (at j).negatives (at j).total x) (sym k)
          ∙ ap (rule_over n line r) f
          ∙ ap (λ (e : Ending ParserState). on_ok e (λ k. rule_over n line r (E j C k))) s
          ∙ rule_whole line r o

  -- The state with the rule's Start.
  abbrev Begins : ParserState → Ending ParserState → Type 0
  Begins n (Ok u) = Fit g u × (length u.stack.lengths ≡ length n.stack.lengths) × (length n.queue ≤ length u.queue)
  Begins n (Err u) = Unit {0}
  Begins n (Stop c) = Unit {0}

  begins : (line : ℕ) (n : ParserState) → Fit g n → Begins n (starting g line n)
  begins line n f = go (Pest.produces n)
    where
      s : ParserState
      s = Pest.set_queue (n.queue ++ (Pest.Start 0 n.position ∷ [])) n

      room : (c : Bool) → leb capacity (length n.queue) ≡ c → Begins n (stop_if c (Pest.halted (Cause-of.TokensFull line) n) (λ _. Ok s))
      room true e = tt
      room false e = (
        pushed_fit g n n.queue (Pest.Start 0 n.position) f refl e,
        refl,
        omega (arith, length-append n.queue (Pest.Start 0 n.position ∷ [])),
      )

      go : (c : Bool)
          → Begins n (elim c [ false ↦ Ok n | true ↦ stop_if (leb capacity (length n.queue)) (Pest.halted (Cause-of.TokensFull line) n) (λ _. Ok s) ])
      go false = (f, refl, omega arith)
      go true = room (leb capacity (length n.queue)) refl

  pub begun : {tokens scratch : List ℕ} {d : ℕ} {n : ParserState} {j : ℕ} → j + 1 ≡ d → R tokens scratch d n
      → {b : List ℕ} (line : ℕ) {u : ParserState} → Ok u ≡ starting g line n
      → length b ≡ length tokens → R b scratch j u
  begun {n = n} h r {b} line {u} e s =
      let w : Begins n (Ok u) = subst (Begins n) (sym e) (begins line n r.fit) in
      ready_on r s refl w.0 (omega (arith, h, w.1, r.deep))

  pub recording_of : {tokens scratch : List ℕ} {d : ℕ} (s : Code.ParserState) → R tokens scratch d (view tokens scratch s)
      → Recording tokens capacity s
  recording_of s r = record { room = r.area; most = r.small; near = omega (arith, r.fit.edge.inside, r.short) }

  pub few_of : {tokens scratch : List ℕ} {d : ℕ} (s : Code.ParserState) → R tokens scratch d (view tokens scratch s) → Few s.attempts
  few_of {tokens} {scratch} s r = let w : StateReady scratch s = state_of s r in record { few_positives = w.positives; few_negatives = w.negatives }

  -- ── What the leaf after the body asks, from the body's equation ──
  module _ (body : ℕ) {d : ℕ} {tokens₀ scratch₀ : List ℕ} {m : ParserState} (r₀ : R tokens₀ scratch₀ d m) (tokens scratch : List ℕ)
      (size : length scratch ≡ length scratch₀)
      (s : Code.ParserState) (r : Coded.Ending) (e : view_end tokens scratch s r ≡ E d (tree_at ns literals body) m) where
    left : LeftFrom g m (view_end tokens scratch s r)
    left = kept tokens₀ scratch₀ d body m (view_end tokens scratch s r) r₀ e

    marks_few : length m.stack.lengths ≤ 1024
    marks_few = omega (arith, r₀.deep)

    room_same : 4864 ≤ length scratch
    room_same = rw size r₀.room

    pub body_ready : {n : ℕ} → n ≤ length m.queue → EndReady scratch n s r
    body_ready {n} h = end_ready m marks_few tokens scratch room_same n s r left h

    pub body_push : {start : BytePosition} → start.0 ≤ length text → PushEndReady scratch start s r
    body_push {start} h = push_ready m marks_few tokens scratch room_same start s r left r₀.short h

    pub body_rule : length tokens ≡ length tokens₀ → {i : ℕ} → i ≤ capacity → RuleEndReady tokens scratch capacity i s r
    body_rule t {i} h = rule_ready m marks_few tokens scratch room_same i s r left (rw t r₀.area) r₀.small r₀.short h

  -- Lookahead and atomicity are not looked at.
  pub ready_looking : {tokens scratch : List ℕ} {d : ℕ} {m : ParserState} → R tokens scratch d m → (l : Lookahead)
      → R tokens scratch d (Pest.set_lookahead l m)
  ready_looking {m = m} r l = ready_on {m = m} {n = Pest.set_lookahead l m} r refl refl r.fit r.deep

  pub ready_atom : {tokens scratch : List ℕ} {d : ℕ} {m : ParserState} → R tokens scratch d m → (a : Atomicity)
      → R tokens scratch d (Pest.set_atomicity a m)
  ready_atom {m = m} r a = ready_on {m = m} {n = Pest.set_atomicity a m} r refl refl r.fit r.deep

  -- A rule's Start has a place in the queue.
  pub place_of : {tokens scratch : List ℕ} {d : ℕ} (s : Code.ParserState) → R tokens scratch d (view tokens scratch s) → s.queue.0 ≤ capacity
  place_of {tokens} s r = omega (arith, r.fit.room, queue_length tokens s.queue.0)
