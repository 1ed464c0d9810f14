-- The reading and pest, with document 01's stops, end alike, for every tree and depth: pest's state is computed from the reading's,
-- the open rules and what was popped, and each combinator brings related states to related endings.
use Rattle.std.specs.Prelude.{if◌then◌else◌}
use mathlib.Core.Path.{◌≡◌, refl, sym, ap, ap₂, ◌∙◌, subst}
use mathlib.Core.Bool.{Bool, true, false, ◌&&◌, ◌||◌, not}
use mathlib.Core.List.{List, [], ◌∷◌, ◌++◌, append-nil}
use Rattle.std.specs.Prelude.{Option, None, Some}
use Prim.Native.Nat.{ℕ, zero, suc, ◌+◌, ◌-◌, ◌<◌}
use native.Mathlib.Omega.{arith}
use lib.IntN.{ℤ}
use lib.ListN.{length, take, set, get_or, length-append, length-set}
use lib.Dec.{eqb, ltb, leb}
use borrow.Author.Tests.{eqb-true, eqb-false, eq-eqb, ne_eqb, ltb-true, lt-ltb, le-ltb}
use Rattle.matching.specs.Position as Position
use Rattle.reading.specs.declared.parser_state.Lookahead.{Lookahead}
use Rattle.reading.specs.declared.parser_state.Lookahead.TheVariants.{Positive, Negative}
use Rattle.reading.specs.declared.parser_state.Lookahead.TheVariants as Looks
use Rattle.reading.specs.declared.parser_state.Atomicity.{Atomicity}
use Rattle.reading.specs.declared.parser_state.Cause.{Cause}
use Rattle.reading.specs.declared.call_limit_tracker.LimitKind.{LimitKind}
use Rattle.reading.specs.Ending.{Halted, Ending, Ok, Err, Stop, on_ok, on_err, stop_if, Span, is_negative, is_none, is_atomic}
use Rattle.reading.specs.Grammar as Grammar
use Rattle.reading.specs.Grammar.{Exp, RuleLine}
use Rattle.reading.specs.Forest.{Forest, empty, add, count, size, cut, tag_last}
use Rattle.reading.specs.Reading as Reading
use Rattle.reading.specs.Reading.{Setting, State, Tracker, Attempts, Note, most_entries, most_debt, most_rounds, debt}
use Rattle.reading.specs.Pest as Pest
use Rattle.reading.specs.Pest.{ParserState, QueueableToken, CallLimit, CallLimitTracker, Entered}
use Rattle.reading.proofs.Trees.{Literals, still, Steady}
use Rattle.reading.proofs.Matchers.{string_same, folded_same, range_same, skip_same, entries_same, index_same, end_same, slice_same}
use Rattle.reading.proofs.StackLaws.{Stk, Inv, pest, inv_push, inv_snapshot, inv_pop, inv_restore, inv_clear, Popped, Restored, Cleared}
use Rattle.reading.proofs.QueueLaws.{Open, inside, prefix, queue_from, length_queue, Grows, grows_refl, grows_trans, grows_add, grows_tag}
use Rattle.reading.proofs.QueueLaws.{grows_cut, truncate_queue, tag_queue, length_prefix, close_queue, drop_rule}
use Rattle.reading.specs.Fit.{Fit}
use Rattle.reading.proofs.Invariant.{keeps_ok, keeps_err, Keeping, KeepsFrom, Tested, checkpoint_fit, pushed_fit, toggled, toggled_back}
use Rattle.reading.proofs.Invariant.{level_keeps, eval_keeps, refused_keeps}

-- ── The relation ──
abbrev budget : (limit counted : ℕ) → Option CallLimit
budget zero n = None
budget (suc l) n = Some (record { current = n; limit = suc l })

abbrev tracker_of : Tracker → CallLimitTracker
tracker_of t = record { current_call_limit = budget t.limit t.counted; limit_reached = t.cause; calls = Reading.calls_in t }

-- pest's state that stands for the state s inside the open rules o, with the popped entries p.
abbrev pub pest_of : Open → Stk → State → ParserState
pest_of o p s = record {
  position = s.position;
  queue = prefix o ++ queue_from s.outer s.siblings;
  lookahead = s.lookahead;
  pos_attempts = s.attempts.positive;
  neg_attempts = s.attempts.negative;
  attempt_pos = s.attempts.furthest;
  atomicity = s.atomicity;
  stack = pest s.stack p s.checkpoints;
  call_tracker = tracker_of s.tracker;
}

-- What holds of a state inside the open rules o and the checkpoints that saved ss.
pub record Good (o : Open) (ss : List Stk) (p : Stk) (s : State) : Type 0 where
  pub base : s.outer ≡ length (prefix o)
  pub inv : Inv s.stack ss p s.checkpoints

-- What an evaluation keeps of lookahead, atomicity and siblings.
pub record Kept (l : Lookahead) (a : Atomicity) (f : Forest) (s : State) : Type 0 where
  pub look : s.lookahead ≡ l
  pub atom : s.atomicity ≡ a
  pub grown : Grows f s.siblings

pub data Sim (o : Open) (ss : List Stk) (l : Lookahead) (a : Atomicity) (f : Forest) : Ending State → Ending ParserState → Type 0 where
  sim_ok : (s : State) (p : Stk) → Good o ss p s → Kept l a f s → Sim o ss l a f (Ok s) (Ok (pest_of o p s))
  sim_err : (s : State) (p : Stk) → Good o ss p s → Kept l a f s → Sim o ss l a f (Err s) (Err (pest_of o p s))
  sim_stop : (h : Halted) → Sim o ss l a f (Stop h) (Stop h)

-- Endings that began at s.
abbrev SimFrom : Open → List Stk → State → Ending State → Ending ParserState → Type 0
SimFrom o ss s x y = Sim o ss s.lookahead s.atomicity s.siblings x y

module _ (g : Setting) where
  -- The reading's function and pest's give related endings on related states.
  abbrev pub Preserves : (State → Ending State) → (ParserState → Ending ParserState) → Type 0
  Preserves r m = (o : Open) (ss : List Stk) (p : Stk) (s : State) → Good o ss p s → Fit g (pest_of o p s) → SimFrom o ss s (r s) (m (pest_of o p s))

  ok_by : {o : Open} {ss : List Stk} {l : Lookahead} {a : Atomicity} {f : Forest} (s : State) (p : Stk) (m : ParserState)
      → m ≡ pest_of o p s → Good o ss p s → Kept l a f s → Sim o ss l a f (Ok s) (Ok m)
  ok_by s p m e k h = rw e (sim_ok s p k h)

  err_by : {o : Open} {ss : List Stk} {l : Lookahead} {a : Atomicity} {f : Forest} (s : State) (p : Stk) (m : ParserState)
      → m ≡ pest_of o p s → Good o ss p s → Kept l a f s → Sim o ss l a f (Err s) (Err m)
  err_by s p m e k h = rw e (sim_err s p k h)

  kept_self : (s : State) → Kept s.lookahead s.atomicity s.siblings s
  kept_self s = record { look = refl; atom = refl; grown = grows_refl s.siblings }

  kept_trans : {l : Lookahead} {a : Atomicity} {f : Forest} {s : State} → Kept l a f s → {t : State}
      → Kept s.lookahead s.atomicity s.siblings t → Kept l a f t
  kept_trans k h = record { look = h.look ∙ k.look; atom = h.atom ∙ k.atom; grown = grows_trans k.grown h.grown }

  -- A later evaluation's ending, seen from an earlier state.
  from_earlier : {o : Open} {ss : List Stk} {l : Lookahead} {a : Atomicity} {f : Forest} {s : State} → Kept l a f s
      → (r : Ending State) (m : Ending ParserState) → SimFrom o ss s r m → Sim o ss l a f r m
  from_earlier k r m (sim_ok t p i h) = sim_ok t p i (kept_trans k h)
  from_earlier k r m (sim_err t p i h) = sim_err t p i (kept_trans k h)
  from_earlier k r m (sim_stop c) = sim_stop c

  -- Where both sides stop, or neither.
  both_stop : {o : Open} {ss : List Stk} {l : Lookahead} {a : Atomicity} {f : Forest} (h : Halted) (x : Ending State)
      (y : Ending ParserState) (b : Bool)
      → Sim o ss l a f x y → Sim o ss l a f (stop_if b h (λ _. x)) (stop_if b h (λ _. y))
  both_stop h x y true k = sim_stop h
  both_stop h x y false k = k

  -- ── Kinds 6 and 7 ──
  and_sim : {b : Bool} (r₁ r₂ : State → Ending State) (m₁ m₂ : ParserState → Ending ParserState) → Preserves r₁ m₁ → Preserves r₂ m₂ → Keeping g b m₁
      → Preserves (λ s. on_ok (r₁ s) (λ t. r₂ t)) (λ m. on_ok (m₁ m) (λ n. m₂ n))
  and_sim {b} r₁ r₂ m₁ m₂ h₁ h₂ k₁ o ss p s i v = go (r₁ s) (m₁ (pest_of o p s)) (h₁ o ss p s i v) (k₁ (pest_of o p s) v)
    where
      go : (r : Ending State) (m : Ending ParserState) → SimFrom o ss s r m → KeepsFrom g b (pest_of o p s) m
          → SimFrom o ss s (on_ok r (λ t. r₂ t)) (on_ok m (λ n. m₂ n))
      go r m (sim_ok t q j k) (keeps_ok n w d) = from_earlier k (r₂ t) (m₂ (pest_of o q t)) (h₂ o ss q t j w.fit)
      go r m (sim_err t q j k) w = sim_err t q j k
      go r m (sim_stop c) w = sim_stop c

  or_sim : {b : Bool} (r₁ r₂ : State → Ending State) (m₁ m₂ : ParserState → Ending ParserState) → Preserves r₁ m₁ → Preserves r₂ m₂ → Keeping g b m₁
      → Preserves (λ s. on_err (r₁ s) (λ t. r₂ t)) (λ m. on_err (m₁ m) (λ n. m₂ n))
  or_sim {b} r₁ r₂ m₁ m₂ h₁ h₂ k₁ o ss p s i v = go (r₁ s) (m₁ (pest_of o p s)) (h₁ o ss p s i v) (k₁ (pest_of o p s) v)
    where
      go : (r : Ending State) (m : Ending ParserState) → SimFrom o ss s r m → KeepsFrom g b (pest_of o p s) m
          → SimFrom o ss s (on_err r (λ t. r₂ t)) (on_err m (λ n. m₂ n))
      go r m (sim_ok t q j k) w = sim_ok t q j k
      go r m (sim_err t q j k) (keeps_err n w) = from_earlier k (r₂ t) (m₂ (pest_of o q t)) (h₂ o ss q t j w.fit)
      go r m (sim_stop c) w = sim_stop c

  -- ── Kinds 1 to 5: a move, or none ──
  moved_both : (x : Option ℕ) (o : Open) (ss : List Stk) (p : Stk) (s : State) → Good o ss p s
      → SimFrom o ss s (Reading.moved x s) (Pest.moved x (pest_of o p s))
  moved_both None o ss p s i = sim_err s p i (kept_self s)
  moved_both (Some n) o ss p s i = sim_ok (Reading.at_position n s) p (record { base = i.base; inv = i.inv }) (kept_self (Reading.at_position n s))

  -- The two positions are the same wherever the state is fit.
  moved_sim : (q mq : ℕ → Option ℕ) → ((m : ParserState) → Fit g m → q m.position ≡ mq m.position)
      → Preserves (λ s. Reading.moved (q s.position) s) (λ m. Pest.moved (mq m.position) m)
  moved_sim q mq e o ss p s i v = rw (← e (pest_of o p s) v) (moved_both (q s.position) o ss p s i)

  end_sim : Preserves (λ s. if Position.at_end g.text s.position then Ok s else Err s) (λ m. if Pest.at_end g.text m.position then Ok m else Err m)
  end_sim o ss p s i v = go (eqb s.position (length g.text))
    where
      go : (b : Bool) → SimFrom o ss s (if b then Ok s else Err s) (if b then Ok (pest_of o p s) else Err (pest_of o p s))
      go true = sim_ok s p i (kept_self s)
      go false = sim_err s p i (kept_self s)

-- ── Entering ──
data EnterSim : Reading.Entry → Entered → Type 0 where
  in_both : (t : Tracker) → EnterSim (Reading.entered t) (record { answer = true; tracker = tracker_of t })
  out_both : (t : Tracker) → EnterSim (Reading.refused t) (record { answer = false; tracker = tracker_of t })

-- A tracker by its parts.
abbrev pub tracker_at : (limit counted : ℕ) → Option LimitKind → Tracker
tracker_at l n c = record { limit = l; counted = n; cause = c }

-- One call more, of a number that stays at its largest.
called_one : (l n : ℕ) (c : Option LimitKind) → Pest.called (Reading.calls_in (tracker_at l n c)) ≡ Reading.calls_in (tracker_at l (suc n) c)
called_one l n c = omega arith

enter_sim : (limit n : ℕ) (c : Option LimitKind) (room counts : Bool)
    → EnterSim (Reading.enter room counts (tracker_at limit n c)) (Pest.enter room counts (tracker_of (tracker_at limit n c)))
enter_sim limit n (Some x) room counts = out_both (tracker_at limit n (Some x))
enter_sim zero n None true true = rw (called_one 0 n None) (in_both (tracker_at 0 (suc n) None))
enter_sim zero n None false true = out_both (tracker_at 0 n (Some LimitKind.Stack))
enter_sim zero n None true false = in_both (tracker_at 0 n None)
enter_sim zero n None false false = out_both (tracker_at 0 n (Some LimitKind.Stack))
enter_sim (suc l) n None true false = in_both (tracker_at (suc l) n None)
enter_sim (suc l) n None false false = out_both (tracker_at (suc l) n (Some LimitKind.Stack))
enter_sim (suc l) n None room true = go (leb (suc l) n) refl room
  where
    t : Tracker
    t = tracker_at (suc l) n None

    go : (b : Bool) → leb (suc l) n ≡ b → (room : Bool) → EnterSim (Reading.enter room true t) (Pest.enter room true (tracker_of t))
    go true e x = rw e (out_both (tracker_at (suc l) n (Some LimitKind.Call)))
    go false e true = rw (e, called_one (suc l) n None) (in_both (tracker_at (suc l) (suc n) None))
    go false e false = rw e (out_both (tracker_at (suc l) n (Some LimitKind.Stack)))

module _ (g : Setting) where
  entering_sim : (room counts : Bool) (k : State → Ending State) (mk : ParserState → Ending ParserState) → Preserves g k mk
      → Preserves g (λ s. Reading.entering room counts s k) (λ m. Pest.check_limit room counts m mk)
  entering_sim room counts k mk h o ss p s i v = go _ _ (enter_sim s.tracker.limit s.tracker.counted s.tracker.cause room counts)
    where
      go : (e : Reading.Entry) (x : Entered) → EnterSim e x
          → SimFrom o ss s
          (elim e [ Reading.refused t ↦ Err (Reading.with_tracker t s) | Reading.entered t ↦ k (Reading.with_tracker t s) ])
          (elim x.answer [
            | false ↦ Err (Pest.set_call_tracker x.tracker (pest_of o p s))
            | true ↦ mk (Pest.set_call_tracker x.tracker (pest_of o p s))
          ])
      go e x (in_both t) = h o ss p (Reading.with_tracker t s) (record { base = i.base; inv = i.inv }) v
      go e x (out_both t) = sim_err (Reading.with_tracker t s) p (record { base = i.base; inv = i.inv }) (kept_self g (Reading.with_tracker t s))

  -- ── Kinds 9 and 18 ──
  -- A checkpoint dropped, after Ok.
  dropped_sim : {o : Open} {v : Stk} {ss : List Stk} {l : Lookahead} {a : Atomicity} {f : Forest} (t : State) (q : Stk)
      → Good o (v ∷ ss) q t → Kept l a f t
      → Sim o ss l a f (Ok (Reading.drop_checkpoint t)) (Ok (Pest.checkpoint_ok (pest_of o q t)))
  dropped_sim {o} {v} {ss} t q i k =
      let c : Cleared t.stack ss q t.checkpoints = inv_clear i.inv in
      ok_by g (Reading.drop_checkpoint t) c.left _
      (ap (λ (v : Pest.Stack). Pest.set_stack v (pest_of o q t)) c.same)
      (record { base = i.base; inv = c.inv })
      (record { look = k.look; atom = k.atom; grown = k.grown })

  sequence_sim : (r : State → Ending State) (m : ParserState → Ending ParserState) → Preserves g r m
      → Preserves g (λ s. Reading.sequence_end s (r (Reading.open_checkpoint s))) (λ x. Pest.sequence m x)
  sequence_sim r m h o ss p s i v = go _ _ (h o (s.stack ∷ ss) p (Reading.open_checkpoint s)
      (record { base = i.base; inv = inv_snapshot i.inv }) (checkpoint_fit g (pest_of o p s) v))
    where
      go : (x : Ending State) (y : Ending ParserState) → SimFrom o (s.stack ∷ ss) s x y
          → SimFrom o ss s (Reading.sequence_end s x) (Pest.sequence_end (length (prefix o ++ queue_from s.outer s.siblings)) s.position y)
      go x y (sim_ok t q j k) = dropped_sim t q j k
      go x y (sim_err t q j k) =
          let c : Restored t.stack s.stack ss q t.checkpoints = inv_restore j.inv in
          let n : s.outer ≡ t.outer = i.base ∙ sym j.base in
          let e : take (length (prefix o ++ queue_from s.outer s.siblings)) (prefix o ++ queue_from t.outer t.siblings)
          ≡ prefix o ++ queue_from t.outer (cut (count s.siblings) t.siblings) = rw n (truncate_queue (prefix o) t.outer k.grown) in
          err_by g
          (Reading.restore_stack s.stack (Reading.at_position s.position
          (Reading.with_siblings (cut (count s.siblings) t.siblings) t.outer t))) c.left _
          (ap₂ (λ (v : Pest.Stack) (l : List QueueableToken). Pest.set_stack v
          (Pest.set_queue l (Pest.set_position s.position (pest_of o q t)))) c.same e)
          (record { base = j.base; inv = c.inv })
          (record { look = k.look; atom = k.atom; grown = grows_cut k.grown })
      go x y (sim_stop c) = sim_stop c

  restore_sim : (r : State → Ending State) (m : ParserState → Ending ParserState) → Preserves g r m
      → Preserves g (λ s. Reading.restore_end s (r (Reading.open_checkpoint s))) (λ x. Pest.restore_on_err m x)
  restore_sim r m h o ss p s i v = go _ _ (h o (s.stack ∷ ss) p (Reading.open_checkpoint s)
      (record { base = i.base; inv = inv_snapshot i.inv }) (checkpoint_fit g (pest_of o p s) v))
    where
      go : (x : Ending State) (y : Ending ParserState) → SimFrom o (s.stack ∷ ss) s x y
          → SimFrom o ss s (Reading.restore_end s x) (Pest.restore_on_err_end y)
      go x y (sim_ok t q j k) = dropped_sim t q j k
      go x y (sim_err t q j k) =
          let c : Restored t.stack s.stack ss q t.checkpoints = inv_restore j.inv in
          err_by g (Reading.restore_stack s.stack t) c.left _
          (ap (λ (v : Pest.Stack). Pest.set_stack v (pest_of o q t)) c.same)
          (record { base = j.base; inv = c.inv })
          (record { look = k.look; atom = k.atom; grown = k.grown })
      go x y (sim_stop c) = sim_stop c

  -- ── Kinds 10 and 11 ──
  -- An Err with a limit cause stays, without one it is Ok.
  forgiven : {o : Open} {ss : List Stk} {l : Lookahead} {a : Atomicity} {f : Forest} (b : Bool) (t : State) (q : Stk) → Good o ss q t → Kept l a f t
      → Sim o ss l a f (if b then Err t else Ok t) (if b then Err (pest_of o q t) else Ok (pest_of o q t))
  forgiven true t q j k = sim_err t q j k
  forgiven false t q j k = sim_ok t q j k

  optional_sim : (r : State → Ending State) (m : ParserState → Ending ParserState) → Preserves g r m
      → Preserves g (λ s. Reading.optional_end (r s)) (λ x. Pest.optional (m x))
  optional_sim r m h o ss p s i v = go (r s) (m (pest_of o p s)) (h o ss p s i v)
    where
      go : (x : Ending State) (y : Ending ParserState) → SimFrom o ss s x y → SimFrom o ss s (Reading.optional_end x) (Pest.optional y)
      go x y (sim_ok t q j k) = sim_ok t q j k
      go x y (sim_err t q j k) = forgiven (Reading.limited t) t q j k
      go x y (sim_stop c) = sim_stop c

  rounds_sim : {b : Bool} (n : ℕ) (r : State → Ending State) (m : ParserState → Ending ParserState) → Preserves g r m → Keeping g b m
      → Preserves g (λ s. Reading.rounds n r s) (λ x. Pest.repeat n m x)
  rounds_sim zero r m h k o ss p s i v = sim_err s p i (kept_self g s)
  rounds_sim {b} (suc n) r m h k o ss p s i v = go (rounds_sim n r m h k) (r s) (m (pest_of o p s)) (h o ss p s i v) (k (pest_of o p s) v)
    where
      go : Preserves g (λ s. Reading.rounds n r s) (λ x. Pest.repeat n m x) → (x : Ending State) (y : Ending ParserState)
          → SimFrom o ss s x y → KeepsFrom g b (pest_of o p s) y
          → SimFrom o ss s (Reading.round_end x (λ t. Reading.rounds n r t)) (Pest.round_end y (λ t. Pest.repeat n m t))
      go ih x y (sim_ok t q j k) (keeps_ok u w d) = from_earlier g k _ _ (ih o ss q t j w.fit)
      go ih x y (sim_err t q j k) w = forgiven (Reading.limited t) t q j k
      go ih x y (sim_stop c) w = sim_stop c

  -- ── Kind 12 ──
  lookahead_same : (b : Bool) (l : Lookahead) → Reading.lookahead_in b l ≡ Pest.lookahead_in b l
  lookahead_same true Positive = refl
  lookahead_same true Negative = refl
  lookahead_same true Looks.None = refl
  lookahead_same false Positive = refl
  lookahead_same false Negative = refl
  lookahead_same false Looks.None = refl

  lookahead_sim : (b : Bool) (r : State → Ending State) (m : ParserState → Ending ParserState) → Preserves g r m
      → Preserves g (λ s. Reading.lookahead_end b s (r (Reading.open_checkpoint
      (Reading.with_lookahead (Reading.lookahead_in b s.lookahead) s)))) (λ x. Pest.lookahead b m x)
  lookahead_sim b r m h o ss p s i v =
      rw (← lookahead_same b s.lookahead)
      (go _ _ (h o (s.stack ∷ ss) p (Reading.open_checkpoint (Reading.with_lookahead (Reading.lookahead_in b s.lookahead) s))
      (record { base = i.base; inv = inv_snapshot i.inv })
      (checkpoint_fit g (pest_of o p (Reading.with_lookahead (Reading.lookahead_in b s.lookahead) s)) v)))
    where
      -- Limited or not, positive or not, Ok or Err: the same state on either side.
      out : (u : State) (q : Stk) (x : ParserState) → x ≡ pest_of o q u → Good o ss q u → Kept s.lookahead s.atomicity s.siblings u
          → (done c : Bool) → SimFrom o ss s (if done then Err u else if c then Ok u else Err u) (if done then Err x else if c then Ok x else Err x)
      out u q x e j k true c = err_by g u q x e j k
      out u q x e j k false true = ok_by g u q x e j k
      out u q x e j k false false = err_by g u q x e j k

      swapped : (u : State) (q : Stk) (x : ParserState) → x ≡ pest_of o q u → Good o ss q u → Kept s.lookahead s.atomicity s.siblings u
          → (done c : Bool) → SimFrom o ss s (if done then Err u else if c then Err u else Ok u) (if done then Err x else if c then Err x else Ok x)
      swapped u q x e j k true c = err_by g u q x e j k
      swapped u q x e j k false true = err_by g u q x e j k
      swapped u q x e j k false false = ok_by g u q x e j k

      -- Position, lookahead and stack as they were, the rest as the body left it.
      back : (t : State) (q : Stk) → Good o (s.stack ∷ ss) q t → (c : Restored t.stack s.stack ss q t.checkpoints)
          → Pest.restored (Pest.set_lookahead s.lookahead (Pest.set_position s.position (pest_of o q t))) ≡ pest_of o c.left (Reading.back_to s t)
      back t q j c = ap (λ (v : Pest.Stack). Pest.set_stack v (Pest.set_lookahead s.lookahead (Pest.set_position s.position (pest_of o q t)))) c.same

      go : (x : Ending State) (y : Ending ParserState) → Sim o (s.stack ∷ ss) (Reading.lookahead_in b s.lookahead) s.atomicity s.siblings x y
          → SimFrom o ss s (Reading.lookahead_end b s x) (Pest.lookahead_end b s.lookahead s.position y)
      go x y (sim_ok t q j k) =
          let c : Restored t.stack s.stack ss q t.checkpoints = inv_restore j.inv in
          out (Reading.back_to s t) c.left _ (back t q j c) (record { base = j.base; inv = c.inv })
          (record { look = refl; atom = k.atom; grown = k.grown }) (Reading.limited t) b
      go x y (sim_err t q j k) =
          let c : Restored t.stack s.stack ss q t.checkpoints = inv_restore j.inv in
          swapped (Reading.back_to s t) c.left _ (back t q j c) (record { base = j.base; inv = c.inv })
          (record { look = refl; atom = k.atom; grown = k.grown }) (Reading.limited t) b
      go x y (sim_stop c) = sim_stop c

  -- ── Kind 13 ──
  atomic_sim : (a : Atomicity) (r : State → Ending State) (m : ParserState → Ending ParserState) → Preserves g r m
      → Preserves g (λ s. Reading.atomic_end s (r (Reading.with_atomicity a s))) (λ x. Pest.atomic a m x)
  atomic_sim a r m h o ss p s i v =
      rw (toggled g s.atomicity a (pest_of o p s) refl) (go _ _ (h o ss p (Reading.with_atomicity a s) (record { base = i.base; inv = i.inv }) v))
    where
      go : (x : Ending State) (y : Ending ParserState) → Sim o ss s.lookahead a s.siblings x y
          → SimFrom o ss s (Reading.atomic_end s x) (Pest.atomic_end (not (Pest.same_atomicity s.atomicity a)) s.atomicity y)
      go x y (sim_ok t q j k) = ok_by g (Reading.with_atomicity s.atomicity t) q _ (toggled_back g s.atomicity a (pest_of o q t) k.atom)
          (record { base = j.base; inv = j.inv }) (record { look = k.look; atom = refl; grown = k.grown })
      go x y (sim_err t q j k) = err_by g (Reading.with_atomicity s.atomicity t) q _ (toggled_back g s.atomicity a (pest_of o q t) k.atom)
          (record { base = j.base; inv = j.inv }) (record { look = k.look; atom = refl; grown = k.grown })
      go x y (sim_stop c) = sim_stop c

  -- ── Kind 14 ──
  push_sim : (line : ℕ) (r : State → Ending State) (m : ParserState → Ending ParserState) → Preserves g r m
      → Preserves g (λ s. Reading.push_end line s (r s)) (λ x. Pest.stack_push g.text true line m x)
  push_sim line r m h o ss p s i v = go _ _ (h o ss p s i v)
    where
      go : (x : Ending State) (y : Ending ParserState) → SimFrom o ss s x y
          → SimFrom o ss s (Reading.push_end line s x) (Pest.push_end g.text true line s.position y)
      go x y (sim_ok t q j k) = both_stop g (Reading.halted (Cause.StackFull line) t) _ _ (leb most_entries (length t.stack))
          (sim_ok (Reading.with_stack (record { start = s.position; end = t.position } ∷ t.stack) t.checkpoints t) q
          (record { base = j.base; inv = inv_push _ j.inv }) (record { look = k.look; atom = k.atom; grown = k.grown }))
      go x y (sim_err t q j k) = sim_err t q j k
      go x y (sim_stop c) = sim_stop c

  -- ── Kinds 15 and 17 ──
  -- One entry popped on both sides.
  popping_sim : (line : ℕ) (x : Span) (rest : Stk) (k : State → Ending State) (mk : ParserState → Ending ParserState)
      (o : Open) (ss : List Stk) (p : Stk) (s : State) → Good o ss p s → s.stack ≡ x ∷ rest
      → ((q : Stk) → Good o ss q (Reading.with_stack rest (Reading.lower_to (length rest) s.checkpoints) s)
      → SimFrom o ss s (k (Reading.with_stack rest (Reading.lower_to (length rest) s.checkpoints) s))
      (mk (pest_of o q (Reading.with_stack rest (Reading.lower_to (length rest) s.checkpoints) s))))
      → SimFrom o ss s (Reading.popping g.text line rest s k) (Pest.popping g.text true line x rest (pest_of o p s) mk)
  popping_sim line x rest k mk o ss p s i e h =
      let c : Popped x rest ss p s.checkpoints = inv_pop x rest (rw e at i.inv) in
      subst (λ (v : Pest.Stack). SimFrom o ss s (Reading.popping g.text line rest s k)
      (stop_if (ltb most_debt (debt v.lengths)) (Reading.halted (Cause.StackFull line) s) (λ _. mk (Pest.set_stack v (pest_of o p s))))) (sym c.same)
      (both_stop g (Reading.halted (Cause.StackFull line) s) _ _ (ltb most_debt (debt (Reading.lower_to (length rest) s.checkpoints)))
      (h c.left (record { base = i.base; inv = c.inv })))

  pop_sim : (line : ℕ) → Preserves g (λ s. Reading.popped g.text line s.stack s) (λ m. Pest.stack_pop g.text true line m.stack.cache m)
  pop_sim line o ss p s i v = go s.stack refl
    where
      go : (c : Stk) → s.stack ≡ c → SimFrom o ss s (Reading.popped g.text line c s) (Pest.stack_pop g.text true line c (pest_of o p s))
      go [] e = sim_stop _
      go (x ∷ rest) e = popping_sim line x rest
          (λ t. Reading.moved (Reading.after_entry g.text x t.position) t)
          (λ m. Pest.moved (Pest.match_string g.text (Pest.as_str g.text x) m.position) m)
          o ss p s i e
          (λ q j. rw (← string_same g.text (Pest.as_str g.text x) s.position) (moved_both g (Reading.after_entry g.text x s.position) o ss q _ j))

  match_pop_sim : (line : ℕ) (c : Stk) (at : ℕ) (o : Open) (ss : List Stk) (p : Stk) (s : State) → Good o ss p s → s.stack ≡ c
      → SimFrom o ss s (Reading.match_popped g.text line c at s) (Pest.stack_match_pop g.text true line c at (pest_of o p s))
  match_pop_sim line [] at o ss p s i e = sim_ok (Reading.at_position at s) p (record { base = i.base; inv = i.inv })
      (kept_self g (Reading.at_position at s))
  match_pop_sim line (x ∷ rest) at o ss p s i e =
      popping_sim line x rest
      (λ t. elim (Reading.after_entry g.text x at) [ None ↦ Err t | Some q ↦ Reading.match_popped g.text line rest q t ])
      (λ m. elim (Pest.match_string g.text (Pest.as_str g.text x) at) [ None ↦ Err m | Some q ↦ Pest.stack_match_pop g.text true line rest q m ])
      o ss p s i e
      (λ q j. rw (← string_same g.text (Pest.as_str g.text x) at)
      (go q (λ n. match_pop_sim line rest n o ss q u j refl) j (Reading.after_entry g.text x at)))
    where
      u : State
      u = Reading.with_stack rest (Reading.lower_to (length rest) s.checkpoints) s

      go : (q : Stk) → ((n : ℕ) → SimFrom o ss s (Reading.match_popped g.text line rest n u)
          (Pest.stack_match_pop g.text true line rest n (pest_of o q u))) → Good o ss q u → (y : Option ℕ)
          → SimFrom o ss s (elim y [ None ↦ Err u | Some n ↦ Reading.match_popped g.text line rest n u ])
          (elim y [ None ↦ Err (pest_of o q u) | Some n ↦ Pest.stack_match_pop g.text true line rest n (pest_of o q u) ])
      go q ih j None = sim_err u q j (kept_self g u)
      go q ih j (Some n) = ih n

  -- ── Kind 16 ──
  peek_sim : (i : ℤ) (j : Option ℤ) (d : Bool) → Preserves g (λ s. Reading.peeked g.text i j d s) (λ m. Pest.stack_match_peek_slice g.text i j d m)
  peek_sim i j d o ss p s k w = subst (λ (x : Option ℕ). SimFrom o ss s (Reading.peeked g.text i j d s) (model x))
      (index_same i (length s.stack)) (first (Reading.index_in (length s.stack) i))
    where
      m : ParserState
      m = pest_of o p s

      third : (a z : ℕ) (b : Bool) → SimFrom o ss s
          (elim b [ true ↦ Ok s | false ↦ Reading.moved (Reading.after_entries g.text (Reading.entries a z d s.stack) s.position) s ])
          (elim b [ true ↦ Ok m | false ↦ Pest.moved (Pest.all_match g.text (Pest.slice a z d s.stack) s.position) m ])
      third a z true = sim_ok s p k (kept_self g s)
      third a z false = rw (← slice_same a z d s.stack, ← entries_same g.text (Reading.entries a z d s.stack) s.position)
          (moved_both g (Reading.after_entries g.text (Reading.entries a z d s.stack) s.position) o ss p s k)

      second : (a : ℕ) (y : Option ℕ) → SimFrom o ss s (elim y [ None ↦ Err s | Some z ↦ Reading.sliced g.text a z d s ])
          (elim y [
            | None ↦ Err m
            | Some z ↦ elim (leb z a)
                [ true ↦ Ok m | false ↦ Pest.moved (Pest.all_match g.text (Pest.slice a z d s.stack) s.position) m ]
          ])
      second a None = sim_err s p k (kept_self g s)
      second a (Some z) = third a z (leb z a)

      model_end : ℕ → Option ℕ → Ending ParserState
      model_end a y = elim y [
        | None ↦ Err m
        | Some z ↦ elim (leb z a)
            [ true ↦ Ok m | false ↦ Pest.moved (Pest.all_match g.text (Pest.slice a z d s.stack) s.position) m ]
      ]

      model : Option ℕ → Ending ParserState
      model x = elim x [ None ↦ Err m | Some a ↦ model_end a (Pest.normalize_end j (length s.stack)) ]

      reading_end : ℕ → Option ℕ → Ending State
      reading_end a y = elim y [ None ↦ Err s | Some z ↦ Reading.sliced g.text a z d s ]

      first : (x : Option ℕ) → SimFrom o ss s (elim x [ None ↦ Err s | Some a ↦ reading_end a (Reading.end_in (length s.stack) j) ]) (model x)
      first None = sim_err s p k (kept_self g s)
      first (Some a) = subst (λ (y : Option ℕ). SimFrom o ss s (reading_end a (Reading.end_in (length s.stack) j)) (model_end a y))
          (end_same j (length s.stack)) (second a (Reading.end_in (length s.stack) j))

  -- ── Kind 19 ──
  tag_sim : (u : ℕ) → Preserves g (λ s. Reading.tagged u s) (λ m. Pest.tag_node u m)
  tag_sim u o ss p s i v = go (is_none s.lookahead)
    where
      go : (b : Bool) → SimFrom o ss s
          (if b then Ok (Reading.with_siblings (tag_last u s.siblings) s.outer s) else Ok s)
          (if not b then Ok (pest_of o p s) else Ok (Pest.set_queue (Pest.tag_last u (prefix o ++ queue_from s.outer s.siblings)) (pest_of o p s)))
      go true = ok_by g (Reading.with_siblings (tag_last u s.siblings) s.outer s) p _
          (ap (λ (q : List QueueableToken). Pest.set_queue q (pest_of o p s)) (tag_queue u o s.outer s.siblings))
          (record { base = i.base; inv = i.inv })
          (record { look = refl; atom = refl; grown = grows_tag u (grows_refl s.siblings) })
      go false = sim_ok s p i (kept_self g s)

  -- ── Kind 8: tracking ──
  -- "if the count at p is now c+1" is pest's test of the difference.
  count_test : (c n : ℕ) → (ltb c n && eqb (n - c) 1) ≡ eqb n (suc c)
  count_test c n = go (eqb n (suc c)) refl (ltb c n) refl
    where
      go : (b : Bool) → eqb n (suc c) ≡ b → (d : Bool) → ltb c n ≡ d → (ltb c n && eqb (n - c) 1) ≡ eqb n (suc c)
      go true e d q =
          let h : n ≡ suc c = eqb-true n (suc c) e in
          rw (lt-ltb c n (omega arith), eq-eqb (n - c) 1 (omega arith), e)
      go false e true q =
          let h : c < n = ltb-true c n q in
          rw (q, ne_eqb (n - c) 1 (λ (x : n - c ≡ 1). eqb-false n (suc c) e (omega arith)), e)
      go false e false q = rw (q, e)

  cleared_is : (o : Open) (q : Stk) (t : State) (p : ℕ) (n : Note)
      → Pest.advance_attempts p (Pest.truncate_attempts p n.positives n.negatives (pest_of o q t))
      ≡ pest_of o q (Reading.with_attempts (Reading.cleared p n t.attempts) t)
  cleared_is o q t p n = go (eqb p t.attempts.furthest) refl (ltb t.attempts.furthest p) refl
    where
      go : (b : Bool) → eqb p t.attempts.furthest ≡ b → (c : Bool) → ltb t.attempts.furthest p ≡ c
          → Pest.advance_attempts p (Pest.truncate_attempts p n.positives n.negatives (pest_of o q t))
          ≡ pest_of o q (Reading.with_attempts (Reading.cleared p n t.attempts) t)
      go true e c d = rw (e, le-ltb t.attempts.furthest p (omega (arith, eqb-true p t.attempts.furthest e)))
      go false e true d = rw (e, d)
      go false e false d = rw (e, d)

  appended_is : (o : Open) (q : Stk) (t : State) (p r : ℕ)
      → Pest.push_attempt r p (pest_of o q t) ≡ pest_of o q (Reading.with_attempts (Reading.appended (is_negative t.lookahead) p r t.attempts) t)
  appended_is o q t p r = go (eqb p t.attempts.furthest) refl (is_negative t.lookahead) refl
    where
      go : (b : Bool) → eqb p t.attempts.furthest ≡ b → (c : Bool) → is_negative t.lookahead ≡ c
          → Pest.push_attempt r p (pest_of o q t) ≡ pest_of o q (Reading.with_attempts (Reading.appended (is_negative t.lookahead) p r t.attempts) t)
      go true e true d = rw (e, d)
      go true e false d = rw (e, d)
      go false e c d = rw e

  track_is : (o : Open) (q : Stk) (t : State) (r p : ℕ) (n : Note) → is_atomic t.atomicity ≡ false
      → Pest.track r p n.positives n.negatives n.total (pest_of o q t)
      ≡ pest_of o q (Reading.with_attempts (Reading.tracked (is_negative t.lookahead) p r n t.attempts) t)
  track_is o q t r p n h = rw (h, count_test n.total (Reading.count_at p t.attempts)) (go (eqb (Reading.count_at p t.attempts) (suc n.total)))
    where
      go : (b : Bool) → (if b then pest_of o q t
          else Pest.push_attempt r p (Pest.advance_attempts p (Pest.truncate_attempts p n.positives n.negatives (pest_of o q t))))
          ≡ pest_of o q (Reading.with_attempts (if b then t.attempts
          else Reading.appended (is_negative t.lookahead) p r (Reading.cleared p n t.attempts)) t)
      go true = refl
      go false = ap (Pest.push_attempt r p) (cleared_is o q t p n) ∙ appended_is o q (Reading.with_attempts (Reading.cleared p n t.attempts) t) p r

  -- Tracking on either side, and what follows.
  tracking_sim : (due : Bool) (line r p : ℕ) (n : Note) (o : Open) {l : Lookahead} {a : Atomicity} {f : Forest} {X : Open} {ss : List Stk}
      (k : State → Ending State) (mk : ParserState → Ending ParserState) (t : State) (q : Stk)
      → ((b : Attempts) → Sim X ss l a f (k (Reading.with_attempts b t)) (mk (pest_of o q (Reading.with_attempts b t))))
      → Sim X ss l a f (Reading.tracking due line r p n t k) (Pest.tracking g true due line r p n.positives n.negatives n.total (pest_of o q t) mk)
  tracking_sim due line r p n o {l} {a} {f} {X} {ss} k mk t q h = go due (is_atomic t.atomicity) refl
    where
      b : Attempts
      b = Reading.tracked (is_negative t.lookahead) p r n t.attempts

      -- pest's side, where it tracks
      model : ParserState → Ending ParserState
      model m = stop_if (ltb Reading.most_attempts (length m.pos_attempts) || ltb Reading.most_attempts (length m.neg_attempts))
          (Reading.halted (Cause.AttemptsFull line) t) (λ _. mk m)

      go : (due x : Bool) → is_atomic t.atomicity ≡ x
          → Sim X ss l a f (elim (due && not x) [
            | false ↦ k t
            | true ↦ stop_if (Reading.attempts_full b) (Reading.halted (Cause.AttemptsFull line) t)
                (λ _. k (Reading.with_attempts b t))
          ])
          (elim (due && not x) [ false ↦ mk (pest_of o q t) | true ↦ model (Pest.track r p n.positives n.negatives n.total (pest_of o q t)) ])
      go false x e = h t.attempts
      go true true e = h t.attempts
      go true false e =
          subst (λ (m : ParserState). Sim X ss l a f (stop_if (Reading.attempts_full b) (Reading.halted (Cause.AttemptsFull line) t) (λ _.
          k (Reading.with_attempts b t))) (model m)) (sym (track_is o q t r p n e))
          (both_stop g (Reading.halted (Cause.AttemptsFull line) t) _ _ (Reading.attempts_full b) (h b))

  -- ── Kind 8 ──
  -- pest's queue is as long as the tokens that the reading holds.
  pub held_is : (o : Open) (q : Stk) (t : State) → t.outer ≡ length (prefix o) → length (pest_of o q t).queue ≡ Reading.held t
  held_is o q t e = omega (arith, length-append (prefix o) (queue_from t.outer t.siblings), length_queue t.outer t.siblings)

  rule_sim : (line r : ℕ) (d : State → Ending State) (md : ParserState → Ending ParserState) → Preserves g d md
      → Preserves g (λ s. Reading.rule_body g line r d s) (λ x. Pest.rule g true line r md x)
  rule_sim line r d md h o ss p s i v = go (Reading.recorded s) refl
    where
      m : ParserState
      m = pest_of o p s

      -- The open rules with this one, and pest's state after its Start.
      o' : Open
      o' = inside o s.outer s.siblings s.position

      started : ParserState
      started = Pest.set_queue (m.queue ++ (Pest.Start 0 s.position ∷ [])) m

      n : Note
      n = Reading.note_at s.position s.attempts

      index : ℕ
      index = length m.queue

      m_end : Ending ParserState → Ending ParserState
      m_end y = Pest.rule_end g true line r s.position index n.positives n.negatives n.total y

      produces_as : (o : Open) (q : Stk) {f : Forest} (u : State) → Kept s.lookahead s.atomicity f u
          → Pest.produces (pest_of o q u) ≡ Reading.recorded s
      produces_as o q u k = ap₂ (λ (l : Lookahead) (a : Atomicity). is_none l && not (is_atomic a)) k.look k.atom

      -- Recorded, Ok: one pair more.
      patched : ParserState → List QueueableToken
      patched t = set t.queue index (Pest.with_end (length t.queue) (get_or t.queue index (Pest.Start 0 0)))

      closed_queue : (u : State) (q : Stk) → Good o' ss q u
          → patched (pest_of o' q u) ++ (Pest.End index r 0 u.position ∷ [])
          ≡ prefix o ++ queue_from s.outer (add s.siblings r 0 s.position u.position u.siblings)
      closed_queue u q j =
          let e : u.outer ≡ suc (s.outer + size s.siblings) = j.base ∙ sym (length_prefix o s.outer s.siblings s.position i.base) in
          rw e (close_queue o s.outer s.siblings s.position r u.position u.siblings i.base)

      closed_sim : Reading.recorded s ≡ true → (u : State) (q : Stk) → Good o' ss q u → Kept s.lookahead s.atomicity empty u
          → SimFrom o ss s (Reading.closed g true line r s u) (Pest.close_rule g true line r index (pest_of o' q u))
      closed_sim e u q j k =
          subst (λ (y : Ending ParserState). SimFrom o ss s (Reading.closed g true line r s u) y) (sym close_is)
          (subst (λ (c : ℕ). SimFrom o ss s (stop_if (leb g.capacity c) (Reading.halted (Cause.TokensFull line) u) (λ _. Ok w))
          (stop_if (leb g.capacity (length (patched x))) (Reading.halted (Cause.TokensFull line) u) (λ _.
          Ok (pushed (patched x ++ (Pest.End index r 0 u.position ∷ [])))))) tokens
          (both_stop g (Reading.halted (Cause.TokensFull line) u) (Ok w) _ (leb g.capacity (length (patched x)))
          (ok_by g w q _ (ap pushed (closed_queue u q j)) (record { base = i.base; inv = j.inv })
          (record { look = k.look; atom = k.atom; grown = grows_add r 0 s.position u.position u.siblings (grows_refl s.siblings) }))))
        where
          x : ParserState
          x = pest_of o' q u

          w : State
          w = Reading.with_siblings (add s.siblings r 0 s.position u.position u.siblings) s.outer u

          pushed : List QueueableToken → ParserState
          pushed l = Pest.set_queue l x

          tokens : length (patched x) ≡ Reading.held u
          tokens = length-set x.queue index _ ∙ held_is o' q u j.base

          close_is : Pest.close_rule g true line r index x
              ≡ stop_if (leb g.capacity (length (patched x))) (Reading.halted (Cause.TokensFull line) u) (λ _.
              Ok (pushed (patched x ++ (Pest.End index r 0 u.position ∷ []))))
          close_is = ap (λ (b : Bool). elim b as (λ _. Ending ParserState) [
            | false ↦ Ok x
            | true ↦ stop_if (leb g.capacity (length (patched x))) (Reading.halted (Cause.TokensFull line) u) (λ _.
                Ok (pushed (patched x ++ (Pest.End index r 0 u.position ∷ []))))
          ]) (produces_as o' q u k ∙ e)

      -- Recorded, Err: nothing is left of it.
      dropped_rule : ParserState → Ending ParserState
      dropped_rule t = Err (if Pest.produces t then Pest.set_queue (take index t.queue) t else t)

      discarded_sim : Reading.recorded s ≡ true → (u : State) (q : Stk) → Good o' ss q u → Kept s.lookahead s.atomicity empty u
          → SimFrom o ss s (Reading.discarded g true s u) (dropped_rule (pest_of o' q u))
      discarded_sim e u q j k = err_by g (Reading.with_siblings s.siblings s.outer u) q _
          (rw (produces_as o' q u k, e) (ap (λ (l : List QueueableToken). Pest.set_queue l (pest_of o' q u))
          (drop_rule o s.outer s.siblings s.position (queue_from u.outer u.siblings))))
          (record { base = i.base; inv = j.inv })
          (record { look = k.look; atom = k.atom; grown = grows_refl s.siblings })

      end_recorded : Reading.recorded s ≡ true → (x : Ending State) (y : Ending ParserState) → Sim o' ss s.lookahead s.atomicity empty x y
          → SimFrom o ss s (Reading.rule_end g true line r n s x) (m_end y)
      end_recorded e x y (sim_ok t q j k) = tracking_sim (is_negative t.lookahead) line r s.position n o'
          (λ u. Reading.closed g true line r s u) (λ u. Pest.close_rule g true line r index u) t q
          (λ b. closed_sim e (Reading.with_attempts b t) q (record { base = j.base; inv = j.inv })
          (record { look = k.look; atom = k.atom; grown = k.grown }))
      end_recorded e x y (sim_err t q j k) = tracking_sim (not (is_negative t.lookahead)) line r s.position n o'
          (λ u. Reading.discarded g true s u) dropped_rule t q
          (λ b. discarded_sim e (Reading.with_attempts b t) q (record { base = j.base; inv = j.inv })
          (record { look = k.look; atom = k.atom; grown = k.grown }))
      end_recorded e x y (sim_stop c) = sim_stop c

      -- Not recorded: the queue is the body's.
      end_silent : Reading.recorded s ≡ false → (x : Ending State) (y : Ending ParserState) → SimFrom o ss s x y
          → SimFrom o ss s (Reading.rule_end g false line r n s x) (m_end y)
      end_silent e x y (sim_ok t q j k) = tracking_sim (is_negative t.lookahead) line r s.position n o
          (λ u. Reading.closed g false line r s u) (λ u. Pest.close_rule g true line r index u) t q
          (λ b. subst (λ (y : Ending ParserState). SimFrom o ss s (Ok (Reading.with_attempts b t)) y) (sym (open_still b))
          (sim_ok (Reading.with_attempts b t) q (record { base = j.base; inv = j.inv })
          (record { look = k.look; atom = k.atom; grown = k.grown })))
        where
          open_still : (b : Attempts) → Pest.close_rule g true line r index (pest_of o q (Reading.with_attempts b t))
              ≡ Ok (pest_of o q (Reading.with_attempts b t))
          open_still b =
              let x : ParserState = pest_of o q (Reading.with_attempts b t) in
              ap (λ (c : Bool). elim c as (λ _. Ending ParserState) [
                | false ↦ Ok x
                | true ↦ Pest.push_token g true line (Pest.End index r 0 x.position) (Pest.set_queue (patched x) x) (λ y. Ok y)
              ]) (produces_as o q t k ∙ e)
      end_silent e x y (sim_err t q j k) = tracking_sim (not (is_negative t.lookahead)) line r s.position n o
          (λ u. Reading.discarded g false s u) dropped_rule t q
          (λ b. err_by g (Reading.with_attempts b t) q _ (rw (produces_as o q t k, e)) (record { base = j.base; inv = j.inv })
          (record { look = k.look; atom = k.atom; grown = k.grown }))
      end_silent e x y (sim_stop c) = sim_stop c

      -- The Start: on both sides there is room for it, or not.
      queue_is : (pest_of o' p (Reading.opened g s)).queue ≡ started.queue
      queue_is = append-nil (prefix o')

      body : leb g.capacity index ≡ false → Reading.recorded s ≡ true
          → SimFrom o ss s (Reading.rule_end g true line r n s (d (Reading.opened g s))) (m_end (md started))
      body c e =
          subst (λ (q : List QueueableToken).
          SimFrom o ss s (Reading.rule_end g true line r n s (d (Reading.opened g s))) (m_end (md (Pest.set_queue q m)))) queue_is
          (end_recorded e _ _ (h o' ss p (Reading.opened g s)
          (record { base = length_prefix o s.outer s.siblings s.position i.base; inv = i.inv })
          (subst (λ (q : List QueueableToken). Fit g (Pest.set_queue q m)) (sym queue_is)
          (pushed_fit g m m.queue (Pest.Start 0 s.position) v refl c))))

      room : Reading.recorded s ≡ true → (b : Bool) → leb g.capacity index ≡ b
          → SimFrom o ss s (stop_if b (Reading.halted (Cause.TokensFull line) s) (λ _. Reading.rule_end g true line r n s (d (Reading.opened g s))))
          (stop_if b (Reading.halted (Cause.TokensFull line) s) (λ _. m_end (md started)))
      room e true c = sim_stop _
      room e false c = body c e

      go : (b : Bool) → Reading.recorded s ≡ b
          → SimFrom o ss s
          (elim b [
            | false ↦ Reading.rule_end g false line r n s (d s)
            | true ↦ stop_if (Reading.no_token g s) (Reading.halted (Cause.TokensFull line) s)
                (λ _. Reading.rule_end g true line r n s (d (Reading.opened g s)))
          ])
          (elim b [
            | false ↦ m_end (md m)
            | true ↦ stop_if (leb g.capacity index) (Reading.halted (Cause.TokensFull line) s)
                (λ _. m_end (md started))
          ])
      go true e = subst (λ (c : ℕ). SimFrom o ss s (stop_if (leb g.capacity c) (Reading.halted (Cause.TokensFull line) s) (λ _.
          Reading.rule_end g true line r n s (d (Reading.opened g s))))
          (stop_if (leb g.capacity index) (Reading.halted (Cause.TokensFull line) s) (λ _. m_end (md started))))
          (held_is o p s i.base) (room e (leb g.capacity index) refl)
      go false e = end_silent e _ _ (h o ss p s i v)

-- ── All kinds ──
module _ (g : Setting) (set : ℕ → Bool) (w : Tested g set) where
  module _ (room : Bool) (d : Exp → State → Ending State) (md : Exp → ParserState → Ending ParserState)
      (h : (e : Exp) → Literals e → Steady set e → Preserves g (d e) (md e)) (k : (e : Exp) → Literals e → Steady set e
      → Keeping g (still set e) (md e)) where
    counted : (r : State → Ending State) (m : ParserState → Ending ParserState) → Preserves g r m
        → Preserves g (λ s. Reading.entering room true s r) (λ x. Pest.check_limit room true x m)
    counted r m z = entering_sim g room true r m z

    pub level_sim : (e : Exp) → Literals e → Steady set e → Preserves g (Reading.level g room d e) (Pest.level g true room md e)
    level_sim (Grammar.match_string l) u y =
        moved_sim g (λ p. Position.match_string g.text l p) (λ p. Pest.match_string g.text l p) (λ m x. string_same g.text l m.position)
    level_sim (Grammar.match_insensitive l) u y =
        moved_sim g (λ p. Position.match_insensitive g.text l p) (λ p. Pest.match_insensitive g.text l p) (λ m x.
        folded_same g.text l u m.position x.edge.inside x.edge.whole)
    level_sim (Grammar.match_range a b) u y =
        moved_sim g (λ p. Position.match_range g.text a b p) (λ p. Pest.match_range g.text a b p) (λ m x. range_same g.text a b m.position)
    level_sim (Grammar.skip n) u y = moved_sim g (λ p. Position.skip g.text n p) (λ p. Pest.skip g.text n p) (λ m x.
        skip_same g.text n m.position x.edge.inside)
    level_sim Grammar.end_of_input u y = end_sim g
    level_sim (Grammar.and_then a b) u y = and_sim g (Reading.level g room d a) (Reading.level g room d b) (Pest.level g true room md a)
        (Pest.level g true room md b) (level_sim a u.0 y.0) (level_sim b u.1 y.1) (level_keeps g set w room md k a u.0 y.0)
    level_sim (Grammar.or_else a b) u y = or_sim g (Reading.level g room d a) (Reading.level g room d b) (Pest.level g true room md a)
        (Pest.level g true room md b) (level_sim a u.0 y.0) (level_sim b u.1 y.1) (level_keeps g set w room md k a u.0 y.0)
    level_sim (Grammar.rule line r e) u y = counted _ (λ x. Pest.rule g true line r (md e) x) (rule_sim g line r (d e) (md e) (h e u y))
    level_sim (Grammar.sequence e) u y = counted _ (λ x. Pest.sequence (md e) x) (sequence_sim g (d e) (md e) (h e u y))
    level_sim (Grammar.repeat e) u y = counted (λ s. Reading.rounds (most_rounds g s.position) (d e) s) (λ x.
        Pest.repeat (most_rounds g x.position) (md e) x)
        (λ o ss p s i v. rounds_sim g (most_rounds g s.position) (d e) (md e) (h e u y.1) (k e u y.1) o ss p s i v)
    level_sim (Grammar.optional e) u y = counted _ (λ x. Pest.optional (md e x)) (optional_sim g (d e) (md e) (h e u y))
    level_sim (Grammar.lookahead b e) u y = counted _ (λ x. Pest.lookahead b (md e) x) (lookahead_sim g b (d e) (md e) (h e u y))
    level_sim (Grammar.atomic a e) u y = counted _ (λ x. Pest.atomic a (md e) x) (atomic_sim g a (d e) (md e) (h e u y))
    level_sim (Grammar.stack_push line e) u y = counted _ (λ x. Pest.stack_push g.text true line (md e) x) (push_sim g line (d e) (md e) (h e u y))
    level_sim (Grammar.stack_pop line) u y = pop_sim g line
    level_sim (Grammar.stack_match_peek_slice i j t) u y = peek_sim g i j t
    level_sim (Grammar.stack_match_pop line) u y = λ o ss p s i v. match_pop_sim g line s.stack s.position o ss p s i refl
    level_sim (Grammar.restore_on_err e) u y = entering_sim g room false _ (λ x. Pest.restore_on_err (md e) x) (restore_sim g (d e) (md e) (h e u y))
    level_sim (Grammar.tag_node t) u y = tag_sim g t
    level_sim (Grammar.call l) u y =
        let r : RuleLine = g.rule_at l in
        counted _ (λ x. Pest.rule g true r.line r.rule (md r.body) x)
        (rule_sim g r.line r.rule (d r.body) (md r.body) (h r.body (w.literals l) (w.steady l)))

  refuses : (e : Exp) → Literals e → Steady set e → Preserves g (Reading.no_deeper g e) (Pest.no_deeper g true e)
  refuses e u y o ss p s i v =
      let t : State = Reading.with_tracker (record { limit = s.tracker.limit; counted = s.tracker.counted; cause = Some LimitKind.Stack }) s in
      sim_err t p (record { base = i.base; inv = i.inv }) (kept_self g t)

  -- From related states the reading and pest end alike, at every depth and for every tree.
  pub eval_sim : (depth : ℕ) (e : Exp) → Literals e → Steady set e → Preserves g (Reading.eval g depth e) (Pest.eval g true depth e)
  eval_sim zero e u y = level_sim false (Reading.no_deeper g) (Pest.no_deeper g true) refuses (refused_keeps g set w) e u y
  eval_sim (suc n) e u y = level_sim true (Reading.eval g n) (Pest.eval g true n) (eval_sim n) (eval_keeps g set w n) e u y
