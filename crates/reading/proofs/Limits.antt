-- Document 02, request 5, of an evaluation: larger limits change nothing in a run that meets none, and what the count is under a limit.
use mathlib.Core.Path.{◌≡◌, refl, ap, subst}
use mathlib.Core.Bool.{Bool, true, false, ◌&&◌}
use Rattle.std.specs.Prelude.{if◌then◌else◌, None, Some}
use Prim.Native.Nat.{ℕ, zero, suc, ◌≤◌, ◌<◌}
use native.Mathlib.Omega.{arith}
use borrow.Author.Tests.{leb-true, leb-false}
use Rattle.reading.specs.declared.call_limit_tracker.LimitKind.{LimitKind}
use Rattle.reading.specs.Ending.{Ending, Err}
use Rattle.reading.specs.Grammar.{Exp}
use Rattle.reading.specs.Reading.{Setting, State, Tracker, Entry, entered, refused, is_set, over, enter, with_tracker, no_deeper, eval}
use Rattle.reading.proofs.Simulation.{tracker_at}
use Rattle.reading.proofs.Trackers.{off_err, Both, both_err, off, OffEntry, off_in, off_out, BothEntry, both_in, both_out, off_entry, Follows}
use Rattle.reading.proofs.Trackers.{level_follows}

-- "0 means none; N refuses counted call N+1"
pub over_true : (l n : ℕ) → over l n ≡ true → (0 < l) × (l ≤ n)
over_true zero n e = let z : ◌≡◌ {A = ℕ} 0 1 = cc in absurd (omega arith)
over_true (suc l) n e = (omega arith, leb-true (suc l) n e)

pub over_false : (l n : ℕ) → over l n ≡ false → 0 < l → n < l
over_false zero n e h = absurd (omega arith)
over_false (suc l) n e h = leb-false (suc l) n e

-- ── Two limits ──
-- A run under the call limit `first` and one under `second`, with no less depth. The first has lost its promise once it meets a limit,
-- or once its count is `Past` what the second allows.
module _ (first second : ℕ) (Past : ℕ → Type 0) (up : (n : ℕ) → Past n → Past (suc n))
    (passes : (n : ℕ) → over first n ≡ false → over second n ≡ true → Past (suc n)) where
  pub data Wider : Tracker → Tracker → Type 0 where
    wider : (n : ℕ) → Wider (tracker_at first n None) (tracker_at second n None)

  pub data Lost (t : Tracker) : Type 0 where
    limit_met : is_set t.cause ≡ true → Lost t
    gone_past : Past t.counted → Lost t

  same_cause : (t u : Tracker) → Wider t u → is_set u.cause ≡ is_set t.cause
  same_cause t u (wider n) = refl

  -- Both have room for one more call.
  enters : (counts : Bool) (t u : Tracker) → Wider t u → BothEntry Wider Lost (enter true counts t) (enter true counts u)
  enters false t u (wider n) = both_in _ _ (wider n)
  enters true t u (wider n) = go (over first n) refl (over second n) refl
    where
      go : (a : Bool) → over first n ≡ a → (b : Bool) → over second n ≡ b
          → BothEntry Wider Lost
          (if a then refused (tracker_at first n (Some LimitKind.Call)) else entered (tracker_at first (suc n) None))
          (if b then refused (tracker_at second n (Some LimitKind.Call)) else entered (tracker_at second (suc n) None))
      go true e b f = off_entry _ _ (off_out _ (limit_met refl))
      go false e true f = off_entry _ _ (off_in _ (gone_past (passes n e f)))
      go false e false f = both_in _ _ (wider (suc n))

  -- The first has none: it meets a limit.
  meets : (room counts : Bool) (t u : Tracker) → Wider t u → BothEntry Wider Lost (enter false counts t) (enter room counts u)
  meets room counts t u (wider n) = off_entry _ _ (go (counts && over first n))
    where
      go : (b : Bool)
          → OffEntry Wider Lost
          (if b then refused (tracker_at first n (Some LimitKind.Call)) else refused (tracker_at first n (Some LimitKind.Stack)))
      go true = off_out _ (limit_met refl)
      go false = off_out _ (limit_met refl)

  stays : (room counts : Bool) (t : Tracker) → Lost t → OffEntry Wider Lost (enter room counts t)
  stays room counts t l = go (is_set t.cause) refl (counts && over t.limit t.counted) room l
    where
      more : (c : Bool) → Past t.counted → Past (if c then suc t.counted else t.counted)
      more true p = up t.counted p
      more false p = p

      go : (a : Bool) → is_set t.cause ≡ a → (b room : Bool) → Lost t
          → OffEntry Wider Lost (if a then refused t else if b then refused (tracker_at t.limit t.counted (Some LimitKind.Call))
          else if room then entered (tracker_at t.limit (if counts then suc t.counted else t.counted) t.cause)
          else refused (tracker_at t.limit t.counted (Some LimitKind.Stack)))
      go true e b room l = off_out t l
      go false e true room l = off_out _ (limit_met refl)
      go false e false false l = off_out _ (limit_met refl)
      go false e false true (gone_past p) = off_in _ (gone_past (more counts p))
      go false e false true (limit_met f) = let z : ◌≡◌ {A = ℕ} 0 1 = cc in absurd (omega arith)

  module _ (g : Setting) where
    -- "Where no call may open, every entry is refused"
    no_deeper_follows : (f : State → Ending State) (e : Exp) → Follows Wider Lost (no_deeper g e) f
    no_deeper_follows f e = record { alike = λ s t r. off _ _ (off_err _ (limit_met refl)); lost = λ s l. off_err _ (limit_met refl) }

    pub eval_follows : (d d' : ℕ) → d ≤ d' → (e : Exp) → Follows Wider Lost (eval g d e) (eval g d' e)
    eval_follows zero zero h e =
        level_follows Wider Lost same_cause g false false (meets false) (stays false) (no_deeper g) (no_deeper g) (λ x. no_deeper_follows _ x) e
    eval_follows zero (suc d') h e =
        level_follows Wider Lost same_cause g false true (meets true) (stays false) (no_deeper g) (eval g d') (λ x. no_deeper_follows _ x) e
    eval_follows (suc d) zero h e = absurd (omega arith)
    eval_follows (suc d) (suc d') h e =
        level_follows Wider Lost same_cause g true true enters (stays true) (eval g d) (eval g d') (eval_follows d d' (omega arith)) e

-- ── One limit ──
-- What holds of a tracker under the call limit `limit`, from the start of a run on.
pub record Counts (limit : ℕ) (t : Tracker) : Type 0 where
  pub own : t.limit ≡ limit
  pub within : 0 < limit → t.counted ≤ limit
  pub full : t.cause ≡ Some LimitKind.Call → t.counted ≡ limit

module _ (limit : ℕ) where
  -- A run beside itself; nothing is lost.
  pub data Beside : Tracker → Tracker → Type 0 where
    beside : (t : Tracker) → Counts limit t → Beside t t

  abbrev pub Never : Tracker → Type 0
  Never t = ⊥

  data EntryCounts : Entry → Type 0 where
    lets : (t : Tracker) → Counts limit t → EntryCounts (entered t)
    refuses : (t : Tracker) → Counts limit t → EntryCounts (refused t)

  stack_met : (t : Tracker) → Counts limit t → Counts limit (tracker_at t.limit t.counted (Some LimitKind.Stack))
  stack_met t c = record { own = c.own; within = c.within; full = λ e. let z : ◌≡◌ {A = ℕ} 0 1 = cc in absurd (omega arith) }

  enter_counts : (room counts : Bool) (t : Tracker) → Counts limit t → EntryCounts (enter room counts t)
  enter_counts room counts t c = go (is_set t.cause) refl counts (over t.limit t.counted) refl room
    where
      no_call : is_set t.cause ≡ false → t.cause ≡ Some LimitKind.Call → ⊥
      no_call e f = let z : ◌≡◌ {A = ℕ} 0 1 = cc (ap is_set f) in omega arith

      -- Over the limit, so at it.
      at_limit : over t.limit t.counted ≡ true → t.counted ≡ limit
      at_limit f =
          let h : (0 < t.limit) × (t.limit ≤ t.counted) = over_true t.limit t.counted f in
          omega (arith, c.own, c.within (omega (arith, c.own)))

      below : over t.limit t.counted ≡ false → 0 < limit → t.counted < limit
      below f h = subst (λ (n : ℕ). t.counted < n) c.own (over_false t.limit t.counted f (omega (arith, c.own)))

      go : (a : Bool) → is_set t.cause ≡ a → (counts b : Bool) → over t.limit t.counted ≡ b → (room : Bool)
          → EntryCounts (if a then refused t else if counts && b then refused (tracker_at t.limit t.counted (Some LimitKind.Call))
          else if room then entered (tracker_at t.limit (if counts then suc t.counted else t.counted) t.cause)
          else refused (tracker_at t.limit t.counted (Some LimitKind.Stack)))
      go true e counts b f room = refuses t c
      go false e true true f room = refuses _ (record { own = c.own; within = c.within; full = λ q. at_limit f })
      go false e true false f true = lets _ (record { own = c.own; within = λ h. below f h; full = λ q. absurd (no_call e q) })
      go false e true false f false = refuses _ (stack_met t c)
      go false e false b f true = lets _ (record { own = c.own; within = c.within; full = λ q. absurd (no_call e q) })
      go false e false b f false = refuses _ (stack_met t c)

  keeps : (room counts : Bool) (t u : Tracker) → Beside t u → BothEntry Beside Never (enter room counts t) (enter room counts u)
  keeps room counts t u (beside v c) = go _ (enter_counts room counts v c)
    where
      go : (x : Entry) → EntryCounts x → BothEntry Beside Never x x
      go x (lets w k) = both_in w w (beside w k)
      go x (refuses w k) = both_out w w (beside w k)

  one_cause : (t u : Tracker) → Beside t u → is_set u.cause ≡ is_set t.cause
  one_cause t u (beside v c) = refl

  module _ (g : Setting) where
    no_deeper_keeps : (e : Exp) → Follows Beside Never (no_deeper g e) (no_deeper g e)
    no_deeper_keeps e = record { alike = λ s t r. go s s.tracker t r; lost = λ s l. absurd l }
      where
        refusing : State → Tracker → State
        refusing s t = with_tracker (tracker_at t.limit t.counted (Some LimitKind.Stack)) s

        go : (s : State) (t u : Tracker) → Beside t u → Both Beside Never (Err (refusing s t)) (Err (refusing s u))
        go s t u (beside v c) = both_err (refusing s v) _ (beside _ (stack_met v c))

    pub eval_counts : (d : ℕ) (e : Exp) → Follows Beside Never (eval g d e) (eval g d e)
    eval_counts zero e =
        level_follows Beside Never one_cause g false false (keeps false) (λ b t l. absurd l) (no_deeper g) (no_deeper g) no_deeper_keeps e
    eval_counts (suc d) e = level_follows Beside Never one_cause g true true (keeps true) (λ b t l. absurd l) (eval g d) (eval g d) (eval_counts d) e
