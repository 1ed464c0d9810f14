-- Request 5: the laws of Limits, of the outcomes of runs.
use mathlib.Core.Path.{◌≡◌, refl, sym, ap, ap₂, ◌∙◌, subst}
use mathlib.Core.Bool.{true, false}
use Rattle.std.specs.Prelude.{Option, None, Some}
use mathlib.Core.List.{List}
use mathlib.Core.Logic.{inl, inr}
use Prim.Native.Nat.{ℕ, suc, ◌≤◌, ◌<◌, min}
use native.Mathlib.Omega.{arith}
use lib.IntN.{ℤ}
use Rattle.reading.specs.declared.call_limit_tracker.LimitKind.{LimitKind}
use Rattle.reading.specs.Ending.{Ending, Ok, Err, Stop}
use Rattle.reading.specs.Grammar.{tree_at}
use Rattle.reading.specs.Reading.{State, Tracker, initial, most_calls, calls_in, halted, is_set, over}
use Rattle.reading.specs.Outcome.{Input, Refusal, refusal, setting, root_tree, reading, Answer, answer, of_limit, Outcome, RunOutcome, calls_of}
use Rattle.reading.specs.Run.{Ran}
use Rattle.reading.specs.Demand1.{Refusing, tested, no_root, Refused}
use Rattle.reading.specs.Demand2.{MatchOrFailure}
use Rattle.reading.specs.Request5.{most_limit, CallsWithin, AlsoRan, NoSmaller, without, above, LargerLimits, EnoughCalls, Request5}
use Rattle.reading.proofs.AnswerLaws.{stop_number}
use Rattle.reading.proofs.Trackers.{off_ok, off_err, off_stop, Both, both_ok, both_err, both_stop, off}
use Rattle.reading.proofs.Limits.{over_true, over_false, Wider, wider, Lost, limit_met, gone_past, eval_follows, Counts, Beside, beside, Never}
use Rattle.reading.proofs.Limits.{eval_counts}
use Rattle.reading.proofs.Runs.{outcome_is, calls_are, capacity_same, run_of, run_is, laid_same}
use Rattle.reading.proofs.Demand1.{demand_1}

-- ── Numbers of answers ──
-- What a number says of a limit cause.
record ByCause (c : Option LimitKind) (n : ℕ) : Type 0 where
  met : is_set c ≡ true → 11 ≤ n
  call : n ≡ 11 → c ≡ Some LimitKind.Call

by_cause : (c : Option LimitKind) (f : ℕ) (a : Answer) → a.number ≤ 10
    → ByCause c (elim c as (λ _. Answer) [ Some k ↦ of_limit k f | None ↦ a ]).number
by_cause None f a h = record { met = λ e. let z : ◌≡◌ {A = ℕ} 0 1 = cc in absurd (omega arith); call = λ e. absurd (omega arith) }
by_cause (Some LimitKind.Call) f a h = record { met = λ e. omega arith; call = λ e. refl }
by_cause (Some LimitKind.Stack) f a h = record { met = λ e. omega arith; call = λ e. absurd (omega arith) }

ok_cause : (s : State) → ByCause s.tracker.cause (answer (Ok s)).number
ok_cause s = by_cause s.tracker.cause s.attempts.furthest _ (omega arith)

err_cause : (s : State) → ByCause s.tracker.cause (answer (Err s)).number
err_cause s = by_cause s.tracker.cause s.attempts.furthest _ (omega arith)

-- ── Two limits ──
pub record Same (x y : Ending State) : Type 0 where
  pub answers : answer y ≡ answer x
  pub calls : calls_of y ≡ calls_of x

module _ (first second : ℕ) (Past : ℕ → Type 0) (up : (n : ℕ) → Past n → Past (suc n))
    (passes : (n : ℕ) → over first n ≡ false → over second n ≡ true → Past (suc n)) where
  abbrev W : Tracker → Tracker → Type 0
  W = Wider first second Past up passes

  abbrev Gone : Tracker → Type 0
  Gone = Lost first second Past up passes

  causes : (t u : Tracker) → W t u → (t.cause ≡ None) × (u.cause ≡ None) × (u.counted ≡ t.counted)
  causes t u (wider n) = (refl, refl, refl)

  -- An ending with 0 or 10 that has not gone past is the other run's ending.
  followed : (x y : Ending State) → Both W Gone x y → (answer x).number ≤ 10 → ((n : ℕ) → calls_of x ≡ min n most_calls → Past n → ⊥) → Same x y
  followed x y (both_ok s t r) n p = let c : (s.tracker.cause ≡ None) × (t.cause ≡ None) × (t.counted ≡ s.tracker.counted) =
      causes s.tracker t r in record { answers = rw (c.0, c.1); calls = ap (λ (n : ℕ). min n most_calls) c.2 }
  followed x y (both_err s t r) n p = let c : (s.tracker.cause ≡ None) × (t.cause ≡ None) × (t.counted ≡ s.tracker.counted) =
      causes s.tracker t r in record { answers = rw (c.0, c.1); calls = ap (λ (n : ℕ). min n most_calls) c.2 }
  followed x y (both_stop c s t r) n p = record { answers = refl; calls = ap (λ (n : ℕ). min n most_calls) (causes s.tracker t r).2 }
  followed x y (off z w (off_ok s (limit_met e))) n p = absurd (omega (arith, (ok_cause s).met e))
  followed x y (off z w (off_ok s (gone_past e))) n p = absurd (p s.tracker.counted refl e)
  followed x y (off z w (off_err s (limit_met e))) n p = absurd (omega (arith, (err_cause s).met e))
  followed x y (off z w (off_err s (gone_past e))) n p = absurd (p s.tracker.counted refl e)
  followed x y (off z w (off_stop c s l)) n p = absurd (omega (arith, (stop_number c).0))

  run_both : (ns : List ℤ) (l x : List ℕ) (r n d d' : ℕ) → d ≤ d' → Both W Gone (run_of ns l x r n d first) (run_of ns l x r n d' second)
  unfolding run_of
  run_both ns l x r n d d' h = (eval_follows first second Past up passes _ d d' h (tree_at ns l r)).alike (initial first) _ (wider 0)

-- A result is its parts.
result_same : (o p : RunOutcome) → p.outcome ≡ o.outcome → p.calls ≡ o.calls → p ≡ o
result_same o p e f = ap₂ (λ (x : Outcome) (k : ℕ). record { outcome = x; calls = k }) e f

module _ (i j : Input) (p : RunOutcome) (a : AlsoRan i j p) where
  -- Two runs whose endings are the same answer the same.
  same_run : (o : RunOutcome) {before after : List ℕ} → Ran i o before after → refusal i ≡ None → Same (reading i) (reading j) → p ≡ o
  same_run o r e s = result_same o p
      (a.ran.is ∙ outcome_is j a.started ∙ laid_same (sym a.tokens) (sym a.report) s.answers ∙ sym (outcome_is i e) ∙ sym r.is)
      (a.ran.counted ∙ calls_are j a.started ∙ s.calls ∙ sym (calls_are i e) ∙ sym r.counted)

  -- The ending of a run with 0 or 10 that has not gone past is that of the other.
  same_ending : (Past : ℕ → Type 0) (up : (n : ℕ) → Past n → Past (suc n))
      → ((n : ℕ) → over i.call_limit n ≡ false → over j.call_limit n ≡ true → Past (suc n))
      → i.depth_limit ≤ j.depth_limit → (answer (reading i)).number ≤ 10 → ((n : ℕ) → calls_of (reading i) ≡ min n most_calls → Past n → ⊥)
      → Same (reading i) (reading j)
  same_ending Past up passes deep n q = followed i.call_limit j.call_limit Past up passes (reading i) (reading j) beside_it n q
    where
      beside_it : Both (W i.call_limit j.call_limit Past up passes) (Gone i.call_limit j.call_limit Past up passes) (reading i) (reading j)
      beside_it =
          rw (run_is i, run_is j, ← a.nodes, ← a.literals, ← a.text, ← a.root, ← capacity_same i.tokens j.tokens a.tokens)
          (run_both i.call_limit j.call_limit Past up passes _ _ _ _ _ _ _ deep)

-- ── One limit ──
record Counted (limit : ℕ) (r : Ending State) : Type 0 where
  small : calls_of r ≤ most_calls
  within : 0 < limit → calls_of r ≤ limit
  spent : limit ≤ most_calls → (answer r).number ≡ 11 → calls_of r ≡ limit

counts : (limit : ℕ) (x y : Ending State) → Both (Beside limit) (Never limit) x y → Counted limit x
counts limit x y b = go x y b
  where
    -- Of a tracker, where 11 says that its cause is the call limit.
    counted : (t u : Tracker) → Beside limit t u → (r : Ending State) → calls_of r ≡ calls_in t
        → ((answer r).number ≡ 11 → t.cause ≡ Some LimitKind.Call) → Counted limit r
    counted t u (beside v c) r e f =
        record { small = omega arith; within = λ h. omega (arith, c.within h); spent = λ h q. omega (arith, c.full (f q)) }

    go : (x y : Ending State) → Both (Beside limit) (Never limit) x y → Counted limit x
    go x y (both_ok s t r) = counted s.tracker t r (Ok s) refl (ok_cause s).call
    go x y (both_err s t r) = counted s.tracker t r (Err s) refl (err_cause s).call
    go x y (both_stop c s t r) = counted s.tracker t r (Stop (halted c s)) refl (λ e. absurd (omega (arith, (stop_number c).0)))
    go x y (off z w (off_ok s l)) = absurd l
    go x y (off z w (off_err s l)) = absurd l
    go x y (off z w (off_stop c s l)) = absurd l

run_counts : (i : Input) → Counted i.call_limit (reading i)
unfolding reading
run_counts i =
    counts i.call_limit _ _
    ((eval_counts i.call_limit (setting i) i.depth_limit (root_tree i)).alike (initial i.call_limit) _ (beside _ start))
  where
    start : Counts i.call_limit (initial i.call_limit).tracker
    start = record { own = refl; within = λ h. omega arith; full = λ e. let z : ◌≡◌ {A = ℕ} 0 1 = cc in absurd (omega arith) }

-- ── The request ──
-- A larger limit does not refuse where the first does not.
no_smaller : (first second n : ℕ) → NoSmaller first second → over first n ≡ false → over second n ≡ true → ⊥
no_smaller first second n without e f = omega (arith, (over_true 0 n f).0)
no_smaller first second n (above m h k) e f = omega (arith, over_false first n e h, (over_true m n f).1)

-- 0 and 10 are numbers up to 10, and no refusal's; nor is 11.
up_to_ten : (n : ℕ) → MatchOrFailure n → n ≤ 10
up_to_ten n (inl e) = omega arith
up_to_ten n (inr e) = omega arith

no_refusal : (n : ℕ) → Refusing n → MatchOrFailure n → ⊥
no_refusal n (tested m l h) (inl e) = omega arith
no_refusal n (tested m l h) (inr e) = omega arith
no_refusal n no_root (inl e) = omega arith
no_refusal n no_root (inr e) = omega arith

not_spent : (n : ℕ) → Refusing n → n ≡ 11 → ⊥
not_spent n (tested m l h) e = omega arith
not_spent n no_root e = omega arith

module _ (i : Input) (o : RunOutcome) {before after : List ℕ} (a : Ran i o before after) where
  -- A run that gives 0 or 10 is started.
  has_started : MatchOrFailure o.outcome.number → refusal i ≡ None
  has_started s = go (refusal i) refl
    where
      go : (x : Option Refusal) → refusal i ≡ x → x ≡ None
      go None e = refl
      go (Some r) e =
          let f : Refused i r o before after = (demand_1 i before after o a).refused r e in
          absurd (no_refusal r.number f.by (subst MatchOrFailure f.number s))

  is_started : refusal i ≡ None → o.outcome.number ≡ (answer (reading i)).number
  is_started e = ap (λ (x : Outcome). x.number) (a.is ∙ outcome_is i e)

  calls_in_it : refusal i ≡ None → o.calls ≡ calls_of (reading i)
  calls_in_it e = a.counted ∙ calls_are i e

  number_is : MatchOrFailure o.outcome.number → (answer (reading i)).number ≤ 10
  number_is s = omega (arith, up_to_ten o.outcome.number s, is_started (has_started s))

  calls_within : CallsWithin i o
  calls_within = go (refusal i) refl
    where
      go : (x : Option Refusal) → refusal i ≡ x → CallsWithin i o
      go None e =
          let c : Counted i.call_limit (reading i) = run_counts i in
          record {
            small = omega (arith, calls_in_it e, c.small);
            within = λ h. omega (arith, calls_in_it e, c.within h);
            spent = λ u q. calls_in_it e ∙ c.spent (omega arith) (sym (is_started e) ∙ q);
          }
      go (Some r) e =
          let f : Refused i r o before after = (demand_1 i before after o a).refused r e in
          record {
            small = omega (arith, f.calls);
            within = λ h. omega (arith, f.calls);
            spent = λ u q. absurd (not_spent r.number f.by (sym f.number ∙ q));
          }

  larger : LargerLimits i o
  larger = record {
    same = λ s j p b deep c. same_run i j p b o a (has_started s)
        (same_ending i j p b (λ n. ⊥) (λ n x. x) (λ n. no_smaller i.call_limit j.call_limit n c) deep (number_is s) (λ n e x. x));
  }

  enough : MatchOrFailure o.outcome.number → (j : Input) (p : RunOutcome) → AlsoRan i j p → i.depth_limit ≡ j.depth_limit → j.call_limit ≤ most_limit
      → o.calls ≤ j.call_limit → p ≡ o
  enough s j p b deep u h = same_run i j p b o a (has_started s)
      (same_ending i j p b (λ n. j.call_limit < n) (λ n x. omega arith) (λ n e f. omega (arith, (over_true j.call_limit n f).1)) (omega (arith, deep))
      (number_is s)
      (λ n e x. omega (arith, calls_in_it (has_started s))))

-- The two runs, changed over.
changed_over : (i j : Input) (o p : RunOutcome) {before after : List ℕ} → Ran i o before after → refusal i ≡ None → AlsoRan i j p → AlsoRan j i o
changed_over i j o p {before = before} {after = after} a e b = record {
  before = before;
  after = after;
  ran = a;
  started = e;
  nodes = sym b.nodes;
  literals = sym b.literals;
  text = sym b.text;
  root = sym b.root;
  tokens = sym b.tokens;
  report = sym b.report;
}

-- Request 5, of any value that keeps `run`'s promise.
module _ (i : Input) (o : RunOutcome) {before after : List ℕ} (a : Ran i o before after) where
  module _ (z : i.call_limit ≡ 0) (s : MatchOrFailure o.outcome.number) (j : Input) (p : RunOutcome) (b : AlsoRan i j p)
      (deep : i.depth_limit ≡ j.depth_limit) (h : 0 < j.call_limit) where
    at_most : p.calls ≤ j.call_limit
    at_most = (calls_within j p b.ran).within h

    -- From a 0 or a 10 of the limited run the one without a limit is a run with larger limits.
    needed : MatchOrFailure p.outcome.number → o.calls ≤ j.call_limit
    needed t =
        let same : o ≡ p =
        (larger j p b.ran).same t i o (changed_over i j o p a (has_started i o a s) b) (omega (arith, deep))
        (subst (NoSmaller j.call_limit) (sym z) without) in
        omega (arith, ap (λ (x : RunOutcome). x.calls) same, at_most)

    enough_calls : EnoughCalls i o j p
    enough_calls = record {
      exactly = λ u. ((λ e. omega (arith, ap (λ (x : RunOutcome). x.calls) e, at_most)), enough i o a s j p b deep u);
      needed = needed;
    }

  pub request_5 : Request5 i o
  request_5 = record { counted = calls_within i o a; larger = larger i o a; enough = enough_calls }
