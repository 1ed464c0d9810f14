-- Demand 1: a refusal is one of seven, and an answer to a reading has one of eight numbers.
use mathlib.Core.Path.{◌≡◌, sym, ap, ◌∙◌, subst}
use mathlib.Core.Bool.{◌&&◌}
use mathlib.Core.List.{List, [], ◌∷◌}
use Rattle.std.specs.Prelude.{Option, None, Some}
use Prim.Native.Nat.{ℕ, ◌≤◌}
use native.Mathlib.Omega.{arith}
use lib.Dec.{leb}
use lib.ListN.{length}
use Rattle.matching.specs.Utf8.{within}
use Rattle.reading.specs.declared.call_limit_tracker.LimitKind.{LimitKind}
use Rattle.reading.specs.Ending.{Ending, Ok, Err, Stop}
use Rattle.reading.specs.Grammar.{line_count, misfit}
use Rattle.reading.specs.Nullable.{still_repeat}
use Rattle.reading.specs.Forest.{tokens}
use Rattle.reading.specs.Reading.{State}
use Rattle.reading.specs.Outcome.{Input, Refusal, refuse, unless, good_text, first_of, tests, refusal, reading, Answer, answer, of_limit}
use Rattle.reading.specs.Outcome.{of_cause, of_tokens, of_failure, ascending, Outcome, refused, started, outcome, RunOutcome, calls_of, counted_calls}
use Rattle.reading.specs.Run.{Ran}
use Rattle.reading.specs.Demand1.{Refusing, tested, no_root, Refused, Ended, with_tokens, without, Demand1}
use Rattle.reading.proofs.Rows.{◌▹◌}
use Rattle.reading.proofs.AnswerLaws.{stop_number}
use Rattle.reading.proofs.Runs.{run_bounded, outcome_is, calls_are}

-- ── Refused ──
abbrev Numbered : List (Option Refusal) → Type 0
Numbered [] = Unit {0}
Numbered (t ∷ ts) = ((r : Refusal) → t ≡ Some r → Refusing r.number) × Numbered ts

first_numbered : (ts : List (Option Refusal)) → Numbered ts → (r : Refusal) → first_of ts ≡ Some r → Refusing r.number
first_numbered [] h r e = let z : ◌≡◌ {A = ℕ} 0 1 = cc in absurd (omega arith)
first_numbered (None ∷ ts) h r e = first_numbered ts h.1 r e
first_numbered (Some q ∷ ts) h r e = h.0 r e

refuse_numbered : {n : ℕ} → Refusing n → (o : Option ℕ) (r : Refusal) → refuse n o ≡ Some r → Refusing r.number
refuse_numbered {n} k None r e = let z : ◌≡◌ {A = ℕ} 0 1 = cc in absurd (omega arith)
refuse_numbered {n} k (Some p) r e = let q : n ≡ r.number = cc in subst Refusing q k

-- The tests refuse by their numbers, whatever they find.
numbered : (a b c root d e f : Option ℕ)
    → Numbered (refuse 4 a ∷ refuse 5 b ∷ refuse 6 c ∷ refuse 18 root ∷ refuse 7 d ∷ refuse 8 e ∷ refuse 9 f ∷ [])
numbered a b c root d e f =
    by 4 (omega arith) (omega arith) a ▹ by 5 (omega arith) (omega arith) b ▹ by 6 (omega arith) (omega arith) c
    ▹ refuse_numbered no_root root
    ▹ by 7 (omega arith) (omega arith) d ▹ by 8 (omega arith) (omega arith) e ▹ by 9 (omega arith) (omega arith) f ▹ tt
  where
    by : (n : ℕ) → 4 ≤ n → n ≤ 9 → (o : Option ℕ) (r : Refusal) → refuse n o ≡ Some r → Refusing r.number
    by n l h = refuse_numbered (tested n l h)

refusal_numbered : (i : Input) (r : Refusal) → refusal i ≡ Some r → Refusing r.number
unfolding refusal
refusal_numbered i = first_numbered (tests i) (numbered (unless (good_text i.literals)) (misfit i.nodes i.literals) (still_repeat i.nodes)
    (unless (within 1 (line_count i.nodes) i.root)) (unless (good_text i.text)) (unless (within 1 1024 i.depth_limit))
    (unless (leb 515 (length i.report) && leb 4864 i.scratch)))

-- ── Started ──
limit_ended : (k : LimitKind) (f : ℕ) → Ended (of_limit k f).number
limit_ended LimitKind.Call f = without 11 (omega arith) (omega arith)
limit_ended LimitKind.Stack f = without 12 (omega arith) (omega arith)

ended : (r : Ending State) → Ended (answer r).number
ended (Ok s) = go s.tracker.cause
  where
    go : (c : Option LimitKind) → Ended (elim c as (λ _. Answer)
        [ Some k ↦ of_limit k s.attempts.furthest | None ↦ of_tokens (tokens s.siblings) ]).number
    go None = with_tokens
    go (Some k) = limit_ended k s.attempts.furthest
ended (Err s) = go s.tracker.cause
  where
    go : (c : Option LimitKind) → Ended (elim c as (λ _. Answer) [
      | Some k ↦ of_limit k s.attempts.furthest
      | None ↦ of_failure s.attempts.furthest (ascending s.attempts.positive) (ascending s.attempts.negative)
    ]).number
    go None = without 10 (omega arith) (omega arith)
    go (Some k) = limit_ended k s.attempts.furthest
ended (Stop h) = without (of_cause h.cause).number (omega (arith, (stop_number h.cause).0)) (stop_number h.cause).1

module _ (i : Input) where
  refused_is : (r : Refusal) → refusal i ≡ Some r → outcome i ≡ refused i r
  unfolding outcome
  refused_is r e = ap (λ (o : Option Refusal). elim o as (λ _. Outcome) [ Some x ↦ refused i x | None ↦ started i (answer (reading i)) ]) e

  no_calls : (r : Refusal) → refusal i ≡ Some r → counted_calls i ≡ 0
  unfolding counted_calls
  no_calls r e = ap (λ (o : Option Refusal). elim o as (λ _. ℕ) [ Some x ↦ 0 | None ↦ calls_of (reading i) ]) e

-- Demand 1, of any value that keeps `run`'s promise.
module _ (i : Input) (before after : List ℕ) (o : RunOutcome) (a : Ran i o before after) where
  as_refused : (r : Refusal) → refusal i ≡ Some r → Refused i r o before after
  as_refused r e =
      let is : o.outcome ≡ refused i r = a.is ∙ refused_is i r e in
      record {
        by = refusal_numbered i r e;
        number = ap (λ (x : Outcome). x.number) is;
        place = ap (λ (x : Outcome). x.place) is;
        count = ap (λ (x : Outcome). x.count) is;
        calls = a.counted ∙ no_calls i r e;
        tokens = ap (λ (x : Outcome). x.tokens) is;
        report = ap (λ (x : Outcome). x.report) is;
        scratch = a.left r e;
      }

  as_started : refusal i ≡ None → o.outcome ≡ started i (answer (reading i))
  as_started e = a.is ∙ outcome_is i e

  pub demand_1 : Demand1 i o before after
  demand_1 = record {
    refused = as_refused;
    accepted = λ e. subst (λ (x : Outcome). Ended x.number) (sym (as_started e)) (ended (reading i));
    full = λ e h q. (as_started e ∙ ap (λ (r : Ending State). started i (answer r)) q, a.counted ∙ calls_are i e ∙ ap calls_of q);
    within = run_bounded i;
  }
