-- Demand 3: what document 01 fixes of two started inputs is exact, and `run` promises just that.
use mathlib.Core.Path.{◌≡◌, refl, sym, ap, ap₂, ◌∙◌, subst}
use mathlib.Core.List.{List}
use mathlib.Core.Logic.{◌↔◌}
use Rattle.std.specs.Prelude.{Option, None, Some}
use Prim.Native.Nat.{ℕ, ◌*◌, ◌≤◌}
use native.Mathlib.Omega.{arith}
use lib.ListN.{length, take}
use Rattle.reading.specs.declared.call_limit_tracker.LimitKind.{LimitKind}
use Rattle.reading.specs.Ending.{Ending, Ok, Err, Stop}
use Rattle.reading.specs.Forest.{Forest, tokens}
use Rattle.reading.specs.Reading.{State, Attempts}
use Rattle.reading.specs.Outcome.{Input, refusal, reading, Answer, answer, of_cause, of_limit, of_tokens, of_failure, ascending, report_of, numbers}
use Rattle.reading.specs.Outcome.{filled, Outcome, outcome, RunOutcome}
use Rattle.reading.specs.Run.{Ran}
use Rattle.reading.specs.Demand1.{Within, bounded_err}
use Rattle.reading.specs.Demand3.{Parses, parses, Fails, fails, SameSet, token_list, error_report, Each, Demand3}
use Rattle.reading.proofs.Exact.{tokens_area_exact, report_exact, Few}
use Rattle.reading.proofs.Accepted as Accepted
use Rattle.reading.proofs.AnswerLaws.{stop_number}
use Rattle.reading.proofs.Runs.{run_bounded, outcome_is}

-- ── An ending and its number ──
data Numbered (r : Ending State) : ℕ → Type 0 where
  is_0 : (f : Forest) → Parses r f → Numbered r 0
  is_10 : (a : Attempts) → Fails r a → Numbered r 10
  is_other : (n : ℕ) → 11 ≤ n → Numbered r n

limit_number : (r : Ending State) (k : LimitKind) (f : ℕ) → Numbered r (of_limit k f).number
limit_number r LimitKind.Call f = is_other 11 (omega arith)
limit_number r LimitKind.Stack f = is_other 12 (omega arith)

numbered : (r : Ending State) → Numbered r (answer r).number
numbered (Ok s) = go s.tracker.cause refl
  where
    go : (c : Option LimitKind) → s.tracker.cause ≡ c
        → Numbered (Ok s) (elim c as (λ _. Answer) [ Some k ↦ of_limit k s.attempts.furthest | None ↦ of_tokens (tokens s.siblings) ]).number
    go None e = is_0 s.siblings (parses s e)
    go (Some k) e = limit_number (Ok s) k s.attempts.furthest
numbered (Err s) = go s.tracker.cause refl
  where
    go : (c : Option LimitKind) → s.tracker.cause ≡ c
        → Numbered (Err s) (elim c as (λ _. Answer) [
          | Some k ↦ of_limit k s.attempts.furthest
          | None ↦ of_failure s.attempts.furthest (ascending s.attempts.positive) (ascending s.attempts.negative)
        ]).number
    go None e = is_10 s.attempts (fails s e)
    go (Some k) e = limit_number (Err s) k s.attempts.furthest
numbered (Stop h) = is_other (of_cause h.cause).number (omega (arith, (stop_number h.cause).0))

answer_parsed : (r : Ending State) (f : Forest) → Parses r f → answer r ≡ of_tokens (tokens f)
answer_parsed r f (parses s e) = rw e

answer_failed : (r : Ending State) (a : Attempts) → Fails r a → answer r ≡ of_failure a.furthest (ascending a.positive) (ascending a.negative)
answer_failed r a (fails s e) = rw e

-- ── One started run ──
module _ (i : Input) (e : refusal i ≡ None) where
  -- "Each gives 0 exactly when document 01's reading, stops included, comes to 0, and 10 exactly when it comes to 10"
  pub zero_exactly : ((outcome i).number ≡ 0) ↔ ((f : Forest) × Parses (reading i) f)
  zero_exactly = (to, from)
    where
      to : (outcome i).number ≡ 0 → (f : Forest) × Parses (reading i) f
      to q = go _ (numbered (reading i)) (sym (ap (λ (o : Outcome). o.number) (outcome_is i e)) ∙ q)
        where
          go : (n : ℕ) → Numbered (reading i) n → n ≡ 0 → (f : Forest) × Parses (reading i) f
          go n (is_0 f p) z = (f, p)
          go n (is_10 a p) z = absurd (omega arith)
          go n (is_other m h) z = absurd (omega arith)

      from : (f : Forest) × Parses (reading i) f → (outcome i).number ≡ 0
      from w = ap (λ (o : Outcome). o.number) (outcome_is i e) ∙ ap (λ (a : Answer). a.number) (answer_parsed (reading i) w.0 w.1)

  pub ten_exactly : ((outcome i).number ≡ 10) ↔ ((a : Attempts) × Fails (reading i) a)
  ten_exactly = (to, from)
    where
      to : (outcome i).number ≡ 10 → (a : Attempts) × Fails (reading i) a
      to q = go _ (numbered (reading i)) (sym (ap (λ (o : Outcome). o.number) (outcome_is i e)) ∙ q)
        where
          go : (n : ℕ) → Numbered (reading i) n → n ≡ 10 → (a : Attempts) × Fails (reading i) a
          go n (is_0 f p) z = absurd (omega arith)
          go n (is_10 a p) z = (a, p)
          go n (is_other m h) z = absurd (omega arith)

      from : (a : Attempts) × Fails (reading i) a → (outcome i).number ≡ 10
      from w = ap (λ (o : Outcome). o.number) (outcome_is i e) ∙ ap (λ (a : Answer). a.number) (answer_failed (reading i) w.0 w.1)

  -- "with that reading's tokens or report as laid out there"
  pub tokens_laid : (f : Forest) → Parses (reading i) f → (outcome i).tokens ≡ filled (length i.tokens) (numbers (tokens f))
  tokens_laid f p = ap (λ (o : Outcome). o.tokens) (outcome_is i e)
      ∙ ap (λ (a : Answer). filled (length i.tokens) (numbers a.tokens)) (answer_parsed (reading i) f p)

  pub count_laid : (f : Forest) → Parses (reading i) f → (outcome i).count ≡ length (tokens f)
  count_laid f p = ap (λ (o : Outcome). o.count) (outcome_is i e) ∙ ap (λ (a : Answer). a.count) (answer_parsed (reading i) f p)

  pub report_laid : (a : Attempts) → Fails (reading i) a
      → (outcome i).report ≡ filled (length i.report) (report_of a.furthest (ascending a.positive) (ascending a.negative))
  report_laid a p = ap (λ (o : Outcome). o.report) (outcome_is i e)
      ∙ ap (λ (x : Answer). filled (length i.report) x.report) (answer_failed (reading i) a p)

  few : (a : Attempts) → Fails (reading i) a → Few a.positive a.negative
  few a p = go (reading i) a p (run_bounded i e)
    where
      go : (r : Ending State) (a : Attempts) → Fails r a → Within i r → Few a.positive a.negative
      go r a (fails s q) (bounded_err t b) = record { positives = b.positives; negatives = b.negatives }

  report_room : 515 ≤ length i.report
  report_room = (Accepted.started i e).report_room

  pub each : Each i (outcome i)
  each = record {
    zero_exactly = zero_exactly;
    ten_exactly = ten_exactly;
    tokens_laid = tokens_laid;
    count_laid = count_laid;
    report_laid = report_laid;
  }

-- ── Any two started runs ──
module _ (i j : Input) (e : refusal i ≡ None) (d : refusal j ≡ None) where
  -- "If both parsed, their token lists are equal exactly when that reading gives both the same forest"
  pub same_tokens : (f h : Forest) → Parses (reading i) f → Parses (reading j) h → (token_list (outcome i) ≡ token_list (outcome j)) ↔ (f ≡ h)
  same_tokens f h p q =
      subst (λ (x : List ℕ). (x ≡ token_list (outcome j)) ↔ (f ≡ h)) (sym (list_is i e f p))
      (subst (λ (x : List ℕ). (take (length (tokens f) * 5) (filled (length i.tokens) (numbers (tokens f))) ≡ x) ↔ (f ≡ h)) (sym (list_is j d h q))
      (tokens_area_exact (length i.tokens) (length j.tokens) f h))
    where
      list_is : (i : Input) (e : refusal i ≡ None) (f : Forest) → Parses (reading i) f
          → token_list (outcome i) ≡ take (length (tokens f) * 5) (filled (length i.tokens) (numbers (tokens f)))
      list_is i e f p = ap₂ (λ (n : ℕ) (x : List ℕ). take (n * 5) x) (count_laid i e f p) (tokens_laid i e f p)

  -- "If both failed to match, their error reports are equal exactly when that reading gives both the same furthest position, the same
  -- set of positive rules and the same set of negative rules."
  pub same_reports : (a b : Attempts) → Fails (reading i) a → Fails (reading j) b
      → (error_report (outcome i) ≡ error_report (outcome j)) ↔ ((a.furthest ≡ b.furthest) × SameSet a.positive b.positive
      × SameSet a.negative b.negative)
  same_reports a b p q =
      subst (λ (x : List ℕ). (take 515 x ≡ error_report (outcome j)) ↔ Same) (sym (report_laid i e a p))
      (subst (λ (x : List ℕ). (take 515 (filled (length i.report) (report_of a.furthest (ascending a.positive) (ascending a.negative)))
      ≡ take 515 x) ↔ Same) (sym (report_laid j d b q))
      (report_exact (length i.report) (length j.report) a.furthest b.furthest a.positive a.negative b.positive b.negative (report_room i e)
      (report_room j d) (few i e a p) (few j d b q)))
    where
      Same : Type 0
      Same = (a.furthest ≡ b.furthest) × SameSet a.positive b.positive × SameSet a.negative b.negative

  both : Demand3 i j (outcome i) (outcome j)
  both = record { first = each i e; second = each j d; same_tokens = same_tokens; same_reports = same_reports }

  -- Demand 3, of any two values that keep `run`'s promise.
  pub demand_3 : (o p : RunOutcome) {b₁ a₁ b₂ a₂ : List ℕ} → Ran i o b₁ a₁ → Ran j p b₂ a₂ → Demand3 i j o.outcome p.outcome
  demand_3 o p a b = subst (λ (x : Outcome). Demand3 i j x p.outcome) (sym a.is) (subst (λ (x : Outcome). Demand3 i j (outcome i) x) (sym b.is) both)
