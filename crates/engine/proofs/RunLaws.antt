-- A run is the evaluation of the root from the first state, and its end. What either asks follows from the tests that passed, and from
-- what holds of every state of a run.
use mathlib.Core.Path.{◌≡◌, refl, sym, ap, ap₂, ◌∙◌, subst}
use mathlib.Core.Bool.{true}
use mathlib.Core.List.{List, []}
use Rattle.std.specs.Prelude.{Option, None, Some}
use Prim.Native.Nat.{ℕ, zero, suc, ◌*◌, ◌≤◌}
use native.Mathlib.Omega.{arith}
use lib.ListN.{length}
use borrow.Author.Tests.{lt-ltb}
use Rattle.reading.specs.declared.parser_state.Lookahead.TheVariants as Looks
use Rattle.reading.specs.declared.parser_state.Atomicity.TheVariants.{NonAtomic}
use Rattle.checks.specs.declared.grammar.Refused.{Refused}
use Rattle.engine.specs.declared.parser_state.ParserState as State
use Rattle.reading.specs.declared.parser_state.Ending as Declared
use Rattle.reading.specs.declared.parser_state.Ending.TheVariants as Code
use Rattle.reading.specs.Ending.{Ending, Ok, Err, Stop}
use Rattle.reading.specs.Pest as Pest
use Rattle.reading.specs.Pest.{ParserState, CallLimit}
use Rattle.engine.specs.Areas.{numbers, pairs, queue_of, positives_at, negatives_at, view, view_end}
use Rattle.checks.specs.Tracker.{limit_of}
use Rattle.reading.specs.Fit.{Fit}
use Rattle.checks.specs.Refusals.{refusal_of}
use Rattle.reading.specs.Outcome.{Input, Refusal, refusal, refused, capacity, setting, root_tree, reading, answer, Outcome, laid, started, outcome, RunOutcome}
use Rattle.reading.specs.Outcome.{calls_of, counted_calls}
use Rattle.reading.specs.Answer.{pest_answer, pest_calls}
use Rattle.engine.specs.Conclude.{Concluding, ConcludeReady}
use Rattle.engine.specs.Evaluation.{Ready, Line, evaluated}
use Rattle.reading.specs.Run.{Ran}
use Rattle.engine.proofs.Regions.{numbers_length}
use Rattle.engine.proofs.ConcludeLaws.{calls_left}
use Rattle.engine.proofs.TokenLaws.{queue_length}
use Rattle.reading.proofs.Invariant.{Keeps, keeps_ok, keeps_err, keeps_stop, eval_keeps}
use Rattle.reading.proofs.Agree.{initial_is, initial_fit}
use Rattle.reading.proofs.Accepted as Accepted
use Rattle.reading.proofs.Accepted.{Started, rule_still}
use Rattle.reading.proofs.Runs.{tested, root_literals, root_steady, run_alike, run_calls, outcome_is, calls_are, laid_same}

-- A call limit of 0 is none.
limit_is : (l : ℕ) → limit_of 0 l ≡ (Pest.new l).call_tracker.current_call_limit
limit_is zero = refl
limit_is (suc l) = rw (lt-ltb 0 (suc l) (omega arith))

-- The first state: empty lists, whatever the areas hold.
abbrev first : ℕ → State.ParserState
first l = record {
  position = record { 0 = 0 };
  queue = record { 0 = 0 };
  attempts = record { furthest = record { 0 = 0 }; positives = 0; negatives = 0 };
  stack = record { height = 0; popped = 0; checkpoints = 0 };
  tracker = record { current = 0; limit = l; reached = None };
  lookahead = Looks.None;
  atomicity = NonAtomic;
}

pub first_is : (l : ℕ) (tokens scratch : List ℕ) → view tokens scratch (first l) ≡ Pest.new l
unfolding numbers pairs queue_of
first_is l tokens scratch = ap (λ (x : Option CallLimit). record {
  position = 0;
  queue = [];
  lookahead = Looks.None;
  pos_attempts = [];
  neg_attempts = [];
  attempt_pos = 0;
  atomicity = NonAtomic;
  stack = record { cache = []; popped = []; lengths = [] };
  call_tracker = record { current_call_limit = x; limit_reached = None; calls = 0 };
}) (limit_is l)

-- ── A refused run ──
pub refused_is : (i : Input) (scratch : List ℕ) (r : Refused) → Some (refusal_of r) ≡ refusal i
    → Ran i (record { outcome = refused i (refusal_of r); calls = 0 }) scratch scratch
unfolding outcome counted_calls
refused_is i scratch r h = record {
  is = ap (λ (o : Option Refusal). elim o as (λ _. Outcome) [ Some t ↦ refused i t | None ↦ started i (answer (reading i)) ]) h;
  counted = ap (λ (o : Option Refusal). elim o as (λ _. ℕ) [ Some t ↦ 0 | None ↦ calls_of (reading i) ]) h;
  left = λ _ _. refl;
}

-- ── A started run ──
module _ (i : Input) (e : refusal i ≡ None) where
  s : Started i
  s = Accepted.started i e

  capacity_small : capacity i.tokens ≤ 65535
  capacity_small = omega arith

  capacity_fits : capacity i.tokens * 5 ≤ length i.tokens
  capacity_fits = omega arith

  first_fit : Fit (setting i) (Pest.new i.call_limit)
  first_fit = subst (Fit (setting i)) (sym (initial_is i.call_limit)) (initial_fit (setting i) i.call_limit s.text_whole)

  pub ready : (scratch : List ℕ) → i.scratch ≡ length scratch → (c : ℕ) → c ≡ capacity i.tokens → (m : ParserState) → m ≡ Pest.new i.call_limit
      → Ready i.nodes i.literals i.text i.tokens scratch c i.depth_limit m
  ready scratch k c b m n = rw (b, n) (record {
    fitting = s.fitting;
    moving = s.moving;
    short = s.text_short;
    small = capacity_small;
    area = capacity_fits;
    room = omega (arith, k, s.scratch_room);
    fit = first_fit;
    deep = omega (arith, s.depth_high);
  })

  pub line_of_root : Line i.nodes i.root
  line_of_root = record { low = s.root_line.0; high = s.root_line.1 }

  -- The evaluation from the first state.
  abbrev pub ran : Ending ParserState
  ran = Pest.eval (setting i) true i.depth_limit (root_tree i) (Pest.new i.call_limit)

  pub ran_is : (c : ℕ) → c ≡ capacity i.tokens → (m : ParserState) → m ≡ Pest.new i.call_limit → (r : Ending ParserState)
      → r ≡ evaluated i.nodes i.literals i.text c i.depth_limit (root_tree i) m → r ≡ ran
  unfolding evaluated
  ran_is c b m n r h = h ∙ ap₂ (λ (x : ℕ) (y : ParserState).
      evaluated i.nodes i.literals i.text x i.depth_limit (root_tree i) y) b n

  abbrev FitEnd : Ending ParserState → Type 0
  FitEnd (Ok m) = Fit (setting i) m
  FitEnd (Err m) = Fit (setting i) m
  FitEnd (Stop c) = Unit {0}

  ran_fits : FitEnd ran
  ran_fits = go _ (eval_keeps (setting i) (rule_still i.nodes) (tested i s.grammar) i.depth_limit (root_tree i)
      (root_literals i e) (root_steady i e) (Pest.new i.call_limit) first_fit)
    where
      go : {b : _} {p : ℕ} {l : _} {a : _} {marks held : ℕ} (r : Ending ParserState) → Keeps (setting i) b p l a marks held r → FitEnd r
      go r (keeps_ok n w x) = w.fit
      go r (keeps_err n w) = w.fit
      go r (keeps_stop c) = tt

  module _ (tokens scratch : List ℕ) (same : length tokens ≡ length i.tokens) (wide : i.scratch ≡ length scratch) where
    concluding : (t : State.ParserState) → Fit (setting i) (view tokens scratch t) → Concluding tokens scratch i.report t
    concluding t f = record {
      queue = omega (arith, f.room, queue_length tokens t.queue.0, capacity_fits, same);
      few = omega (arith, f.room, queue_length tokens t.queue.0, capacity_small);
      attempts = record {
        lent = record {
          room = omega (arith, wide, s.scratch_room);
          few = record {
            few_positives = omega (arith, f.positives, numbers_length scratch positives_at t.attempts.positives);
            few_negatives = omega (arith, f.negatives, numbers_length scratch negatives_at t.attempts.negatives);
          };
        };
        room = s.report_room;
        near = omega (arith, f.inside, s.text_short);
      };
    }

    pub concludable : (t : State.ParserState) (r : Declared.Ending) → view_end tokens scratch t r ≡ ran → ConcludeReady tokens scratch i.report t r
    concludable t r h = go r (subst FitEnd (sym h) ran_fits)
      where
        go : (r : Declared.Ending) → FitEnd (view_end tokens scratch t r) → ConcludeReady tokens scratch i.report t r
        go Code.Ok f = concluding t f
        go Code.Err f = concluding t f
        go (Code.Stop c) f = tt

    pub run_is : (o : RunOutcome) (t : State.ParserState) (r : Declared.Ending) {before after : List ℕ} → view_end tokens scratch t r ≡ ran
        → o.outcome ≡ laid (length tokens) (length i.report) (pest_answer (view_end tokens scratch t r)) → o.calls ≡ t.tracker.current
        → Ran i o before after
    run_is o t r h p q = record {
      is = p ∙ laid_same same refl (ap pest_answer h ∙ sym (run_alike i e)) ∙ sym (outcome_is i e);
      counted = q ∙ calls_left tokens scratch t r ∙ ap pest_calls h ∙ sym (run_calls i e) ∙ sym (calls_are i e);
      left = λ x d. let z : ◌≡◌ {A = ℕ} 0 1 = cc (e, d) in absurd (omega arith);
    }
