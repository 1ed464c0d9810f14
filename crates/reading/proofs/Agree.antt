-- A run of the reading answers what pest with document 01's stops comes to, and, where it does not stop, what pest's `state` gives:
-- the simulation at the first state, and sorting without duplicates said in two ways.
use mathlib.Core.Path.{◌≡◌, refl, sym, ap, ◌∙◌}
use mathlib.Core.Bool.{Bool, true, false}
use Rattle.std.specs.Prelude.{Option, None, Some}
use mathlib.Core.List.{List, [], ◌∷◌}
use mathlib.Core.Logic.{◌≢◌}
use Prim.Native.Nat.{ℕ, zero, suc, ◌≤◌, ◌<◌}
use native.Mathlib.Omega.{arith}
use lib.Dec.{eqb, ltb, leb}
use borrow.Author.Tests.{eqb-true, eqb-false, ltb-true, leb-true, leb-false, lt-ltb, le-ltb, ne_eqb}
use Rattle.matching.specs.Utf8.{Utf8}
use Rattle.reading.specs.declared.parser_state.Lookahead.{Lookahead}
use Rattle.reading.specs.declared.parser_state.Atomicity.{Atomicity}
use Rattle.reading.specs.declared.call_limit_tracker.LimitKind.{LimitKind}
use Rattle.reading.specs.Ending.{Ending, Ok, Err}
use Rattle.reading.specs.Grammar.{Exp}
use Rattle.reading.specs.Forest.{Forest, Token, tokens}
use Rattle.reading.specs.Reading as Reading
use Rattle.reading.specs.Reading.{Setting, State, initial}
use Rattle.reading.specs.Outcome.{Answer, answer, calls_of, of_tokens, of_limit, of_failure, insert, ascending}
use Rattle.reading.specs.Answer.{tokens_of}
use Rattle.reading.specs.Answer.{pest_answer, pest_calls, answer_to}
use Rattle.reading.specs.Pest as Pest
use Rattle.reading.specs.Pest.{ParserState, QueueableToken, Start, End, Result, Pairs, CustomError, ParsingError, Panic, sort_in, sort}
use Rattle.reading.specs.Pest.{dedup_in, dedup, state}
use Rattle.reading.specs.Sound.{fits_none}
use Rattle.reading.proofs.Trees.{Literals, Steady}
use Rattle.reading.proofs.StackLaws.{bottom}
use Rattle.reading.proofs.QueueLaws.{queue_from, top}
use Rattle.reading.proofs.AnswerLaws.{queue_tokens}
use Rattle.reading.specs.Fit.{Fit}
use Rattle.reading.proofs.Invariant.{Tested}
use Rattle.reading.proofs.Simulation.{Sim, sim_ok, sim_err, sim_stop, eval_sim, pest_of}
use Rattle.reading.proofs.Unbounded.{Freed, freed, eval_frees}
use Rattle.reading.proofs.Rounds.{ending_alike}

-- ── sort and dedup ──
dedup_in_insert : (y x : ℕ) (l : List ℕ) → y < x → dedup_in y (insert x l) ≡ insert x (dedup_in y l)
dedup_in_insert y x [] h =
    rw (ne_eqb y x (λ (e : y ≡ x). omega arith), le-ltb x y (omega arith), ne_eqb x y (λ (e : x ≡ y). omega arith))
dedup_in_insert y x (z ∷ l) h = go (ltb x z) refl (eqb x z) refl (eqb y z) refl
  where
    yx : eqb y x ≡ false
    yx = ne_eqb y x (λ (e : y ≡ x). omega arith)

    xy : eqb x y ≡ false
    xy = ne_eqb x y (λ (e : x ≡ y). omega arith)

    lx : ltb x y ≡ false
    lx = le-ltb x y (omega arith)

    go : (b : Bool) → ltb x z ≡ b → (c : Bool) → eqb x z ≡ c → (d : Bool) → eqb y z ≡ d
        → dedup_in y (insert x (z ∷ l)) ≡ insert x (dedup_in y (z ∷ l))
    go true e c f d g =
        let k : x < z = ltb-true x z e in
        rw (e, yx, ne_eqb y z (λ (q : y ≡ z). omega arith), lx, xy, e)
    go false e true f d g =
        let k : x ≡ z = eqb-true x z f in
        rw (e, f, ne_eqb y z (λ (q : y ≡ z). omega arith), lx, xy, e, f)
    go false e false f true g = rw (e, f, g, e, f)
    go false e false f false g = rw (e, f, g, lx, xy, e, f)

dedup_in_head : (x y : ℕ) (r : List ℕ) → x ≤ y → dedup_in x (y ∷ r) ≡ insert x (y ∷ r)
dedup_in_head x y r h = go (eqb x y) refl
  where
    go : (b : Bool) → eqb x y ≡ b → dedup_in x (y ∷ r) ≡ insert x (y ∷ r)
    go true e =
        let k : x ≡ y = eqb-true x y e in
        rw (e, le-ltb x y (omega arith))
    go false e =
        let k : x ≢ y = eqb-false x y e in
        rw (e, lt-ltb x y (omega arith))

dedup_in_dedup_in : (x y : ℕ) (l : List ℕ) → x ≤ y → dedup_in x (dedup_in y l) ≡ insert x (dedup_in y l)
dedup_in_dedup_in x y [] h = dedup_in_head x y [] h
dedup_in_dedup_in x y (z ∷ l) h = go (eqb y z) refl
  where
    go : (b : Bool) → eqb y z ≡ b → dedup_in x (dedup_in y (z ∷ l)) ≡ insert x (dedup_in y (z ∷ l))
    go true e = rw e (dedup_in_head x z l (omega (arith, eqb-true y z e)))
    go false e = rw e (dedup_in_head x y (z ∷ l) h)

dedup_sorted : (x : ℕ) (l : List ℕ) → dedup (sort_in x l) ≡ insert x (dedup l)
dedup_sorted x [] = refl
dedup_sorted x (y ∷ l) = go (leb x y) refl (dedup_sorted x l)
  where
    go : (b : Bool) → leb x y ≡ b → dedup (sort_in x l) ≡ insert x (dedup l) → dedup (sort_in x (y ∷ l)) ≡ insert x (dedup (y ∷ l))
    go true e ih = rw e (dedup_in_dedup_in x y (dedup l) (leb-true x y e))
    go false e ih = rw e (ap (dedup_in y) ih ∙ dedup_in_insert y x (dedup l) (leb-false x y e))

pub ascending_is : (l : List ℕ) → dedup (sort l) ≡ ascending l
ascending_is [] = refl
ascending_is (x ∷ l) = dedup_sorted x (sort l) ∙ ap (insert x) (ascending_is l)

-- ── The first state ──
pub initial_is : (limit : ℕ) → Pest.new limit ≡ pest_of top [] (initial limit)
initial_is zero = refl
initial_is (suc l) = rw (lt-ltb 0 (suc l) (omega arith))

pub initial_fit : (g : Setting) (limit : ℕ) → Utf8 g.text → Fit g (pest_of top [] (initial limit))
initial_fit g limit u = record {
  edge = record { inside = omega arith; whole = u };
  entries = tt;
  saved = tt;
  sound = record { fits = fits_none {h = 0} (omega arith); owed = refl; low = omega arith };
  room = omega arith;
  inside = omega arith;
  positives = omega arith;
  negatives = omega arith;
}

-- ── The answers ──
answers : {l : Lookahead} {a : Atomicity} {f : Forest} (r : Ending State) (m : Ending ParserState) → Sim top [] l a f r m → answer r ≡ pest_answer m
answers r m (sim_ok s p i k) = go s.tracker.cause
  where
    forest : tokens s.siblings ≡ tokens_of (queue_from s.outer s.siblings)
    forest = rw i.base (sym (queue_tokens 0 s.siblings))

    given : List Token → Option LimitKind → Answer
    given ts c = elim c [ Some x ↦ of_limit x s.attempts.furthest | None ↦ of_tokens ts ]

    go : (c : Option LimitKind) → given (tokens s.siblings) c ≡ given (tokens_of (queue_from s.outer s.siblings)) c
    go (Some x) = refl
    go None = ap of_tokens forest
answers r m (sim_err s p i k) = refl
answers r m (sim_stop c) = refl

calls_same : {l : Lookahead} {a : Atomicity} {f : Forest} (r : Ending State) (m : Ending ParserState) → Sim top [] l a f r m
    → calls_of r ≡ pest_calls m
calls_same r m (sim_ok s p i k) = refl
calls_same r m (sim_err s p i k) = refl
calls_same r m (sim_stop c) = refl

module _ (g : Setting) (set : ℕ → Bool) (w : Tested g set) (u : Utf8 g.text) (depth limit : ℕ) (e : Exp) (y : Literals e) (z : Steady set e) where
  -- A run and pest with the stops end alike.
  pub run_sim : Sim top [] (initial limit).lookahead (initial limit).atomicity (initial limit).siblings
      (Reading.eval g depth e (initial limit)) (Pest.eval g true depth e (Pest.new limit))
  run_sim = rw (initial_is limit) (eval_sim g set w depth e y z top [] [] (initial limit) (record { base = refl; inv = bottom })
      (initial_fit g limit u))

  pub alike : answer (Reading.eval g depth e (initial limit)) ≡ pest_answer (Pest.eval g true depth e (Pest.new limit))
  alike = answers _ _ run_sim

  pub calls_alike : calls_of (Reading.eval g depth e (initial limit)) ≡ pest_calls (Pest.eval g true depth e (Pest.new limit))
  calls_alike = calls_same _ _ run_sim

-- ── `state` ──
-- An ending that is no stop: a run that "stops for no added reason (13 to 16)".
pub data Runs : Ending State → Type 0 where
  runs_ok : (s : State) → Runs (Ok s)
  runs_err : (s : State) → Runs (Err s)

data Ends : Ending ParserState → Type 0 where
  ends_ok : (m : ParserState) → Ends (Ok m)
  ends_err : (m : ParserState) → Ends (Err m)

result_is : (x : Ending ParserState) → Ends x → pest_answer x ≡ answer_to (Pest.result_of x)
result_is x (ends_ok m) = go m.call_tracker.limit_reached
  where
    given : Option LimitKind → Answer
    given c = elim c [ Some k ↦ of_limit k m.attempt_pos | None ↦ of_tokens (tokens_of m.queue) ]

    go : (c : Option LimitKind) → given c ≡ answer_to (Pest.pairs_of c m)
    go (Some k) = refl
    go None = refl
result_is x (ends_err m) = go m.call_tracker.limit_reached
  where
    given : Option LimitKind → Answer
    given c = elim c [ Some k ↦ of_limit k m.attempt_pos | None ↦ of_failure m.attempt_pos (ascending m.pos_attempts) (ascending m.neg_attempts) ]

    go : (c : Option LimitKind) → given c ≡ answer_to (Pest.error_of c m)
    go (Some k) = refl
    go None = rw (ascending_is m.pos_attempts, ascending_is m.neg_attempts)

module _ (g : Setting) (set : ℕ → Bool) (w : Tested g set) (u : Utf8 g.text) (depth limit : ℕ) (e : Exp) (y : Literals e) (z : Steady set e) where
  -- Demand 2, the first half: a run that does not stop answers what `state` gives, and no loop of pest's uses up its rounds.
  pub agree_at : Runs (Reading.eval g depth e (initial limit)) → (spent : ParserState → Ending ParserState)
      → answer (Reading.eval g depth e (initial limit)) ≡ answer_to (state spent g depth limit e)
  agree_at h spent = go _ _ _ (run_sim g set w u depth limit e y z) h (eval_frees g depth e (Pest.new limit))
      ∙ ap (λ (x : Ending ParserState). answer_to (Pest.result_of x)) (ending_alike g set w (λ t. Err t) spent u depth limit e y z)
    where
      go : (r : Ending State) (m n : Ending ParserState)
          → Sim top [] (initial limit).lookahead (initial limit).atomicity (initial limit).siblings r m → Runs r → Freed m n
          → answer r ≡ answer_to (Pest.result_of n)
      go r m n (sim_ok s p i k) q (freed x) = answers _ _ (sim_ok s p i k) ∙ result_is _ (ends_ok (pest_of top p s))
      go r m n (sim_err s p i k) q (freed x) = answers _ _ (sim_err s p i k) ∙ result_is _ (ends_err (pest_of top p s))
      go r m n (sim_stop c) q f = absurd (elim q [ ])
