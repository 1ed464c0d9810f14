-- The laws of a run, from nothing but "its tests passed": it agrees with pest's `state` (demand 2), its lists keep their bounds,
-- and a plain grammar's run is what Ford's relation says.
use mathlib.Core.Path.{◌≡◌, refl, sym, ap, ◌∙◌, subst}
use mathlib.Core.Bool.{Bool, true}
use mathlib.Core.List.{List, [], ◌++◌}
use Rattle.std.specs.Prelude.{Option, None, Some}
use Prim.Native.Nat.{ℕ, ◌≤◌}
use lib.IntN.{ℤ}
use lib.ListN.{length, take, drop}
use Rattle.reading.specs.declared.parser_state.Lookahead.{Lookahead}
use Rattle.reading.specs.declared.parser_state.Atomicity.{Atomicity}
use Rattle.reading.specs.Ending.{Ending, Ok, Span, Checkpoint}
use Rattle.reading.specs.Forest.{Forest}
use Rattle.reading.specs.Grammar.{Exp, tree_at, rule_at, plain}
use Rattle.reading.specs.Reading as Reading
use Rattle.reading.specs.Reading.{State, initial, most_entries}
use Rattle.reading.specs.Pest as Pest
use Rattle.reading.specs.Pest.{ParserState}
use Rattle.reading.specs.Outcome.{Input, Refusal, refusal, capacity, setting, root_tree, reading, Answer, answer, laid, refused, started as laid_out, Outcome}
use Rattle.reading.specs.Outcome.{outcome, calls_of, counted_calls}
use Rattle.reading.specs.Answer.{pest_answer, pest_calls, answer_to}
use Rattle.reading.specs.Ford.{Ford, peg, rules_of, characters_of}
use Rattle.reading.specs.Demand1.{Bounded, Within, bounded_ok, bounded_err, bounded_stop}
use Rattle.reading.specs.Sound.{Fits, fits_none, fits_one}
use Rattle.reading.specs.Fit.{Fit}
use Rattle.reading.proofs.Trees.{Literals, Steady}
use Rattle.reading.proofs.QueueLaws.{top}
use Rattle.reading.proofs.Invariant.{Tested, Keeps, keeps_ok, keeps_err, eval_keeps}
use Rattle.reading.proofs.Simulation.{Sim, sim_ok, sim_err, sim_stop, pest_of, held_is}
use Rattle.reading.proofs.Rounds.{ending_alike}
use Rattle.reading.proofs.Agree.{initial_fit, run_sim, alike, calls_alike, agree_at, Runs}
use Rattle.reading.proofs.CharacterLaws.{characters_split}
use Rattle.reading.proofs.Recognition.{PlainRules, Recognised, matched, no_cause, ford_at, ford_parsed, ford_failed}
use Rattle.reading.proofs.Accepted.{Accepted, RuleLine, Started, started, rule_still, rule_still_is, tree_literals, body_literals}
use Rattle.reading.proofs.Accepted.{tree_calls, body_calls, tree_steady, body_steady, body_closed, tree_plain, body_plain, body_whole}

-- ── What a run depends on: of an area, its size ──
pub capacity_same : (a b : List ℕ) → length a ≡ length b → capacity a ≡ capacity b
capacity_same a b e = rw e

unfoldable pub run_of : (nodes : List ℤ) → (literals text : List ℕ) → (root capacity depth limit : ℕ) → Ending State
run_of ns l x r n d c = Reading.eval (record { text = x; rule_at = rule_at ns l; capacity = n }) d (tree_at ns l r) (initial c)

pub run_is : (i : Input) → reading i ≡ run_of i.nodes i.literals i.text i.root (capacity i.tokens) i.depth_limit i.call_limit
unfolding reading run_of
run_is i = refl

pub laid_same : {n n' m m' : ℕ} {a a' : Answer} → n ≡ n' → m ≡ m' → a ≡ a' → laid n m a ≡ laid n' m' a'
laid_same p q r = rw (p, q, r)

pub tested : (i : Input) → Accepted i.nodes i.literals → Tested (setting i) (rule_still i.nodes)
tested i a = record {
  literals = body_literals i.nodes i.literals a;
  closed = body_closed i.nodes i.literals a;
  steady = body_steady i.nodes i.literals a (rule_still i.nodes) (rule_still_is i.nodes);
}

module _ (i : Input) (e : refusal i ≡ None) where
  s : Started i
  s = started i e

  g : Accepted i.nodes i.literals
  g = s.grammar

  abbrev pub at_root : Exp
  at_root = root_tree i

  pub root_literals : Literals at_root
  root_literals = tree_literals i.nodes i.literals g i.root

  pub root_steady : Steady (rule_still i.nodes) at_root
  root_steady = tree_steady i.nodes i.literals g (rule_still i.nodes) (rule_still_is i.nodes) i.root

  pub outcome_is : outcome i ≡ laid_out i (answer (reading i))
  unfolding outcome
  outcome_is = ap (λ (r : Option Refusal). elim r as (λ _. Outcome) [ Some x ↦ refused i x | None ↦ laid_out i (answer (reading i)) ]) e

  pub calls_are : counted_calls i ≡ calls_of (reading i)
  unfolding counted_calls
  calls_are = ap (λ (r : Option Refusal). elim r as (λ _. ℕ) [ Some x ↦ 0 | None ↦ calls_of (reading i) ]) e

  -- ── Demand 2: `state` ──
  -- A run that stops for no added reason answers what pest's `state` gives: number, tokens, furthest, sorted rules.
  pub agree : Runs (reading i) → (spent : ParserState → Ending ParserState)
      → answer (reading i) ≡ answer_to (Pest.state spent (setting i) i.depth_limit i.call_limit at_root)
  unfolding reading
  agree h spent = agree_at (setting i) (rule_still i.nodes) (tested i g) s.text_whole i.depth_limit i.call_limit at_root root_literals
      root_steady h spent

  -- No loop of pest's uses up its rounds, stops included: whatever stands for that, a run's ending is the same.
  pub loops_alike : (spent other : ParserState → Ending ParserState) → Pest.ending spent (setting i) i.depth_limit i.call_limit at_root
      ≡ Pest.ending other (setting i) i.depth_limit i.call_limit at_root
  loops_alike spent other = ending_alike (setting i) (rule_still i.nodes) (tested i g) spent other s.text_whole i.depth_limit i.call_limit
      at_root root_literals root_steady

  -- Every run, stops included, and pest that has document 01's bounds.
  pub run_alike : answer (reading i) ≡ pest_answer (Pest.eval (setting i) true i.depth_limit at_root (Pest.new i.call_limit))
  unfolding reading
  run_alike = alike (setting i) (rule_still i.nodes) (tested i g) s.text_whole i.depth_limit i.call_limit at_root root_literals root_steady

  pub run_calls : calls_of (reading i) ≡ pest_calls (Pest.eval (setting i) true i.depth_limit at_root (Pest.new i.call_limit))
  unfolding reading
  run_calls = calls_alike (setting i) (rule_still i.nodes) (tested i g) s.text_whole i.depth_limit i.call_limit at_root root_literals root_steady

  -- ── Demand 1: bounds ──
  tall : {h : ℕ} {ks : List Checkpoint} → Fits h ks → h ≤ most_entries
  tall (fits_none l) = l
  tall (fits_one l a b f) = l

  bounded_of : (t : State) (p : List Span) → t.outer ≡ 0 → Fit (setting i) (pest_of top p t) → Bounded i t
  bounded_of t p o f = record {
    edge = f.edge;
    entries = tall f.sound.fits;
    owed = f.sound.low;
    tokens = rw (held_is (setting i) top p t o) at f.room;
    inside = f.inside;
    positives = f.positives;
    negatives = f.negatives;
  }

  pub run_bounded : Within i (reading i)
  unfolding reading
  run_bounded =
      go _ _ (run_sim (setting i) (rule_still i.nodes) (tested i g) s.text_whole i.depth_limit i.call_limit at_root root_literals root_steady)
      (eval_keeps (setting i) (rule_still i.nodes) (tested i g) i.depth_limit at_root root_literals root_steady (Pest.new i.call_limit)
      (initial_fit (setting i) i.call_limit s.text_whole))
    where
      go : (r : Ending State) (m : Ending ParserState) {b : Bool} {q : ℕ} {l l' : Lookahead} {a a' : Atomicity} {f : Forest} {marks n : ℕ}
          → Sim top [] l' a' f r m → Keeps (setting i) b q l a marks n m → Within i r
      go r m (sim_ok t p j k) (keeps_ok n w x) = bounded_ok t (bounded_of t p j.base w.fit)
      go r m (sim_err t p j k) (keeps_err n w) = bounded_err t (bounded_of t p j.base w.fit)
      go r m (sim_stop c) w = bounded_stop c

  -- ── Demand 2: Ford ──
  -- Where a run ended Ok, the text's characters are those before its position and those after it.
  pub split_text : (t : State) → reading i ≡ Ok t
      → characters_of i.text ≡ characters_of (take t.position i.text) ++ characters_of (drop t.position i.text)
  split_text t q = go (subst (Within i) q run_bounded)
    where
      go : Within i (Ok t) → characters_of i.text ≡ characters_of (take t.position i.text) ++ characters_of (drop t.position i.text)
      go (bounded_ok u b) = characters_split t.position i.text s.text_whole b.edge

  module _ (p : plain i.nodes ≡ None) where
    rules : PlainRules (setting i) (RuleLine i.nodes)
    rules = record {
      plain = λ l r. body_plain i.nodes i.literals g p l;
      whole_body = body_whole i.nodes i.literals g p;
      calls = λ l r. body_calls i.nodes i.literals g l;
    }

    -- A plain grammar's match or failure is the one that Ford's relation gives on the text's characters.
    pub ford : (o : Option (List ℕ)) → Recognised (setting i) (reading i) o → Ford (rules_of (setting i)) (peg at_root) (characters_of i.text) o
    unfolding reading
    ford o h = ford_at (setting i) (rule_still i.nodes) (tested i g) (RuleLine i.nodes) rules s.text_whole i.depth_limit i.call_limit at_root
        (tree_plain i.nodes i.literals g p i.root) (tree_calls i.nodes i.literals g i.root) root_literals root_steady o h

    -- "a run gives 0 only where Ford's relation consumes a prefix of the text"
    pub ford_0 : (answer (reading i)).number ≡ 0 → (y : List ℕ) × Ford (rules_of (setting i)) (peg at_root) (characters_of i.text) (Some y)
        × ((c : List ℕ) × (characters_of i.text ≡ c ++ y))
    unfolding reading
    ford_0 q = ford_parsed (setting i) (rule_still i.nodes) (tested i g) (RuleLine i.nodes) rules s.text_whole i.depth_limit i.call_limit at_root
        (tree_plain i.nodes i.literals g p i.root) (tree_calls i.nodes i.literals g i.root) root_literals root_steady q

    -- "and 10 only where it fails"
    pub ford_10 : (answer (reading i)).number ≡ 10 → Ford (rules_of (setting i)) (peg at_root) (characters_of i.text) None
    unfolding reading
    ford_10 q = ford_failed (setting i) (rule_still i.nodes) (tested i g) (RuleLine i.nodes) rules s.text_whole i.depth_limit i.call_limit at_root
        (tree_plain i.nodes i.literals g p i.root) (tree_calls i.nodes i.literals g i.root) root_literals root_steady q

    -- What Ford's relation leaves is the text from the position on at which the reading ended.
    pub left_over : (answer (reading i)).number ≡ 0 → (t : State) → reading i ≡ Ok t
        → Ford (rules_of (setting i)) (peg at_root) (characters_of i.text) (Some (characters_of (drop t.position i.text)))
    left_over q t r = ford (Some (characters_of (drop t.position i.text)))
        (subst (λ (x : Ending State). Recognised (setting i) x (Some (characters_of (drop t.position i.text)))) (sym r)
        (matched t (no_cause t (ap (λ (x : Ending State). (answer x).number) (sym r) ∙ q))))
