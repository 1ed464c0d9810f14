-- Demand 2: a number up to 12 is given for no stop, and the laws of a run say the rest. Ford's relation gives one answer at most, so
-- what a 0 or a 10 says of it, it says of no other number.
use mathlib.Core.Path.{◌≡◌, sym, ap, ◌∙◌, subst}
use mathlib.Core.List.{List, ◌++◌, append_cancel_right}
use mathlib.Core.Logic.{◌↔◌, inl, inr}
use Rattle.std.specs.Prelude.{Option, None, Some}
use Prim.Native.Nat.{ℕ, ◌≤◌}
use native.Mathlib.Omega.{arith}
use lib.ListN.{drop}
use Rattle.reading.specs.Ending.{Ending, Ok, Err, Stop}
use Rattle.reading.specs.Grammar.{plain}
use Rattle.reading.specs.Reading.{State}
use Rattle.reading.specs.Outcome.{Input, refusal, setting, root_tree, reading, answer, started, RunOutcome}
use Rattle.reading.specs.Ford.{peg, rules_of, characters_of}
use Rattle.reading.specs.Run.{Ran}
use Rattle.reading.specs.Demand2.{Relates, Consumes, Fails, up_to, MatchOrFailure, Demand2}
use Rattle.reading.proofs.FordLaws.{ford_unique}
use Rattle.reading.proofs.AnswerLaws.{stop_number}
use Rattle.reading.proofs.Agree.{Runs, runs_ok, runs_err}
use Rattle.reading.proofs.Runs.{agree, loops_alike, ford_0, ford_10, left_over, split_text, outcome_is}

no_stop : (r : Ending State) → (answer r).number ≤ 12 → Runs r
no_stop (Ok s) h = runs_ok s
no_stop (Err s) h = runs_err s
no_stop (Stop x) h = absurd (omega (arith, (stop_number x.cause).0))

module _ (i : Input) (e : refusal i ≡ None) where
  one_answer : (x y : Option (List ℕ)) → Relates i x → Relates i y → x ≡ y
  one_answer x y f g = ford_unique (rules_of (setting i)) (peg (root_tree i)) (characters_of i.text) x f y g

  abbrev number : ℕ
  number = (answer (reading i)).number

  not_both : {A : Type 0} {y : List ℕ} → Relates i (Some y) → Relates i None → A
  not_both {y = y} f g = let z : Some y ≡ None = one_answer (Some y) None f g in let w : ◌≡◌ {A = ℕ} 0 1 = cc in absurd (omega arith)

  module _ (p : plain i.nodes ≡ None) where
    zero_exactly : MatchOrFailure number → (number ≡ 0) ↔ ((prefix : List ℕ) × Consumes i prefix)
    zero_exactly h = (to, from h)
      where
        to : number ≡ 0 → (prefix : List ℕ) × Consumes i prefix
        to q = let r = ford_0 i e p q in (r.2.0, record { left = r.0; relates = r.1; whole = r.2.1 })

        from : MatchOrFailure number → (prefix : List ℕ) × Consumes i prefix → number ≡ 0
        from (inl q) c = q
        from (inr q) c = not_both c.1.relates (ford_10 i e p q)

    ten_exactly : MatchOrFailure number → (number ≡ 10) ↔ Fails i
    ten_exactly h = (ford_10 i e p, from h)
      where
        from : MatchOrFailure number → Fails i → number ≡ 10
        from (inl q) f = not_both (ford_0 i e p q).1 f
        from (inr q) f = q

    consumed_exactly : number ≡ 0 → (s : State) → reading i ≡ Ok s → (prefix : List ℕ) → Consumes i prefix ↔ (prefix ≡ up_to i s)
    consumed_exactly q s r prefix = (to, from)
      where
        after : List ℕ
        after = characters_of (drop s.position i.text)

        parts : characters_of i.text ≡ up_to i s ++ after
        parts = split_text i e s r

        to : Consumes i prefix → prefix ≡ up_to i s
        to c =
            let l : c.left ≡ after = cc (one_answer (Some c.left) (Some after) c.relates (left_over i e p q s r)) in
            append_cancel_right prefix (up_to i s) after (ap (λ (y : List ℕ). prefix ++ y) (sym l) ∙ sym c.whole ∙ parts)

        from : prefix ≡ up_to i s → Consumes i prefix
        from d = record { left = after; relates = left_over i e p q s r; whole = parts ∙ ap (λ (y : List ℕ). y ++ after) (sym d) }

  of_started : Demand2 i (started i (answer (reading i)))
  of_started = record {
    state = λ h spent. ap (started i) (agree i e (no_stop (reading i) h) spent);
    loops = loops_alike i e;
    matches = zero_exactly;
    fails = ten_exactly;
    consumed = consumed_exactly;
    only = one_answer;
  }

  -- Demand 2, of any value that keeps `run`'s promise, started.
  pub demand_2 : (o : RunOutcome) {before after : List ℕ} → Ran i o before after → Demand2 i o.outcome
  demand_2 o a = subst (Demand2 i) (sym (a.is ∙ outcome_is i e)) of_started
