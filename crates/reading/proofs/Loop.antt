-- A repeat's rounds are those of a loop without a bound: each round that is Ok comes nearer to the end of the text, so the fuel is
-- never used up. One law for any rounds over any state, for pest's repeat and for the reading's.
use Rattle.std.specs.Prelude.{if◌then◌else◌}
use mathlib.Core.Path.{◌≡◌, refl, ap, subst}
use mathlib.Core.Bool.{Bool, true, false}
use mathlib.Core.List.{List}
use Prim.Native.Nat.{ℕ, zero, suc, ◌-◌, ◌<◌}
use native.Mathlib.Omega.{arith}
use lib.ListN.{length}
use Rattle.reading.specs.Ending.{Halted, Ending, Ok, Err, Stop, Loops, loops_ok, loops_err, loops_stop}
use Rattle.reading.specs.Grammar.{Exp}
use Rattle.reading.specs.Reading as Reading
use Rattle.reading.specs.Reading.{Setting, State, most_rounds}
use Rattle.reading.specs.Pest as Pest
use Rattle.reading.specs.Pest.{ParserState}
use Rattle.reading.proofs.Trees.{Literals, still, Steady}
use Rattle.reading.proofs.StackLaws.{Stk}
use Rattle.reading.proofs.QueueLaws.{Open}
use Rattle.reading.specs.Fit.{Fit}
use Rattle.reading.proofs.Invariant.{keeps_ok, KeepsFrom, Keeping, Tested, eval_keeps}
use Rattle.reading.proofs.Rounds.{Free, Alike, alike_ok, alike_err, alike_stop, AlikeFrom, eval_alike}
use Rattle.reading.proofs.Simulation.{Sim, sim_ok, sim_err, sim_stop, Preserves, Good, pest_of, eval_sim}

module _ {S : Type 0} (limited : S → Bool) (body : S → Ending S) (rounds : ℕ → S → Ending S) (again : Ending S → (S → Ending S) → Ending S)
    (unrolled : (n : ℕ) (s : S) → rounds (suc n) s ≡ again (body s) (λ t. rounds n t))
    (again_ok : (t : S) (k : S → Ending S) → again (Ok t) k ≡ k t)
    (again_err : (t : S) (k : S → Ending S) → again (Err t) k ≡ (if limited t then Err t else Ok t))
    (again_stop : (h : Halted) (k : S → Ending S) → again (Stop h) k ≡ Stop h)
    (Holds : S → Type 0) (left : S → ℕ) (nearer : (s t : S) → Holds s → body s ≡ Ok t → Holds t × (left t < left s)) where
  rounds_loop : (n : ℕ) (s : S) → Holds s → left s < n → Loops limited body s (rounds n s)
  rounds_loop zero s h l = absurd (omega arith)
  rounds_loop (suc n) s h l = rw (unrolled n s) (go (body s) refl (λ t k i. rounds_loop n t k i))
    where
      go : (r : Ending S) → body s ≡ r → ((t : S) → Holds t → left t < n → Loops limited body t (rounds n t))
          → Loops limited body s (again r (λ t. rounds n t))
      go (Ok t) e ih =
          let k : Holds t × (left t < left s) = nearer s t h e in
          rw (again_ok t (λ u. rounds n u)) (loops_ok s t _ e (ih t k.0 (omega arith)))
      go (Err t) e ih = rw (again_err t (λ u. rounds n u)) (loops_err s t e)
      go (Stop h) e ih = rw (again_stop h (λ u. rounds n u)) (loops_stop s h e)

module _ (g : Setting) where
  abbrev left_of : ℕ → ℕ
  left_of p = length g.text - p

  -- A state of the reading that stands for a fit state of pest.
  pub record Stands (s : State) : Type 0 where
    pub open_rules : Open
    pub saves : List Stk
    pub popped : Stk
    pub good : Good open_rules saves popped s
    pub fit : Fit g (pest_of open_rules popped s)

  reading_loop : (r : State → Ending State) (f : ParserState → Ending ParserState) → Preserves g r f → Keeping g false f
      → (n : ℕ) (s : State) → Stands s → length g.text - s.position < n
      → Loops Reading.limited r s (Reading.rounds n r s)
  reading_loop r f h k = rounds_loop Reading.limited r (λ n s. Reading.rounds n r s) (λ x again. Reading.round_end x again)
      (λ n s. refl) (λ s again. refl) (λ s again. refl) (λ c again. refl)
      Stands (λ s. left_of s.position) nearer
    where
      nearer : (s t : State) → Stands s → r s ≡ Ok t → Stands t × (left_of t.position < left_of s.position)
      nearer s t x e = go (r s) (f (pest_of x.open_rules x.popped s)) e (h x.open_rules x.saves x.popped s x.good x.fit)
          (k (pest_of x.open_rules x.popped s) x.fit)
        where
          go : (y : Ending State) (m : Ending ParserState) → y ≡ Ok t → Sim x.open_rules x.saves s.lookahead s.atomicity s.siblings y m
              → KeepsFrom g false (pest_of x.open_rules x.popped s) m
              → Stands t × (left_of t.position < left_of s.position)
          go y m q (sim_ok u p j l) (keeps_ok n w i) =
              let z : u ≡ t = cc in (
                subst Stands z (record { open_rules = x.open_rules; saves = x.saves; popped = p; good = j; fit = w.fit }),
                omega (arith, i refl, w.fit.edge.inside, ap (λ (v : State). v.position) z),
              )
          go y m q (sim_err u p j l) w = let z : ◌≡◌ {A = ℕ} 0 1 = cc in absurd (omega arith)
          go y m q (sim_stop c) w = let z : ◌≡◌ {A = ℕ} 0 1 = cc in absurd (omega arith)

-- A repeat whose body may not stand still, at every depth, from every state of a run: its rounds are a loop's.
pub repeat_is_loop : (g : Setting) (set : ℕ → Bool) (w : Tested g set) (depth : ℕ) (e : Exp) → Literals e → Steady set e
    → still set e ≡ false → (s : State) → Stands g s
    → Loops Reading.limited (Reading.eval g depth e) s (Reading.rounds (most_rounds g s.position) (Reading.eval g depth e) s)
repeat_is_loop g set w depth e u y b s x =
    reading_loop g (Reading.eval g depth e) (Pest.eval g true depth e) (eval_sim g set w depth e u y)
    (subst (λ (c : Bool). Keeping g c (Pest.eval g true depth e)) b (eval_keeps g set w depth e u y))
    (most_rounds g s.position) s x (omega arith)

-- The same of pest's own, which nothing bounds, whatever it answers to rounds that are used up.
pub pest_repeat_is_loop : (g : Setting) (set : ℕ → Bool) (w : Tested g set) (spent : ParserState
    → Ending ParserState) (depth : ℕ) (e : Exp) → Literals e → Steady set e → still set e ≡ false → (m : ParserState) → Free g m
    → Loops Pest.limit_reached (Pest.eval_with g false spent depth e) m
    (Pest.loop spent (most_rounds g m.position) (Pest.eval_with g false spent depth e) m)
pest_repeat_is_loop g set w spent depth e u y b m x =
    rounds_loop Pest.limit_reached body (λ n t. Pest.loop spent n body t) (λ r again. Pest.round_end r again)
    (λ n t. refl) (λ t again. refl) (λ t again. refl) (λ c again. refl)
    (Free g) (λ t. left_of g t.position) nearer (most_rounds g m.position) m x (omega arith)
  where
    body : ParserState → Ending ParserState
    body = Pest.eval_with g false spent depth e

    moves : AlikeFrom g false body body
    moves = subst (λ (c : Bool). AlikeFrom g c body body) b (eval_alike g set w spent spent depth e u y)

    nearer : (s t : ParserState) → Free g s → body s ≡ Ok t → Free g t × (left_of g t.position < left_of g s.position)
    nearer s t z q = go (body s) (body s) q (moves s z)
      where
        go : (r r' : Ending ParserState) → r ≡ Ok t → Alike g false s.position r r' → Free g t × (left_of g t.position < left_of g s.position)
        go r r' q (alike_ok n v) =
            let j : n ≡ t = cc in
            (subst (Free g) j v.free, omega (arith, v.moved refl, v.free.edge.inside, ap (λ (k : ParserState). k.position) j))
        go r r' q (alike_err n v) = let j : ◌≡◌ {A = ℕ} 0 1 = cc in absurd (omega arith)
        go r r' q (alike_stop c) = let j : ◌≡◌ {A = ℕ} 0 1 = cc in absurd (omega arith)
