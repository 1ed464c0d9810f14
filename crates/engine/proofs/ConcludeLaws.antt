-- How many tokens and rules an answer counts: a queue of n tokens has n, and sorting without duplicates adds none.
use Rattle.std.specs.Prelude.{if◌then◌else◌}
use mathlib.Core.Path.{◌≡◌, refl, ap}
use mathlib.Core.Bool.{Bool, true, false}
use mathlib.Core.List.{List, [], ◌∷◌}
use Prim.Native.Nat.{ℕ, suc, ◌≤◌}
use native.Mathlib.Omega.{arith}
use lib.ListN.{length}
use lib.Dec.{eqb, ltb}
use Rattle.reading.specs.Pest.{QueueableToken}
use Rattle.reading.specs.declared.parser_state.Ending.{Ending}
use Rattle.reading.specs.declared.parser_state.Ending.TheVariants as Code
use Rattle.engine.specs.declared.parser_state.ParserState.{ParserState}
use Rattle.engine.specs.Areas.{numbers, queue_of, view_end}
use Rattle.reading.specs.Outcome.{insert, ascending, Outcome}
use Rattle.reading.specs.Answer.{tokens_of, pest_calls}
use Rattle.engine.proofs.Regions.{numbers_length}
use Rattle.engine.proofs.TokenLaws.{queue_length}

-- ── Tokens ──
tokens_length : (q : List QueueableToken) → length (tokens_of q) ≡ length q
tokens_length [] = refl
tokens_length (t ∷ q) = ap suc (tokens_length q)

pub tokens_count : (a : List ℕ) (n : ℕ) → n ≡ length (tokens_of (queue_of a n))
tokens_count a n = omega (arith, tokens_length (queue_of a n), queue_length a n)

-- ── Rules ──
insert_length : (x : ℕ) (l : List ℕ) → length (insert x l) ≤ suc (length l)
insert_length x [] = omega arith
insert_length x (y ∷ l) = go (ltb x y) (eqb x y) (insert_length x l)
  where
    go : (b c : Bool) → length (insert x l) ≤ suc (length l)
        → length (if b then x ∷ y ∷ l else if c then y ∷ l else y ∷ insert x l) ≤ suc (suc (length l))
    go true c h = omega arith
    go false true h = omega arith
    go false false h = omega (arith, h)

ascending_length : (l : List ℕ) → length (ascending l) ≤ length l
ascending_length [] = omega arith
ascending_length (x ∷ l) = omega (arith, insert_length x (ascending l), ascending_length l)

pub rules_few : (a : List ℕ) (at n : ℕ) → length (ascending (numbers a at n)) ≤ n
rules_few a at n = omega (arith, ascending_length (numbers a at n), numbers_length a at n)

-- ── An outcome by its parts ──
pub outcome_ext : {k p c c' : ℕ} {t t' r r' : List ℕ} → c ≡ c' → t ≡ t' → r ≡ r'
    → ◌≡◌ {A = Outcome} (record { number = k; place = p; count = c; tokens = t; report = r })
    (record { number = k; place = p; count = c'; tokens = t'; report = r' })
outcome_ext {k = k} {p = p} a b d = λ i. record { number = k; place = p; count = a i; tokens = b i; report = d i }

-- ── The counted calls ──
-- Whichever ending it is, they are the tracker's count.
pub calls_left : (tokens scratch : List ℕ) (s : ParserState) (r : Ending) → s.tracker.current ≡ pest_calls (view_end tokens scratch s r)
calls_left tokens scratch s Code.Ok = refl
calls_left tokens scratch s Code.Err = refl
calls_left tokens scratch s (Code.Stop c) = refl
