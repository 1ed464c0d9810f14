-- pest's queue of a forest stands for the forest's tokens; the numbers of the added stops.
use mathlib.Core.Path.{◌≡◌, refl, ap, ap₂, ◌∙◌}
use mathlib.Core.List.{List, [], ◌∷◌, ◌++◌}
use Prim.Native.Nat.{ℕ, suc, ◌+◌, ◌≤◌}
use native.Mathlib.Omega.{arith}
use Rattle.reading.specs.declared.parser_state.Cause.{Cause}
use Rattle.reading.specs.Forest.{Forest, empty, add, Token, tokens_from, size}
use Rattle.reading.specs.Pest.{QueueableToken, Start, End}
use Rattle.reading.specs.Outcome.{of_cause}
use Rattle.reading.specs.Answer.{token_of, tokens_of}
use Rattle.reading.proofs.QueueLaws.{queue_from}

pub tokens_append : (q r : List QueueableToken) → tokens_of (q ++ r) ≡ tokens_of q ++ tokens_of r
tokens_append [] r = refl
tokens_append (t ∷ q) r = ap (λ (l : List Token). token_of t ∷ l) (tokens_append q r)

pub queue_tokens : (n : ℕ) (f : Forest) → tokens_of (queue_from n f) ≡ tokens_from n f
queue_tokens n empty = refl
queue_tokens n (add f r t s e c) =
    tokens_append (queue_from n f) _
    ∙ ap₂ (λ (x y : List Token). x ++ (token_of (Start (n + size f + suc (size c)) s) ∷ y)) (queue_tokens n f)
    (tokens_append (queue_from (suc (n + size f)) c) (End (n + size f) r t e ∷ [])
    ∙ ap (λ (x : List Token). x ++ (token_of (End (n + size f) r t e) ∷ [])) (queue_tokens (suc (n + size f)) c))

-- "no added reason (13 to 16)"
pub stop_number : (c : Cause) → (13 ≤ (of_cause c).number) × ((of_cause c).number ≤ 16)
stop_number (Cause.EmptyStack l) = (omega arith, omega arith)
stop_number (Cause.TokensFull l) = (omega arith, omega arith)
stop_number (Cause.StackFull l) = (omega arith, omega arith)
stop_number (Cause.AttemptsFull l) = (omega arith, omega arith)
