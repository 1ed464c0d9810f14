-- An ending is known in each arm of a function over it: there the definition computes, and one law says what the arm's state stands for.
use mathlib.Core.Path.{◌≡◌, refl, sym, ap, ◌∙◌}
use mathlib.Core.Bool.{Bool, true, false}
use mathlib.Core.List.{List}
use Rattle.std.specs.Prelude.{Option, None, Some}
use Prim.Native.Nat.{ℕ, ◌≤◌}
use lib.ListN.{take}
use Rattle.matching.specs.Answers.{matched}
use Rattle.matching.specs.declared.position.BytePosition.{BytePosition}
use Rattle.matching.specs.declared.position.TokenIndex.{TokenIndex}
use Rattle.reading.specs.declared.parser_state.Lookahead.{Lookahead}
use Rattle.engine.specs.Fields as Code
use Rattle.engine.specs.declared.parser_state.ParserState as CodeState
use Rattle.reading.specs.Ending.{Ok, Err}
use Rattle.reading.specs.Pest.{ParserState, QueueableToken, set_position, set_queue, set_lookahead, limit_reached, moved}
use Rattle.engine.specs.Areas.{view, queue_of}
use Rattle.engine.specs.StackMatch.{match_of}
use Rattle.engine.specs.Ends.{looking}
use Rattle.engine.proofs.TokenLaws.{queue_take}

-- ── the state before a restore ──
abbrev pub back_to : CodeState.ParserState → BytePosition → TokenIndex → Lookahead → CodeState.ParserState
back_to s p i l = Code.set_lookahead l (Code.set_queue i (Code.set_position p s))

module _ (a : List ℕ) (s t : CodeState.ParserState) (p : BytePosition) (i : TokenIndex) (l : Lookahead) (e : t ≡ back_to s p i l) where
  pub cut_view : (tokens : List ℕ) → i.0 ≤ s.queue.0
      → view tokens a t ≡ set_lookahead l (set_queue (take i.0 (queue_of tokens s.queue.0)) (set_position p.0 (view tokens a s)))
  cut_view tokens h = ap (view tokens a) e ∙ ap (λ (q : List QueueableToken).
      set_lookahead l (set_queue q (set_position p.0 (view tokens a s)))) (sym (queue_take tokens s.queue.0 i.0 h))

-- ── the answer of a lookahead ──
pub looking_limit : (good : Bool) (m : ParserState) → limit_reached m ≡ true → Err m ≡ looking good m
looking_limit good m e = rw e

pub looking_good : (good : Bool) (m : ParserState) → limit_reached m ≡ false → good ≡ true → Ok m ≡ looking good m
looking_good good m e f = rw (e, f)

-- ── terminals ──
-- The code's answer of a matcher moves the state as the definition's does.
pub moved_by : (o : Option ℕ) (q : Option BytePosition) (m : ParserState) → q ≡ matched o → moved (match_of q) m ≡ moved o m
moved_by o q m e = ap (λ (x : Option BytePosition). moved (match_of x) m) e ∙ go o
  where
    go : (y : Option ℕ) → moved (match_of (matched y)) m ≡ moved y m
    go None = refl
    go (Some p) = refl
