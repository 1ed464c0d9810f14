-- A rule's end goes through its tracking: what follows sees the state that tracking left, which stands where it stood.
use mathlib.Core.Path.{◌≡◌, refl, sym, ap, ◌∙◌, subst}
use mathlib.Core.Bool.{Bool, true, false, ◌&&◌, ◌||◌, not}
use mathlib.Core.List.{List, []}
use Prim.Native.Nat.{ℕ}
use native.Mathlib.Omega.{arith}
use lib.ListN.{length}
use lib.Dec.{ltb}
use Rattle.reading.specs.declared.parser_state.Cause.TheVariants.{AttemptsFull}
use Rattle.engine.specs.declared.attempts.Noted.{Noted}
use Rattle.engine.specs.declared.rule.Begun.{Begun}
use Rattle.engine.specs.declared.parser_state.ParserState as Code
use Rattle.reading.specs.declared.parser_state.Ending as Code·ending
use Rattle.reading.specs.declared.parser_state.Ending.TheVariants as Code·of
use Rattle.reading.specs.Ending.{Ending, Ok, Err, Stop, on_ok, stop_if, is_negative, is_atomic}
use Rattle.reading.specs.Grammar.{end_of_input}
use Rattle.reading.specs.Reading.{Setting, most_attempts}
use Rattle.reading.specs.Pest.{halted, ParserState, tracking, track, close_rule}
use Rattle.engine.specs.Areas.{view, view_end}
use Rattle.engine.specs.Ends.{rule_ended}
use Rattle.engine.specs.Rule.{dropped, Recording}
use Rattle.engine.proofs.AttemptLaws.{track_is}
use Rattle.engine.proofs.RuleLaws.{tracking_then}

-- ── tracking keeps the position ──
abbrev At : Ending ParserState → ℕ → Type 0
At (Ok m) p = m.position ≡ p
At (Err m) p = m.position ≡ p
At (Stop c) p = Unit {0}

module _ (g : Setting) (due : Bool) (line r p : ℕ) (n : Noted) (m : ParserState) where
  tracking_at : At (tracking g true due line r p n.positives n.negatives n.total m (λ t. Ok t)) m.position
  tracking_at = go due (is_atomic m.atomicity) refl
    where
      t : ParserState
      t = track r p n.positives n.negatives n.total m

      kept : is_atomic m.atomicity ≡ false → (full : Bool) → At (stop_if full (halted (AttemptsFull line) m) (λ _. Ok t)) m.position
      kept e true = tt
      kept e false = ap (λ (x : ParserState). x.position) (track_is r p n m e)

      go : (d b : Bool) → is_atomic m.atomicity ≡ b
          → At (elim (d && not b) [
            | false ↦ Ok m
            | true ↦ stop_if (ltb most_attempts (length t.pos_attempts) || ltb most_attempts (length t.neg_attempts)) (halted (AttemptsFull line) m)
                (λ _. Ok t)
          ]) m.position
      go false b e = refl
      go true true e = refl
      go true false e = kept e (ltb most_attempts (length t.pos_attempts) || ltb most_attempts (length t.neg_attempts))

-- ── a begun rule, after its tracking, which the code answered with y, known to be z ──
abbrev tracked : Setting → (due : Bool) → Begun → ParserState → (ParserState → Ending ParserState) → Ending ParserState
tracked g due o m k = tracking g true due o.line o.rule o.position.0 o.noted.positives o.noted.negatives o.noted.total m k

module _ (g : Setting) (due : Bool) (o : Begun) (m : ParserState) (tokens b : List ℕ) (s : Code.ParserState) {y z : Code·ending.Ending} (same : y ≡ z)
    (h : view_end tokens b s y ≡ tracked g due o m (λ (t : ParserState). Ok t)) where
  then_on : (k : ParserState → Ending ParserState) → on_ok (view_end tokens b s z) k ≡ tracked g due o m k
  then_on k =
      ap (λ (x : Ending ParserState). on_ok x k) (sym (ap (view_end tokens b s) same) ∙ h)
      ∙ sym (tracking_then g o.line o.rule due o.position.0 o.noted.positives o.noted.negatives o.noted.total m k)

  pub after_ok : due ≡ is_negative m.lookahead → {e : Ending ParserState}
      → e ≡ on_ok (view_end tokens b s z) (λ t. close_rule g true o.line o.rule o.index.0 t)
      → e ≡ rule_ended g o (Ok m)
  after_ok d q =
      let close = λ (t : ParserState). close_rule g true o.line o.rule o.index.0 t in
      q ∙ then_on close ∙ ap (λ (c : Bool). tracked g c o m close) d

  pub after_err : due ≡ not (is_negative m.lookahead) → {e : Ending ParserState} → e ≡ on_ok (view_end tokens b s z) (λ t. Err (dropped o.index.0 t))
      → e ≡ rule_ended g o (Err m)
  after_err d q =
      let drop = λ (t : ParserState). Err (dropped o.index.0 t) in
      q ∙ then_on drop ∙ ap (λ (c : Bool). tracked g c o m drop) d

-- Tracking does not look at the setting, so that any will do.
any_setting : Setting
any_setting = record { text = []; rule_at = λ l. record { line = 0; rule = 0; body = end_of_input }; capacity = 0 }

-- What writing the End asks of the state that tracking left.
pub recording_after : (tokens a b : List ℕ) {capacity : ℕ} (due : Bool) (o : Begun) (s t : Code.ParserState) {x : Code·ending.Ending} → x ≡ Code·of.Ok
    → ((g : Setting) (ts : List ℕ) → view_end ts b t x ≡ tracked g due o (view ts a s) (λ (u : ParserState). Ok u))
    → Recording tokens capacity s → Recording tokens capacity t
recording_after tokens a b due o s t {x} e h w =
    let stood : t.position.0 ≡ s.position.0 =
    subst (λ (y : Ending ParserState). At y s.position.0) (sym (h any_setting tokens) ∙ ap (view_end tokens b t) e)
    (tracking_at any_setting due o.line o.rule o.position.0 o.noted (view tokens a s)) in
    record { room = w.room; most = w.most; near = omega (arith, stood, w.near) }
