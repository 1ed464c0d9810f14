-- A packed ending gives back the ending: the line and the cause's number are quotient and remainder of a division by 4.
use mathlib.Core.Path.{◌≡◌, refl, ap, sym, ◌∙◌}
use Prim.Native.Nat.{ℕ, ◌+◌, ◌-◌, ◌*◌, ◌/◌, ◌%◌, ◌<◌}
use native.Mathlib.Omega.{arith}
use borrow.Author.Tests.{eq-eqb, ne_eqb}
use Rattle.reading.specs.declared.parser_state.Cause.{Cause}
use Rattle.reading.specs.declared.parser_state.Cause.TheVariants.{EmptyStack, TokensFull, StackFull, AttemptsFull}
use Rattle.reading.specs.declared.parser_state.Ending.{Ending}
use Rattle.reading.specs.declared.parser_state.Ending.TheVariants.{Ok, Err, Stop}
use Rattle.checks.specs.Packed.{packed, cause_of, unpacked}

unpacked_err : (n : ℕ) → n ≡ 0 → Err ≡ unpacked n
unfolding unpacked
unpacked_err n e = simp (eq-eqb n 0 e)

unpacked_ok : (n : ℕ) → n ≡ 1 → Ok ≡ unpacked n
unfolding unpacked
unpacked_ok n e = simp (ne_eqb n 0 (λ f. omega arith), eq-eqb n 1 e)

unpacked_stop : (n : ℕ) (c : Cause)
    → (n ≡ 0 → ⊥) → (n ≡ 1 → ⊥) → c ≡ cause_of ((n - 2) % 4) ((n - 2) / 4 % 4294967296) → Stop c ≡ unpacked n
unfolding unpacked
unpacked_stop n c f g e = rw (ne_eqb n 0 f, ne_eqb n 1 g) (ap Stop e)

-- ── There and back ──
-- The line of a stop has 32 bits, as a cause's line in the code.
abbrev Narrow : Ending → Type 0
Narrow Ok = Unit {0}
Narrow Err = Unit {0}
Narrow (Stop (EmptyStack line)) = line < 4294967296
Narrow (Stop (TokensFull line)) = line < 4294967296
Narrow (Stop (StackFull line)) = line < 4294967296
Narrow (Stop (AttemptsFull line)) = line < 4294967296

stop_back : (n k line : ℕ) (c : Cause)
    → n ≡ line * 4 + (2 + k) → k < 4 → line < 4294967296 → c ≡ cause_of k line → unpacked n ≡ Stop c
stop_back n k line c e h l q =
    sym (unpacked_stop n c (λ f. omega arith) (λ f. omega arith)
    (q ∙ ap (λ (x : ℕ). cause_of x line) number ∙ ap (cause_of ((n - 2) % 4)) place))
  where
    number : k ≡ (n - 2) % 4
    number = omega arith

    place : line ≡ (n - 2) / 4 % 4294967296
    place = omega arith

pub unpacked_packed : (e : Ending) → Narrow e → unpacked (packed e) ≡ e
unpacked_packed Ok w = sym (unpacked_ok 1 refl)
unpacked_packed Err w = sym (unpacked_err 0 refl)
unpacked_packed (Stop (EmptyStack line)) w = stop_back (line * 4 + 2) 0 line (EmptyStack line) refl (omega arith) w refl
unpacked_packed (Stop (TokensFull line)) w = stop_back (line * 4 + 3) 1 line (TokensFull line) refl (omega arith) w refl
unpacked_packed (Stop (StackFull line)) w = stop_back (line * 4 + 4) 2 line (StackFull line) refl (omega arith) w refl
unpacked_packed (Stop (AttemptsFull line)) w = stop_back (line * 4 + 5) 3 line (AttemptsFull line) refl (omega arith) w refl

-- What `packed` promises, of the ending that an arm knows.
pub packed_as : {e : Ending} (x : Ending) → e ≡ x → Narrow x → (packed x ≡ packed e) × (unpacked (packed x) ≡ e)
packed_as x p w = (ap packed (sym p), unpacked_packed x w ∙ sym p)
