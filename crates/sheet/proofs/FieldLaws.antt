-- The definitions of specs/Field.antt by what a loop or a match of src/field.rt goes by: the first byte, and what lies behind it.
-- Then signed 32-bit numbers, as the machine has them.
use Prim.Native.Nat.{ℕ, zero, suc, ◌+◌, ◌-◌, ◌*◌, ◌^◌, ◌≤◌, ◌<◌}
use native.Mathlib.Omega.{arith}
use native.Mathlib.Numerals.{add-one}
use native.Mathlib.Nat.{pow-suc, pow-le-pow_right}
use mathlib.Core.Path.{◌≡◌, refl}
use mathlib.Core.Bool.{Bool, true, false, cond, ◌&&◌}
use mathlib.Core.List.{List, [], ◌∷◌}
use Rattle.std.specs.Prelude.{Option, None, Some}
use Rattle.std.proofs.lemmas.Bool.{and_parts}
use Rattle.std.proofs.lemmas.Option.{cond_some, none-some}
use lib.Dec.{ltb, leb, eqb}
use lib.IntN.{ℤ, pos, negsuc}
use lib.ListN.{length, get_or, take, drop}
use lib.Seq.{drop-cons, drop-length, take-length}
use mir.Syntax.{w32}
use mir.Val.{SFits, to_z, of_z}
use mir.Facts.{to_z-of_z}
use borrow.Author.Tests.{ltb-true, leb-true, eq-eqb, ne_eqb}
use Rattle.sheet.specs.Field.{and_then, behind_spaces, digit, decimal, natural, positive, negative, signed, field}

pub then_some : {A B : Type 0} (o : Option A) (f : A → Option B) (y : B) → and_then o f ≡ Some y → (a : A) × (o ≡ Some a) × (f a ≡ Some y)
then_some None f y e = absurd (none-some y e)
then_some (Some a) f y e = (a, refl, e)

module _ (f : List ℕ) (i : ℕ) (h : i < length f) where
  pub decimal_more : (n d : ℕ) → digit (get_or f i 0) ≡ Some d → decimal n (drop i f) ≡ decimal (n * 10 + d) (drop (i + 1) f)
  unfolding decimal
  decimal_more n d e = rw (add-one i, drop-cons f i 0, e)

  pub decimal_other : (n : ℕ) → digit (get_or f i 0) ≡ None → decimal n (drop i f) ≡ None
  unfolding decimal
  decimal_other n e = rw (drop-cons f i 0, e)

pub decimal_end : (f : List ℕ) (i n : ℕ) → i ≡ length f → decimal n (drop i f) ≡ Some n
unfolding decimal
decimal_end f i n e = rw (e, drop-length f)

-- the arms of a match on a slice: none, its first element, and what lies behind that
behind_first : (b : ℕ) (s : List ℕ) → take (length (b ∷ s) - 1) (drop 1 (b ∷ s)) ≡ s
behind_first b s = let e : length (b ∷ s) - 1 ≡ length s = omega arith in rw e (take-length s)

pub spaces_more : (s : List ℕ) → 1 ≤ length s → get_or s 0 0 ≡ 32 → behind_spaces s ≡ behind_spaces (take (length s - 1) (drop 1 s))
unfolding behind_spaces
spaces_more [] h e = absurd (omega arith)
spaces_more (b ∷ s) h e = rw (behind_first b s, eq-eqb b 32 e)

pub spaces_end : (s : List ℕ) → length s < 1 → behind_spaces s ≡ s
unfolding behind_spaces
spaces_end [] h = refl
spaces_end (b ∷ s) h = absurd (omega arith)

pub spaces_here : (s : List ℕ) → 1 ≤ length s → (get_or s 0 0 ≡ 32 → ⊥) → behind_spaces s ≡ s
unfolding behind_spaces
spaces_here [] h z = absurd (omega arith)
spaces_here (b ∷ s) h z = rw (ne_eqb b 32 z)

pub natural_none : (s : List ℕ) → length s < 1 → natural s ≡ None
unfolding natural
natural_none [] h = refl
natural_none (b ∷ s) h = absurd (omega arith)

pub natural_zero : (s : List ℕ) → 2 ≤ length s → get_or s 0 0 ≡ 48 → natural s ≡ None
unfolding natural
natural_zero [] h e = absurd (omega arith)
natural_zero (b ∷ []) h e = absurd (omega arith)
natural_zero (b ∷ c ∷ s) h e = rw (eq-eqb b 48 e)

pub natural_more : (s : List ℕ) → 1 ≤ length s → (2 ≤ length s → get_or s 0 0 ≡ 48 → ⊥) → natural s ≡ decimal 0 s
unfolding natural
natural_more [] h z = absurd (omega arith)
natural_more (b ∷ []) h z = refl
natural_more (b ∷ c ∷ s) h z = rw (ne_eqb b 48 (z (omega arith)))

pub signed_plus : (s : List ℕ) → (1 ≤ length s → get_or s 0 0 ≡ 45 → ⊥) → signed s ≡ positive (natural s)
unfolding natural
signed_plus [] z = refl
signed_plus (b ∷ s) z = rw (ne_eqb b 45 (z (omega arith)))

pub digit_small : (x d : ℕ) → digit x ≡ Some d → d < 10
unfolding digit
digit_small x d e =
    let p = cond_some (leb 48 x && leb x 57) (x - 48) d e in
    omega (arith, p.1, leb-true x 57 (and_parts (leb 48 x) (leb x 57) p.0).1)

-- i digits stay below the i-th power of ten
pub pow_more : (n d i : ℕ) → n < 10 ^ i → d < 10 → n * 10 + d < 10 ^ (i + 1)
pow_more n d i h k = rw (add-one i, pow-suc 10 i) (omega arith)

pub pow_room : (i : ℕ) → i ≤ 12 → 10 ^ i ≤ 10 ^ 12
pow_room i h = pow-le-pow_right (omega arith) h

pub pow_some : (i : ℕ) → 0 < 10 ^ i
pow_some zero = omega arith
pow_some (suc i) = rw (pow-suc 10 i) (omega (arith, pow_some i))

-- "each fits signed 32 bits"
of_positive : (o : Option ℕ) (v : ℤ) → positive o ≡ Some v → SFits w32 v
of_positive None v e = absurd (none-some v e)
of_positive (Some n) v e =
    let p = cond_some (ltb n 2147483648) (pos n) v e in
    rw (← p.1) (record { sfits = ltb-true n 2147483648 p.0 })

of_negative : (o : Option ℕ) (v : ℤ) → negative o ≡ Some v → SFits w32 v
of_negative None v e = absurd (none-some v e)
of_negative (Some zero) v e = absurd (none-some v e)
of_negative (Some (suc n)) v e =
    let p = cond_some (ltb n 2147483648) (negsuc n) v e in
    rw (← p.1) (record { sfits = ltb-true n 2147483648 p.0 })

of_either : (m : Bool) (s t : List ℕ) (v : ℤ) → cond m (negative (natural s)) (positive (natural t)) ≡ Some v → SFits w32 v
of_either true s t v e = of_negative (natural s) v e
of_either false s t v e = of_positive (natural t) v e

of_signed : (s : List ℕ) (v : ℤ) → signed s ≡ Some v → SFits w32 v
of_signed [] v e = absurd (none-some v e)
of_signed (b ∷ s) v e = of_either (eqb b 45) s (b ∷ s) v e

pub field_fits : (s : List ℕ) (v : ℤ) → field s ≡ Some v → SFits w32 v
unfolding field
field_fits s v e = of_signed (behind_spaces s) v e

-- the machine reads a field's number back as it is
pub field_back : (s : List ℕ) (v : ℤ) → field s ≡ Some v → to_z w32 (of_z w32 v) ≡ v
field_back s v e = to_z-of_z (field_fits s v e)
