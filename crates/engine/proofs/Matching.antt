-- pest's `match_string` is matching's: a string that fits is the same bytes at once or one after another.
use Rattle.std.specs.Prelude.{if◌then◌else◌}
use mathlib.Core.Path.{◌≡◌, refl, ap}
use mathlib.Core.Bool.{Bool, true, false, ◌&&◌, cond}
use mathlib.Core.List.{List, [], ◌∷◌}
use Rattle.std.specs.Prelude.{None, Some}
use Prim.Native.Nat.{ℕ, ◌+◌, ◌≤◌}
use native.Mathlib.Omega.{arith}
use native.Mathlib.Decide.{dec_le}
use lib.ListN.{length, take, drop, length-drop}
use lib.Dec.{eqb}
use borrow.Author.Tests.{le-leb, lt-leb}
use Rattle.matching.specs.Position.{starts_by, match_by, match_string}
use Rattle.matching.proofs.Starts.{starts_short}
use Rattle.reading.specs.Pest as Pest

same_starts : (same : ℕ → ℕ → Bool) (l x : List ℕ) → length l ≤ length x → Pest.same_bytes same l (take (length l) x) ≡ starts_by same l x
same_starts same [] x h = refl
same_starts same (a ∷ l) [] h = absurd (omega arith)
same_starts same (a ∷ l) (b ∷ x) h = ap (λ (t : Bool). same a b && t) (same_starts same l x (omega arith))

if_cond : (b : Bool) (n : ℕ) → (if b then Some n else None) ≡ cond b (Some n) None
if_cond true n = refl
if_cond false n = refl

module _ (input l : List ℕ) (p : ℕ) where
  pub match_string_same : Pest.match_string input l p ≡ match_string input l p
  unfolding match_by
  match_string_same = go (dec_le (p + length l) (length input))
    where
      go : Dec (p + length l ≤ length input) → Pest.match_string input l p ≡ match_string input l p
      go (yes h) =
          rw (
            le-leb (p + length l) (length input) h,
            le-leb p (length input) (omega arith),
            same_starts eqb l (drop p input) (omega (arith, length-drop p input)),
          )
          (if_cond (starts_by eqb l (drop p input)) (p + length l))
      go (no h) = rw (lt-leb (p + length l) (length input) (omega arith)) (short (dec_le p (length input)))
        where
          short : Dec (p ≤ length input) → None ≡ match_string input l p
          short (yes g) = rw (le-leb p (length input) g, starts_short eqb l (drop p input) (omega (arith, length-drop p input)))
          short (no g) = rw (lt-leb p (length input) (omega arith))
