-- A field of a sheet line, by its bytes. Document 01, "Sheet and listing". None: the field is malformed.
use Rattle.std.specs.Prelude.{ℕ, zero, suc, ◌+◌, ◌-◌, ◌*◌, cond, ◌&&◌, List, [], ◌∷◌, ltb, leb, eqb, ℤ, pos, negsuc}
use Rattle.std.specs.Prelude.{Option, None, Some}

-- The value is handed on; none stays none.
abbrev pub and_then : {A B : Type 0} → Option A → (A → Option B) → Option B
and_then None f = None
and_then (Some a) f = f a

-- "right-justified by spaces": what stands behind the spaces.
unfoldable pub behind_spaces : List ℕ → List ℕ
behind_spaces [] = []
behind_spaces (b ∷ s) = cond (eqb b 32) (behind_spaces s) (b ∷ s)

-- "Decimal": a byte as a digit.
unfoldable pub digit : ℕ → Option ℕ
digit b = cond (leb 48 b && leb b 57) (Some (b - 48)) None

-- The number n, and the digits s written behind it.
unfoldable pub decimal : ℕ → List ℕ → Option ℕ
decimal n [] = Some n
decimal n (b ∷ s) = and_then (digit b) (λ d. decimal (n * 10 + d) s)

-- "no leading zeros": one digit, or more of which the first is not 0.
unfoldable pub natural : List ℕ → Option ℕ
natural [] = None
natural (b ∷ []) = decimal 0 (b ∷ [])
natural (b ∷ c ∷ s) = cond (eqb b 48) None (decimal 0 (b ∷ c ∷ s))

-- "each fits signed 32 bits".
abbrev pub positive : Option ℕ → Option ℤ
positive None = None
positive (Some n) = cond (ltb n 2147483648) (Some (pos n)) None

-- The same below zero, where `negsuc n` is -(n + 1); "no minus zero".
abbrev pub negative : Option ℕ → Option ℤ
negative None = None
negative (Some zero) = None
negative (Some (suc n)) = cond (ltb n 2147483648) (Some (negsuc n)) None

-- "minus before the digits".
abbrev pub signed : List ℕ → Option ℤ
signed [] = None
signed (b ∷ s) = cond (eqb b 45) (negative (natural s)) (positive (natural (b ∷ s)))

unfoldable pub field : List ℕ → Option ℤ
field s = signed (behind_spaces s)
