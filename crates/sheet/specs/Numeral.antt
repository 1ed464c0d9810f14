-- Numbers as text: decimal numerals, and what stands in a field of a given width. Document 01, "Sheet and listing". A field is read by
-- Field.antt; proofs/NumeralLaws.antt shows that the two are each other's inverse.
use Rattle.std.specs.Prelude.{ℕ, zero, suc, ◌+◌, ◌-◌, ◌/◌, ◌%◌, cond, List, [], ◌∷◌, ◌++◌, ltb, leb, ℤ, pos, negsuc, length, replicate}
use Rattle.std.specs.Prelude.{Option, None, Some}

-- "Decimal", "no leading zeros": a number below ten is its digit, any other the numeral of its tens and then its last digit. At most
-- `most` digits.
unfoldable pub spelled : (most n : ℕ) → List ℕ
spelled zero n = []
spelled (suc k) n = cond (ltb n 10) ((48 + n) ∷ []) (spelled k (n / 10) ++ ((48 + n % 10) ∷ []))

-- A number has no more digits than its size and one.
unfoldable pub numeral : ℕ → List ℕ
numeral n = spelled (suc n) n

-- "minus before the digits", where `negsuc n` is -(n + 1).
unfoldable pub signed_numeral : ℤ → List ℕ
signed_numeral (pos n) = numeral n
signed_numeral (negsuc n) = 45 ∷ numeral (suc n)

-- "right-justified by spaces". A text that is wider than the field stands as it is.
unfoldable pub justified : (width : ℕ) → List ℕ → List ℕ
justified w t = replicate (w - length t) 32 ++ t

-- The text of a number in a field of a sheet; none where the field is too narrow.
unfoldable pub field_text : (width : ℕ) → ℤ → Option (List ℕ)
field_text w v = cond (leb (length (signed_numeral v)) w) (Some (justified w (signed_numeral v))) None
