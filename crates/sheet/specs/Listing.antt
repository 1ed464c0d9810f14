-- What planread prints. Document 01, "Sheet and listing": "It prints lines of fields six wide".
use Rattle.std.specs.Prelude.{ℕ, zero, suc, ◌+◌, ◌*◌, ◌≤◌, ◌≡◌, cond, ◌||◌, List, [], ◌∷◌, ◌++◌, ltb, leb, eqb, length, get_or, take}
use Rattle.engine.specs.declared.state.Outcome.{Outcome}
use Rattle.sheet.specs.Area.{over}
use Rattle.sheet.specs.Numeral.{numeral, justified}

-- "fields six wide". A number of more than six digits makes its field as wide as it is.
unfoldable pub six : ℕ → List ℕ
six n = justified 6 (numeral n)

unfoldable pub fields : List ℕ → List ℕ
fields [] = []
fields (n ∷ ns) = six n ++ fields ns

unfoldable pub line_text : List ℕ → List ℕ
line_text ns = fields ns ++ (10 ∷ [])

-- "number, place, count".
abbrev pub head_line : Outcome → List ℕ
head_line o = o.number ∷ o.place ∷ o.count ∷ []

-- "token index and its five numbers".
abbrev pub token_line : (tokens : List ℕ) → (index : ℕ) → List ℕ
token_line t k =
    k ∷ get_or t (k * 5) 0 ∷ get_or t (k * 5 + 1) 0 ∷ get_or t (k * 5 + 2) 0 ∷ get_or t (k * 5 + 3) 0 ∷ get_or t (k * 5 + 4) 0 ∷ []

-- "1 (positive) or 2 (negative) and a rule", of "furthest, two counts, positives, negatives".
abbrev pub rule_line : (report : List ℕ) → (index : ℕ) → List ℕ
rule_line p k = cond (ltb k (get_or p 1 0)) 1 2 ∷ get_or p (k + 3) 0 ∷ []

-- "after 0, token index and its five numbers; after 10, 1 (positive) or 2 (negative) and a rule": line k behind the head.
unfoldable pub later_line : (number : ℕ) → (tokens report : List ℕ) → ℕ → List ℕ
later_line n tokens report k = line_text (cond (eqb n 0) (token_line tokens k) (rule_line report k))

-- How many lines stand behind the head: "after 0 .. after 10", as many as the count says, and none after any other number.
unfoldable pub later_count : Outcome → ℕ
later_count o = cond (eqb o.number 0 || eqb o.number 10) o.count 0

-- The head and the first k lines behind it.
unfoldable pub first_lines : Outcome → (tokens report : List ℕ) → ℕ → List ℕ
first_lines o tokens report zero = line_text (head_line o)
first_lines o tokens report (suc k) = first_lines o tokens report k ++ later_line o.number tokens report k

-- "It prints lines": the whole listing.
unfoldable pub listing : Outcome → (tokens report : List ℕ) → List ℕ
listing o tokens report = first_lines o tokens report (later_count o)

-- All of a text, or nothing where the area is shorter.
unfoldable pub whole : (area text : List ℕ) → List ℕ
whole area text = cond (leb (length text) (length area)) text []

-- `text` was written at the area's start, and r is how many bytes that are. The last two parts follow; they are what a caller needs who
-- lends just those bytes.
pub record Written (text before after : List ℕ) (r : ℕ) : Type 0 where
  pub count : r ≡ length text
  pub area : after ≡ over text before
  pub within : r ≤ length after
  pub part : r ≡ length (take r after)

-- What `write_listing` promises: the whole listing, or nothing where the area is too short for it. No line has more than 61 bytes.
pub record ListingWritten (o : Outcome) (tokens report before after : List ℕ) (r : ℕ) : Type 0 where
  pub written : Written (whole before (listing o tokens report)) before after r
  pub most : length (listing o tokens report) ≤ 61 * (o.count + 1)
