-- Reading a sheet. Document 01, "Sheet and listing" and rows 1 to 3 of "Stops and refusals".
use Rattle.std.specs.Prelude.{ℕ, zero, suc, ◌*◌, ◌/◌, ◌%◌, ◌≤◌, ◌≡◌, Bool, true, false, cond, not, ◌&&◌, List, [], ◌∷◌, ◌++◌, ◌==◌, ltb}
use Rattle.std.specs.Prelude.{leb, eqb, ℤ, length, slice_index, take, drop}
use Rattle.std.specs.List.{list_all}
use Rattle.std.specs.Prelude.{Option, None, Some}
use Rattle.engine.specs.declared.state.Outcome.{Outcome}
use Rattle.reading.specs.declared.node.Node.{Node}
use Rattle.sheet.specs.Area.{over}
use Rattle.sheet.specs.Field.{and_then, field}

-- "A sheet line is 41 bytes": the first n lines of s.
unfoldable pub cut : ℕ → List ℕ → List (List ℕ)
cut zero s = []
cut (suc n) s = take 41 s ∷ cut n (drop 41 s)

abbrev pub count : List ℕ → ℕ
count s = length s / 41

abbrev pub lines : List ℕ → List (List ℕ)
lines s = cut (count s) s

-- "then byte 10, or it is broken": no line is broken.
abbrev pub ended : List (List ℕ) → Bool
ended ls = list_all (λ l. slice_index l 40 == 10) ls

-- The first test is passed: not "sheet empty, broken line, over 4,096 lines".
unfoldable pub lined : List ℕ → Bool
lined s = ltb 0 (length s) && eqb (length s % 41) 0 && leb (count s) 4096 && ended (lines s)

abbrev pub columns : (from width : ℕ) → List ℕ → List ℕ
columns from width l = take width (drop from l)

-- "fields of 4, 12, 12, 12 columns". "Each is kind, a, b, c as signed 32-bit numbers".
unfoldable pub line : List ℕ → Option Node
line l =
    and_then (field (columns 0 4 l)) (λ kind.
    and_then (field (columns 4 12 l)) (λ a.
    and_then (field (columns 16 12 l)) (λ b.
    and_then (field (columns 28 12 l)) (λ c.
    Some (record { kind = kind; a = a; b = b; c = c })))))

abbrev pub reads : Option Node → Bool
reads None = false
reads (Some n) = true

-- "malformed field": the first line that has one, where the first of `ls` is line k; 0 where none has.
unfoldable pub first_malformed : ℕ → List (List ℕ) → ℕ
first_malformed k [] = 0
first_malformed k (l ∷ ls) = cond (reads (line l)) (first_malformed (suc k) ls) k

-- The nodes of the lines, four numbers each.
abbrev pub four : Option Node → List ℤ
four None = []
four (Some n) = n.kind ∷ n.a ∷ n.b ∷ n.c ∷ []

unfoldable pub numbers : List (List ℕ) → List ℤ
numbers [] = []
numbers (l ∷ ls) = four (line l) ++ numbers ls

pub data Reading : Type 0 where
  refused : (number place : ℕ) → Reading
  read : (count : ℕ) → (numbers : List ℤ) → Reading

-- "Sheet reading tests 1 to 3 .. in order", for a node area of `room` numbers.
unfoldable pub reading : List ℕ → (room : ℕ) → Reading
reading s room =
    cond (not (lined s)) (refused 1 0)
    (cond (not (eqb (first_malformed 1 (lines s)) 0)) (refused 2 (first_malformed 1 (lines s)))
    (cond (ltb room (count s * 4)) (refused 3 0)
    (read (count s) (numbers (lines s)))))

-- "Each returns number, place, count." "Reading's 0 returns place 0, count of lines".
abbrev pub outcome : Reading → Outcome
outcome (refused n p) = record { number = n; place = p; count = 0 }
outcome (read k ns) = record { number = 0; place = 0; count = k }

-- "and writes just their nodes". A refusal leaves the node area as it was.
abbrev pub area_after : Reading → List ℤ → List ℤ
area_after (refused n p) area = area
area_after (read k ns) area = over ns area

-- What `read_sheet` promises of its answer and of the node area. The last two parts follow; they are what a caller needs who lends just
-- the nodes.
pub record SheetRead (sheet : List ℕ) (before after : List ℤ) (r : Outcome) : Type 0 where
  pub answer : r ≡ outcome (reading sheet (length before))
  pub area : after ≡ area_after (reading sheet (length before)) before
  pub within : r.count * 4 ≤ length after
  pub part : r.count * 4 ≡ length (take (r.count * 4) after)
