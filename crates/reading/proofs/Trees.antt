-- What the laws of an evaluation ask of a tree: which bodies may stand still, that no repeat's body may, that literals are whole
-- characters, that calls name rules, and that it is plain. `Accepted` shows all of it of the trees of an accepted grammar.
use mathlib.Core.Path.{◌≡◌}
use mathlib.Core.Bool.{Bool, true, false, ◌&&◌, ◌||◌}
use Prim.Native.Nat.{ℕ}
use lib.ListN.{length}
use lib.Dec.{eqb}
use Rattle.matching.specs.Utf8.{Utf8}
use Rattle.reading.specs.Grammar.{Exp, match_string, match_insensitive, match_range, skip, end_of_input, and_then, or_else, rule, sequence}
use Rattle.reading.specs.Grammar.{repeat, optional, lookahead, atomic, stack_push, stack_pop, stack_match_peek_slice, stack_match_pop}
use Rattle.reading.specs.Grammar.{restore_on_err, tag_node, call}

-- May the tree end in Ok and stand still; `set` says it of called lines.
abbrev pub still : (set : ℕ → Bool) → Exp → Bool
still set (match_string l) = eqb (length l) 0
still set (match_insensitive l) = eqb (length l) 0
still set (match_range a b) = false
still set (skip n) = eqb n 0
still set end_of_input = true
still set (and_then a b) = still set a && still set b
still set (or_else a b) = still set a || still set b
still set (rule l r e) = still set e
still set (sequence e) = still set e
still set (repeat e) = true
still set (optional e) = true
still set (lookahead p e) = true
still set (atomic a e) = still set e
still set (stack_push l e) = still set e
still set (stack_pop l) = true
still set (stack_match_peek_slice i j d) = true
still set (stack_match_pop l) = true
still set (restore_on_err e) = still set e
still set (tag_node u) = true
still set (call l) = set l

-- No repeat of the tree has a body that may stand still.
abbrev pub Steady : (set : ℕ → Bool) → Exp → Type 0
Steady set (match_string l) = Unit {0}
Steady set (match_insensitive l) = Unit {0}
Steady set (match_range a b) = Unit {0}
Steady set (skip n) = Unit {0}
Steady set end_of_input = Unit {0}
Steady set (and_then a b) = Steady set a × Steady set b
Steady set (or_else a b) = Steady set a × Steady set b
Steady set (rule l r e) = Steady set e
Steady set (sequence e) = Steady set e
Steady set (repeat e) = (still set e ≡ false) × Steady set e
Steady set (optional e) = Steady set e
Steady set (lookahead p e) = Steady set e
Steady set (atomic a e) = Steady set e
Steady set (stack_push l e) = Steady set e
Steady set (stack_pop l) = Unit {0}
Steady set (stack_match_peek_slice i j d) = Unit {0}
Steady set (stack_match_pop l) = Unit {0}
Steady set (restore_on_err e) = Steady set e
Steady set (tag_node u) = Unit {0}
Steady set (call l) = Unit {0}

-- The literals of the tree are texts of whole characters.
abbrev pub Literals : Exp → Type 0
Literals (match_string l) = Utf8 l
Literals (match_insensitive l) = Utf8 l
Literals (match_range a b) = Unit {0}
Literals (skip n) = Unit {0}
Literals end_of_input = Unit {0}
Literals (and_then a b) = Literals a × Literals b
Literals (or_else a b) = Literals a × Literals b
Literals (rule l r e) = Literals e
Literals (sequence e) = Literals e
Literals (repeat e) = Literals e
Literals (optional e) = Literals e
Literals (lookahead p e) = Literals e
Literals (atomic a e) = Literals e
Literals (stack_push l e) = Literals e
Literals (stack_pop l) = Unit {0}
Literals (stack_match_peek_slice i j d) = Unit {0}
Literals (stack_match_pop l) = Unit {0}
Literals (restore_on_err e) = Literals e
Literals (tag_node u) = Unit {0}
Literals (call l) = Unit {0}

-- Every call of the tree names a line in `lines`.
abbrev pub Calls : (lines : ℕ → Type 0) → Exp → Type 0
Calls lines (match_string l) = Unit {0}
Calls lines (match_insensitive l) = Unit {0}
Calls lines (match_range a b) = Unit {0}
Calls lines (skip n) = Unit {0}
Calls lines end_of_input = Unit {0}
Calls lines (and_then a b) = Calls lines a × Calls lines b
Calls lines (or_else a b) = Calls lines a × Calls lines b
Calls lines (rule l r e) = Calls lines e
Calls lines (sequence e) = Calls lines e
Calls lines (repeat e) = Calls lines e
Calls lines (optional e) = Calls lines e
Calls lines (lookahead p e) = Calls lines e
Calls lines (atomic a e) = Calls lines e
Calls lines (stack_push l e) = Calls lines e
Calls lines (stack_pop l) = Unit {0}
Calls lines (stack_match_peek_slice i j d) = Unit {0}
Calls lines (stack_match_pop l) = Unit {0}
Calls lines (restore_on_err e) = Calls lines e
Calls lines (tag_node u) = Unit {0}
Calls lines (call l) = lines l

-- Not of kind 6.
abbrev pub whole : Exp → Bool
whole (match_string l) = true
whole (match_insensitive l) = true
whole (match_range a b) = true
whole (skip n) = true
whole end_of_input = true
whole (and_then a b) = false
whole (or_else a b) = true
whole (rule l r e) = true
whole (sequence e) = true
whole (repeat e) = true
whole (optional e) = true
whole (lookahead p e) = true
whole (atomic a e) = true
whole (stack_push l e) = true
whole (stack_pop l) = true
whole (stack_match_peek_slice i j d) = true
whole (stack_match_pop l) = true
whole (restore_on_err e) = true
whole (tag_node u) = true
whole (call l) = true

-- "only kinds 1 to 13, 19 and 20, and only kinds 6 and 9 name lines of kind 6"
abbrev pub Plain : Exp → Type 0
Plain (match_string l) = Unit {0}
Plain (match_insensitive l) = Unit {0}
Plain (match_range a b) = Unit {0}
Plain (skip n) = Unit {0}
Plain end_of_input = Unit {0}
Plain (and_then a b) = Plain a × Plain b
Plain (or_else a b) = Plain a × Plain b × (whole a ≡ true) × (whole b ≡ true)
Plain (rule l r e) = Plain e × (whole e ≡ true)
Plain (sequence e) = Plain e
Plain (repeat e) = Plain e × (whole e ≡ true)
Plain (optional e) = Plain e × (whole e ≡ true)
Plain (lookahead p e) = Plain e × (whole e ≡ true)
Plain (atomic a e) = Plain e × (whole e ≡ true)
Plain (stack_push l e) = ⊥
Plain (stack_pop l) = ⊥
Plain (stack_match_peek_slice i j d) = ⊥
Plain (stack_match_pop l) = ⊥
Plain (restore_on_err e) = ⊥
Plain (tag_node u) = Unit {0}
Plain (call l) = Unit {0}
