-- Ford (2004), "Parsing Expression Grammars", section 3: expressions over characters, and the relation of an expression and an
-- input to what it leaves of the input, or to failure. And the expression that a plain node stands for.
use Rattle.std.specs.Prelude.{◌≡◌, Bool, true, false, List, [], ◌∷◌, ℕ, zero, suc, eqb}
use Rattle.std.specs.Prelude.{Option, None, Some}
use Rattle.matching.specs.Utf8.{within, characters}
use Rattle.matching.specs.Position.{same_folded}
use Rattle.reading.specs.Reading.{Setting}
use Rattle.reading.specs.Grammar.{Exp, match_string, match_insensitive, match_range, skip, end_of_input, and_then, or_else, rule, sequence}
use Rattle.reading.specs.Grammar.{repeat, optional, lookahead, atomic, stack_push, stack_pop, stack_match_peek_slice, stack_match_pop}
use Rattle.reading.specs.Grammar.{restore_on_err, tag_node, call}

infixr 30 ◌then◌
infixr 20 ◌or◌
-- Definition 3.1. A class stands for the choice of its characters (section 3.2), and a terminal is a class of one.
pub data Peg : Type 0 where
  ε : Peg
  class : (ℕ → Bool) → Peg
  nonterminal : ℕ → Peg
  ◌then◌ : Peg → Peg → Peg
  ◌or◌ : Peg → Peg → Peg
  star : Peg → Peg
  not : Peg → Peg

-- Section 3.3. An input is a list of characters; `some y`: a prefix is consumed, and y is left; `none`: f, failure.
pub data Ford (rules : ℕ → Peg) : Peg → List ℕ → Option (List ℕ) → Type 0 where
  -- 1. Empty
  f_empty : (x : List ℕ) → Ford rules ε x (Some x)
  -- 2. Terminal (success case), 3. Terminal (failure case)
  f_terminal : (p : ℕ → Bool) (a : ℕ) (x : List ℕ) → p a ≡ true → Ford rules (class p) (a ∷ x) (Some x)
  f_terminal_fail : (p : ℕ → Bool) (a : ℕ) (x : List ℕ) → p a ≡ false → Ford rules (class p) (a ∷ x) None
  f_terminal_end : (p : ℕ → Bool) → Ford rules (class p) [] None
  -- 4. Nonterminal
  f_nonterminal : (l : ℕ) (x : List ℕ) (o : Option (List ℕ)) → Ford rules (rules l) x o → Ford rules (nonterminal l) x o
  -- 5. Sequence (success case), 6. Sequence (failure case 1), 7. Sequence (failure case 2)
  f_sequence : (e d : Peg) (x y : List ℕ) (o : Option (List ℕ)) → Ford rules e x (Some y) → Ford rules d y o → Ford rules (e then d) x o
  f_sequence_fail : (e d : Peg) (x : List ℕ) → Ford rules e x None → Ford rules (e then d) x None
  -- 8. Alternation (case 1), 9. Alternation (case 2)
  f_first : (e d : Peg) (x y : List ℕ) → Ford rules e x (Some y) → Ford rules (e or d) x (Some y)
  f_second : (e d : Peg) (x : List ℕ) (o : Option (List ℕ)) → Ford rules e x None → Ford rules d x o → Ford rules (e or d) x o
  -- 10. Zero-or-more repetitions (repetition case), 11. (termination case)
  f_more : (e : Peg) (x y : List ℕ) (o : Option (List ℕ)) → Ford rules e x (Some y) → Ford rules (star e) y o → Ford rules (star e) x o
  f_done : (e : Peg) (x : List ℕ) → Ford rules e x None → Ford rules (star e) x (Some x)
  -- 12. Not-predicate (case 1), 13. Not-predicate (case 2)
  f_not_fail : (e : Peg) (x y : List ℕ) → Ford rules e x (Some y) → Ford rules (not e) x None
  f_not : (e : Peg) (x : List ℕ) → Ford rules e x None → Ford rules (not e) x (Some x)

-- ── The expression of a plain node ──
-- The classes of some characters, one after the other.
abbrev pub each : (ℕ → ℕ → Bool) → List ℕ → Peg
each same [] = ε
each same (c ∷ cs) = class (same c) then each same cs

-- The same of a text; a text that is not UTF-8 stands in no accepted grammar.
abbrev pub each_of : (ℕ → ℕ → Bool) → Option (List ℕ) → Peg
each_of same None = ε
each_of same (Some cs) = each same cs

-- Any character (section 3.2).
abbrev pub any : Peg
any = class (λ v. true)

-- "that many characters"
abbrev pub times : ℕ → Peg
times zero = ε
times (suc n) = any then times n

-- "There kind 2 stands for its letter classes, 4 for that many characters, 5 for no character ahead, 13 for its line, 19 for the
-- empty text." An optional is a choice with the empty text, a positive lookahead two negative ones (section 3.2).
abbrev pub peg : Exp → Peg
peg (match_string l) = each_of eqb (characters l)
peg (match_insensitive l) = each_of same_folded (characters l)
peg (match_range a b) = class (within a b)
peg (skip n) = times n
peg end_of_input = not any
peg (and_then a b) = peg a then peg b
peg (or_else a b) = peg a or peg b
peg (rule l r e) = peg e
peg (sequence e) = peg e
peg (repeat e) = star (peg e)
peg (optional e) = peg e or ε
peg (lookahead true e) = not (not (peg e))
peg (lookahead false e) = not (peg e)
peg (atomic a e) = peg e
peg (tag_node u) = ε
peg (call l) = nonterminal l
-- No plain grammar has these.
peg (stack_push l e) = ε
peg (stack_pop l) = ε
peg (stack_match_peek_slice i j d) = ε
peg (stack_match_pop l) = ε
peg (restore_on_err e) = ε

-- The rules of a grammar, by their lines.
abbrev pub rules_of : Setting → ℕ → Peg
rules_of g l = peg (g.rule_at l).body

abbrev pub or_nil : Option (List ℕ) → List ℕ
or_nil None = []
or_nil (Some vs) = vs

-- The characters of a text; none of a text that is not UTF-8.
abbrev pub characters_of : List ℕ → List ℕ
characters_of x = or_nil (characters x)
