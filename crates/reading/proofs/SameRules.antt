-- An evaluation asks for rules by their lines only where a call names one. So two settings that differ in rules which no call comes to
-- evaluate alike. One line for each kind, over any deeper evaluations.
use mathlib.Core.Path.{◌≡◌, refl, ap, ap₂, ◌∙◌}
use mathlib.Core.Bool.{Bool, true, false}
use mathlib.Core.List.{List}
use Prim.Native.Nat.{ℕ, zero, suc, ◌-◌}
use lib.ListN.{length}
use Rattle.reading.specs.Ending.{Ending, on_ok, on_err}
use Rattle.reading.specs.Grammar.{Exp, match_string, match_insensitive, match_range, skip, end_of_input, and_then, or_else, rule, sequence, repeat}
use Rattle.reading.specs.Grammar.{optional, lookahead, atomic, stack_push, stack_pop, stack_match_peek_slice, stack_match_pop, restore_on_err}
use Rattle.reading.specs.Grammar.{tag_node, call, RuleLine}
use Rattle.reading.specs.Reading.{Setting, State, entering, rule_body, sequence_end, rounds, optional_end, lookahead_end, lookahead_in, atomic_end}
use Rattle.reading.specs.Reading.{push_end, restore_end, open_checkpoint, with_lookahead, with_atomicity, at_rule, level, no_deeper, eval}
use Rattle.reading.proofs.Trees.{Calls}

module _ (text : List ℕ) (capacity : ℕ) (rules rules' : ℕ → RuleLine)
    (lines : ℕ → Type 0) (same : (l : ℕ) → lines l → rules l ≡ rules' l) (closed : (l : ℕ) → lines l → Calls lines (rules l).body) where
  abbrev g : Setting
  g = record { text = text; rule_at = rules; capacity = capacity }

  abbrev g' : Setting
  g' = record { text = text; rule_at = rules'; capacity = capacity }

  abbrev Node : Type 0
  Node = State → Ending State

  under : (F : Node → Node) {f f' : Node} → f ≡ f' → F f ≡ F f'
  under F e = ap F e

  under₂ : (F : Node → Node → Node) {f f' k k' : Node} → f ≡ f' → k ≡ k' → F f k ≡ F f' k'
  under₂ F e i = ap₂ F e i

  module _ (room : Bool) (d d' : Exp → Node) (h : (e : Exp) → Calls lines e → d e ≡ d' e) where
    at_rule_same : (r : RuleLine) → Calls lines r.body → at_rule g room d r ≡ at_rule g' room d' r
    at_rule_same r c = under (λ f s. entering room true s (λ t. rule_body g r.line r.rule f t)) (h r.body c)

    level_same : (e : Exp) → Calls lines e → level g room d e ≡ level g' room d' e
    level_same (match_string l) c = refl
    level_same (match_insensitive l) c = refl
    level_same (match_range a b) c = refl
    level_same (skip n) c = refl
    level_same end_of_input c = refl
    level_same (and_then a b) c = under₂ (λ f k s. on_ok (f s) (λ t. k t)) (level_same a c.0) (level_same b c.1)
    level_same (or_else a b) c = under₂ (λ f k s. on_err (f s) (λ t. k t)) (level_same a c.0) (level_same b c.1)
    level_same (rule line r e) c = at_rule_same (record { line = line; rule = r; body = e }) c
    level_same (sequence e) c = under (λ f s. entering room true s (λ t. sequence_end t (f (open_checkpoint t)))) (h e c)
    level_same (repeat e) c = under (λ f s. entering room true s (λ t. rounds (suc (length text - t.position)) f t)) (h e c)
    level_same (optional e) c = under (λ f s. entering room true s (λ t. optional_end (f t))) (h e c)
    level_same (lookahead b e) c =
        under (λ f s. entering room true s (λ t. lookahead_end b t (f (open_checkpoint (with_lookahead (lookahead_in b t.lookahead) t))))) (h e c)
    level_same (atomic a e) c = under (λ f s. entering room true s (λ t. atomic_end t (f (with_atomicity a t)))) (h e c)
    level_same (stack_push line e) c = under (λ f s. entering room true s (λ t. push_end line t (f t))) (h e c)
    level_same (stack_pop line) c = refl
    level_same (stack_match_peek_slice i j b) c = refl
    level_same (stack_match_pop line) c = refl
    level_same (restore_on_err e) c = under (λ f s. entering room false s (λ t. restore_end t (f (open_checkpoint t)))) (h e c)
    level_same (tag_node u) c = refl
    level_same (call l) c = at_rule_same (rules l) (closed l c) ∙ ap (at_rule g' room d') (same l c)

  pub eval_same : (depth : ℕ) (e : Exp) → Calls lines e → eval g depth e ≡ eval g' depth e
  eval_same zero e c = level_same false (no_deeper g) (no_deeper g') (λ x k. refl) e c
  eval_same (suc n) e c = level_same true (eval g n) (eval g' n) (eval_same n) e c
