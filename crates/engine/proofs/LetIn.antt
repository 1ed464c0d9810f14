-- What each combinator knows where it begins: of its line, the line below and the tree that it is; and of its entry, that it lets the
-- call in, or shuts it out. All of it is over the code's setting and state.
use Rattle.std.specs.Prelude.{Bool, Option, Some, None}
use mathlib.Core.Path.{◌≡◌, ap, sym, subst, ◌∙◌}
use mathlib.Core.List.{List}
use Prim.Native.Nat.{ℕ, ◌+◌, ◌*◌, ◌≤◌, ◌<◌}
use native.Mathlib.Omega.{arith}
use lib.Dec.{eqb}
use lib.ListN.{length}
use Rattle.reading.specs.declared.parser_state.Atomicity.{Atomicity}
use Rattle.reading.specs.Ending.{Ending}
use Rattle.reading.specs.Grammar as Grammar
use Rattle.reading.specs.Grammar.{Exp, node_at, tree_at, atomicity_of}
use Rattle.reading.specs.Pest as Pest
use Rattle.reading.specs.Reading as Reading
use Rattle.engine.specs.declared.node.Line as Read
use Rattle.engine.specs.declared.parser_state.ParserState.{ParserState}
use Rattle.engine.specs.declared.setting.Setting.{Setting}
use Rattle.engine.specs.Areas.{view}
use Rattle.engine.specs.Entry.{EnteredBy}
use Rattle.engine.specs.Evaluation.{Ready, ReadyOf, Line, LineOf, evaluated, evaluates, setting_of}
use Rattle.engine.specs.Lines.{line_of}
use Rattle.engine.proofs.LineSteps.{at_8, at_9, at_10, at_11, at_12, at_13, at_14, at_18}
use Rattle.engine.proofs.Steps.{tests, ready_open, ready_less, ready_marked, Opened, Refused}

-- The setting as pest's words take it.
abbrev pub setting : Setting → Reading.Setting
setting g = setting_of g.nodes.now g.literals.now g.text.now g.room

-- ── The line ──
-- It is f of the tree of the line below.
pub record Over (g : Setting) (f : Exp → Exp) (tokens scratch : List ℕ) (depth line below : ℕ) (m : Pest.ParserState) : Type 0 where
  pub ready : Ready g.nodes.now g.literals.now g.text.now tokens scratch g.room depth m
  pub here : Line g.nodes.now below
  pub few : below ≤ 4096
  pub tree : tree_at g.nodes.now g.literals.now line ≡ f (tree_at g.nodes.now g.literals.now below)

-- What is evaluated of the tree is evaluated of the line.
pub on_tree : {g : Setting} {f : Exp → Exp} {tokens scratch : List ℕ} {depth line below : ℕ} {m : Pest.ParserState}
    → Over g f tokens scratch depth line below m → {r : Ending Pest.ParserState}
    → r ≡ evaluated g.nodes.now g.literals.now g.text.now g.room depth (f (tree_at g.nodes.now g.literals.now below)) m
    → r ≡ evaluates g depth line m
on_tree {g} {depth = d} {m = m} w e = e ∙ ap (λ (x : Exp). evaluated g.nodes.now g.literals.now g.text.now g.room d x m) (sym w.tree)

module _ (g : Setting) {tokens scratch : List ℕ} {depth : ℕ} {m : Pest.ParserState}
    (r : Ready g.nodes.now g.literals.now g.text.now tokens scratch g.room depth m) where
  abbrev T : (line : ℕ) → Exp
  T line = tree_at g.nodes.now g.literals.now line

  abbrev One : (line : ℕ) → (Exp → Exp) → (below : ℕ) → Type 0
  One line f below = Over g f tokens scratch depth line below m

  over : (line : ℕ) {f : Exp → Exp} {below : ℕ} → Line g.nodes.now below × (T line ≡ f (T below)) → One line f below
  over line w = record { ready = r; here = w.0; few = omega (arith, w.0.high, (tests _ _ _ _ r).few); tree = w.1 }

  module _ {line : ℕ} {n : Read.Line} where
    pub rule_at : n ≡ line_of (node_at g.nodes.now line) → LineOf g 8 line → One line (Grammar.rule line n.a) n.b
    rule_at e i = let w = at_8 _ _ (tests _ _ _ _ r) line i.0 n e i.1 in over line (w.0, w.2)

    pub sequence_at : n ≡ line_of (node_at g.nodes.now line) → LineOf g 9 line → One line Grammar.sequence n.a
    sequence_at e i = over line (at_9 _ _ (tests _ _ _ _ r) line i.0 n e i.1)

    pub repeat_at : n ≡ line_of (node_at g.nodes.now line) → LineOf g 10 line → One line Grammar.repeat n.a
    repeat_at e i = over line (at_10 _ _ (tests _ _ _ _ r) line i.0 n e i.1)

    pub optional_at : n ≡ line_of (node_at g.nodes.now line) → LineOf g 11 line → One line Grammar.optional n.a
    optional_at e i = over line (at_11 _ _ (tests _ _ _ _ r) line i.0 n e i.1)

    pub lookahead_at : n ≡ line_of (node_at g.nodes.now line) → LineOf g 12 line → One line (Grammar.lookahead (eqb n.b 1)) n.a
    lookahead_at e i = over line (at_12 _ _ (tests _ _ _ _ r) line i.0 n e i.1)

    pub atomic_at : n ≡ line_of (node_at g.nodes.now line)
        → LineOf g 13 line → {a : Atomicity} → a ≡ atomicity_of n.b → One line (Grammar.atomic a) n.a
    atomic_at e i h = over line (at_13 _ _ (tests _ _ _ _ r) line i.0 n e _ h i.1)

    pub push_at : n ≡ line_of (node_at g.nodes.now line) → LineOf g 14 line → One line (Grammar.stack_push line) n.a
    push_at e i = over line (at_14 _ _ (tests _ _ _ _ r) line i.0 n e i.1)

    pub restore_at : n ≡ line_of (node_at g.nodes.now line) → LineOf g 18 line → One line Grammar.restore_on_err n.a
    restore_at e i = over line (at_18 _ _ (tests _ _ _ _ r) line i.0 n e i.1)

-- ── The entry ──
-- The state t that goes on, where k more calls may be open.
pub record LetIn (g : Setting) (f : Exp → Exp) (counted : Bool) (tokens scratch : List ℕ) (depth line below k : ℕ) (s t : ParserState) : Type 0 where
  pub over : Over g f tokens scratch depth line below (view tokens scratch s)
  pub entry : Opened counted depth k (view tokens scratch s) (view tokens scratch t)
  pub ready : ReadyOf g tokens scratch depth t

pub let_in : {g : Setting} {f : Exp → Exp} {tokens scratch : List ℕ} {line below : ℕ} {counted : Bool} {depth k : ℕ}
    {s t : ParserState} {r : Option ℕ} → Over g f tokens scratch depth line below (view tokens scratch s) → EnteredBy counted depth s t r → r ≡ Some k
    → LetIn g f counted tokens scratch depth line below k s t
let_in {tokens = a} {scratch = b} {counted = counted} {depth = depth} {s = s} {t = t} w h e =
    let i : EnteredBy counted depth s t (Some _) = subst (EnteredBy counted depth s t) e h in
    record {
      over = w;
      entry = record { next = i.deeper; opens = i.entry a b };
      ready = ready_open _ _ _ _ a b counted depth (view a b s) (view a b t) w.ready (i.entry a b);
    }

pub shut_out : (tokens scratch : List ℕ) {counted : Bool} {depth : ℕ} {s t : ParserState} {r : Option ℕ} → EnteredBy counted depth s t r → r ≡ None
    → Refused counted depth (view tokens scratch s) (view tokens scratch t)
shut_out tokens scratch {counted} {depth} {s} {t} h e =
    let i : EnteredBy counted depth s t None = subst (EnteredBy counted depth s t) e h in
    record { refuses = i.entry tokens scratch }

module _ {g : Setting} {f : Exp → Exp} {counted : Bool} {tokens scratch : List ℕ} {depth line below k : ℕ} {s t : ParserState}
    (o : LetIn g f counted tokens scratch depth line below k s t) where
  -- The line below is called with one call less.
  pub calls : {n : ℕ} → depth * 8196 ≡ n → {a b : List ℕ} {m : Pest.ParserState} → Ready g.nodes.now g.literals.now g.text.now a b g.room k m
      → (k * 8196 + below * 2 + 3 < n) × (Ready g.nodes.now g.literals.now g.text.now a b g.room k m × Line g.nodes.now below)
  calls e r = (omega (arith, o.entry.next, o.over.few, e), (r, o.over.here))

  pub less : ReadyOf g tokens scratch k t
  less = ready_less _ _ _ _ o.entry.next o.ready

  pub marked : {b : List ℕ} (u : ParserState) → view tokens b u ≡ Pest.checkpoint (view tokens scratch t) → length b ≡ length scratch
      → ReadyOf g tokens b k u
  marked u e h = ready_marked _ _ _ _ o.ready o.entry.next e h
