-- Request 4: two accepted sheets that agree on every line reachable from a root have the same tree there, whose calls come to reachable
-- lines only; so that root's run is the same.
use mathlib.Core.Path.{◌≡◌, refl, sym, ap, ap₂, ◌∙◌, subst}
use mathlib.Core.Bool.{Bool, true, false, ◌&&◌}
use mathlib.Core.List.{List, [], ◌∷◌, Memᴰ}
use Rattle.std.specs.Prelude.{Option, None, Some}
use Prim.Native.Nat.{ℕ, ◌-◌, ◌≤◌, ◌<◌}
use native.Mathlib.Omega.{arith}
use native.Mathlib.Decide.{dec_le}
use lib.IntN.{ℤ, pos}
use lib.ListN.{length, get_or, get_or-eq_default}
use lib.Dec.{eqb, leb}
use Rattle.matching.specs.Utf8.{within}
use Rattle.matching.proofs.Lead.{within_true, within_is}
use Rattle.reading.specs.declared.node.Node.{Node}
use Rattle.reading.specs.Grammar.{node_at, natural, kind_at, line_count, row, Exp, end_of_input, and_then, or_else, rule, sequence, repeat, optional}
use Rattle.reading.specs.Grammar.{lookahead, atomic, stack_push, restore_on_err, atomicity_of, tree_at, rule_at}
use Rattle.reading.specs.Ending.{Ending}
use Rattle.reading.specs.Reading.{State, initial, eval}
use Rattle.reading.specs.Outcome.{Input, Refusal, refuse, unless, good_text, first_of, refusal, reading, answer, calls_of, Outcome, outcome}
use Rattle.reading.specs.Outcome.{RunOutcome, counted_calls}
use Rattle.reading.specs.Run.{Ran}
use Rattle.reading.specs.Demand1.{Refused}
use Rattle.reading.specs.Request4.{named_rows, Reachable, from_root, through, AcceptedSheet, SharedRoot, Request4}
use Rattle.reading.proofs.Rows.{◌▹◌}
use Rattle.reading.proofs.Trees.{Calls}
use Rattle.reading.proofs.Accepted.{Accepted, accepted, started, In, Lower, RuleLine, Fits, facts, tree_rows, tree_row, by_kind, by_lines, body_lower}
use Rattle.reading.proofs.SameRules.{eval_same}
use Rattle.reading.proofs.Runs.{outcome_is, calls_are, capacity_same, run_of, run_is, laid_same}
use Rattle.reading.proofs.Demand1.{demand_1}

-- A line that two sheets agree on is a line of both, or of neither: past the lines stands kind 0.
module _ (ns ms : List ℤ) (literals : List ℕ) (g : Accepted ns literals) (k : Accepted ms literals) where
  past_kind : (l : ℕ) → line_count ms < l → kind_at ms l ≡ 0
  unfolding node_at
  past_kind l h = ap natural (get_or-eq_default ms (pos 0) (omega (arith, k.fours)))

  line_of_both : (l : ℕ) → node_at ns l ≡ node_at ms l → In ns l → In ms l
  line_of_both l e i = go (dec_le l (line_count ms))
    where
      go : Dec (l ≤ line_count ms) → In ms l
      go (yes h) = (i.0, h)
      go (no h) = absurd (omega (arith, (facts ns literals g l i.0 i.1).known_low, ap (λ (n : Node). natural n.kind) e, past_kind l (omega arith)))

  module _ (root : ℕ) (agree : (l : ℕ) → Reachable ns root l → node_at ns l ≡ node_at ms l) where
    -- The lines that calls come to.
    abbrev Called : ℕ → Type 0
    Called l = Reachable ns root l × RuleLine ns l

    abbrev Same : Exp → Exp → Type 0
    Same x y = (x ≡ y) × Calls Called x

    reach : (l : ℕ) → Reachable ns root l → (kind m : ℕ) → kind_at ns l ≡ kind
        → Memᴰ m (get_or (named_rows (natural (node_at ns l).a) (natural (node_at ns l).b)) (kind - 1) []) → Reachable ns root m
    reach l r kind m q h =
        through l m r (subst (λ (x : ℕ). Memᴰ m (get_or (named_rows (natural (node_at ns l).a) (natural (node_at ns l).b)) (x - 1) [])) (sym q) h)

    here : {m : ℕ} {xs : List ℕ} → Memᴰ m (m ∷ xs)
    here = Memᴰ.head refl

    next : {m x : ℕ} {xs : List ℕ} → Memᴰ m (x ∷ m ∷ xs)
    next = Memᴰ.tail here

    -- A tree over one or two that are the same.
    over : (F : Exp → Exp) → ((x : Exp) → Calls Called x → Calls Called (F x)) → {x y : Exp} → Same x y → Same (F x) (F y)
    over F c {x} s = (ap F s.0, c x s.1)

    both : (F : Exp → Exp → Exp) → ((x y : Exp) → Calls Called x → Calls Called y → Calls Called (F x y)) → {x y x' y' : Exp} → Same x x' → Same y y'
        → Same (F x y) (F x' y')
    both F c {x} {y} s t = (ap₂ F s.0 t.0, c x y s.1 t.1)

    tree_same : (l : ℕ) → In ns l → Reachable ns root l → Same (tree_at ns literals l) (tree_at ms literals l)
    tree_same = by_lines ns literals g (λ l. Reachable ns root l → Same (tree_at ns literals l) (tree_at ms literals l)) step
      where
        step : (l : ℕ) → In ns l → ((x : ℕ) → Lower l x → Reachable ns root x → Same (tree_at ns literals x) (tree_at ms literals x))
            → Reachable ns root l → Same (tree_at ns literals l) (tree_at ms literals l)
        step l i ih r =
            let n : Node = node_at ns l in
            let a : ℕ = natural n.a in
            let b : ℕ = natural n.b in
            let f : Fits ns literals l = facts ns literals g l i.0 i.1 in
            let m : In ms l = line_of_both l (agree l r) i in
            let one : (kind : ℕ) → kind_at ns l ≡ kind → Lower l a → Memᴰ a (get_or (named_rows a b) (kind - 1) [])
            → Same (tree_at ns literals a) (tree_at ms literals a) = λ kind q w h. ih a w (reach l r kind a q h) in
            let two : (kind : ℕ) → kind_at ns l ≡ kind → Lower l b → Memᴰ b (get_or (named_rows a b) (kind - 1) [])
            → Same (tree_at ns literals b) (tree_at ms literals b) = λ kind q w h. ih b w (reach l r kind b q h) in
            let other : tree_at ms literals l ≡ row (tree_rows literals (tree_at ms literals) l n) end_of_input n.kind
            = tree_row ms literals k l m.0 m.1
            ∙ ap (λ (x : Node). row (tree_rows literals (tree_at ms literals) l x) end_of_input x.kind) (sym (agree l r)) in
            subst (λ (x : Exp). Same x (tree_at ms literals l)) (sym (tree_row ns literals g l i.0 i.1))
            (subst (λ (y : Exp). Same (row (tree_rows literals (tree_at ns literals) l n) end_of_input n.kind) y) (sym other)
            (by_kind ns literals g l i.0 i.1 Same (tree_rows literals (tree_at ns literals) l n)
            (tree_rows literals (tree_at ms literals) l n) end_of_input end_of_input refl
            ((λ q. (refl, tt)) ▹ (λ q. (refl, tt)) ▹ (λ q. (refl, tt)) ▹ (λ q. (refl, tt)) ▹ (λ q. (refl, tt))
            ▹ (λ q. both and_then (λ x y c d. (c, d)) (one 6 q (f.a₆ q) here) (two 6 q (f.b₆ q) next))
            ▹ (λ q. both or_else (λ x y c d. (c, d)) (one 7 q (f.a₇ q) here) (two 7 q (f.b₇ q) next))
            ▹ (λ q. over (rule l a) (λ x c. c) (two 8 q (f.b₈ q) here)) ▹ (λ q. over sequence (λ x c. c) (one 9 q (f.a₉ q) here))
            ▹ (λ q. over repeat (λ x c. c) (one 10 q (f.a₁₀ q) here)) ▹ (λ q. over optional (λ x c. c) (one 11 q (f.a₁₁ q) here))
            ▹ (λ q. over (lookahead (eqb b 1)) (λ x c. c) (one 12 q (f.a₁₂ q) here))
            ▹ (λ q. over (atomic (atomicity_of b)) (λ x c. c) (one 13 q (f.a₁₃ q) here))
            ▹ (λ q. over (stack_push l) (λ x c. c) (one 14 q (f.a₁₄ q) here)) ▹ (λ q. (refl, tt)) ▹ (λ q. (refl, tt)) ▹ (λ q. (refl, tt))
            ▹ (λ q. over restore_on_err (λ x c. c) (one 18 q (f.a₁₈ q) here)) ▹ (λ q. (refl, tt))
            ▹ (λ q. (refl, (reach l r 20 a q here, f.call₂₀ q))) ▹ tt)))

    -- A called rule: its body is a lower line, and reachable.
    body_same : (l : ℕ) → Called l → Same (rule_at ns literals l).body (tree_at ms literals (natural (node_at ns l).b))
    body_same l c =
        let w : Lower l (natural (node_at ns l).b) = body_lower ns literals g l c.1 in
        tree_same (natural (node_at ns l).b) (w.low, omega (arith, w.high, c.1.high)) (reach l c.0 8 (natural (node_at ns l).b) c.1.kind_is here)

    rule_same : (l : ℕ) → Called l → rule_at ns literals l ≡ rule_at ms literals l
    rule_same l c = rw (← agree l c.0) (ap (λ (x : Exp). record { line = l; rule = natural (node_at ns l).a; body = x }) (body_same l c).0)

    -- That root's evaluation, under every limit.
    pub root_same : In ns root → (text : List ℕ) (capacity depth : ℕ) (s : State)
        → eval (record { text = text; rule_at = rule_at ns literals; capacity = capacity }) depth (tree_at ns literals root) s
        ≡ eval (record { text = text; rule_at = rule_at ms literals; capacity = capacity }) depth (tree_at ms literals root) s
    root_same i text capacity depth s =
        let t : Same (tree_at ns literals root) (tree_at ms literals root) = tree_same root i (from_root i.0) in
        ap (λ (f : State → Ending State). f s)
        (eval_same text capacity (rule_at ns literals) (rule_at ms literals) Called rule_same (λ l c. (body_same l c).1) depth
        (tree_at ns literals root) t.1)
        ∙ ap (λ (x : Exp). eval (record { text = text; rule_at = rule_at ms literals; capacity = capacity }) depth x s) t.0

-- ── Runs ──
either_way : (a b : Bool) → (a ≡ true → b ≡ true) → (b ≡ true → a ≡ true) → a ≡ b
either_way true b f k = sym (f refl)
either_way false true f k = k refl
either_way false false f k = refl

-- The tests after 6.
abbrev later : (root : Bool) → (text : List ℕ) → (depth report scratch : ℕ) → Option Refusal
later b x d n m =
    first_of (refuse 18 (unless b) ∷ refuse 7 (unless (good_text x)) ∷ refuse 8 (unless (within 1 1024 d)) ∷ refuse 9
    (unless (leb 515 n && leb 4864 m)) ∷ [])

refusal_is : (i : Input) → AcceptedSheet i → refusal i ≡ later (within 1 (line_count i.nodes) i.root) i.text i.depth_limit (length i.report) i.scratch
unfolding refusal
refusal_is i a = rw (a.literals, a.fitting, a.moving)

module _ (i j : Input) (c : SharedRoot i j) where
  here_accepted : Accepted i.nodes i.literals
  here_accepted = accepted i.nodes i.literals c.first.fitting c.first.moving

  there_accepted : Accepted j.nodes i.literals
  there_accepted = rw c.literals (accepted j.nodes j.literals c.second.fitting c.second.moving)

  root_alike : within 1 (line_count i.nodes) i.root ≡ within 1 (line_count j.nodes) i.root
  root_alike = either_way _ _ (λ q. is_line j.nodes (there (is_within i.nodes q))) (λ q. is_line i.nodes (back (is_within j.nodes q)))
    where
      is_within : (ns : List ℤ) → within 1 (line_count ns) i.root ≡ true → In ns i.root
      is_within ns q = within_true 1 (line_count ns) i.root q

      same : 1 ≤ i.root → node_at i.nodes i.root ≡ node_at j.nodes i.root
      same h = c.agree i.root (from_root h)

      there : In i.nodes i.root → In j.nodes i.root
      there l = line_of_both i.nodes j.nodes i.literals here_accepted there_accepted i.root (same l.0) l

      back : In j.nodes i.root → In i.nodes i.root
      back l = line_of_both j.nodes i.nodes i.literals there_accepted here_accepted i.root (sym (same l.0)) l

      is_line : (ns : List ℤ) → In ns i.root → within 1 (line_count ns) i.root ≡ true
      is_line ns l = within_is 1 (line_count ns) i.root l.0 l.1

  refusal_same : refusal i ≡ refusal j
  refusal_same = refusal_is i c.first ∙ rw (root_alike, c.root, c.text, c.depth_limit, c.report, c.scratch) (sym (refusal_is j c.second))

  run_same : In i.nodes i.root → (x : List ℕ) (n d k : ℕ) → run_of i.nodes i.literals x i.root n d k ≡ run_of j.nodes i.literals x i.root n d k
  unfolding run_of
  run_same l x n d k = root_same i.nodes j.nodes i.literals here_accepted there_accepted i.root c.agree l x n d (initial k)

  reading_same : refusal i ≡ None → reading i ≡ reading j
  reading_same e =
      run_is i ∙ run_same (started i e).root_line _ _ _ _
      ∙ rw (c.literals, c.text, c.root, capacity_same i.tokens j.tokens c.tokens, c.depth_limit, c.call_limit) (sym (run_is j))

  module _ (e : refusal i ≡ None) where
    e' : refusal j ≡ None
    e' = sym refusal_same ∙ e

    outcome_same : outcome i ≡ outcome j
    outcome_same = outcome_is i e ∙ laid_same c.tokens c.report (ap answer (reading_same e)) ∙ sym (outcome_is j e')

    calls_same : counted_calls i ≡ counted_calls j
    calls_same = calls_are i e ∙ ap calls_of (reading_same e) ∙ sym (calls_are j e')

-- Request 4, of any two values that keep `run`'s promise.
module _ (i j : Input) (c : SharedRoot i j) (o p : RunOutcome) {b d b' d' : List ℕ} (r : Ran i o b d) (s : Ran j p b' d') where
  both_started : refusal i ≡ None → Request4 i j o p
  both_started e =
      let same : o.outcome ≡ p.outcome = r.is ∙ outcome_same i j c e ∙ sym s.is in
      record {
        tests = refusal_same i j c;
        number = ap (λ (x : Outcome). x.number) same;
        place = ap (λ (x : Outcome). x.place) same;
        count = ap (λ (x : Outcome). x.count) same;
        calls = r.counted ∙ calls_same i j c e ∙ sym s.counted;
        started = λ q. (ap (λ (x : Outcome). x.tokens) same, ap (λ (x : Outcome). x.report) same);
      }

  both_refused : (x : Refusal) → refusal i ≡ Some x → Request4 i j o p
  both_refused x e =
      let f : Refused i x o b d = (demand_1 i b d o r).refused x e in
      let g : Refused j x p b' d' = (demand_1 j b' d' p s).refused x (sym (refusal_same i j c) ∙ e) in
      record {
        tests = refusal_same i j c;
        number = f.number ∙ sym g.number;
        place = f.place ∙ sym g.place;
        count = f.count ∙ sym g.count;
        calls = f.calls ∙ sym g.calls;
        started = λ q. let z : ◌≡◌ {A = ℕ} 0 1 = cc in absurd (omega arith);
      }

  pub request_4 : Request4 i j o p
  request_4 = go (refusal i) refl
    where
      go : (x : Option Refusal) → refusal i ≡ x → Request4 i j o p
      go None e = both_started e
      go (Some x) e = both_refused x e
