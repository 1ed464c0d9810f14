-- For a plain tree an evaluation that ends without a limit cause ends as Ford's relation says, over the characters from its position
-- on. One lemma for each combinator of pest with document 01's stops; the simulation brings it to the reading.
use Rattle.std.specs.Prelude.{if◌then◌else◌}
use mathlib.Core.Path.{◌≡◌, refl, sym, ap, ◌∙◌, subst}
use mathlib.Core.Bool.{Bool, true, false, ◌&&◌, ◌||◌, not, cond}
use mathlib.Core.List.{List, [], ◌∷◌, ◌++◌}
use Rattle.std.specs.Prelude.{Option, None, Some}
use mathlib.Core.Logic.{◌≢◌}
use Prim.Native.Nat.{ℕ, zero, suc, ◌+◌, ◌-◌, ◌≤◌, ◌<◌}
use native.Mathlib.Omega.{arith}
use lib.ListN.{length, take, drop, set, get_or, length-drop}
use lib.Seq.{drop-drop}
use lib.Dec.{eqb, ltb, leb}
use borrow.Author.Tests.{eqb-true, eqb-false, le-leb}
use Rattle.matching.specs.Utf8.{Utf8, utf8_end, utf8_next, Edge, decode, within, characters}
use Rattle.matching.specs.Position as Position
use Rattle.matching.specs.Position.{starts_by, same_folded, match_by, match_char_by, past}
use Rattle.matching.proofs.Lead.{decode_nil}
use Rattle.matching.proofs.Forward.{char_size}
use Rattle.matching.proofs.Characters.{then_skip}
use Rattle.matching.proofs.Edges.{Lands, lands, lands_not, char_lands}
use Rattle.reading.specs.declared.parser_state.Lookahead.{Lookahead}
use Rattle.reading.specs.declared.parser_state.Atomicity.{Atomicity}
use Rattle.reading.specs.declared.parser_state.Cause.{Cause}
use Rattle.reading.specs.declared.call_limit_tracker.LimitKind.{LimitKind}
use Rattle.reading.specs.Ending.{Halted, Ending, Ok, Err, Stop, on_ok, on_err, stop_if, is_negative, is_none, is_atomic}
use Rattle.reading.specs.Grammar as Grammar
use Rattle.reading.specs.Grammar.{Exp, RuleLine}
use Rattle.reading.specs.Reading as Reading
use Rattle.reading.specs.Reading.{Setting, State, initial, most_attempts, most_rounds, is_set}
use Rattle.reading.specs.Forest.{tokens}
use Rattle.reading.specs.Outcome.{Answer, answer, of_cause, of_limit, of_tokens, of_failure, ascending}
use Rattle.reading.specs.Pest as Pest
use Rattle.reading.specs.Pest.{ParserState, QueueableToken, CallLimitTracker, Entered, level, eval}
use Rattle.reading.specs.Ford as Ford
use Rattle.reading.specs.Ford.{Peg, Ford, peg, each, each_of, any, times, rules_of, characters_of}
use Rattle.reading.proofs.AnswerLaws.{stop_number}
use Rattle.reading.proofs.Trees.{Literals, still, Steady}
use Rattle.reading.proofs.FordLaws.{ford_unique, ford_suffix, star_left}
use Rattle.reading.proofs.Trees.{Calls, whole, Plain}
use Rattle.reading.proofs.CharacterLaws.{Ascii, eqb_ascii, folded_ascii, Compared, alike, unlike, compared, all_characters, of_nil, of_next}
use Rattle.reading.proofs.CharacterLaws.{Begins, no_character, a_character, begins}
use Rattle.reading.proofs.Matchers.{string_same, folded_same, range_same, skip_same}
use Rattle.reading.specs.Fit.{Fit}
use Rattle.reading.proofs.Invariant.{keeps_ok, keeps_err, KeepsFrom, Keeping, Tested, checkpoint_fit, pushed_fit, level_keeps, eval_keeps}
use Rattle.reading.proofs.Invariant.{refused_keeps}
use Rattle.reading.proofs.QueueLaws.{top}
use Rattle.reading.proofs.Simulation.{Sim, sim_ok, sim_err}
use Rattle.reading.proofs.Agree.{initial_fit, run_sim}

not_so : {A : Type 0} → false ≡ true → A
not_so e = let z : ◌≡◌ {A = ℕ} 0 1 = cc in absurd (omega arith)

cause_set : {A : Type 0} (c : Option LimitKind) → is_set c ≡ true → c ≡ None → A
cause_set None e f = not_so e
cause_set (Some k) e f = let z : ◌≡◌ {A = ℕ} 0 1 = cc in absurd (omega arith)

-- ── Terminals, over the characters of two texts ──
module _ (rules : ℕ → Peg) where
  abbrev After : Bool → ℕ → List ℕ → Option (List ℕ)
  After b n x = if b then Some (characters_of (drop n x)) else None

  -- The classes of a text's characters, against a text: what matching by bytes says.
  each_ford : (same : ℕ → ℕ → Bool) → Ascii same → (l : List ℕ) → Utf8 l → (x : List ℕ) → Utf8 x
      → Ford rules (each same (characters_of l)) (characters_of x) (After (starts_by same l x) (length l) x)
  each_ford same h l utf8_end x v = rw of_nil (Ford.f_empty (characters_of x))
  each_ford same h l (utf8_next l' c e u) x v = rw (of_next l' c e u) (go (begins x v) (λ y w. each_ford same h (drop c.size l') u y w))
    where
      es : List ℕ
      es = characters_of (drop c.size l')

      no_bytes : (l : List ℕ) → decode l ≡ Some c → starts_by same l [] ≡ false
      no_bytes [] e = let z : ◌≡◌ {A = ℕ} 0 1 = cc decode_nil in absurd (omega arith)
      no_bytes (a ∷ l) e = refl

      go : Begins x → ((y : List ℕ) → Utf8 y
          → Ford rules (each same es) (characters_of y) (After (starts_by same (drop c.size l') y) (length (drop c.size l')) y))
          → Ford rules (Ford.◌then◌ (Ford.class (same c.value)) (each same es)) (characters_of x) (After (starts_by same l' x) (length l') x)
      go (no_character n d q) ih = rw (q, n, no_bytes l' e) (Ford.f_sequence_fail _ _ [] (Ford.f_terminal_end (same c.value)))
      go (a_character d f w q) ih = rw q (by (compared same h l' x c d e f))
        where
          by : Compared same l' x c.size d.size c.value d.value
              → Ford rules (Ford.◌then◌ (Ford.class (same c.value)) (each same es)) (d.value ∷ characters_of (drop d.size x))
              (After (starts_by same l' x) (length l') x)
          by (unlike n m) = rw m (Ford.f_sequence_fail _ _ _ (Ford.f_terminal_fail (same c.value) d.value _ n))
          by (alike k n m) =
              let n₁ : d.size + length (drop c.size l') ≡ length l' = omega (arith, length-drop c.size l', char_size l' c e) in
              let z : drop (length (drop c.size l')) (drop d.size x) ≡ drop (length l') x = drop-drop (length (drop c.size l')) d.size x
              ∙ ap (λ (i : ℕ). drop i x) n₁ in
              rw (m, ← z) (Ford.f_sequence _ _ _ _ _ (Ford.f_terminal (same c.value) d.value _ n) (ih (drop d.size x) w))

-- ── Terminals, at an edge of a text ──
module _ (text : List ℕ) (rules : ℕ → Peg) where
  -- The characters from p on.
  abbrev pub at : ℕ → List ℕ
  at p = characters_of (drop p text)

  abbrev left : Option ℕ → Option (List ℕ)
  left None = None
  left (Some q) = Some (at q)

  string_ford : (same : ℕ → ℕ → Bool) → Ascii same → (l : List ℕ) → Utf8 l → (p : ℕ) → Edge text p
      → Ford rules (each_of same (characters l)) (at p) (left (match_by text same l p))
  unfolding match_by
  string_ford same h l u p e = rw (all_characters l u, le-leb p (length text) e.inside)
      (go (starts_by same l (drop p text)) (each_ford rules same h l u (drop p text) e.whole))
    where
      go : (b : Bool) → Ford rules (each same (characters_of l)) (at p) (After rules b (length l) (drop p text))
          → Ford rules (each same (characters_of l)) (at p) (left (cond b (Some (p + length l)) None))
      go true f = rw (← drop-drop (length l) p text) f
      go false f = f

  char_ford : (good : ℕ → Bool) (p : ℕ) → Edge text p → Ford rules (Ford.class good) (at p) (left (match_char_by text good p))
  unfolding match_char_by
  char_ford good p e = go (begins (drop p text) e.whole)
    where
      go : Begins (drop p text) → Ford rules (Ford.class good) (at p) (left (past good p (decode (drop p text))))
      go (no_character n d q) = rw (d, q) (Ford.f_terminal_end good)
      go (a_character c d u q) = rw (d, q) (pick (good c.value) refl)
        where
          pick : (b : Bool) → good c.value ≡ b
              → Ford rules (Ford.class good) (c.value ∷ characters_of (drop c.size (drop p text))) (left (cond b (Some (p + c.size)) None))
          pick true k = rw (← drop-drop c.size p text) (Ford.f_terminal good c.value (characters_of (drop c.size (drop p text))) k)
          pick false k = Ford.f_terminal_fail good c.value (characters_of (drop c.size (drop p text))) k

  skip_ford : (n p : ℕ) → Edge text p → Ford rules (times n) (at p) (left (Position.skip text n p))
  skip_ford zero p e = rw (le-leb p (length text) e.inside) (Ford.f_empty (at p))
  skip_ford (suc n) p e = go _ (char_lands text (λ v. true) p e) (char_ford (λ v. true) p e) (λ q. skip_ford n q)
    where
      go : (o : Option ℕ) → Lands text p o → Ford rules any (at p) (left o)
          → ((q : ℕ) → Edge text q → Ford rules (times n) (at q) (left (Position.skip text n q)))
          → Ford rules (times (suc n)) (at p) (left (then_skip text n o))
      go o lands_not f ih = Ford.f_sequence_fail _ _ (at p) f
      go o (lands q k d) f ih = Ford.f_sequence _ _ (at p) (at q) _ f (ih q d)

  end_ford : (p : ℕ) → Edge text p → Ford rules (Ford.not any) (at p) (if Pest.at_end text p then Some (at p) else None)
  end_ford p e = go (begins (drop p text) e.whole) (Pest.at_end text p) refl
    where
      go : Begins (drop p text) → (b : Bool) → eqb p (length text) ≡ b → Ford rules (Ford.not any) (at p) (if b then Some (at p) else None)
      go (no_character n d q) true k = Ford.f_not any (at p) (rw q (Ford.f_terminal_end (λ v. true)))
      go (no_character n d q) false k =
          let ne : p ≢ length text = eqb-false p (length text) k in
          let z : length (drop p text) ≡ 0 = ap length n in
          absurd (omega (arith, length-drop p text, e.inside))
      go (a_character c d u q) true k =
          let z : p ≡ length text = eqb-true p (length text) k in
          absurd (omega (arith, length-drop p text, char_size (drop p text) c d))
      go (a_character c d u q) false k = Ford.f_not_fail any (at p) (characters_of (drop c.size (drop p text)))
          (rw q (Ford.f_terminal (λ v. true) c.value _ refl))

-- ── Endings ──
abbrev cause : ParserState → Option LimitKind
cause m = m.call_tracker.limit_reached

module _ (g : Setting) where
  abbrev pub from : ℕ → List ℕ
  from p = at g.text (rules_of g) p

  -- Begun at p with the cause c: an ending without a cause began without one, and is what Ford's relation gives. Where `w`, a failure
  -- leaves the position.
  pub data Means (e : Peg) (w : Bool) (p : ℕ) (c : Option LimitKind) : Ending ParserState → Type 0 where
    means_ok : (n : ParserState) → (cause n ≡ None → (c ≡ None) × Ford (rules_of g) e (from p) (Some (from n.position))) → Means e w p c (Ok n)
    means_err : (n : ParserState) → (cause n ≡ None → (c ≡ None) × Ford (rules_of g) e (from p) None × (w ≡ true → n.position ≡ p))
        → Means e w p c (Err n)
    means_stop : (x : Halted) → Means e w p c (Stop x)

  abbrev pub MeansFrom : Peg → Bool → ParserState → Ending ParserState → Type 0
  MeansFrom e w m r = Means e w m.position (cause m) r

  abbrev pub Recognises : Peg → Bool → (ParserState → Ending ParserState) → Type 0
  Recognises e w f = (m : ParserState) → Fit g m → MeansFrom e w m (f m)

  -- ── Kinds 6 and 7 ──
  and_means : (a b : Peg) (v w x : Bool) (f h : ParserState → Ending ParserState) → Recognises a v f → Recognises b w h → Keeping g x f
      → Recognises (Ford.◌then◌ a b) false (λ m. on_ok (f m) (λ n. h n))
  and_means a b v w x f h hf hh hk m y = go (f m) (hf m y) (hk m y)
    where
      onward : (n : ParserState) → (cause n ≡ None → (cause m ≡ None) × Ford (rules_of g) a (from m.position) (Some (from n.position)))
          → (r : Ending ParserState) → MeansFrom b w n r
          → MeansFrom (Ford.◌then◌ a b) false m r
      onward n k r (means_ok t j) = means_ok t (λ c. let q : cause n ≡ None = (j c).0 in ((k q).0, Ford.f_sequence a b _ _ _ (k q).1 (j c).1))
      onward n k r (means_err t j) = means_err t (λ c. let q : cause n ≡ None = (j c).0 in
          ((k q).0, Ford.f_sequence a b _ _ None (k q).1 (j c).1, λ (e : false ≡ true). not_so e))
      onward n k r (means_stop c) = means_stop c

      go : (r : Ending ParserState) → MeansFrom a v m r → KeepsFrom g x m r → MeansFrom (Ford.◌then◌ a b) false m (on_ok r (λ n. h n))
      go r (means_ok n k) (keeps_ok n' z i) = onward n k (h n) (hh n z.fit)
      go r (means_err n k) z = means_err n (λ c. ((k c).0, Ford.f_sequence_fail a b _ (k c).1, λ (e : false ≡ true). not_so e))
      go r (means_stop c) z = means_stop c

  or_means : (a b : Peg) (x : Bool) (f h : ParserState → Ending ParserState) → Recognises a true f → Recognises b true h → Keeping g x f
      → Recognises (Ford.◌or◌ a b) true (λ m. on_err (f m) (λ n. h n))
  or_means a b x f h hf hh hk m y = go (f m) (hf m y) (hk m y)
    where
      onward : (n : ParserState) → (cause n ≡ None → (cause m ≡ None) × Ford (rules_of g) a (from m.position) None
          × (true ≡ true → n.position ≡ m.position)) → (r : Ending ParserState) → MeansFrom b true n r
          → MeansFrom (Ford.◌or◌ a b) true m r
      onward n k r (means_ok t j) = means_ok t (λ c.
          let q : cause n ≡ None = (j c).0 in
          ((k q).0, Ford.f_second a b _ _ (k q).1 (rw ((k q).2 refl) at (j c).1)))
      onward n k r (means_err t j) = means_err t (λ c.
          let q : cause n ≡ None = (j c).0 in
          ((k q).0, Ford.f_second a b _ None (k q).1 (rw ((k q).2 refl) at (j c).1), λ e. (j c).2 e ∙ (k q).2 refl))
      onward n k r (means_stop c) = means_stop c

      go : (r : Ending ParserState) → MeansFrom a true m r → KeepsFrom g x m r → MeansFrom (Ford.◌or◌ a b) true m (on_err r (λ n. h n))
      go r (means_ok n k) z = means_ok n (λ c. ((k c).0, Ford.f_first a b _ _ (k c).1))
      go r (means_err n k) (keeps_err n' z) = onward n k (h n) (hh n z.fit)
      go r (means_stop c) z = means_stop c

  -- ── Kinds 1 to 5, 19 ──
  -- `x` is document 01's match, `y` pest's.
  moved_means : (e : Peg) (m : ParserState) (x y : Option ℕ) → x ≡ y → Ford (rules_of g) e (from m.position) (left g.text (rules_of g) x)
      → MeansFrom e true m (Pest.moved y m)
  moved_means e m x y q f = go y (subst (λ (o : Option ℕ). Ford (rules_of g) e (from m.position) (left g.text (rules_of g) o)) q f)
    where
      go : (o : Option ℕ) → Ford (rules_of g) e (from m.position) (left g.text (rules_of g) o) → MeansFrom e true m (Pest.moved o m)
      go None f = means_err m (λ c. (c, f, λ q. refl))
      go (Some q) f = means_ok (Pest.set_position q m) (λ c. (c, f))

  end_means : Recognises (Ford.not any) true (λ m. if Pest.at_end g.text m.position then Ok m else Err m)
  end_means m y = go (Pest.at_end g.text m.position) (end_ford g.text (rules_of g) m.position y.edge)
    where
      go : (b : Bool) → Ford (rules_of g) (Ford.not any) (from m.position) (if b then Some (from m.position) else None)
          → MeansFrom (Ford.not any) true m (if b then Ok m else Err m)
      go true f = means_ok m (λ c. (c, f))
      go false f = means_err m (λ c. (c, f, λ q. refl))

  tag_means : (u : ℕ) → Recognises Ford.ε true (λ m. Pest.tag_node u m)
  tag_means u m y = go (not (is_none m.lookahead))
    where
      n : ParserState
      n = Pest.set_queue (Pest.tag_last u m.queue) m

      go : (b : Bool) → MeansFrom Ford.ε true m (if b then Ok m else Ok n)
      go true = means_ok m (λ c. (c, Ford.f_empty (from m.position)))
      go false = means_ok n (λ c. (c, Ford.f_empty (from m.position)))

  -- ── Entering ──
  -- A tracker that refuses has a cause, one that lets in has the cause it had.
  data Entry (c : Option LimitKind) : Entered → Type 0 where
    lets : (t : CallLimitTracker) → t.limit_reached ≡ c → Entry c (record { answer = true; tracker = t })
    refuses : (t : CallLimitTracker) → is_set t.limit_reached ≡ true → Entry c (record { answer = false; tracker = t })

  enter_cause : (room counts : Bool) (t : CallLimitTracker) → Entry t.limit_reached (Pest.enter room counts t)
  enter_cause room counts t = go (is_set t.limit_reached) refl (counts && Pest.exceeded t.current_call_limit)
      (Pest.short_of_stack (Pest.remaining_stack room))
    where
      n : CallLimitTracker
      n = record {
        current_call_limit = if counts then Pest.one_more t.current_call_limit else t.current_call_limit;
        limit_reached = t.limit_reached;
        calls = if counts then Pest.called t.calls else t.calls;
      }

      own : Entered
      own = record { answer = false; tracker = t }

      go : (a : Bool) → is_set t.limit_reached ≡ a → (b s : Bool) → Entry t.limit_reached
          (if a then own else if b then Pest.reached LimitKind.Call t
          else (if a then own else if b then Pest.reached LimitKind.Call t else if s then Pest.reached LimitKind.Stack t
          else record { answer = true; tracker = n }))
      go true e b s = refuses t e
      go false e true s = refuses _ refl
      go false e false true = refuses _ refl
      go false e false false = lets n refl

  entering_means : (e : Peg) (room counts : Bool) (k : ParserState → Ending ParserState) → Recognises e true k
      → Recognises e true (λ m. Pest.check_limit room counts m k)
  entering_means e room counts k h m y = go _ (enter_cause room counts m.call_tracker)
    where
      go : (x : Entered) → Entry (cause m) x
          → MeansFrom e true m (elim x.answer [ false ↦ Err (Pest.set_call_tracker x.tracker m) | true ↦ k (Pest.set_call_tracker x.tracker m) ])
      go x (lets t q) = subst (λ (c : Option LimitKind). Means e true m.position c (k (Pest.set_call_tracker t m))) q
          (h (Pest.set_call_tracker t m) y)
      go x (refuses t q) = means_err (Pest.set_call_tracker t m) (λ c. cause_set t.limit_reached q c)

  -- ── Kind 9 ──
  sequence_means : (e : Peg) (w : Bool) (f : ParserState → Ending ParserState) → Recognises e w f → Recognises e true (λ m. Pest.sequence f m)
  sequence_means e w f h m y = go _ (h (Pest.checkpoint m) (checkpoint_fit g m y))
    where
      go : (r : Ending ParserState) → MeansFrom e w m r → MeansFrom e true m (Pest.sequence_end (length m.queue) m.position r)
      go r (means_ok n k) = means_ok (Pest.checkpoint_ok n) k
      go r (means_err n k) = means_err _ (λ c. ((k c).0, (k c).1, λ q. refl))
      go r (means_stop c) = means_stop c

  -- ── Kind 13 ──
  atomic_means : (a : Atomicity) (e : Peg) (f : ParserState → Ending ParserState) → Recognises e true f → Recognises e true (λ m. Pest.atomic a f m)
  atomic_means a e f h m y = go (not (Pest.same_atomicity m.atomicity a))
    where
      back : (t : Bool) (r : Ending ParserState) → MeansFrom e true m r → MeansFrom e true m (Pest.atomic_end t m.atomicity r)
      back true r (means_ok n k) = means_ok (Pest.set_atomicity m.atomicity n) k
      back true r (means_err n k) = means_err (Pest.set_atomicity m.atomicity n) k
      back true r (means_stop c) = means_stop c
      back false r (means_ok n k) = means_ok n k
      back false r (means_err n k) = means_err n k
      back false r (means_stop c) = means_stop c

      go : (t : Bool) → MeansFrom e true m (Pest.atomic_end t m.atomicity (f (Pest.toggle t a m)))
      go true = back true _ (h (Pest.set_atomicity a m) y)
      go false = back false _ (h m y)

  -- ── Kinds 10 and 11 ──
  -- An Err is passed on only with a cause: there is nothing to show.
  forgiven_means : {e : Peg} {w : Bool} {p : ℕ} {c : Option LimitKind} (n : ParserState)
      → (cause n ≡ None → (c ≡ None) × Ford (rules_of g) e (from p) (Some (from n.position)))
      → Means e w p c (if Pest.limit_reached n then Err n else Ok n)
  forgiven_means {e} {w} {p} {c} n k = go (Pest.limit_reached n) refl
    where
      go : (b : Bool) → Pest.limit_reached n ≡ b → Means e w p c (if b then Err n else Ok n)
      go true q = means_err n (λ x. cause_set (cause n) q x)
      go false q = means_ok n k

  optional_means : (e : Peg) (f : ParserState → Ending ParserState) → Recognises e true f
      → Recognises (Ford.◌or◌ e Ford.ε) true (λ m. Pest.optional (f m))
  optional_means e f h m y = go _ (h m y)
    where
      go : (r : Ending ParserState) → MeansFrom e true m r → MeansFrom (Ford.◌or◌ e Ford.ε) true m (Pest.optional r)
      go r (means_ok n k) = means_ok n (λ c. ((k c).0, Ford.f_first e Ford.ε _ _ (k c).1))
      go r (means_err n k) = forgiven_means n (λ c.
          ((k c).0, Ford.f_second e Ford.ε _ _ (k c).1 (rw ((k c).2 refl) (Ford.f_empty (from m.position)))))
      go r (means_stop c) = means_stop c

  -- Each round that is Ok comes nearer to the end, so the fuel is never used up, and a repeat fails only with a cause.
  rounds_means : (e : Peg) (f : ParserState → Ending ParserState) → Recognises e true f → Keeping g false f → (n : ℕ) (m : ParserState)
      → Fit g m → length g.text - m.position < n
      → MeansFrom (Ford.star e) true m (Pest.repeat n f m)
  rounds_means e f h k zero m y l = absurd (omega arith)
  rounds_means e f h k (suc n) m y l = go (f m) (h m y) (k m y) (λ t. rounds_means e f h k n t)
    where
      onward : (t : ParserState) → (cause t ≡ None → (cause m ≡ None) × Ford (rules_of g) e (from m.position) (Some (from t.position)))
          → (r : Ending ParserState) → MeansFrom (Ford.star e) true t r
          → MeansFrom (Ford.star e) true m r
      onward t j r (means_ok u i) = means_ok u (λ c. let q : cause t ≡ None = (i c).0 in ((j q).0, Ford.f_more e _ _ _ (j q).1 (i c).1))
      onward t j r (means_err u i) = means_err u (λ c. absurd (star_left (rules_of g) e (from t.position) None (i c).1 refl))
      onward t j r (means_stop c) = means_stop c

      go : (r : Ending ParserState) → MeansFrom e true m r → KeepsFrom g false m r
          → ((t : ParserState) → Fit g t → length g.text - t.position < n → MeansFrom (Ford.star e) true t (Pest.repeat n f t))
          → MeansFrom (Ford.star e) true m (Pest.round_end r (λ t. Pest.repeat n f t))
      go r (means_ok t j) (keeps_ok t' z i) ih = onward t j _ (ih t z.fit (omega (arith, i refl, z.fit.edge.inside)))
      go r (means_err t j) z ih = forgiven_means t (λ c. ((j c).0, rw ((j c).2 refl) (Ford.f_done e (from m.position) (j c).1)))
      go r (means_stop c) z ih = means_stop c

  repeat_means : (e : Peg) (f : ParserState → Ending ParserState) → Recognises e true f → Keeping g false f
      → Recognises (Ford.star e) true (λ m. Pest.repeat (most_rounds g m.position) f m)
  repeat_means e f h k m y = rounds_means e f h k (most_rounds g m.position) m y (omega arith)

  -- ── Kind 12 ──
  abbrev lookahead_of : Bool → Peg → Peg
  lookahead_of true e = Ford.not (Ford.not e)
  lookahead_of false e = Ford.not e

  lookahead_means : (positive w : Bool) (e : Peg) (f : ParserState → Ending ParserState) → Recognises e w f
      → Recognises (lookahead_of positive e) true (λ m. Pest.lookahead positive f m)
  lookahead_means positive w e f h m y = go positive _ (h (Pest.checkpoint (Pest.set_lookahead l m)) (checkpoint_fit g (Pest.set_lookahead l m) y))
    where
      l : Lookahead
      l = Pest.lookahead_in positive m.lookahead

      back : ParserState → ParserState
      back n = Pest.restored (Pest.set_lookahead m.lookahead (Pest.set_position m.position n))

      err_set : (n : ParserState) (b : Peg) → Pest.limit_reached n ≡ true → MeansFrom b true m (Err (back n))
      err_set n b q = means_err (back n) (λ c. cause_set (cause n) q c)

      ok_case : (p : Bool) (n : ParserState)
          → (cause n ≡ None → (cause m ≡ None) × Ford (rules_of g) e (from m.position) (Some (from n.position))) → (x : Bool)
          → Pest.limit_reached n ≡ x
          → MeansFrom (lookahead_of p e) true m (if x then Err (back n) else if p then Ok (back n) else Err (back n))
      ok_case p n k true q = err_set n (lookahead_of p e) q
      ok_case true n k false q = means_ok (back n) (λ c. ((k c).0, Ford.f_not _ _ (Ford.f_not_fail e _ _ (k c).1)))
      ok_case false n k false q = means_err (back n) (λ c. ((k c).0, Ford.f_not_fail e _ _ (k c).1, λ z. refl))

      err_case : (p : Bool) (n : ParserState)
          → (cause n ≡ None → (cause m ≡ None) × Ford (rules_of g) e (from m.position) None × (w ≡ true → n.position ≡ m.position))
          → (x : Bool) → Pest.limit_reached n ≡ x
          → MeansFrom (lookahead_of p e) true m (if x then Err (back n) else if p then Err (back n) else Ok (back n))
      err_case p n k true q = err_set n (lookahead_of p e) q
      err_case true n k false q = means_err (back n) (λ c. ((k c).0, Ford.f_not_fail (Ford.not e) _ _ (Ford.f_not e _ (k c).1), λ z. refl))
      err_case false n k false q = means_ok (back n) (λ c. ((k c).0, Ford.f_not e _ (k c).1))

      go : (p : Bool) (r : Ending ParserState) → MeansFrom e w m r
          → MeansFrom (lookahead_of p e) true m (Pest.lookahead_end p m.lookahead m.position r)
      go p r (means_ok n k) = ok_case p n k (Pest.limit_reached n) refl
      go p r (means_err n k) = err_case p n k (Pest.limit_reached n) refl
      go p r (means_stop c) = means_stop c

  -- ── Kind 8 ──
  -- Tracking changes neither position nor cause.
  record Same (m n : ParserState) : Type 0 where
    place : n.position ≡ m.position
    limit : cause n ≡ cause m

  itself : (m : ParserState) → Same m m
  itself m = record { place = refl; limit = refl }

  either : (b : Bool) {m n k : ParserState} → Same m n → Same m k → Same m (if b then n else k)
  either true x y = x
  either false x y = y

  then_same : {m n k : ParserState} → Same m n → Same n k → Same m k
  then_same x y = record { place = y.place ∙ x.place; limit = y.limit ∙ x.limit }

  noted : (f : ℕ) (ps ns : List ℕ) (m : ParserState) → Same m (Pest.set_attempts f ps ns m)
  noted f ps ns m = record { place = refl; limit = refl }

  track_same : (r p pi ni prev : ℕ) (m : ParserState) → Same m (Pest.track r p pi ni prev m)
  track_same r p pi ni prev m =
      either (is_atomic m.atomicity) (itself m)
      (either (ltb prev (Pest.attempts_at p m) && eqb (Pest.attempts_at p m - prev) 1) (itself m)
      (then_same (truncates m) (then_same (advances (Pest.truncate_attempts p pi ni m))
      (pushes (Pest.advance_attempts p (Pest.truncate_attempts p pi ni m))))))
    where
      truncates : (m : ParserState) → Same m (Pest.truncate_attempts p pi ni m)
      truncates m = either (eqb p m.attempt_pos) (noted m.attempt_pos (take pi m.pos_attempts) (take ni m.neg_attempts) m) (itself m)

      advances : (m : ParserState) → Same m (Pest.advance_attempts p m)
      advances m = either (ltb m.attempt_pos p) (noted p [] [] m) (itself m)

      pushes : (m : ParserState) → Same m (Pest.push_attempt r p m)
      pushes m =
          either (eqb p m.attempt_pos)
          (either (not (is_negative m.lookahead)) (noted m.attempt_pos (m.pos_attempts ++ (r ∷ [])) m.neg_attempts m)
          (noted m.attempt_pos m.pos_attempts (m.neg_attempts ++ (r ∷ [])) m))
          (itself m)

  tracking_means : (due : Bool) (line r p pi ni prev : ℕ) {e : Peg} {w : Bool} {q : ℕ} {c : Option LimitKind} (k : ParserState
      → Ending ParserState) (n : ParserState)
      → ((t : ParserState) → Same n t → Means e w q c (k t)) → Means e w q c (Pest.tracking g true due line r p pi ni prev n k)
  tracking_means due line r p pi ni prev {e} {w} {q} {c} k n h = go (due && not (is_atomic n.atomicity))
    where
      t : ParserState
      t = Pest.track r p pi ni prev n

      full : Bool
      full = ltb most_attempts (length t.pos_attempts) || ltb most_attempts (length t.neg_attempts)

      room : (b : Bool) → Means e w q c (stop_if b (Pest.halted (Cause.AttemptsFull line) n) (λ _. k t))
      room true = means_stop _
      room false = h t (track_same r p pi ni prev n)

      go : (b : Bool) → Means e w q c (elim b [ false ↦ k n | true ↦ stop_if full (Pest.halted (Cause.AttemptsFull line) n) (λ _. k t) ])
      go false = h n (itself n)
      go true = room full

  rule_means : (line r : ℕ) (e : Peg) (f : ParserState → Ending ParserState) → Recognises e true f
      → Recognises e true (λ m. Pest.rule g true line r f m)
  rule_means line r e f h m y = go (Pest.produces m)
    where
      pi : ℕ
      pi = if eqb m.position m.attempt_pos then length m.pos_attempts else 0

      ni : ℕ
      ni = if eqb m.position m.attempt_pos then length m.neg_attempts else 0

      index : ℕ
      index = length m.queue

      close : (t : ParserState) → (cause t ≡ None → (cause m ≡ None) × Ford (rules_of g) e (from m.position) (Some (from t.position)))
          → MeansFrom e true m (Pest.close_rule g true line r index t)
      close t k = pick (Pest.produces t)
        where
          q : List QueueableToken
          q = set t.queue index (Pest.with_end (length t.queue) (get_or t.queue index (Pest.Start 0 0)))

          u : ParserState
          u = Pest.set_queue (q ++ (Pest.End index r 0 t.position ∷ [])) t

          room : (b : Bool) → MeansFrom e true m (stop_if b (Pest.halted (Cause.TokensFull line) t) (λ _. Ok u))
          room true = means_stop _
          room false = means_ok u k

          pick : (b : Bool) → MeansFrom e true m (elim b
              [ false ↦ Ok t | true ↦ stop_if (leb g.capacity (length q)) (Pest.halted (Cause.TokensFull line) t) (λ _. Ok u) ])
          pick false = means_ok t k
          pick true = room (leb g.capacity (length q))

      cut : (t : ParserState) → (cause t ≡ None → (cause m ≡ None) × Ford (rules_of g) e (from m.position) None
          × (true ≡ true → t.position ≡ m.position)) → (b : Bool)
          → MeansFrom e true m (Err (if b then Pest.set_queue (take index t.queue) t else t))
      cut t k true = means_err (Pest.set_queue (take index t.queue) t) k
      cut t k false = means_err t k

      ends : (prev : ℕ) (x : Ending ParserState) → MeansFrom e true m x
          → MeansFrom e true m (Pest.rule_end g true line r m.position index pi ni prev x)
      ends prev x (means_ok n k) = tracking_means (is_negative n.lookahead) line r m.position pi ni prev (λ t.
          Pest.close_rule g true line r index t) n
          (λ t s. close t (λ c. let j : (cause m ≡ None)
          × Ford (rules_of g) e (from m.position) (Some (from n.position)) = k (sym s.limit ∙ c) in (j.0, rw s.place j.1)))
      ends prev x (means_err n k) = tracking_means (not (is_negative n.lookahead)) line r m.position pi ni prev (λ t.
          Err (if Pest.produces t then Pest.set_queue (take index t.queue) t else t)) n
          (λ t s. cut t (λ c. let j : (cause m ≡ None) × Ford (rules_of g) e (from m.position) None
          × (true ≡ true → n.position ≡ m.position) = k (sym s.limit ∙ c) in (j.0, j.1, λ z. s.place ∙ j.2 z)) (Pest.produces t))
      ends prev x (means_stop c) = means_stop c

      s : ParserState
      s = Pest.set_queue (m.queue ++ (Pest.Start 0 m.position ∷ [])) m

      room : (b : Bool) → leb g.capacity index ≡ b
          → MeansFrom e true m (stop_if b (Pest.halted (Cause.TokensFull line) m) (λ _. Pest.rule_start g true line r pi ni f m s))
      room true q = means_stop _
      room false q = ends (Pest.attempts_at m.position s) (f s) (h s (pushed_fit g m m.queue (Pest.Start 0 m.position) y refl q))

      go : (b : Bool) → MeansFrom e true m (elim b [
        | false ↦ Pest.rule_start g true line r pi ni f m m
        | true ↦ stop_if (leb g.capacity index) (Pest.halted (Cause.TokensFull line) m) (λ _. Pest.rule_start g true line r pi ni f m s)
      ])
      go false = ends (Pest.attempts_at m.position m) (f m) (h m y)
      go true = room (leb g.capacity index) refl

  -- ── Kind 20 ──
  nonterminal_means : (l : ℕ) {p : ℕ} {c : Option LimitKind} (r : Ending ParserState) → Means (rules_of g l) true p c r
      → Means (Ford.nonterminal l) true p c r
  nonterminal_means l r (means_ok n k) = means_ok n (λ c. ((k c).0, Ford.f_nonterminal l _ _ (k c).1))
  nonterminal_means l r (means_err n k) = means_err n (λ c. ((k c).0, Ford.f_nonterminal l _ _ (k c).1, (k c).2))
  nonterminal_means l r (means_stop x) = means_stop x

-- ── All plain kinds ──
-- The rules at some lines are plain, and call rules at such lines only.
pub record PlainRules (g : Setting) (lines : ℕ → Type 0) : Type 0 where
  pub plain : (l : ℕ) → lines l → Plain (g.rule_at l).body
  pub whole_body : (l : ℕ) → lines l → whole (g.rule_at l).body ≡ true
  pub calls : (l : ℕ) → lines l → Calls lines (g.rule_at l).body

module _ (g : Setting) (set : ℕ → Bool) (w : Tested g set) (lines : ℕ → Type 0) (v : PlainRules g lines) where
  abbrev pub RecognisesTree : Exp → (ParserState → Ending ParserState) → Type 0
  RecognisesTree e f = Recognises g (peg e) (whole e) f

  module _ (room : Bool) (d : Exp → ParserState → Ending ParserState)
      (h : (e : Exp) → Plain e → Calls lines e → Literals e → Steady set e → RecognisesTree e (d e)) (k : (e : Exp) → Literals e
      → Steady set e → Keeping g (still set e) (d e)) where
    -- A tree that is not of kind 6.
    of_whole : (e : Exp) (f : ParserState → Ending ParserState) → whole e ≡ true → RecognisesTree e f → Recognises g (peg e) true f
    of_whole e f q z = subst (λ (b : Bool). Recognises g (peg e) b f) q z

    body : (e : Exp) → Plain e → Calls lines e → whole e ≡ true → Literals e → Steady set e → Recognises g (peg e) true (d e)
    body e p c q u y = of_whole e (d e) q (h e p c u y)

    counted : (e : Peg) (f : ParserState → Ending ParserState) → Recognises g e true f → Recognises g e true (λ m. Pest.check_limit room true m f)
    counted e f z = entering_means g e room true f z

    level_means : (e : Exp) → Plain e → Calls lines e → Literals e → Steady set e → RecognisesTree e (level g true room d e)
    level_means (Grammar.match_string l) p c u y =
        λ m x. moved_means g (peg (Grammar.match_string l)) m _ _ (string_same g.text l m.position)
        (string_ford g.text (rules_of g) eqb eqb_ascii l u m.position x.edge)
    level_means (Grammar.match_insensitive l) p c u y =
        λ m x. moved_means g (peg (Grammar.match_insensitive l)) m _ _ (folded_same g.text l u m.position x.edge.inside x.edge.whole)
        (string_ford g.text (rules_of g) same_folded folded_ascii l u m.position x.edge)
    level_means (Grammar.match_range a b) p c u y =
        λ m x. moved_means g (Ford.class (within a b)) m _ _ (range_same g.text a b m.position)
        (char_ford g.text (rules_of g) (within a b) m.position x.edge)
    level_means (Grammar.skip n) p c u y = λ m x.
        moved_means g (times n) m _ _ (skip_same g.text n m.position x.edge.inside) (skip_ford g.text (rules_of g) n m.position x.edge)
    level_means Grammar.end_of_input p c u y = end_means g
    level_means (Grammar.and_then a b) p c u y =
        and_means g (peg a) (peg b) (whole a) (whole b) (still set a) (level g true room d a) (level g true room d b)
        (level_means a p.0 c.0 u.0 y.0) (level_means b p.1 c.1 u.1 y.1) (level_keeps g set w room d k a u.0 y.0)
    level_means (Grammar.or_else a b) p c u y =
        or_means g (peg a) (peg b) (still set a) (level g true room d a) (level g true room d b)
        (of_whole a (level g true room d a) p.2 (level_means a p.0 c.0 u.0 y.0))
        (of_whole b (level g true room d b) p.3 (level_means b p.1 c.1 u.1 y.1))
        (level_keeps g set w room d k a u.0 y.0)
    level_means (Grammar.rule line r e) p c u y =
        counted (peg e) (λ m. Pest.rule g true line r (d e) m) (rule_means g line r (peg e) (d e) (body e p.0 c p.1 u y))
    level_means (Grammar.sequence e) p c u y = counted (peg e) (λ m. Pest.sequence (d e) m) (sequence_means g (peg e) (whole e) (d e) (h e p c u y))
    level_means (Grammar.repeat e) p c u y = counted (Ford.star (peg e)) (λ m. Pest.repeat (most_rounds g m.position) (d e) m)
        (repeat_means g (peg e) (d e) (body e p.0 c p.1 u y.1) (subst (λ (b : Bool). Keeping g b (d e)) y.0 (k e u y.1)))
    level_means (Grammar.optional e) p c u y =
        counted (Ford.◌or◌ (peg e) Ford.ε) (λ m. Pest.optional (d e m)) (optional_means g (peg e) (d e) (body e p.0 c p.1 u y))
    level_means (Grammar.lookahead true e) p c u y =
        counted (Ford.not (Ford.not (peg e))) (λ m. Pest.lookahead true (d e) m) (lookahead_means g true (whole e) (peg e) (d e) (h e p.0 c u y))
    level_means (Grammar.lookahead false e) p c u y =
        counted (Ford.not (peg e)) (λ m. Pest.lookahead false (d e) m) (lookahead_means g false (whole e) (peg e) (d e) (h e p.0 c u y))
    level_means (Grammar.atomic a e) p c u y = counted (peg e) (λ m. Pest.atomic a (d e) m) (atomic_means g a (peg e) (d e) (body e p.0 c p.1 u y))
    level_means (Grammar.stack_push line e) p c u y = absurd p
    level_means (Grammar.stack_pop line) p c u y = absurd p
    level_means (Grammar.stack_match_peek_slice i j t) p c u y = absurd p
    level_means (Grammar.stack_match_pop line) p c u y = absurd p
    level_means (Grammar.restore_on_err e) p c u y = absurd p
    level_means (Grammar.tag_node t) p c u y = tag_means g t
    level_means (Grammar.call l) p c u y = λ m x.
        let r : RuleLine = g.rule_at l in
        nonterminal_means g l _ (counted (peg r.body) (λ n. Pest.rule g true r.line r.rule (d r.body) n)
        (rule_means g r.line r.rule (peg r.body) (d r.body)
        (body r.body (v.plain l c) (v.calls l c) (v.whole_body l c) (w.literals l) (w.steady l))) m x)

  refused_means : (e : Exp) → Plain e → Calls lines e → Literals e → Steady set e → RecognisesTree e (Pest.no_deeper g true e)
  refused_means e p c u y m x = means_err _ (λ q. cause_set (Some LimitKind.Stack) refl q)

  -- At every depth, for every plain tree.
  pub eval_means : (depth : ℕ) (e : Exp) → Plain e → Calls lines e → Literals e → Steady set e → RecognisesTree e (eval g true depth e)
  eval_means zero e p c u y = level_means false (Pest.no_deeper g true) refused_means (refused_keeps g set w) e p c u y
  eval_means (suc n) e p c u y = level_means true (eval g true n) (eval_means n) (eval_keeps g set w n) e p c u y

-- ── What a run gives ──
-- A run that ends without a limit cause, and what is left of the text's characters; none where it failed.
pub data Recognised (g : Setting) : Ending State → Option (List ℕ) → Type 0 where
  matched : (s : State) → s.tracker.cause ≡ None → Recognised g (Ok s) (Some (characters_of (drop s.position g.text)))
  failed : (s : State) → s.tracker.cause ≡ None → Recognised g (Err s) None

-- The numbers 0 and 10 are given for such an ending only.
data Numbered (g : Setting) (r : Ending State) : ℕ → Type 0 where
  parsed_end : (y : List ℕ) → Recognised g r (Some y) → Numbered g r 0
  failed_end : Recognised g r None → Numbered g r 10
  other_end : (n : ℕ) → 11 ≤ n → Numbered g r n

numbered : (g : Setting) (r : Ending State) → Numbered g r (answer r).number
numbered g (Ok s) = go s.tracker.cause refl
  where
    limit_end : (k : LimitKind) → Numbered g (Ok s) (of_limit k s.attempts.furthest).number
    limit_end LimitKind.Call = other_end 11 (omega arith)
    limit_end LimitKind.Stack = other_end 12 (omega arith)

    go : (c : Option LimitKind) → s.tracker.cause ≡ c
        → Numbered g (Ok s) (elim c as (λ x. Answer) [ Some k ↦ of_limit k s.attempts.furthest | None ↦ of_tokens (tokens s.siblings) ]).number
    go None e = parsed_end (characters_of (drop s.position g.text)) (matched s e)
    go (Some k) e = limit_end k
numbered g (Err s) = go s.tracker.cause refl
  where
    limit_end : (k : LimitKind) → Numbered g (Err s) (of_limit k s.attempts.furthest).number
    limit_end LimitKind.Call = other_end 11 (omega arith)
    limit_end LimitKind.Stack = other_end 12 (omega arith)

    go : (c : Option LimitKind) → s.tracker.cause ≡ c
        → Numbered g (Err s) (elim c as (λ x. Answer) [
          | Some k ↦ of_limit k s.attempts.furthest
          | None ↦ of_failure s.attempts.furthest (ascending s.attempts.positive) (ascending s.attempts.negative)
        ]).number
    go None e = failed_end (failed s e)
    go (Some k) e = limit_end k
numbered g (Stop h) = other_end (of_cause h.cause).number (omega (arith, (stop_number h.cause).0))

-- A match that gives 0 has no cause.
pub no_cause : (s : State) → (answer (Ok s)).number ≡ 0 → s.tracker.cause ≡ None
no_cause s = go s.tracker.cause
  where
    go : (c : Option LimitKind) → (elim c as (λ x. Answer)
        [ Some k ↦ of_limit k s.attempts.furthest | None ↦ of_tokens (tokens s.siblings) ]).number ≡ 0 → c ≡ None
    go None q = refl
    go (Some LimitKind.Call) q = absurd (omega arith)
    go (Some LimitKind.Stack) q = absurd (omega arith)

module _ (g : Setting) (set : ℕ → Bool) (w : Tested g set) (lines : ℕ → Type 0) (v : PlainRules g lines) (u : Utf8 g.text)
    (depth limit : ℕ) (e : Exp) (p : Plain e) (c : Calls lines e) (y : Literals e) (z : Steady set e) where
  abbrev run : Ending State
  run = Reading.eval g depth e (initial limit)

  -- Demand 2, the second half: a match or a failure is what Ford's relation gives on the text's characters ..
  pub ford_at : (o : Option (List ℕ)) → Recognised g run o → Ford (rules_of g) (peg e) (characters_of g.text) o
  ford_at o h = go _ o _ h (run_sim g set w u depth limit e y z) (eval_means g set w lines v depth e p c y z (Pest.new limit) first_fit)
    where
      first_fit : Fit g (Pest.new limit)
      first_fit = initial_fit g limit u

      go : (r : Ending State) (o : Option (List ℕ)) (m : Ending ParserState) → Recognised g r o
          → Sim top [] (initial limit).lookahead (initial limit).atomicity (initial limit).siblings r m → Means g (peg e) (whole e) 0 None m
          → Ford (rules_of g) (peg e) (characters_of g.text) o
      go r o m (matched s b) (sim_ok t q i j) (means_ok n k) = (k b).1
      go r o m (failed s b) (sim_err t q i j) (means_err n k) = (k b).1

  -- .. and nothing else is.
  pub ford_only : (o : Option (List ℕ)) → Recognised g run o → (o' : Option (List ℕ)) → Ford (rules_of g) (peg e) (characters_of g.text) o' → o' ≡ o
  ford_only o h o' f = ford_unique (rules_of g) (peg e) (characters_of g.text) o' f o (ford_at o h)

  -- "a run gives 0 only where Ford's relation consumes a prefix of the text"
  pub ford_parsed : (answer run).number ≡ 0 → (y : List ℕ) × Ford (rules_of g) (peg e) (characters_of g.text) (Some y)
      × ((c : List ℕ) × (characters_of g.text ≡ c ++ y))
  ford_parsed q = go _ (numbered g run) q
    where
      go : (n : ℕ) → Numbered g run n → n ≡ 0 → (y : List ℕ) × Ford (rules_of g) (peg e) (characters_of g.text) (Some y)
          × ((c : List ℕ) × (characters_of g.text ≡ c ++ y))
      go n (parsed_end y h) q = (y, ford_at (Some y) h, ford_suffix (rules_of g) (peg e) (characters_of g.text) y (ford_at (Some y) h))
      go n (failed_end h) q = absurd (omega arith)
      go n (other_end n' h) q = absurd (omega arith)

  -- "and 10 only where it fails"
  pub ford_failed : (answer run).number ≡ 10 → Ford (rules_of g) (peg e) (characters_of g.text) None
  ford_failed q = go _ (numbered g run) q
    where
      go : (n : ℕ) → Numbered g run n → n ≡ 10 → Ford (rules_of g) (peg e) (characters_of g.text) None
      go n (parsed_end y h) q = absurd (omega arith)
      go n (failed_end h) q = ford_at None h
      go n (other_end n' h) q = absurd (omega arith)
