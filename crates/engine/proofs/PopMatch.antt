-- Popping and matching, one entry at a time: what the pop answered decides pest's next step, and the answer from there on is the whole
-- answer.
use Rattle.std.specs.Prelude.{if◌then◌else◌}
use mathlib.Core.Path.{◌≡◌, refl, sym, ap, ap₂, ◌∙◌, subst}
use mathlib.Core.Bool.{Bool, true, false, not}
use mathlib.Core.List.{List, [], ◌∷◌}
use Rattle.std.specs.Prelude.{Option, None, Some, Result}
use Prim.Native.Nat.{ℕ, suc, ◌+◌, ◌-◌, ◌≤◌, ◌<◌}
use native.Mathlib.Omega.{arith}
use lib.ListN.{length, get_or, drop}
use lib.Seq.{get_or-drop}
use lib.Dec.{eqb, ltb, leb}
use borrow.Author.Tests.{ltb-false, leb-true, not-false, le-ltb, ne_eqb, le-leb}
use Rattle.matching.specs.declared.span.Span as Code
use Rattle.matching.specs.Position.{starts_by, match_by, match_string, bytes_of}
use Rattle.matching.proofs.Starts.{From, from_fails, from_end}
use Rattle.reading.specs.Pest as Pest
use Rattle.engine.specs.declared.stack.Stack.{Stack}
use Rattle.engine.specs.declared.stack.Unpopped.{Unpopped}
use Rattle.reading.specs.declared.parser_state.Cause.TheVariants.{StackFull}
use Rattle.reading.specs.Ending.{Ending, Ok, Err, Stop, stop_if, Span, Checkpoint}
use Rattle.reading.specs.Reading.{debt}
use Rattle.reading.specs.Pest.{ParserState, set_position, set_stack, pop, as_str, stack_match_pop}
use Rattle.engine.specs.Areas.{pairs, span, checkpoint, stack_of}
use Rattle.engine.specs.Bounded.{Take, got, taken, taken_from, take_of}
use Rattle.reading.specs.Sound.{Sound}
use Rattle.engine.specs.StackReady.{StackReady, OutsideStack}
use Rattle.reading.proofs.StackLaws.{pest}
use Rattle.engine.proofs.Regions.{pairs_length, stack_trans}
use Rattle.reading.proofs.SoundLaws.{sound_pop, lengths_pop}
use Rattle.engine.proofs.ReadyLaws.{ready_after}
use Rattle.engine.proofs.Matching.{match_string_same}

-- ── What a pop that was allowed says ──
pub record Took (v w : Pest.Stack) (x : Span) : Type 0 where
  pub cache : v.cache ≡ x ∷ w.cache
  pub is : w ≡ pop x w.cache v
  pub owing : debt w.lengths ≤ 1024

pub pop_cache : (x : Span) (rest : List Span) (v : Pest.Stack) → (pop x rest v).cache ≡ rest
pop_cache x rest v = go v.lengths
  where
    pick : (b : Bool) (k : Checkpoint) (ks : List Checkpoint)
        → (if b then pest rest (x ∷ v.popped) (checkpoint k.height (k.lowest - 1) ∷ ks) else pest rest v.popped (k ∷ ks)).cache ≡ rest
    pick true k ks = refl
    pick false k ks = refl

    go : (ks : List Checkpoint) → (pop x rest (pest v.cache v.popped ks)).cache ≡ rest
    go [] = refl
    go (k ∷ ks) = pick (eqb (suc (length rest)) k.lowest) k ks

module _ (v w : Pest.Stack) (x : Span) where
  pub took : taken v ≡ got w x → Took v w x
  took e = go v.cache refl e
    where
      pick : (y : Span) (rest : List Span) → v.cache ≡ y ∷ rest → (b : Bool) → ltb 1024 (debt (pop y rest v).lengths) ≡ b
          → (if b then Take.full else got (pop y rest v) y) ≡ got w x → Took v w x
      pick y rest f true t e = let z : ◌≡◌ {A = ℕ} 0 1 = cc in absurd (omega arith)
      pick y rest f false t e =
          let ew : pop y rest v ≡ w = cc in
          let ey : y ≡ x = cc in
          let er : w.cache ≡ rest = ap (λ (u : Pest.Stack). u.cache) (sym ew) ∙ pop_cache y rest v in
          record {
            cache = f ∙ ap₂ (λ (z : Span) (l : List Span). z ∷ l) ey (sym er);
            is = sym ew ∙ ap₂ (λ (z : Span) (l : List Span). pop z l v) ey (sym er);
            owing = subst (λ (u : Pest.Stack). debt u.lengths ≤ 1024) ew (ltb-false 1024 (debt (pop y rest v).lengths) t);
          }

      go : (c : List Span) → v.cache ≡ c → taken_from c v ≡ got w x → Took v w x
      go [] f e = let z : ◌≡◌ {A = ℕ} 0 1 = cc in absurd (omega arith)
      go (y ∷ rest) f e = pick y rest f (ltb 1024 (debt (pop y rest v).lengths)) refl e

  pub took_sound : Took v w x → Sound v → Sound w
  took_sound t s =
      subst (λ (u : Pest.Stack). Sound u) (sym t.is) (sound_pop x w.cache v t.cache s
      (subst (λ (u : Pest.Stack). debt u.lengths ≤ 1024) t.is t.owing))

  pub took_lengths : Took v w x → length w.lengths ≡ length v.lengths
  took_lengths t = ap (λ (u : Pest.Stack). length u.lengths) t.is ∙ lengths_pop x w.cache v

-- ── One step of pest's loop ──
module _ (text : List ℕ) (v : Pest.Stack) (line p : ℕ) (m : ParserState) where
  pub step_empty : v.cache ≡ [] → Ok (set_position p (set_stack v m)) ≡ stack_match_pop text true line v.cache p (set_stack v m)
  step_empty e = rw e

  pub step_full : (v.cache ≡ [] → ⊥) → taken v ≡ Take.full
      → Stop (Pest.halted (StackFull line) m) ≡ stack_match_pop text true line v.cache p (set_stack v m)
  step_full n e = go v.cache n e
    where
      pick : (y : Span) (rest : List Span) (b : Bool) (k : Unit {0} → Ending ParserState) → (if b then Take.full else got (pop y rest v) y)
          ≡ Take.full → Stop (Pest.halted (StackFull line) m) ≡ stop_if b (Pest.halted (StackFull line) m) k
      pick y rest true k e = refl
      pick y rest false k e = let z : ◌≡◌ {A = ℕ} 0 1 = cc in absurd (omega arith)

      go : (c : List Span) → (c ≡ [] → ⊥) → taken_from c v ≡ Take.full
          → Stop (Pest.halted (StackFull line) m) ≡ stack_match_pop text true line c p (set_stack v m)
      go [] n e = absurd (n refl)
      go (y ∷ rest) n e = pick y rest (ltb 1024 (debt (pop y rest v).lengths))
          (λ _. elim (Pest.match_string text (as_str text y) p)
          [ None ↦ Err (set_stack (pop y rest v) m) | Some q ↦ stack_match_pop text true line rest q (set_stack (pop y rest v) m) ]) e

  module _ (w : Pest.Stack) (x : Span) (t : Took v w x) where
    -- pest's step at a pop that the debt allows
    step : stack_match_pop text true line v.cache p (set_stack v m)
        ≡ elim (Pest.match_string text (as_str text x) p)
        [ None ↦ Err (set_stack w m) | Some q ↦ stack_match_pop text true line w.cache q (set_stack w m) ]
    step =
        let d : ltb 1024 (debt (pop x w.cache v).lengths) ≡ false =
        subst (λ (u : Pest.Stack). ltb 1024 (debt u.lengths) ≡ false) t.is (le-ltb 1024 (debt w.lengths) t.owing) in
        ap (λ (c : List Span). stack_match_pop text true line c p (set_stack v m)) t.cache
        ∙ pick (ltb 1024 (debt (pop x w.cache v).lengths)) d
        ∙ ap (λ (u : Pest.Stack). after u) (sym t.is)
      where
        after : Pest.Stack → Ending ParserState
        after u = elim (Pest.match_string text (as_str text x) p)
            [ None ↦ Err (set_stack u m) | Some q ↦ stack_match_pop text true line w.cache q (set_stack u m) ]

        pick : (b : Bool) → b ≡ false → stop_if b (Pest.halted (StackFull line) m) (λ _. after (pop x w.cache v)) ≡ after (pop x w.cache v)
        pick b e = rw e

    pub step_some : (q : ℕ) → Pest.match_string text (as_str text x) p ≡ Some q
        → stack_match_pop text true line w.cache q (set_stack w m) ≡ stack_match_pop text true line v.cache p (set_stack v m)
    step_some q e = sym (step ∙ go (Pest.match_string text (as_str text x) p) e)
      where
        go : (o : Option ℕ) → o ≡ Some q
            → ◌≡◌ {A = Ending ParserState} (elim o
            [ None ↦ Err (set_stack w m) | Some r ↦ stack_match_pop text true line w.cache r (set_stack w m) ])
            (stack_match_pop text true line w.cache q (set_stack w m))
        go o e = rw e

    pub step_none : Pest.match_string text (as_str text x) p ≡ None → Err (set_stack w m) ≡ stack_match_pop text true line v.cache p (set_stack v m)
    step_none e = sym (step ∙ go (Pest.match_string text (as_str text x) p) e)
      where
        go : (o : Option ℕ) → o ≡ None → ◌≡◌ {A = Ending ParserState} (elim o
            [ None ↦ Err (set_stack w m) | Some r ↦ stack_match_pop text true line w.cache r (set_stack w m) ]) (Err (set_stack w m))
        go o e = rw e

-- ── The bytes of one entry, compared ──
-- A loop over `bytes`, at the position p of the text.
module _ (text bytes : List ℕ) (p : ℕ) where
  module _ (room : Bool) (e : room ≡ leb (p + length bytes) (length text)) where
    pub bytes_fit : not room ≡ false → p + length bytes ≤ length text
    bytes_fit h = leb-true (p + length bytes) (length text) (sym e ∙ not-false room h)

  module _ (i : ℕ) (f : From eqb bytes (drop p text) i) where
    pub bytes_differ : p + length bytes ≤ length text → i < length bytes → (get_or text (p + i) 0 ≡ get_or bytes i 0 → ⊥)
        → match_string text bytes p ≡ None
    unfolding match_by
    bytes_differ l h n =
        let t : false ≡ starts_by eqb bytes (drop p text) =
        from_fails eqb bytes (drop p text) i f h (ne_eqb _ _ (λ e. n (sym (get_or-drop p text i 0) ∙ sym e))) in
        rw (le-leb p (length text) (omega (arith, l)), ← t)

    pub bytes_all : p + length bytes ≤ length text → length bytes ≤ i → match_string text bytes p ≡ Some (p + length bytes)
    unfolding match_by
    bytes_all l h =
        let t : true ≡ starts_by eqb bytes (drop p text) = from_end eqb bytes (drop p text) i f h in
        rw (le-leb p (length text) (omega (arith, l)), ← t)

-- ── The loop over the entries ──
-- From scratch a, the stack s and the position p on, pest's answer is the one from the start on.
pub record Going (text a₀ : List ℕ) (s₀ : Stack) (p₀ : ℕ) (a : List ℕ) (s : Stack) (p : ℕ) : Type 0 where
  pub ready : StackReady a s
  pub frame : OutsideStack a₀ a
  pub rest : (line : ℕ) (m : ParserState)
      → stack_match_pop text true line (stack_of a s).cache p (set_stack (stack_of a s) m)
      ≡ stack_match_pop text true line (stack_of a₀ s₀).cache p₀ (set_stack (stack_of a₀ s₀) m)

module _ {text a₀ : List ℕ} {s₀ : Stack} {p₀ : ℕ} {a : List ℕ} {s : Stack} {p : ℕ} (g : Going text a₀ s₀ p₀ a s p) where
  -- No entry is left: all matched.
  pub going_empty : s.height ≡ 0
      → (line : ℕ) (m : ParserState) → Ok (set_position p (set_stack (stack_of a s) m))
      ≡ stack_match_pop text true line (stack_of a₀ s₀).cache p₀ (set_stack (stack_of a₀ s₀) m)
  unfolding pairs
  going_empty h line m = let z : (stack_of a s).cache ≡ [] = rw h in step_empty text (stack_of a s) line p m z ∙ g.rest line m

  module _ (hz : s.height ≡ 0 → ⊥) {a' : List ℕ} (r : Result (Stack × Code.Span) Unpopped) (e : (take_of a' r ≡ taken (stack_of a s))
      × OutsideStack a a') where
    some_entry : (stack_of a s).cache ≡ [] → ⊥
    some_entry z = hz (sym (pairs_length span a 0 s.height) ∙ ap length z)

    -- The pop found no room.
    pub going_full : ((y : Stack × Code.Span) → r ≡ Result.Ok y → ⊥)
        → (line : ℕ) (m : ParserState) → Stop (Pest.halted (StackFull line) m) ≡ stack_match_pop text true line (stack_of a₀ s₀).cache p₀
        (set_stack (stack_of a₀ s₀) m)
    going_full n line m = step_full text (stack_of a s) line p m some_entry (go r n e.0) ∙ g.rest line m
      where
        not_empty : (c : List Span) → (c ≡ [] → ⊥) → Take.empty ≡ taken_from c (stack_of a s) → ⊥
        not_empty [] n q = n refl
        not_empty (y ∷ rest) n q = pick (ltb 1024 (debt (pop y rest (stack_of a s)).lengths)) (pop y rest (stack_of a s)) q
          where
            pick : (b : Bool) (v : Pest.Stack) → Take.empty ≡ (if b then Take.full else got v y) → ⊥
            pick true v q = let z : ◌≡◌ {A = ℕ} 0 1 = cc in omega arith
            pick false v q = let z : ◌≡◌ {A = ℕ} 0 1 = cc in omega arith

        go : (r : Result (Stack × Code.Span) Unpopped) → ((y : Stack × Code.Span) → r ≡ Result.Ok y → ⊥)
            → take_of a' r ≡ taken (stack_of a s) → taken (stack_of a s) ≡ Take.full
        go (Result.Ok y) n q = absurd (n y refl)
        go (Result.Err Unpopped.Empty) n q = absurd (not_empty (stack_of a s).cache some_entry q)
        go (Result.Err Unpopped.Full) n q = sym q

    module _ {u : Stack} {x : Code.Span} (f : r ≡ Result.Ok (u, x)) where
      took_here : Took (stack_of a s) (stack_of a' u) (span x.start.0 x.end.0)
      took_here = took (stack_of a s) (stack_of a' u) (span x.start.0 x.end.0) (sym (rw f at e.0))

      pub going_height : u.height < s.height
      going_height = omega (arith, ap length took_here.cache, pairs_length span a 0 s.height, pairs_length span a' 0 u.height)

      ready_here : StackReady a' u
      ready_here =
          ready_after a a' u (stack_of a' u) g.ready.room e.1 refl
          (took_sound (stack_of a s) (stack_of a' u) (span x.start.0 x.end.0) took_here g.ready.sound)
          (omega (
            arith,
            took_lengths (stack_of a s) (stack_of a' u) (span x.start.0 x.end.0) took_here,
            pairs_length checkpoint a 2816 s.checkpoints,
            g.ready.few,
          ))

      module _ {bytes : List ℕ} (eb : bytes ≡ bytes_of text x.start.0 x.end.0) where
        -- The entry matched.
        pub going_more : match_string text bytes p ≡ Some (p + length bytes) → Going text a₀ s₀ p₀ a' u (p + length bytes)
        going_more h = record {
          ready = ready_here;
          frame = stack_trans g.frame e.1;
          rest = λ line m.
              step_some text (stack_of a s) line p m (stack_of a' u) (span x.start.0 x.end.0) took_here (p + length bytes)
              (ap (λ (b : List ℕ). Pest.match_string text b p) (sym eb) ∙ match_string_same text bytes p ∙ h)
              ∙ g.rest line m;
        }

        -- It did not: popped entries are gone.
        pub going_failed : match_string text bytes p ≡ None
            → (line : ℕ) (m : ParserState) →
            Err (set_stack (stack_of a' u) m) ≡ stack_match_pop text true line (stack_of a₀ s₀).cache p₀ (set_stack (stack_of a₀ s₀) m)
        going_failed h line m =
            step_none text (stack_of a s) line p m (stack_of a' u) (span x.start.0 x.end.0) took_here
            (ap (λ (b : List ℕ). Pest.match_string text b p) (sym eb) ∙ match_string_same text bytes p ∙ h)
            ∙ g.rest line m
