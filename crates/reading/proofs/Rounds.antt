-- No loop of pest's uses up its rounds, in any run of an accepted grammar, also in one that document 01 stops: whatever two loops answer
-- to rounds that are used up, both evaluations end alike. One pass over pest with no bounds: the position goes on from edge to edge, and a
-- tree that may not stand still moves on Ok, so each round comes nearer to the end of the text.
use Rattle.std.specs.Prelude.{if◌then◌else◌}
use mathlib.Core.Path.{◌≡◌, refl, subst}
use mathlib.Core.Bool.{Bool, true, false, ◌&&◌, ◌||◌, not}
use mathlib.Core.Logic.{◌⊎◌, inl, inr}
use mathlib.Core.List.{List, [], ◌∷◌, ◌++◌}
use Rattle.std.specs.Prelude.{Option, None, Some}
use Prim.Native.Nat.{ℕ, zero, suc, ◌-◌, ◌≤◌, ◌<◌}
use native.Mathlib.Omega.{arith}
use lib.IntN.{ℤ}
use lib.ListN.{length, take, set, get_or}
use lib.Dec.{eqb, ltb, leb}
use Rattle.matching.specs.Utf8.{Utf8, Edge, within}
use Rattle.matching.specs.Position.{same_folded}
use Rattle.matching.proofs.Forward.{Found, found, string_forward, char_forward, skip_forward}
use Rattle.matching.proofs.Edges.{Lands, lands_not, lands, string_lands, char_lands, skip_lands, span_whole, eqb_keeps, folded_keeps}
use Rattle.reading.specs.declared.parser_state.Atomicity.{Atomicity}
use Rattle.reading.specs.Ending.{Halted, Ending, Ok, Err, Stop, on_ok, on_err, Span, is_negative, is_none, is_atomic}
use Rattle.reading.specs.Grammar as Grammar
use Rattle.reading.specs.Grammar.{Exp, RuleLine}
use Rattle.reading.specs.Reading.{Setting, most_rounds}
use Rattle.reading.specs.Pest as Pest
use Rattle.reading.specs.Pest.{ParserState, Stack, Entered}
use Rattle.reading.specs.Fit.{Entries}
use Rattle.reading.proofs.Matchers.{string_same, folded_same, range_same, skip_same}
use Rattle.reading.proofs.Trees.{Literals, still, Steady}
use Rattle.reading.proofs.Invariant.{Whole, whole_pop, whole_clear, whole_restore, slice_entries, Tested, not-true, and-false, or_left}
use Rattle.reading.proofs.Invariant.{or_right, entry_lands, all_land, cache_of_pop, zero_or_more}

-- ── What an evaluation leaves ──
-- The position is an edge, and the stack's entries are whole characters.
pub record Loose (text : List ℕ) (p : ℕ) (v : Stack) : Type 0 where
  pub edge : Edge text p
  pub whole : Whole text v

abbrev pub Free : Setting → ParserState → Type 0
Free g m = Loose g.text m.position m.stack

-- The same of a place q that an evaluation came to from p; `b`: it may stand still.
pub record On (g : Setting) (b : Bool) (p q : ℕ) (v : Stack) : Type 0 where
  pub free : Loose g.text q v
  pub forward : p ≤ q
  pub moved : b ≡ false → p < q

-- Two evaluations that began at p end alike.
pub data Alike (g : Setting) (b : Bool) (p : ℕ) : Ending ParserState → Ending ParserState → Type 0 where
  alike_ok : (n : ParserState) → On g b p n.position n.stack → Alike g b p (Ok n) (Ok n)
  alike_err : (n : ParserState) → On g true p n.position n.stack → Alike g b p (Err n) (Err n)
  alike_stop : (h : Halted) → Alike g b p (Stop h) (Stop h)

pub alike_is : {g : Setting} {b : Bool} {p : ℕ} {r s : Ending ParserState} → Alike g b p r s → r ≡ s
alike_is (alike_ok n x) = refl
alike_is (alike_err n x) = refl
alike_is (alike_stop c) = refl

abbrev pub AlikeFrom : Setting → Bool → (f h : ParserState → Ending ParserState) → Type 0
AlikeFrom g b f h = (m : ParserState) → Free g m → Alike g b m.position (f m) (h m)

-- ── Tracking changes nothing but the attempts ──
module _ (P : ℕ → Stack → Type 0) where
  abbrev At : ParserState → Type 0
  At m = P m.position m.stack

  either : (b : Bool) (n k : ParserState) → At n → At k → At (if b then n else k)
  either true n k x y = x
  either false n k x y = y

  track_at : (r p pi ni prev : ℕ) (m : ParserState) → At m → At (Pest.track r p pi ni prev m)
  track_at r p pi ni prev m x =
      let t : ParserState = Pest.truncate_attempts p pi ni m in
      let a : ParserState = Pest.advance_attempts p t in
      let n : ParserState = Pest.push_attempt r p a in
      let c : Bool = ltb prev (Pest.attempts_at p m) && eqb (Pest.attempts_at p m - prev) 1 in
      either (is_atomic m.atomicity) m (if c then m else n) x (either c m n x (pushes a (advances t (truncates m x))))
    where
      truncates : (m : ParserState) → At m → At (Pest.truncate_attempts p pi ni m)
      truncates m x = either (eqb p m.attempt_pos) (Pest.set_attempts m.attempt_pos (take pi m.pos_attempts) (take ni m.neg_attempts) m) m x x

      advances : (m : ParserState) → At m → At (Pest.advance_attempts p m)
      advances m x = either (ltb m.attempt_pos p) (Pest.set_attempts p [] [] m) m x x

      pushes : (m : ParserState) → At m → At (Pest.push_attempt r p m)
      pushes m x =
          let u : ParserState = Pest.set_attempts m.attempt_pos (m.pos_attempts ++ (r ∷ [])) m.neg_attempts m in
          let v : ParserState = Pest.set_attempts m.attempt_pos m.pos_attempts (m.neg_attempts ++ (r ∷ [])) m in
          let c : Bool = not (is_negative m.lookahead) in
          either (eqb p m.attempt_pos) (if c then u else v) m (either c u v x x) x

module _ (g : Setting) where
  -- ── From one state to a later one ──
  stay : {q : ℕ} {v : Stack} → Loose g.text q v → On g true q q v
  stay x = record { free = x; forward = omega arith; moved = not-true }

  errs : {b : Bool} {p q : ℕ} {v : Stack} → On g b p q v → On g true p q v
  errs x = record { free = x.free; forward = x.forward; moved = not-true }

  -- What follows a state that an evaluation left, seen from that evaluation's start.
  later : {b c a : Bool} {p : ℕ} (n : ParserState) → On g a p n.position n.stack → (c ≡ false → (p < n.position) ⊎ (b ≡ false))
      → (r s : Ending ParserState) → Alike g b n.position r s → Alike g c p r s
  later {b} {c} {a} {p} n x h r s (alike_ok k y) =
      alike_ok k (record { free = y.free; forward = omega (arith, x.forward, y.forward); moved = λ (e : c ≡ false). go (h e) })
    where
      go : (p < n.position) ⊎ (b ≡ false) → p < k.position
      go (inl j) = omega (arith, y.forward)
      go (inr j) = omega (arith, x.forward, y.moved j)
  later n x h r s (alike_err k y) = alike_err k (record { free = y.free; forward = omega (arith, x.forward, y.forward); moved = not-true })
  later n x h r s (alike_stop c) = alike_stop c

  -- ── Kinds 6 and 7 ──
  module _ (a b : Bool) (f f' h h' : ParserState → Ending ParserState) (k : AlikeFrom g a f f') (l : AlikeFrom g b h h') where
    and_alike : AlikeFrom g (a && b) (λ m. on_ok (f m) (λ n. h n)) (λ m. on_ok (f' m) (λ n. h' n))
    and_alike m x = go (f m) (f' m) (k m x)
      where
        go : (r s : Ending ParserState) → Alike g a m.position r s → Alike g (a && b) m.position (on_ok r (λ n. h n)) (on_ok s (λ n. h' n))
        go r s (alike_ok n y) = later n y (λ e. turn (and-false g a b e)) (h n) (h' n) (l n y.free)
          where
            turn : (a ≡ false) ⊎ (b ≡ false) → (m.position < n.position) ⊎ (b ≡ false)
            turn (inl e) = inl (y.moved e)
            turn (inr e) = inr e
        go r s (alike_err n y) = alike_err n y
        go r s (alike_stop c) = alike_stop c

    or_alike : AlikeFrom g (a || b) (λ m. on_err (f m) (λ n. h n)) (λ m. on_err (f' m) (λ n. h' n))
    or_alike m x = go (f m) (f' m) (k m x)
      where
        go : (r s : Ending ParserState) → Alike g a m.position r s → Alike g (a || b) m.position (on_err r (λ n. h n)) (on_err s (λ n. h' n))
        go r s (alike_ok n y) = alike_ok n (record { free = y.free; forward = y.forward; moved = λ e. y.moved (or_left g a b e) })
        go r s (alike_err n y) = later n y (λ e. inr (or_right g a b e)) (h n) (h' n) (l n y.free)
        go r s (alike_stop c) = alike_stop c

  -- ── A match, or none ──
  moved_alike : (b : Bool) (least : ℕ) (m : ParserState) → Free g m → (x : Option ℕ) → Lands g.text m.position x
      → Found (length g.text) m.position least x
      → (b ≡ false → 1 ≤ least) → Alike g b m.position (Pest.moved x m) (Pest.moved x m)
  moved_alike b least m y x lands_not f h = alike_err m (stay y)
  moved_alike b least m y x (lands q k e) (found q' f) h =
      alike_ok (Pest.set_position q m) (record {
        free = record { edge = e; whole = y.whole };
        forward = k;
        moved = λ (i : b ≡ false). omega (arith, f.far, h i);
      })

  landed_alike : (m : ParserState) → Free g m → (x : Option ℕ) → Lands g.text m.position x → Alike g true m.position (Pest.moved x m) (Pest.moved x m)
  landed_alike m y x lands_not = alike_err m (stay y)
  landed_alike m y x (lands q k e) = alike_ok (Pest.set_position q m)
      (record { free = record { edge = e; whole = y.whole }; forward = k; moved = not-true })

  end_alike : AlikeFrom g true (λ m. if Pest.at_end g.text m.position then Ok m else Err m) (λ m. if Pest.at_end g.text m.position
      then Ok m else Err m)
  end_alike m x = go (Pest.at_end g.text m.position)
    where
      go : (b : Bool) → Alike g true m.position (if b then Ok m else Err m) (if b then Ok m else Err m)
      go true = alike_ok m (stay x)
      go false = alike_err m (stay x)

  tag_alike : (u : ℕ) → AlikeFrom g true (λ m. Pest.tag_node u m) (λ m. Pest.tag_node u m)
  tag_alike u m x = go (not (is_none m.lookahead))
    where
      n : ParserState
      n = Pest.set_queue (Pest.tag_last u m.queue) m

      go : (b : Bool) → Alike g true m.position (if b then Ok m else Ok n) (if b then Ok m else Ok n)
      go true = alike_ok m (stay x)
      go false = alike_ok n (stay x)

  -- ── Entering ──
  entering_alike : (room counts b : Bool) (f h : ParserState → Ending ParserState) → AlikeFrom g b f h
      → AlikeFrom g b (λ m. Pest.check_limit room counts m f) (λ m. Pest.check_limit room counts m h)
  entering_alike room counts b f h k m x = go (Pest.enter room counts m.call_tracker)
    where
      go : (e : Entered) → Alike g b m.position (elim e.answer
          [ false ↦ Err (Pest.set_call_tracker e.tracker m) | true ↦ f (Pest.set_call_tracker e.tracker m) ]) (elim e.answer
          [ false ↦ Err (Pest.set_call_tracker e.tracker m) | true ↦ h (Pest.set_call_tracker e.tracker m) ])
      go e = pick e.answer
        where
          n : ParserState
          n = Pest.set_call_tracker e.tracker m

          pick : (y : Bool) → Alike g b m.position (elim y [ false ↦ Err n | true ↦ f n ]) (elim y [ false ↦ Err n | true ↦ h n ])
          pick true = k n x
          pick false = alike_err n (stay x)

  -- ── Checkpoints ──
  snapshot_free : (m : ParserState) → Free g m → Free g (Pest.checkpoint m)
  snapshot_free m x = record { edge = x.edge; whole = record { cache = x.whole.cache; popped = x.whole.popped } }

  cleared_on : {b : Bool} {p : ℕ} (n : ParserState) → On g b p n.position n.stack → On g b p n.position (Pest.clear_snapshot n.stack)
  cleared_on n y = record {
    free = record {
      edge = y.free.edge;
      whole = whole_clear g.text n.stack.cache n.stack.popped n.stack.lengths y.free.whole.cache
          y.free.whole.popped;
    };
    forward = y.forward;
    moved = y.moved;
  }

  -- The stack restored, at an edge q.
  restored_free : (n : ParserState) → Free g n → (q : ℕ) → Edge g.text q → Loose g.text q (Pest.restore n.stack)
  restored_free n y q e = record { edge = e; whole = whole_restore g.text n.stack.cache n.stack.popped n.stack.lengths y.whole.cache y.whole.popped }

  sequence_alike : (b : Bool) (f h : ParserState → Ending ParserState) → AlikeFrom g b f h
      → AlikeFrom g b (λ m. Pest.sequence f m) (λ m. Pest.sequence h m)
  sequence_alike b f h k m x = go _ _ (k (Pest.checkpoint m) (snapshot_free m x))
    where
      go : (r s : Ending ParserState) → Alike g b m.position r s
          → Alike g b m.position (Pest.sequence_end (length m.queue) m.position r) (Pest.sequence_end (length m.queue) m.position s)
      go r s (alike_ok n y) = alike_ok (Pest.checkpoint_ok n) (cleared_on n y)
      go r s (alike_err n y) =
          alike_err (Pest.restored (Pest.set_queue (take (length m.queue) n.queue) (Pest.set_position m.position n)))
          (stay (restored_free n y.free m.position x.edge))
      go r s (alike_stop c) = alike_stop c

  restore_alike : (b : Bool) (f h : ParserState → Ending ParserState) → AlikeFrom g b f h
      → AlikeFrom g b (λ m. Pest.restore_on_err f m) (λ m. Pest.restore_on_err h m)
  restore_alike b f h k m x = go _ _ (k (Pest.checkpoint m) (snapshot_free m x))
    where
      go : (r s : Ending ParserState) → Alike g b m.position r s → Alike g b m.position (Pest.restore_on_err_end r) (Pest.restore_on_err_end s)
      go r s (alike_ok n y) = alike_ok (Pest.checkpoint_ok n) (cleared_on n y)
      go r s (alike_err n y) = alike_err (Pest.restored n) (record {
        free = restored_free n y.free n.position y.free.edge;
        forward = y.forward;
        moved = not-true;
      })
      go r s (alike_stop c) = alike_stop c

  -- ── Kinds 10 and 11 ──
  forgiven : {a : Bool} {p : ℕ} (c : Bool) (n : ParserState) → On g a p n.position n.stack
      → Alike g true p (if c then Err n else Ok n) (if c then Err n else Ok n)
  forgiven true n y = alike_err n (errs y)
  forgiven false n y = alike_ok n (errs y)

  optional_alike : (b : Bool) (f h : ParserState → Ending ParserState) → AlikeFrom g b f h
      → AlikeFrom g true (λ m. Pest.optional (f m)) (λ m. Pest.optional (h m))
  optional_alike b f h k m x = go _ _ (k m x)
    where
      go : (r s : Ending ParserState) → Alike g b m.position r s → Alike g true m.position (Pest.optional r) (Pest.optional s)
      go r s (alike_ok n y) = alike_ok n (errs y)
      go r s (alike_err n y) = forgiven (Pest.limit_reached n) n y
      go r s (alike_stop c) = alike_stop c

  -- As many rounds as there are bytes left, and one: then neither `spent` is come to.
  pub loop_alike : (spent spent' : ParserState → Ending ParserState) (f h : ParserState → Ending ParserState) → AlikeFrom g false f h
      → (n : ℕ) (m : ParserState) → Free g m → length g.text - m.position < n
      → Alike g true m.position (Pest.loop spent n f m) (Pest.loop spent' n h m)
  loop_alike spent spent' f h k zero m x l = absurd (omega arith)
  loop_alike spent spent' f h k (suc n) m x l = go (f m) (h m) (k m x) (loop_alike spent spent' f h k n)
    where
      go : (r s : Ending ParserState) → Alike g false m.position r s
          → ((t : ParserState) → Free g t → length g.text - t.position < n → Alike g true t.position (Pest.loop spent n f t) (Pest.loop spent' n h t))
          → Alike g true m.position (Pest.round_end r (λ t. Pest.loop spent n f t)) (Pest.round_end s (λ t. Pest.loop spent' n h t))
      go r s (alike_ok t y) ih = later t y (λ (e : true ≡ false). not-true e) _ _ (ih t y.free (omega (arith, y.moved refl, y.free.edge.inside)))
      go r s (alike_err t y) ih = forgiven (Pest.limit_reached t) t y
      go r s (alike_stop c) ih = alike_stop c

  -- ── Kind 12 ──
  lookahead_alike : (positive b : Bool) (f h : ParserState → Ending ParserState) → AlikeFrom g b f h
      → AlikeFrom g true (λ m. Pest.lookahead positive f m) (λ m. Pest.lookahead positive h m)
  lookahead_alike positive b f h k m x = go _ _ (k (Pest.checkpoint (Pest.set_lookahead (Pest.lookahead_in positive m.lookahead) m))
      (snapshot_free m x))
    where
      back : ParserState → ParserState
      back n = Pest.restored (Pest.set_lookahead m.lookahead (Pest.set_position m.position n))

      out : (n : ParserState) → On g true m.position n.position n.stack → (c d : Bool)
          → Alike g true m.position (if c then Err n else if d then Ok n else Err n) (if c then Err n else if d then Ok n else Err n)
      out n y true d = alike_err n y
      out n y false true = alike_ok n y
      out n y false false = alike_err n y

      swapped : (n : ParserState) → On g true m.position n.position n.stack → (c d : Bool)
          → Alike g true m.position (if c then Err n else if d then Err n else Ok n) (if c then Err n else if d then Err n else Ok n)
      swapped n y true d = alike_err n y
      swapped n y false true = alike_err n y
      swapped n y false false = alike_ok n y

      go : (r s : Ending ParserState) → Alike g b m.position r s
          → Alike g true m.position (Pest.lookahead_end positive m.lookahead m.position r) (Pest.lookahead_end positive m.lookahead m.position s)
      go r s (alike_ok n y) = out (back n) (stay (restored_free n y.free m.position x.edge)) (Pest.limit_reached (back n)) positive
      go r s (alike_err n y) = swapped (back n) (stay (restored_free n y.free m.position x.edge)) (Pest.limit_reached (back n)) positive
      go r s (alike_stop c) = alike_stop c

  -- ── Kind 13 ──
  atomic_alike : (a : Atomicity) (b : Bool) (f h : ParserState → Ending ParserState) → AlikeFrom g b f h
      → AlikeFrom g b (λ m. Pest.atomic a f m) (λ m. Pest.atomic a h m)
  atomic_alike a b f h k m x = go (not (Pest.same_atomicity m.atomicity a))
    where
      ends : (t : Bool) (r s : Ending ParserState) → Alike g b m.position r s
          → Alike g b m.position (Pest.atomic_end t m.atomicity r) (Pest.atomic_end t m.atomicity s)
      ends true r s (alike_ok n y) = alike_ok (Pest.set_atomicity m.atomicity n) y
      ends true r s (alike_err n y) = alike_err (Pest.set_atomicity m.atomicity n) y
      ends true r s (alike_stop c) = alike_stop c
      ends false r s (alike_ok n y) = alike_ok n y
      ends false r s (alike_err n y) = alike_err n y
      ends false r s (alike_stop c) = alike_stop c

      go : (t : Bool) → Alike g b m.position (Pest.atomic_end t m.atomicity (f (Pest.toggle t a m)))
          (Pest.atomic_end t m.atomicity (h (Pest.toggle t a m)))
      go true = ends true _ _ (k (Pest.set_atomicity a m) x)
      go false = ends false _ _ (k m x)

  -- ── Kinds 14 to 17 ──
  push_alike : (line : ℕ) (b : Bool) (f h : ParserState → Ending ParserState) → AlikeFrom g b f h
      → AlikeFrom g b (λ m. Pest.stack_push g.text false line f m) (λ m. Pest.stack_push g.text false line h m)
  push_alike line b f h k m x = go _ _ (k m x)
    where
      go : (r s : Ending ParserState) → Alike g b m.position r s
          → Alike g b m.position (Pest.push_end g.text false line m.position r) (Pest.push_end g.text false line m.position s)
      go r s (alike_ok n y) = alike_ok (Pest.set_stack (Pest.push (record { start = m.position; end = n.position }) n.stack) n) (record {
        free = record {
          edge = y.free.edge;
          whole = record {
            cache = (
              span_whole g.text m.position n.position y.forward x.edge y.free.edge,
              y.free.whole.cache,
            );
            popped = y.free.whole.popped;
          };
        };
        forward = y.forward;
        moved = y.moved;
      })
      go r s (alike_err n y) = alike_err n y
      go r s (alike_stop c) = alike_stop c

  popped_free : (v : Span) (rest : List Span) (m : ParserState) → m.stack.cache ≡ v ∷ rest → Free g m
      → Free g (Pest.set_stack (Pest.pop v rest m.stack) m)
  popped_free v rest m e x =
      let u : Entries g.text (v ∷ rest) = subst (Entries g.text) e x.whole.cache in
      record { edge = x.edge; whole = whole_pop g.text v rest m.stack.popped m.stack.lengths u.0 u.1 x.whole.popped }

  pop_alike : (line : ℕ) → AlikeFrom g true (λ m. Pest.stack_pop g.text false line m.stack.cache m) (λ m.
      Pest.stack_pop g.text false line m.stack.cache m)
  pop_alike line m x = go m.stack.cache refl
    where
      go : (c : List Span) → m.stack.cache ≡ c → Alike g true m.position (Pest.stack_pop g.text false line c m) (Pest.stack_pop g.text false line c m)
      go [] e = alike_stop _
      go (v ∷ rest) e = landed_alike (Pest.set_stack (Pest.pop v rest m.stack) m) (popped_free v rest m e x) _
          (entry_lands g v (subst (Entries g.text) e x.whole.cache).0 m.position x.edge)

  -- `q`: the position after the entries that matched.
  match_pop_alike : (line : ℕ) (c : List Span) (m : ParserState) → m.stack.cache ≡ c → Free g m → (q : ℕ) → m.position ≤ q → Edge g.text q
      → Alike g true m.position (Pest.stack_match_pop g.text false line c q m) (Pest.stack_match_pop g.text false line c q m)
  match_pop_alike line [] m e x q i d = alike_ok (Pest.set_position q m)
      (record { free = record { edge = d; whole = x.whole }; forward = i; moved = not-true })
  match_pop_alike line (v ∷ rest) m e x q i d =
      go _ (entry_lands g v (subst (Entries g.text) e x.whole.cache).0 q d)
      (match_pop_alike line rest n (cache_of_pop g v rest m.stack) (popped_free v rest m e x))
    where
      n : ParserState
      n = Pest.set_stack (Pest.pop v rest m.stack) m

      go : (y : Option ℕ) → Lands g.text q y
          → ((r : ℕ) → n.position ≤ r → Edge g.text r
          → Alike g true n.position (Pest.stack_match_pop g.text false line rest r n) (Pest.stack_match_pop g.text false line rest r n))
          → Alike g true m.position (elim y [ None ↦ Err n | Some r ↦ Pest.stack_match_pop g.text false line rest r n ]) (elim y
          [ None ↦ Err n | Some r ↦ Pest.stack_match_pop g.text false line rest r n ])
      go y lands_not ih = alike_err n (stay (popped_free v rest m e x))
      go y (lands r k z) ih = ih r (omega arith) z

  peek_alike : (i : ℤ) (j : Option ℤ) (d : Bool)
      → AlikeFrom g true (λ m. Pest.stack_match_peek_slice g.text i j d m) (λ m. Pest.stack_match_peek_slice g.text i j d m)
  peek_alike i j d m x = first (Pest.normalize_index i (length m.stack.cache))
    where
      slice_at : (a z : ℕ) (b : Bool) → Ending ParserState
      slice_at a z b = elim b [ true ↦ Ok m | false ↦ Pest.moved (Pest.all_match g.text (Pest.slice a z d m.stack.cache) m.position) m ]

      third : (a z : ℕ) (b : Bool) → Alike g true m.position (slice_at a z b) (slice_at a z b)
      third a z true = alike_ok m (stay x)
      third a z false = landed_alike m x _ (all_land g (Pest.slice a z d m.stack.cache)
          (slice_entries g.text a z d m.stack.cache x.whole.cache) m.position x.edge)

      end_at : (a : ℕ) (y : Option ℕ) → Ending ParserState
      end_at a y = elim y [ None ↦ Err m | Some z ↦ slice_at a z (leb z a) ]

      second : (a : ℕ) (y : Option ℕ) → Alike g true m.position (end_at a y) (end_at a y)
      second a None = alike_err m (stay x)
      second a (Some z) = third a z (leb z a)

      start_at : (y : Option ℕ) → Ending ParserState
      start_at y = elim y [ None ↦ Err m | Some a ↦ end_at a (Pest.normalize_end j (length m.stack.cache)) ]

      first : (y : Option ℕ) → Alike g true m.position (start_at y) (start_at y)
      first None = alike_err m (stay x)
      first (Some a) = second a (Pest.normalize_end j (length m.stack.cache))

  -- ── Kind 8 ──
  tracking_alike : {b : Bool} {q : ℕ} (c : Bool) (due : Bool) (line r p pi ni prev : ℕ) (k : ParserState
      → Ending ParserState) (n : ParserState) → On g c q n.position n.stack
      → ((t : ParserState) → On g c q t.position t.stack → Alike g b q (k t) (k t))
      → Alike g b q (Pest.tracking g false due line r p pi ni prev n k) (Pest.tracking g false due line r p pi ni prev n k)
  tracking_alike {b} {q} c due line r p pi ni prev k n y h = go (due && not (is_atomic n.atomicity))
    where
      t : ParserState
      t = Pest.track r p pi ni prev n

      go : (d : Bool) → Alike g b q (elim d [ false ↦ k n | true ↦ k t ]) (elim d [ false ↦ k n | true ↦ k t ])
      go false = h n y
      go true = h t (track_at (On g c q) r p pi ni prev n y)

  close_alike : {b : Bool} {p : ℕ} (line r index : ℕ) (n : ParserState) → On g b p n.position n.stack
      → Alike g b p (Pest.close_rule g false line r index n) (Pest.close_rule g false line r index n)
  close_alike {b} {p} line r index n y = go (Pest.produces n)
    where
      k : ParserState
      k = Pest.set_queue (set n.queue index (Pest.with_end (length n.queue) (get_or n.queue index (Pest.Start 0 0)))
          ++ (Pest.End index r 0 n.position ∷ [])) n

      go : (c : Bool) → Alike g b p (elim c [ false ↦ Ok n | true ↦ Ok k ]) (elim c [ false ↦ Ok n | true ↦ Ok k ])
      go false = alike_ok n y
      go true = alike_ok k y

  rule_alike : (line r : ℕ) (b : Bool) (f h : ParserState → Ending ParserState) → AlikeFrom g b f h
      → AlikeFrom g b (λ m. Pest.rule g false line r f m) (λ m. Pest.rule g false line r h m)
  rule_alike line r b f h k m x = go (Pest.produces m)
    where
      pi : ℕ
      pi = if eqb m.position m.attempt_pos then length m.pos_attempts else 0

      ni : ℕ
      ni = if eqb m.position m.attempt_pos then length m.neg_attempts else 0

      index : ℕ
      index = length m.queue

      cut : (t : ParserState) → On g true m.position t.position t.stack → (c : Bool)
          → Alike g b m.position (Err (if c then Pest.set_queue (take index t.queue) t else t))
          (Err (if c then Pest.set_queue (take index t.queue) t else t))
      cut t y true = alike_err (Pest.set_queue (take index t.queue) t) y
      cut t y false = alike_err t y

      ends : (prev : ℕ) (u v : Ending ParserState) → Alike g b m.position u v
          → Alike g b m.position (Pest.rule_end g false line r m.position index pi ni prev u)
          (Pest.rule_end g false line r m.position index pi ni prev v)
      ends prev u v (alike_ok n y) = tracking_alike b (is_negative n.lookahead) line r m.position pi ni prev (λ t.
          Pest.close_rule g false line r index t) n y (λ t z. close_alike line r index t z)
      ends prev u v (alike_err n y) = tracking_alike true (not (is_negative n.lookahead)) line r m.position pi ni prev (λ t.
          Err (if Pest.produces t then Pest.set_queue (take index t.queue) t else t)) n y (λ t z. cut t z (Pest.produces t))
      ends prev u v (alike_stop c) = alike_stop c

      s : ParserState
      s = Pest.set_queue (m.queue ++ (Pest.Start 0 m.position ∷ [])) m

      go : (c : Bool) → Alike g b m.position
          (elim c [ false ↦ Pest.rule_start g false line r pi ni f m m | true ↦ Pest.rule_start g false line r pi ni f m s ])
          (elim c [ false ↦ Pest.rule_start g false line r pi ni h m m | true ↦ Pest.rule_start g false line r pi ni h m s ])
      go false = ends (Pest.attempts_at m.position m) (f m) (h m) (k m x)
      go true = ends (Pest.attempts_at m.position s) (f s) (h s) (k s x)

-- ── All kinds ──
module _ (g : Setting) (set : ℕ → Bool) (w : Tested g set) (spent spent' : ParserState → Ending ParserState) where
  module _ (room : Bool) (d d' : Exp → ParserState → Ending ParserState) (k : (e : Exp) → Literals e → Steady set e
      → AlikeFrom g (still set e) (d e) (d' e)) where
    counted : (b : Bool) (f h : ParserState → Ending ParserState) → AlikeFrom g b f h
        → AlikeFrom g b (λ m. Pest.check_limit room true m f) (λ m. Pest.check_limit room true m h)
    counted b f h z = entering_alike g room true b f h z

    stiller : (b c : Bool) (f h : ParserState → Ending ParserState) → (c ≡ false → b ≡ false) → AlikeFrom g b f h → AlikeFrom g c f h
    stiller b c f h i z m x = go (f m) (h m) (z m x)
      where
        go : (r s : Ending ParserState) → Alike g b m.position r s → Alike g c m.position r s
        go r s (alike_ok n y) = alike_ok n (record { free = y.free; forward = y.forward; moved = λ e. y.moved (i e) })
        go r s (alike_err n y) = alike_err n y
        go r s (alike_stop c) = alike_stop c

    level_alike : (e : Exp) → Literals e → Steady set e
        → AlikeFrom g (still set e) (Pest.level_with g false room d spent e) (Pest.level_with g false room d' spent' e)
    level_alike (Grammar.match_string l) u y = λ m x. rw (← string_same g.text l m.position)
        (moved_alike g (eqb (length l) 0) (length l) m x _ (string_lands g.text eqb eqb_keeps l u m.position x.edge)
        (string_forward g.text eqb l m.position) (zero_or_more (length l)))
    level_alike (Grammar.match_insensitive l) u y = λ m x. rw (← folded_same g.text l u m.position x.edge.inside x.edge.whole)
        (moved_alike g (eqb (length l) 0) (length l) m x _ (string_lands g.text same_folded folded_keeps l u m.position x.edge)
        (string_forward g.text same_folded l m.position) (zero_or_more (length l)))
    level_alike (Grammar.match_range a b) u y = λ m x. rw (← range_same g.text a b m.position)
        (moved_alike g false 1 m x _ (char_lands g.text (within a b) m.position x.edge) (char_forward g.text (within a b) m.position) (λ e.
        omega arith))
    level_alike (Grammar.skip n) u y = λ m x. rw (← skip_same g.text n m.position x.edge.inside)
        (moved_alike g (eqb n 0) n m x _ (skip_lands g.text n m.position x.edge) (skip_forward g.text n m.position) (zero_or_more n))
    level_alike Grammar.end_of_input u y = end_alike g
    level_alike (Grammar.and_then a b) u y = and_alike g (still set a) (still set b) _ _ _ _ (level_alike a u.0 y.0) (level_alike b u.1 y.1)
    level_alike (Grammar.or_else a b) u y = or_alike g (still set a) (still set b) _ _ _ _ (level_alike a u.0 y.0) (level_alike b u.1 y.1)
    level_alike (Grammar.rule line r e) u y = counted (still set e) _ _ (rule_alike g line r (still set e) (d e) (d' e) (k e u y))
    level_alike (Grammar.sequence e) u y = counted (still set e) _ _ (sequence_alike g (still set e) (d e) (d' e) (k e u y))
    level_alike (Grammar.repeat e) u y = counted true _ _ (λ m x.
        loop_alike g spent spent' (d e) (d' e) (subst (λ (b : Bool). AlikeFrom g b (d e) (d' e)) y.0 (k e u y.1))
        (most_rounds g m.position) m x (omega arith))
    level_alike (Grammar.optional e) u y = counted true _ _ (optional_alike g (still set e) (d e) (d' e) (k e u y))
    level_alike (Grammar.lookahead b e) u y = counted true _ _ (lookahead_alike g b (still set e) (d e) (d' e) (k e u y))
    level_alike (Grammar.atomic a e) u y = counted (still set e) _ _ (atomic_alike g a (still set e) (d e) (d' e) (k e u y))
    level_alike (Grammar.stack_push line e) u y = counted (still set e) _ _ (push_alike g line (still set e) (d e) (d' e) (k e u y))
    level_alike (Grammar.stack_pop line) u y = pop_alike g line
    level_alike (Grammar.stack_match_peek_slice i j t) u y = peek_alike g i j t
    level_alike (Grammar.stack_match_pop line) u y = λ m x. match_pop_alike g line m.stack.cache m refl x m.position (omega arith) x.edge
    level_alike (Grammar.restore_on_err e) u y = entering_alike g room false (still set e) _ _ (restore_alike g (still set e) (d e) (d' e) (k e u y))
    level_alike (Grammar.tag_node t) u y = tag_alike g t
    level_alike (Grammar.call l) u y =
        let r : RuleLine = g.rule_at l in
        counted (set l) _ _ (rule_alike g r.line r.rule (set l) (d r.body) (d' r.body)
        (stiller (still set r.body) (set l) (d r.body) (d' r.body) (w.closed l) (k r.body (w.literals l) (w.steady l))))

  refused_alike : (e : Exp) → Literals e → Steady set e → AlikeFrom g (still set e) (Pest.no_deeper g false e) (Pest.no_deeper g false e)
  refused_alike e u y m x = alike_err _ (stay g x)

  -- pest's evaluation, at every depth and for every tree of an accepted grammar.
  pub eval_alike : (depth : ℕ) (e : Exp) → Literals e → Steady set e
      → AlikeFrom g (still set e) (Pest.eval_with g false spent depth e) (Pest.eval_with g false spent' depth e)
  eval_alike zero e u y = level_alike false (Pest.no_deeper g false) (Pest.no_deeper g false) refused_alike e u y
  eval_alike (suc n) e u y = level_alike true (Pest.eval_with g false spent n) (Pest.eval_with g false spent' n) (eval_alike n) e u y

  -- A run's ending is the same whatever a loop answers to rounds that are used up.
  pub ending_alike : Utf8 g.text → (depth limit : ℕ) (e : Exp) → Literals e → Steady set e
      → Pest.ending spent g depth limit e ≡ Pest.ending spent' g depth limit e
  ending_alike v depth limit e u y = alike_is (eval_alike depth e u y (Pest.new limit) first)
    where
      first : Free g (Pest.new limit)
      first = record { edge = record { inside = omega arith; whole = v }; whole = record { cache = tt; popped = tt } }
