-- One pass over pest's evaluation with document 01's stops: the position goes forward, from character edge to character edge; the
-- stack, the queue and the lists keep their bounds; lookahead, atomicity and the open checkpoints are as they were; and a tree that
-- may not stand still moves on Ok. One lemma for each combinator, over any deeper evaluation that keeps the same.
use Rattle.std.specs.Prelude.{if◌then◌else◌}
use mathlib.Core.Path.{◌≡◌, refl, sym, ap, ◌∙◌, subst}
use mathlib.Core.Bool.{Bool, true, false, ◌&&◌, ◌||◌, not}
use mathlib.Core.Logic.{◌⊎◌, inl, inr, ◌≢◌}
use mathlib.Core.List.{List, [], ◌∷◌, ◌++◌, reverse, reverse_aux}
use Rattle.std.specs.Prelude.{Option, None, Some}
use Prim.Native.Nat.{ℕ, zero, suc, ◌-◌, ◌≤◌, ◌<◌, min}
use native.Mathlib.Omega.{arith}
use lib.IntN.{ℤ}
use lib.ListN.{length, take, drop, set, get_or, length-append, length-take, length-set}
use lib.Dec.{eqb, ltb, leb}
use borrow.Author.Tests.{eqb-false, leb-false, ltb-false}
use Rattle.matching.specs.Utf8.{Utf8, Edge, within}
use Rattle.matching.specs.Position.{same_folded}
use Rattle.matching.proofs.Forward.{Found, found, string_forward, char_forward, skip_forward}
use Rattle.matching.proofs.Edges.{Lands, lands_not, lands, string_lands, char_lands, skip_lands, span_whole, eqb_keeps, folded_keeps}
use Rattle.reading.specs.declared.parser_state.Lookahead.{Lookahead}
use Rattle.reading.specs.declared.parser_state.Atomicity.{Atomicity}
use Rattle.reading.specs.declared.parser_state.Atomicity.TheVariants.{Atomic, CompoundAtomic, NonAtomic}
use Rattle.reading.specs.declared.parser_state.Cause.{Cause}
use Rattle.reading.specs.declared.call_limit_tracker.LimitKind.TheVariants as LimitKind
use Rattle.reading.specs.Ending.{Halted, Ending, Ok, Err, Stop, on_ok, on_err, stop_if, Span, Checkpoint, is_negative, is_none, is_atomic}
use Rattle.reading.specs.Grammar as Grammar
use Rattle.reading.specs.Grammar.{Exp, RuleLine}
use Rattle.reading.specs.Reading.{Setting, most_entries, most_debt, most_attempts, most_rounds, debt}
use Rattle.reading.specs.Pest as Pest
use Rattle.reading.specs.Pest.{ParserState, Stack, QueueableToken, Entered, level, eval, no_deeper}
use Rattle.reading.specs.Fit.{Entries, Fit}
use Rattle.reading.proofs.SoundLaws.{sound_push, sound_pop, sound_snapshot, sound_clear, sound_restore, lengths_pop, lengths_clear, lengths_restore}
use Rattle.reading.proofs.Matchers.{string_same, folded_same, range_same, skip_same}
use Rattle.reading.proofs.Trees.{Literals, still, Steady}

-- ── What an evaluation keeps ──
-- What an evaluation that began at p, with the given lookahead, atomicity, open checkpoints and tokens, leaves.
pub record After (g : Setting) (p : ℕ) (l : Lookahead) (a : Atomicity) (marks held : ℕ) (n : ParserState) : Type 0 where
  pub fit : Fit g n
  pub on : p ≤ n.position
  pub look : n.lookahead ≡ l
  pub atom : n.atomicity ≡ a
  pub level : length n.stack.lengths ≡ marks
  pub grown : held ≤ length n.queue

pub data Keeps (g : Setting) (b : Bool) (p : ℕ) (l : Lookahead) (a : Atomicity) (marks held : ℕ) : Ending ParserState → Type 0 where
  keeps_ok : (n : ParserState) → After g p l a marks held n → (b ≡ false → p < n.position) → Keeps g b p l a marks held (Ok n)
  keeps_err : (n : ParserState) → After g p l a marks held n → Keeps g b p l a marks held (Err n)
  keeps_stop : (c : Halted) → Keeps g b p l a marks held (Stop c)

abbrev pub KeepsFrom : Setting → Bool → ParserState → Ending ParserState → Type 0
KeepsFrom g b m r = Keeps g b m.position m.lookahead m.atomicity (length m.stack.lengths) (length m.queue) r

-- `b`: an Ok may stand still.
abbrev pub Keeping : Setting → Bool → (ParserState → Ending ParserState) → Type 0
Keeping g b f = (m : ParserState) → Fit g m → KeepsFrom g b m (f m)

pub not-true : {A : Type 0} → true ≡ false → A
not-true e = let z : ◌≡◌ {A = ℕ} 0 1 = cc in absurd (omega arith)

-- ── Entries ──
module _ (text : List ℕ) where
  pub take_entries : (n : ℕ) (v : List Span) → Entries text v → Entries text (take n v)
  take_entries zero v u = tt
  take_entries (suc n) [] u = tt
  take_entries (suc n) (x ∷ v) u = (u.0, take_entries n v u.1)

  pub drop_entries : (n : ℕ) (v : List Span) → Entries text v → Entries text (drop n v)
  drop_entries zero v u = u
  drop_entries (suc n) [] u = tt
  drop_entries (suc n) (x ∷ v) u = drop_entries n v u.1

  pub append_entries : (v w : List Span) → Entries text v → Entries text w → Entries text (v ++ w)
  append_entries [] w u t = t
  append_entries (x ∷ v) w u t = (u.0, append_entries v w u.1 t)

  reverse_onto : (v w : List Span) → Entries text v → Entries text w → Entries text (reverse_aux v w)
  reverse_onto [] w u t = t
  reverse_onto (x ∷ v) w u t = reverse_onto v (x ∷ w) u.1 (u.0, t)

  pub reverse_entries : (v : List Span) → Entries text v → Entries text (reverse v)
  reverse_entries v u = reverse_onto v [] u tt

  pub slice_entries : (i j : ℕ) (d : Bool) (v : List Span) → Entries text v → Entries text (Pest.slice i j d v)
  slice_entries i j true v u = reverse_entries (take (j - i) (drop i (reverse v)))
      (take_entries (j - i) (drop i (reverse v)) (drop_entries i (reverse v) (reverse_entries v u)))
  slice_entries i j false v u = take_entries (j - i) (drop i (reverse v)) (drop_entries i (reverse v) (reverse_entries v u))

  -- Both lists of a stack, through each of its methods.
  pub record Whole (v : Stack) : Type 0 where
    pub cache : Entries text v.cache
    pub popped : Entries text v.popped

  pub whole_pop : (x : Span) (rest p : List Span) (ks : List Checkpoint) → Utf8 (Pest.as_str text x) → Entries text rest → Entries text p
      → Whole (Pest.pop_onto x rest p ks)
  whole_pop x rest p [] u r q = record { cache = r; popped = q }
  whole_pop x rest p (k ∷ ks) u r q = go (eqb (suc (length rest)) k.lowest)
    where
      go : (b : Bool) → Whole (if b then record {
        cache = rest;
        popped = x ∷ p;
        lengths = record { height = k.height; lowest = k.lowest - 1 } ∷ ks;
      } else record { cache = rest; popped = p; lengths = k ∷ ks })
      go true = record { cache = r; popped = (u, q) }
      go false = record { cache = r; popped = q }

  pub whole_clear : (c p : List Span) (ks : List Checkpoint) → Entries text c → Entries text p
      → Whole (Pest.clear_snapshot (record { cache = c; popped = p; lengths = ks }))
  whole_clear c p [] u q = record { cache = u; popped = q }
  whole_clear c p (k ∷ []) u q = record { cache = u; popped = drop_entries (k.height - k.lowest) p q }
  whole_clear c p (k ∷ l ∷ ks) u q = record {
    cache = u;
    popped = append_entries (take (l.lowest - min l.lowest k.lowest) p) (drop (k.height - k.lowest) p)
        (take_entries (l.lowest - min l.lowest k.lowest) p q) (drop_entries (k.height - k.lowest) p q);
  }

  pub whole_restore : (c p : List Span) (ks : List Checkpoint) → Entries text c → Entries text p
      → Whole (Pest.restore (record { cache = c; popped = p; lengths = ks }))
  whole_restore c p [] u q = record { cache = tt; popped = q }
  whole_restore c p (k ∷ ks) u q = go (ltb k.lowest (length c)) (ltb k.lowest k.height)
    where
      n : ℕ
      n = k.height - k.lowest

      kept : (b : Bool) → Entries text (if b then Pest.truncate k.lowest c else c)
      kept true = drop_entries (length c - k.lowest) c u
      kept false = u

      go : (b d : Bool) → Whole (if d then record {
        cache = reverse (take n p) ++ (if b then Pest.truncate k.lowest c else c);
        popped = drop n p;
        lengths = ks;
      } else record { cache = if b then Pest.truncate k.lowest c else c; popped = p; lengths = ks })
      go b true = record {
        cache = append_entries (reverse (take n p)) (if b then Pest.truncate k.lowest c
            else c) (reverse_entries (take n p) (take_entries n p q)) (kept b);
        popped = drop_entries n p q;
      }
      go b false = record { cache = kept b; popped = q }

-- ── From one state to a later one ──
module _ (g : Setting) where
  pub stay : (m : ParserState) → Fit g m → After g m.position m.lookahead m.atomicity (length m.stack.lengths) (length m.queue) m
  stay m f = record { fit = f; on = omega arith; look = refl; atom = refl; level = refl; grown = omega arith }

  pub onward : {p : ℕ} {l : Lookahead} {a : Atomicity} {marks held : ℕ} {n : ParserState} → After g p l a marks held n
      → (k : ParserState) → After g n.position n.lookahead n.atomicity (length n.stack.lengths) (length n.queue) k → After g p l a marks held k
  onward {p} {l} {a} {marks} {held} {n} x k y = record {
    fit = y.fit;
    on = omega (arith, x.on, y.on);
    look = y.look ∙ x.look;
    atom = y.atom ∙ x.atom;
    level = y.level ∙ x.level;
    grown = omega (arith, x.grown, y.grown);
  }

  -- What follows a state that an evaluation left, seen from that evaluation's start.
  later : {b c : Bool} {p : ℕ} {l : Lookahead} {a : Atomicity} {marks held : ℕ} {n : ParserState} → After g p l a marks held n
      → (c ≡ false → (p < n.position) ⊎ (b ≡ false)) → (r : Ending ParserState) → KeepsFrom g b n r → Keeps g c p l a marks held r
  later {b} {c} {p} {n = n} x h r (keeps_ok k y i) = keeps_ok k (onward x k y) (λ (e : c ≡ false). go (h e))
    where
      go : (p < n.position) ⊎ (b ≡ false) → p < k.position
      go (inl j) = omega (arith, y.on)
      go (inr j) = omega (arith, x.on, i j)
  later x h r (keeps_err k y) = keeps_err k (onward x k y)
  later x h r (keeps_stop c) = keeps_stop c

  -- ── Kinds 6 and 7 ──
  pub and-false : (a b : Bool) → (a && b) ≡ false → (a ≡ false) ⊎ (b ≡ false)
  and-false true b e = inr e
  and-false false b e = inl refl

  pub or_left : (a b : Bool) → (a || b) ≡ false → a ≡ false
  or_left true b e = e
  or_left false b e = refl

  pub or_right : (a b : Bool) → (a || b) ≡ false → b ≡ false
  or_right true b e = not-true e
  or_right false b e = e

  and_keeps : (a b : Bool) (f h : ParserState → Ending ParserState) → Keeping g a f → Keeping g b h → Keeping g (a && b) (λ m. on_ok (f m) (λ n. h n))
  and_keeps a b f h kf kh m x = go (f m) (kf m x)
    where
      go : (r : Ending ParserState) → KeepsFrom g a m r → KeepsFrom g (a && b) m (on_ok r (λ n. h n))
      go r (keeps_ok n y i) = later y (λ e. turn (and-false a b e)) (h n) (kh n y.fit)
        where
          turn : (a ≡ false) ⊎ (b ≡ false) → (m.position < n.position) ⊎ (b ≡ false)
          turn (inl e) = inl (i e)
          turn (inr e) = inr e
      go r (keeps_err n y) = keeps_err n y
      go r (keeps_stop c) = keeps_stop c

  or_keeps : (a b : Bool) (f h : ParserState → Ending ParserState) → Keeping g a f → Keeping g b h → Keeping g (a || b) (λ m. on_err (f m) (λ n. h n))
  or_keeps a b f h kf kh m x = go (f m) (kf m x)
    where
      go : (r : Ending ParserState) → KeepsFrom g a m r → KeepsFrom g (a || b) m (on_err r (λ n. h n))
      go r (keeps_ok n y i) = keeps_ok n y (λ e. i (or_left a b e))
      go r (keeps_err n y) = later y (λ e. inr (or_right a b e)) (h n) (kh n y.fit)
      go r (keeps_stop c) = keeps_stop c

  -- ── A match, or none ──
  pub moved_fit : (m : ParserState) (q : ℕ) → Fit g m → Edge g.text q → Fit g (Pest.set_position q m)
  moved_fit m q x e = record {
    edge = e;
    entries = x.entries;
    saved = x.saved;
    sound = x.sound;
    room = x.room;
    inside = x.inside;
    positives = x.positives;
    negatives = x.negatives;
  }

  moved_keeps : (b : Bool) (least : ℕ) (m : ParserState) → Fit g m → (x : Option ℕ) → Lands g.text m.position x
      → Found (length g.text) m.position least x
      → (b ≡ false → 1 ≤ least) → KeepsFrom g b m (Pest.moved x m)
  moved_keeps b least m x y lands_not f h = keeps_err m (stay m x)
  moved_keeps b least m x y (lands q k e) (found q' f) h =
      keeps_ok (Pest.set_position q m) (record {
        fit = moved_fit m q x e;
        on = k;
        look = refl;
        atom = refl;
        level = refl;
        grown = omega arith;
      }) (λ (i : b ≡ false). omega (arith, f.far, h i))

  -- ── Entering ──
  entering_keeps : (room counts b : Bool) (k : ParserState → Ending ParserState) → Keeping g b k → Keeping g b (λ m. Pest.check_limit room counts m k)
  entering_keeps room counts b k h m x = go (Pest.enter room counts m.call_tracker)
    where
      go : (e : Entered) → KeepsFrom g b m (elim e.answer
          [ false ↦ Err (Pest.set_call_tracker e.tracker m) | true ↦ k (Pest.set_call_tracker e.tracker m) ])
      go e = pick e.answer
        where
          n : ParserState
          n = Pest.set_call_tracker e.tracker m

          pick : (y : Bool) → KeepsFrom g b m (elim y [ false ↦ Err n | true ↦ k n ])
          pick true = h n x
          pick false = keeps_err n (stay n x)

  -- ── Checkpoints ──
  pub checkpoint_fit : (m : ParserState) → Fit g m → Fit g (Pest.checkpoint m)
  checkpoint_fit m x = record {
    edge = x.edge;
    entries = x.entries;
    saved = x.saved;
    sound = sound_snapshot m.stack x.sound;
    room = x.room;
    inside = x.inside;
    positives = x.positives;
    negatives = x.negatives;
  }

  pub cleared_fit : (m : ParserState) → Fit g m → Fit g (Pest.checkpoint_ok m)
  cleared_fit m x =
      let w : Whole g.text (Pest.clear_snapshot m.stack) = whole_clear g.text m.stack.cache m.stack.popped m.stack.lengths x.entries x.saved in
      record {
        edge = x.edge;
        entries = w.cache;
        saved = w.popped;
        sound = sound_clear m.stack x.sound;
        room = x.room;
        inside = x.inside;
        positives = x.positives;
        negatives = x.negatives;
      }

  pub restored_fit : (m : ParserState) → Fit g m → Fit g (Pest.restored m)
  restored_fit m x =
      let w : Whole g.text (Pest.restore m.stack) = whole_restore g.text m.stack.cache m.stack.popped m.stack.lengths x.entries x.saved in
      record {
        edge = x.edge;
        entries = w.cache;
        saved = w.popped;
        sound = sound_restore m.stack x.sound;
        room = x.room;
        inside = x.inside;
        positives = x.positives;
        negatives = x.negatives;
      }

  pub cut_fit : (m : ParserState) (i : ℕ) → Fit g m → Fit g (Pest.set_queue (take i m.queue) m)
  cut_fit m i x = record {
    edge = x.edge;
    entries = x.entries;
    saved = x.saved;
    sound = x.sound;
    room = omega (arith, length-take i m.queue, x.room);
    inside = x.inside;
    positives = x.positives;
    negatives = x.negatives;
  }

  -- The innermost checkpoint dropped, after Ok.
  dropped_keeps : {b : Bool} {p : ℕ} {l : Lookahead} {a : Atomicity} {marks held : ℕ} (n : ParserState) → After g p l a (suc marks) held n
      → (b ≡ false → p < n.position)
      → Keeps g b p l a marks held (Ok (Pest.checkpoint_ok n))
  dropped_keeps {marks = marks} n y i = keeps_ok (Pest.checkpoint_ok n)
      (record {
        fit = cleared_fit n y.fit;
        on = y.on;
        look = y.look;
        atom = y.atom;
        level = omega (arith, lengths_clear n.stack, y.level);
        grown = y.grown;
      }) i

  sequence_keeps : (b : Bool) (f : ParserState → Ending ParserState) → Keeping g b f → Keeping g b (λ m. Pest.sequence f m)
  sequence_keeps b f h m x = go _ (h (Pest.checkpoint m) (checkpoint_fit m x))
    where
      go : (r : Ending ParserState) → Keeps g b m.position m.lookahead m.atomicity (suc (length m.stack.lengths)) (length m.queue) r
          → KeepsFrom g b m (Pest.sequence_end (length m.queue) m.position r)
      go r (keeps_ok n y i) = dropped_keeps n y i
      go r (keeps_err n y) =
          let k : ParserState = Pest.set_queue (take (length m.queue) n.queue) (Pest.set_position m.position n) in
          let fit : Fit g k = cut_fit (Pest.set_position m.position n) (length m.queue) (moved_fit n m.position y.fit x.edge) in
          keeps_err (Pest.restored k) (record {
            fit = restored_fit k fit;
            on = omega arith;
            look = y.look;
            atom = y.atom;
            level = omega (arith, lengths_restore n.stack, y.level);
            grown = omega (arith, length-take (length m.queue) n.queue, y.grown);
          })
      go r (keeps_stop c) = keeps_stop c

  restore_keeps : (b : Bool) (f : ParserState → Ending ParserState) → Keeping g b f → Keeping g b (λ m. Pest.restore_on_err f m)
  restore_keeps b f h m x = go _ (h (Pest.checkpoint m) (checkpoint_fit m x))
    where
      go : (r : Ending ParserState) → Keeps g b m.position m.lookahead m.atomicity (suc (length m.stack.lengths)) (length m.queue) r
          → KeepsFrom g b m (Pest.restore_on_err_end r)
      go r (keeps_ok n y i) = dropped_keeps n y i
      go r (keeps_err n y) = keeps_err (Pest.restored n) (record {
        fit = restored_fit n y.fit;
        on = y.on;
        look = y.look;
        atom = y.atom;
        level = omega (arith, lengths_restore n.stack, y.level);
        grown = y.grown;
      })
      go r (keeps_stop c) = keeps_stop c

  -- ── Kinds 10 and 11 ──
  forgiven_keeps : {b : Bool} {p : ℕ} {l : Lookahead} {a : Atomicity} {marks held : ℕ} (c : Bool) (n : ParserState)
      → After g p l a marks held n → b ≡ true
      → Keeps g b p l a marks held (if c then Err n else Ok n)
  forgiven_keeps true n y e = keeps_err n y
  forgiven_keeps {b} false n y e = keeps_ok n y (λ (i : b ≡ false). not-true (sym e ∙ i))

  optional_keeps : (b : Bool) (f : ParserState → Ending ParserState) → Keeping g b f → Keeping g true (λ m. Pest.optional (f m))
  optional_keeps b f h m x = go _ (h m x)
    where
      go : (r : Ending ParserState) → KeepsFrom g b m r → KeepsFrom g true m (Pest.optional r)
      go r (keeps_ok n y i) = keeps_ok n y not-true
      go r (keeps_err n y) = forgiven_keeps (Pest.limit_reached n) n y refl
      go r (keeps_stop c) = keeps_stop c

  repeat_keeps : (f : ParserState → Ending ParserState) (b : Bool) → Keeping g b f → (n : ℕ) → Keeping g true (λ m. Pest.repeat n f m)
  repeat_keeps f b h zero m x = keeps_err m (stay m x)
  repeat_keeps f b h (suc n) m x = go (f m) (h m x) (repeat_keeps f b h n)
    where
      go : (r : Ending ParserState) → KeepsFrom g b m r → Keeping g true (λ k. Pest.repeat n f k)
          → KeepsFrom g true m (Pest.round_end r (λ k. Pest.repeat n f k))
      go r (keeps_ok k y i) ih = later y (λ (e : true ≡ false). not-true e) _ (ih k y.fit)
      go r (keeps_err k y) ih = forgiven_keeps (Pest.limit_reached k) k y refl
      go r (keeps_stop c) ih = keeps_stop c

  -- ── Kind 12 ──
  lookahead_keeps : (positive b : Bool) (f : ParserState → Ending ParserState) → Keeping g b f → Keeping g true (λ m. Pest.lookahead positive f m)
  lookahead_keeps positive b f h m x = go _ (h (Pest.checkpoint (Pest.set_lookahead l m)) (checkpoint_fit (Pest.set_lookahead l m) x))
    where
      l : Lookahead
      l = Pest.lookahead_in positive m.lookahead

      back : ParserState → ParserState
      back n = Pest.restored (Pest.set_lookahead m.lookahead (Pest.set_position m.position n))

      returned : (n : ParserState) → After g m.position l m.atomicity (suc (length m.stack.lengths)) (length m.queue) n
          → After g m.position m.lookahead m.atomicity (length m.stack.lengths) (length m.queue) (back n)
      returned n y = record {
        fit = restored_fit (Pest.set_lookahead m.lookahead (Pest.set_position m.position n)) (moved_fit n m.position y.fit x.edge);
        on = omega arith;
        look = refl;
        atom = y.atom;
        level = omega (arith, lengths_restore n.stack, y.level);
        grown = y.grown;
      }

      out : (n : ParserState) → After g m.position m.lookahead m.atomicity (length m.stack.lengths) (length m.queue) n → (c d : Bool)
          → KeepsFrom g true m (if c then Err n else if d then Ok n else Err n)
      out n y true d = keeps_err n y
      out n y false true = keeps_ok n y not-true
      out n y false false = keeps_err n y

      swapped : (n : ParserState) → After g m.position m.lookahead m.atomicity (length m.stack.lengths) (length m.queue) n → (c d : Bool)
          → KeepsFrom g true m (if c then Err n else if d then Err n else Ok n)
      swapped n y true d = keeps_err n y
      swapped n y false true = keeps_err n y
      swapped n y false false = keeps_ok n y not-true

      go : (r : Ending ParserState) → Keeps g b m.position l m.atomicity (suc (length m.stack.lengths)) (length m.queue) r
          → KeepsFrom g true m (Pest.lookahead_end positive m.lookahead m.position r)
      go r (keeps_ok n y i) = out (back n) (returned n y) (Pest.limit_reached (back n)) positive
      go r (keeps_err n y) = swapped (back n) (returned n y) (Pest.limit_reached (back n)) positive
      go r (keeps_stop c) = keeps_stop c

  -- ── Kind 13 ──
  -- Whether it is toggled or not, the atomicity is the one asked for.
  set_own : (a : Atomicity) (m : ParserState) → m.atomicity ≡ a → m ≡ Pest.set_atomicity a m
  set_own a m e = ap (λ (x : Atomicity). Pest.set_atomicity x m) e

  pub toggled : (x a : Atomicity) (m : ParserState) → m.atomicity ≡ x → Pest.toggle (not (Pest.same_atomicity x a)) a m ≡ Pest.set_atomicity a m
  toggled Atomic Atomic m e = set_own Atomic m e
  toggled Atomic CompoundAtomic m e = refl
  toggled Atomic NonAtomic m e = refl
  toggled CompoundAtomic Atomic m e = refl
  toggled CompoundAtomic CompoundAtomic m e = set_own CompoundAtomic m e
  toggled CompoundAtomic NonAtomic m e = refl
  toggled NonAtomic Atomic m e = refl
  toggled NonAtomic CompoundAtomic m e = refl
  toggled NonAtomic NonAtomic m e = set_own NonAtomic m e

  same_symmetric : (x a : Atomicity) → Pest.same_atomicity x a ≡ Pest.same_atomicity a x
  same_symmetric Atomic Atomic = refl
  same_symmetric Atomic CompoundAtomic = refl
  same_symmetric Atomic NonAtomic = refl
  same_symmetric CompoundAtomic Atomic = refl
  same_symmetric CompoundAtomic CompoundAtomic = refl
  same_symmetric CompoundAtomic NonAtomic = refl
  same_symmetric NonAtomic Atomic = refl
  same_symmetric NonAtomic CompoundAtomic = refl
  same_symmetric NonAtomic NonAtomic = refl

  pub toggled_back : (x a : Atomicity) (m : ParserState) → m.atomicity ≡ a → Pest.toggle (not (Pest.same_atomicity x a)) x m ≡ Pest.set_atomicity x m
  toggled_back x a m e = ap (λ (b : Bool). Pest.toggle (not b) x m) (same_symmetric x a) ∙ toggled a x m e

  atomic_keeps : (a : Atomicity) (b : Bool) (f : ParserState → Ending ParserState) → Keeping g b f → Keeping g b (λ m. Pest.atomic a f m)
  atomic_keeps a b f h m x = rw (toggled m.atomicity a m refl) (go _ (h (Pest.set_atomicity a m) x))
    where
      back : (n : ParserState) → After g m.position m.lookahead a (length m.stack.lengths) (length m.queue) n
          → After g m.position m.lookahead m.atomicity (length m.stack.lengths) (length m.queue) (Pest.set_atomicity m.atomicity n)
      back n y = record { fit = y.fit; on = y.on; look = y.look; atom = refl; level = y.level; grown = y.grown }

      go : (r : Ending ParserState) → Keeps g b m.position m.lookahead a (length m.stack.lengths) (length m.queue) r
          → KeepsFrom g b m (Pest.atomic_end (not (Pest.same_atomicity m.atomicity a)) m.atomicity r)
      go r (keeps_ok n y i) = rw (toggled_back m.atomicity a n y.atom) (keeps_ok (Pest.set_atomicity m.atomicity n) (back n y) i)
      go r (keeps_err n y) = rw (toggled_back m.atomicity a n y.atom) (keeps_err (Pest.set_atomicity m.atomicity n) (back n y))
      go r (keeps_stop c) = keeps_stop c

  -- ── Kinds 14 to 17 ──
  push_keeps : (line : ℕ) (b : Bool) (f : ParserState → Ending ParserState) → Keeping g b f → Keeping g b (λ m. Pest.stack_push g.text true line f m)
  push_keeps line b f h m x = go _ (h m x)
    where
      room : (n : ParserState) → After g m.position m.lookahead m.atomicity (length m.stack.lengths) (length m.queue) n
          → (b ≡ false → m.position < n.position)
          → (c : Bool) → leb most_entries (length n.stack.cache) ≡ c
          → KeepsFrom g b m (stop_if c (Pest.halted (Cause.StackFull line) n) (λ _.
          Ok (Pest.set_stack (Pest.push (record { start = m.position; end = n.position }) n.stack) n)))
      room n y i true e = keeps_stop _
      room n y i false e =
          let s : Span = record { start = m.position; end = n.position } in
          keeps_ok (Pest.set_stack (Pest.push s n.stack) n) (record {
            fit = record {
              edge = y.fit.edge;
              entries = (span_whole g.text m.position n.position y.on x.edge y.fit.edge, y.fit.entries);
              saved = y.fit.saved;
              sound = sound_push s n.stack y.fit.sound (leb-false most_entries (length n.stack.cache) e);
              room =
                  y.fit.room;
              inside = y.fit.inside;
              positives = y.fit.positives;
              negatives = y.fit.negatives;
            };
            on = y.on;
            look = y.look;
            atom = y.atom;
            level = y.level;
            grown = y.grown;
          }) i

      go : (r : Ending ParserState) → KeepsFrom g b m r → KeepsFrom g b m (Pest.push_end g.text true line m.position r)
      go r (keeps_ok n y i) = room n y i (leb most_entries (length n.stack.cache)) refl
      go r (keeps_err n y) = keeps_err n y
      go r (keeps_stop c) = keeps_stop c

  -- One entry popped, and what follows.
  pub popped_fit : (x : Span) (rest : List Span) (m : ParserState) → m.stack.cache ≡ x ∷ rest → Fit g m
      → ltb most_debt (debt (Pest.pop x rest m.stack).lengths) ≡ false → Fit g (Pest.set_stack (Pest.pop x rest m.stack) m)
  popped_fit x rest m e f d =
      let u : Entries g.text (x ∷ rest) = subst (Entries g.text) e f.entries in
      let w : Whole g.text (Pest.pop x rest m.stack) = whole_pop g.text x rest m.stack.popped m.stack.lengths u.0 u.1 f.saved in
      record {
        edge = f.edge;
        entries = w.cache;
        saved = w.popped;
        sound = sound_pop x rest m.stack e f.sound (ltb-false most_debt (debt (Pest.pop x rest m.stack).lengths) d);
        room =
            f.room;
        inside = f.inside;
        positives = f.positives;
        negatives = f.negatives;
      }

  popping_keeps : (line : ℕ) (x : Span) (rest : List Span) (m : ParserState) → m.stack.cache ≡ x ∷ rest → Fit g m
      → (k : ParserState → Ending ParserState)
      → (Fit g (Pest.set_stack (Pest.pop x rest m.stack) m)
      → KeepsFrom g true (Pest.set_stack (Pest.pop x rest m.stack) m) (k (Pest.set_stack (Pest.pop x rest m.stack) m)))
      → KeepsFrom g true m (Pest.popping g.text true line x rest m k)
  popping_keeps line x rest m e f k h = room (ltb most_debt (debt (Pest.pop x rest m.stack).lengths)) refl
    where
      n : ParserState
      n = Pest.set_stack (Pest.pop x rest m.stack) m

      same_marks : (r : Ending ParserState) → KeepsFrom g true n r → KeepsFrom g true m r
      same_marks r y = subst (λ (k : ℕ). Keeps g true m.position m.lookahead m.atomicity k (length m.queue) r) (lengths_pop x rest m.stack) y

      room : (c : Bool) → ltb most_debt (debt (Pest.pop x rest m.stack).lengths) ≡ c
          → KeepsFrom g true m (stop_if c (Pest.halted (Cause.StackFull line) m) (λ _. k n))
      room true d = keeps_stop _
      room false d = same_marks _ (h (popped_fit x rest m e f d))

  pub entry_lands : (x : Span) → Utf8 (Pest.as_str g.text x) → (p : ℕ) → Edge g.text p
      → Lands g.text p (Pest.match_string g.text (Pest.as_str g.text x) p)
  entry_lands x u p e = rw (← string_same g.text (Pest.as_str g.text x) p) (string_lands g.text eqb eqb_keeps (Pest.as_str g.text x) u p e)

  -- A match of which nothing is asked but an edge.
  landed_keeps : (m : ParserState) → Fit g m → (x : Option ℕ) → Lands g.text m.position x → KeepsFrom g true m (Pest.moved x m)
  landed_keeps m f x lands_not = keeps_err m (stay m f)
  landed_keeps m f x (lands q k e) = keeps_ok (Pest.set_position q m)
      (record { fit = moved_fit m q f e; on = k; look = refl; atom = refl; level = refl; grown = omega arith }) not-true

  pop_keeps : (line : ℕ) → Keeping g true (λ m. Pest.stack_pop g.text true line m.stack.cache m)
  pop_keeps line m f = go m.stack.cache refl
    where
      go : (c : List Span) → m.stack.cache ≡ c → KeepsFrom g true m (Pest.stack_pop g.text true line c m)
      go [] e = keeps_stop _
      go (x ∷ rest) e = popping_keeps line x rest m e f (λ n. Pest.moved (Pest.match_string g.text (Pest.as_str g.text x) n.position) n)
          (λ w. landed_keeps (Pest.set_stack (Pest.pop x rest m.stack) m) w _
          (entry_lands x (subst (Entries g.text) e f.entries).0 m.position f.edge))

  pub cache_of_pop : (x : Span) (rest : List Span) (v : Stack) → (Pest.pop x rest v).cache ≡ rest
  cache_of_pop x rest v = go v.lengths
    where
      go : (ks : List Checkpoint) → (Pest.pop_onto x rest v.popped ks).cache ≡ rest
      go [] = refl
      go (k ∷ ks) = pick (eqb (suc (length rest)) k.lowest)
        where
          pick : (b : Bool) → (if◌then◌else◌ {A = Stack} b (record {
            cache = rest;
            popped = x ∷ v.popped;
            lengths = record { height = k.height; lowest = k.lowest - 1 } ∷ ks;
          })
              (record { cache = rest; popped = v.popped; lengths = k ∷ ks })).cache ≡ rest
          pick true = refl
          pick false = refl

  -- `q`: the position after the entries that matched.
  match_pop_keeps : (line : ℕ) (c : List Span) (m : ParserState) → m.stack.cache ≡ c → Fit g m → (q : ℕ) → m.position ≤ q → Edge g.text q
      → KeepsFrom g true m (Pest.stack_match_pop g.text true line c q m)
  match_pop_keeps line [] m e f q i d = keeps_ok (Pest.set_position q m)
      (record { fit = moved_fit m q f d; on = i; look = refl; atom = refl; level = refl; grown = omega arith }) not-true
  match_pop_keeps line (x ∷ rest) m e f q i d =
      popping_keeps line x rest m e f (λ n. elim (Pest.match_string g.text (Pest.as_str g.text x) q)
      [ None ↦ Err n | Some r ↦ Pest.stack_match_pop g.text true line rest r n ])
      (λ w. go w _ (entry_lands x (subst (Entries g.text) e f.entries).0 q d) (match_pop_keeps line rest n (cache_of_pop x rest m.stack) w))
    where
      n : ParserState
      n = Pest.set_stack (Pest.pop x rest m.stack) m

      go : Fit g n → (y : Option ℕ) → Lands g.text q y
          → ((r : ℕ) → n.position ≤ r → Edge g.text r → KeepsFrom g true n (Pest.stack_match_pop g.text true line rest r n))
          → KeepsFrom g true n (elim y [ None ↦ Err n | Some r ↦ Pest.stack_match_pop g.text true line rest r n ])
      go w y lands_not ih = keeps_err n (stay n w)
      go w y (lands r k e) ih = ih r (omega arith) e

  pub all_land : (vs : List Span) → Entries g.text vs → (p : ℕ) → Edge g.text p → Lands g.text p (Pest.all_match g.text vs p)
  all_land [] u p e = lands p (omega arith) e
  all_land (v ∷ vs) u p e = go _ (entry_lands v u.0 p e) (λ q. all_land vs u.1 q)
    where
      farther : (q : ℕ) → p ≤ q → (x : Option ℕ) → Lands g.text q x → Lands g.text p x
      farther q h x lands_not = lands_not
      farther q h x (lands r k d) = lands r (omega arith) d

      go : (x : Option ℕ) → Lands g.text p x → ((q : ℕ) → Edge g.text q → Lands g.text q (Pest.all_match g.text vs q))
          → Lands g.text p (elim x [ None ↦ None | Some q ↦ Pest.all_match g.text vs q ])
      go x lands_not ih = lands_not
      go x (lands q k d) ih = farther q k _ (ih q d)

  peek_keeps : (i : ℤ) (j : Option ℤ) (d : Bool) → Keeping g true (λ m. Pest.stack_match_peek_slice g.text i j d m)
  peek_keeps i j d m f = first (Pest.normalize_index i (length m.stack.cache))
    where
      unmoved : KeepsFrom g true m (Err m)
      unmoved = keeps_err m (stay m f)

      third : (a z : ℕ) (b : Bool) → KeepsFrom g true m (elim b
          [ true ↦ Ok m | false ↦ Pest.moved (Pest.all_match g.text (Pest.slice a z d m.stack.cache) m.position) m ])
      third a z true = keeps_ok m (stay m f) not-true
      third a z false = landed_keeps m f _ (all_land (Pest.slice a z d m.stack.cache) (slice_entries g.text a z d m.stack.cache f.entries)
          m.position f.edge)

      second : (a : ℕ) (y : Option ℕ)
          → KeepsFrom g true m (elim y [
            | None ↦ Err m
            | Some z ↦ elim (leb z a) [ true ↦ Ok m | false ↦ Pest.moved (Pest.all_match g.text (Pest.slice a z d m.stack.cache) m.position) m ]
          ])
      second a None = unmoved
      second a (Some z) = third a z (leb z a)

      first : (x : Option ℕ) → KeepsFrom g true m (elim x [
        | None ↦ Err m
        | Some a ↦
            elim (Pest.normalize_end j (length m.stack.cache)) [
              | None ↦ Err m
              | Some z ↦ elim (leb z a) [ true ↦ Ok m | false ↦ Pest.moved (Pest.all_match g.text (Pest.slice a z d m.stack.cache) m.position) m ]
            ]
      ])
      first None = unmoved
      first (Some a) = second a (Pest.normalize_end j (length m.stack.cache))

  -- ── Kind 19 ──
  pub length_tag : (u : ℕ) (q : List QueueableToken) → length (Pest.tag_last u q) ≡ length q
  length_tag u [] = refl
  length_tag u (Pest.Start e p ∷ []) = refl
  length_tag u (Pest.End s r t p ∷ []) = refl
  length_tag u (x ∷ y ∷ q) = ap suc (length_tag u (y ∷ q))

  tag_keeps : (u : ℕ) → Keeping g true (λ m. Pest.tag_node u m)
  tag_keeps u m f = go (not (is_none m.lookahead))
    where
      n : ParserState
      n = Pest.set_queue (Pest.tag_last u m.queue) m

      go : (b : Bool) → KeepsFrom g true m (if b then Ok m else Ok n)
      go true = keeps_ok m (stay m f) not-true
      go false = keeps_ok n (record {
        fit = record {
          edge = f.edge;
          entries = f.entries;
          saved = f.saved;
          sound = f.sound;
          room = omega (arith, length_tag u m.queue, f.room);
          inside = f.inside;
          positives = f.positives;
          negatives = f.negatives;
        };
        on = omega arith;
        look = refl;
        atom = refl;
        level = refl;
        grown = omega (arith, length_tag u m.queue);
      }) not-true

  -- ── Kind 8 ──
  -- Tracking changes nothing but the attempts.
  record Noted (m n : ParserState) : Type 0 where
    furthest : ℕ
    positive : List ℕ
    negative : List ℕ
    same : n ≡ Pest.set_attempts furthest positive negative m
    within_text : furthest ≤ length g.text

  noted : (m : ParserState) (f : ℕ) (ps ns : List ℕ) → f ≤ length g.text → Noted m (Pest.set_attempts f ps ns m)
  noted m f ps ns h = record { furthest = f; positive = ps; negative = ns; same = refl; within_text = h }

  unnoted : (m : ParserState) → m.attempt_pos ≤ length g.text → Noted m m
  unnoted m h = noted m m.attempt_pos m.pos_attempts m.neg_attempts h

  choose : (b : Bool) {m n k : ParserState} → Noted m n → Noted m k → Noted m (if b then n else k)
  choose true x y = x
  choose false x y = y

  -- A further change of the attempts, after one.
  again : (f : ParserState → ParserState) → ((m : ParserState) → m.attempt_pos ≤ length g.text → Noted m (f m)) → {m n : ParserState}
      → Noted m n → Noted m (f n)
  again f h {m} {n} x =
      let y : Noted (Pest.set_attempts x.furthest x.positive x.negative m) (f (Pest.set_attempts x.furthest x.positive x.negative m)) =
      h (Pest.set_attempts x.furthest x.positive x.negative m) x.within_text in
      rw x.same (record { furthest = y.furthest; positive = y.positive; negative = y.negative; same = y.same; within_text = y.within_text })

  track_noted : (r p pi ni prev : ℕ) → p ≤ length g.text → (m : ParserState) → m.attempt_pos ≤ length g.text → Noted m (Pest.track r p pi ni prev m)
  track_noted r p pi ni prev hp m h =
      choose (is_atomic m.atomicity) (unnoted m h)
      (choose (ltb prev (Pest.attempts_at p m) && eqb (Pest.attempts_at p m - prev) 1) (unnoted m h)
      (again (Pest.push_attempt r p) pushes (again (Pest.advance_attempts p) advances (truncates m h))))
    where
      truncates : (m : ParserState) → m.attempt_pos ≤ length g.text → Noted m (Pest.truncate_attempts p pi ni m)
      truncates m h = choose (eqb p m.attempt_pos) (noted m m.attempt_pos (take pi m.pos_attempts) (take ni m.neg_attempts) h) (unnoted m h)

      advances : (m : ParserState) → m.attempt_pos ≤ length g.text → Noted m (Pest.advance_attempts p m)
      advances m h = choose (ltb m.attempt_pos p) (noted m p [] [] hp) (unnoted m h)

      pushes : (m : ParserState) → m.attempt_pos ≤ length g.text → Noted m (Pest.push_attempt r p m)
      pushes m h =
          choose (eqb p m.attempt_pos)
          (choose (not (is_negative m.lookahead)) (noted m m.attempt_pos (m.pos_attempts ++ (r ∷ [])) m.neg_attempts h)
          (noted m m.attempt_pos m.pos_attempts (m.neg_attempts ++ (r ∷ [])) h))
          (unnoted m h)

  or_left_false : (a b : Bool) → (a || b) ≡ false → (a ≡ false) × (b ≡ false)
  or_left_false true b e = not-true e
  or_left_false false b e = (refl, e)

  -- What follows tracking, for attempts within their bounds.
  tracking_keeps : (due : Bool) (line r p pi ni prev : ℕ) → p ≤ length g.text
      → {b : Bool} {q : ℕ} {l : Lookahead} {a : Atomicity} {marks held : ℕ} (k : ParserState → Ending ParserState) (n : ParserState) → Fit g n
      → ((f : ℕ) (ps ns : List ℕ) → f ≤ length g.text → length ps ≤ most_attempts → length ns ≤ most_attempts
      → Keeps g b q l a marks held (k (Pest.set_attempts f ps ns n)))
      → Keeps g b q l a marks held (Pest.tracking g true due line r p pi ni prev n k)
  tracking_keeps due line r p pi ni prev hp {b} {q} {l} {a} {marks} {held} k n f h = go (due && not (is_atomic n.atomicity))
    where
      t : ParserState
      t = Pest.track r p pi ni prev n

      full : ParserState → Bool
      full m = ltb most_attempts (length m.pos_attempts) || ltb most_attempts (length m.neg_attempts)

      on : (m : ParserState) → Noted n m → (c : Bool) → full m ≡ c
          → Keeps g b q l a marks held (stop_if c (Pest.halted (Cause.AttemptsFull line) n) (λ _. k m))
      on m x true e = keeps_stop _
      on m x false e =
          let u : (ltb most_attempts (length m.pos_attempts) ≡ false) × (ltb most_attempts (length m.neg_attempts) ≡ false) = or_left_false _ _ e in
          let i : length x.positive ≤ most_attempts =
          omega (arith, ltb-false most_attempts (length m.pos_attempts) u.0, ap (λ (y : ParserState). length y.pos_attempts) x.same) in
          let j : length x.negative ≤ most_attempts =
          omega (arith, ltb-false most_attempts (length m.neg_attempts) u.1, ap (λ (y : ParserState). length y.neg_attempts) x.same) in
          rw x.same (h x.furthest x.positive x.negative x.within_text i j)

      go : (c : Bool)
          → Keeps g b q l a marks held (elim c [ false ↦ k n | true ↦ stop_if (full t) (Pest.halted (Cause.AttemptsFull line) n) (λ _. k t) ])
      go false = h n.attempt_pos n.pos_attempts n.neg_attempts f.inside f.positives f.negatives
      go true = on t (track_noted r p pi ni prev hp n f.inside) (full t) refl

  pub attempts_fit : (f : ℕ) (ps ns : List ℕ) (n : ParserState) → Fit g n → f ≤ length g.text → length ps ≤ most_attempts
      → length ns ≤ most_attempts → Fit g (Pest.set_attempts f ps ns n)
  attempts_fit f ps ns n x h i j = record {
    edge = x.edge;
    entries = x.entries;
    saved = x.saved;
    sound = x.sound;
    room = x.room;
    inside = h;
    positives = i;
    negatives = j;
  }

  -- One token more.
  pub pushed_fit : (n : ParserState) (q : List QueueableToken) (t : QueueableToken) → Fit g n → length q ≡ length n.queue
      → leb g.capacity (length n.queue) ≡ false
      → Fit g (Pest.set_queue (q ++ (t ∷ [])) n)
  pushed_fit n q t x l e = record {
    edge = x.edge;
    entries = x.entries;
    saved = x.saved;
    sound = x.sound;
    room = omega (arith, length-append q (t ∷ []), leb-false g.capacity (length n.queue) e);
    inside = x.inside;
    positives =
        x.positives;
    negatives = x.negatives;
  }

  -- The End of a rule that began at p with `index` tokens before it.
  close_keeps : {b : Bool} {p : ℕ} {l : Lookahead} {a : Atomicity} {marks held : ℕ} (line r index : ℕ) (n : ParserState)
      → After g p l a marks held n → (b ≡ false → p < n.position)
      → Keeps g b p l a marks held (Pest.close_rule g true line r index n)
  close_keeps {b} {p} {l} {a} {marks} {held} line r index n y i = go (Pest.produces n)
    where
      q : List QueueableToken
      q = set n.queue index (Pest.with_end (length n.queue) (get_or n.queue index (Pest.Start 0 0)))

      k : ParserState
      k = Pest.set_queue (q ++ (Pest.End index r 0 n.position ∷ [])) n

      same : length q ≡ length n.queue
      same = length-set n.queue index _

      room : (c : Bool) → leb g.capacity (length q) ≡ c → Keeps g b p l a marks held (stop_if c (Pest.halted (Cause.TokensFull line) n) (λ _. Ok k))
      room true e = keeps_stop _
      room false e = keeps_ok k (record {
        fit = pushed_fit n q (Pest.End index r 0 n.position) y.fit same (rw same at e);
        on = y.on;
        look = y.look;
        atom = y.atom;
        level = y.level;
        grown = omega (arith, y.grown, same, length-append q (Pest.End index r 0 n.position ∷ []));
      }) i

      go : (c : Bool) → Keeps g b p l a marks held (elim c
          [ false ↦ Ok n | true ↦ stop_if (leb g.capacity (length q)) (Pest.halted (Cause.TokensFull line) n) (λ _. Ok k) ])
      go false = keeps_ok n y i
      go true = room (leb g.capacity (length q)) refl

  rule_keeps : (line r : ℕ) (b : Bool) (f : ParserState → Ending ParserState) → Keeping g b f → Keeping g b (λ m. Pest.rule g true line r f m)
  rule_keeps line r b f h m x = go (Pest.produces m)
    where
      pi : ℕ
      pi = if eqb m.position m.attempt_pos then length m.pos_attempts else 0

      ni : ℕ
      ni = if eqb m.position m.attempt_pos then length m.neg_attempts else 0

      -- The body began with as many tokens, or one more.
      ends : (prev held : ℕ) → length m.queue ≤ held → (y : Ending ParserState)
          → Keeps g b m.position m.lookahead m.atomicity (length m.stack.lengths) held y
          → KeepsFrom g b m (Pest.rule_end g true line r m.position (length m.queue) pi ni prev y)
      ends prev held l y (keeps_ok n w i) = tracking_keeps (is_negative n.lookahead) line r m.position pi ni prev x.edge.inside (λ t.
          Pest.close_rule g true line r (length m.queue) t) n w.fit
          (λ f ps ns j u v. close_keeps line r (length m.queue) (Pest.set_attempts f ps ns n)
          (record {
            fit = attempts_fit f ps ns n w.fit j u v;
            on = w.on;
            look = w.look;
            atom = w.atom;
            level = w.level;
            grown = omega (arith, w.grown);
          }) i)
      ends prev held l y (keeps_err n w) = tracking_keeps (not (is_negative n.lookahead)) line r m.position pi ni prev x.edge.inside (λ t.
          Err (if Pest.produces t then Pest.set_queue (take (length m.queue) t.queue) t else t)) n w.fit
          (λ f ps ns j u v. cut (Pest.set_attempts f ps ns n) (attempts_fit f ps ns n w.fit j u v) w.on w.look w.atom w.level
          (omega (arith, w.grown)) (Pest.produces (Pest.set_attempts f ps ns n)))
        where
          cut : (n : ParserState) → Fit g n → m.position ≤ n.position → n.lookahead ≡ m.lookahead → n.atomicity ≡ m.atomicity
              → length n.stack.lengths ≡ length m.stack.lengths
              → length m.queue ≤ length n.queue → (c : Bool)
              → KeepsFrom g b m (Err (if c then Pest.set_queue (take (length m.queue) n.queue) n else n))
          cut n w o lk at lv gr true = keeps_err (Pest.set_queue (take (length m.queue) n.queue) n)
              (record {
                fit = cut_fit n (length m.queue) w;
                on = o;
                look = lk;
                atom = at;
                level = lv;
                grown = omega (arith, length-take (length m.queue) n.queue);
              })
          cut n w o lk at lv gr false = keeps_err n (record { fit = w; on = o; look = lk; atom = at; level = lv; grown = gr })
      ends prev held l y (keeps_stop c) = keeps_stop c

      s : ParserState
      s = Pest.set_queue (m.queue ++ (Pest.Start 0 m.position ∷ [])) m

      room : (c : Bool) → leb g.capacity (length m.queue) ≡ c
          → KeepsFrom g b m (stop_if c (Pest.halted (Cause.TokensFull line) m) (λ _. Pest.rule_start g true line r pi ni f m s))
      room true e = keeps_stop _
      room false e = ends (Pest.attempts_at m.position s) (length s.queue)
          (omega (arith, length-append m.queue (Pest.Start 0 m.position ∷ []))) (f s) (h s (pushed_fit m m.queue (Pest.Start 0 m.position) x refl e))

      go : (c : Bool) → KeepsFrom g b m (elim c [
        | false ↦ Pest.rule_start g true line r pi ni f m m
        | true ↦ stop_if (leb g.capacity (length m.queue)) (Pest.halted (Cause.TokensFull line) m) (λ _. Pest.rule_start g true line r pi ni f m s)
      ])
      go false = ends (Pest.attempts_at m.position m) (length m.queue) (omega arith) (f m) (h m x)
      go true = room (leb g.capacity (length m.queue)) refl

-- ── All kinds ──
pub zero_or_more : (n : ℕ) → eqb n 0 ≡ false → 1 ≤ n
zero_or_more n e =
    let h : n ≢ 0 = eqb-false n 0 e in
    omega arith

-- What the tests of a run give: the rules' literals are UTF-8, the set of lines that may stand still is closed, and no repeat's body
-- is in it.
pub record Tested (g : Setting) (set : ℕ → Bool) : Type 0 where
  pub literals : (l : ℕ) → Literals (g.rule_at l).body
  pub closed : (l : ℕ) → set l ≡ false → still set (g.rule_at l).body ≡ false
  pub steady : (l : ℕ) → Steady set (g.rule_at l).body

module _ (g : Setting) (set : ℕ → Bool) (w : Tested g set) where
  module _ (room : Bool) (d : Exp → ParserState → Ending ParserState) (h : (e : Exp) → Literals e → Steady set e
      → Keeping g (still set e) (d e)) where
    stiller : (b c : Bool) (f : ParserState → Ending ParserState) → (c ≡ false → b ≡ false) → Keeping g b f → Keeping g c f
    stiller b c f k z m x = go (f m) (z m x)
      where
        go : (r : Ending ParserState) → KeepsFrom g b m r → KeepsFrom g c m r
        go r (keeps_ok n y i) = keeps_ok n y (λ e. i (k e))
        go r (keeps_err n y) = keeps_err n y
        go r (keeps_stop c) = keeps_stop c

    counted_keeps : (b : Bool) (k : ParserState → Ending ParserState) → Keeping g b k → Keeping g b (λ m. Pest.check_limit room true m k)
    counted_keeps b k z = entering_keeps g room true b k z

    end_keeps : Keeping g true (λ m. if Pest.at_end g.text m.position then Ok m else Err m)
    end_keeps m x = go (Pest.at_end g.text m.position)
      where
        go : (b : Bool) → KeepsFrom g true m (if b then Ok m else Err m)
        go true = keeps_ok m (stay g m x) not-true
        go false = keeps_err m (stay g m x)

    pub level_keeps : (e : Exp) → Literals e → Steady set e → Keeping g (still set e) (level g true room d e)
    level_keeps (Grammar.match_string l) u y = λ m x. rw (← string_same g.text l m.position)
        (moved_keeps g (eqb (length l) 0) (length l) m x _ (string_lands g.text eqb eqb_keeps l u m.position x.edge)
        (string_forward g.text eqb l m.position) (zero_or_more (length l)))
    level_keeps (Grammar.match_insensitive l) u y = λ m x. rw (← folded_same g.text l u m.position x.edge.inside x.edge.whole)
        (moved_keeps g (eqb (length l) 0) (length l) m x _ (string_lands g.text same_folded folded_keeps l u m.position x.edge)
        (string_forward g.text same_folded l m.position) (zero_or_more (length l)))
    level_keeps (Grammar.match_range a b) u y = λ m x. rw (← range_same g.text a b m.position)
        (moved_keeps g false 1 m x _ (char_lands g.text (within a b) m.position x.edge) (char_forward g.text (within a b) m.position) (λ e.
        omega arith))
    level_keeps (Grammar.skip n) u y = λ m x. rw (← skip_same g.text n m.position x.edge.inside)
        (moved_keeps g (eqb n 0) n m x _ (skip_lands g.text n m.position x.edge) (skip_forward g.text n m.position) (zero_or_more n))
    level_keeps Grammar.end_of_input u y = end_keeps
    level_keeps (Grammar.and_then a b) u y =
        and_keeps g (still set a) (still set b) (level g true room d a) (level g true room d b) (level_keeps a u.0 y.0) (level_keeps b u.1 y.1)
    level_keeps (Grammar.or_else a b) u y = or_keeps g (still set a) (still set b) (level g true room d a) (level g true room d b)
        (level_keeps a u.0 y.0) (level_keeps b u.1 y.1)
    level_keeps (Grammar.rule line r e) u y =
        counted_keeps (still set e) (λ m. Pest.rule g true line r (d e) m) (rule_keeps g line r (still set e) (d e) (h e u y))
    level_keeps (Grammar.sequence e) u y = counted_keeps (still set e) (λ m. Pest.sequence (d e) m) (sequence_keeps g (still set e) (d e) (h e u y))
    level_keeps (Grammar.repeat e) u y = counted_keeps true (λ m. Pest.repeat (most_rounds g m.position) (d e) m) (λ m x.
        repeat_keeps g (d e) (still set e) (h e u y.1) (most_rounds g m.position) m x)
    level_keeps (Grammar.optional e) u y = counted_keeps true (λ m. Pest.optional (d e m)) (optional_keeps g (still set e) (d e) (h e u y))
    level_keeps (Grammar.lookahead b e) u y = counted_keeps true (λ m. Pest.lookahead b (d e) m) (lookahead_keeps g b (still set e) (d e) (h e u y))
    level_keeps (Grammar.atomic a e) u y = counted_keeps (still set e) (λ m. Pest.atomic a (d e) m) (atomic_keeps g a (still set e) (d e) (h e u y))
    level_keeps (Grammar.stack_push line e) u y =
        counted_keeps (still set e) (λ m. Pest.stack_push g.text true line (d e) m) (push_keeps g line (still set e) (d e) (h e u y))
    level_keeps (Grammar.stack_pop line) u y = pop_keeps g line
    level_keeps (Grammar.stack_match_peek_slice i j t) u y = peek_keeps g i j t
    level_keeps (Grammar.stack_match_pop line) u y = λ m x. match_pop_keeps g line m.stack.cache m refl x m.position (omega arith) x.edge
    level_keeps (Grammar.restore_on_err e) u y =
        entering_keeps g room false (still set e) (λ m. Pest.restore_on_err (d e) m) (restore_keeps g (still set e) (d e) (h e u y))
    level_keeps (Grammar.tag_node t) u y = tag_keeps g t
    level_keeps (Grammar.call l) u y =
        let r : RuleLine = g.rule_at l in
        counted_keeps (set l) (λ m. Pest.rule g true r.line r.rule (d r.body) m)
        (rule_keeps g r.line r.rule (set l) (d r.body) (stiller (still set r.body) (set l) (d r.body) (w.closed l)
        (h r.body (w.literals l) (w.steady l))))

  pub refused_keeps : (e : Exp) → Literals e → Steady set e → Keeping g (still set e) (no_deeper g true e)
  refused_keeps e u y m x = keeps_err (no_room m) (stay g (no_room m) x)
    where
      no_room : ParserState → ParserState
      no_room m =
          Pest.set_call_tracker
          (record { current_call_limit = m.call_tracker.current_call_limit; limit_reached = Some LimitKind.Stack; calls = m.call_tracker.calls })
          m

  -- The invariant, at every depth and for every tree.
  pub eval_keeps : (depth : ℕ) (e : Exp) → Literals e → Steady set e → Keeping g (still set e) (eval g true depth e)
  eval_keeps zero e u y = level_keeps false (no_deeper g true) refused_keeps e u y
  eval_keeps (suc n) e u y = level_keeps true (eval g true n) (eval_keeps n) e u y
