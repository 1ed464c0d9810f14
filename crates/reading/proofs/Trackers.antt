-- An evaluation reads the tracker only to enter and to see whether a limit cause is set. So two evaluations of one tree that start
-- alike but for their trackers stay alike as long as their trackers are related (`R`); once the first is lost (`L`), it stays lost and
-- nothing is said of the second. One lemma for each combinator, over any deeper evaluations.
use mathlib.Core.Path.{◌≡◌, refl, sym, ap, subst}
use mathlib.Core.Bool.{Bool, true, false, ◌&&◌, not}
use mathlib.Core.List.{List, [], ◌∷◌}
use Rattle.std.specs.Prelude.{if◌then◌else◌, Option, None, Some}
use Prim.Native.Nat.{ℕ, zero, suc, ◌-◌}
use lib.IntN.{ℤ}
use lib.ListN.{length}
use lib.Dec.{ltb, leb}
use Rattle.matching.specs.Position as Position
use Rattle.reading.specs.declared.parser_state.Lookahead.{Lookahead}
use Rattle.reading.specs.declared.parser_state.Atomicity.{Atomicity}
use Rattle.reading.specs.declared.parser_state.Cause.{Cause}
use Rattle.reading.specs.Ending.{Halted, Ending, Ok, Err, Stop, on_ok, on_err, Span, is_negative, is_none, is_atomic}
use Rattle.reading.specs.Grammar.{Exp, match_string, match_insensitive, match_range, skip, end_of_input, and_then, or_else, rule, sequence, repeat}
use Rattle.reading.specs.Grammar.{optional, lookahead, atomic, stack_push, stack_pop, stack_match_peek_slice, stack_match_pop, restore_on_err}
use Rattle.reading.specs.Grammar.{tag_node, call, RuleLine}
use Rattle.reading.specs.Forest.{add, tag_last}
use Rattle.reading.specs.Reading.{Setting, State, Tracker, Note, Entry, entered, refused, enter, with_tracker, calls_in, halted, limited, is_set}
use Rattle.reading.specs.Reading.{at_rule, level, entering, with_stack, with_siblings, with_attempts, with_lookahead, with_atomicity, lookahead_in}
use Rattle.reading.specs.Reading.{open_checkpoint, opened, recorded, no_token, note_at, tracking, tracked, attempts_full, closed, discarded, rule_end}
use Rattle.reading.specs.Reading.{rule_body, sequence_end, round_end, rounds, optional_end, lookahead_end, back_to, atomic_end, push_end, restore_end}
use Rattle.reading.specs.Reading.{moved, tagged, popping, popped, match_popped, sliced, peeked, after_entry, after_entries, entries, index_in, end_in}
use Rattle.reading.specs.Reading.{lower_to, debt, most_debt, most_entries}

-- ── What never looks at the tracker ──
-- The same ending with another tracker.
abbrev retrack : Tracker → Ending State → Ending State
retrack t (Ok s) = Ok (with_tracker t s)
retrack t (Err s) = Err (with_tracker t s)
retrack t (Stop h) = Stop (record { cause = h.cause; calls = calls_in t })

abbrev Deaf : (State → Ending State) → Type 0
Deaf f = (t : Tracker) (s : State) → f (with_tracker t s) ≡ retrack t (f s)

-- A test that does not look at it either, as a function and as an `elim`.
picked : (t : Tracker) (b : Bool) (x y : Ending State) {x' y' : Ending State} → x' ≡ retrack t x → y' ≡ retrack t y
    → (if b then x' else y') ≡ retrack t (if b then x else y)
picked t true x y p q = p
picked t false x y p q = q

either : (t : Tracker) (b : Bool) (x y : Ending State) {x' y' : Ending State} → x' ≡ retrack t x → y' ≡ retrack t y
    → (elim b as (λ _. Ending State) [ true ↦ x' | false ↦ y' ]) ≡ retrack t (elim b [ true ↦ x | false ↦ y ])
either t true x y p q = p
either t false x y p q = q

moved_deaf : (q : ℕ → Option ℕ) → Deaf (λ s. moved (q s.position) s)
moved_deaf q t s = go (q s.position)
  where
    go : (o : Option ℕ) → moved o (with_tracker t s) ≡ retrack t (moved o s)
    go None = refl
    go (Some p) = refl

tag_deaf : (u : ℕ) → Deaf (tagged u)
tag_deaf u t s = picked t (is_none s.lookahead) (Ok (with_siblings (tag_last u s.siblings) s.outer s)) (Ok s) refl refl

module _ (text : List ℕ) where
  end_deaf : Deaf (λ s. if Position.at_end text s.position then Ok s else Err s)
  end_deaf t s = picked t (Position.at_end text s.position) (Ok s) (Err s) refl refl

  popping_deaf : (line : ℕ) (rest : List Span) (k : State → Ending State) → Deaf k → Deaf (λ s. popping text line rest s k)
  popping_deaf line rest k h t s =
      let u : State = with_stack rest (lower_to (length rest) s.checkpoints) s in
      either t (ltb most_debt (debt u.checkpoints)) (Stop (halted (Cause.StackFull line) s)) (k u) refl (h t u)

  popped_deaf : (line : ℕ) (v : List Span) → Deaf (popped text line v)
  popped_deaf line [] t s = refl
  popped_deaf line (x ∷ rest) t s = popping_deaf line rest (λ s. moved (after_entry text x s.position) s) (moved_deaf (after_entry text x)) t s

  match_popped_deaf : (line : ℕ) (v : List Span) (p : ℕ) → Deaf (match_popped text line v p)
  match_popped_deaf line [] p t s = refl
  match_popped_deaf line (x ∷ rest) p t s =
      popping_deaf line rest (onward (after_entry text x p)) (go (after_entry text x p) (match_popped_deaf line rest)) t s
    where
      onward : Option ℕ → State → Ending State
      onward o s = elim o [ None ↦ Err s | Some q ↦ match_popped text line rest q s ]

      go : (o : Option ℕ) → ((q : ℕ) → Deaf (match_popped text line rest q)) → Deaf (onward o)
      go None ih t s = refl
      go (Some q) ih t s = ih q t s

  peeked_deaf : (i : ℤ) (j : Option ℤ) (d : Bool) → Deaf (peeked text i j d)
  peeked_deaf i j d t s = go (index_in (length s.stack) i) (end_in (length s.stack) j)
    where
      pick : (x y : Option ℕ) → State → Ending State
      pick x y u = elim x [ None ↦ Err u | Some start ↦ elim y [ None ↦ Err u | Some end ↦ sliced text start end d u ] ]

      go : (x y : Option ℕ) → pick x y (with_tracker t s) ≡ retrack t (pick x y s)
      go None y = refl
      go (Some start) None = refl
      go (Some start) (Some end) =
          either t (leb end start) (Ok s) (moved (after_entries text (entries start end d s.stack) s.position) s) refl
          (moved_deaf (after_entries text (entries start end d s.stack)) t s)

module _ (g : Setting) (line r : ℕ) where
  tracking_deaf : (due : Lookahead → Bool) (p : ℕ) (n : Note) (k : State → Ending State) → Deaf k
      → Deaf (λ s. tracking (due s.lookahead) line r p n s k)
  tracking_deaf due p n k h t s =
      let u : State = with_attempts (tracked (is_negative s.lookahead) p r n s.attempts) s in
      let full : Bool = attempts_full u.attempts in
      let stop : Ending State = Stop (halted (Cause.AttemptsFull line) s) in
      either t (due s.lookahead && not (is_atomic s.atomicity)) (elim full [ true ↦ stop | false ↦ k u ]) (k s)
      (either t full stop (k u) refl (h t u)) (h t s)

  closed_deaf : (rec : Bool) (s : State) → Deaf (closed g rec line r s)
  closed_deaf false s t u = refl
  closed_deaf true s t u =
      either t (no_token g u) (Stop (halted (Cause.TokensFull line) u))
      (Ok (with_siblings (add s.siblings r 0 s.position u.position u.siblings) s.outer u)) refl refl

  discarded_deaf : (rec : Bool) (s : State) → Deaf (discarded g rec s)
  discarded_deaf false s t u = refl
  discarded_deaf true s t u = refl

-- ── Two evaluations ──
module _ (R : Tracker → Tracker → Type 0) (L : Tracker → Type 0) where
  -- An ending whose tracker is lost.
  pub data Off : Ending State → Type 0 where
    off_ok : (s : State) → L s.tracker → Off (Ok s)
    off_err : (s : State) → L s.tracker → Off (Err s)
    off_stop : (c : Cause) (s : State) → L s.tracker → Off (Stop (halted c s))

  -- Two endings that are the same but for their related trackers; or the first is lost.
  pub data Both : Ending State → Ending State → Type 0 where
    both_ok : (s : State) (t : Tracker) → R s.tracker t → Both (Ok s) (Ok (with_tracker t s))
    both_err : (s : State) (t : Tracker) → R s.tracker t → Both (Err s) (Err (with_tracker t s))
    both_stop : (c : Cause) (s : State) (t : Tracker) → R s.tracker t → Both (Stop (halted c s)) (Stop (halted c (with_tracker t s)))
    off : (x y : Ending State) → Off x → Both x y

  pub data OffEntry : Entry → Type 0 where
    off_in : (t : Tracker) → L t → OffEntry (entered t)
    off_out : (t : Tracker) → L t → OffEntry (refused t)

  pub data BothEntry : Entry → Entry → Type 0 where
    both_in : (t u : Tracker) → R t u → BothEntry (entered t) (entered u)
    both_out : (t u : Tracker) → R t u → BothEntry (refused t) (refused u)
    off_entry : (x y : Entry) → OffEntry x → BothEntry x y

  -- The second function follows the first.
  pub record Follows (f f' : State → Ending State) : Type 0 where
    pub alike : (s : State) (t : Tracker) → R s.tracker t → Both (f s) (f' (with_tracker t s))
    pub lost : (s : State) → L s.tracker → Off (f s)

  -- The same of what a combinator makes of its body's ending.
  record Carries (F F' : Ending State → Ending State) : Type 0 where
    both : (x y : Ending State) → Both x y → Both (F x) (F' y)
    gone : (x : Ending State) → Off x → Off (F x)

  deaf : (f : State → Ending State) → Deaf f → Follows f f
  deaf f h = record {
    alike = λ s t r. rw (h t s) (subst (λ (x : Ending State). Both x (retrack t (f s))) (sym (h s.tracker s)) (same s t r (f s)));
    lost = λ s l. subst Off (sym (h s.tracker s)) (still s l (f s));
  }
    where
      same : (s : State) (t : Tracker) → R s.tracker t → (x : Ending State) → Both (retrack s.tracker x) (retrack t x)
      same s t r (Ok u) = both_ok (with_tracker s.tracker u) t r
      same s t r (Err u) = both_err (with_tracker s.tracker u) t r
      same s t r (Stop h) = both_stop h.cause s t r

      still : (s : State) → L s.tracker → (x : Ending State) → Off (retrack s.tracker x)
      still s l (Ok u) = off_ok (with_tracker s.tracker u) l
      still s l (Err u) = off_err (with_tracker s.tracker u) l
      still s l (Stop h) = off_stop h.cause s l

  -- A test that does not look at the tracker.
  tested : (b : State → Bool) → ((t : Tracker) (s : State) → b (with_tracker t s) ≡ b s) → (f f' k k' : State → Ending State) → Follows f f'
      → Follows k k'
      → Follows (λ s. elim (b s) [ true ↦ f s | false ↦ k s ]) (λ s. elim (b s) [ true ↦ f' s | false ↦ k' s ])
  tested b e f f' k k' h i = record { alike = λ s t r. rw (e t s) (same s t r (b s)); lost = λ s l. still s l (b s) }
    where
      same : (s : State) (t : Tracker) → R s.tracker t → (c : Bool)
          → Both (elim c [ true ↦ f s | false ↦ k s ]) (elim c [ true ↦ f' (with_tracker t s) | false ↦ k' (with_tracker t s) ])
      same s t r true = h.alike s t r
      same s t r false = i.alike s t r

      still : (s : State) → L s.tracker → (c : Bool) → Off (elim c [ true ↦ f s | false ↦ k s ])
      still s l true = h.lost s l
      still s l false = i.lost s l

  -- A combinator's end: a stop stays, and Ok and Err are followed.
  ends : (F F' : Ending State → Ending State) → ((h : Halted) → F (Stop h) ≡ Stop h) → ((h : Halted) → F' (Stop h) ≡ Stop h)
      → Follows (λ s. F (Ok s)) (λ s. F' (Ok s)) → Follows (λ s. F (Err s)) (λ s. F' (Err s)) → Carries F F'
  ends F F' stop stop' ok err = record { both = both; gone = gone }
    where
      gone : (x : Ending State) → Off x → Off (F x)
      gone x (off_ok s l) = ok.lost s l
      gone x (off_err s l) = err.lost s l
      gone x (off_stop c s l) = rw (stop (halted c s)) (off_stop c s l)

      both : (x y : Ending State) → Both x y → Both (F x) (F' y)
      both x y (both_ok s t r) = ok.alike s t r
      both x y (both_err s t r) = err.alike s t r
      both x y (both_stop c s t r) = rw (stop (halted c s), stop' (halted c (with_tracker t s))) (both_stop c s t r)
      both x y (off z w o) = off (F z) (F' w) (gone z o)

  -- A combinator around its body: `prepared` comes before it, `F` after.
  around : (F F' : State → Ending State → Ending State) → ((t : Tracker) (s : State) → Carries (F s) (F' (with_tracker t s)))
      → (prepared : State → State) → ((t : Tracker) (s : State) → prepared (with_tracker t s) ≡ with_tracker t (prepared s))
      → (d d' : State → Ending State) → Follows d d' → Follows (λ s. F s (d (prepared s))) (λ s. F' s (d' (prepared s)))
  around F F' c prepared p d d' h = record {
    alike = λ s t r. rw (p t s) ((c t s).both _ _ (h.alike (prepared s) t (subst (λ (u : Tracker). R u t) (own s) r)));
    lost = λ s l. (c s.tracker s).gone _ (h.lost (prepared s) (subst L (own s) l));
  }
    where
      own : (s : State) → s.tracker ≡ (prepared s).tracker
      own s = sym (ap (λ (u : State). u.tracker) (p s.tracker s))

  ok_follows : Follows (λ s. Ok s) (λ s. Ok s)
  ok_follows = deaf _ (λ t s. refl)

  err_follows : Follows (λ s. Err s) (λ s. Err s)
  err_follows = deaf _ (λ t s. refl)

  -- Related trackers have a limit cause, or neither has.
  module _ (same_cause : (t u : Tracker) → R t u → is_set u.cause ≡ is_set t.cause) where
    by_limit : (f k : State → Ending State) → Follows f f → Follows k k
        → Follows (λ s. if limited s then f s else k s) (λ s. if limited s then f s else k s)
    by_limit f k h i = record {
      alike = λ s t r. subst (λ (b : Bool). Both (if limited s then f s else k s) (if b then f (with_tracker t s) else k (with_tracker t s)))
          (sym (same_cause s.tracker t r)) (same s t r (limited s));
      lost = λ s l. still s l (limited s);
    }
      where
        same : (s : State) (t : Tracker) → R s.tracker t → (c : Bool)
            → Both (if c then f s else k s) (if c then f (with_tracker t s) else k (with_tracker t s))
        same s t r true = h.alike s t r
        same s t r false = i.alike s t r

        still : (s : State) → L s.tracker → (c : Bool) → Off (if c then f s else k s)
        still s l true = h.lost s l
        still s l false = i.lost s l

    forgiven : Follows (λ s. if limited s then Err s else Ok s) (λ s. if limited s then Err s else Ok s)
    forgiven = by_limit (λ s. Err s) (λ s. Ok s) err_follows ok_follows

    -- ── Kinds 8 to 14 and 18, over their bodies ──
    module _ (d d' : State → Ending State) (h : Follows d d') where
      sequence_follows : Follows (λ s. sequence_end s (d (open_checkpoint s))) (λ s. sequence_end s (d' (open_checkpoint s)))
      sequence_follows =
          around sequence_end sequence_end (λ t s. ends _ _ (λ h. refl) (λ h. refl) (deaf _ (λ t u. refl)) (deaf _ (λ t u. refl))) open_checkpoint
          (λ t s. refl) d d' h

      restore_follows : Follows (λ s. restore_end s (d (open_checkpoint s))) (λ s. restore_end s (d' (open_checkpoint s)))
      restore_follows =
          around restore_end restore_end (λ t s. ends _ _ (λ h. refl) (λ h. refl) (deaf _ (λ t u. refl)) (deaf _ (λ t u. refl))) open_checkpoint
          (λ t s. refl) d d' h

      atomic_follows : (a : Atomicity) → Follows (λ s. atomic_end s (d (with_atomicity a s))) (λ s. atomic_end s (d' (with_atomicity a s)))
      atomic_follows a =
          around atomic_end atomic_end (λ t s. ends _ _ (λ h. refl) (λ h. refl) (deaf _ (λ t u. refl)) (deaf _ (λ t u. refl))) (with_atomicity a)
          (λ t s. refl) d d' h

      optional_follows : Follows (λ s. optional_end (d s)) (λ s. optional_end (d' s))
      optional_follows =
          around (λ s. optional_end) (λ s. optional_end) (λ t s. ends _ _ (λ h. refl) (λ h. refl) ok_follows forgiven) (λ s. s) (λ t s. refl) d d' h

      push_follows : (line : ℕ) → Follows (λ s. push_end line s (d s)) (λ s. push_end line s (d' s))
      push_follows line =
          around (push_end line) (push_end line) (λ t s. ends _ _ (λ h. refl) (λ h. refl) (deaf _ (pushed s)) err_follows) (λ s. s)
          (λ t s. refl) d d' h
        where
          pushed : (s : State) → Deaf (λ u. push_end line s (Ok u))
          pushed s t u =
              either t (leb most_entries (length u.stack)) (Stop (halted (Cause.StackFull line) u))
              (Ok (with_stack (record { start = s.position; end = u.position } ∷ u.stack) u.checkpoints u)) refl refl

      lookahead_follows : (b : Bool)
          → Follows (λ s. lookahead_end b s (d (open_checkpoint (with_lookahead (lookahead_in b s.lookahead) s))))
          (λ s. lookahead_end b s (d' (open_checkpoint (with_lookahead (lookahead_in b s.lookahead) s))))
      lookahead_follows b = around (lookahead_end b) (lookahead_end b)
          (λ t s. ends _ _ (λ h. refl) (λ h. refl)
          (by_limit (λ u. Err (back_to s u)) (λ u. if b then Ok (back_to s u) else Err (back_to s u)) (deaf _ (λ t u. refl))
          (deaf _ (λ t u. picked t b (Ok (back_to s u)) (Err (back_to s u)) refl refl)))
          (by_limit (λ u. Err (back_to s u)) (λ u. if b then Err (back_to s u) else Ok (back_to s u)) (deaf _ (λ t u. refl))
          (deaf _ (λ t u. picked t b (Err (back_to s u)) (Ok (back_to s u)) refl refl))))
          (λ s. open_checkpoint (with_lookahead (lookahead_in b s.lookahead) s)) (λ t s. refl) d d' h

      rounds_follows : (n : ℕ) → Follows (rounds n d) (rounds n d')
      rounds_follows zero = err_follows
      rounds_follows (suc n) =
          around (λ s x. round_end x (rounds n d)) (λ s x. round_end x (rounds n d'))
          (λ t s. ends _ _ (λ h. refl) (λ h. refl) (rounds_follows n) forgiven) (λ s. s) (λ t s. refl) d d' h

      repeat_follows : (text : List ℕ)
          → Follows (λ s. rounds (suc (length text - s.position)) d s) (λ s. rounds (suc (length text - s.position)) d' s)
      repeat_follows text = record {
        alike = λ s t r. (rounds_follows (suc (length text - s.position))).alike s t r;
        lost = λ s l. (rounds_follows (suc (length text - s.position))).lost s l;
      }

      rule_follows : (g : Setting) (line r : ℕ) → Follows (rule_body g line r d) (rule_body g line r d')
      rule_follows g line r = tested recorded (λ t s. refl) _ _ _ _
          (tested (no_token g) (λ t s. refl) _ _ _ _ (deaf (λ s. Stop (halted (Cause.TokensFull line) s)) (λ t s. refl))
          (around (end true) (end true) (carried true) (opened g) (λ t s. refl) d d' h))
          (around (end false) (end false) (carried false) (λ s. s) (λ t s. refl) d d' h)
        where
          end : (rec : Bool) → State → Ending State → Ending State
          end rec s x = rule_end g rec line r (note_at s.position s.attempts) s x

          ok_deaf : (rec : Bool) (s : State) → Deaf (λ u. end rec s (Ok u))
          ok_deaf rec s =
              tracking_deaf g line r is_negative s.position (note_at s.position s.attempts) (closed g rec line r s) (closed_deaf g line r rec s)

          err_deaf : (rec : Bool) (s : State) → Deaf (λ u. end rec s (Err u))
          err_deaf rec s =
              tracking_deaf g line r (λ l. not (is_negative l)) s.position (note_at s.position s.attempts) (discarded g rec s)
              (discarded_deaf g line r rec s)

          carried : (rec : Bool) (t : Tracker) (s : State) → Carries (end rec s) (end rec (with_tracker t s))
          carried true t s = ends _ _ (λ h. refl) (λ h. refl) (deaf _ (ok_deaf true s)) (deaf _ (err_deaf true s))
          carried false t s = ends _ _ (λ h. refl) (λ h. refl) (deaf _ (ok_deaf false s)) (deaf _ (err_deaf false s))

    -- ── All kinds ──
    -- One level of open calls on either side, with what entering there does to trackers.
    module _ (g : Setting) (room room' : Bool)
        (enters : (counts : Bool) (t u : Tracker) → R t u → BothEntry (enter room counts t) (enter room' counts u))
        (stays : (counts : Bool) (t : Tracker) → L t → OffEntry (enter room counts t)) (d d' : Exp → State → Ending State)
        (h : (e : Exp) → Follows (d e) (d' e)) where
      entering_follows : (counts : Bool) (k k' : State → Ending State) → Follows k k'
          → Follows (λ s. entering room counts s k) (λ s. entering room' counts s k')
      entering_follows counts k k' f =
          record { alike = λ s t r. same s t _ _ (enters counts s.tracker t r); lost = λ s l. still s _ (stays counts s.tracker l) }
        where
          still : (s : State) (x : Entry) → OffEntry x → Off (elim x [ refused t ↦ Err (with_tracker t s) | entered t ↦ k (with_tracker t s) ])
          still s x (off_in t l) = f.lost (with_tracker t s) l
          still s x (off_out t l) = off_err (with_tracker t s) l

          same : (s : State) (t : Tracker) (x y : Entry) → BothEntry x y
              → Both (elim x [ refused t ↦ Err (with_tracker t s) | entered t ↦ k (with_tracker t s) ])
              (elim y [ refused t ↦ Err (with_tracker t s) | entered t ↦ k' (with_tracker t s) ])
          same s t x y (both_in u v r) = f.alike (with_tracker u s) v r
          same s t x y (both_out u v r) = both_err (with_tracker u s) v r
          same s t x y (off_entry z w o) = off _ _ (still s z o)

      counted : (k k' : State → Ending State) → Follows k k' → Follows (λ s. entering room true s k) (λ s. entering room' true s k')
      counted k k' f = entering_follows true k k' f

      at_rule_follows : (r : RuleLine) → Follows (at_rule g room d r) (at_rule g room' d' r)
      at_rule_follows r = counted _ _ (rule_follows (d r.body) (d' r.body) (h r.body) g r.line r.rule)

      pub level_follows : (e : Exp) → Follows (level g room d e) (level g room' d' e)
      level_follows (match_string l) = deaf _ (moved_deaf (Position.match_string g.text l))
      level_follows (match_insensitive l) = deaf _ (moved_deaf (Position.match_insensitive g.text l))
      level_follows (match_range a b) = deaf _ (moved_deaf (Position.match_range g.text a b))
      level_follows (skip n) = deaf _ (moved_deaf (Position.skip g.text n))
      level_follows end_of_input = deaf _ (end_deaf g.text)
      level_follows (and_then a b) =
          around (λ s x. on_ok x (level g room d b)) (λ s x. on_ok x (level g room' d' b))
          (λ t s. ends _ _ (λ h. refl) (λ h. refl) (level_follows b) err_follows) (λ s. s) (λ t s. refl) _ _ (level_follows a)
      level_follows (or_else a b) =
          around (λ s x. on_err x (level g room d b)) (λ s x. on_err x (level g room' d' b))
          (λ t s. ends _ _ (λ h. refl) (λ h. refl) ok_follows (level_follows b)) (λ s. s) (λ t s. refl) _ _ (level_follows a)
      level_follows (rule line r e) = at_rule_follows (record { line = line; rule = r; body = e })
      level_follows (sequence e) = counted _ _ (sequence_follows (d e) (d' e) (h e))
      level_follows (repeat e) = counted _ _ (repeat_follows (d e) (d' e) (h e) g.text)
      level_follows (optional e) = counted _ _ (optional_follows (d e) (d' e) (h e))
      level_follows (lookahead b e) = counted _ _ (lookahead_follows (d e) (d' e) (h e) b)
      level_follows (atomic a e) = counted _ _ (atomic_follows (d e) (d' e) (h e) a)
      level_follows (stack_push line e) = counted _ _ (push_follows (d e) (d' e) (h e) line)
      level_follows (stack_pop line) = deaf _ (λ t s. popped_deaf g.text line s.stack t s)
      level_follows (stack_match_peek_slice i j b) = deaf _ (peeked_deaf g.text i j b)
      level_follows (stack_match_pop line) = deaf _ (λ t s. match_popped_deaf g.text line s.stack s.position t s)
      level_follows (restore_on_err e) = entering_follows false _ _ (restore_follows (d e) (d' e) (h e))
      level_follows (tag_node u) = deaf _ (tag_deaf u)
      level_follows (call l) = at_rule_follows (g.rule_at l)
