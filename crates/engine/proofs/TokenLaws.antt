-- Tokens in an area: a write inside one token changes that token of the queue and no other. So a push, a partner and a tag are each
-- one case of a single law over the token's five numbers.
use Rattle.std.specs.Prelude.{if◌then◌else◌}
use mathlib.Core.Path.{◌≡◌, refl, sym, ap, ap₂, ◌∙◌}
use mathlib.Core.List.{List, [], ◌∷◌, ◌++◌, append_assoc}
use Prim.Native.Nat.{ℕ, zero, suc, ◌+◌, ◌*◌, ◌-◌, ◌≤◌, ◌<◌}
use native.Mathlib.Omega.{arith}
use native.Mathlib.Numerals.{add-one}
use native.Mathlib.Decide.{dec_lt, dec_le}
use lib.ListN.{length, get_or, take, set, length-append, get_or-append}
use lib.Seq.{get_or-set_same, get_or-set_other, take-append-le, take_all, take-suc, set-append_left, set_out, set_at, get_or_at, set-get_or}
use lib.Dec.{eqb}
use borrow.Author.Tests.{eq-eqb, ne_eqb}
use Rattle.std.proofs.lemmas.Simd.{length-put_chunk, get_or-put_chunk_below, get_or-put_chunk_above, get_or-put_chunk_at}
use Rattle.reading.specs.Forest.{Token}
use Rattle.reading.specs.Pest.{QueueableToken, Start, End, with_end, tag_last}
use Rattle.engine.specs.Areas.{Outside, token_at, queue_of}
use Rattle.reading.specs.Outcome.{numbers, filled}
use Rattle.reading.specs.Answer.{token_of, tokens_of}
use Rattle.engine.specs.Tokens.{five_at, put_token, Written, Pushed, Patched, Tagged, Settled, SettledTo}
use Rattle.engine.proofs.Regions.{outside_refl, outside_trans, outside_wider}
use Rattle.engine.proofs.AreaLaws.{outside_set_in}
use Rattle.reading.proofs.QueueLaws.{tag_at_end, tag_at_start}
use Rattle.reading.proofs.AnswerLaws.{tokens_append}

-- ── a token by its five numbers ──
abbrev pub token_by : Token → QueueableToken
token_by t = if eqb t.kind 1 then Start t.partner t.position else End t.partner t.rule t.tag t.position

pub five_ext : {k k' i i' p p' r r' t t' : ℕ} → k ≡ k' → i ≡ i' → p ≡ p' → r ≡ r' → t ≡ t'
    → ◌≡◌ {A = Token} (record { kind = k; partner = i; position = p; rule = r; tag = t })
    (record { kind = k'; partner = i'; position = p'; rule = r'; tag = t' })
five_ext a b c d e = λ x. record { kind = a x; partner = b x; position = c x; rule = d x; tag = e x }

-- What a token stands for gives its numbers back.
pub token_back : (t : QueueableToken) → token_by (token_of t) ≡ t
token_back (Start i p) = refl
token_back (End i r t p) = refl

-- ── the queue ──
pub queue_length : (a : List ℕ) (n : ℕ) → length (queue_of a n) ≡ n
unfolding queue_of
queue_length a zero = refl
queue_length a (suc n) = length-append (queue_of a n) (token_at a n ∷ []) ∙ ap (λ (k : ℕ). k + 1) (queue_length a n) ∙ add-one n

five_same : (a b : List ℕ) (j : ℕ) → ((k : ℕ) → j * 5 ≤ k → k < j * 5 + 5 → get_or a k 0 ≡ get_or b k 0) → five_at a j ≡ five_at b j
five_same a b j h = five_ext (h _ (omega arith) (omega arith)) (h _ (omega arith) (omega arith)) (h _ (omega arith) (omega arith))
    (h _ (omega arith) (omega arith)) (h _ (omega arith) (omega arith))

-- What stands below the first n tokens' end decides them.
pub queue_same : (n : ℕ) (a b : List ℕ) → ((k : ℕ) → k < n * 5 → get_or a k 0 ≡ get_or b k 0) → queue_of a n ≡ queue_of b n
unfolding queue_of
queue_same zero a b h = refl
queue_same (suc n) a b h =
    ap₂ (λ (q : List QueueableToken) (t : Token). q ++ (token_by t ∷ [])) (queue_same n a b (λ k l. h k (omega arith)))
    (five_same a b n (λ k l m. h k (omega arith)))

-- `truncate`
pub queue_take : (a : List ℕ) (n k : ℕ) → k ≤ n → take k (queue_of a n) ≡ queue_of a k
unfolding queue_of
queue_take a zero k h = let e : k ≡ 0 = omega arith in rw e
queue_take a (suc n) k h = go (λ l. queue_take a n k l) (dec_le k n)
  where
    go : (k ≤ n → take k (queue_of a n) ≡ queue_of a k) → Dec (k ≤ n) → take k (queue_of a n ++ (token_at a n ∷ [])) ≡ queue_of a k
    go r (yes l) = take-append-le k (queue_of a n) (token_at a n ∷ []) (rw (queue_length a n) l) ∙ r l
    go r (no f) =
        let e : k ≡ suc n = omega arith in
        rw e (take_all (suc n) (queue_of a (suc n)) (omega (arith, queue_length a (suc n))))

pub queue_getD : (a : List ℕ) (n j : ℕ) (d : QueueableToken) → j < n → get_or (queue_of a n) j d ≡ token_at a j
unfolding queue_of
queue_getD a zero j d h = absurd (omega arith)
queue_getD a (suc n) j d h = go (λ l. queue_getD a n j d l) (dec_lt j n)
  where
    go : (j < n → get_or (queue_of a n) j d ≡ token_at a j) → Dec (j < n) → get_or (queue_of a n ++ (token_at a n ∷ [])) j d ≡ token_at a j
    go r (yes l) = get_or-append (queue_of a n) (token_at a n ∷ []) d j (omega (arith, queue_length a n)) ∙ r l
    go r (no l) =
        let e : n ≡ j = omega arith in
        get_or_at (queue_of a n) (token_at a n) [] d j (queue_length a n ∙ e) ∙ ap (token_at a) e

-- ── a write inside the token j ──
module _ (a b : List ℕ) (j : ℕ) (o : Outside (j * 5) (j * 5 + 5) a b) where
  pub before_kept : (n : ℕ) → n ≤ j → queue_of b n ≡ queue_of a n
  before_kept n h = sym (queue_same n a b (λ k l. o.below k (omega arith)))

  five_other : (i : ℕ) → (i < j → ⊥) → (i ≡ j → ⊥) → five_at b i ≡ five_at a i
  five_other i f g = sym (five_same a b i (λ k l m. o.above k (omega arith)))

  five_below : (i : ℕ) → i < j → five_at b i ≡ five_at a i
  five_below i h = sym (five_same a b i (λ k l m. o.below k (omega arith)))

  pub token_changed : (n : ℕ) → j < n → queue_of b n ≡ set (queue_of a n) j (token_at b j)
  unfolding queue_of
  token_changed zero h = absurd (omega arith)
  token_changed (suc n) h = go (λ l. token_changed n l) (dec_lt j n)
    where
      go : (j < n → queue_of b n ≡ set (queue_of a n) j (token_at b j)) → Dec (j < n)
          → queue_of b n ++ (token_at b n ∷ []) ≡ set (queue_of a n ++ (token_at a n ∷ [])) j (token_at b j)
      go r (yes l) =
          ap₂ (λ (q : List QueueableToken) (t : Token). q ++ (token_by t ∷ [])) (r l) (five_other n (λ x. omega arith) (λ x. omega arith))
          ∙ sym (set-append_left (queue_of a n) (token_at a n ∷ []) j (token_at b j) (rw (queue_length a n) l))
      go r (no l) =
          let e : n ≡ j = omega arith in
          ap₂ (λ (q : List QueueableToken) (i : ℕ). q ++ (token_at b i ∷ [])) (before_kept n (omega arith)) e
          ∙ sym (set_at (queue_of a n) (token_at a n) [] (token_at b j) j (queue_length a n ∙ e))

  -- A token that has the numbers of what it stands for keeps the others so.
  pub written_changed : (n : ℕ) → five_at b j ≡ token_of (token_at b j) → Written a n → Written b n
  unfolding Written
  written_changed n w h i l = go (dec_lt i j) (dec_lt j i)
    where
      other : five_at b i ≡ five_at a i → five_at b i ≡ token_of (token_at b i)
      other e = e ∙ h i l ∙ ap (λ (t : Token). token_of (token_by t)) (sym e)

      go : Dec (i < j) → Dec (j < i) → five_at b i ≡ token_of (token_at b i)
      go (yes f) g = other (five_below i f)
      go (no f) (yes g) = other (five_other i f (λ x. omega arith))
      go (no f) (no g) = let e : i ≡ j = omega arith in rw e w

pub written_none : (a : List ℕ) → Written a 0
unfolding Written
written_none a i l = absurd (omega arith)

-- one token more, which has its numbers
pub written_one : (a : List ℕ) (n : ℕ) → five_at a n ≡ token_of (token_at a n) → Written a n → Written a (n + 1)
unfolding Written
written_one a n e w i l = go (dec_lt i n)
  where
    go : Dec (i < n) → five_at a i ≡ token_of (token_at a i)
    go (yes f) = w i f
    go (no f) = let q : i ≡ n = omega arith in rw q e

-- ── push ──
module _ (a : List ℕ) (i : ℕ) (t : Token) (h : i * 5 + 5 ≤ length a) where
  abbrev five : List ℕ
  five = numbers (t ∷ [])

  put_outside : Outside (i * 5) (i * 5 + 5) a (put_token a i five)
  put_outside = record {
    size = length-put_chunk (i * 5) a five;
    below = λ k l. sym (get_or-put_chunk_below (i * 5) a five k 0 l);
    above = λ k l. sym (get_or-put_chunk_above (i * 5) a five k 0 l);
  }

  put_number : (j : ℕ) → j < 5 → get_or (put_token a i five) (i * 5 + j) 0 ≡ get_or five j 0
  put_number j l = get_or-put_chunk_at (i * 5) a five j 0 l h

  put_here : five_at (put_token a i five) i ≡ t
  put_here =
      let z : i * 5 ≡ i * 5 + 0 = omega arith in
      five_ext (ap (λ (k : ℕ). get_or (put_token a i five) k 0) z ∙ put_number 0 (omega arith))
      (put_number 1 (omega arith)) (put_number 2 (omega arith)) (put_number 3 (omega arith)) (put_number 4 (omega arith))

pub pushed : (a : List ℕ) (n : ℕ) (t : QueueableToken) (b : List ℕ) → n * 5 + 5 ≤ length a → b ≡ put_token a n (numbers (token_of t ∷ []))
    → Pushed a n t b
unfolding queue_of
pushed a n t b h e =
    let five : five_at b n ≡ token_of t = ap (λ (x : List ℕ). five_at x n) e ∙ put_here a n (token_of t) h in
    let here : token_at b n ≡ t = ap token_by five ∙ token_back t in
    let o : Outside (n * 5) (n * 5 + 5) a b = rw e (put_outside a n (token_of t) h) in
    record {
      queue = rw (add-one n) (ap₂ (λ (q : List QueueableToken) (u : QueueableToken). q ++ (u ∷ [])) (before_kept a b n o n (omega arith)) here);
      others = o;
    }

-- ── the partner of a Start ──
abbrev with_partner : ℕ → Token → Token
with_partner v t = record t { partner = v }

pub start_by : (t : Token) → t.kind ≡ 1 → token_by t ≡ Start t.partner t.position
start_by t e = rw (eq-eqb t.kind 1 e)

pub end_by : (t : Token) → (t.kind ≡ 1 → ⊥) → token_by t ≡ End t.partner t.rule t.tag t.position
end_by t f = rw (ne_eqb t.kind 1 f)

partner_five : (a : List ℕ) (i v : ℕ) → i * 5 + 5 ≤ length a → five_at (set a (i * 5 + 1) v) i ≡ with_partner v (five_at a i)
partner_five a i v h =
    five_ext (get_or-set_other a (i * 5 + 1) (i * 5) v 0 (omega arith)) (get_or-set_same a (i * 5 + 1) v 0 (omega arith))
    (get_or-set_other a (i * 5 + 1) (i * 5 + 2) v 0 (omega arith)) (get_or-set_other a (i * 5 + 1) (i * 5 + 3) v 0 (omega arith))
    (get_or-set_other a (i * 5 + 1) (i * 5 + 4) v 0 (omega arith))

module _ (a : List ℕ) (i v : ℕ) (h : i * 5 + 5 ≤ length a) where
  pub patched_start : get_or a (i * 5) 0 ≡ 1 → Patched a i v (set a (i * 5 + 1) v)
  patched_start e = record { queue = λ n. same n (dec_lt i n); others = o }
    where
      o : Outside (i * 5) (i * 5 + 5) a (set a (i * 5 + 1) v)
      o = outside_set_in a (i * 5) (i * 5 + 5) (i * 5 + 1) v (omega arith) (omega arith)

      here : token_at (set a (i * 5 + 1) v) i ≡ with_end v (token_at a i)
      here = ap token_by (partner_five a i v h) ∙ start_by (with_partner v (five_at a i)) e ∙ sym (ap (with_end v) (start_by (five_at a i) e))

      same : (n : ℕ) → Dec (i < n) → queue_of (set a (i * 5 + 1) v) n ≡ set (queue_of a n) i (with_end v (get_or (queue_of a n) i (Start 0 0)))
      same n (yes l) =
          token_changed a (set a (i * 5 + 1) v) i o n l
          ∙ ap (set (queue_of a n) i) (here ∙ sym (ap (with_end v) (queue_getD a n i (Start 0 0) l)))
      same n (no f) = before_kept a (set a (i * 5 + 1) v) i o n (omega arith) ∙ sym (set_out (queue_of a n) i _ (omega (arith, queue_length a n)))

  pub patched_end : (get_or a (i * 5) 0 ≡ 1 → ⊥) → Patched a i v a
  patched_end f = record { queue = λ n. same n (dec_lt i n); others = outside_refl a }
    where
      same : (n : ℕ) → Dec (i < n) → queue_of a n ≡ set (queue_of a n) i (with_end v (get_or (queue_of a n) i (Start 0 0)))
      same n (yes l) =
          let g : get_or (queue_of a n) i (Start 0 0) ≡ End (get_or a (i * 5 + 1) 0) (get_or a (i * 5 + 3) 0) (get_or a (i * 5 + 4) 0)
          (get_or a (i * 5 + 2) 0) = queue_getD a n i (Start 0 0) l ∙ end_by (five_at a i) f in
          sym (set-get_or (queue_of a n) i (Start 0 0)) ∙ ap (set (queue_of a n) i) (g ∙ sym (ap (with_end v) g))
      same n (no g) = sym (set_out (queue_of a n) i _ (omega (arith, queue_length a n)))

-- ── the tag of the last End ──
abbrev with_tag : ℕ → Token → Token
with_tag u t = record t { tag = u }

tag_five : (a : List ℕ) (i u : ℕ) → i * 5 + 5 ≤ length a → five_at (set a (i * 5 + 4) u) i ≡ with_tag u (five_at a i)
tag_five a i u h =
    five_ext (get_or-set_other a (i * 5 + 4) (i * 5) u 0 (omega arith)) (get_or-set_other a (i * 5 + 4) (i * 5 + 1) u 0 (omega arith))
    (get_or-set_other a (i * 5 + 4) (i * 5 + 2) u 0 (omega arith)) (get_or-set_other a (i * 5 + 4) (i * 5 + 3) u 0 (omega arith))
    (get_or-set_same a (i * 5 + 4) u 0 (omega arith))

pub tagged_none : (a : List ℕ) (n u : ℕ) → n ≡ 0 → Tagged a n u a
unfolding queue_of
tagged_none a n u e = record { queue = rw e; others = outside_refl a }

module _ (a : List ℕ) (m u : ℕ) (h : m * 5 + 5 ≤ length a) where
  tag_start : get_or a (m * 5) 0 ≡ 1 → queue_of a (suc m) ≡ tag_last u (queue_of a (suc m))
  unfolding queue_of
  tag_start e =
      let s : token_at a m ≡ Start (get_or a (m * 5 + 1) 0) (get_or a (m * 5 + 2) 0) = start_by (five_at a m) e in
      let q : queue_of a m ++ (token_at a m ∷ []) ≡ queue_of a m ++ (Start (get_or a (m * 5 + 1) 0) (get_or a (m * 5 + 2) 0) ∷ []) =
      ap (λ (t : QueueableToken). queue_of a m ++ (t ∷ [])) s in
      q ∙ sym (tag_at_start u (queue_of a m) _ _) ∙ sym (ap (tag_last u) q)

  tag_outside : Outside (m * 5) (m * 5 + 5) a (set a (m * 5 + 4) u)
  tag_outside = outside_set_in a (m * 5) (m * 5 + 5) (m * 5 + 4) u (omega arith) (omega arith)

  tag_end : (get_or a (m * 5) 0 ≡ 1 → ⊥) → queue_of (set a (m * 5 + 4) u) (suc m) ≡ tag_last u (queue_of a (suc m))
  unfolding queue_of
  tag_end f =
      ap₂ (λ (q : List QueueableToken) (t : QueueableToken). q ++ (t ∷ [])) (before_kept a (set a (m * 5 + 4) u) m tag_outside m (omega arith))
      (ap token_by (tag_five a m u h) ∙ end_by (with_tag u (five_at a m)) f)
      ∙ sym (tag_at_end u (queue_of a m) _ _ _ _)
      ∙ ap (λ (t : QueueableToken). tag_last u (queue_of a m ++ (t ∷ []))) (sym (end_by (five_at a m) f))

module _ (a : List ℕ) (n u : ℕ) (f : n ≡ 0 → ⊥) (h : n * 5 ≤ length a) where
  pub tagged_start : get_or a ((n - 1) * 5) 0 ≡ 1 → Tagged a n u a
  tagged_start e =
      let j : n ≡ suc (n - 1) = omega (arith, f) in
      record {
        queue = ap (queue_of a) j ∙ tag_start a (n - 1) u (omega arith) e ∙ sym (ap (λ (k : ℕ). tag_last u (queue_of a k)) j);
        others = outside_refl a;
      }

  pub tagged_end : (get_or a ((n - 1) * 5) 0 ≡ 1 → ⊥) → Tagged a n u (set a ((n - 1) * 5 + 4) u)
  tagged_end g =
      let j : n ≡ suc (n - 1) = omega (arith, f) in
      record {
        queue = ap (queue_of (set a ((n - 1) * 5 + 4) u)) j ∙ tag_end a (n - 1) u (omega arith) g ∙ sym (ap (λ (k : ℕ). tag_last u (queue_of a k)) j);
        others = outside_wider (omega arith) (omega arith) (tag_outside a (n - 1) u (omega arith));
      }

-- ── the area at the end of a run ──
numbers_append : (ts us : List Token) → numbers (ts ++ us) ≡ numbers ts ++ numbers us
numbers_append [] us = refl
numbers_append (t ∷ ts) us = ap (λ (l : List ℕ). t.kind ∷ t.partner ∷ t.position ∷ t.rule ∷ t.tag ∷ l) (numbers_append ts us)

take_more : (a : List ℕ) (k j : ℕ) → k ≡ j + 1 → j < length a → take k a ≡ take j a ++ (get_or a j 0 ∷ [])
take_more a k j e h = let s : k ≡ suc j = omega arith in ap (λ (i : ℕ). take i a) s ∙ take-suc a j 0 h

take_five : (a : List ℕ) (j : ℕ) → j * 5 + 5 ≤ length a → take (j * 5 + 5) a ≡ take (j * 5) a ++ numbers (five_at a j ∷ [])
take_five a j h =
    take_more a (j * 5 + 5) (j * 5 + 4) (omega arith) (omega arith)
    ∙ ap (λ (l : List ℕ). l ++ (get_or a (j * 5 + 4) 0 ∷ [])) (take_more a (j * 5 + 4) (j * 5 + 3) (omega arith) (omega arith)
    ∙ ap (λ (l : List ℕ). l ++ (get_or a (j * 5 + 3) 0 ∷ [])) (take_more a (j * 5 + 3) (j * 5 + 2) (omega arith) (omega arith)
    ∙ ap (λ (l : List ℕ). l ++ (get_or a (j * 5 + 2) 0 ∷ [])) (take_more a (j * 5 + 2) (j * 5 + 1) (omega arith) (omega arith)
    ∙ ap (λ (l : List ℕ). l ++ (get_or a (j * 5 + 1) 0 ∷ [])) (take_more a (j * 5 + 1) (j * 5) (omega arith) (omega arith)))))
    ∙ simp append_assoc

-- The first numbers of the area are those of the tokens that the queue stands for.
pub queue_numbers : (a : List ℕ) (n : ℕ) → n * 5 ≤ length a → Written a n → take (n * 5) a ≡ numbers (tokens_of (queue_of a n))
unfolding queue_of Written
queue_numbers a zero h w = refl
queue_numbers a (suc n) h w =
    let e : suc n * 5 ≡ n * 5 + 5 = omega arith in
    ap (λ (k : ℕ). take k a) e ∙ take_five a n (omega arith)
    ∙ ap₂ (λ (l : List ℕ) (t : Token). l ++ numbers (t ∷ [])) (queue_numbers a n (omega arith) (λ i l. w i (omega arith))) (w n (omega arith))
    ∙ sym (ap numbers (tokens_append (queue_of a n) (token_at a n ∷ [])) ∙ numbers_append (tokens_of (queue_of a n)) (token_of (token_at a n) ∷ []))

-- The area zeroed behind n tokens is those tokens, then zeros.
pub tokens_area : (a : List ℕ) (n : ℕ) → n * 5 ≤ length a → Written a n
    → filled (length a) (take (n * 5) a) ≡ filled (length a) (numbers (tokens_of (queue_of a n)))
tokens_area a n h w = ap (filled (length a)) (queue_numbers a n h w)

-- ── tokens settled to the numbers of what they stand for ──
pub settled_none : (n : ℕ) (a : List ℕ) → SettledTo 0 n a a
settled_none n a = record { queue = refl; written = written_none a; others = outside_refl a }

pub settled_more : (i n : ℕ) (a b c : List ℕ) → i < n → SettledTo i n a b → Settled b i c → SettledTo (i + 1) n a c
settled_more i n a b c h p s =
    let same : token_at c i ≡ token_at b i = ap token_by s.five ∙ token_back (token_at b i) in
    let five : five_at c i ≡ token_of (token_at c i) = s.five ∙ ap token_of (sym same) in
    record {
      queue = token_changed b c i s.others n h
          ∙ ap (set (queue_of b n) i) (same ∙ sym (queue_getD b n i (Start 0 0) h))
          ∙ set-get_or (queue_of b n) i (Start 0 0)
          ∙ p.queue;
      written = written_one c i five (written_changed b c i s.others i five p.written);
      others = outside_trans p.others (outside_wider (omega arith) (omega arith) s.others);
    }

pub settled_area : (n : ℕ) (a b c : List ℕ) → n * 5 ≤ length a → SettledTo n n a b → c ≡ filled (length b) (take (n * 5) b)
    → c ≡ filled (length a) (numbers (tokens_of (queue_of a n)))
settled_area n a b c h p e =
    e ∙ tokens_area b n (omega (arith, p.others.size)) p.written
    ∙ ap₂ (λ (k : ℕ) (q : List QueueableToken). filled k (numbers (tokens_of q))) p.others.size p.queue
