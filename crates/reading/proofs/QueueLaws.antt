-- The queue of a forest, and what truncation and tagging do to it.
use mathlib.Core.Path.{◌≡◌, refl, sym, ap, ap₂, ◌∙◌}
use mathlib.Core.Bool.{Bool, true, false}
use mathlib.Core.List.{List, [], ◌∷◌, ◌++◌, append_assoc, append-nil}
use Prim.Native.Nat.{ℕ, suc, ◌+◌, ◌≤◌}
use native.Mathlib.Omega.{arith}
use lib.ListN.{length, take, set, get_or, length-append}
use lib.Seq.{take-append-le, take-append-add, set_at, get_or_at, take_at, take_all}
use lib.Dec.{leb}
use borrow.Author.Tests.{leb-true, leb-false, le-leb, lt-leb}
use Rattle.reading.specs.Forest.{Forest, empty, add, count, size, cut, tag_last}
use Rattle.reading.specs.Pest.{QueueableToken, Start, End, with_end}
use Rattle.reading.specs.Pest as Pest

-- The queue of the pairs of a forest, numbered from n.
abbrev pub queue_from : ℕ → Forest → List QueueableToken
queue_from n empty = []
queue_from n (add f r t s e c) =
    queue_from n f ++ (Start (n + size f + suc (size c)) s ∷ (queue_from (suc (n + size f)) c ++ (End (n + size f) r t e ∷ [])))

pub length_queue : (n : ℕ) (f : Forest) → length (queue_from n f) ≡ size f
length_queue n empty = refl
length_queue n (add f r t s e c) =
    let hf : length (queue_from n f) ≡ size f = length_queue n f in
    let hc : length (queue_from (suc (n + size f)) c) ≡ size c = length_queue (suc (n + size f)) c in
    simp (length-append) (omega arith)

-- ── cut ──
pub cut_all : (k : ℕ) (f : Forest) → count f ≤ k → cut k f ≡ f
cut_all k empty h = refl
cut_all k (add f r t s e c) h = rw (le-leb (suc (count f)) k h)

pub cut_below : (k : ℕ) (f : Forest) (r t s e : ℕ) (c : Forest) → k ≤ count f → cut k (add f r t s e c) ≡ cut k f
cut_below k f r t s e c h = rw (lt-leb (suc (count f)) k (omega arith))

pub size_cut_le : (k : ℕ) (f : Forest) → size (cut k f) ≤ size f
size_cut_le k empty = omega arith
size_cut_le k (add f r t s e c) = go (leb (suc (count f)) k) refl (size_cut_le k f)
  where
    go : (b : Bool) → leb (suc (count f)) k ≡ b → size (cut k f) ≤ size f → size (cut k (add f r t s e c)) ≤ size (add f r t s e c)
    go true q h = rw q (omega arith)
    go false q h = rw q (omega arith)

-- The first k pairs' queue is the first part of the queue.
pub take_queue : (n k : ℕ) (f : Forest) → take (size (cut k f)) (queue_from n f) ≡ queue_from n (cut k f)
take_queue n k empty = refl
take_queue n k (add f r t s e c) = go (leb (suc (count f)) k) refl (take_queue n k f)
  where
    go : (b : Bool) → leb (suc (count f)) k ≡ b → take (size (cut k f)) (queue_from n f) ≡ queue_from n (cut k f)
        → take (size (cut k (add f r t s e c))) (queue_from n (add f r t s e c)) ≡ queue_from n (cut k (add f r t s e c))
    go true q ih = rw q (take_all (size (add f r t s e c)) (queue_from n (add f r t s e c)) (omega (arith, length_queue n (add f r t s e c))))
    go false q ih = rw q (take-append-le (size (cut k f)) (queue_from n f) _ (omega (arith, length_queue n f, size_cut_le k f)) ∙ ih)

pub cut_cut : (j k : ℕ) (f : Forest) → j ≤ k → cut j (cut k f) ≡ cut j f
cut_cut j k empty h = refl
cut_cut j k (add f r t s e c) h = go (leb (suc (count f)) k) refl (cut_cut j k f h)
  where
    go : (b : Bool) → leb (suc (count f)) k ≡ b → cut j (cut k f) ≡ cut j f → cut j (cut k (add f r t s e c)) ≡ cut j (add f r t s e c)
    go true q ih = rw q refl
    go false q ih = rw q (ih ∙ sym (cut_below j f r t s e c (omega (arith, leb-false (suc (count f)) k q))))

pub count_cut : (k : ℕ) (f : Forest) → k ≤ count f → count (cut k f) ≡ k
count_cut k empty h = omega arith
count_cut k (add f r t s e c) h = go (leb (suc (count f)) k) refl (λ (h' : k ≤ count f). count_cut k f h')
  where
    go : (b : Bool) → leb (suc (count f)) k ≡ b → (k ≤ count f → count (cut k f) ≡ k) → count (cut k (add f r t s e c)) ≡ k
    go true q ih = rw q (omega (arith, leb-true (suc (count f)) k q))
    go false q ih = rw q (ih (omega (arith, leb-false (suc (count f)) k q)))

-- ── what evaluation does to the siblings: only the last one's tag changes, and pairs are added ──
pub record Grows (f g : Forest) : Type 0 where
  pub more : count f ≤ count g
  pub same : (k : ℕ) → k ≤ count f → size (cut k g) ≡ size (cut k f)

pub grows_refl : (f : Forest) → Grows f f
grows_refl f = record { more = omega arith; same = λ k h. refl }

pub grows_trans : {f g h : Forest} → Grows f g → Grows g h → Grows f h
grows_trans {f} {g} {h} a b = record { more = omega arith; same = λ k l. b.same k (omega (arith, a.more)) ∙ a.same k l }

pub grows_add : {f g : Forest} (r t s e : ℕ) (c : Forest) → Grows f g → Grows f (add g r t s e c)
grows_add {f} {g} r t s e c a = record {
  more = omega arith;
  same = λ k l. ap size (cut_below k g r t s e c (omega (arith, a.more))) ∙ a.same k l;
}

size_cut_tag : (k u : ℕ) (f : Forest) → size (cut k (tag_last u f)) ≡ size (cut k f)
size_cut_tag k u empty = refl
size_cut_tag k u (add f r t s e c) = go (leb (suc (count f)) k) refl
  where
    go : (b : Bool) → leb (suc (count f)) k ≡ b → size (cut k (add f r u s e c)) ≡ size (cut k (add f r t s e c))
    go true q = rw q refl
    go false q = rw q refl

count_tag : (u : ℕ) (f : Forest) → count (tag_last u f) ≡ count f
count_tag u empty = refl
count_tag u (add f r t s e c) = refl

pub grows_tag : {f g : Forest} (u : ℕ) → Grows f g → Grows f (tag_last u g)
grows_tag {f} {g} u a = record {
  more = omega (arith, count_tag u g);
  same = λ k l. size_cut_tag k u g ∙ a.same k l;
}

pub grows_cut : {f g : Forest} → Grows f g → Grows f (cut (count f) g)
grows_cut {f} {g} a = record {
  more = omega (arith, count_cut (count f) g a.more);
  same = λ k l. ap size (cut_cut k (count f) g l) ∙ a.same k l;
}

pub size_grown : {f g : Forest} → Grows f g → size (cut (count f) g) ≡ size f
size_grown {f} {g} a = a.same (count f) (omega arith) ∙ ap size (cut_all (count f) f (omega arith))

-- `truncate` to the length at a sequence's start
pub truncate_queue : (pre : List QueueableToken) (n : ℕ) {f g : Forest} → Grows f g
    → take (length (pre ++ queue_from n f)) (pre ++ queue_from n g) ≡ pre ++ queue_from n (cut (count f) g)
truncate_queue pre n {f} {g} a =
    let i : length (pre ++ queue_from n f) ≡ length pre + size (cut (count f) g) =
    omega (arith, length-append pre (queue_from n f), length_queue n f, size_grown a) in
    rw (i, take-append-add pre (queue_from n g) (size (cut (count f) g)), take_queue n (count f) g)

-- ── tag_node ──
pub tag_at_end : (u : ℕ) (xs : List QueueableToken) (s r t p : ℕ) → Pest.tag_last u (xs ++ (End s r t p ∷ [])) ≡ xs ++ (End s r u p ∷ [])
tag_at_end u [] s r t p = refl
tag_at_end u (x ∷ []) s r t p = refl
tag_at_end u (x ∷ y ∷ xs) s r t p = ap (λ (l : List QueueableToken). x ∷ l) (tag_at_end u (y ∷ xs) s r t p)

pub tag_at_start : (u : ℕ) (xs : List QueueableToken) (e p : ℕ) → Pest.tag_last u (xs ++ (Start e p ∷ [])) ≡ xs ++ (Start e p ∷ [])
tag_at_start u [] e p = refl
tag_at_start u (x ∷ []) e p = refl
tag_at_start u (x ∷ y ∷ xs) e p = ap (λ (l : List QueueableToken). x ∷ l) (tag_at_start u (y ∷ xs) e p)

-- ── the queue before the siblings: for each open recorded rule, the pairs before it and its Start ──
pub data Open : Type 0 where
  top : Open
  inside : Open → (base : ℕ) → Forest → (position : ℕ) → Open

abbrev pub prefix : Open → List QueueableToken
prefix top = []
prefix (inside o n f p) = (prefix o ++ queue_from n f) ++ (Start 0 p ∷ [])

last_out : (P Q : List QueueableToken) (S : QueueableToken) (C : List QueueableToken) (E : QueueableToken)
    → P ++ (Q ++ (S ∷ (C ++ (E ∷ [])))) ≡ (P ++ (Q ++ (S ∷ C))) ++ (E ∷ [])
last_out P Q S C E = simp append_assoc

tag_last_of : (u : ℕ) (P Q : List QueueableToken) (S : QueueableToken) (C : List QueueableToken) (s r t p : ℕ)
    → Pest.tag_last u (P ++ (Q ++ (S ∷ (C ++ (End s r t p ∷ []))))) ≡ P ++ (Q ++ (S ∷ (C ++ (End s r u p ∷ []))))
tag_last_of u P Q S C s r t p = ap (Pest.tag_last u) (last_out P Q S C (End s r t p)) ∙ tag_at_end u (P ++ (Q ++ (S ∷ C))) s r t p
    ∙ sym (last_out P Q S C (End s r u p))

pub tag_queue : (u : ℕ) (o : Open) (n : ℕ) (f : Forest) → Pest.tag_last u (prefix o ++ queue_from n f) ≡ prefix o ++ queue_from n (tag_last u f)
tag_queue u top n empty = refl
tag_queue u (inside o b g p) n empty = rw append-nil (tag_at_start u (prefix o ++ queue_from b g) 0 p)
tag_queue u o n (add f r t s e c) = tag_last_of u (prefix o) (queue_from n f) (Start (n + size f + suc (size c)) s)
    (queue_from (suc (n + size f)) c) (n + size f) r t e

-- ── rule ──
pub length_prefix : (o : Open) (n : ℕ) (f : Forest) (p : ℕ) → n ≡ length (prefix o) → suc (n + size f) ≡ length (prefix (inside o n f p))
length_prefix o n f p h = omega (
  arith,
  length-append (prefix o ++ queue_from n f) (Start 0 p ∷ []),
  length-append (prefix o) (queue_from n f),
  length_queue n f,
)

-- `queue[index]` with-ended and End pushed: one pair more
close_list : (Q C : List QueueableToken) (N p r e : ℕ)
    → set ((Q ++ (Start 0 p ∷ [])) ++ C) (length Q) (with_end N (get_or ((Q ++ (Start 0 p ∷ [])) ++ C) (length Q) (Start 0 0)))
    ++ (End (length Q) r 0 e ∷ [])
    ≡ Q ++ (Start N p ∷ (C ++ (End (length Q) r 0 e ∷ [])))
close_list Q C N p r e =
    rw (append_assoc Q (Start 0 p ∷ []) C, get_or_at Q (Start 0 p) C (Start 0 0) (length Q) refl, set_at Q (Start 0 p) C (Start N p) (length Q) refl)
    (append_assoc Q (Start N p ∷ C) (End (length Q) r 0 e ∷ []))

pub close_queue : (o : Open) (n : ℕ) (f : Forest) (p r e : ℕ) (c : Forest) → n ≡ length (prefix o)
    → set (prefix (inside o n f p) ++ queue_from (suc (n + size f)) c) (length (prefix o ++ queue_from n f))
    (with_end (length (prefix (inside o n f p) ++ queue_from (suc (n + size f)) c))
    (get_or (prefix (inside o n f p) ++ queue_from (suc (n + size f)) c) (length (prefix o ++ queue_from n f)) (Start 0 0)))
    ++ (End (length (prefix o ++ queue_from n f)) r 0 e ∷ [])
    ≡ prefix o ++ queue_from n (add f r 0 p e c)
close_queue o n f p r e c h =
    close_list (prefix o ++ queue_from n f) (queue_from (suc (n + size f)) c)
    (length (prefix (inside o n f p) ++ queue_from (suc (n + size f)) c)) p r e
    ∙ ap₂ (λ (i j : ℕ). (prefix o ++ queue_from n f) ++ (Start j p ∷ (queue_from (suc (n + size f)) c ++ (End i r 0 e ∷ [])))) l w
    ∙ append_assoc (prefix o) (queue_from n f) _
  where
    l : length (prefix o ++ queue_from n f) ≡ n + size f
    l = omega (arith, length-append (prefix o) (queue_from n f), length_queue n f)

    w : length (prefix (inside o n f p) ++ queue_from (suc (n + size f)) c) ≡ n + size f + suc (size c)
    w = omega (
      arith,
      length-append (prefix (inside o n f p)) (queue_from (suc (n + size f)) c),
      length_prefix o n f p h,
      length_queue (suc (n + size f)) c,
    )

-- the queue cut back to before a rule's Start
pub drop_rule : (o : Open) (n : ℕ) (f : Forest) (p : ℕ) (c : List QueueableToken)
    → take (length (prefix o ++ queue_from n f)) (prefix (inside o n f p) ++ c) ≡ prefix o ++ queue_from n f
drop_rule o n f p c = ap (take (length (prefix o ++ queue_from n f))) (append_assoc (prefix o ++ queue_from n f) (Start 0 p ∷ []) c)
    ∙ take_at (prefix o ++ queue_from n f) (Start 0 p ∷ c) _ refl
