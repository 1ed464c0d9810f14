-- Token lists are equal exactly when the forests are: the last token's partner says where the last pair begins. Reports are equal
-- exactly when furthest and the two sets are: an ascending list is determined by its members.
use mathlib.Core.Path.{◌≡◌, refl, sym, ap, ap₂, ◌∙◌}
use mathlib.Core.Logic.{◌↔◌, ◌⊎◌, inl, inr, ◌≢◌}
use mathlib.Core.Bool.{Bool, true, false}
use mathlib.Core.List.Memᴰ
use mathlib.Core.List.{List, [], ◌∷◌, ◌++◌, append_assoc, Memᴰ}
use Prim.Native.Nat.{ℕ, zero, suc, ◌+◌, ◌-◌, ◌*◌, ◌≤◌, ◌<◌}
use native.Mathlib.Omega.{arith}
use lib.ListN.{length, take, replicate, length-append}
use lib.Seq.{take_at, take-append-add}
use lib.Dec.{eqb, ltb}
use borrow.Author.Tests.{eqb-true, eqb-false, ltb-true, ltb-false}
use Rattle.reading.specs.Forest.{Forest, empty, add, size, Token, start_token, end_token, tokens_from, tokens}
use Rattle.reading.specs.Outcome.{insert, ascending, numbers, report_of, filled}
use Rattle.reading.specs.Demand3.{SameSet}

-- ── Lists ──
module _ {A : Type 0} where
  append_inj : (xs ys zs ws : List A) → length xs ≡ length ys → xs ++ zs ≡ ys ++ ws → (xs ≡ ys) × (zs ≡ ws)
  append_inj [] [] zs ws l e = (refl, e)
  append_inj [] (y ∷ ys) zs ws l e = absurd (omega arith)
  append_inj (x ∷ xs) [] zs ws l e = absurd (omega arith)
  append_inj (x ∷ xs) (y ∷ ys) zs ws l e =
      let t : xs ++ zs ≡ ys ++ ws = cc in
      let h : x ≡ y = cc in
      let r : (xs ≡ ys) × (zs ≡ ws) = append_inj xs ys zs ws (omega arith) t in
      (ap₂ (λ (u : A) (l : List A). u ∷ l) h r.0, r.1)

  snoc_inj : (xs ys : List A) (x y : A) → xs ++ (x ∷ []) ≡ ys ++ (y ∷ []) → (xs ≡ ys) × (x ≡ y)
  snoc_inj xs ys x y e =
      let l : length xs ≡ length ys = omega (arith, length-append xs (x ∷ []), length-append ys (y ∷ []), ap length e) in
      let r : (xs ≡ ys) × (x ∷ [] ≡ y ∷ []) = append_inj xs ys (x ∷ []) (y ∷ []) l e in
      (r.0, cc r.1)

-- ── Tokens ──
pub length_tokens : (n : ℕ) (f : Forest) → length (tokens_from n f) ≡ size f
length_tokens n empty = refl
length_tokens n (add f r t s e c) =
    let hf : length (tokens_from n f) ≡ size f = length_tokens n f in
    let hc : length (tokens_from (suc (n + size f)) c) ≡ size c = length_tokens (suc (n + size f)) c in
    simp (length-append) (omega arith)

last_out : (A C : List Token) (S E : Token) → A ++ (S ∷ (C ++ (E ∷ []))) ≡ (A ++ (S ∷ C)) ++ (E ∷ [])
last_out A C S E = simp append_assoc

add_path : {f g c d : Forest} {r r' t t' s s' e e' : ℕ} → f ≡ g → r ≡ r' → t ≡ t' → s ≡ s' → e ≡ e' → c ≡ d → add f r t s e c ≡ add g r' t' s' e' d
add_path pf pr pt ps pe pc = λ i. add (pf i) (pr i) (pt i) (ps i) (pe i) (pc i)

-- What equal token lists of two nonempty forests give.
split : (A C A' C' : List Token) (S E S' E' : Token) → length A ≡ length A'
    → (A ++ (S ∷ (C ++ (E ∷ [])))) ≡ (A' ++ (S' ∷ (C' ++ (E' ∷ [])))) → (A ≡ A') × (S ≡ S') × (C ≡ C')
split A C A' C' S E S' E' l e =
    let u : (A ≡ A') × (S ∷ (C ++ (E ∷ [])) ≡ S' ∷ (C' ++ (E' ∷ []))) = append_inj A A' (S ∷ (C ++ (E ∷ []))) (S' ∷ (C' ++ (E' ∷ []))) l e in
    let b : C ++ (E ∷ []) ≡ C' ++ (E' ∷ []) = cc u.1 in
    (u.0, cc u.1, (snoc_inj C C' E E' b).0)

last_same : (A C A' C' : List Token) (S E S' E' : Token) → (A ++ (S ∷ (C ++ (E ∷ [])))) ≡ (A' ++ (S' ∷ (C' ++ (E' ∷ [])))) → E ≡ E'
last_same A C A' C' S E S' E' e = (snoc_inj (A ++ (S ∷ C)) (A' ++ (S' ∷ C')) E E' (sym (last_out A C S E) ∙ e ∙ last_out A' C' S' E')).1

pub tokens_inj : (n : ℕ) (f g : Forest) → tokens_from n f ≡ tokens_from n g → f ≡ g
tokens_inj n empty empty e = refl
tokens_inj n empty (add g r t s z c) e = absurd (omega (arith, ap length e, length_tokens n (add g r t s z c)))
tokens_inj n (add f r t s z c) empty e = absurd (omega (arith, ap length e, length_tokens n (add f r t s z c)))
tokens_inj n (add f r t s z c) (add g r' t' s' z' c') e =
    let C : List Token = tokens_from (suc (n + size f)) c in
    let C' : List Token = tokens_from (suc (n + size g)) c' in
    let S : Token = start_token (n + size f + suc (size c)) s in
    let S' : Token = start_token (n + size g + suc (size c')) s' in
    let E : Token = end_token (n + size f) z r t in
    let E' : Token = end_token (n + size g) z' r' t' in
    let pe : E ≡ E' = last_same (tokens_from n f) C (tokens_from n g) C' S E S' E' e in
    let sz : size f ≡ size g = omega (arith, ap (λ (k : Token). k.partner) pe) in
    let l : length (tokens_from n f) ≡ length (tokens_from n g) = length_tokens n f ∙ sz ∙ sym (length_tokens n g) in
    let u : (tokens_from n f ≡ tokens_from n g) × (S ≡ S') × (C ≡ C') = split (tokens_from n f) C (tokens_from n g) C' S E S' E' l e in
    add_path (tokens_inj n f g u.0) (ap (λ (k : Token). k.rule) pe) (ap (λ (k : Token). k.tag) pe) (ap (λ (k : Token). k.position) u.1)
    (ap (λ (k : Token). k.position) pe)
    (tokens_inj (suc (n + size f)) c c' (u.2 ∙ ap (λ (k : ℕ). tokens_from (suc (n + k)) c') (sym sz)))

-- Demand 3, tokens.
pub tokens_exact : (f g : Forest) → (tokens f ≡ tokens g) ↔ (f ≡ g)
tokens_exact f g = (tokens_inj 0 f g, λ (p : f ≡ g). ap tokens p)

-- The same as numbers, five for each token.
token_path : {t u : Token} → t.kind ≡ u.kind → t.partner ≡ u.partner → t.position ≡ u.position → t.rule ≡ u.rule → t.tag ≡ u.tag → t ≡ u
token_path a b c d e = λ i. record { kind = a i; partner = b i; position = c i; rule = d i; tag = e i }

pub numbers_inj : (ts us : List Token) → numbers ts ≡ numbers us → ts ≡ us
numbers_inj [] [] e = refl
numbers_inj [] (u ∷ us) e = cc
numbers_inj (t ∷ ts) [] e = cc
numbers_inj (t ∷ ts) (u ∷ us) e =
    let k : t.kind ≡ u.kind = cc in
    let i : t.partner ≡ u.partner = cc in
    let p : t.position ≡ u.position = cc in
    let r : t.rule ≡ u.rule = cc in
    let g : t.tag ≡ u.tag = cc in
    let m : numbers ts ≡ numbers us = cc in
    ap₂ (λ (x : Token) (l : List Token). x ∷ l) (token_path {t = t} {u = u} k i p r g) (numbers_inj ts us m)

-- ── Areas ──
-- The first numbers of an area are those that it was filled with.
pub take_filled : (n : ℕ) (xs : List ℕ) → take (length xs) (filled n xs) ≡ xs
take_filled n xs = take_at xs (replicate (n - length xs) 0) (length xs) refl

pub length_numbers : (ts : List Token) → length (numbers ts) ≡ length ts * 5
length_numbers [] = refl
length_numbers (t ∷ ts) = omega (arith, length_numbers ts)

-- The first `count` tokens of two areas, as numbers.
pub tokens_area_exact : (m n : ℕ) (f g : Forest)
    → (take (length (tokens f) * 5) (filled m (numbers (tokens f))) ≡ take (length (tokens g) * 5) (filled n (numbers (tokens g)))) ↔ (f ≡ g)
tokens_area_exact m n f g = (
  λ e. tokens_inj 0 f g (numbers_inj (tokens f) (tokens g) (sym (first m f) ∙ e ∙ first n g)),
  λ (p : f ≡ g). first m f ∙ ap (λ (h : Forest). numbers (tokens h)) p ∙ sym (first n g),
)
  where
    first : (m : ℕ) (f : Forest) → take (length (tokens f) * 5) (filled m (numbers (tokens f))) ≡ numbers (tokens f)
    first m f = rw (← length_numbers (tokens f)) (take_filled m (numbers (tokens f)))

-- ── Report ──
-- What follows the lists is of no account: the counts say where they end.
pub report_inj : (f f' : ℕ) (ps ns ps' ns' zs zs' : List ℕ) → report_of f ps ns ++ zs ≡ report_of f' ps' ns' ++ zs' → (f ≡ f') × (ps ≡ ps')
    × (ns ≡ ns')
report_inj f f' ps ns ps' ns' zs zs' e =
    let h : f ≡ f' = cc in
    let lp : length ps ≡ length ps' = cc in
    let ln : length ns ≡ length ns' = cc in
    let t : (ps ++ ns) ++ zs ≡ (ps' ++ ns') ++ zs' = cc in
    let l : length (ps ++ ns) ≡ length (ps' ++ ns') = simp length-append (omega arith) in
    let u : (ps ++ ns ≡ ps' ++ ns') × (zs ≡ zs') = append_inj (ps ++ ns) (ps' ++ ns') zs zs' l t in
    let v : (ps ≡ ps') × (ns ≡ ns') = append_inj ps ps' ns ns' lp u.0 in
    (h, v.0, v.1)

-- ── Sets ──
abbrev pub Above : ℕ → List ℕ → Type 0
Above x l = (y : ℕ) → Memᴰ y l → x < y

pub data Ascends : List ℕ → Type 0 where
  asc_nil : Ascends []
  asc_cons : {x : ℕ} {l : List ℕ} → Above x l → Ascends l → Ascends (x ∷ l)

-- Where `insert` puts a number.
data Placed (x z : ℕ) (l : List ℕ) : Type 0 where
  before : insert x (z ∷ l) ≡ x ∷ z ∷ l → x < z → Placed x z l
  here : insert x (z ∷ l) ≡ z ∷ l → x ≡ z → Placed x z l
  after : insert x (z ∷ l) ≡ z ∷ insert x l → z < x → Placed x z l

placed : (x z : ℕ) (l : List ℕ) → Placed x z l
placed x z l = go (ltb x z) refl (eqb x z) refl
  where
    go : (b : Bool) → ltb x z ≡ b → (c : Bool) → eqb x z ≡ c → Placed x z l
    go true e c d = before (rw e) (ltb-true x z e)
    go false e true d = here (rw (e, d)) (eqb-true x z d)
    go false e false d =
        let ne : x ≢ z = eqb-false x z d in
        after (rw (e, d)) (omega (arith, ltb-false x z e))

mem_insert : (x : ℕ) (l : List ℕ) (y : ℕ) → Memᴰ y (insert x l) → (y ≡ x) ⊎ Memᴰ y l
mem_insert x [] y h = Memᴰ.cases_cons h
mem_insert x (z ∷ l) y h = go (placed x z l) (λ (m : Memᴰ y (insert x l)). mem_insert x l y m)
  where
    deeper : (y ≡ x) ⊎ Memᴰ y l → (y ≡ x) ⊎ Memᴰ y (z ∷ l)
    deeper (inl e) = inl e
    deeper (inr m) = inr (Memᴰ.tail m)

    past : (y ≡ z) ⊎ Memᴰ y (insert x l) → (Memᴰ y (insert x l) → (y ≡ x) ⊎ Memᴰ y l) → (y ≡ x) ⊎ Memᴰ y (z ∷ l)
    past (inl e) ih = inr (Memᴰ.head e)
    past (inr m) ih = deeper (ih m)

    go : Placed x z l → (Memᴰ y (insert x l) → (y ≡ x) ⊎ Memᴰ y l) → (y ≡ x) ⊎ Memᴰ y (z ∷ l)
    go (before e k) ih = Memᴰ.cases_cons (rw e at h)
    go (here e k) ih = inr (rw e at h)
    go (after e k) ih = past (Memᴰ.cases_cons (rw e at h)) ih

in_insert : (x : ℕ) (l : List ℕ) (y : ℕ) → (y ≡ x) ⊎ Memᴰ y l → Memᴰ y (insert x l)
in_insert x [] y (inl e) = Memᴰ.head e
in_insert x [] y (inr m) = Memᴰ.tail m
in_insert x (z ∷ l) y h = go (placed x z l) h (λ (m : (y ≡ x) ⊎ Memᴰ y l). in_insert x l y m)
  where
    past : (y ≡ z) ⊎ Memᴰ y l → ((y ≡ x) ⊎ Memᴰ y l → Memᴰ y (insert x l)) → Memᴰ y (z ∷ insert x l)
    past (inl e) ih = Memᴰ.head e
    past (inr m) ih = Memᴰ.tail (ih (inr m))

    go : Placed x z l → (y ≡ x) ⊎ Memᴰ y (z ∷ l) → ((y ≡ x) ⊎ Memᴰ y l → Memᴰ y (insert x l)) → Memᴰ y (insert x (z ∷ l))
    go (before e k) (inl q) ih = rw e (Memᴰ.head q)
    go (before e k) (inr m) ih = rw e (Memᴰ.tail m)
    go (here e k) (inl q) ih = rw e (Memᴰ.head (q ∙ k))
    go (here e k) (inr m) ih = rw e m
    go (after e k) (inl q) ih = rw e (Memᴰ.tail (ih (inl q)))
    go (after e k) (inr m) ih = rw e (past (Memᴰ.cases_cons m) ih)

above_insert : (z x : ℕ) (l : List ℕ) → z < x → Above z l → Above z (insert x l)
above_insert z x l k a y h = go (mem_insert x l y h)
  where
    go : (y ≡ x) ⊎ Memᴰ y l → z < y
    go (inl e) = omega arith
    go (inr m) = a y m

asc_insert : (x : ℕ) (l : List ℕ) → Ascends l → Ascends (insert x l)
asc_insert x [] a = asc_cons (λ (y : ℕ) (m : Memᴰ y []). absurd (Memᴰ.not-nil m)) asc_nil
asc_insert x (z ∷ l) (asc_cons b a) = go (placed x z l) (asc_insert x l a)
  where
    over : x < z → Above x (z ∷ l)
    over k y m = at (Memᴰ.cases_cons m)
      where
        at : (y ≡ z) ⊎ Memᴰ y l → x < y
        at (inl e) = omega arith
        at (inr m) = omega (arith, b y m)

    go : Placed x z l → Ascends (insert x l) → Ascends (insert x (z ∷ l))
    go (before e k) ih = rw e (asc_cons (over k) (asc_cons b a))
    go (here e k) ih = rw e (asc_cons b a)
    go (after e k) ih = rw e (asc_cons (above_insert z x l k b) ih)

pub ascends : (l : List ℕ) → Ascends (ascending l)
ascends [] = asc_nil
ascends (x ∷ l) = asc_insert x (ascending l) (ascends l)

pub same_members : (l : List ℕ) → SameSet (ascending l) l
same_members [] y = (λ m. m, λ m. m)
same_members (x ∷ l) y = (
  λ m. down (mem_insert x (ascending l) y m) (same_members l y).0,
  λ m. in_insert x (ascending l) y (up (Memᴰ.cases_cons m) (same_members l y).1),
)
  where
    down : (y ≡ x) ⊎ Memᴰ y (ascending l) → (Memᴰ y (ascending l) → Memᴰ y l) → Memᴰ y (x ∷ l)
    down (inl e) f = Memᴰ.head e
    down (inr m) f = Memᴰ.tail (f m)

    up : (y ≡ x) ⊎ Memᴰ y l → (Memᴰ y l → Memᴰ y (ascending l)) → (y ≡ x) ⊎ Memᴰ y (ascending l)
    up (inl e) f = inl e
    up (inr m) f = inr (f m)

-- Ascending lists with the same members are equal.
pub asc_ext : (l m : List ℕ) → Ascends l → Ascends m → SameSet l m → l ≡ m
asc_ext [] [] a b s = refl
asc_ext [] (y ∷ m) a b s = absurd (Memᴰ.not-nil ((s y).1 (Memᴰ.head refl)))
asc_ext (x ∷ l) [] a b s = absurd (Memᴰ.not-nil ((s x).0 (Memᴰ.head refl)))
asc_ext (x ∷ l) (y ∷ m) (asc_cons a a') (asc_cons b b') s = ap₂ (λ (u : ℕ) (t : List ℕ). u ∷ t) heads (asc_ext l m a' b' tails)
  where
    heads : x ≡ y
    heads = go (Memᴰ.cases_cons ((s x).0 (Memᴰ.head refl))) (Memᴰ.cases_cons ((s y).1 (Memᴰ.head refl)))
      where
        go : (x ≡ y) ⊎ Memᴰ x m → (y ≡ x) ⊎ Memᴰ y l → x ≡ y
        go (inl e) r = e
        go (inr p) (inl e) = sym e
        go (inr p) (inr q) = absurd (omega (arith, b x p, a y q))

    tails : SameSet l m
    tails z = (λ p. from (Memᴰ.cases_cons ((s z).0 (Memᴰ.tail p))) p, λ p. back (Memᴰ.cases_cons ((s z).1 (Memᴰ.tail p))) p)
      where
        from : (z ≡ y) ⊎ Memᴰ z m → Memᴰ z l → Memᴰ z m
        from (inl e) p = absurd (omega (arith, a z p, heads))
        from (inr q) p = q

        back : (z ≡ x) ⊎ Memᴰ z l → Memᴰ z m → Memᴰ z l
        back (inl e) p = absurd (omega (arith, b z p, heads))
        back (inr q) p = q

pub by_lists : (l m : List ℕ) → ascending l ≡ ascending m → SameSet l m
by_lists l m e y = (λ h. (same_members m y).0 (rw e at ((same_members l y).1 h)), λ h. (same_members l y).0 (rw (← e) at ((same_members m y).1 h)))

pub by_sets : (l m : List ℕ) → SameSet l m → ascending l ≡ ascending m
by_sets l m s = asc_ext (ascending l) (ascending m) (ascends l) (ascends m)
    (λ y. (λ h. (same_members m y).1 ((s y).0 ((same_members l y).0 h)), λ h. (same_members l y).1 ((s y).1 ((same_members m y).0 h))))

length_insert : (x : ℕ) (l : List ℕ) → length (insert x l) ≤ suc (length l)
length_insert x [] = omega arith
length_insert x (z ∷ l) = go (placed x z l) (length_insert x l)
  where
    go : Placed x z l → length (insert x l) ≤ suc (length l) → length (insert x (z ∷ l)) ≤ suc (suc (length l))
    go (before e k) ih = omega (arith, ap length e)
    go (here e k) ih = omega (arith, ap length e)
    go (after e k) ih = omega (arith, ap length e)

-- No more rules are reported than were tried.
pub length_ascending : (l : List ℕ) → length (ascending l) ≤ length l
length_ascending [] = omega arith
length_ascending (x ∷ l) = omega (arith, length_insert x (ascending l), length_ascending l)

-- The first k numbers of an area that is filled with no more than k.
pub take_padded : (k n : ℕ) (xs : List ℕ) → length xs ≤ k → k ≤ n → take k (filled n xs) ≡ xs ++ replicate (k - length xs) 0
take_padded k n xs l h =
    let e : length xs + (k - length xs) ≡ k = omega arith in
    ap (λ (m : ℕ). take m (filled n xs)) (sym e)
    ∙ take-append-add xs (replicate (n - length xs) 0) (k - length xs)
    ∙ ap (λ (z : List ℕ). xs ++ z) (take_replicate (k - length xs) (n - length xs) (omega arith))
  where
    take_replicate : (k m : ℕ) → k ≤ m → ◌≡◌ {A = List ℕ} (take k (replicate m 0)) (replicate k 0)
    take_replicate zero m h = refl
    take_replicate (suc k) zero h = absurd (omega arith)
    take_replicate (suc k) (suc m) h = ap (λ (z : List ℕ). 0 ∷ z) (take_replicate k m (omega arith))

-- Lists as long as a run's may be.
pub record Few (ps ns : List ℕ) : Type 0 where
  pub positives : length ps ≤ 256
  pub negatives : length ns ≤ 256

-- Such lists' report stands whole in the first 515 numbers.
report_fits : (f : ℕ) (ps ns : List ℕ) → Few ps ns → length (report_of f (ascending ps) (ascending ns)) ≤ 515
report_fits f ps ns k = omega (arith, length-append (ascending ps) (ascending ns), length_ascending ps, length_ascending ns, k.positives, k.negatives)

-- An area's first 515 numbers.
abbrev report_area : (n f : ℕ) → (ps ns : List ℕ) → List ℕ
report_area n f ps ns = take 515 (filled n (report_of f (ascending ps) (ascending ns)))

-- Demand 3, reports: equal exactly when furthest and the two sets are.
pub report_exact : (n n' f f' : ℕ) (ps ns ps' ns' : List ℕ) → 515 ≤ n → 515 ≤ n' → Few ps ns → Few ps' ns'
    → (report_area n f ps ns ≡ report_area n' f' ps' ns') ↔ ((f ≡ f') × SameSet ps ps' × SameSet ns ns')
report_exact n n' f f' ps ns ps' ns' h h' k k' = (to, from)
  where
    R : List ℕ
    R = report_of f (ascending ps) (ascending ns)

    R' : List ℕ
    R' = report_of f' (ascending ps') (ascending ns')

    split : take 515 (filled n R) ≡ R ++ replicate (515 - length R) 0
    split = take_padded 515 n R (report_fits f ps ns k) h

    split' : take 515 (filled n' R') ≡ R' ++ replicate (515 - length R') 0
    split' = take_padded 515 n' R' (report_fits f' ps' ns' k') h'

    to : report_area n f ps ns ≡ report_area n' f' ps' ns' → (f ≡ f') × SameSet ps ps' × SameSet ns ns'
    to e =
        let u : (f ≡ f') × (ascending ps ≡ ascending ps') × (ascending ns ≡ ascending ns') =
        report_inj f f' (ascending ps) (ascending ns) (ascending ps') (ascending ns') _ _ (sym split ∙ e ∙ split') in
        (u.0, by_lists ps ps' u.1, by_lists ns ns' u.2)

    from : (f ≡ f') × SameSet ps ps' × SameSet ns ns' → report_area n f ps ns ≡ report_area n' f' ps' ns'
    from u =
        let p : f ≡ f' = u.0 in
        let q : ascending ps ≡ ascending ps' = by_sets ps ps' u.1 in
        let r : ascending ns ≡ ascending ns' = by_sets ns ns' u.2 in
        split ∙ (λ i. report_of (p i) (q i) (r i) ++ replicate (515 - length (report_of (p i) (q i) (r i))) 0) ∙ sym split'
