-- The set "may stand still", computed by rounds, is closed and the least closed one: a round that changes nothing ends the rounds, and
-- each round that changes something flags one line more, so as many rounds as lines are enough.
use mathlib.Core.Path.{◌≡◌, refl, sym, ap, ◌∙◌}
use mathlib.Core.Bool.{Bool, true, false, ◌&&◌, ◌||◌, true≢false}
use mathlib.Core.List.{List, [], ◌∷◌}
use Prim.Native.Nat.{ℕ, zero, suc, ◌+◌, ◌-◌, ◌≤◌, ◌<◌}
use native.Mathlib.Omega.{arith}
use native.Mathlib.Decide.{dec_lt, ℕ_discrete}
use native.Mathlib.Numerals.{add-one}
use lib.ListN.{length, get_or, set, replicate, length-set, length-replicate, get_or-replicate, get_or-eq_default}
use lib.Seq.{get_or-set_same, get_or-set_other, set-get_or, set_out}
use lib.Dec.{eqb}
use lib.IntN.{ℤ}
use Rattle.reading.specs.declared.node.Node.{Node}
use Rattle.reading.specs.Grammar.{natural, node_at, line_count}
use Rattle.reading.specs.Nullable.{still_rows, stands_still, Closed, Least, flag, raised, swept, rounds, nullable}
use Rattle.reading.proofs.Rows.{◌▹◌}

-- ── Monotone ──
infix 10 ◌⊆◌
abbrev pub ◌⊆◌ : (ℕ → Bool) → (ℕ → Bool) → Type 0
s ⊆ t = (l : ℕ) → s l ≡ true → t l ≡ true

abbrev Each : List Bool → List Bool → Type 0
Each [] ys = Unit {0}
Each (x ∷ xs) [] = ⊥
Each (x ∷ xs) (y ∷ ys) = (x ≡ true → y ≡ true) × Each xs ys

each_at : (xs ys : List Bool) → Each xs ys → (i : ℕ) → get_or xs i false ≡ true → get_or ys i false ≡ true
each_at [] ys h i e = absurd (true≢false (sym e))
each_at (x ∷ xs) [] h i e = absurd h
each_at (x ∷ xs) (y ∷ ys) h zero e = h.0 e
each_at (x ∷ xs) (y ∷ ys) h (suc i) e = each_at xs ys h.1 i e

and_mono : (x y : Bool) {x' y' : Bool} → (x ≡ true → x' ≡ true) → (y ≡ true → y' ≡ true) → (x && y) ≡ true → (x' && y') ≡ true
and_mono true y f g h = rw (f refl) (g h)
and_mono false y f g h = absurd (true≢false (sym h))

or_mono : (x y : Bool) {x' y' : Bool} → (x ≡ true → x' ≡ true) → (y ≡ true → y' ≡ true) → (x || y) ≡ true → (x' || y') ≡ true
or_mono true y f g h = rw (f refl)
or_mono false y {x'} {y'} f g h = go x'
  where
    go : (b : Bool) → (b || y') ≡ true
    go true = refl
    go false = g h

abbrev same : {x : Bool} → x ≡ true → x ≡ true
same h = h

pub still_mono : (s t : ℕ → Bool) → s ⊆ t → (n : Node) → stands_still s n ≡ true → stands_still t n ≡ true
unfolding stands_still
still_mono s t h n =
    let a : ℕ = natural n.a in
    let b : ℕ = natural n.b in
    each_at (still_rows (eqb a 0) (eqb b 0) (s a) (s b)) (still_rows (eqb a 0) (eqb b 0) (t a) (t b))
    (same ▹ same ▹ same ▹ same ▹ same ▹ and_mono (s a) (s b) (h a) (h b) ▹ or_mono (s a) (s b) (h a) (h b) ▹ h b ▹ h a
    ▹ same ▹ same ▹ same ▹ h a ▹ h a ▹ same ▹ same ▹ same ▹ h a ▹ same ▹ h a ▹ tt)
    (natural n.kind - 1)

-- ── Rounds, step by step ──
true_or : (b : Bool) → true ≡ (b || true)
true_or true = refl
true_or false = refl

module _ (ns : List ℤ) (i : ℕ) (f : List Bool) where
  pub raised_flagged : get_or f i false ≡ true → f ≡ raised ns i f
  unfolding raised
  raised_flagged e = sym (rw e (ap (set f i) (sym e) ∙ set-get_or f i false))

  pub raised_yes : stands_still (flag f) (node_at ns (suc i)) ≡ true → set f i true ≡ raised ns i f
  unfolding raised
  raised_yes e = rw e (ap (set f i) (true_or (get_or f i false)))

  pub raised_no : get_or f i false ≡ false → stands_still (flag f) (node_at ns (suc i)) ≡ false → f ≡ raised ns i f
  unfolding raised
  raised_no e g = sym (rw (e, g) (ap (set f i) (sym e) ∙ set-get_or f i false))

  -- The code counts the line as index + 1.
  pub still_of : {r : Bool} → r ≡ stands_still (flag f) (node_at ns (i + 1)) → stands_still (flag f) (node_at ns (suc i)) ≡ r
  still_of e = sym (e ∙ ap (λ (l : ℕ). stands_still (flag f) (node_at ns l)) (add-one i))

  pub raised_length : length (raised ns i f) ≡ length f
  unfolding raised
  raised_length = simp length-set

pub swept_length : (ns : List ℤ) (n : ℕ) (f : List Bool) → length (swept ns n f) ≡ length f
unfolding swept
swept_length ns zero f = refl
swept_length ns (suc n) f = raised_length ns n (swept ns n f) ∙ swept_length ns n f

pub swept_zero : (ns : List ℤ) (f : List Bool) → f ≡ swept ns 0 f
unfolding swept
swept_zero ns f = refl

pub swept_next : (ns : List ℤ) (n : ℕ) (f₀ f f' : List Bool) → f ≡ swept ns n f₀ → f' ≡ raised ns n f → f' ≡ swept ns (n + 1) f₀
unfolding swept
swept_next ns n f₀ f f' e g = rw (add-one n) (g ∙ ap (raised ns n) e)

-- A round over all of the flags, whose number stays.
pub swept_all : (ns : List ℤ) (f₀ f f' : List Bool) → length f ≡ length f₀ → f' ≡ swept ns (length f) f → f' ≡ swept ns (length f₀) f
swept_all ns f₀ f f' e g = g ∙ ap (λ (m : ℕ). swept ns m f) e

pub rounds_zero : (ns : List ℤ) (m : ℕ) → replicate m false ≡ rounds ns m 0
unfolding rounds
rounds_zero ns m = refl

pub rounds_next : (ns : List ℤ) (m r : ℕ) (f f' : List Bool) → f ≡ rounds ns m r → f' ≡ swept ns m f → f' ≡ rounds ns m (r + 1)
unfolding rounds
rounds_next ns m r f f' e g = rw (add-one r) (g ∙ ap (swept ns m) e)

pub rounds_length : (ns : List ℤ) (m r : ℕ) → length (rounds ns m r) ≡ m
unfolding rounds
rounds_length ns m zero = length-replicate m false
rounds_length ns m (suc r) = swept_length ns m (rounds ns m r) ∙ rounds_length ns m r

-- Once a round changes nothing, no later one does.
stays : (ns : List ℤ) (m r d : ℕ) → swept ns m (rounds ns m r) ≡ rounds ns m r → rounds ns m (r + d) ≡ rounds ns m r
unfolding rounds
stays ns m r zero e = let z : r + 0 ≡ r = omega arith in ap (rounds ns m) z
stays ns m r (suc d) e = let z : r + suc d ≡ suc (r + d) = omega arith in ap (rounds ns m) z ∙ ap (swept ns m) (stays ns m r d e) ∙ e

rounds_stay : (ns : List ℤ) (m r : ℕ) → r ≤ m → swept ns m (rounds ns m r) ≡ rounds ns m r → rounds ns m r ≡ rounds ns m m
rounds_stay ns m r h e = let z : r + (m - r) ≡ m = omega arith in sym (stays ns m r (m - r) e) ∙ ap (rounds ns m) z

pub ended : (ns : List ℤ) (m r : ℕ) (f f' : List Bool) → r ≤ m → f ≡ rounds ns m r → f' ≡ swept ns m f → f' ≡ f → f' ≡ rounds ns m m
ended ns m r f f' h e g s = s ∙ e ∙ rounds_stay ns m r h (ap (swept ns m) (sym e) ∙ sym g ∙ s ∙ e)

-- ── Least: what the rounds flag, every closed set holds ──
module _ (ns : List ℤ) (m : ℕ) (within : m ≤ line_count ns) (t : ℕ → Bool) (c : Closed ns t) where
  raised_under : (i : ℕ) (f : List Bool) → i < m → flag f ⊆ t → flag (raised ns i f) ⊆ t
  unfolding raised
  raised_under i f h u zero e = u zero e
  raised_under i f h u (suc l) e = go (ℕ_discrete l i) (dec_lt i (length f))
    where
      b : Bool
      b = get_or f i false || stands_still (flag f) (node_at ns (suc i))

      either : (x y : Bool) → (x || y) ≡ true → (x ≡ true → t (suc i) ≡ true) → (y ≡ true → t (suc i) ≡ true) → t (suc i) ≡ true
      either true y q f₁ f₂ = f₁ refl
      either false y q f₁ f₂ = f₂ q

      go : Dec (l ≡ i) → Dec (i < length f) → t (suc l) ≡ true
      go (yes q) (yes w) =
          rw q (either (get_or f i false) (stands_still (flag f) (node_at ns (suc i)))
          (sym (get_or-set_same f i b false w) ∙ ap (λ (k : ℕ). get_or (set f i b) k false) (sym q) ∙ e)
          (u (suc i))
          (λ s. c (suc i) (omega arith) (omega arith) (still_mono (flag f) t u (node_at ns (suc i)) s)))
      go (yes q) (no w) =
          let z : get_or (set f i b) l false ≡ false = get_or-eq_default (set f i b) false (simp length-set (omega arith)) in
          absurd (true≢false (sym e ∙ z))
      go (no q) w = u (suc l) (sym (get_or-set_other f i l b false q) ∙ e)

  swept_under : (n : ℕ) (f : List Bool) → n ≤ m → flag f ⊆ t → flag (swept ns n f) ⊆ t
  unfolding swept
  swept_under zero f h u = u
  swept_under (suc n) f h u = raised_under n (swept ns n f) (omega arith) (swept_under n f (omega arith) u)

  none_under : flag (replicate m false) ⊆ t
  none_under zero e = absurd (true≢false (sym e))
  none_under (suc l) e = go (dec_lt l m)
    where
      go : Dec (l < m) → t (suc l) ≡ true
      go (yes w) = absurd (true≢false (sym e ∙ get_or-replicate m l false false w))
      go (no w) = absurd (true≢false (sym e ∙ get_or-eq_default (replicate m false) false (omega (arith, length-replicate m false))))

  rounds_under : (r : ℕ) → flag (rounds ns m r) ⊆ t
  unfolding rounds
  rounds_under zero = none_under
  rounds_under (suc r) = swept_under m (rounds ns m r) (omega arith) (rounds_under r)

-- ── Closed: each round that changes something flags one line more ──
count : List Bool → ℕ
count [] = 0
count (true ∷ f) = suc (count f)
count (false ∷ f) = count f

count_most : (f : List Bool) → count f ≤ length f
unfolding count
count_most [] = omega arith
count_most (true ∷ f) = omega (arith, count_most f)
count_most (false ∷ f) = omega (arith, count_most f)

count_all : (f : List Bool) → length f ≤ count f → (i : ℕ) → i < length f → get_or f i false ≡ true
unfolding count
count_all [] h i l = absurd (omega arith)
count_all (true ∷ f) h zero l = refl
count_all (true ∷ f) h (suc i) l = count_all f (omega arith) i (omega arith)
count_all (false ∷ f) h i l = absurd (omega (arith, count_most f))

count_set : (f : List Bool) (i : ℕ) → i < length f → get_or f i false ≡ false → count (set f i true) ≡ suc (count f)
unfolding count
count_set [] i l e = absurd (omega arith)
count_set (true ∷ f) zero l e = absurd (true≢false e)
count_set (false ∷ f) zero l e = refl
count_set (true ∷ f) (suc i) l e = ap suc (count_set f i (omega arith) e)
count_set (false ∷ f) (suc i) l e = count_set f i (omega arith) e

data Change (f f' : List Bool) : Type 0 where
  same_flags : f' ≡ f → Change f f'
  more : count f < count f' → Change f f'

raised_change : (ns : List ℤ) (i : ℕ) (f : List Bool) → Change f (raised ns i f)
raised_change ns i f = go (get_or f i false) refl (stands_still (flag f) (node_at ns (suc i))) refl (dec_lt i (length f))
  where
    go : (x : Bool) → get_or f i false ≡ x → (y : Bool) → stands_still (flag f) (node_at ns (suc i)) ≡ y → Dec (i < length f)
        → Change f (raised ns i f)
    go true e y g w = same_flags (sym (raised_flagged ns i f e))
    go false e false g w = same_flags (sym (raised_no ns i f e g))
    go false e true g (yes w) = more (rw (← raised_yes ns i f g) (omega (arith, count_set f i w e)))
    go false e true g (no w) = same_flags (sym (raised_yes ns i f g) ∙ set_out f i true (omega arith))

joined : {f g h : List Bool} → Change f g → Change g h → Change f h
joined (same_flags p) (same_flags q) = same_flags (q ∙ p)
joined (same_flags p) (more q) = more (omega (arith, ap count p))
joined (more p) (same_flags q) = more (omega (arith, ap count q))
joined (more p) (more q) = more (omega arith)

swept_change : (ns : List ℤ) (n : ℕ) (f : List Bool) → Change f (swept ns n f)
unfolding swept
swept_change ns zero f = same_flags refl
swept_change ns (suc n) f = joined (swept_change ns n f) (raised_change ns n (swept ns n f))

-- A round that changes nothing changes nothing at any line.
fixed_last : (ns : List ℤ) (n : ℕ) (f : List Bool) → swept ns (suc n) f ≡ f → (swept ns n f ≡ f) × (raised ns n f ≡ f)
unfolding swept
fixed_last ns n f e = go (swept_change ns n f) (raised_change ns n (swept ns n f))
  where
    go : Change f (swept ns n f) → Change (swept ns n f) (raised ns n (swept ns n f)) → (swept ns n f ≡ f) × (raised ns n f ≡ f)
    go (same_flags p) q = (p, ap (raised ns n) (sym p) ∙ e)
    go (more p) (same_flags q) = absurd (omega (arith, ap count q, ap count e))
    go (more p) (more q) = absurd (omega (arith, ap count e))

fixed_lines : (ns : List ℤ) (n : ℕ) (f : List Bool) → swept ns n f ≡ f → (i : ℕ) → i < n → raised ns i f ≡ f
fixed_lines ns zero f e i h = absurd (omega arith)
fixed_lines ns (suc n) f e i h = go (fixed_last ns n f e) (fixed_lines ns n f) (ℕ_discrete i n)
  where
    go : (swept ns n f ≡ f) × (raised ns n f ≡ f) → (swept ns n f ≡ f → (j : ℕ) → j < n → raised ns j f ≡ f) → Dec (i ≡ n) → raised ns i f ≡ f
    go p r (yes q) = rw q p.1
    go p r (no q) = r p.0 i (omega arith)

fixed_closed : (ns : List ℤ) (m : ℕ) (f : List Bool) → length f ≡ m → swept ns m f ≡ f → (i : ℕ) → i < m
    → stands_still (flag f) (node_at ns (suc i)) ≡ true → get_or f i false ≡ true
fixed_closed ns m f k e i h s =
    let w : i < length f = omega arith in
    sym (ap (λ (g : List Bool). get_or g i false) (raised_yes ns i f s ∙ fixed_lines ns m f e i h)) ∙ get_or-set_same f i true false w

-- After r rounds nothing changes any more, or r lines are flagged.
data Stage (ns : List ℤ) (m r : ℕ) : Type 0 where
  done : swept ns m (rounds ns m r) ≡ rounds ns m r → Stage ns m r
  grown : r ≤ count (rounds ns m r) → Stage ns m r

stage : (ns : List ℤ) (m r : ℕ) → Stage ns m r
unfolding rounds
stage ns m zero = grown (omega arith)
stage ns m (suc r) = go (stage ns m r) (swept_change ns m (rounds ns m r))
  where
    go : Stage ns m r → Change (rounds ns m r) (swept ns m (rounds ns m r)) → Stage ns m (suc r)
    go (done e) c = done (ap (swept ns m) e)
    go (grown g) (same_flags e) = done (ap (swept ns m) e)
    go (grown g) (more p) = grown (omega arith)

rounds_closed : (ns : List ℤ) (m i : ℕ) → i < m → stands_still (flag (rounds ns m m)) (node_at ns (suc i)) ≡ true
    → get_or (rounds ns m m) i false ≡ true
rounds_closed ns m i h s = go (stage ns m m)
  where
    go : Stage ns m m → get_or (rounds ns m m) i false ≡ true
    go (done e) = fixed_closed ns m (rounds ns m m) (rounds_length ns m m) e i h s
    go (grown g) = count_all (rounds ns m m) (omega (arith, rounds_length ns m m)) i (omega (arith, rounds_length ns m m))

nullable_closed : (ns : List ℤ) → Closed ns (nullable ns)
nullable_closed ns zero lo hi s = absurd (omega arith)
nullable_closed ns (suc i) lo hi s = rounds_closed ns (line_count ns) i hi s

-- "the least such set"
pub nullable_least : (ns : List ℤ) → Least ns (nullable ns)
nullable_least ns = record { closed = nullable_closed ns; least = λ t c. rounds_under ns (line_count ns) (omega arith) t c (line_count ns) }

-- There is one least closed set.
pub one_least : (ns : List ℤ) (s t : ℕ → Bool) → Least ns s → Least ns t → (l : ℕ) → s l ≡ t l
one_least ns s t p q l = go (s l) (t l) (p.least t q.closed l) (q.least s p.closed l)
  where
    go : (x y : Bool) → (x ≡ true → y ≡ true) → (y ≡ true → x ≡ true) → x ≡ y
    go true y f g = sym (f refl)
    go false true f g = g refl
    go false false f g = refl

-- The set is a fixed point of its clauses.
pub nullable_is : (ns : List ℤ) (l : ℕ) → 1 ≤ l → l ≤ line_count ns → nullable ns l ≡ stands_still (nullable ns) (node_at ns l)
nullable_is ns l lo hi = go (nullable ns l) (stands_still (nullable ns) (node_at ns l)) under (nullable_closed ns l lo hi)
  where
    both : ℕ → Bool
    both k = stands_still (nullable ns) (node_at ns k) && nullable ns k

    right : (x y : Bool) → (x && y) ≡ true → y ≡ true
    right true y e = e
    right false y e = absurd (true≢false (sym e))

    left : (x y : Bool) → (x && y) ≡ true → x ≡ true
    left true y e = refl
    left false y e = absurd (true≢false (sym e))

    join : (x y : Bool) → x ≡ true → y ≡ true → (x && y) ≡ true
    join x y p q = rw (p, q)

    both_closed : Closed ns both
    both_closed k lo hi e =
        let s : stands_still (nullable ns) (node_at ns k) ≡ true =
        still_mono both (nullable ns) (λ j. right (stands_still (nullable ns) (node_at ns j)) (nullable ns j)) (node_at ns k) e in
        join (stands_still (nullable ns) (node_at ns k)) (nullable ns k) s (nullable_closed ns k lo hi s)

    under : nullable ns l ≡ true → stands_still (nullable ns) (node_at ns l) ≡ true
    under e = left (stands_still (nullable ns) (node_at ns l)) (nullable ns l) ((nullable_least ns).least both both_closed l e)

    go : (x y : Bool) → (x ≡ true → y ≡ true) → (y ≡ true → x ≡ true) → x ≡ y
    go true y f g = sym (f refl)
    go false true f g = g refl
    go false false f g = refl
