-- The attempts: each law is one arm of the code, over the two regions' offsets and the counts. The last part says that these steps
-- are pest's own, on the state's three fields.
use Rattle.std.specs.Prelude.{Option, None, Some, option_map, if◌then◌else◌}
use mathlib.Core.Path.{◌≡◌, refl, sym, ap, ap₂, ◌∙◌}
use mathlib.Core.Bool.{Bool, true, false, ◌&&◌, not}
use mathlib.Core.List.{List, [], ◌∷◌, ◌++◌}
use Prim.Native.Nat.{ℕ, ◌+◌, ◌-◌, ◌≤◌, ◌<◌, min}
use native.Mathlib.Omega.{arith}
use native.Mathlib.Decide.{dec_le}
use lib.ListN.{length, take, length-append}
use lib.Seq.{take_all}
use lib.Dec.{eqb, ltb}
use borrow.Author.Tests.{eq-eqb, ne_eqb, lt-ltb, le-ltb}
use Rattle.engine.specs.declared.attempts.Attempts.{Attempts}
use Rattle.engine.specs.declared.attempts.Noted.{Noted}
use Rattle.reading.specs.Ending.{is_negative, is_atomic}
use Rattle.reading.specs.Reading.{most_attempts}
use Rattle.reading.specs.Pest as Pest
use Rattle.reading.specs.Pest.{ParserState}
use Rattle.engine.specs.Areas.{numbers, Outside, positives_at, negatives_at, lengths_at}
use Rattle.engine.specs.Attempts.{Tried, tried, tried_of, with_tried, noted, truncated, advanced, appended, tracked, within, PushedAt, Few, Lent}
use Rattle.engine.proofs.Regions.{outside_refl, outside_set, outside_wider, numbers_length, numbers_same, same_below, same_above}
use Rattle.engine.proofs.AreaLaws.{numbers_set, numbers_take}

tried_ext : {f f' : ℕ} {p p' n n' : List ℕ} → f ≡ f' → p ≡ p' → n ≡ n'
    → ◌≡◌ {A = Tried} (record { furthest = f; positive = p; negative = n }) (record { furthest = f'; positive = p'; negative = n' })
tried_ext e g h = λ i. record { furthest = e i; positive = g i; negative = h i }

abbrev nt : ℕ → ℕ → ℕ → Noted
nt c x y = record { total = c; positives = x; negatives = y }

nt_ext : {c c' x x' y y' : ℕ} → c ≡ c' → x ≡ x' → y ≡ y' → nt c x y ≡ nt c' x' y'
nt_ext e g h = λ i. nt (e i) (g i) (h i)

-- The lists of x and y rules that stand from ps and from ns on.
abbrev pub tr : List ℕ → (ps ns f x y : ℕ) → Tried
tr a ps ns f x y = record { furthest = f; positive = numbers a ps x; negative = numbers a ns y }

module _ (a : List ℕ) (ps ns f x y p : ℕ) where
  -- ── note ──
  pub note_at : f ≡ p → nt (x + y) x y ≡ noted p (tr a ps ns f x y)
  note_at e =
      sym (rw (eq-eqb f p e, eq-eqb p f (sym e))
      (nt_ext (ap₂ (λ (m n : ℕ). m + n) (numbers_length a ps x) (numbers_length a ns y)) (numbers_length a ps x) (numbers_length a ns y)))

-- ── cut ──
take_min : (a : List ℕ) (at n m : ℕ) → numbers a at (min m n) ≡ take m (numbers a at n)
take_min a at n m = go (dec_le m n)
  where
    go : Dec (m ≤ n) → numbers a at (min m n) ≡ take m (numbers a at n)
    go (yes l) = let e : min m n ≡ m = omega arith in ap (numbers a at) e ∙ sym (numbers_take a at n m l)
    go (no l) = let e : min m n ≡ n = omega arith in ap (numbers a at) e ∙ sym (take_all m (numbers a at n) (omega (arith, numbers_length a at n)))

module _ (a : List ℕ) (ps ns f x y p : ℕ) (n : Noted) where
  pub cut_at : (x' y' : ℕ) → x' ≡ min n.positives x → y' ≡ min n.negatives y → p ≡ f
      → tr a ps ns f x' y' ≡ advanced p (truncated p n (tr a ps ns f x y))
  cut_at x' y' ex ey e =
      rw (eq-eqb p f e, le-ltb f p (omega arith))
      (tried_ext refl (ap (numbers a ps) ex ∙ take_min a ps x n.positives) (ap (numbers a ns) ey ∙ take_min a ns y n.negatives))

  pub cut_further : (p ≡ f → ⊥) → f < p → tr a ps ns p 0 0 ≡ advanced p (truncated p n (tr a ps ns f x y))
  unfolding numbers
  cut_further e l = rw (ne_eqb p f e, lt-ltb f p l)

-- ── append ──
-- lists that hold at most 256 rules
within_few : (t : Tried) → length t.positive ≤ 256 → length t.negative ≤ 256 → Some t ≡ within t
within_few t h g = rw (le-ltb most_attempts (length t.positive) h, le-ltb most_attempts (length t.negative) g)

within_full_positive : (t : Tried) → 256 < length t.positive → None ≡ within t
within_full_positive t h = rw (lt-ltb most_attempts (length t.positive) h)

within_full_negative : (t : Tried) → length t.positive ≤ 256 → 256 < length t.negative → None ≡ within t
within_full_negative t h g = rw (le-ltb most_attempts (length t.positive) h, lt-ltb most_attempts (length t.negative) g)

module _ (a : List ℕ) (t : Attempts) (p r : ℕ) (neg : Bool) (lent : Lent a t) where
  abbrev f : ℕ
  f = t.furthest.0

  abbrev x : ℕ
  x = t.positives

  abbrev y : ℕ
  y = t.negatives

  abbrev ps : List ℕ
  ps = numbers a positives_at x

  abbrev ns : List ℕ
  ns = numbers a negatives_at y

  pub append_off : (p ≡ f → ⊥) → (Some (tried a t) ≡ within (appended r p neg (tried a t))) × Outside positives_at lengths_at a a
  append_off e = (
    within_few (tried a t) (omega (arith, lent.few.few_positives, numbers_length a positives_at x))
        (omega (arith, lent.few.few_negatives, numbers_length a negatives_at y)) ∙ ap within (sym off),
    outside_refl a,
  )
    where
      off : appended r p neg (tried a t) ≡ tried a t
      off = rw (ne_eqb p f e)

  negative_is : p ≡ f → neg ≡ true → appended r p neg (tried a t) ≡ record { furthest = f; positive = ps; negative = ns ++ (r ∷ []) }
  negative_is e q = rw (eq-eqb p f e, q)

  positive_is : p ≡ f → neg ≡ false → appended r p neg (tried a t) ≡ record { furthest = f; positive = ps ++ (r ∷ []); negative = ns }
  positive_is e q = rw (eq-eqb p f e, q)

  -- What `push` answers decides the list that it was asked for, and the other is as it was.
  pub append_negative : (b : List ℕ) (o : Option ℕ) → p ≡ f → neg ≡ true → PushedAt negatives_at y r a b o
      → (option_map (λ (n : ℕ). tried b (record { furthest = t.furthest; positives = x; negatives = n })) o
      ≡ within (appended r p neg (tried a t))) × Outside positives_at lengths_at a b
  append_negative b None e q (full, same) =
      let s : Tried = record { furthest = f; positive = ps; negative = ns ++ (r ∷ []) } in (
        within_full_negative s (omega (arith, lent.few.few_positives, numbers_length a positives_at x))
            (omega (arith, numbers_length a negatives_at y, length-append ns (r ∷ [])))
            ∙ ap within (sym (negative_is e q)),
        rw same (outside_refl a),
      )
  append_negative b (Some n) e q (room, more, is) =
      let size : 4864 ≤ length a = lent.room in
      let o : Outside (negatives_at + y) (negatives_at + y + 1) a b = rw is (outside_set a (negatives_at + y) r) in
      let kept : numbers b positives_at x ≡ ps =
      sym (numbers_same a b positives_at x (same_below positives_at (positives_at + x) (omega (arith, lent.few.few_positives)) o)) in
      let grown : numbers b negatives_at n ≡ ns ++ (r ∷ []) = rw (is, more) (numbers_set a negatives_at y r (omega arith)) in
      let same : tried b (record { furthest = t.furthest; positives = x; negatives = n }) ≡ appended r p neg (tried a t) =
      tried_ext refl kept grown ∙ sym (negative_is e q) in (
        within_few _ (omega (arith, lent.few.few_positives, numbers_length b positives_at x))
            (omega (arith, numbers_length b negatives_at n)) ∙ ap within same,
        outside_wider (omega arith) (omega arith) o,
      )

  pub append_positive : (b : List ℕ) (o : Option ℕ) → p ≡ f → neg ≡ false → PushedAt positives_at x r a b o
      → (option_map (λ (n : ℕ). tried b (record { furthest = t.furthest; positives = n; negatives = y })) o
      ≡ within (appended r p neg (tried a t))) × Outside positives_at lengths_at a b
  append_positive b None e q (full, same) =
      let s : Tried = record { furthest = f; positive = ps ++ (r ∷ []); negative = ns } in (
        within_full_positive s (omega (arith, numbers_length a positives_at x, length-append ps (r ∷ []))) ∙ ap within (sym (positive_is e q)),
        rw same (outside_refl a),
      )
  append_positive b (Some n) e q (room, more, is) =
      let size : 4864 ≤ length a = lent.room in
      let o : Outside (positives_at + x) (positives_at + x + 1) a b = rw is (outside_set a (positives_at + x) r) in
      let kept : numbers b negatives_at y ≡ ns = sym (numbers_same a b negatives_at y (same_above negatives_at (negatives_at + y) (omega arith) o)) in
      let grown : numbers b positives_at n ≡ ps ++ (r ∷ []) = rw (is, more) (numbers_set a positives_at x r (omega arith)) in
      let same : tried b (record { furthest = t.furthest; positives = n; negatives = y }) ≡ appended r p neg (tried a t) =
      tried_ext refl grown kept ∙ sym (positive_is e q) in (
        within_few _ (omega (arith, numbers_length b positives_at n))
            (omega (arith, lent.few.few_negatives, numbers_length b negatives_at y)) ∙ ap within same,
        outside_wider (omega arith) (omega arith) o,
      )

-- ── track ──
abbrev grew : Noted → Noted → Bool
grew n m = ltb n.total m.total && eqb (m.total - n.total) 1

module _ (a : List ℕ) (ps ns f x y p r : ℕ) (m n : Noted) (neg : Bool) (e : m ≡ noted p (tr a ps ns f x y)) where
  same_test : grew n m ≡ grew n (noted p (tr a ps ns f x y))
  same_test = ap (grew n) e

  pub track_none : (b : Bool) → b ≡ grew n m → b ≡ true → x ≤ 256 → y ≤ 256 → Some (tr a ps ns f x y) ≡ within (tracked r p n neg (tr a ps ns f x y))
  track_none b q t fx fy =
      within_few (tr a ps ns f x y) (omega (arith, numbers_length a ps x)) (omega (arith, numbers_length a ns y))
      ∙ ap within (sym (skipped (sym same_test ∙ sym q ∙ t)))
    where
      skipped : grew n (noted p (tr a ps ns f x y)) ≡ true → tracked r p n neg (tr a ps ns f x y) ≡ tr a ps ns f x y
      skipped g = rw g

-- ── pest's own steps ──
with_if : (b : Bool) (x y : Tried) (m : ParserState) → (if b then with_tried x m else with_tried y m) ≡ with_tried (if b then x else y) m
with_if true x y m = refl
with_if false x y m = refl

-- Lists of at most 256 rules, as counts.
pub few_of : (scratch : List ℕ) (t : Attempts) → length (tried scratch t).positive ≤ most_attempts
    → length (tried scratch t).negative ≤ most_attempts → Few t
few_of a t h g = record {
  few_positives = omega (arith, numbers_length a positives_at t.positives);
  few_negatives = omega (arith, numbers_length a negatives_at t.negatives);
}

module _ (r p : ℕ) (n : Noted) (t : Tried) (m : ParserState) where
  truncate_is : Pest.truncate_attempts p n.positives n.negatives (with_tried t m) ≡ with_tried (truncated p n t) m
  truncate_is = with_if (eqb p t.furthest) _ t m

  advance_is : Pest.advance_attempts p (with_tried t m) ≡ with_tried (advanced p t) m
  advance_is = with_if (ltb t.furthest p) _ t m

  push_is : Pest.push_attempt r p (with_tried t m) ≡ with_tried (appended r p (is_negative m.lookahead) t) m
  push_is = go (eqb p t.furthest) (not (is_negative m.lookahead))
    where
      s₁ : Tried
      s₁ = record { furthest = t.furthest; positive = t.positive ++ (r ∷ []); negative = t.negative }

      s₂ : Tried
      s₂ = record t { negative = t.negative ++ (r ∷ []) }

      go : (b c : Bool) → (if b then (if c then with_tried s₁ m else with_tried s₂ m) else with_tried t m)
          ≡ with_tried (if b then (if c then s₁ else s₂) else t) m
      go true true = refl
      go true false = refl
      go false true = refl
      go false false = refl

pub track_is : (r p : ℕ) (n : Noted) (m : ParserState) → is_atomic m.atomicity ≡ false
    → Pest.track r p n.positives n.negatives n.total m ≡ with_tried (tracked r p n (is_negative m.lookahead) (tried_of m)) m
track_is r p n m e =
    rw e
    (ap (λ (s : ParserState). if grew n (noted p (tried_of m)) then m else Pest.push_attempt r p (Pest.advance_attempts p s))
    (truncate_is r p n (tried_of m) m)
    ∙ ap (λ (s : ParserState). if grew n (noted p (tried_of m)) then m else Pest.push_attempt r p s) (advance_is r p n (truncated p n (tried_of m)) m)
    ∙ ap (λ (s : ParserState). if grew n (noted p (tried_of m)) then m else s) (push_is r p n (advanced p (truncated p n (tried_of m))) m)
    ∙ with_if (grew n (noted p (tried_of m))) (tried_of m) _ m)
