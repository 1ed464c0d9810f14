-- Ford's relation is a function, and what it leaves is a suffix of its input: both by induction on how the relation came to hold.
use mathlib.Core.Path.{◌≡◌, refl, sym, ap, ◌∙◌, subst}
use mathlib.Core.List.{List, [], ◌∷◌, ◌++◌, append_assoc}
use Rattle.std.specs.Prelude.{Option, None, Some}
use Prim.Native.Nat.{ℕ}
use native.Mathlib.Omega.{arith}
use Rattle.reading.specs.Ford.{Peg, star, Ford, f_empty, f_terminal, f_terminal_fail, f_terminal_end, f_nonterminal, f_sequence}
use Rattle.reading.specs.Ford.{f_sequence_fail, f_first, f_second, f_more, f_done, f_not_fail, f_not}

module _ (rules : ℕ → Peg) where
  apart : {A : Type 0} {y : List ℕ} → Path (Option (List ℕ)) (Some y) None → A
  apart e = let z : ◌≡◌ {A = ℕ} 0 1 = cc in absurd (omega arith)

  inner : {y z : List ℕ} → Some y ≡ Some z → y ≡ z
  inner e = cc

  pub ford_unique : (e : Peg) (x : List ℕ) (o : Option (List ℕ)) → Ford rules e x o → (o' : Option (List ℕ)) → Ford rules e x o' → o ≡ o'
  ford_unique e x o (f_empty x') o' (f_empty x'') = refl
  ford_unique e x o (f_terminal p a x' t) o' (f_terminal p' a' x'' t') = refl
  ford_unique e x o (f_terminal p a x' t) o' (f_terminal_fail p' a' x'' t') = let z : ◌≡◌ {A = ℕ} 0 1 = cc in absurd (omega arith)
  ford_unique e x o (f_terminal_fail p a x' t) o' (f_terminal p' a' x'' t') = let z : ◌≡◌ {A = ℕ} 0 1 = cc in absurd (omega arith)
  ford_unique e x o (f_terminal_fail p a x' t) o' (f_terminal_fail p' a' x'' t') = refl
  ford_unique e x o (f_terminal_end p) o' (f_terminal_end p') = refl
  ford_unique e x o (f_nonterminal l x' o₁ d) o' (f_nonterminal l' x'' o₂ d') = ford_unique (rules l) x' o₁ d o₂ d'
  ford_unique e x o (f_sequence a b x' y o₁ d f) o' (f_sequence a' b' x'' y' o₂ d' f') =
      ford_unique b y o₁ f o₂ (subst (λ (z : List ℕ). Ford rules b z o₂) (sym (inner (ford_unique a x' (Some y) d (Some y') d'))) f')
  ford_unique e x o (f_sequence a b x' y o₁ d f) o' (f_sequence_fail a' b' x'' d') = apart (ford_unique a x' (Some y) d None d')
  ford_unique e x o (f_sequence_fail a b x' d) o' (f_sequence a' b' x'' y' o₂ d' f') = apart (sym (ford_unique a x' None d (Some y') d'))
  ford_unique e x o (f_sequence_fail a b x' d) o' (f_sequence_fail a' b' x'' d') = refl
  ford_unique e x o (f_first a b x' y d) o' (f_first a' b' x'' y' d') = ford_unique a x' (Some y) d (Some y') d'
  ford_unique e x o (f_first a b x' y d) o' (f_second a' b' x'' o₂ d' f') = apart (ford_unique a x' (Some y) d None d')
  ford_unique e x o (f_second a b x' o₁ d f) o' (f_first a' b' x'' y' d') = apart (sym (ford_unique a x' None d (Some y') d'))
  ford_unique e x o (f_second a b x' o₁ d f) o' (f_second a' b' x'' o₂ d' f') = ford_unique b x' o₁ f o₂ f'
  ford_unique e x o (f_more a x' y o₁ d f) o' (f_more a' x'' y' o₂ d' f') =
      ford_unique (star a) y o₁ f o₂ (subst (λ (z : List ℕ). Ford rules (star a) z o₂) (sym (inner (ford_unique a x' (Some y) d (Some y') d'))) f')
  ford_unique e x o (f_more a x' y o₁ d f) o' (f_done a' x'' d') = apart (ford_unique a x' (Some y) d None d')
  ford_unique e x o (f_done a x' d) o' (f_more a' x'' y' o₂ d' f') = apart (sym (ford_unique a x' None d (Some y') d'))
  ford_unique e x o (f_done a x' d) o' (f_done a' x'' d') = refl
  ford_unique e x o (f_not_fail a x' y d) o' (f_not_fail a' x'' y' d') = refl
  ford_unique e x o (f_not_fail a x' y d) o' (f_not a' x'' d') = apart (ford_unique a x' (Some y) d None d')
  ford_unique e x o (f_not a x' d) o' (f_not_fail a' x'' y' d') = apart (sym (ford_unique a x' None d (Some y') d'))
  ford_unique e x o (f_not a x' d) o' (f_not a' x'' d') = refl

  -- A repetition never fails.
  pub star_left : (e : Peg) (x : List ℕ) (o : Option (List ℕ)) → Ford rules (star e) x o → o ≡ None → ⊥
  star_left e x o (f_more a x' y o₁ d f) q = star_left a y o₁ f q
  star_left e x o (f_done a x' d) q = apart q

  -- What is left, if the relation does not fail, is what follows some characters that it consumed.
  abbrev pub Suffix : List ℕ → Option (List ℕ) → Type 0
  Suffix x None = Unit {0}
  Suffix x (Some y) = (c : List ℕ) × (x ≡ c ++ y)

  -- Where a first part left a suffix of x, what is left of that is one too.
  further : (x y : List ℕ) → Suffix x (Some y) → (o : Option (List ℕ)) → Suffix y o → Suffix x o
  further x y h None k = tt
  further x y h (Some z) k = (h.0 ++ k.0, h.1 ∙ ap (λ (w : List ℕ). h.0 ++ w) k.1 ∙ sym (append_assoc h.0 k.0 z))

  suffix_of : (e : Peg) (x : List ℕ) (o : Option (List ℕ)) → Ford rules e x o → Suffix x o
  suffix_of e x o (f_empty x') = ([], refl)
  suffix_of e x o (f_terminal p a x' t) = (a ∷ [], refl)
  suffix_of e x o (f_terminal_fail p a x' t) = tt
  suffix_of e x o (f_terminal_end p) = tt
  suffix_of e x o (f_nonterminal l x' o₁ d) = suffix_of (rules l) x' o₁ d
  suffix_of e x o (f_sequence a b x' y o₁ d f) = further x' y (suffix_of a x' (Some y) d) o₁ (suffix_of b y o₁ f)
  suffix_of e x o (f_sequence_fail a b x' d) = tt
  suffix_of e x o (f_first a b x' y d) = suffix_of a x' (Some y) d
  suffix_of e x o (f_second a b x' o₁ d f) = suffix_of b x' o₁ f
  suffix_of e x o (f_more a x' y o₁ d f) = further x' y (suffix_of a x' (Some y) d) o₁ (suffix_of (star a) y o₁ f)
  suffix_of e x o (f_done a x' d) = ([], refl)
  suffix_of e x o (f_not_fail a x' y d) = tt
  suffix_of e x o (f_not a x' d) = ([], refl)

  -- "consumes a prefix": some y is left, after a prefix c.
  pub ford_suffix : (e : Peg) (x y : List ℕ) → Ford rules e x (Some y) → (c : List ℕ) × (x ≡ c ++ y)
  ford_suffix e x y d = suffix_of e x (Some y) d
