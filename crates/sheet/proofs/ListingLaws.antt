-- Text written into an area: stores that go down to the text's start, and fields one behind the other. A field's spaces and its numeral
-- are two runs of stores that meet; a line's fields are written over the area's start.
use Prim.Native.Nat.{ℕ, zero, suc, ◌+◌, ◌-◌, ◌*◌, ◌/◌, ◌%◌, ◌≤◌, ◌<◌}
use native.Mathlib.Omega.{arith}
use native.Mathlib.Numerals.{add-one}
use mathlib.Core.Path.{◌≡◌, refl, sym, ap, ◌∙◌}
use mathlib.Core.Bool.{false}
use mathlib.Core.List.{List, [], ◌∷◌, ◌++◌, append_assoc, append-nil}
use native.Mathlib.Nat.{pow-suc}
use Rattle.std.specs.Prelude.{Option, None, Some, IfNone, IfSome, unwrap_or, ◌^◌}
use lib.Dec.{ltb}
use lib.ListN.{length, get_or, take, drop, set, replicate, length-append, length-drop, length-set, length-replicate, take-append-drop}
use lib.Seq.{length-take-le, drop-drop, sets, sets-eq, length-sets, set_comm, take-suc, take_all}
use borrow.Author.Tests.{lt-ltb, le-ltb, le-leb, lt-leb, eq-eqb, ne_eqb}
use Rattle.sheet.specs.Area.{over}
use Rattle.sheet.specs.Numeral.{numeral, justified}
use Rattle.sheet.specs.Listing.{six, fields, line_text, token_line, rule_line, later_line, whole, Written}
use Rattle.sheet.proofs.NumeralLaws.{numeral_digit, numeral_tens, leads}
use Rattle.sheet.proofs.FieldLaws.{pow_some}
use Rattle.sheet.proofs.SheetLaws.{over_more, over_none, over_length}

-- runs of stores
module _ {A : Type 0} where
  sets_front : (vs l : List A) (i j : ℕ) (x : A) → j < i → set (sets l i vs) j x ≡ sets (set l j x) i vs
  sets_front [] l i j x h = refl
  sets_front (v ∷ vs) l i j x h =
      sets_front vs (set l i v) (suc i) j x (omega arith) ∙ ap (λ y. sets y (suc i) vs) (set_comm l i j v x (λ e. omega arith))

  pub sets_append : (vs ws l : List A) (i : ℕ) → sets l i (vs ++ ws) ≡ sets (sets l i vs) (i + length vs) ws
  sets_append [] ws l i = let e : i + 0 ≡ i = omega arith in rw e
  sets_append (v ∷ vs) ws l i =
      let e : suc i + length vs ≡ i + suc (length vs) = omega arith in
      sets_append vs ws (set l i v) (suc i) ∙ rw e

  -- one store more in front of a run
  pub sets_before : (vs l : List A) (i : ℕ) (x : A) → 0 < i → set (sets l i vs) (i - 1) x ≡ sets l (i - 1) (x ∷ vs)
  sets_before vs l i x h =
      let e : suc (i - 1) ≡ i = omega arith in
      sets_front vs l i (i - 1) x (omega arith) ∙ rw e

-- a numeral by its length
pub shorter : (n : ℕ) → 10 ≤ n → length (numeral n) ≡ length (numeral (n / 10)) + 1
shorter n h = rw (numeral_tens n h) (simp length-append)

pub one_digit : (n : ℕ) → n < 10 → length (numeral n) ≡ 1
one_digit n h = rw (numeral_digit n h)

pub numeral_length : (k n : ℕ) → 10 ^ k ≤ n → n < 10 * 10 ^ k → length (numeral n) ≡ k + 1
numeral_length zero n h l = one_digit n (omega arith)
numeral_length (suc k) n h l =
    let p : 10 ^ suc k ≡ 10 ^ k * 10 = pow-suc 10 k in
    let s : 1 ≤ 10 ^ k = pow_some k in
    omega (arith, shorter n (omega arith), numeral_length k (n / 10) (omega arith) (omega arith))

pub digits_counted :
    (n : ℕ) (o : Option ℕ) → IfNone o (n ≡ 0) → IfSome o (λ k. 10 ^ k ≤ n) → IfSome o (λ k. n < 10 * 10 ^ k) →
    unwrap_or o 0 + 1 ≡ length (numeral n)
digits_counted n None e h l = sym (one_digit n (omega arith))
digits_counted n (Some k) e h l = sym (numeral_length k n h l)

-- the digits of n behind those of `rest` are written from i to the end
pub record Spelt (n rest end i : ℕ) (before area : List ℕ) : Type 0 where
  pub tail : List ℕ
  pub text : numeral n ≡ numeral rest ++ tail
  pub place : i + length tail ≡ end
  pub wrote : area ≡ sets before i tail

pub spelt_none : (n end : ℕ) (before : List ℕ) → Spelt n n end end before before
spelt_none n end before = record { tail = []; text = sym (append-nil (numeral n)); place = omega arith; wrote = refl }

module _ (n rest end i : ℕ) (before area : List ℕ) (s : Spelt n rest end i before area) where
  spelt_size : length (numeral n) ≡ length (numeral rest) + length s.tail
  spelt_size = rw s.text (length-append (numeral rest) s.tail)

  pub spelt_length : length area ≡ length before
  spelt_length = rw s.wrote (length-sets before i s.tail)

  pub spelt_some : length (numeral n) ≤ end → 0 < i
  spelt_some h = omega (arith, s.place, spelt_size, (leads rest).some_digit)

  pub spelt_within : length (numeral n) ≤ end → end ≤ length before → i - 1 < length area
  spelt_within h l = omega (arith, s.place, spelt_length, spelt_some h)

  module _ (h : length (numeral n) ≤ end) (x : ℕ) where
    pub spelt_more : 10 ≤ rest → x ≡ 48 + rest % 10 → Spelt n (rest / 10) end (i - 1) before (set area (i - 1) x)
    spelt_more l e =
        record {
          tail = x ∷ s.tail;
          text = s.text ∙ rw (numeral_tens rest l, append_assoc, e);
          place = omega (arith, s.place, spelt_some h);
          wrote = rw s.wrote (sets_before s.tail before i x (spelt_some h));
        }

    pub spelt_all : rest < 10 → x ≡ 48 + rest → (set area (i - 1) x ≡ sets before (i - 1) (numeral n)) × (i - 1 + length (numeral n) ≡ end)
    spelt_all l e =
        let f : numeral n ≡ x ∷ s.tail = s.text ∙ rw (numeral_digit rest l, e) in
        (rw (s.wrote, f) (sets_before s.tail before i x (spelt_some h)), rw f (omega (arith, s.place, spelt_some h)))

-- a field
pub six_length : (n : ℕ) → length (six n) ≡ 6 - length (numeral n) + length (numeral n)
unfolding six justified
six_length n = simp (length-append, length-replicate)

-- spaces from `at` on, and the numeral behind them
pub six_put :
    (n w k : ℕ) (l new after : List ℕ) (at r : ℕ) → w ≡ length (six n) → k ≡ length (numeral n) → at + w ≤ length l →
    new ≡ replicate (length (take (at + w - k - at) (drop at l))) 32 →
    after ≡ sets (take at l ++ (new ++ drop (at + w - k - at) (drop at l))) r (numeral n) → r + length (numeral n) ≡ at + w →
    after ≡ sets l at (six n)
unfolding six justified
six_put n w k l new after at r ew ek h en ea er =
    let p : ℕ = 6 - length (numeral n) in
    let g : r ≡ at + p = omega (arith, six_length n) in
    let e : at + w - k - at ≡ p = omega (arith, six_length n) in
    let j : length (take (at + w - k - at) (drop at l)) ≡ p =
    length-take-le (at + w - k - at) (drop at l) (simp length-drop (omega (arith, six_length n))) ∙ e in
    let m : at + p ≤ length l = omega (arith, six_length n) in
    let b : sets l at (replicate p 32) ≡ take at l ++ replicate p 32 ++ drop (at + p) l =
    sets-eq (replicate p 32) l at (omega (arith, length-replicate {A = ℕ} p 32)) ∙ rw (length-replicate {A = ℕ} p 32) in
    let c : take at l ++ (new ++ drop (at + w - k - at) (drop at l)) ≡ sets l at (replicate p 32) =
    rw (en, j, e, drop-drop p at l) (sym (b ∙ append_assoc (take at l) (replicate p 32) (drop (at + p) l))) in
    ea ∙ rw (c, g, sets_append (replicate p 32) (numeral n) l at, length-replicate {A = ℕ} p 32)

-- the fields of the first numbers
fields_append : (a b : List ℕ) → fields (a ++ b) ≡ fields a ++ fields b
unfolding fields
fields_append [] b = refl
fields_append (n ∷ a) b = ap (λ x. six n ++ x) (fields_append a b) ∙ sym (append_assoc (six n) (fields a) (fields b))

fields_one : (n : ℕ) → fields (n ∷ []) ≡ six n
unfolding fields
fields_one n = append-nil (six n)

module _ (ns : List ℕ) (i : ℕ) (h : i < length ns) where
  pub fields_more : fields (take (i + 1) ns) ≡ fields (take i ns) ++ six (get_or ns i 0)
  fields_more = rw (add-one i, take-suc ns i 0 h, fields_append (take i ns) (get_or ns i 0 ∷ []), fields_one (get_or ns i 0))

  pub fields_size : length (fields (take (i + 1) ns)) ≡ length (fields (take i ns)) + length (six (get_or ns i 0))
  fields_size = rw fields_more (length-append (fields (take i ns)) (six (get_or ns i 0)))

pub fields_part : (ns : List ℕ) (i : ℕ) → length (fields (take i ns)) ≤ length (fields ns)
fields_part ns i =
    let e : length (fields ns) ≡ length (fields (take i ns)) + length (fields (drop i ns)) =
    ap (λ x. length (fields x)) (sym (take-append-drop i ns))
    ∙ rw (fields_append (take i ns) (drop i ns)) (length-append (fields (take i ns)) (fields (drop i ns)))
    in
    omega arith

pub fields_all : (ns : List ℕ) (i : ℕ) → length ns ≤ i → fields (take i ns) ≡ fields ns
fields_all ns i h = ap fields (take_all i ns h)

-- what is left of the room behind the first i fields
pub record Left (ns : List ℕ) (room left i : ℕ) : Type 0 where
  pub within : i ≤ length ns
  pub rest : left + length (fields (take i ns)) ≡ room

pub left_all : (ns : List ℕ) (room : ℕ) → Left ns room room 0
unfolding fields
left_all ns room = record { within = omega arith; rest = omega arith }

module _ (ns : List ℕ) (room left i w : ℕ) (s : Left ns room left i) (h : i < length ns) (e : w ≡ length (six (get_or ns i 0))) where
  pub left_short : left < w → false ≡ ltb (length (fields ns)) room
  left_short l = sym (le-ltb (length (fields ns)) room (omega (arith, s.rest, fields_part ns (i + 1), fields_size ns i h)))

  pub left_more : w ≤ left → Left ns room (left - w) (i + 1)
  left_more l = record { within = omega arith; rest = omega (arith, s.rest, fields_size ns i h) }

pub left_end : (ns : List ℕ) (room left i : ℕ) → Left ns room left i → length ns ≤ i → ltb 0 left ≡ ltb (length (fields ns)) room
left_end ns room left i s h = go left (rw (← fields_all ns i h) s.rest)
  where
    go : (l : ℕ) → l + length (fields ns) ≡ room → ltb 0 l ≡ ltb (length (fields ns)) room
    go zero e = sym (le-ltb (length (fields ns)) room (omega arith))
    go (suc l) e = lt-ltb 0 (suc l) (omega arith) ∙ sym (lt-ltb (length (fields ns)) room (omega arith))

-- the first i fields are written
pub record Filled (ns before area : List ℕ) (at i : ℕ) : Type 0 where
  pub within : i ≤ length ns
  pub place : at ≡ length (fields (take i ns))
  pub wrote : area ≡ over (fields (take i ns)) before

pub filled_none : (ns before : List ℕ) → Filled ns before before 0 0
unfolding fields
filled_none ns before = record { within = omega arith; place = refl; wrote = sym (over_none before) }

module _ (ns before area : List ℕ) (at i : ℕ) (s : Filled ns before area at i) (room : length (fields ns) < length before) where
  pub filled_length : length area ≡ length before
  filled_length = rw s.wrote (over_length (fields (take i ns)) before (omega (arith, fields_part ns i)))

  pub filled_room : i < length ns → at + length (six (get_or ns i 0)) ≤ length area
  filled_room h = omega (arith, filled_length, s.place, fields_part ns (i + 1), fields_size ns i h)

  pub filled_more :
      (after : List ℕ) (next : ℕ) → i < length ns → after ≡ sets area at (six (get_or ns i 0)) →
      next ≡ at + length (six (get_or ns i 0)) → Filled ns before after next (i + 1)
  filled_more after next h e f =
      record {
        within = omega arith;
        place = omega (arith, s.place, fields_size ns i h);
        wrote =
            rw (e, s.wrote, fields_more ns i h)
            (over_more (fields (take i ns)) (six (get_or ns i 0)) before at (sym s.place) (omega (arith, filled_length, filled_room h)));
      }

  module _ (h : length ns ≤ i) where
    pub filled_end : at < length area
    filled_end = omega (arith, filled_length, s.place, fields_part ns i)

    pub filled_line : Written (line_text ns) before (set area at 10) (at + 1)
    unfolding line_text
    filled_line =
        let p : at ≡ length (fields ns) = rw (← fields_all ns i h) s.place in
        let w : at + 1 ≤ length (set area at 10) = simp length-set (omega (arith, filled_end)) in
        record {
          count = rw (length-append (fields ns) (10 ∷ [])) (omega arith);
          area = rw (s.wrote, fields_all ns i h) (over_more (fields ns) (10 ∷ []) before at (sym p) (omega arith));
          within = w;
          part = sym (length-take-le (at + 1) (set area at 10) w);
        }

-- the text of a line, and none of it
pub whole_line : (ns area : List ℕ) → length (fields ns) < length area → whole area (line_text ns) ≡ line_text ns
unfolding whole line_text
whole_line ns area h = rw (le-leb (length (fields ns ++ (10 ∷ []))) (length area) (simp length-append (omega arith)))

pub whole_none : (ns area : List ℕ) → length area ≤ length (fields ns) → whole area (line_text ns) ≡ []
unfolding whole line_text
whole_none ns area h = rw (lt-leb (length (fields ns ++ (10 ∷ []))) (length area) (simp length-append (omega arith)))

pub written_none : (area : List ℕ) → Written [] area area 0
written_none area = record { count = refl; area = sym (over_none area); within = omega arith; part = refl }

pub written_whole :
    (ns before after : List ℕ) (r : ℕ) → length (fields ns) < length before →
    Written (line_text ns) before after r → Written (whole before (line_text ns)) before after r
written_whole ns before after r h w = rw (whole_line ns before h) w

pub written_short : (ns area : List ℕ) → length area ≤ length (fields ns) → Written (whole area (line_text ns)) area area 0
written_short ns area h = rw (whole_none ns area h) (written_none area)

-- a line behind the head, and how many there are
module _ (n : ℕ) (tokens report : List ℕ) (k : ℕ) where
  pub later_token : n ≡ 0 → later_line n tokens report k ≡ line_text (token_line tokens k)
  unfolding later_line
  later_token e = rw (eq-eqb _ _ e)

  pub later_rule : (n ≡ 0 → ⊥) → later_line n tokens report k ≡ line_text (rule_line report k)
  unfolding later_line
  later_rule z = rw (ne_eqb _ _ z)

-- another name for the text
pub renamed : (t u before after : List ℕ) (r : ℕ) → t ≡ u → Written (whole before u) before after r → Written (whole before t) before after r
renamed t u before after r e w = rw e w
