-- The whole listing. A number of 32 bits has ten digits at most, so that 61 bytes hold any line; and a line that is written behind the
-- first k lines makes the first k + 1 of them.
use Prim.Native.Nat.{ℕ, zero, suc, ◌+◌, ◌-◌, ◌*◌, ◌/◌, ◌^◌, ◌≤◌, ◌<◌}
use native.Mathlib.Omega.{arith}
use native.Mathlib.Numerals.{add-one}
use mathlib.Core.Path.{◌≡◌, refl, sym, ap, ◌∙◌}
use mathlib.Core.Bool.{Bool, true, false, cond, ◌||◌}
use mathlib.Core.List.{List, [], ◌∷◌, ◌++◌, append_assoc, append-nil}
use lib.Dec.{ltb, eqb}
use lib.ListN.{length, get_or, take, drop, length-append, length-drop}
use lib.Seq.{length-take-le, drop-drop, take_at, drop_at, drop-length, take-length, drop-append-add}
use borrow.Author.Tests.{ltb-true, ltb-false, le-leb, lt-leb}
use Rattle.engine.specs.declared.state.Outcome.{Outcome}
use Rattle.sheet.specs.Area.{over}
use Rattle.sheet.specs.Numeral.{numeral}
use Rattle.sheet.specs.Listing.{six, fields, line_text, head_line, token_line, rule_line, later_line, later_count, first_lines, listing}
use Rattle.sheet.specs.Listing.{whole, Written, ListingWritten}
use Rattle.sheet.proofs.SheetLaws.{over_length}
use Rattle.sheet.proofs.ListingLaws.{shorter, one_digit, six_length, written_none}

-- a hundred has three digits at most
abbrev tens : ℕ → ℕ
tens zero = 10
tens (suc k) = tens k * 10

digits_most : (k n : ℕ) → n < tens k → length (numeral n) ≤ suc k
digits_most zero n h = omega (arith, one_digit n h)
digits_most (suc k) n h = go (ltb n 10) refl (digits_most k (n / 10) (omega arith))
  where
    go : (b : Bool) → ltb n 10 ≡ b → length (numeral (n / 10)) ≤ suc k → length (numeral n) ≤ suc (suc k)
    go true e f = omega (arith, one_digit n (ltb-true n 10 e))
    go false e f = omega (arith, shorter n (ltb-false n 10 e))

six_most : (n : ℕ) → n < 2 ^ 32 → length (six n) ≤ 10
six_most n h = omega (arith, six_length n, digits_most 9 n (omega arith))

-- numbers of 32 bits
abbrev Small : List ℕ → Type 0
Small [] = Unit {0}
Small (n ∷ ns) = (n < 2 ^ 32) × Small ns

fields_most : (ns : List ℕ) → Small ns → length (fields ns) ≤ 10 * length ns
unfolding fields
fields_most [] h = omega arith
fields_most (n ∷ ns) h = simp length-append (omega (arith, six_most n h.0, fields_most ns h.1))

line_most : (ns : List ℕ) → Small ns → length ns ≤ 6 → length (line_text ns) ≤ 61
unfolding line_text
line_most ns h l = simp length-append (omega (arith, fields_most ns h))

pub whole_fits : (area text : List ℕ) → length text ≤ length area → whole area text ≡ text
unfolding whole
whole_fits area text h = rw (le-leb _ _ h)

whole_short : (area text : List ℕ) → length area < length text → whole area text ≡ []
unfolding whole
whole_short area text h = rw (lt-leb _ _ h)

-- written twice from the start, the longer one last
over_over : (text more area : List ℕ) → length text ≤ length more → over more (over text area) ≡ over more area
unfolding over
over_over text more area h =
    let d : ℕ = length more - length text in
    let e : length more ≡ length text + d = omega arith in
    let f : drop (length more) (text ++ drop (length text) area) ≡ drop (length more) area =
    rw e (drop-append-add text (drop (length text) area) d ∙ drop-drop d (length text) area) in
    ap (λ x. more ++ x) f

-- what a run returned, and the two areas
module _ (o : Outcome) (tokens report : List ℕ) where
  abbrev head : List ℕ
  head = line_text (head_line o)

  abbrev later : ℕ → List ℕ
  later k = later_line o.number tokens report k

  abbrev first : ℕ → List ℕ
  first k = first_lines o tokens report k

  abbrev all : List ℕ
  all = listing o tokens report

  first_more : (k : ℕ) → first (k + 1) ≡ first k ++ later k
  unfolding first_lines
  first_more k = rw (add-one k)

  first_size : (k : ℕ) → length (first (k + 1)) ≡ length (first k) + length (later k)
  first_size k = rw (first_more k) (length-append (first k) (later k))

  first_part : (d k : ℕ) → length (first k) ≤ length (first (d + k))
  first_part zero k = let e : 0 + k ≡ k = omega arith in rw e (omega arith)
  first_part (suc d) k = let e : suc d + k ≡ d + k + 1 = omega arith in rw e (omega (arith, first_part d k, first_size (d + k)))

  -- the lines up to k are a part of the listing
  first_within : (k : ℕ) → k ≤ later_count o → length (first k) ≤ length all
  unfolding listing
  first_within k h =
      let e : later_count o - k + k ≡ later_count o = omega arith in
      rw (← e) (first_part (later_count o - k) k)

  first_all : (k : ℕ) → k ≤ later_count o → later_count o ≤ k → first k ≡ all
  unfolding listing
  first_all k h l = let e : k ≡ later_count o = omega arith in rw e

  count_most : later_count o ≤ o.count
  unfolding later_count
  count_most = go (eqb o.number 0 || eqb o.number 10)
    where
      go : (b : Bool) → cond b o.count 0 ≤ o.count
      go true = omega arith
      go false = omega arith

  -- all of them 32-bit numbers
  pub record Numbers : Type 0 where
    pub number : o.number < 2 ^ 32
    pub place : o.place < 2 ^ 32
    pub count : o.count < 2 ^ 32
    pub in_tokens : (i : ℕ) → get_or tokens i 0 < 2 ^ 32
    pub in_report : (i : ℕ) → get_or report i 0 < 2 ^ 32

  module _ (n : Numbers) where
    head_most : length head ≤ 61
    head_most = line_most (head_line o) (n.number, (n.place, (n.count, tt))) (omega arith)

    later_most : (k : ℕ) → k < 2 ^ 32 → length (later k) ≤ 61
    unfolding later_line
    later_most k h = go (eqb o.number 0)
      where
        token : Small (token_line tokens k)
        token = (h, (n.in_tokens _, (n.in_tokens _, (n.in_tokens _, (n.in_tokens _, (n.in_tokens _, tt))))))

        sign : (b : Bool) → cond b 1 2 < 2 ^ 32
        sign true = omega arith
        sign false = omega arith

        go : (b : Bool) → length (line_text (cond b (token_line tokens k) (rule_line report k))) ≤ 61
        go true = line_most (token_line tokens k) token (omega arith)
        go false = line_most (rule_line report k) (sign (ltb k (get_or report 1 0)), (n.in_report _, tt)) (omega arith)

    first_most : (k : ℕ) → k ≤ o.count → length (first k) ≤ 61 * (k + 1)
    unfolding first_lines
    first_most zero h = omega (arith, head_most)
    first_most (suc k) h = simp length-append (omega (arith, first_most k (omega arith), later_most k (omega (arith, n.count))))

    listing_most : length all ≤ 61 * (o.count + 1)
    unfolding listing
    listing_most = omega (arith, first_most (later_count o) count_most, count_most)

  -- the size of the first k lines was summed, with an area that holds any line
  pub record Sized (line : List ℕ) (size k : ℕ) : Type 0 where
    pub numbers : Numbers
    pub low : k ≤ later_count o
    pub room : 61 ≡ length line
    pub sum : size ≡ length (first k)

  pub sized_head :
      (line after : List ℕ) (size : ℕ) → Numbers → 61 ≡ length line → length after ≡ length line →
      Written (whole line head) line after size → Sized after size 0
  unfolding first_lines
  sized_head line after size n l e w =
      record {
        numbers = n;
        low = omega arith;
        room = l ∙ sym e;
        sum = w.count ∙ ap length (whole_fits line head (omega (arith, head_most n)));
      }

  module _ (line : List ℕ) (size k : ℕ) (s : Sized line size k) where
    pub sized_small : size ≤ 61 * 2 ^ 32
    sized_small =
        let h : k ≤ o.count = omega (arith, s.low, count_most) in
        omega (arith, s.sum, s.numbers.count, first_most s.numbers k h)

    -- a line's index fits 32 bits
    pub sized_line : later_count o < 2 ^ 32
    sized_line = omega (arith, count_most, s.numbers.count)

    pub sized_more :
        (after : List ℕ) (n : ℕ) → k < later_count o → length after ≡ length line →
        Written (whole line (later k)) line after n → Sized after (size + n) (k + 1)
    sized_more after n h e w =
        let m : length (later k) ≤ 61 = later_most s.numbers k (omega (arith, sized_line)) in
        let c : n ≡ length (later k) = w.count ∙ ap length (whole_fits line (later k) (omega (arith, s.room))) in
        record {
          numbers = s.numbers;
          low = omega arith;
          room = s.room ∙ sym e;
          sum = omega (arith, s.sum, c, first_size k);
        }

    pub sized_all : later_count o ≤ k → (size ≡ length all) × (size ≤ 61 * (o.count + 1))
    sized_all h =
        let e : size ≡ length all = s.sum ∙ ap length (first_all k s.low h) in
        (e, omega (arith, e, listing_most s.numbers))

  -- the first k lines are written, in an area that is long enough for all
  pub record Lined (before area : List ℕ) (at k : ℕ) : Type 0 where
    pub room : length all ≤ length before
    pub low : k ≤ later_count o
    pub place : at ≡ length (first k)
    pub wrote : area ≡ over (first k) before

  module _ (before area : List ℕ) (at : ℕ) (room : length all ≤ length before) (w : Written (whole before head) before area at) where
    head_fits : whole before head ≡ first 0
    unfolding first_lines
    head_fits = whole_fits before head (omega (arith, first_within 0 (omega arith)))

    head_is : area ≡ over (first 0) before
    head_is = w.area ∙ ap (λ x. over x before) head_fits

    pub lined_head : length area ≡ length before → Lined area area at 0
    lined_head l =
        record {
          room = omega arith;
          low = omega arith;
          place = w.count ∙ ap length head_fits;
          wrote = head_is ∙ sym (over_over (first 0) (first 0) before (omega arith)) ∙ ap (over (first 0)) (sym head_is);
        }

    -- what was there before the head does not matter
    pub lined_from : (after : List ℕ) (r : ℕ) → Written all area after r → Written all before after r
    lined_from after r v =
        record {
          count = v.count;
          area = v.area ∙ ap (over all) head_is ∙ over_over (first 0) all before (first_within 0 (omega arith));
          within = v.within;
          part = v.part;
        }

  module _ (before area : List ℕ) (at k : ℕ) (s : Lined before area at k) where
    pub lined_length : length area ≡ length before
    lined_length = ap length s.wrote ∙ over_length (first k) before (omega (arith, s.room, first_within k s.low))

    pub lined_within : at ≤ length area
    lined_within = omega (arith, s.room, s.place, lined_length, first_within k s.low)

    pub lined_place : at ≤ length before
    lined_place = omega (arith, lined_length, lined_within)

    -- A line goes into what lies behind the others, which comes back in its place.
    abbrev behind : List ℕ
    behind = take (length area - at) (drop at area)

    pub lined_more :
        (part : List ℕ) (n : ℕ) → k < later_count o → Written (whole behind (later k)) behind part n →
        Lined before (take at area ++ (part ++ drop (length area - at) (drop at area))) (at + n) (k + 1)
    unfolding over
    lined_more part n h v =
        let p : List ℕ = first k in
        let l : List ℕ = later k in
        let d : List ℕ = drop (length p) before in
        let front : take at area ≡ p = ap (take at) s.wrote ∙ take_at p d at (sym s.place) in
        let back : drop at area ≡ d = ap (drop at) s.wrote ∙ drop_at p d at (sym s.place) in
        let rest : drop (length area - at) (drop at area) ≡ [] = rw (← length-drop at area) (drop-length (drop at area)) in
        let all_of_it : behind ≡ d = rw (← length-drop at area) (take-length (drop at area)) ∙ back in
        let w : Written (whole d l) d part n = rw all_of_it at v in
        let m : length l ≤ length d =
        simp length-drop (omega (arith, first_size k, s.room, first_within (k + 1) (omega arith))) in
        let line : whole d l ≡ l = whole_fits d l m in
        let c : n ≡ length l = w.count ∙ ap length line in
        let put : part ≡ l ++ drop (length p + length l) before =
        w.area ∙ ap (λ x. x ++ drop (length x) d) line ∙ ap (λ x. l ++ x) (drop-drop (length l) (length p) before) in
        record {
          room = s.room;
          low = omega arith;
          place = omega (arith, s.place, c, first_size k);
          wrote =
              ap (λ x. x ++ (part ++ drop (length area - at) (drop at area))) front
              ∙ ap (λ x. p ++ (part ++ x)) rest
              ∙ ap (λ x. p ++ x) (append-nil part ∙ put)
              ∙ sym (append_assoc p l (drop (length p + length l) before))
              ∙ rw (first_more k, length-append p l);
        }

    pub lined_all : later_count o ≤ k → Written all before area at
    lined_all h =
        let e = first_all k s.low h in
        record {
          count = s.place ∙ ap length e;
          area = s.wrote ∙ ap (λ x. over x before) e;
          within = lined_within;
          part = sym (length-take-le at area lined_within);
        }

  -- the listing as a whole, and none of it
  module _ (size : ℕ) (e : (size ≡ length all) × (size ≤ 61 * (o.count + 1))) where
    pub listing_whole :
        (before after : List ℕ) (r : ℕ) → size ≤ length before → Written all before after r → ListingWritten o tokens report before after r
    listing_whole before after r h w = record { written = rw (whole_fits before all (omega (arith, e.0))) w; most = omega (arith, e.0, e.1) }

    pub listing_short : (area : List ℕ) → length area < size → ListingWritten o tokens report area area 0
    listing_short area h =
        record { written = rw (whole_short area all (omega (arith, e.0))) (written_none area); most = omega (arith, e.0, e.1) }
