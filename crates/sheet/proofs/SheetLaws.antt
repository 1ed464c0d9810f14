-- The definitions of specs/Sheet.antt taken one line at a time: line i stands at byte i * 41, and what lies behind it is the rest of
-- the lines. Then an area that is written from its start, and a line by its four fields.
use Prim.Native.Nat.{ℕ, zero, suc, ◌+◌, ◌*◌, ◌%◌, ◌≤◌, ◌<◌}
use native.Mathlib.Omega.{arith}
use native.Mathlib.Numerals.{add-one}
use mathlib.Core.Path.{◌≡◌, refl, sym, ap, ◌∙◌}
use mathlib.Core.Bool.{Bool, true, false, cond, ◌&&◌}
use mathlib.Core.List.{List, [], ◌∷◌, ◌++◌, append_assoc, append-nil}
use Rattle.std.specs.Prelude.{Option, None, Some}
use Rattle.std.proofs.lemmas.Bool.{and_parts}
use Rattle.std.proofs.lemmas.Option.{same_Some}
use lib.Dec.{ltb, leb, eqb}
use lib.IntN.{ℤ}
use lib.ListN.{length, get_or, take, drop, length-append, length-drop, drop_of_length-le}
use lib.Seq.{drop-cons, drop-drop, take-suc, take_all, take_at, drop_at, length-take-le, drop-append-add, sets, sets-eq}
use mir.Syntax.{w32}
use mir.Val.{to_z, of_z}
use borrow.Author.Tests.{ltb-true, ltb-false, leb-true, eqb-true, eqb-false, lt-ltb, le-ltb, le-leb, eq-eqb, ne_eqb}
use Rattle.engine.specs.declared.state.Outcome.{Outcome}
use Rattle.sheet.specs.Area.{over}
use Rattle.sheet.specs.Field.{field}
use Rattle.sheet.specs.Sheet.{cut, count, lines, ended, lined, columns, line, reads, first_malformed, four, numbers, Reading, refused, read}
use Rattle.sheet.specs.Sheet.{reading, outcome, area_after, SheetRead}
use Rattle.std.specs.Option.{is_some}
use Rattle.std.specs.Simd.{first_chunks}
use Rattle.sheet.specs.Answers.{unless_zero, malformed_line, lines_if_lined}
use Rattle.reading.specs.declared.node.Node.{Node}
use Rattle.sheet.proofs.FieldLaws.{then_some, field_back}

pub malformed_done : (ls : List (List ℕ)) (i k : ℕ) → length ls ≤ i → first_malformed k (drop i ls) ≡ 0
unfolding first_malformed
malformed_done ls i k h = rw (drop_of_length-le ls h)

numbers_append : (a b : List (List ℕ)) → numbers (a ++ b) ≡ numbers a ++ numbers b
unfolding numbers
numbers_append [] b = refl
numbers_append (l ∷ a) b = ap (λ x. four (line l) ++ x) (numbers_append a b) ∙ sym (append_assoc (four (line l)) (numbers a) (numbers b))

-- the library's chunks of 41 bytes are the lines
pub chunks_cut : (n : ℕ) (s : List ℕ) → first_chunks 41 n s ≡ cut n s
unfolding cut
chunks_cut zero s = refl
chunks_cut (suc n) s = ap (λ ls. take 41 s ∷ ls) (chunks_cut n (drop 41 s))

reads_is : (o : Option Node) → reads o ≡ is_some o
reads_is None = refl
reads_is (Some v) = refl

-- the lines from line i on, counted from 0
module _ (ls : List (List ℕ)) (i : ℕ) (h : i < length ls) where
  pub malformed_here : is_some (line (get_or ls i [])) ≡ false → first_malformed (i + 1) (drop i ls) ≡ i + 1
  unfolding first_malformed
  malformed_here e = rw (drop-cons ls i [], reads_is (line (get_or ls i [])), e)

  pub malformed_more :
      is_some (line (get_or ls i [])) ≡ true → first_malformed (i + 1) (drop i ls) ≡ first_malformed (i + 1 + 1) (drop (i + 1) ls)
  unfolding first_malformed
  malformed_more e = rw (drop-cons ls i [], reads_is (line (get_or ls i [])), e, add-one (i + 1), add-one i)

  -- one line more, at the end
  pub numbers_more : numbers (take (i + 1) ls) ≡ numbers (take i ls) ++ four (line (get_or ls i []))
  unfolding numbers
  numbers_more = rw (add-one i, take-suc ls i [] h, numbers_append (take i ls) (get_or ls i [] ∷ []), append-nil (four (line (get_or ls i []))))

-- four numbers a line, where none is malformed
cut_length : (n : ℕ) (s : List ℕ) → length (cut n s) ≡ n
unfolding cut
cut_length zero s = refl
cut_length (suc n) s = ap suc (cut_length n (drop 41 s))

numbers_length : (k : ℕ) (ls : List (List ℕ)) → first_malformed (suc k) ls ≡ 0 → length (numbers ls) ≡ length ls * 4
unfolding first_malformed numbers
numbers_length k [] e = refl
numbers_length k (l ∷ ls) e = go (line l) e (numbers_length (suc k) ls)
  where
    go :
        (x : Option Node) → cond (reads x) (first_malformed (suc (suc k)) ls) (suc k) ≡ 0 →
        (first_malformed (suc (suc k)) ls ≡ 0 → length (numbers ls) ≡ length ls * 4) →
        length (four x ++ numbers ls) ≡ suc (length ls) * 4
    go None e h = absurd (omega arith)
    go (Some v) e h = omega (arith, h e)

pub lines_numbers : (s : List ℕ) → first_malformed 1 (lines s) ≡ 0 → length (numbers (lines s)) ≡ count s * 4
lines_numbers s z = numbers_length 0 (lines s) z ∙ ap (λ n. n * 4) (cut_length (count s) s)

-- writing behind what is written already
pub over_more :
    {A : Type 0} (pre new area : List A) (at : ℕ) → length pre ≡ at → at + length new ≤ length area →
    sets (over pre area) at new ≡ over (pre ++ new) area
unfolding over
over_more pre new area at e h =
    sets-eq new (pre ++ drop (length pre) area) at (simp (length-append, length-drop) (omega arith))
    ∙ rw (take_at pre (drop (length pre) area) at e, ← e, drop-append-add pre (drop (length pre) area) (length new), drop-drop, length-append)

pub over_none : {A : Type 0} (area : List A) → over [] area ≡ area
unfolding over
over_none area = refl

pub over_length : {A : Type 0} (new area : List A) → length new ≤ length area → length (over new area) ≡ length area
unfolding over
over_length new area h = simp (length-append, length-drop) (omega arith)

-- a signed number as the machine hands it on
abbrev kept : ℤ → ℤ
kept v = to_z w32 (of_z w32 v)

-- a line by its fields: the first that is malformed, or all four
module _ (l : List ℕ) where
  pub line_bad : field (columns 0 4 l) ≡ None → line l ≡ None
  unfolding line
  line_bad e = rw e

  module _ (k : ℤ) (e : field (columns 0 4 l) ≡ Some k) where
    pub line_bad_a : field (columns 4 12 l) ≡ None → line l ≡ None
    unfolding line
    line_bad_a f = rw (e, f)

    module _ (a : ℤ) (f : field (columns 4 12 l) ≡ Some a) where
      pub line_bad_b : field (columns 16 12 l) ≡ None → line l ≡ None
      unfolding line
      line_bad_b g = rw (e, f, g)

      module _ (b : ℤ) (g : field (columns 16 12 l) ≡ Some b) where
        pub line_bad_c : field (columns 28 12 l) ≡ None → line l ≡ None
        unfolding line
        line_bad_c m = rw (e, f, g, m)

        pub line_good : (c : ℤ) → field (columns 28 12 l) ≡ Some c → line l ≡ Some (record { kind = kept k; a = kept a; b = kept b; c = kept c })
        unfolding line
        line_good c m = rw (e, f, g, m, field_back _ k e, field_back _ a f, field_back _ b g, field_back _ c m)

-- the machine hands the four numbers of a line on as they are
pub line_kept : (l : List ℕ) (v : Node) → line l ≡ Some v → (kept v.kind ≡ v.kind) × (kept v.a ≡ v.a) × (kept v.b ≡ v.b) × (kept v.c ≡ v.c)
unfolding line
line_kept l v e =
    let p = then_some (field (columns 0 4 l)) _ _ e in
    let q = then_some (field (columns 4 12 l)) _ _ p.2 in
    let r = then_some (field (columns 16 12 l)) _ _ q.2 in
    let s = then_some (field (columns 28 12 l)) _ _ r.2 in
    let n = same_Some _ _ s.2 in (
      field_back _ v.kind (p.1 ∙ ap (λ x. Some x.kind) n),
      field_back _ v.a (q.1 ∙ ap (λ x. Some x.a) n),
      field_back _ v.b (r.1 ∙ ap (λ x. Some x.b) n),
      field_back _ v.c (s.1 ∙ ap (λ x. Some x.c) n),
    )

-- the first malformed line, or none
pub malformed_found : (ls : List (List ℕ)) (i : ℕ) → first_malformed 1 ls ≡ i + 1 → Some (i + 1) ≡ malformed_line ls
malformed_found ls i e = rw (e, add-one i)

pub malformed_none : (ls : List (List ℕ)) → first_malformed 1 ls ≡ 0 → None ≡ malformed_line ls
malformed_none ls e = rw e

pub found_is : (ls : List (List ℕ)) (p : ℕ) → Some p ≡ malformed_line ls → (p ≡ first_malformed 1 ls) × (p ≡ 0 → ⊥)
found_is ls p e = go (first_malformed 1 ls) e
  where
    go : (n : ℕ) → Some p ≡ unless_zero n → (p ≡ n) × (p ≡ 0 → ⊥)
    go zero e = cc
    go (suc n) e = let k : p ≡ suc n = cc in (k, λ z. omega arith)

pub none_is : (ls : List (List ℕ)) → None ≡ malformed_line ls → first_malformed 1 ls ≡ 0
none_is ls e = go (first_malformed 1 ls) e
  where
    go : (n : ℕ) → ◌≡◌ {A = Option ℕ} None (unless_zero n) → n ≡ 0
    go zero e = refl
    go (suc n) e = cc

-- the lines of a sheet, if they pass the first test
pub lines_are : (s : List ℕ) (ls : List (List ℕ)) → Some ls ≡ lines_if_lined s → (lined s ≡ true) × (ls ≡ lines s)
lines_are s ls e = go (lined s) refl e
  where
    go : (b : Bool) → lined s ≡ b → Some ls ≡ cond b (Some (lines s)) None → (lined s ≡ true) × (ls ≡ lines s)
    go true t e = (t, cc)
    go false t e = cc

pub lines_none : (s : List ℕ) → None ≡ lines_if_lined s → lined s ≡ false
lines_none s e = go (lined s) refl e
  where
    go : (b : Bool) → lined s ≡ b → ◌≡◌ {A = Option (List (List ℕ))} None (cond b (Some (lines s)) None) → lined s ≡ false
    go true t e = cc
    go false t e = t

-- the first test
module _ (s : List ℕ) where
  pub lined_odd : (length s % 41 ≡ 0 → ⊥) → false ≡ lined s
  unfolding lined
  lined_odd z = rw (ne_eqb _ _ z) (second (ltb 0 (length s)) (leb (count s) 4096) (ended (lines s)))
    where
      second : (a c d : Bool) → false ≡ (a && false && c && d)
      second true c d = refl
      second false c d = refl

  module _ (e : length s % 41 ≡ 0) where
    pub lined_ends : 1 ≤ count s → count s ≤ 4096 → lined s ≡ ended (lines s)
    unfolding lined
    lined_ends l h = rw (lt-ltb 0 (length s) (omega arith), eq-eqb _ _ e, le-leb _ _ h)

    lined_count : (1 ≤ count s → count s ≤ 4096 → ⊥) → lined s ≡ false
    unfolding lined
    lined_count z = rw (eq-eqb _ _ e) (go (ltb 0 (length s)) (leb (count s) 4096) refl refl)
      where
        go : (a b : Bool) → ltb 0 (length s) ≡ a → leb (count s) 4096 ≡ b → (a && true && b && ended (lines s)) ≡ false
        go true true p q = absurd (z (omega (arith, ltb-true _ _ p)) (leb-true _ _ q))
        go true false p q = refl
        go false b p q = refl

  pub lined_not : (length s % 41 ≡ 0 → 1 ≤ count s → count s ≤ 4096 → ⊥) → lined s ≡ false
  lined_not z = go (eqb (length s % 41) 0) refl
    where
      go : (b : Bool) → eqb (length s % 41) 0 ≡ b → lined s ≡ false
      go true p = lined_count (eqb-true _ _ p) (z (eqb-true _ _ p))
      go false p = sym (lined_odd (eqb-false _ _ p))

  pub lined_few : lined s ≡ true → count s ≤ 4096
  unfolding lined
  lined_few e =
      let a : Bool = ltb 0 (length s) && eqb (length s % 41) 0 in
      let p = and_parts (a && leb (count s) 4096) (ended (lines s)) e in
      leb-true _ _ (and_parts a (leb (count s) 4096) p.0).1

-- the three tests and their answers, in order
module _ (s : List ℕ) (room : ℕ) where
  pub test_1 : lined s ≡ false → reading s room ≡ refused 1 0
  unfolding reading
  test_1 t = rw t

  module _ (t : lined s ≡ true) where
    pub test_2 : (p : ℕ) → p ≡ first_malformed 1 (lines s) → (p ≡ 0 → ⊥) → reading s room ≡ refused 2 p
    unfolding reading
    test_2 p f z = rw (t, ← f, ne_eqb _ _ z)

    module _ (z : first_malformed 1 (lines s) ≡ 0) where
      pub test_3 : room < count s * 4 → reading s room ≡ refused 3 0
      unfolding reading
      test_3 h = rw (t, eq-eqb _ _ z, lt-ltb _ _ h)

      pub test_0 : count s * 4 ≤ room → reading s room ≡ read (count s) (numbers (lines s))
      unfolding reading
      test_0 h = rw (t, eq-eqb _ _ z, le-ltb _ _ h)

-- a sheet that passed the three tests
pub record Passed (s : List ℕ) (room : ℕ) : Type 0 where
  pub good : first_malformed 1 (lines s) ≡ 0
  pub fits : count s * 4 ≤ room
  pub all : reading s room ≡ read (count s) (numbers (lines s))

pub passed : (s : List ℕ) (room : ℕ) (r : Outcome) → r ≡ outcome (reading s room) → r.number ≡ 0 → Passed s room
passed s room r o e = by_lined (lined s) refl
  where
    answer : (x : Reading) → reading s room ≡ x → (outcome x).number ≡ 0
    answer x p = sym (ap (λ y. (outcome y).number) p) ∙ sym (ap (λ y. y.number) o) ∙ e

    by_room : (b : Bool) → lined s ≡ true → first_malformed 1 (lines s) ≡ 0 → ltb room (count s * 4) ≡ b → Passed s room
    by_room true t z h = absurd (omega (arith, answer _ (test_3 s room t z (ltb-true _ _ h))))
    by_room false t z h = record { good = z; fits = ltb-false _ _ h; all = test_0 s room t z (ltb-false _ _ h) }

    by_good : (b : Bool) → lined s ≡ true → eqb (first_malformed 1 (lines s)) 0 ≡ b → Passed s room
    by_good true t h = by_room (ltb room (count s * 4)) t (eqb-true _ _ h) refl
    by_good false t h = absurd (omega (arith, answer _ (test_2 s room t _ refl (eqb-false _ _ h))))

    by_lined : (b : Bool) → lined s ≡ b → Passed s room
    by_lined true t = by_good (eqb (first_malformed 1 (lines s)) 0) t refl
    by_lined false t = absurd (omega (arith, answer _ (test_1 s room t)))

-- what becomes of the area
module _ (s : List ℕ) (a : List ℤ) where
  left : (n p : ℕ) → reading s (length a) ≡ refused n p → SheetRead s a a (record { number = n; place = p; count = 0 })
  left n p e = record { answer = ap outcome (sym e); area = ap (λ x. area_after x a) (sym e); within = omega arith; part = refl }

  pub left_broken : None ≡ lines_if_lined s → SheetRead s a a (record { number = 1; place = 0; count = 0 })
  left_broken e = left 1 0 (test_1 s (length a) (lines_none s e))

  module _ (ls : List (List ℕ)) (e : Some ls ≡ lines_if_lined s) where
    good : lined s ≡ true
    good = (lines_are s ls e).0

    ls_is : ls ≡ lines s
    ls_is = (lines_are s ls e).1

    counted : length ls ≡ count s
    counted = ap length ls_is ∙ cut_length (count s) s

    pub lines_few : length ls ≤ 4096
    lines_few = omega (arith, counted, lined_few s good)

    pub left_malformed : (p : ℕ) → Some p ≡ malformed_line ls → SheetRead s a a (record { number = 2; place = p; count = 0 })
    left_malformed p f =
        let q = found_is ls p f in
        left 2 p (test_2 s (length a) good p (q.0 ∙ ap (first_malformed 1) ls_is) q.1)

    module _ (f : None ≡ malformed_line ls) where
      fine : first_malformed 1 (lines s) ≡ 0
      fine = ap (first_malformed 1) (sym ls_is) ∙ none_is ls f

      pub left_short : length a < length ls * 4 → SheetRead s a a (record { number = 3; place = 0; count = 0 })
      left_short h = left 3 0 (test_3 s (length a) good fine (omega (arith, counted)))

      pub sheet_read : (b : List ℤ) → length ls * 4 ≤ length a → b ≡ over (numbers ls) a → length b ≡ length a
          → SheetRead s a b (record { number = 0; place = 0; count = length ls })
      sheet_read b h o l =
          let e : reading s (length a) ≡ read (count s) (numbers (lines s)) = test_0 s (length a) good fine (omega (arith, counted)) in
          let w : length ls * 4 ≤ length b = omega arith in
          record {
            answer = rw (e, counted);
            area = rw e (o ∙ ap (λ x. over (numbers x) a) ls_is);
            within = w;
            part = sym (length-take-le (length ls * 4) b w);
          }

-- writing over a part of the area, behind what is written already
pub over_put :
    {A : Type 0} (pre new area : List A) (at k : ℕ) → length pre ≡ at → length new ≡ k →
    take at (over pre area) ++ (new ++ drop k (drop at (over pre area))) ≡ over (pre ++ new) area
unfolding over
over_put pre new area at k e f =
    rw (
      take_at pre (drop (length pre) area) at e,
      drop_at pre (drop (length pre) area) at e,
      ← f,
      drop-drop (length new) (length pre) area,
      append_assoc,
    )
    (ap (λ x. pre ++ (new ++ drop x area)) (sym (length-append pre new)))

-- how far the nodes are written: those of the first i lines, and none of the lines from i on is malformed
pub record NodesPut (ls : List (List ℕ)) (i : ℕ) (before area : List ℤ) : Type 0 where
  pub size : length (numbers (take i ls)) ≡ i * 4
  pub done : area ≡ over (numbers (take i ls)) before
  pub good : first_malformed (i + 1) (drop i ls) ≡ 0

pub put_none : (ls : List (List ℕ)) (before : List ℤ) → first_malformed 1 ls ≡ 0 → NodesPut ls 0 before before
unfolding numbers over
put_none ls before e = record { size = refl; done = refl; good = e }

module _ (ls : List (List ℕ)) (i : ℕ) (before area : List ℤ) (w : NodesPut ls i before area) where
  pub put_all : length ls ≤ i → area ≡ over (numbers ls) before
  put_all h = rw (← take_all i ls h) w.done

  module _ (h : i < length ls) where
    pub put_bad : line (get_or ls i []) ≡ None → ⊥
    put_bad e = let z : i + 1 ≡ 0 = sym (malformed_here ls i h (ap is_some e)) ∙ w.good in omega arith

    pub put_more :
        (v : Node) (k : ℕ) (new after : List ℤ) → line (get_or ls i []) ≡ Some v → k ≡ 4 →
        new ≡ kept v.kind ∷ kept v.a ∷ kept v.b ∷ kept v.c ∷ [] →
        after ≡ take (i * 4) area ++ (new ++ drop k (drop (i * 4) area)) → NodesPut ls (i + 1) before after
    put_more v k new after e f o p =
        let q = line_kept _ v e in
        let n : new ≡ v.kind ∷ v.a ∷ v.b ∷ v.c ∷ [] = rw (o, q.0, q.1, q.2, q.3) in
        let x : numbers (take (i + 1) ls) ≡ numbers (take i ls) ++ (v.kind ∷ v.a ∷ v.b ∷ v.c ∷ []) = rw (numbers_more ls i h, e) in
        record {
          size = rw x (simp length-append (omega (arith, w.size)));
          done = rw (p, n, f, w.done, x) (over_put (numbers (take i ls)) (v.kind ∷ v.a ∷ v.b ∷ v.c ∷ []) before (i * 4) 4 w.size refl);
          good = sym (malformed_more ls i h (ap is_some e)) ∙ w.good;
        }
