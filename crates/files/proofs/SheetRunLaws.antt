-- The part of the node area that a good sheet lends to the run holds just its nodes, so the run is one over these. A buffer of 65,536
-- bytes is no whole number of lines.
use Prim.Native.Nat.{ℕ, ◌*◌}
use native.Mathlib.Omega.{arith}
use mathlib.Core.Path.{◌≡◌, refl, sym, ap, ◌∙◌, subst}
use mathlib.Core.List.{List, ◌++◌}
use lib.IntN.{ℤ}
use lib.ListN.{length, take, drop}
use lib.Seq.{take-append_seam}
use Rattle.engine.specs.declared.state.Outcome.{Outcome}
use Rattle.engine.specs.Conclude.{run_outcome_of}
use Rattle.reading.specs.Grammar.{line_count}
use Rattle.reading.specs.Run.{input, Ran}
use Rattle.sheet.specs.Area.{over}
use Rattle.sheet.specs.Sheet.{count, lines, numbers, Reading, refused, read, reading, outcome, SheetRead}
use Rattle.files.specs.SheetRun.{Given, Back, Answered, SheetRun}
use Rattle.sheet.proofs.SheetLaws.{lines_numbers, lined_odd, test_1, passed}

-- what comes back where no run starts: the answer of the sheet reading, no counted call, and the areas as they were
abbrev not_run : Outcome → Given → Back
not_run r g = record { answer = record { outcome = r; calls = 0 }; tokens = g.tokens; report = g.report; scratch = g.scratch }

module _ (s : List ℕ) (a b : List ℤ) (r : Outcome) (g : Given) (w : SheetRead s a b r) where
  pub run_refused : (r.number ≡ 0 → ⊥) → SheetRun s a b g (not_run r g)
  run_refused z = record { answered = go (reading s (length a)) w.answer; area = w.area }
    where
      go : (x : Reading) → r ≡ outcome x → Answered x g (not_run r g)
      go (refused n p) e = (ap (λ y. record { outcome = y; calls = 0 }) e, refl, refl, refl)
      go (read k ns) e = absurd (z (ap (λ y. y.number) e))

  module _ (z : r.number ≡ 0) where
    -- what is lent to the run
    lent : take (r.count * 4) b ≡ numbers (lines s)
    unfolding over
    lent =
        let p = passed s (length a) r w.answer z in
        let c : r.count ≡ count s = ap (λ y. y.count) w.answer ∙ ap (λ y. (outcome y).count) p.all in
        let l : length (numbers (lines s)) ≡ r.count * 4 = lines_numbers s p.good ∙ rw c in
        let e : b ≡ numbers (lines s) ++ drop (length (numbers (lines s))) a = w.area ∙ rw p.all in
        rw (e, ← l) (take-append_seam (numbers (lines s)) _)

    -- and its last line
    last : line_count (take (r.count * 4) b) ≡ r.count
    last =
        let p = passed s (length a) r w.answer z in
        let c : r.count ≡ count s = ap (λ y. y.count) w.answer ∙ ap (λ y. (outcome y).count) p.all in
        omega (arith, lines_numbers s p.good, c, ap (λ (y : List ℤ). length y) lent)

    abbrev from : (root : ℕ) → Back → Type 0
    from root t = Ran (input (take (r.count * 4) b) g.literals g.text root g.depth_limit g.call_limit g.tokens g.report (length g.scratch))
        (run_outcome_of t.answer t.tokens t.report) g.scratch t.scratch

    pub run_read : (t : Back) → from r.count t → SheetRun s a b g t
    run_read t h =
        let p = passed s (length a) r w.answer z in
        record { answered = rw (p.all, ← lent) (subst (λ k. from k t) (sym last) h); area = w.area }

-- what planread's buffer holds of a sheet over 65,535 bytes
pub overlong : (s : List ℕ) (room : ℕ) → length s ≡ 65536 → reading s room ≡ refused 1 0
overlong s room e = test_1 s room (sym (lined_odd s (λ m. omega (arith, m, e))))
