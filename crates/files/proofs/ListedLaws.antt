-- What `list_texts` wrote is the listing of its three texts, and an area of 199,897 bytes holds it: what a run counts stands in the areas
-- that it was lent, of 16,380 and 515 numbers, so that there are 3,276 lines at most behind the head.
use Prim.Native.Nat.{ℕ, ◌+◌, ◌-◌, ◌*◌, ◌≤◌}
use native.Mathlib.Omega.{arith}
use mathlib.Core.Path.{◌≡◌, sym, ap, ◌∙◌, subst}
use mathlib.Core.List.{List, ◌++◌}
use Rattle.std.specs.Prelude.{Option, None, Some}
use lib.IntN.{ℤ, pos}
use lib.ListN.{length, take, drop, replicate, length-append, length-replicate}
use lib.Seq.{take_at}
use Rattle.engine.specs.Conclude.{outcome_of}
use Rattle.reading.specs.declared.call_limit_tracker.LimitKind.{LimitKind}
use Rattle.reading.specs.declared.parser_state.Cause.{Cause}
use Rattle.reading.specs.Ending.{Ending, Ok, Err, Stop}
use Rattle.reading.specs.Forest.{Token, tokens}
use Rattle.reading.specs.Reading.{State}
use Rattle.reading.specs.Outcome.{Input, Refusal, refusal, reading, Answer, answer, of_cause, of_limit, of_tokens, report_of, of_failure, ascending}
use Rattle.reading.specs.Outcome.{laid, started, refused, Outcome, outcome}
use Rattle.reading.proofs.Exact.{length_numbers}
use Rattle.sheet.specs.Area.{over}
use Rattle.sheet.specs.Sheet as Sheet
use Rattle.sheet.specs.Listing.{listing, whole, ListingWritten}
use Rattle.sheet.proofs.WholeLaws.{whole_fits}
use Rattle.files.specs.SheetRun.{Given, Back, handed, Answered, SheetRun}
use Rattle.files.specs.Listed.{given, node_area, answer_to, printed, listing_of, Listed}

-- what is counted stands in one of the two areas
data Counted (o : Outcome) : Type 0 where
  by_tokens : o.count * 5 ≤ length o.tokens → Counted o
  by_report : o.count + 3 ≤ length o.report → Counted o

module _ (n m : ℕ) where
  in_tokens : (ts : List Token) → Counted (laid n m (of_tokens ts))
  in_tokens ts = by_tokens (simp length-append (omega (arith, length_numbers ts)))

  in_report : (f : ℕ) (ps ns : List ℕ) → Counted (laid n m (of_failure f ps ns))
  in_report f ps ns =
      let p : List ℕ = report_of f ps ns in
      by_report (omega (arith, length-append p (replicate (m - length p) 0), length-append ps ns))

  limit_counted : (k : LimitKind) (f : ℕ) → Counted (laid n m (of_limit k f))
  limit_counted LimitKind.Call f = by_tokens (omega arith)
  limit_counted LimitKind.Stack f = by_tokens (omega arith)

  stop_counted : (c : Cause) → Counted (laid n m (of_cause c))
  stop_counted (Cause.EmptyStack l) = by_tokens (omega arith)
  stop_counted (Cause.TokensFull l) = by_tokens (omega arith)
  stop_counted (Cause.StackFull l) = by_tokens (omega arith)
  stop_counted (Cause.AttemptsFull l) = by_tokens (omega arith)

  laid_counted : (r : Ending State) → Counted (laid n m (answer r))
  laid_counted (Ok s) = go s.tracker.cause
    where
      go : (c : Option LimitKind) → Counted (laid n m (elim c as (λ _. Answer)
          [ Some k ↦ of_limit k s.attempts.furthest | None ↦ of_tokens (tokens s.siblings) ]))
      go None = in_tokens (tokens s.siblings)
      go (Some k) = limit_counted k s.attempts.furthest
  laid_counted (Err s) = go s.tracker.cause
    where
      go : (c : Option LimitKind) → Counted (laid n m (elim c as (λ _. Answer) [
        | Some k ↦ of_limit k s.attempts.furthest
        | None ↦ of_failure s.attempts.furthest (ascending s.attempts.positive) (ascending s.attempts.negative)
      ]))
      go None = in_report s.attempts.furthest (ascending s.attempts.positive) (ascending s.attempts.negative)
      go (Some k) = limit_counted k s.attempts.furthest
  laid_counted (Stop h) = stop_counted h.cause

counted : (i : Input) → Counted (outcome i)
unfolding outcome
counted i = go (refusal i)
  where
    go : (x : Option Refusal) → Counted (elim x as (λ _. Outcome) [ Some r ↦ refused i r | None ↦ started i (answer (reading i)) ])
    go None = laid_counted (length i.tokens) (length i.report) (reading i)
    go (Some r) = by_tokens (omega arith)

answer_counted : (x : Sheet.Reading) (g : Given) → Counted (answer_to x g)
answer_counted (Sheet.refused n p) g = by_tokens (omega arith)
answer_counted (Sheet.read k ns) g = counted (handed ns g)

few : (o : Outcome) → Counted o → length o.tokens ≡ 16380 → length o.report ≡ 515 → o.count ≤ 3276
few o (by_tokens h) t r = omega arith
few o (by_report h) t r = omega arith

-- what came back is what document 01 answers
answer_is : (x : Sheet.Reading) (g : Given) (b : Back) → Answered x g b → outcome_of b.answer.outcome b.tokens b.report ≡ answer_to x g
answer_is (Sheet.refused n p) g b a = rw (a.0, a.1, a.2)
answer_is (Sheet.read k ns) g b a = a.is

module _
    (s l t before after : List ℕ) (r : ℕ) (nodes : List ℤ) (b : Back) (ran : SheetRun s (replicate node_area (pos 0)) nodes (given l t) b)
    (in_t : length b.tokens ≡ 16380) (in_r : length b.report ≡ 515)
    (w : ListingWritten b.answer.outcome b.tokens b.report before after r) where
  back_is : outcome_of b.answer.outcome b.tokens b.report ≡ answer_to (Sheet.reading s node_area) (given l t)
  back_is =
      answer_is (Sheet.reading s node_area) (given l t) b
      (subst (λ (n : ℕ). Answered (Sheet.reading s n) (given l t) b) (length-replicate node_area (pos 0)) ran.answered)

  listing_is : listing b.answer.outcome b.tokens b.report ≡ listing_of s l t
  unfolding listing_of
  listing_is = ap printed back_is

  pub listed : Listed s l t before after r
  listed =
      let c : Counted (outcome_of b.answer.outcome b.tokens b.report) =
      subst Counted (sym back_is) (answer_counted (Sheet.reading s node_area) (given l t)) in
      record {
        written = rw (← listing_is) w.written;
        most = rw (← listing_is) (omega (arith, w.most, few _ c in_t in_r));
      }

-- An area of 199,897 bytes gets the whole listing: planread prints it all.
pub whole_listing :
    (s l t before after : List ℕ) (r : ℕ) → Listed s l t before after r → 199897 ≤ length before → take r after ≡ listing_of s l t
unfolding over
whole_listing s l t before after r w h =
    let x : List ℕ = listing_of s l t in
    let e : whole before x ≡ x = whole_fits before x (omega (arith, w.most)) in
    let a : after ≡ x ++ drop (length x) before = w.written.area ∙ ap (λ y. y ++ drop (length y) before) e in
    let c : length x ≡ r = sym (w.written.count ∙ ap length e) in
    ap (take r) a ∙ take_at x (drop (length x) before) r c
