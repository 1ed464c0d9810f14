-- What pest's tracker makes of an entry is what the code's does. pest has a count only under a limit, and an entry that counts is below
-- that limit: so the code's count, which stays at its largest, has not come to that.
use mathlib.Core.Path.{◌≡◌, refl, ap, ◌∙◌}
use mathlib.Core.Bool.{Bool, true, false}
use Rattle.std.specs.Prelude.{Option, None, Some, Result, Ok, Err}
use Prim.Native.Nat.{ℕ, zero, suc, ◌≤◌, min}
use native.Mathlib.Omega.{arith}
use lib.Dec.{leb}
use borrow.Author.Tests.{leb-false}
use Rattle.reading.specs.declared.call_limit_tracker.LimitKind.{LimitKind}
use Rattle.checks.specs.declared.call_limit_tracker.CallLimitTracker.{CallLimitTracker}
use Rattle.reading.specs.Reading.{most_calls}
use Rattle.reading.specs.Pest as Pest
use Rattle.reading.specs.Pest.{called}
use Rattle.checks.specs.Tracker.{entry_at, answered, tracker_of}

-- What is answered, with pest's tracker.
abbrev pub answers : Bool → CallLimitTracker → Pest.Entered
answers b t = record { answer = b; tracker = tracker_of t }

abbrev pub pest_entered : Result CallLimitTracker CallLimitTracker → Pest.Entered
pest_entered (Ok t) = answers true t
pest_entered (Err t) = answers false t

abbrev tracker : (current limit : ℕ) → Option LimitKind → CallLimitTracker
tracker n l r = record { current = n; limit = l; reached = r }

-- An entry at the tracker t, by the reading, is answered as by pest.
abbrev Same : (room counted : Bool) → CallLimitTracker → Type 0
Same room counted t = pest_entered (entry_at room counted t) ≡ Pest.enter room counted (tracker_of t)

module _ (n : ℕ) (small : n ≤ most_calls) where
  -- A count of 64 bits stands for itself.
  stays : (l : ℕ) (b : Bool) (r : Option LimitKind) → answers b (tracker (min n most_calls) l r) ≡ answers b (tracker n l r)
  stays l b r = ap (λ (k : ℕ). answers b (tracker k l r)) (omega arith)

  by_cause : (l : ℕ) (room counted : Bool) (k : LimitKind) → Same room counted (tracker n l (Some k))
  by_cause l room counted k = stays l false (Some k)

  not_counted : (l : ℕ) (room : Bool) → Same room false (tracker n l None)
  not_counted l true = stays l true None
  not_counted l false = stays l false (Some LimitKind.Stack)

  no_limit : (room : Bool) → Same room true (tracker n 0 None)
  no_limit true = refl
  no_limit false = stays 0 false (Some LimitKind.Stack)

  a_limit : (l : ℕ) → suc l ≤ most_calls → (room over : Bool) → leb (suc l) n ≡ over → Same room true (tracker n (suc l) None)
  a_limit l fits room true e = rw e (stays (suc l) false (Some LimitKind.Call))
  a_limit l fits false false e = rw e (stays (suc l) false (Some LimitKind.Stack))
  a_limit l fits true false e = rw e (ap entered_at (omega (arith, leb-false (suc l) n e)))
    where
      entered_at : ℕ → Pest.Entered
      entered_at k = record {
        answer = true;
        tracker = record { current_call_limit = Some (record { current = k; limit = suc l }); limit_reached = None; calls = called n };
      }

pest_enters : (room counted : Bool) (t : CallLimitTracker) → t.current ≤ most_calls → t.limit ≤ most_calls → Same room counted t
pest_enters room counted t small fits = go t.limit t.reached counted fits
  where
    go : (l : ℕ) (r : Option LimitKind) (counted : Bool) → l ≤ most_calls → Same room counted (tracker t.current l r)
    go l (Some k) counted fits = by_cause t.current small l room counted k
    go l None false fits = not_counted t.current small l room
    go zero None true fits = no_limit t.current small room
    go (suc l) None true fits = a_limit t.current small l fits room (leb (suc l) t.current) refl

-- The answer b with the tracker w after it, of an entry at the tracker v.
pub pest_answers : (b room counted : Bool) (v w : CallLimitTracker) → v.current ≤ most_calls → v.limit ≤ most_calls
    → answered b w ≡ entry_at room counted v → answers b w ≡ Pest.enter room counted (tracker_of v)
pest_answers b room counted v w small fits e = go b ∙ ap pest_entered e ∙ pest_enters room counted v small fits
  where
    go : (b : Bool) → answers b w ≡ pest_entered (answered b w)
    go true = refl
    go false = refl
