-- How the code's tracker stands for the reading's, and what an entry makes of it; and for pest's, as engine's state does.
use Rattle.std.specs.Prelude.{Bool, true, false, ℕ, zero, suc, if◌then◌else◌}
use Rattle.std.specs.Prelude.{Option, None, Some, Result, Ok, Err}
use Rattle.reading.specs.declared.call_limit_tracker.LimitKind.TheVariants.{Stack}
use Rattle.checks.specs.declared.call_limit_tracker.CallLimitTracker as Code
use Rattle.reading.specs.Reading.{Tracker, Entry, entered, refused, enter, calls_in}
use Rattle.reading.specs.Pest as Pest
use Rattle.reading.specs.Pest.{called}

-- ── The reading's tracker ──
abbrev pub reading_of : Code.CallLimitTracker → Tracker
reading_of t = record { limit = t.limit; counted = t.current; cause = t.reached }

-- The code's tracker for the reading's, whose count it holds in 64 bits.
abbrev pub kept : Tracker → Code.CallLimitTracker
kept t = record { current = calls_in t; limit = t.limit; reached = t.cause }

-- An entry as the code answers it: Ok where it is let in, Err where it is refused.
abbrev pub admitted : Entry → Result Code.CallLimitTracker Code.CallLimitTracker
admitted (entered t) = Ok (kept t)
admitted (refused t) = Err (kept t)

-- An entry at the code's tracker t.
abbrev pub entry_at : (room counts : Bool) → Code.CallLimitTracker → Result Code.CallLimitTracker Code.CallLimitTracker
entry_at room counts t = admitted (enter room counts (reading_of t))

-- The same where the answer and the tracker come apart.
abbrev pub answered : (let_in : Bool) → Code.CallLimitTracker → Result Code.CallLimitTracker Code.CallLimitTracker
answered true t = Ok t
answered false t = Err t

-- One counted call more.
abbrev pub one_more : Code.CallLimitTracker → Code.CallLimitTracker
one_more t = record t { current = called t.current }

-- The depth limit, which is tested last: `next` is the tracker of an entry that it lets in.
abbrev pub by_depth : (room : Bool) → (t next : Code.CallLimitTracker) → Result Code.CallLimitTracker Code.CallLimitTracker
by_depth room t next = if room then Ok next else Err (record t { reached = Some Stack })

-- ── pest's tracker, and the count beside it ──
abbrev pub limit_of : (current limit : ℕ) → Option Pest.CallLimit
limit_of n zero = None
limit_of n (suc l) = Some (record { current = n; limit = suc l })

abbrev pub tracker_of : Code.CallLimitTracker → Pest.CallLimitTracker
tracker_of t = record { current_call_limit = limit_of t.current t.limit; limit_reached = t.reached; calls = t.current }
