-- pest's attempts by themselves: what `rule` notes of them and what `track` makes of them, and how a scratch area stands for them.
use Rattle.std.specs.Prelude.{◌≡◌, Bool, ◌&&◌, ◌||◌, not, List, [], ◌∷◌, ◌++◌, ℕ, ◌+◌, ◌-◌, ◌≤◌, ◌<◌, length, take, set, eqb, ltb}
use Rattle.std.specs.Prelude.{if◌then◌else◌, Option, None, Some}
use Rattle.engine.specs.declared.attempts.Attempts.{Attempts}
use Rattle.engine.specs.declared.attempts.Noted.{Noted}
use Rattle.reading.specs.Reading.{most_attempts}
use Rattle.reading.specs.Pest.{ParserState, set_attempts}
use Rattle.engine.specs.Areas.{numbers, positives_at, negatives_at, scratch_size}

-- `attempt_pos`, `pos_attempts` and `neg_attempts`
pub record Tried : Type 0 where
  pub furthest : ℕ
  pub positive : List ℕ
  pub negative : List ℕ

abbrev pub tried_of : ParserState → Tried
tried_of m = record { furthest = m.attempt_pos; positive = m.pos_attempts; negative = m.neg_attempts }

abbrev pub with_tried : Tried → ParserState → ParserState
with_tried t m = set_attempts t.furthest t.positive t.negative m

abbrev pub tried : (scratch : List ℕ) → Attempts → Tried
tried a t = record { furthest = t.furthest.0; positive = numbers a positives_at t.positives; negative = numbers a negatives_at t.negatives }

-- What `rule` notes: `attempts_at(actual_pos)`, `pos_attempts_index`, `neg_attempts_index`.
abbrev pub noted : (p : ℕ) → Tried → Noted
noted p t = record {
  total = if eqb t.furthest p then length t.positive + length t.negative else 0;
  positives = if eqb p t.furthest then length t.positive else 0;
  negatives = if eqb p t.furthest then length t.negative else 0;
}

-- The three steps of `track`.
abbrev pub truncated : (p : ℕ) → Noted → Tried → Tried
truncated p n t = if eqb p t.furthest then record t { positive = take n.positives t.positive; negative = take n.negatives t.negative } else t

abbrev pub advanced : (p : ℕ) → Tried → Tried
advanced p t = if ltb t.furthest p then record { furthest = p; positive = []; negative = [] } else t

abbrev pub appended : (rule p : ℕ) → (negative : Bool) → Tried → Tried
appended r p neg t =
    if eqb p t.furthest then
    (if not neg then record t { positive = t.positive ++ (r ∷ []) } else record t { negative = t.negative ++ (r ∷ []) })
    else t

abbrev pub tracked : (rule p : ℕ) → Noted → (negative : Bool) → Tried → Tried
tracked r p n neg t =
    if ltb n.total (noted p t).total && eqb ((noted p t).total - n.total) 1 then t
    else appended r p neg (advanced p (truncated p n t))

-- "attempt 257 in a list" is one too many.
abbrev pub within : Tried → Option Tried
within t = if ltb most_attempts (length t.positive) || ltb most_attempts (length t.negative) then None else Some t

-- b is a, with one rule more behind the n rules of the list at `region`, and r says how many these are; or a list of 256 is left alone.
abbrev pub PushedAt : (region n rule : ℕ) → (a b : List ℕ) → Option ℕ → Type 0
PushedAt region n rule a b None = (most_attempts ≤ n) × (b ≡ a)
PushedAt region n rule a b (Some r) = (n < most_attempts) × (r ≡ n + 1) × (b ≡ set a (region + n) rule)

-- What holds of the attempts of every run.
pub record Few (t : Attempts) : Type 0 where
  pub few_positives : t.positives ≤ most_attempts
  pub few_negatives : t.negatives ≤ most_attempts

pub record Lent (scratch : List ℕ) (t : Attempts) : Type 0 where
  pub room : scratch_size ≤ length scratch
  pub few : Few t
