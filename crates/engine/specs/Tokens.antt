-- The queue as the code writes it: five numbers a token, and what each writer promises of them.
use Rattle.std.specs.Prelude.{◌≡◌, List, [], ◌∷◌, ◌++◌, ℕ, ◌+◌, ◌-◌, ◌*◌, ◌<◌, get_or, set}
use lib.Lanes.{put_chunk}
use Rattle.reading.specs.Forest.{Token}
use Rattle.reading.specs.Answer.{token_of}
use Rattle.reading.specs.Pest.{QueueableToken, Start, with_end, tag_last}
use Rattle.engine.specs.Areas.{Outside, token_at, queue_of}

-- The five numbers that stand at an index.
abbrev pub five_at : (tokens : List ℕ) → (index : ℕ) → Token
five_at a i = record {
  kind = get_or a (i * 5) 0;
  partner = get_or a (i * 5 + 1) 0;
  position = get_or a (i * 5 + 2) 0;
  rule = get_or a (i * 5 + 3) 0;
  tag = get_or a (i * 5 + 4) 0;
}

-- The area where five numbers are written at an index.
abbrev pub put_token : (tokens : List ℕ) → (index : ℕ) → (five : List ℕ) → List ℕ
put_token a i five = put_chunk (i * 5) a five

-- Each of the first n tokens has the very numbers of the token that it stands for: kind 1 with rule and tag 0, or kind 2. The queue
-- alone does not say so, since it does not look at a Start's rule and tag, nor at which number other than 1 is an End's kind.
unfoldable pub Written : (tokens : List ℕ) → (n : ℕ) → Type 0
Written a n = (i : ℕ) → i < n → five_at a i ≡ token_of (token_at a i)

-- b is a, with the token t pushed onto the first n.
pub record Pushed (a : List ℕ) (n : ℕ) (t : QueueableToken) (b : List ℕ) : Type 0 where
  pub queue : queue_of b (n + 1) ≡ queue_of a n ++ (t ∷ [])
  pub others : Outside (n * 5) (n * 5 + 5) a b

-- b is a, where the Start at index i has the partner v: in the first n tokens, however many these are.
pub record Patched (a : List ℕ) (i v : ℕ) (b : List ℕ) : Type 0 where
  pub queue : (n : ℕ) → queue_of b n ≡ set (queue_of a n) i (with_end v (get_or (queue_of a n) i (Start 0 0)))
  pub others : Outside (i * 5) (i * 5 + 5) a b

-- b is a, where the Start at index i has the partner n, if it is one of the first n tokens.
pub record Paired (a : List ℕ) (i n : ℕ) (b : List ℕ) : Type 0 where
  pub queue : queue_of b n ≡ set (queue_of a n) i (with_end n (get_or (queue_of a n) i (Start 0 0)))
  pub others : Outside 0 (n * 5) a b

-- b is a, where the last of the first n tokens has the tag u, if it is an End.
pub record Tagged (a : List ℕ) (n u : ℕ) (b : List ℕ) : Type 0 where
  pub queue : queue_of b n ≡ tag_last u (queue_of a n)
  pub others : Outside ((n - 1) * 5) (n * 5) a b

-- b is a, where the token at index i has the very numbers of the token that it stands for.
pub record Settled (a : List ℕ) (i : ℕ) (b : List ℕ) : Type 0 where
  pub five : five_at b i ≡ token_of (token_at a i)
  pub others : Outside (i * 5) (i * 5 + 5) a b

-- The same for the first i of n tokens.
pub record SettledTo (i n : ℕ) (a b : List ℕ) : Type 0 where
  pub queue : queue_of b n ≡ queue_of a n
  pub written : Written b i
  pub others : Outside 0 (n * 5) a b
