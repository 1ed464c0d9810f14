-- Pairs, forests and their tokens. Document 01, "Tokens are five unsigned 32-bit numbers".
use Rattle.std.specs.Prelude.{List, [], ◌∷◌, ◌++◌, ℕ, suc, ◌+◌, leb, if◌then◌else◌}

-- The pairs that stand side by side, the last one outermost. Tag 0 means none.
pub data Forest : Type 0 where
  empty : Forest
  add : (before : Forest) → (rule tag start end : ℕ) → (children : Forest) → Forest

-- How many pairs stand side by side.
abbrev pub count : Forest → ℕ
count empty = 0
count (add f r t s e c) = suc (count f)

-- How many tokens a forest has: "two for each pair", at any depth.
abbrev pub size : Forest → ℕ
size empty = 0
size (add f r t s e c) = size f + suc (size c + 1)

-- The first n pairs.
abbrev pub cut : ℕ → Forest → Forest
cut n empty = empty
cut n (add f r t s e c) = if leb (suc (count f)) n then add f r t s e c else cut n f

-- "it sets the last sibling's tag, if any"
abbrev pub tag_last : ℕ → Forest → Forest
tag_last u empty = empty
tag_last u (add f r t s e c) = add f r u s e c

-- "kind (1 Start, 2 End), partner's index from 0, position, rule, tag"
pub record Token : Type 0 where
  pub kind : ℕ
  pub partner : ℕ
  pub position : ℕ
  pub rule : ℕ
  pub tag : ℕ

-- "rule and tag are 0 in a Start"
abbrev pub start_token : (partner position : ℕ) → Token
start_token i p = record { kind = 1; partner = i; position = p; rule = 0; tag = 0 }

abbrev pub end_token : (partner position rule tag : ℕ) → Token
end_token i p r t = record { kind = 2; partner = i; position = p; rule = r; tag = t }

-- "A forest's tokens are Start, children, End for each pair", numbered from n.
abbrev pub tokens_from : ℕ → Forest → List Token
tokens_from n empty = []
tokens_from n (add f r t s e c) =
    let start : ℕ = n + size f in
    tokens_from n f ++ (start_token (start + suc (size c)) s ∷ (tokens_from (suc start) c ++ (end_token start e r t ∷ [])))

abbrev pub tokens : Forest → List Token
tokens f = tokens_from 0 f
