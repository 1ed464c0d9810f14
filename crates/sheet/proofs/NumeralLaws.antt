-- Fields are exactly the decimal numerals: `read_written` reads back what `field_text` writes, and `written_read` writes what was read.
-- Both go by one step of a numeral, that ten times a number and a digit is spelled by the number's numeral and that digit.
use Prim.Native.Nat.{ℕ, zero, suc, ◌+◌, ◌-◌, ◌*◌, ◌/◌, ◌%◌, ◌≤◌, ◌<◌}
use native.Mathlib.Omega.{arith}
use mathlib.Core.Path.{◌≡◌, refl, sym, ap, ◌∙◌}
use mathlib.Core.Bool.{Bool, true, false, cond, ◌&&◌}
use mathlib.Core.List.{List, [], ◌∷◌, ◌++◌, append_assoc, append-nil}
use Rattle.std.specs.Prelude.{Option, None, Some}
use Rattle.std.proofs.lemmas.Bool.{and_parts}
use Rattle.std.proofs.lemmas.Option.{cond_some, none-some, same_Some}
use lib.Dec.{ltb, leb, eqb}
use lib.IntN.{ℤ, pos, negsuc}
use lib.ListN.{length, get_or, replicate, length-append, length-replicate, get_or-append}
use mir.Syntax.{w32}
use mir.Val.{SFits}
use borrow.Author.Tests.{ltb-true, ltb-false, leb-true, eqb-true, eqb-false, lt-ltb, le-ltb, le-leb, ne_eqb}
use Rattle.sheet.specs.Field.{behind_spaces, digit, decimal, natural, positive, negative, signed, field}
use Rattle.sheet.specs.Numeral.{spelled, numeral, signed_numeral, justified, field_text}
use Rattle.sheet.proofs.FieldLaws.{then_some, digit_small}

-- one digit
pub digit_of : (d : ℕ) → d < 10 → digit (48 + d) ≡ Some d
unfolding digit
digit_of d h =
    let e : 48 + d - 48 ≡ d = omega arith in
    rw (le-leb 48 (48 + d) (omega arith), le-leb (48 + d) 57 (omega arith), e)

digit_byte : (b d : ℕ) → digit b ≡ Some d → b ≡ 48 + d
unfolding digit
digit_byte b d e =
    let p = cond_some (leb 48 b && leb b 57) (b - 48) d e in
    omega (arith, p.1, leb-true 48 b (and_parts (leb 48 b) (leb b 57) p.0).0)

-- how many digits are allowed does not matter, once they are enough
enough : (k m n : ℕ) → n < k → n < m → spelled k n ≡ spelled m n
unfolding spelled
enough zero m n h l = absurd (omega arith)
enough (suc k) zero n h l = absurd (omega arith)
enough (suc k) (suc m) n h l = go (ltb n 10) refl (λ t. enough k m (n / 10) (omega arith) (omega arith))
  where
    go :
        (b : Bool) → ltb n 10 ≡ b → (10 ≤ n → spelled k (n / 10) ≡ spelled m (n / 10)) →
        cond b ((48 + n) ∷ []) (spelled k (n / 10) ++ ((48 + n % 10) ∷ [])) ≡ cond b ((48 + n) ∷ []) (spelled m (n / 10) ++ ((48 + n % 10) ∷ []))
    go true e f = refl
    go false e f = rw (f (ltb-false n 10 e))

pub numeral_digit : (n : ℕ) → n < 10 → numeral n ≡ (48 + n) ∷ []
unfolding numeral spelled
numeral_digit n h = rw (lt-ltb n 10 h)

tens_first : (k n : ℕ) → 10 ≤ n → spelled (suc k) n ≡ spelled k (n / 10) ++ ((48 + n % 10) ∷ [])
unfolding spelled
tens_first k n h = rw (le-ltb n 10 h)

pub numeral_tens : (n : ℕ) → 10 ≤ n → numeral n ≡ numeral (n / 10) ++ ((48 + n % 10) ∷ [])
unfolding numeral
numeral_tens n h = tens_first n n h ∙ ap (λ x. x ++ ((48 + n % 10) ∷ [])) (enough n (suc (n / 10)) (n / 10) (omega arith) (omega arith))

pub numeral_more : (a d : ℕ) → 0 < a → d < 10 → numeral (a * 10 + d) ≡ numeral a ++ ((48 + d) ∷ [])
numeral_more a d h l =
    let q : (a * 10 + d) / 10 ≡ a = omega arith in
    let r : (a * 10 + d) % 10 ≡ d = omega arith in
    numeral_tens (a * 10 + d) (omega arith) ∙ rw (q, r)

-- a numeral starts with a digit, and not with 0 unless the number is 0
pub record Leads (n : ℕ) (s : List ℕ) : Type 0 where
  pub some_digit : 0 < length s
  pub low : 48 ≤ get_or s 0 0
  pub nonzero : 0 < n → 48 < get_or s 0 0

leads_more : (m n b : ℕ) (s : List ℕ) → 0 < m → Leads m s → Leads n (s ++ (b ∷ []))
leads_more m n b s h l =
    let e : get_or (s ++ (b ∷ [])) 0 0 ≡ get_or s 0 0 = get_or-append s (b ∷ []) 0 0 l.some_digit in
    record {
      some_digit = simp length-append (omega arith);
      low = rw e l.low;
      nonzero = λ z. rw e (l.nonzero h);
    }

leads_by : (k n : ℕ) → n < k → Leads n (spelled k n)
unfolding spelled
leads_by zero n h = absurd (omega arith)
leads_by (suc k) n h = go (ltb n 10) refl (λ t. leads_by k (n / 10) (omega arith))
  where
    go :
        (b : Bool) → ltb n 10 ≡ b → (10 ≤ n → Leads (n / 10) (spelled k (n / 10))) →
        Leads n (cond b ((48 + n) ∷ []) (spelled k (n / 10) ++ ((48 + n % 10) ∷ [])))
    go true e f = record { some_digit = omega arith; low = omega arith; nonzero = λ z. omega arith }
    go false e f = let t = ltb-false n 10 e in leads_more (n / 10) n (48 + n % 10) (spelled k (n / 10)) (omega arith) (f t)

pub leads : (n : ℕ) → Leads n (numeral n)
unfolding numeral
leads n = leads_by (suc n) n (omega arith)

-- reading a numeral
decimal_more : (s : List ℕ) (a m d : ℕ) → d < 10 → decimal a s ≡ Some m → decimal a (s ++ ((48 + d) ∷ [])) ≡ Some (m * 10 + d)
unfolding decimal
decimal_more [] a m d h e = let k : a ≡ m = same_Some a m e in rw (digit_of d h, k)
decimal_more (b ∷ s) a m d h e =
    let p = then_some (digit b) _ _ e in
    rw p.1 (decimal_more s (a * 10 + p.0) m d h p.2)

decimal_by : (k n : ℕ) → n < k → decimal 0 (spelled k n) ≡ Some n
unfolding spelled decimal
decimal_by zero n h = absurd (omega arith)
decimal_by (suc k) n h = go (ltb n 10) refl (λ t. decimal_by k (n / 10) (omega arith))
  where
    go :
        (b : Bool) → ltb n 10 ≡ b → (10 ≤ n → decimal 0 (spelled k (n / 10)) ≡ Some (n / 10)) →
        decimal 0 (cond b ((48 + n) ∷ []) (spelled k (n / 10) ++ ((48 + n % 10) ∷ []))) ≡ Some n
    go true e f = rw (digit_of n (ltb-true n 10 e)) (ap Some (omega arith))
    go false e f =
        let t = ltb-false n 10 e in
        decimal_more (spelled k (n / 10)) 0 (n / 10) (n % 10) (omega arith) (f t) ∙ ap Some (omega arith)

natural_by : (s : List ℕ) (n : ℕ) → 0 < n → Leads n s → decimal 0 s ≡ Some n → natural s ≡ Some n
unfolding natural
natural_by [] n h l e = absurd (omega (arith, l.some_digit))
natural_by (b ∷ []) n h l e = e
natural_by (b ∷ c ∷ s) n h l e = rw (ne_eqb b 48 (λ z. omega (arith, l.nonzero h))) e

pub natural_numeral : (n : ℕ) → natural (numeral n) ≡ Some n
unfolding numeral natural spelled
natural_numeral zero = decimal_by 1 0 (omega arith)
natural_numeral (suc n) = natural_by (spelled (suc (suc n)) (suc n)) (suc n) (omega arith) (leads (suc n))
    (decimal_by (suc (suc n)) (suc n) (omega arith))

positive_small : (n : ℕ) → n < 2147483648 → positive (Some n) ≡ Some (pos n)
positive_small n h = rw (lt-ltb n 2147483648 h)

negative_small : (n : ℕ) → n < 2147483648 → negative (Some (suc n)) ≡ Some (negsuc n)
negative_small n h = rw (lt-ltb n 2147483648 h)

signed_digits : (s : List ℕ) (n : ℕ) → Leads n s → signed s ≡ positive (natural s)
signed_digits [] n l = absurd (omega (arith, l.some_digit))
signed_digits (b ∷ s) n l = rw (ne_eqb b 45 (λ z. omega (arith, l.low)))

signed_back : (v : ℤ) → SFits w32 v → signed (signed_numeral v) ≡ Some v
unfolding signed_numeral
signed_back (pos n) f = signed_digits (numeral n) n (leads n) ∙ ap positive (natural_numeral n) ∙ positive_small n f.sfits
signed_back (negsuc n) f = ap negative (natural_numeral (suc n)) ∙ negative_small n f.sfits

-- the spaces in front
spaces_passed : (k : ℕ) (t : List ℕ) → behind_spaces (replicate k 32 ++ t) ≡ behind_spaces t
unfolding behind_spaces
spaces_passed zero t = refl
spaces_passed (suc k) t = spaces_passed k t

no_spaces : (s : List ℕ) (n : ℕ) → Leads n s → behind_spaces s ≡ s
unfolding behind_spaces
no_spaces [] n l = refl
no_spaces (b ∷ s) n l = rw (ne_eqb b 32 (λ z. omega (arith, l.low)))

starts : (v : ℤ) → behind_spaces (signed_numeral v) ≡ signed_numeral v
unfolding signed_numeral behind_spaces
starts (pos n) = no_spaces (numeral n) n (leads n)
starts (negsuc n) = refl

-- What is written is read back, in every field that holds it.
pub read_written : (w : ℕ) (v : ℤ) (t : List ℕ) → SFits w32 v → field_text w v ≡ Some t → (field t ≡ Some v) × (length t ≡ w)
unfolding field field_text justified
read_written w v t f e =
    let p = cond_some (leb (length (signed_numeral v)) w) (justified w (signed_numeral v)) t e in
    let l = leb-true (length (signed_numeral v)) w p.0 in (
      rw (← p.1, spaces_passed (w - length (signed_numeral v)) (signed_numeral v), starts v) (signed_back v f),
      rw (← p.1) (simp (length-append, length-replicate) (omega arith)),
    )

-- writing what was read
decimal_spelled : (s : List ℕ) (a n : ℕ) → 0 < a → decimal a s ≡ Some n → numeral n ≡ numeral a ++ s
unfolding decimal
decimal_spelled [] a n h e = let k : a ≡ n = same_Some a n e in rw (k, append-nil (numeral n))
decimal_spelled (b ∷ s) a n h e =
    let p = then_some (digit b) _ _ e in
    let d = digit_small b p.0 p.1 in
    decimal_spelled s (a * 10 + p.0) n (omega arith) p.2
    ∙ rw (numeral_more a p.0 h d, append_assoc, ← digit_byte b p.0 p.1)

natural_spelled : (s : List ℕ) (n : ℕ) → natural s ≡ Some n → numeral n ≡ s
unfolding natural decimal
natural_spelled [] n e = absurd (none-some n e)
natural_spelled (b ∷ []) n e =
    let p = then_some (digit b) _ _ e in
    let k : n ≡ p.0 = sym (same_Some _ _ p.2) ∙ omega arith in
    rw (k, numeral_digit p.0 (digit_small b p.0 p.1), ← digit_byte b p.0 p.1)
natural_spelled (b ∷ c ∷ s) n e = go (eqb b 48) refl e
  where
    go : (x : Bool) → eqb b 48 ≡ x → ◌≡◌ {A = Option ℕ} (cond x None (decimal 0 (b ∷ c ∷ s))) (Some n) → numeral n ≡ b ∷ c ∷ s
    go true h e = absurd (none-some n e)
    go false h e =
        let p = then_some (digit b) _ _ e in
        let q = digit_byte b p.0 p.1 in
        let k : 0 * 10 + p.0 ≡ p.0 = omega arith in
        let m : 0 < p.0 = omega (arith, eqb-false b 48 h) in
        decimal_spelled (c ∷ s) p.0 n m (rw k at p.2) ∙ rw (numeral_digit p.0 (digit_small b p.0 p.1), ← q)

of_positive : (o : Option ℕ) (v : ℤ) → positive o ≡ Some v → (n : ℕ) × (o ≡ Some n) × (v ≡ pos n)
of_positive None v e = absurd (none-some v e)
of_positive (Some n) v e = (n, refl, sym (cond_some (ltb n 2147483648) (pos n) v e).1)

of_negative : (o : Option ℕ) (v : ℤ) → negative o ≡ Some v → (n : ℕ) × (o ≡ Some (suc n)) × (v ≡ negsuc n)
of_negative None v e = absurd (none-some v e)
of_negative (Some zero) v e = absurd (none-some v e)
of_negative (Some (suc n)) v e = (n, refl, sym (cond_some (ltb n 2147483648) (negsuc n) v e).1)

signed_spelled : (u : List ℕ) (v : ℤ) → signed u ≡ Some v → signed_numeral v ≡ u
unfolding signed_numeral
signed_spelled [] v e = absurd (none-some v e)
signed_spelled (b ∷ s) v e = go (eqb b 45) refl e
  where
    go : (x : Bool) → eqb b 45 ≡ x → cond x (negative (natural s)) (positive (natural (b ∷ s))) ≡ Some v → signed_numeral v ≡ b ∷ s
    go true h e =
        let p = of_negative (natural s) v e in
        rw (p.2, natural_spelled s (suc p.0) p.1, eqb-true b 45 h)
    go false h e =
        let p = of_positive (natural (b ∷ s)) v e in
        rw p.2 (natural_spelled (b ∷ s) p.0 p.1)

-- the spaces that were passed: `rest` is what stands behind the spaces of t
record Padded (t rest : List ℕ) : Type 0 where
  fewer : length rest ≤ length t
  whole : replicate (length t - length rest) 32 ++ rest ≡ t

padded_none : (t : List ℕ) → Padded t t
padded_none t =
    let e : length t - length t ≡ 0 = omega arith in
    record { fewer = omega arith; whole = rw e }

padded_more : (b : ℕ) (t rest : List ℕ) → b ≡ 32 → Padded t rest → Padded (b ∷ t) rest
padded_more b t rest e p =
    let k : suc (length t) - length rest ≡ suc (length t - length rest) = omega (arith, p.fewer) in
    record { fewer = omega (arith, p.fewer); whole = rw (k, p.whole, e) }

padded : (t : List ℕ) → Padded t (behind_spaces t)
unfolding behind_spaces
padded [] = padded_none []
padded (b ∷ t) = go (eqb b 32) refl (padded t)
  where
    go : (x : Bool) → eqb b 32 ≡ x → Padded t (behind_spaces t) → Padded (b ∷ t) (cond x (behind_spaces t) (b ∷ t))
    go true h p = padded_more b t (behind_spaces t) (eqb-true b 32 h) p
    go false h p = padded_none (b ∷ t)

-- A field that reads as v has the text that is written for v: each number has one text in a field of each width.
pub written_read : (t : List ℕ) (v : ℤ) → field t ≡ Some v → field_text (length t) v ≡ Some t
unfolding field field_text justified
written_read t v e =
    let p = padded t in
    let q = signed_spelled (behind_spaces t) v e in
    rw (q, le-leb _ _ p.fewer, p.whole)

pub one_text : (t u : List ℕ) (v : ℤ) → length t ≡ length u → field t ≡ Some v → field u ≡ Some v → t ≡ u
one_text t u v l e f = same_Some t u (sym (written_read t v e) ∙ rw l (written_read u v f))
