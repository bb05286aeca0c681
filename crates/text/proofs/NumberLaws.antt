-- Decimal digits and the number they stand for. Assumes nothing.
use mathlib.Core.Path.{◌≡◌, refl, sym, ap, ◌∙◌}
use mathlib.Core.List.{List, [], ◌∷◌, ◌++◌}
use mathlib.Core.Bool.{Bool, true, false, ◌&&◌}
use Prim.Native.Nat.{ℕ, zero, suc, ◌+◌, ◌-◌, ◌*◌, ◌/◌, ◌%◌, ◌≤◌, ◌<◌}
use native.Mathlib.Numerals.{add-one}
use native.Mathlib.Omega.{arith}
use native.Mathlib.Decide.{dec_lt}
use borrow.Author.Tests.{lt-ltb, le-ltb, le-leb, leb-true}
use lib.Dec.{leb}
use lib.ListN.{length, get_or, drop, length-append, get_or-append, get_or-eq_default, drop_of_length-le}
use lib.Seq.{drop-cons}
use Rattle.text.specs.Numbers.{digits_of, digits, is_digit, leading_digits, value_from}

-- ---- how digits are made

digits_of-small : (k n : ℕ) → n < 10 → digits_of k n ≡ (48 + n % 10) ∷ []
unfolding digits_of
digits_of-small zero n h = refl
digits_of-small (suc k) n h = rw (lt-ltb n 10 h, digits_of)

digits_of-more : (k n : ℕ) → 10 ≤ n → digits_of (suc k) n ≡ digits_of k (n / 10) ++ (48 + n % 10) ∷ []
unfolding digits_of
digits_of-more k n h = rw (le-ltb n 10 h, digits_of)

-- enough is enough
digits_of-same : (k j n : ℕ) → n ≤ k → n ≤ j → digits_of k n ≡ digits_of j n
digits_of-same zero j n hk hj = digits_of-small zero n (omega arith) ∙ sym (digits_of-small j n (omega arith))
digits_of-same (suc k) zero n hk hj = digits_of-small (suc k) n (omega arith) ∙ sym (digits_of-small zero n (omega arith))
digits_of-same (suc k) (suc j) n hk hj = go (digits_of-same k j (n / 10)) (dec_lt n 10)
  where
    go : (n / 10 ≤ k → n / 10 ≤ j → digits_of k (n / 10) ≡ digits_of j (n / 10)) → Dec (n < 10) → digits_of (suc k) n ≡ digits_of (suc j) n
    go ih (yes h) = digits_of-small (suc k) n h ∙ sym (digits_of-small (suc j) n h)
    go ih (no h) =
        let g : 10 ≤ n = omega arith in
        digits_of-more k n g ∙ ap (λ (l : List ℕ). l ++ (48 + n % 10) ∷ []) (ih (omega arith) (omega arith)) ∙ sym (digits_of-more j n g)

pub digits-small : (n : ℕ) → n < 10 → digits n ≡ (48 + n % 10) ∷ []
unfolding digits
digits-small n h = digits_of-small n n h

pub digits_more : (n : ℕ) → 10 ≤ n → digits n ≡ digits (n / 10) ++ (48 + n % 10) ∷ []
unfolding digits
digits_more zero h = absurd (omega arith)
digits_more (suc n) h =
    digits_of-more n (suc n) h ∙ ap (λ (l : List ℕ). l ++ (48 + suc n % 10) ∷ []) (digits_of-same n (suc n / 10) (suc n / 10) (omega arith) (omega arith))

-- 10 to the power k
abbrev pub tens : ℕ → ℕ
tens zero = 1
tens (suc k) = 10 * tens k

pub tens_le : (i j : ℕ) → i ≤ j → tens i ≤ tens j
tens_le zero zero h = omega arith
tens_le (suc i) zero h = absurd (omega arith)
tens_le zero (suc j) h = omega (arith, tens_le zero j (omega arith))
tens_le (suc i) (suc j) h = omega (arith, tens_le i j (omega arith))

-- one digit more
pub tens_grow : (k v d : ℕ) → v < tens k → d < 10 → v * 10 + d < tens (suc k)
tens_grow k v d h g = omega arith

-- a number below 10 to the power suc k has at most suc k digits
pub digits-length : (k n : ℕ) → n < tens (suc k) → length (digits n) ≤ suc k
digits-length zero n h = rw (digits-small n h) (omega arith)
digits-length (suc k) n h = go (digits-length k (n / 10) (omega arith)) (dec_lt n 10)
  where
    go : length (digits (n / 10)) ≤ suc k → Dec (n < 10) → length (digits n) ≤ suc (suc k)
    go ih (yes l) = rw (digits-small n l) (omega arith)
    go ih (no l) = rw (digits_more n (omega arith)) (simp length-append (omega arith))

-- what holds of one digit, and of n where it holds of n / 10, holds of each n
pub digits_ind : (P : ℕ → Type 0) → ((n : ℕ) → n < 10 → P n) → ((n : ℕ) → 10 ≤ n → P (n / 10) → P n) → (n : ℕ) → P n
digits_ind P one step n = go n n (omega arith)
  where
    go : (k m : ℕ) → m ≤ k → P m
    go zero m h = one m (omega arith)
    go (suc k) m h = elim (dec_lt m 10) [ yes l ↦ one m l | no l ↦ step m (omega arith) (go k (m / 10) (omega arith)) ]

-- a number has a digit
pub digits-some : (n : ℕ) → 0 < length (digits n)
digits-some =
    digits_ind (λ n. 0 < length (digits n)) (λ n h. rw (digits-small n h) (omega arith))
    (λ n h ih. rw (digits_more n h, length-append) (omega arith))

-- ---- the bytes that are digits

pub and_both : (a b : Bool) → (a && b) ≡ true → (a ≡ true) × (b ≡ true)
and_both true b h = (refl, h)
and_both false b h = (h, absurd (let z : ◌≡◌ {A = ℕ} 0 1 = cc in omega arith))

pub digit_range : (b : ℕ) → is_digit b ≡ true → (48 ≤ b) × (b ≤ 57)
unfolding is_digit
digit_range b h =
    let both = and_both (leb 48 b) (leb b 57) h in
    (leb-true 48 b both.0, leb-true b 57 both.1)

pub digit-is : (b : ℕ) → 48 ≤ b → b ≤ 57 → is_digit b ≡ true
unfolding is_digit
digit-is b h g = rw (le-leb 48 b h, le-leb b 57 g)

-- no digit stands past a text's end
pub digit-inside : (s : List ℕ) (p : ℕ) → is_digit (get_or s p 0) ≡ true → p < length s
digit-inside s p h = elim (dec_lt p (length s)) [ yes l ↦ l | no l ↦ absurd (omega (arith, get_or-eq_default s 0 {n = p} (omega arith), digit_range (get_or s p 0) h)) ]

-- each byte is a digit
unfoldable pub EachDigit : List ℕ → Type 0
EachDigit [] = Unit {0}
EachDigit (d ∷ ds) = (is_digit d ≡ true) × EachDigit ds

each_snoc : (ds : List ℕ) (d : ℕ) → EachDigit ds → is_digit d ≡ true → EachDigit (ds ++ d ∷ [])
unfolding EachDigit
each_snoc [] d e h = (h, tt)
each_snoc (x ∷ ds) d e h = (e.0, each_snoc ds d e.1 h)

digit : (n : ℕ) → is_digit (48 + n % 10) ≡ true
digit n = digit-is (48 + n % 10) (omega arith) (omega arith)

pub each-digits : (n : ℕ) → EachDigit (digits n)
unfolding EachDigit
each-digits =
    digits_ind (λ n. EachDigit (digits n)) (λ n h. rw (digits-small n h) (digit n, tt))
    (λ n h ih. rw (digits_more n h) (each_snoc (digits (n / 10)) (48 + n % 10) ih (digit n)))

-- only 0 starts with the digit `0`
pub digits_lead : (n : ℕ) → 0 < n → get_or (digits n) 0 0 ≡ 48 → ⊥
digits_lead =
    digits_ind (λ n. 0 < n → get_or (digits n) 0 0 ≡ 48 → ⊥)
    (λ n h p e. let z : 48 + n % 10 ≡ 48 = rw (digits-small n h) at e in omega arith)
    (λ n h ih p e. ih (omega arith) (rw (digits_more n h, get_or-append (digits (n / 10)) ((48 + n % 10) ∷ []) 0 0 (digits-some (n / 10))) at e))

-- ---- reading digits one by one

pub leading_stop : (s : List ℕ) (p : ℕ) → is_digit (get_or s p 0) ≡ false → leading_digits (drop p s) ≡ []
unfolding leading_digits
leading_stop s p h = go (dec_lt p (length s))
  where
    go : Dec (p < length s) → leading_digits (drop p s) ≡ []
    go (yes l) = rw (drop-cons s p 0 l, h, leading_digits)
    go (no l) = rw (drop_of_length-le s {i = p} (omega arith))

pub leading_step : (s : List ℕ) (p : ℕ) → is_digit (get_or s p 0) ≡ true → leading_digits (drop p s) ≡ get_or s p 0 ∷ leading_digits (drop (p + 1) s)
unfolding leading_digits
leading_step s p h = rw (drop-cons s p 0 (digit-inside s p h), h, leading_digits, add-one)

pub value_stop : (v : ℕ) → value_from v [] ≡ v
unfolding value_from
value_stop v = refl

pub value_step : (v d : ℕ) (ds : List ℕ) → value_from v (d ∷ ds) ≡ value_from (v * 10 + (d - 48)) ds
unfolding value_from
value_step v d ds = refl

value_snoc : (v : ℕ) (ds : List ℕ) (d : ℕ) → value_from v (ds ++ d ∷ []) ≡ value_from v ds * 10 + (d - 48)
unfolding value_from
value_snoc v [] d = refl
value_snoc v (e ∷ ds) d = value_snoc (v * 10 + (e - 48)) ds d

-- ---- digits stand for their number

pub value-digits : (n : ℕ) → value_from 0 (digits n) ≡ n
unfolding value_from
value-digits =
    digits_ind (λ n. value_from 0 (digits n) ≡ n) (λ n h. rw (digits-small n h) (omega arith))
    (λ n h ih. rw (digits_more n h, value_snoc 0 (digits (n / 10)) (48 + n % 10), ih) (omega arith))
