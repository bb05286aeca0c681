-- Lane n of what the word operations give is the Bool operation on lane n of what they take; and a word
-- is made of its lanes. Assumes nothing.
use mathlib.Core.Path.{◌≡◌, refl, sym, ap, ap₂, ◌∙◌}
use mathlib.Core.Bool.{Bool, true, false, cond, not, ◌&&◌, xor}
use Prim.Native.Nat.{ℕ, zero, suc, ◌+◌, ◌-◌, ◌*◌, ◌/◌, ◌%◌, ◌^◌, ◌<◌, min}
use native.Mathlib.Nat.{mod-lt, pow-suc, zero-lt-suc, div-add-mod'}
use native.Mathlib.Omega.{arith}
use lib.Arith.{digits_div, digits_mod, dbl_pred}
use lib.Pow.{pow_pos}
use borrow.Author.Tests.{eq-eqb, ne_eqb, eqb-true, eqb-false}
use lib.Dec.{eqb}
use lib.Bits.{bit_and, bit_xor, differ, and_step, xor_step}
use Rattle.netlist.specs.Lanes.{lane, each, number_of, word_of}

-- ---- one digit
below_two : (P : ℕ → Type 0) → P 0 → P 1 → (n : ℕ) → n < 2 → P n
below_two P a b zero h = a
below_two P a b (suc zero) h = b
below_two P a b (suc (suc n)) h = absurd (omega arith)

min-two : (x y : ℕ) → x < 2 → y < 2 → (min x y < 2) × (eqb (min x y) 1 ≡ (eqb x 1 && eqb y 1))
min-two x y hx hy =
    below_two (λ a. (min a y < 2) × (eqb (min a y) 1 ≡ (eqb a 1 && eqb y 1)))
    (below_two (λ b. (min 0 b < 2) × (eqb (min 0 b) 1 ≡ (eqb 0 1 && eqb b 1))) (omega arith, refl) (omega arith, refl) y hy)
    (below_two (λ b. (min 1 b < 2) × (eqb (min 1 b) 1 ≡ (eqb 1 1 && eqb b 1))) (omega arith, refl) (omega arith, refl) y hy)
    x hx

differ-two : (x y : ℕ) → x < 2 → y < 2 → (differ x y < 2) × (eqb (differ x y) 1 ≡ xor (eqb x 1) (eqb y 1))
unfolding xor
differ-two x y hx hy =
    below_two (λ a. (differ a y < 2) × (eqb (differ a y) 1 ≡ xor (eqb a 1) (eqb y 1)))
    (below_two (λ b. (differ 0 b < 2) × (eqb (differ 0 b) 1 ≡ xor (eqb 0 1) (eqb b 1))) (omega arith, refl) (omega arith, refl) y hy)
    (below_two (λ b. (differ 1 b < 2) × (eqb (differ 1 b) 1 ≡ xor (eqb 1 1) (eqb b 1))) (omega arith, refl) (omega arith, refl) y hy)
    x hx

two : (n : ℕ) → n % 2 < 2
two n = mod-lt n (zero-lt-suc 1)

-- ---- lanes, for any operation by digits
module _ (op : ℕ → ℕ → ℕ) (f : ℕ → ℕ → ℕ) (g : Bool → Bool → Bool)
    (step : (a b : ℕ) → op a b ≡ op (a / 2) (b / 2) * 2 + f (a % 2) (b % 2))
    (digit : (x y : ℕ) → x < 2 → y < 2 → (f x y < 2) × (eqb (f x y) 1 ≡ g (eqb x 1) (eqb y 1))) where
  lane_op : (n a b : ℕ) → lane n (op a b) ≡ g (lane n a) (lane n b)
  unfolding lane
  lane_op zero a b =
      ap (λ (x : ℕ). eqb (x % 2) 1) (step a b)
      ∙ ap (λ (x : ℕ). eqb x 1) (digits_mod (op (a / 2) (b / 2)) (digit (a % 2) (b % 2) (two a) (two b)).0)
      ∙ (digit (a % 2) (b % 2) (two a) (two b)).1
  lane_op (suc n) a b =
      ap (λ (x : ℕ). lane n (x / 2)) (step a b)
      ∙ ap (lane n) (digits_div (op (a / 2) (b / 2)) (digit (a % 2) (b % 2) (two a) (two b)).0)
      ∙ lane_op n (a / 2) (b / 2)

pub lane_and : (n a b : ℕ) → lane n (bit_and a b) ≡ (lane n a && lane n b)
lane_and = lane_op bit_and min ◌&&◌ and_step min-two

pub lane_xor : (n a b : ℕ) → lane n (bit_xor a b) ≡ xor (lane n a) (lane n b)
lane_xor = lane_op bit_xor differ xor xor_step differ-two

-- ---- the constants
pub lane-zero : (n : ℕ) → lane n 0 ≡ false
unfolding lane
lane-zero zero = refl
lane-zero (suc n) = lane-zero n

ones-suc : (k : ℕ) → 2 ^ suc k - 1 ≡ (2 ^ k - 1) * 2 + 1
ones-suc k = ap (λ (x : ℕ). x - 1) (pow-suc 2 k) ∙ dbl_pred (pow_pos k)

pub lane_ones : (k n : ℕ) → n < k → lane n (2 ^ k - 1) ≡ true
unfolding lane
lane_ones zero n h = absurd (omega arith)
lane_ones (suc k) zero h = ap (λ (x : ℕ). eqb (x % 2) 1) (ones-suc k) ∙ ap (λ (x : ℕ). eqb x 1) (digits_mod (2 ^ k - 1) (omega arith))
lane_ones (suc k) (suc n) h =
    ap (λ (x : ℕ). lane n (x / 2)) (ones-suc k) ∙ ap (lane n) (digits_div (2 ^ k - 1) (omega arith)) ∙ lane_ones k n (omega arith)

xor-true : (b : Bool) → xor b true ≡ not b
unfolding xor
xor-true true = refl
xor-true false = refl

pub lane_not : (n w : ℕ) → n < 64 → lane n (bit_xor w (2 ^ 64 - 1)) ≡ not (lane n w)
lane_not n w h = lane_xor n w (2 ^ 64 - 1) ∙ ap (xor (lane n w)) (lane_ones 64 n h) ∙ xor-true (lane n w)

-- ---- a word is all ones where each lane is
digit-one : (a b c : ℕ) → c < 2 → eqb (a * 2 + c) (b * 2 + 1) ≡ (eqb c 1 && eqb a b)
digit-one a b zero h = ne_eqb (a * 2 + 0) (b * 2 + 1) (λ e. omega arith)
digit-one a b (suc zero) h = go (eqb a b) refl
  where
    go : (t : Bool) → eqb a b ≡ t → eqb (a * 2 + 1) (b * 2 + 1) ≡ eqb a b
    go true e = let q = eqb-true a b e in eq-eqb (a * 2 + 1) (b * 2 + 1) (omega arith) ∙ sym e
    go false e = ne_eqb (a * 2 + 1) (b * 2 + 1) (λ p. eqb-false a b e (omega arith)) ∙ sym e
digit-one a b (suc (suc c)) h = absurd (omega arith)

half_lt_pow : {a : ℕ} (k : ℕ) → a < 2 ^ suc k → a / 2 < 2 ^ k
half_lt_pow k h = let e = pow-suc 2 k in omega arith

pub each_lane : (k w : ℕ) → w < 2 ^ k → each k (λ n. lane n w) ≡ eqb w (2 ^ k - 1)
unfolding each lane
each_lane zero w h = let e : w ≡ 0 = omega arith in rw e
each_lane (suc k) w h =
    let l : w / 2 < 2 ^ k = half_lt_pow k h in
    ap (λ (t : Bool). eqb (w % 2) 1 && t) (each_lane k (w / 2) l)
    ∙ sym (digit-one (w / 2) (2 ^ k - 1) (w % 2) (two w))
    ∙ ap₂ eqb (div-add-mod' w 2) (sym (ones-suc k))

-- ---- a number made of its bits
low_bit : (b : Bool) (x : ℕ) → eqb ((cond b 1 0 + 2 * x) % 2) 1 ≡ b
low_bit true x = let e : (1 + 2 * x) % 2 ≡ 1 = omega arith in rw e
low_bit false x = let e : (0 + 2 * x) % 2 ≡ 0 = omega arith in rw e

high_bits : (b : Bool) (x : ℕ) → (cond b 1 0 + 2 * x) / 2 ≡ x
high_bits true x = omega arith
high_bits false x = omega arith

pub lane-number : (k n : ℕ) (f : ℕ → Bool) → n < k → lane n (number_of k f) ≡ f n
unfolding lane number_of
lane-number zero n f h = absurd (omega arith)
lane-number (suc k) zero f h = low_bit (f zero) _
lane-number (suc k) (suc n) f h =
    ap (lane n) (high_bits (f zero) _) ∙ lane-number k n (λ m. f (suc m)) (omega arith)

pub number_same : (k : ℕ) (f g : ℕ → Bool) → ((n : ℕ) → n < k → f n ≡ g n) → number_of k f ≡ number_of k g
unfolding number_of
number_same zero f g h = refl
number_same (suc k) f g h =
    ap₂ (λ (b : Bool) (x : ℕ). cond b 1 0 + 2 * x) (h zero (omega arith))
    (number_same k (λ n. f (suc n)) (λ n. g (suc n)) (λ n l. h (suc n) (omega arith)))

-- ---- a word
pub lane_word : (n : ℕ) (f : ℕ → Bool) → n < 64 → lane n (word_of f) ≡ f n
unfolding word_of
lane_word n f h = lane-number 64 n f h

pub word_same : (f g : ℕ → Bool) → ((n : ℕ) → n < 64 → f n ≡ g n) → word_of f ≡ word_of g
unfolding word_of
word_same f g h = number_same 64 f g h
