-- How a byte run is made, byte by byte, however many it may have, and what its bytes are. Assumes nothing.
use mathlib.Core.Path.{◌≡◌, refl, sym, ap, ◌∙◌}
use mathlib.Core.List.{List, [], ◌∷◌}
use Prim.Native.Nat.{ℕ, zero, suc, ◌+◌, ◌*◌, ◌/◌, ◌%◌, ◌≤◌, ◌<◌}
use native.Mathlib.Omega.{arith}
use native.Mathlib.Decide.{dec_lt}
use borrow.Author.Tests.{lt-ltb, le-ltb}
use lib.ListN.{length, get_or}
use Rattle.packed.specs.Runs.{run_of, run}
use Rattle.packed.specs.Claims.{value_of}

-- ---- how a run is made

-- the byte of n's lowest bits, with a run of the others
abbrev with : ℕ → List ℕ → List ℕ
with n s = (128 + n % 128) ∷ s

small : (k n : ℕ) → n < 128 → run_of k n ≡ n ∷ []
unfolding run_of
small zero n h = let e : n % 128 ≡ n = omega arith in rw e
small (suc k) n h = rw (lt-ltb n 128 h, run_of)

split : (k n : ℕ) → 128 ≤ n → run_of (suc k) n ≡ with n (run_of k (n / 128))
unfolding run_of
split k n h = rw (le-ltb n 128 h, run_of)

same : (k j n : ℕ) → n ≤ k → n ≤ j → run_of k n ≡ run_of j n
same zero j n hk hj = small zero n (omega arith) ∙ sym (small j n (omega arith))
same (suc k) zero n hk hj = small (suc k) n (omega arith) ∙ sym (small zero n (omega arith))
same (suc k) (suc j) n hk hj = go (same k j (n / 128)) (dec_lt n 128)
  where
    go : (n / 128 ≤ k → n / 128 ≤ j → run_of k (n / 128) ≡ run_of j (n / 128)) → Dec (n < 128) → run_of (suc k) n ≡ run_of (suc j) n
    go ih (yes h) = small (suc k) n h ∙ sym (small (suc j) n h)
    go ih (no h) =
        let g : 128 ≤ n = omega arith in
        split k n g ∙ ap (with n) (ih (omega arith) (omega arith)) ∙ sym (split j n g)

-- a number below 128 is one byte
pub run_small : (n : ℕ) → n < 128 → run n ≡ n ∷ []
unfolding run
run_small n h = small n n h

-- any other has its lowest seven bits first
pub run_more : (n : ℕ) → 128 ≤ n → run n ≡ (128 + n % 128) ∷ run (n / 128)
unfolding run
run_more zero h = absurd (omega arith)
run_more (suc n) h =
    split n (suc n) h ∙ ap (with (suc n)) (same n (suc n / 128) (suc n / 128) (omega arith) (omega arith))

-- 128 to the power suc k
abbrev pub top : ℕ → ℕ
top zero = 128
top (suc k) = 128 * top k

-- enough bytes are enough
pub run_enough : (k n : ℕ) → n < top k → run_of k n ≡ run n
run_enough zero n h = small zero n h ∙ sym (run_small n h)
run_enough (suc k) n h = go (run_enough k (n / 128)) (dec_lt n 128)
  where
    go : (n / 128 < top k → run_of k (n / 128) ≡ run (n / 128)) → Dec (n < 128) → run_of (suc k) n ≡ run n
    go ih (yes l) = small (suc k) n l ∙ sym (run_small n l)
    go ih (no l) =
        let g : 128 ≤ n = omega arith in
        split k n g ∙ ap (with n) (ih (omega arith)) ∙ sym (run_more n g)

-- what holds of one byte, and of n where it holds of n / 128, holds of each n
pub run_ind : (P : ℕ → Type 0) → ((n : ℕ) → n < 128 → P n) → ((n : ℕ) → 128 ≤ n → P (n / 128) → P n) → (n : ℕ) → P n
run_ind P one step n = go n n (omega arith)
  where
    go : (k m : ℕ) → m ≤ k → P m
    go zero m h = one m (omega arith)
    go (suc k) m h = elim (dec_lt m 128) [ yes l ↦ one m l | no l ↦ step m (omega arith) (go k (m / 128) (omega arith)) ]

-- ---- what its bytes are

value_with : (n : ℕ) (s : List ℕ) → value_of (with n s) ≡ n % 128 + 128 * value_of s
unfolding value_of
value_with n s = omega arith

pub run_value : (n : ℕ) → value_of (run n) ≡ n
unfolding value_of
run_value =
    run_ind (λ n. value_of (run n) ≡ n) (λ n h. rw (run_small n h) (omega arith))
    (λ n h ih. rw (run_more n h, value_with n (run (n / 128)), ih) (omega arith))

length_with : (n : ℕ) (s : List ℕ) → length (with n s) ≡ suc (length s)
length_with n s = refl

pub run-some : (n : ℕ) → 1 ≤ length (run n)
run-some =
    run_ind (λ n. 1 ≤ length (run n)) (λ n h. rw (run_small n h) (omega arith))
    (λ n h ih. rw (run_more n h, length_with n (run (n / 128))) (omega arith))

-- a number below 128 to the power suc k has at most suc k bytes
pub run_length : (k n : ℕ) → n < top k → length (run n) ≤ suc k
run_length zero n h = rw (run_small n h) (omega arith)
run_length (suc k) n h = go (run_length k (n / 128)) (dec_lt n 128)
  where
    go : (n / 128 < top k → length (run (n / 128)) ≤ suc k) → Dec (n < 128) → length (run n) ≤ suc (suc k)
    go ih (yes l) = rw (run_small n l) (omega arith)
    go ih (no l) = rw (run_more n (omega arith), length_with n (run (n / 128))) (omega (arith, ih (omega arith)))

-- a fact of the last byte
last_of : (P : ℕ → ℕ → Type 0) → ((n : ℕ) → n < 128 → P n n) → ((n b : ℕ) → 128 ≤ n → P (n / 128) b → P n b)
    → (n k : ℕ) → suc k ≡ length (run n) → P n (get_or (run n) k 0)
last_of P one step =
    run_ind (λ n. (k : ℕ) → suc k ≡ length (run n) → P n (get_or (run n) k 0)) first next
  where
    first : (n : ℕ) → n < 128 → (k : ℕ) → suc k ≡ length (run n) → P n (get_or (run n) k 0)
    first n h zero e = rw (run_small n h) (one n h)
    first n h (suc k) e = absurd (omega (arith, ap length (run_small n h)))

    next : (n : ℕ) → 128 ≤ n → ((k : ℕ) → suc k ≡ length (run (n / 128)) → P (n / 128) (get_or (run (n / 128)) k 0))
        → (k : ℕ) → suc k ≡ length (run n) → P n (get_or (run n) k 0)
    next n h ih zero e = absurd (omega (arith, ap length (run_more n h) ∙ length_with n (run (n / 128)), run-some (n / 128)))
    next n h ih (suc k) e =
        rw (run_more n h) (step n (get_or (run (n / 128)) k 0) h (ih k (omega (arith, ap length (run_more n h)))))

pub run-last : (n k : ℕ) → suc k ≡ length (run n) → get_or (run n) k 0 < 128
run-last = last_of (λ n b. b < 128) (λ n h. h) (λ n b h ih. ih)

pub run-before : (n k : ℕ) → suc k < length (run n) → (128 ≤ get_or (run n) k 0) × (get_or (run n) k 0 < 256)
run-before =
    run_ind (λ n. (k : ℕ) → suc k < length (run n) → (128 ≤ get_or (run n) k 0) × (get_or (run n) k 0 < 256)) first next
  where
    first : (n : ℕ) → n < 128 → (k : ℕ) → suc k < length (run n) → (128 ≤ get_or (run n) k 0) × (get_or (run n) k 0 < 256)
    first n h k l = absurd (omega (arith, ap length (run_small n h)))

    next : (n : ℕ) → 128 ≤ n
        → ((k : ℕ) → suc k < length (run (n / 128)) → (128 ≤ get_or (run (n / 128)) k 0) × (get_or (run (n / 128)) k 0 < 256))
        → (k : ℕ) → suc k < length (run n) → (128 ≤ get_or (run n) k 0) × (get_or (run n) k 0 < 256)
    next n h ih zero l = rw (run_more n h) (omega arith, omega arith)
    next n h ih (suc k) l = rw (run_more n h) (ih k (omega (arith, ap length (run_more n h))))

run_positive : (n k : ℕ) → suc k ≡ length (run n) → 1 ≤ n → 1 ≤ get_or (run n) k 0
run_positive = last_of (λ n b. 1 ≤ n → 1 ≤ b) (λ n h p. p) (λ n b h ih p. ih (omega arith))

pub run-fewest : (n k : ℕ) → suc (suc k) ≡ length (run n) → 1 ≤ get_or (run n) (suc k) 0
run-fewest n k e = run_positive n (suc k) e (elim (dec_lt n 128) [ yes l ↦ absurd (omega (arith, ap length (run_small n l))) | no l ↦ omega arith ])
