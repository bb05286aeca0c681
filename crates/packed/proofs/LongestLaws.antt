-- A netlist that has a packed file of 28,706 bytes: one input, 4,094 latches, the last six of them uninitialised, and
-- two outputs; each reset is explicit. Assumes nothing.
use mathlib.Core.Path.{◌≡◌, refl, ap, ◌∙◌}
use mathlib.Core.Bool.{Bool, true, false, not, cond, ◌&&◌, ◌||◌}
use mathlib.Core.List.{List, [], ◌∷◌}
use Prim.Native.Nat.{ℕ, zero, suc, ◌+◌, ◌-◌, ◌*◌, ◌/◌, ◌%◌, ◌<◌, ◌≤◌, min}
use native.Mathlib.Decide.{dec_lt}
use native.Mathlib.Nat.{mul-suc}
use native.Mathlib.Omega.{arith}
use borrow.Author.Tests.{le-leb, lt-leb, eq-eqb, ne_eqb}
use lib.Dec.{eqb, leb}
use lib.ListN.{length, get_or, length-append}
use Rattle.text.specs.Numbers.{digits}
use Rattle.text.specs.Writer.{joined}
use Rattle.text.proofs.NumberLaws.{digits_more, digits-some}
use Rattle.netlist.specs.Layout.{maximum, input_count, latch_count, output_count, gate_count, next_at, reset_at, output_at, latch_variable}
use Rattle.netlist.specs.Literals.{literal_of}
use Rattle.netlist.specs.Valid.{is_within, is_free, latch_ok, free_count, is_netlist}
use Rattle.netlist.proofs.LiteralLaws.{literal-plain, literal-inverted}
use Rattle.netlist.proofs.AigerLaws.{means}
use Rattle.aiger.specs.Rows.{line, literal_row}
use Rattle.aiger.specs.Format.{output_line}
use Rattle.packed.specs.Format.{packed_header, packed_latch_row, packed_latch, packed_with}
use Rattle.packed.proofs.LengthLaws.{packed-length}

-- ---- how long lines are at least

digits_four : (n : ℕ) → 1000 ≤ n → 4 ≤ length (digits n)
digits_four n h =
    rw (digits_more n (omega arith), digits_more (n / 10) (omega arith), digits_more (n / 10 / 10) (omega arith))
    (simp length-append (omega (arith, digits-some (n / 10 / 10 / 10))))

header_least : (m i l o a : ℕ) → 1000 ≤ m → 1000 ≤ l → 20 ≤ length (packed_header m i l o a)
unfolding packed_header line
header_least m i l o a hm hl =
    simp length-append (omega (arith, digits_four m hm, digits-some i, digits_four l hl, digits-some o, digits-some a))

literal_least : (lit : ℕ) → 1000 ≤ lit → 5 ≤ length (literal_row lit)
unfolding literal_row line
literal_least lit h = rw length-append (omega (arith, digits_four lit h))

latch_explicit : (next reset : ℕ) → packed_latch_row true next reset ≡ line next (reset ∷ [])
unfolding packed_latch_row
latch_explicit next reset = go (eqb reset 0)
  where
    go : (t : Bool) → cond (t && not true) (line next []) (line next (reset ∷ [])) ≡ line next (reset ∷ [])
    go true = refl
    go false = refl

-- of a reset of d digits at least
latch_least : (next reset d : ℕ) → 1000 ≤ next → d ≤ length (digits reset) → 6 + d ≤ length (packed_latch_row true next reset)
unfolding line
latch_least next reset d h l = rw (latch_explicit next reset) (simp length-append (omega (arith, digits_four next h)))

joined_least : (f : ℕ → List ℕ) (c n : ℕ) → ((k : ℕ) → k < n → c ≤ length (f k)) → c * n ≤ length (joined f n)
joined_least f c zero h = omega arith
joined_least f c (suc n) h =
    rw (length-append (joined f n) (f n), mul-suc c n) (omega (arith, joined_least f c n (λ k l. h k (omega arith)), h n (omega arith)))

-- ---- the netlist

-- f 0, f 1, .., f (n - 1)
unfoldable numbers : (ℕ → ℕ) → ℕ → List ℕ
numbers f zero = []
numbers f (suc n) = f zero ∷ numbers (λ k. f (suc k)) n

numbers-length : (f : ℕ → ℕ) (n : ℕ) → length (numbers f n) ≡ n
unfolding numbers
numbers-length f zero = refl
numbers-length f (suc n) = ap suc (numbers-length (λ k. f (suc k)) n)

numbers-at : (f : ℕ → ℕ) (n i : ℕ) → i < n → get_or (numbers f n) i 0 ≡ f i
unfolding numbers
numbers-at f zero i h = absurd (omega arith)
numbers-at f (suc n) zero h = refl
numbers-at f (suc n) (suc i) h = numbers-at (λ k. f (suc k)) n i (omega arith)

-- number j after the header: 8,190 for each next literal and the first output; 0 for a reset, but for the last six the
-- latch's own literal, and 8,191 for the second output
unfoldable number_at : ℕ → ℕ
number_at j = cond (eqb (j % 2) 0) 8190 (cond (leb 8176 j) (min (j + 3) 8191) 0)

number_even : (j : ℕ) → j % 2 ≡ 0 → number_at j ≡ 8190
unfolding number_at
number_even j h = rw (eq-eqb (j % 2) 0 h)

number_odd : (j : ℕ) → j % 2 ≡ 1 → number_at j ≡ cond (leb 8176 j) (min (j + 3) 8191) 0
unfolding number_at
number_odd j h = rw (ne_eqb (j % 2) 0 (λ z. omega arith))

number-plain : (j : ℕ) → j % 2 ≡ 1 → j < 8176 → number_at j ≡ 0
number-plain j h l = number_odd j h ∙ rw (lt-leb 8176 j l)

number-own : (j : ℕ) → j % 2 ≡ 1 → 8176 ≤ j → number_at j ≡ min (j + 3) 8191
number-own j h l = number_odd j h ∙ rw (le-leb 8176 j l)

number-large : (j : ℕ) → 8176 ≤ j → (1000 ≤ number_at j) × (number_at j ≤ 8191)
number-large j l = go (dec_lt (j % 2) 1)
  where
    go : Dec (j % 2 < 1) → (1000 ≤ number_at j) × (number_at j ≤ 8191)
    go (yes h) = rw (number_even j (omega arith)) (omega arith, omega arith)
    go (no h) = rw (number-own j (omega arith) l) (omega arith, omega arith)

unfoldable net : List ℕ
net = 4095 ∷ 1 ∷ 4094 ∷ 2 ∷ 0 ∷ numbers number_at 8190

net-header : (maximum net ≡ 4095) × (input_count net ≡ 1) × (latch_count net ≡ 4094) × (output_count net ≡ 2) × (gate_count net ≡ 0)
unfolding net
net-header = (refl, refl, refl, refl, refl)

net-length : length net ≡ 8195
unfolding net
net-length = omega (arith, numbers-length number_at 8190)

net-number : (j : ℕ) → get_or net (suc (suc (suc (suc (suc j))))) 0 ≡ get_or (numbers number_at 8190) j 0
unfolding net
net-number j = refl

net-at : (i j : ℕ) → i ≡ 5 + j → j < 8190 → get_or net i 0 ≡ number_at j
net-at i j e h =
    let s : i ≡ suc (suc (suc (suc (suc j)))) = omega arith in
    ap (λ (n : ℕ). get_or net n 0) s ∙ net-number j ∙ numbers-at number_at 8190 j h

net-next : (k : ℕ) → k < 4094 → get_or net (next_at k) 0 ≡ 8190
net-next k h = net-at (next_at k) (2 * k) (omega arith) (omega arith) ∙ number_even (2 * k) (omega arith)

net-plain : (k : ℕ) → k < 4088 → get_or net (reset_at k) 0 ≡ 0
net-plain k h = net-at (reset_at k) (2 * k + 1) (omega arith) (omega arith) ∙ number-plain (2 * k + 1) (omega arith) (omega arith)

net-own : (k : ℕ) → 4088 ≤ k → k < 4094 → get_or net (reset_at k) 0 ≡ literal_of (latch_variable net k) false
net-own k h l =
    let head = net-header in
    let m : min (2 * k + 1 + 3) 8191 ≡ literal_of (latch_variable net k) false = omega (arith, literal-plain (latch_variable net k)) in
    net-at (reset_at k) (2 * k + 1) (omega arith) (omega arith) ∙ number-own (2 * k + 1) (omega arith) (omega arith) ∙ m

net-output : (k : ℕ) → k < 2 → (1000 ≤ get_or net (output_at net k) 0) × (get_or net (output_at net k) 0 ≤ 8191)
net-output k h =
    let head = net-header in
    rw (net-at (output_at net k) (8188 + k) (omega arith) (omega arith)) (number-large (8188 + k) (omega arith))

-- ---- it is one

free-not : (k : ℕ) → get_or net (reset_at k) 0 ≤ 1 → is_free net k ≡ false
unfolding is_free
free-not k h = rw (le-leb (get_or net (reset_at k) 0) 1 h)

free-last : (n : ℕ) → free_count net n ≤ n - 4088
unfolding free_count
free-last zero = omega arith
free-last (suc n) = go (dec_lt n 4088) (free-last n)
  where
    one : (t : Bool) → cond t 1 0 ≤ 1
    one true = omega arith
    one false = omega arith

    go : Dec (n < 4088) → free_count net n ≤ n - 4088 → free_count net n + cond (is_free net n) 1 0 ≤ suc n - 4088
    go (yes h) ih = let z = net-plain n h in rw (free-not n (omega arith)) (omega arith)
    go (no h) ih = omega (arith, one (is_free net n))

within : (lit : ℕ) → lit ≤ 8191 → is_within net lit ≡ true
unfolding is_within
within lit h = let head = net-header in le-leb lit (literal_of (maximum net) true) (omega (arith, literal-inverted (maximum net)))

or-true : (t : Bool) → (t || true) ≡ true
or-true true = refl
or-true false = refl

net_latch : (k : ℕ) → k < 4094 → latch_ok net k ≡ true
unfolding latch_ok
net_latch k h =
    let w = within (get_or net (next_at k) 0) (let n = net-next k h in omega arith) in
    rw w (go (dec_lt k 4088))
  where
    go : Dec (k < 4088) → (not (is_free net k) || eqb (get_or net (reset_at k) 0) (literal_of (latch_variable net k) false)) ≡ true
    go (yes l) = let z = net-plain k l in rw (free-not k (omega arith))
    go (no l) = rw (eq-eqb (get_or net (reset_at k) 0) _ (net-own k (omega arith) h)) (or-true (not (is_free net k)))

is_netlist_lem : is_netlist net ≡ true
is_netlist_lem =
    let head = net-header in
    let long = net-length in
    let most = free-last (latch_count net) in
    (means net).taken (omega arith)
    ((means net).either (maximum net) (input_count net) (latch_count net) (output_count net) (gate_count net) (omega arith) (omega arith) (omega arith) (omega arith) (omega arith) (omega arith))
    (omega arith)
    (λ k h. let o = net-output k (omega arith) in omega (arith, literal-inverted (maximum net)))
    (λ k h. net_latch k (omega arith))
    (omega arith)
    (λ k h. absurd (omega arith))

-- ---- and its file is as long

abbrev each-explicit : ℕ → Bool
each-explicit k = true

latch_plain_least : (k : ℕ) → k < 4094 → 7 ≤ length (packed_latch net each-explicit k)
unfolding packed_latch
latch_plain_least k h =
    let n = net-next k h in
    latch_least (get_or net (next_at k) 0) (get_or net (reset_at k) 0) 1 (omega arith) (digits-some (get_or net (reset_at k) 0))

latch_own_least : (k : ℕ) → 4088 ≤ k → k < 4094 → 10 ≤ length (packed_latch net each-explicit k)
unfolding packed_latch
latch_own_least k l h =
    let head = net-header in
    let n = net-next k h in
    let r = net-own k l h in
    latch_least (get_or net (next_at k) 0) (get_or net (reset_at k) 0) 4 (omega arith) (digits_four (get_or net (reset_at k) 0) (omega (arith, literal-plain (latch_variable net k))))

latches_least : (n : ℕ) → n ≤ 4094 → 7 * n + 3 * (n - 4088) ≤ length (joined (packed_latch net each-explicit) n)
latches_least zero h = omega arith
latches_least (suc n) h =
    rw (length-append (joined (packed_latch net each-explicit) n) (packed_latch net each-explicit n)) (go (dec_lt n 4088) (latches_least n (omega arith)))
  where
    go : Dec (n < 4088) → 7 * n + 3 * (n - 4088) ≤ length (joined (packed_latch net each-explicit) n)
        → 7 * suc n + 3 * (suc n - 4088) ≤ length (joined (packed_latch net each-explicit) n) + length (packed_latch net each-explicit n)
    go (yes l) ih = omega (arith, latch_plain_least n h)
    go (no l) ih = omega (arith, latch_own_least n (omega arith) h)

output_least : (k : ℕ) → k < 2 → 5 ≤ length (output_line net k)
unfolding output_line
output_least k h = literal_least (get_or net (output_at net k) 0) (net-output k h).0

file_least : 28706 ≤ length (packed_with net each-explicit)
unfolding packed_with
file_least =
    let head = net-header in
    simp length-append (omega (
      arith,
      header_least (maximum net) (input_count net) (latch_count net) (output_count net) (gate_count net) (omega arith) (omega arith),
      latches_least (latch_count net) (omega arith),
      joined_least (output_line net) 5 (output_count net) (λ k h. output_least k (omega arith)),
    ))

pub longest : (net : List ℕ) × (explicit : ℕ → Bool) × (is_netlist net ≡ true) × (length (packed_with net explicit) ≡ 28706)
longest = (net, each-explicit, is_netlist_lem, omega (arith, file_least, packed-length net is_netlist_lem each-explicit))
