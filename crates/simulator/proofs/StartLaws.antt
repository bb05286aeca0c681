-- Laws of a start: the words with which the latches start, and what each of their lanes is. Assumes nothing.
use Rattle.std.specs.Prelude.{Result, Ok, Err}
use mathlib.Core.Path.{◌≡◌, refl, sym, ap, ap₂, ◌∙◌}
use mathlib.Core.Bool.{Bool, true, false, cond, not}
use mathlib.Core.List.{List, [], ◌∷◌, ◌++◌}
use Prim.Native.Nat.{ℕ, zero, suc, ◌+◌, ◌-◌, ◌*◌, ◌/◌, ◌%◌, ◌^◌, ◌<◌, ◌≤◌}
use native.Mathlib.Nat.{pow-suc, add-zero, one-mul, mod-eq_of_lt, pow-le-pow_right}
use native.Mathlib.Numerals.{add-one}
use native.Mathlib.Omega.{arith}
use lib.Dec.{leb, eqb}
use lib.ListN.{length, get_or, set, drop, length-append, get_or-append}
use lib.Seq.{get_or_at, drop_at}
use borrow.Author.Count.{below_more}
use borrow.Author.Tests.{eqb-true, le-leb, lt-leb}
use Rattle.netlist.specs.Layout.{latch_count, reset_at}
use Rattle.netlist.specs.Lanes.{lane, each, number_of, word_of}
use Rattle.netlist.specs.Valid.{is_free, free_count}
use Rattle.netlist.proofs.EachLaws.{each_at}
use Rattle.netlist.proofs.LaneLaws.{lane_word, word_same}
use Rattle.netlist.proofs.ValidLaws.{free_more, outline_of, free-below}
use Rattle.calls.specs.declared.refusal.Cause.{Cause}
use Rattle.calls.specs.declared.tally.Tally.{Tally}
use Rattle.calls.specs.Tallies.{cleared}
use Rattle.calls.specs.Refusals.{start_check}
use Rattle.calls.proofs.RefusalLaws.{start-passed}
use Rattle.calls.proofs.ClaimLaws.{start_tested}
use Rattle.simulator.specs.Start.{start_bit, start_words, StartEnd, start_end, start_as, start_of}
use Rattle.simulator.specs.Claims.{free_word, WordsOfStart, StartMeans}
use Rattle.simulator.proofs.CycleLaws.{grow}

-- ---- the first word of a latch, by its reset
pub reset-low : 0 ≡ word_of (λ n. false)
unfolding word_of number_of
reset-low = refl

pub reset_high : 18446744073709551615 ≡ word_of (λ n. true)
unfolding word_of number_of
reset_high = refl

-- ---- the words of the uninitialised latches
-- one computed test of all lanes of all six
words_tested : each 6 (λ j. eqb (free_word j) (word_of (λ n. lane j n))) ≡ true
unfolding each lane word_of number_of
words_tested = refl

pub free_word_lem : (j : ℕ) → j < 6 → free_word j ≡ word_of (λ n. lane j n)
free_word_lem j h = eqb-true _ _ (each_at (λ i. eqb (free_word i) (word_of (λ n. lane i n))) 6 words_tested j h)

-- 1 shifted by fewer than 64 places
shifted : (k : ℕ) → k ≤ 63 → (1 * 2 ^ k) % 2 ^ 64 ≡ 2 ^ k
shifted k h = ap (λ (n : ℕ). n % 2 ^ 64) (one-mul (2 ^ k)) ∙ mod-eq_of_lt (omega (arith, pow-le-pow_right {n = 2} (omega arith) h))

-- 2 ^ j and 2 ^ (2 ^ j): what the shifts give, and how large it is at most
module _ (j : ℕ) (h : j < 6) where
  pub row-most : 2 ^ j ≤ 32
  row-most = pow-le-pow_right {n = 2} (omega arith) {i = j} {j = 5} (omega arith)

  pub row_shift : (1 * 2 ^ j) % 2 ^ 64 ≡ 2 ^ j
  row_shift = shifted j (omega arith)

  pub power_most : 2 ^ (2 ^ j) ≤ 4294967296
  power_most = pow-le-pow_right {n = 2} (omega arith) {j = 32} row-most

  pub power_shift : (1 * 2 ^ (2 ^ j)) % 2 ^ 64 ≡ 2 ^ (2 ^ j)
  power_shift = shifted (2 ^ j) (omega (arith, row-most))

half_lt_pow : {a : ℕ} (k : ℕ) → a < 2 ^ suc k → a / 2 < 2 ^ k
half_lt_pow k h = let e = pow-suc 2 k in omega arith

-- a number below 2 ^ j has no bit j
lane_past : (j n : ℕ) → n < 2 ^ j → lane j n ≡ false
unfolding lane
lane_past zero n h = let e : n ≡ 0 = omega arith in rw e
lane_past (suc j) n h = lane_past j (n / 2) (half_lt_pow j h)

more-lanes : (j : ℕ) → 64 ≤ 2 ^ (6 + j)
more-lanes zero = omega arith
more-lanes (suc j) =
    let s : 6 + suc j ≡ suc (6 + j) = omega arith in
    let e : 2 ^ (6 + suc j) ≡ 2 ^ (6 + j) * 2 = ap (λ (m : ℕ). 2 ^ m) s ∙ pow-suc 2 (6 + j) in
    omega (arith, more-lanes j)

-- past the sixth word no lane has the bit
pub past_word : (j : ℕ) → 6 ≤ j → 0 ≡ word_of (λ n. lane j n)
past_word j h = reset-low ∙ word_same (λ n. false) (λ n. lane j n) (λ n l. sym (lane_past j n (long n l)))
  where
    long : (n : ℕ) → n < 64 → n < 2 ^ j
    long n l = let e : 6 + (j - 6) ≡ j = omega arith in omega (arith, rw e at (more-lanes (j - 6)))

-- ---- the latch words while they start
module _ (net : List ℕ) where
  pub length-starts : (k : ℕ) → length (start_words net k) ≡ k
  unfolding start_words
  length-starts zero = refl
  length-starts (suc k) =
      length-append (start_words net k) (word_of (start_bit net k) ∷ []) ∙ ap (λ (n : ℕ). n + 1) (length-starts k) ∙ add-one k

  -- the buffer after k of them
  unfoldable pub started : List ℕ → ℕ → List ℕ
  started b k = start_words net k ++ drop k b

  pub started-zero : (b : List ℕ) → b ≡ started b 0
  unfolding started start_words
  started-zero b = refl

  pub started-more : (b : List ℕ) (k : ℕ) → k < length b → set (started b k) k (word_of (start_bit net k)) ≡ started b (k + 1)
  unfolding started start_words
  started-more b k h =
      grow 0 (start_words net k) (word_of (start_bit net k)) b k (length-starts k) h
      ∙ ap (λ (j : ℕ). start_words net j ++ drop (k + 1) b) (sym (add-one k))

  -- the word that a turn writes
  pub start_word : (k j w r : ℕ) → r ≡ get_or net (5 + 2 * k + 1) 0 → j ≡ free_count net k → w ≡ word_of (λ n. cond (not (leb r 1)) (lane j n) (eqb r 1))
      → w ≡ word_of (start_bit net k)
  unfolding start_bit is_free
  start_word k j w r er ej e = e ∙ ap₂ (λ (x i : ℕ). word_of (λ n. cond (not (leb x 1)) (lane i n) (eqb x 1))) er ej

  -- the uninitialised latches up to one more
  pub free-none : free_count net 0 ≡ 0
  unfolding free_count
  free-none = refl

  pub free_yes : (k : ℕ) → 1 < get_or net (5 + 2 * k + 1) 0 → free_count net (k + 1) ≡ free_count net k + 1
  unfolding is_free
  free_yes k h = free_more net k ∙ ap (λ (t : Bool). free_count net k + cond (not t) 1 0) (lt-leb _ _ h)

  pub free_no : (k : ℕ) → get_or net (5 + 2 * k + 1) 0 ≤ 1 → free_count net (k + 1) ≡ free_count net k
  unfolding is_free
  free_no k h = free_more net k ∙ ap (λ (t : Bool). free_count net k + cond (not t) 1 0) (le-leb _ _ h) ∙ add-zero (free_count net k)

  -- latch k starts with its word
  pub start-at : (count k : ℕ) → k < count → get_or (start_words net count) k 0 ≡ word_of (start_bit net k)
  unfolding start_words
  start-at zero k h = absurd (omega arith)
  start-at (suc count) k h =
      let S = start_words net count in
      let x = word_of (start_bit net count) in
      below_more (λ i. get_or (S ++ (x ∷ [])) i 0 ≡ word_of (start_bit net i)) count
      (λ i l. get_or-append S (x ∷ []) 0 i (rw (length-starts count) l) ∙ start-at count i l)
      (get_or_at S x [] 0 count (length-starts count)) k (omega arith)

-- ---- the bit of a latch, by its reset
module _ (net : List ℕ) (k n : ℕ) where
  bit-zero : get_or net (reset_at k) 0 ≡ 0 → start_bit net k n ≡ false
  unfolding start_bit is_free
  bit-zero e = rw e

  bit-one : get_or net (reset_at k) 0 ≡ 1 → start_bit net k n ≡ true
  unfolding start_bit is_free
  bit-one e = rw e

  bit-free : is_free net k ≡ true → start_bit net k n ≡ lane (free_count net k) n
  unfolding start_bit
  bit-free e = rw e

-- ---- what a start answers and leaves
module _ (net latches : List ℕ) (t : Tally) where
  pub start-refused : (c : Result Unit Cause) (cause : Cause) → c ≡ start_check net (length latches) → c ≡ Err cause
      → start_end (record { outcome = Err cause; tally = t }) latches ≡ start_of net latches t
  unfolding start_of start_as
  start-refused c cause is e = rw (← is, e)

  start_is : start_check net (length latches) ≡ Ok tt
      → start_end (record { outcome = (Ok tt); tally = cleared }) (start_words net (latch_count net) ++ drop (latch_count net) latches) ≡ start_of net latches t
  unfolding start_of start_as
  start_is e = rw e

  pub start-ready : (c : Result Unit Cause) → c ≡ start_check net (length latches) → c ≡ Ok tt → (l : ℕ) → l ≡ latch_count net → (ls : List ℕ) → ls ≡ start_words net l ++ drop l latches
      → start_end (record { outcome = (Ok tt); tally = cleared }) ls ≡ start_of net latches t
  start-ready c is e l el ls els =
      ap (start_end (record { outcome = (Ok tt); tally = cleared })) (els ∙ ap (λ (i : ℕ). start_words net i ++ drop i latches) el) ∙ start_is (sym is ∙ e)

  -- each latch starts with its word
  word-starts : start_check net (length latches) ≡ Ok tt → (k : ℕ) → k < latch_count net → get_or (start_of net latches t).latches k 0 ≡ word_of (start_bit net k)
  word-starts e k l =
      let S = start_words net (latch_count net) in
      rw (← (start_is e))
      (get_or-append S (drop (latch_count net) latches) 0 k (rw (length-starts net (latch_count net)) l) ∙ start-at net (latch_count net) k l)

  -- each lane of each latch starts with its bit
  pub lane-starts : start_check net (length latches) ≡ Ok tt → (n : ℕ) → n < 64 → (k : ℕ) → k < latch_count net
      → lane n (get_or (start_of net latches t).latches k 0) ≡ start_bit net k n
  lane-starts e n h k l = ap (lane n) (word-starts e k l) ∙ lane_word n (start_bit net k) h

  -- and that bit is its reset, or of the lane's number
  pub start-means : StartMeans net latches t
  start-means e n h k l =
      let b = lane-starts e n h k l in
      record { zeros = λ z. b ∙ bit-zero net k n z; ones = λ o. b ∙ bit-one net k n o; free = λ f. b ∙ bit-free net k n f }

  kept_as : (c : Result Unit Cause) (cause : Cause) → (start_as c net latches t).answer.outcome ≡ Err cause → start_as c net latches t ≡ start_end (record { outcome = Err cause; tally = t }) latches
  unfolding start_as
  kept_as (Ok tt) cause e = let z : ◌≡◌ {A = ℕ} 0 1 = cc in absurd (omega arith)
  kept_as (Err told) cause e = let k : told ≡ cause = cc in rw k refl

  ready_by : (c : Result Unit Cause) → (start_as c net latches t).answer.outcome ≡ Ok tt → c ≡ Ok tt
  unfolding start_as
  ready_by (Ok tt) e = refl
  ready_by (Err cause) e = let z : ◌≡◌ {A = ℕ} 0 1 = cc in absurd (omega arith)

  -- the words of the uninitialised latches are those that the formula gives
  pub start_computed : WordsOfStart net latches t
  unfolding start_of
  start_computed =
      record {
        lanes = free_word_lem;
        free = words-free;
        clears = λ e. sym (ap (λ (x : StartEnd). x.answer.tally) (start_is e));
        kept = kept_as (start_check net (length latches));
        surplus = λ e.
            ap (λ (x : StartEnd). drop (latch_count net) x.latches) (sym (start_is (ready_by (start_check net (length latches)) e)))
            ∙ drop_at (start_words net (latch_count net)) (drop (latch_count net) latches) (latch_count net) (length-starts net (latch_count net));
        passed = ready_by (start_check net (length latches));
        tests = start_tested _ _ net (length latches)
            (λ e. sym (ap (λ (x : StartEnd). x.answer.outcome) (start_is e)))
            (λ cause e. (sym (ap (λ (x : StartEnd). x.answer.outcome) (start-refused _ cause refl e)), refl));
      }
    where
      words-free : start_check net (length latches) ≡ Ok tt → (k : ℕ) → k < latch_count net → is_free net k ≡ true
          → (free_count net k < 6) × (get_or (start_of net latches t).latches k 0 ≡ free_word (free_count net k))
      words-free e k l f =
          let b = free-below net (outline_of net (start-passed net (length latches) _ refl e).netlist) k l f in
          (b, word-starts e k l ∙ word_same (start_bit net k) (λ n. lane (free_count net k) n) (λ n h. bit-free net k n f) ∙ sym (free_word_lem (free_count net k) b))
