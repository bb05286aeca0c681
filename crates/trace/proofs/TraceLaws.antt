-- Laws of a trace: the first wrong line, byte by byte; how many lines and cycles there are. Assumes nothing.
use mathlib.Core.Path.{◌≡◌, refl, ap}
use mathlib.Core.Bool.{Bool, true, false, cond}
use mathlib.Core.List.{List, [], ◌∷◌}
use Prim.Native.Nat.{ℕ, zero, suc, ◌+◌, ◌*◌, ◌<◌, ◌≤◌}
use native.Mathlib.Nat.{div-mul-le_self}
use native.Mathlib.Numerals.{add-one}
use native.Mathlib.Omega.{arith}
use lib.Dec.{eqb}
use lib.ListN.{length, get_or, drop, drop_of_length-le}
use lib.Seq.{drop-cons}
use borrow.Author.Tests.{eqb-true, eq-eqb, ne_eqb}
use Rattle.netlist.specs.Lanes.{each}
use Rattle.netlist.proofs.EachLaws.{both}
use Rattle.trace.specs.Traces.{is_bit, is_cycle, fits_line, fault_from, fault_of, line_count, cycles_from, cycles_of}

-- ---- the first wrong line
module _ (n line col i : ℕ) (s : List ℕ) where
  pub fault-none : length s ≤ i → col ≡ 0 → fault_from n line col (drop i s) ≡ 0
  unfolding fault_from
  fault-none h e = rw (drop_of_length-le s h, eq-eqb col 0 e)

  pub fault-last : length s ≤ i → (col ≡ 0 → ⊥) → fault_from n line col (drop i s) ≡ line
  unfolding fault_from
  fault-last h e = rw (drop_of_length-le s h, ne_eqb col 0 e)

  module _ (h : i < length s) where
    pub fault-here : fits_line n col (get_or s i 0) ≡ false → fault_from n line col (drop i s) ≡ line
    unfolding fault_from
    fault-here f = rw (drop-cons s i 0 h, f)

    pub fault-line : fits_line n col (get_or s i 0) ≡ true → col ≡ n → fault_from n line col (drop i s) ≡ fault_from n (line + 1) 0 (drop (i + 1) s)
    unfolding fault_from
    fault-line f e = rw (add-one i, drop-cons s i 0 h, f, eq-eqb col n e)

    pub fault_col : fits_line n col (get_or s i 0) ≡ true → (col ≡ n → ⊥) → fault_from n line col (drop i s) ≡ fault_from n line (col + 1) (drop (i + 1) s)
    unfolding fault_from
    fault_col f e = rw (add-one i, drop-cons s i 0 h, f, ne_eqb col n e)

at_most : (b : Bool) (x y k : ℕ) → x ≤ k → y ≤ k → cond b x y ≤ k
at_most true x y k h i = h
at_most false x y k h i = i

-- no line past one for each byte, and one more
pub fault-within : (n line col : ℕ) (s : List ℕ) → fault_from n line col s ≤ line + length s
unfolding fault_from
fault-within n line col [] = at_most (eqb col 0) 0 line (line + 0) (omega arith) (omega arith)
fault-within n line col (b ∷ s) =
    let h = fault-within n (cond (eqb col n) (line + 1) line) (cond (eqb col n) 0 (col + 1)) s in
    let k = at_most (eqb col n) (line + 1) line (line + 1) (omega arith) (omega arith) in
    at_most (fits_line n col b) _ line (line + suc (length s)) (omega arith) (omega arith)

pub fault-bound : (n : ℕ) (s : List ℕ) → fault_of n s ≤ 1 + length s
unfolding fault_of
fault-bound n s = fault-within n 1 0 s

-- ---- cycles
-- a cycle has a byte for each input
pub cycle-length : (n : ℕ) (c : List ℕ) → is_cycle n c ≡ true → length c ≡ n
unfolding is_cycle
cycle-length n c e = eqb-true (length c) n (both (eqb (length c) n) (each (length c) (λ k. is_bit (get_or c k 0))) e).0

-- the lines that are counted are all there
pub lines_fit : (n : ℕ) (trace : List ℕ) → line_count n trace * (n + 1) ≤ length trace
unfolding line_count
lines_fit n trace = div-mul-le_self (length trace) (n + 1)

length_from : (n k : ℕ) (s : List ℕ) → length (cycles_from n k s) ≡ k
unfolding cycles_from
length_from n zero s = refl
length_from n (suc k) s = ap suc (length_from n k (drop (n + 1) s))

-- there is one cycle for each line
pub length-cycles : (n : ℕ) (trace : List ℕ) → length (cycles_of n trace) ≡ line_count n trace
unfolding cycles_of
length-cycles n trace = length_from n (line_count n trace) trace
