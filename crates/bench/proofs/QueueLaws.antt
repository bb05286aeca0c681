-- Laws of the loops over a queue. Assumes nothing.
use mathlib.Core.Path.{◌≡◌, sym, ap, ◌∙◌}
use mathlib.Core.Bool.{Bool, true, false, ◌&&◌}
use mathlib.Core.List.{List, ◌++◌}
use Prim.Native.Nat.{ℕ, suc, ◌+◌, ◌-◌, ◌*◌, ◌<◌, ◌≤◌}
use native.Mathlib.Omega.{arith}
use Rattle.std.specs.List.{copy_within}
use native.Mathlib.Nat.{zero-add}
use lib.ListN.{length, take, drop}
use lib.Seq.{drop-drop}
use Rattle.trace.specs.Traces.{is_cycle}
use Rattle.bench_turns.specs.Parts.{cycles_in, are_cycles, placed, shifted}

-- ---- a new cycle is copied
pub placed-is : (n : ℕ) (c q p : List ℕ) → p ≡ c → take (64 * n) q ++ (p ++ drop (64 * n + length c - 64 * n) (drop (64 * n) q)) ≡ placed n c q
unfolding placed
placed-is n c q p e =
    let l : 64 * n + length c - 64 * n ≡ length c = omega arith in
    rw (e, l, drop-drop (length c) (64 * n) q)

-- ---- bytes move one slot forward
pub shifted-is : (n : ℕ) (q p : List ℕ) → p ≡ copy_within q 64 (64 + 64 * n) 0 → p ≡ shifted n q
unfolding shifted
shifted-is n q p e =
    let l : 64 + 64 * n - 64 ≡ 64 * n = omega arith in
    e ∙ rw (l, zero-add)

-- ---- the waiting cycles, one after another
-- those from slot j on
unfoldable pub are_from : ℕ → ℕ → ℕ → List ℕ → Bool
are_from i j n q = are_cycles i (cycles_in i (n - j) (drop (64 * j) q))

pub from_first : (i n : ℕ) (q : List ℕ) → are_from i 0 n q ≡ are_cycles i (cycles_in i n q)
unfolding are_from
from_first i n q = ap (λ (z : ℕ). are_cycles i (cycles_in i z q)) (omega arith)

module _ (i j n : ℕ) (q : List ℕ) where
  pub from_last : n ≤ j → are_from i j n q ≡ true
  unfolding are_from cycles_in are_cycles
  from_last h = let e : n - j ≡ 0 = omega arith in rw e

  from_more : j < n → are_from i j n q ≡ (is_cycle i (take i (drop (64 * j) q)) && are_from i (j + 1) n q)
  unfolding are_from cycles_in are_cycles
  from_more h =
      let e : n - j ≡ suc (n - (j + 1)) = omega arith in
      let d : 64 * j + 64 ≡ 64 * (j + 1) = omega arith in
      ap (λ (z : ℕ). are_cycles i (cycles_in i z (drop (64 * j) q))) e
      ∙ ap (λ (z : List ℕ). is_cycle i (take i (drop (64 * j) q)) && are_cycles i (cycles_in i (n - (j + 1)) z)) (drop-drop 64 (64 * j) q ∙ ap (λ (z : ℕ). drop z q) d)

  -- the bytes that the code looks at
  slot : (64 * j + i) - 64 * j ≡ i
  slot = omega arith

  abbrev seen : List ℕ
  seen = take ((64 * j + i) - 64 * j) (drop (64 * j) q)

  pub from_wrong : j < n → is_cycle i seen ≡ false → are_from i j n q ≡ false
  from_wrong h e = from_more h ∙ ap (λ (z : Bool). z && are_from i (j + 1) n q) (ap (λ (z : ℕ). is_cycle i (take z (drop (64 * j) q))) (sym slot) ∙ e)

  pub from-right : j < n → is_cycle i seen ≡ true → are_from i j n q ≡ are_from i (j + 1) n q
  from-right h e = from_more h ∙ ap (λ (z : Bool). z && are_from i (j + 1) n q) (ap (λ (z : ℕ). is_cycle i (take z (drop (64 * j) q))) (sym slot) ∙ e)
