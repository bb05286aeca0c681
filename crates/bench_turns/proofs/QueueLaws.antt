-- Laws of the slots: a new cycle waits behind the others, and the oldest goes first. Assumes nothing.
use mathlib.Core.Path.{◌≡◌, refl, sym, ap, ap₂, ◌∙◌}
use mathlib.Core.Bool.{true}
use mathlib.Core.List.{List, [], ◌∷◌, ◌++◌}
use Prim.Native.Nat.{ℕ, zero, suc, ◌+◌, ◌*◌, ◌≤◌}
use native.Mathlib.Omega.{arith}
use native.Mathlib.Numerals.{add-one}
use lib.ListN.{length, take, drop, length-append, length-drop, take-append-drop}
use lib.Seq.{take_at, drop_at, take-append-le, drop-append-le, drop-drop, length-take-le}
use Rattle.assertion.specs.Graph.{Cycle}
use Rattle.netlist.proofs.EachLaws.{both}
use Rattle.trace.specs.Traces.{is_cycle}
use Rattle.bench_turns.specs.Parts.{cycles_in, are_cycles, placed, shifted}

-- ---- the cycles of n slots are those of the bytes of n slots
cycles-front : (i n : ℕ) (q r : List ℕ) → i ≤ 64 → 64 * n ≤ length q → cycles_in i n (q ++ r) ≡ cycles_in i n q
unfolding cycles_in
cycles-front i zero q r few l = refl
cycles-front i (suc n) q r few l =
    ap₂ ◌∷◌ (take-append-le i q r (omega arith))
    (ap (cycles_in i n) (drop-append-le 64 q r (omega arith)) ∙ cycles-front i n (drop 64 q) r few (rw (length-drop 64 q) (omega arith)))

pub cycles-take : (i n : ℕ) (q r : List ℕ) → i ≤ 64 → 64 * n ≤ length q → cycles_in i n (take (64 * n) q ++ r) ≡ cycles_in i n q
cycles-take i n q r few l =
    let e : 64 * n ≤ length (take (64 * n) q) = rw (length-take-le (64 * n) q l) (omega arith) in
    cycles-front i n (take (64 * n) q) r few e
    ∙ sym (cycles-front i n (take (64 * n) q) (drop (64 * n) q) few e)
    ∙ ap (cycles_in i n) (take-append-drop (64 * n) q)

-- one slot more, at the end
cycles-more : (i n : ℕ) (q : List ℕ) → cycles_in i (suc n) q ≡ cycles_in i n q ++ (take i (drop (64 * n) q) ∷ [])
unfolding cycles_in
cycles-more i zero q = refl
cycles-more i (suc n) q =
    let e : 64 + 64 * n ≡ 64 * suc n = omega arith in
    ap (◌∷◌ (take i q)) (cycles-more i n (drop 64 q) ∙ ap (λ (z : List ℕ). cycles_in i n (drop 64 q) ++ (take i z ∷ [])) (drop-drop (64 * n) 64 q ∙ ap (λ (m : ℕ). drop m q) e))

-- ---- a new cycle
module _ (i n : ℕ) (c : Cycle) (q : List ℕ) (few : i ≤ 64) (whole : length c ≡ i) (slot : 64 * (n + 1) ≤ length q) where
  pub placed-cycles : cycles_in i (n + 1) (placed n c q) ≡ cycles_in i n q ++ (c ∷ [])
  unfolding placed
  placed-cycles =
      let l : 64 * n ≤ length q = omega arith in
      let r = c ++ drop (64 * n + length c) q in
      rw (add-one n) (cycles-more i n (take (64 * n) q ++ r))
      ∙ ap₂ (λ (a : List Cycle) (b : Cycle). a ++ (b ∷ [])) (cycles-take i n q r few l)
      (ap (take i) (drop_at (take (64 * n) q) r (64 * n) (length-take-le (64 * n) q l)) ∙ take_at c (drop (64 * n + length c) q) i whole)

  pub placed-length : length (placed n c q) ≡ length q
  unfolding placed
  placed-length =
      let l : 64 * n ≤ length q = omega arith in
      rw (length-append, length-append c, length-take-le (64 * n) q l, length-drop) (omega arith)

-- ---- the oldest goes
module _ (i n : ℕ) (q : List ℕ) (few : i ≤ 64) (slots : 64 * suc n ≤ length q) where
  pub shifted-cycles : cycles_in i (suc n) q ≡ take i q ∷ cycles_in i n (shifted n q)
  unfolding shifted cycles_in
  shifted-cycles = ap (◌∷◌ (take i q)) (sym (cycles-take i n (drop 64 q) (drop (64 * n) q) few (rw (length-drop 64 q) (omega arith))))

  pub shifted-length : length (shifted n q) ≡ length q
  unfolding shifted
  shifted-length =
      let l : 64 * n ≤ length (drop 64 q) = rw (length-drop 64 q) (omega arith) in
      rw (length-append, length-take-le (64 * n) (drop 64 q) l, length-drop) (omega arith)

-- ---- the test of the cycles
pub are-more : (i : ℕ) (cs : List Cycle) (c : Cycle) → are_cycles i cs ≡ true → is_cycle i c ≡ true → are_cycles i (cs ++ (c ∷ [])) ≡ true
unfolding are_cycles
are-more i [] c h e = rw e
are-more i (d ∷ cs) c h e =
    let b = both (is_cycle i d) (are_cycles i cs) h in
    rw b.0 (are-more i cs c b.1 e)

pub are-first : (i : ℕ) (c : Cycle) (cs : List Cycle) → are_cycles i (c ∷ cs) ≡ true → (is_cycle i c ≡ true) × (are_cycles i cs ≡ true)
unfolding are_cycles
are-first i c cs h = both (is_cycle i c) (are_cycles i cs) h
