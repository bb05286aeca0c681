-- Where a cycle's line stands in its trace. Assumes nothing.
use mathlib.Core.Path.{◌≡◌, refl, sym, ap, ◌∙◌}
use mathlib.Core.Bool.{true}
use mathlib.Core.List.{List, [], ◌∷◌, ◌++◌, append_assoc}
use Prim.Native.Nat.{ℕ, zero, suc, ◌+◌, ◌*◌, ◌<◌, ◌≤◌}
use native.Mathlib.Nat.{suc-mul, mul-le-mul_right}
use native.Mathlib.Omega.{arith}
use lib.ListN.{length, get_or, take, drop}
use lib.Seq.{length-take-le, split_at, take_at, drop_at}
use Rattle.trace.specs.Traces.{is_cycle}
use Rattle.trace.specs.Claims.{Cycles, lines_of}
use Rattle.trace.proofs.TraceLaws.{cycle-length}
use Rattle.trace.proofs.LineLaws.{lines-length}
use Rattle.first_broken.specs.Claims.{IsTrace, LineAt}

lines-append : (cs ds : List (List ℕ)) → lines_of (cs ++ ds) ≡ lines_of cs ++ lines_of ds
unfolding lines_of
lines-append [] ds = refl
lines-append (c ∷ cs) ds = ap (λ (s : List ℕ). c ++ (10 ∷ s)) (lines-append cs ds) ∙ sym (append_assoc c (10 ∷ lines_of cs) (lines_of ds))

module _ (width : ℕ) where
  cycles-take : (n : ℕ) (cs : List (List ℕ)) → Cycles width cs → Cycles width (take n cs)
  unfolding Cycles
  cycles-take zero cs h = tt
  cycles-take (suc n) [] h = tt
  cycles-take (suc n) (c ∷ cs) h = (h.0, cycles-take n cs h.1)

  cycle_of_lem : (n : ℕ) (cs : List (List ℕ)) → Cycles width cs → n < length cs → is_cycle width (get_or cs n []) ≡ true
  unfolding Cycles
  cycle_of_lem n [] h l = absurd (omega arith)
  cycle_of_lem zero (c ∷ cs) h l = h.0
  cycle_of_lem (suc n) (c ∷ cs) h l = cycle_of_lem n cs h.1 (omega arith)

  module _ (trace : List ℕ) (cs : List (List ℕ)) (is : IsTrace width trace cs) (n : ℕ) (l : n < length cs) where
    before-length : length (lines_of (take n cs)) ≡ n * (width + 1)
    before-length = lines-length width (take n cs) (cycles-take n cs is.right) ∙ ap (λ (k : ℕ). k * (width + 1)) (length-take-le n cs (omega arith))

    -- cycle n is the bytes at its place
    pub line-bytes : take width (drop (n * (width + 1)) trace) ≡ get_or cs n []
    unfolding lines_of
    line-bytes =
        let c = get_or cs n [] in
        let after = drop (suc n) cs in
        let apart : trace ≡ lines_of (take n cs) ++ (c ++ (10 ∷ lines_of after)) = is.lines ∙ ap lines_of (split_at cs n [] l) ∙ lines-append (take n cs) (c ∷ after) in
        let there = drop_at (lines_of (take n cs)) (c ++ (10 ∷ lines_of after)) (n * (width + 1)) before-length in
        ap (λ (s : List ℕ). take width (drop (n * (width + 1)) s)) apart ∙ ap (take width) there ∙ take_at c (10 ∷ lines_of after) width (cycle-length width c (cycle_of_lem n cs is.right l))

    pub line_at : LineAt width n trace (n * (width + 1)) (take width (drop (n * (width + 1)) trace))
    line_at =
        record {
          before = take n cs;
          after = drop (suc n) cs;
          whole = rw (line-bytes, ← split_at cs n [] l) is;
          count = length-take-le n cs (omega arith);
          place = before-length;
        }

    -- it ends before the trace does
    pub line-within : n * (width + 1) + width ≤ length trace
    line-within =
        let k : suc n * (width + 1) ≤ length cs * (width + 1) = mul-le-mul_right (width + 1) l in
        let s = suc-mul n (width + 1) in
        let m = ap length is.lines ∙ lines-length width cs is.right in
        omega arith
