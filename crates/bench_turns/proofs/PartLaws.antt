-- Laws of the parts of a buffer: a part that is written is read back, and no other changes. Assumes nothing.
use mathlib.Core.Path.{◌≡◌, refl, sym, ap, ap₂, ◌∙◌}
use mathlib.Core.List.{List, ◌++◌, append_assoc}
use Prim.Native.Nat.{ℕ, ◌+◌, ◌-◌, ◌*◌, ◌/◌, ◌<◌, ◌≤◌}
use mathlib.Core.Bool.{Bool, true, false}
use native.Mathlib.Omega.{arith}
use native.Mathlib.Nat.{suc-mul, mul-le-mul_right}
use lib.Dec.{ltb}
use borrow.Author.Tests.{ltb-true, ltb-false}
use lib.ListN.{length, take, drop, length-append, length-drop, take-append-drop}
use lib.Seq.{take_at, drop_at, take-append-le, drop-append-le, drop-drop, length-take-le}
use Rattle.bench_turns.specs.Parts.{width, part_of, with_part}

-- ---- w elements from `at` on
front : (w at : ℕ) (xs r : List ℕ) → at + w ≤ length xs → take w (drop at (xs ++ r)) ≡ take w (drop at xs)
front w at xs r h =
    ap (take w) (drop-append-le at xs r (omega arith))
    ∙ take-append-le w (drop at xs) r (rw (length-drop at xs) (omega arith))

pub before : (w at b : ℕ) (xs r : List ℕ) → b + w ≤ at → at ≤ length xs → take w (drop b (take at xs ++ r)) ≡ take w (drop b xs)
before w at b xs r h l =
    let n : b + w ≤ length (take at xs) = rw (length-take-le at xs l) h in
    front w b (take at xs) r n ∙ sym (front w b (take at xs) (drop at xs) n) ∙ ap (λ (z : List ℕ). take w (drop b z)) (take-append-drop at xs)

pub at_it : (w at : ℕ) (p xs r : List ℕ) → at ≤ length xs → length p ≡ w → take w (drop at (take at xs ++ (p ++ r))) ≡ p
at_it w at p xs r l e = ap (take w) (drop_at (take at xs) (p ++ r) at (length-take-le at xs l)) ∙ take_at p r w e

pub behind : (w at b : ℕ) (p xs : List ℕ) → at + w ≤ b → at + w ≤ length xs → length p ≡ w
    → drop b (take at xs ++ (p ++ drop (at + w) xs)) ≡ drop b xs
behind w at b p xs h l e =
    let z = take at xs ++ (p ++ drop (at + w) xs) in
    let s : (at + w) + (b - (at + w)) ≡ b = omega arith in
    let split : (ys : List ℕ) → drop b ys ≡ drop (b - (at + w)) (drop (at + w) ys) = λ ys. ap (λ (n : ℕ). drop n ys) (sym s) ∙ sym (drop-drop (b - (at + w)) (at + w) ys) in
    let n : length (take at xs ++ p) ≡ at + w = length-append (take at xs) p ∙ ap₂ ◌+◌ (length-take-le at xs (omega arith)) e in
    split z
    ∙ ap (λ (ys : List ℕ). drop (b - (at + w)) ys) (ap (drop (at + w)) (sym (append_assoc (take at xs) p (drop (at + w) xs))) ∙ drop_at (take at xs ++ p) (drop (at + w) xs) (at + w) n)
    ∙ sym (split xs)

-- ---- parts
pub under : (k n w : ℕ) → k < n → k * w + w ≤ n * w
under k n w h = rw (← suc-mul k w) (mul-le-mul_right w h)

pub fits : {A : Type 0} (k : ℕ) (xs : List A) → k < 8 → k * width xs + width xs ≤ length xs
fits k xs h = omega (arith, under k 8 (width xs) h)

pub length_with : (k : ℕ) (p xs : List ℕ) → k < 8 → length p ≡ width xs → length (with_part k p xs) ≡ length xs
unfolding with_part
length_with k p xs h e =
    let f = fits k xs h in
    let l : k * width xs ≤ length xs = omega arith in
    rw (length-append, length-append p, length-take-le (k * width xs) xs l, length-drop) (omega arith)

pub length_part : (k : ℕ) (xs : List ℕ) → k < 8 → length (part_of k xs) ≡ width xs
unfolding part_of
length_part k xs h =
    let f = fits k xs h in
    length-take-le (width xs) (drop (k * width xs) xs) (rw length-drop (omega arith))

part_as : (k : ℕ) (ys xs : List ℕ) → length ys ≡ length xs → part_of k ys ≡ take (width xs) (drop (k * width xs) ys)
unfolding part_of
part_as k ys xs e = ap (λ (n : ℕ). take (n / 8) (drop (k * (n / 8)) ys)) e

pub part_same : (k : ℕ) (p xs : List ℕ) → k < 8 → length p ≡ width xs → part_of k (with_part k p xs) ≡ p
unfolding with_part
part_same k p xs h e =
    let f = fits k xs h in
    part_as k (with_part k p xs) xs (length_with k p xs h e)
    ∙ at_it (width xs) (k * width xs) p xs (drop (k * width xs + width xs) xs) (omega arith) e

pub part-other : (j k : ℕ) (p xs : List ℕ) → j < 8 → k < 8 → (j ≡ k → ⊥) → length p ≡ width xs → part_of j (with_part k p xs) ≡ part_of j xs
unfolding with_part part_of
part-other j k p xs hj h ne e = part_as j (with_part k p xs) xs (length_with k p xs h e) ∙ go (ltb j k) refl
  where
    go : (t : Bool) → ltb j k ≡ t → take (width xs) (drop (j * width xs) (take (k * width xs) xs ++ (p ++ drop (k * width xs + width xs) xs))) ≡ part_of j xs
    go true l =
        let f = fits k xs h in
        let u = under j k (width xs) (ltb-true j k l) in
        before (width xs) (k * width xs) (j * width xs) xs (p ++ drop (k * width xs + width xs) xs) u (omega arith)
    go false l =
        let n : k < j = let m = ltb-false j k l in omega (arith, ne) in
        ap (take (width xs)) (behind (width xs) (k * width xs) (j * width xs) p xs (under k j (width xs) n) (fits k xs h) e)

-- nor does the rest
pub part-rest : (k : ℕ) (p xs : List ℕ) → k < 8 → length p ≡ width xs → drop (8 * width (with_part k p xs)) (with_part k p xs) ≡ drop (8 * width xs) xs
unfolding with_part
part-rest k p xs h e =
    ap (λ (n : ℕ). drop (8 * (n / 8)) (with_part k p xs)) (length_with k p xs h e)
    ∙ behind (width xs) (k * width xs) (8 * width xs) p xs (under k 8 (width xs) h) (fits k xs h) e
