-- A byte run that is read stands there, and one that stands there is read. Assumes nothing.
use mathlib.Core.Path.{◌≡◌, refl, sym, ap, ◌∙◌}
use mathlib.Core.Bool.{Bool, true, false, true≢false}
use mathlib.Core.List.{List, [], ◌∷◌}
use Prim.Native.Nat.{ℕ, zero, suc, ◌+◌, ◌-◌, ◌*◌, ◌/◌, ◌%◌, ◌≤◌, ◌<◌}
use native.Mathlib.Nat.{add-zero}
use native.Mathlib.Numerals.{add-one}
use native.Mathlib.Omega.{arith}
use native.Mathlib.Decide.{dec_lt}
use lib.ListN.{length, get_or, drop}
use lib.Seq.{drop-cons, get_or-drop}
use Rattle.packed.specs.Runs.{run}
use Rattle.packed.proofs.RunLaws.{run_small, run_more}
use Rattle.aiger_lines.proofs.PlaceLaws.{At, at_join, at_split}
use Rattle.packed_read.specs.Runs.{Run, took, broken, last, more, bytes_at, run_at}
use Rattle.packed_read.specs.Private.Steps.{top}
use Rattle.packed_read.proofs.ByteLaws.{bytes_end, bytes-last, bytes_over, bytes-more, last-only, last_none, last_some, tops}

-- each number is a byte, and each from p on
abbrev pub EachByte : List ℕ → Type 0
EachByte s = (k : ℕ) → get_or s k 0 < 256

abbrev pub BytesFrom : List ℕ → ℕ → Type 0
BytesFrom s p = (k : ℕ) → p ≤ k → get_or s k 0 < 256

-- ---- a byte that stands at a place

module _ (s : List ℕ) (p : ℕ) where
  byte-stands : p < length s → At s p (get_or s p 0 ∷ []) (p + 1)
  byte-stands h = record { text = drop-cons s p 0 h ∙ rw (add-one p); place = refl; inside = omega arith }

  byte_inside : (b q : ℕ) → At s p (b ∷ []) q → (p < length s) × (get_or s p 0 ≡ b) × (q ≡ p + 1)
  byte_inside b q a =
      let e : get_or (drop p s) 0 0 ≡ b = ap (λ (l : List ℕ). get_or l 0 0) a.text in
      (omega (arith, a.place, a.inside), rw (get_or-drop p s 0 0, add-zero p) at e, a.place)

-- ---- SOUND

broken-took : {v q : ℕ} → broken ≡ took v q → ⊥
broken-took h = let z : ◌≡◌ {A = ℕ} 0 1 = cc in omega arith

-- a run that was read stands there, and after a first byte its number is not 0
record Told (k : ℕ) (first : Bool) (s : List ℕ) (p v q : ℕ) : Type 0 where
  at : At s p (run v) q
  some : first ≡ false → 1 ≤ v
  small : v < top k

-- the run of a number of more than seven bits
large : (b v : ℕ) → 128 ≤ b → b < 256 → 1 ≤ v → run ((b - 128) + 128 * v) ≡ b ∷ run v
large b v l u h =
    let n = (b - 128) + 128 * v in
    let q : n / 128 ≡ v = omega arith in
    let r : 128 + n % 128 ≡ b = omega arith in
    run_more n (omega arith) ∙ rw (q, r)

module _ (first : Bool) (s : List ℕ) (p v q : ℕ) (inside : p < length s) where
  one_told : (k : ℕ) → get_or s p 0 < 128 → took (get_or s p 0) (p + 1) ≡ took v q → (first ≡ false → 1 ≤ get_or s p 0) → Told k first s p v q
  one_told k h e o =
      let b : get_or s p 0 ≡ v = cc in
      let r : p + 1 ≡ q = cc in
      record {
        at = rw (← b, ← r, run_small (get_or s p 0) h) (byte-stands s p inside);
        some = λ f. rw (← b) (o f);
        small = omega (arith, tops k);
      }

  last-told : (k : ℕ) (f : Bool) → first ≡ f → get_or s p 0 < 128 → last f (get_or s p 0) (p + 1) ≡ took v q → Told k first s p v q
  last-told k true i h e = one_told k h (last-only (get_or s p 0) (p + 1) ∙ e) (λ f. absurd (true≢false (sym i ∙ f)))
  last-told k false i h e = go (get_or s p 0) refl
    where
      go : (b : ℕ) → get_or s p 0 ≡ b → Told k first s p v q
      go zero z = absurd (broken-took (last_none (get_or s p 0) (p + 1) z ∙ e))
      go (suc b) z = one_told k h (last_some (get_or s p 0) (p + 1) (λ y. omega arith) ∙ e) (λ f. omega arith)

  more-told : (k : ℕ) (x : Run) → 128 ≤ get_or s p 0 → get_or s p 0 < 256 → ((w r : ℕ) → x ≡ took w r → Told k false s (p + 1) w r) → more (get_or s p 0) x ≡ took v q → Told (suc k) first s p v q
  unfolding more
  more-told k broken l u ih e = absurd (broken-took e)
  more-told k (took w r) l u ih e =
      let t = ih w r refl in
      let some = t.some refl in
      let n : (get_or s p 0 - 128) + 128 * w ≡ v = cc in
      let z : r ≡ q = cc in
      record {
        at = rw (← n, ← z, large (get_or s p 0) w l u some) (at_join (byte-stands s p inside) t.at);
        some = λ f. omega arith;
        small = omega (arith, t.small);
      }

-- by the byte at p, where there is one; `on` tells of one that more follow
by_byte : (k : ℕ) (first : Bool) (s : List ℕ) (p v q : ℕ) → (p < length s → 128 ≤ get_or s p 0 → Told k first s p v q) → bytes_at k first s p ≡ took v q → Told k first s p v q
by_byte k first s p v q on e =
    elim (dec_lt p (length s)) [
      | yes l ↦ elim (dec_lt (get_or s p 0) 128) [
        | yes h ↦ last-told first s p v q l k first refl h (sym (bytes-last first s p l k h) ∙ e)
        | no h ↦ on l (omega arith)
      ]
      | no l ↦ absurd (broken-took (sym (bytes_end first s p k (omega arith)) ∙ e))
    ]

told : (k : ℕ) (first : Bool) (s : List ℕ) (p v q : ℕ) → BytesFrom s p → bytes_at k first s p ≡ took v q → Told k first s p v q
told zero first s p v q bytes e = by_byte zero first s p v q (λ l h. absurd (broken-took (sym (bytes_over first s p l h) ∙ e))) e
told (suc k) first s p v q bytes e =
    by_byte (suc k) first s p v q
    (λ l h.
    more-told first s p v q l k (bytes_at k false s (p + 1)) h (bytes p (omega arith))
    (λ w r. told k false s (p + 1) w r (λ i m. bytes i (omega arith))) (sym (bytes-more first s p l k h) ∙ e))
    e

pub run_sound : (s : List ℕ) (p v q : ℕ) → BytesFrom s p → run_at s p ≡ took v q → At s p (run v) q × (v < 2097152)
unfolding run_at
run_sound s p v q bytes e =
    let t = told 2 true s p v q bytes e in
    (t.at, t.small)

-- ---- COMPLETE

last_taken : (first : Bool) (b q : ℕ) → (first ≡ false → 1 ≤ b) → last first b q ≡ took b q
last_taken true b q o = sym (last-only b q)
last_taken false b q o = sym (last_some b q (λ z. absurd (let h = o refl in omega arith)))

module _ (first : Bool) (s : List ℕ) (p n q : ℕ) (o : first ≡ false → 1 ≤ n) where
  taken-one : (k : ℕ) → n < 128 → At s p (run n) q → bytes_at k first s p ≡ took n q
  taken-one k h a =
      let b = byte_inside s p n q (rw (run_small n h) at a) in
      bytes-last first s p b.0 k (omega (arith, b.1)) ∙ rw (b.1, b.2) (last_taken first n (p + 1) o)

  taken_more : (k : ℕ) → 128 ≤ n → At s p (run n) q → (At s (p + 1) (run (n / 128)) q → bytes_at k false s (p + 1) ≡ took (n / 128) q) → bytes_at (suc k) first s p ≡ took n q
  unfolding more
  taken_more k h a ih =
      let w = at_split ((128 + n % 128) ∷ []) (run (n / 128)) (rw (run_more n h) at a) in
      let b = byte_inside s p (128 + n % 128) (p + 1) w.0 in
      let v : (128 + n % 128 - 128) + 128 * (n / 128) ≡ n = omega arith in
      bytes-more first s p b.0 k (omega (arith, b.1)) ∙ rw (b.1, ih w.1, v)

taken : (k : ℕ) (first : Bool) (s : List ℕ) (p n q : ℕ) → At s p (run n) q → n < top k → (first ≡ false → 1 ≤ n) → bytes_at k first s p ≡ took n q
taken zero first s p n q a h o = taken-one first s p n q o zero h a
taken (suc k) first s p n q a h o =
    elim (dec_lt n 128) [
      | yes l ↦ taken-one first s p n q o (suc k) l a
      | no l ↦ taken_more first s p n q o k (omega arith) a (λ b. taken k false s (p + 1) (n / 128) q b (omega arith) (λ f. omega arith))
    ]

pub run_complete : (s : List ℕ) (p v q : ℕ) → At s p (run v) q → v < 2097152 → run_at s p ≡ took v q
unfolding run_at
run_complete s p v q a h = taken 2 true s p v q a h (λ f. absurd (true≢false f))

-- so where none stands, none is read
pub run_none : (s : List ℕ) (p : ℕ) → BytesFrom s p → ((v q : ℕ) → v < 2097152 → At s p (run v) q → ⊥) → run_at s p ≡ broken
run_none s p bytes none = go (run_at s p) refl
  where
    go : (x : Run) → run_at s p ≡ x → x ≡ broken
    go broken e = refl
    go (took v q) e = let t = run_sound s p v q bytes e in absurd (none v q t.1 t.0)
