-- What is claimed of a page leaves nothing open: there is one list of rejected cycles, and one page that has these, a
-- graph name and verdict bytes in its columns. Assumes nothing.
use mathlib.Core.Path.{◌≡◌, refl, sym, ap, ap₂, subst, ◌∙◌}
use mathlib.Core.List.{List, [], ◌∷◌, ◌++◌}
use Prim.Native.Nat.{ℕ, zero, suc, ◌+◌, ◌-◌, ◌*◌, ◌/◌, ◌%◌, ◌<◌, ◌≤◌}
use native.Mathlib.Nat.{mul-le-mul_right, suc-mul}
use native.Mathlib.Omega.{arith}
use native.Mathlib.Decide.{dec_lt}
use lib.ListN.{length, get_or, take, drop, replicate, length-append, length-replicate, length-drop, take-append-drop}
use lib.Seq.{take-add, drop-drop, ext_get_or}
use Rattle.text.specs.Numbers.{digits}
use Rattle.rate.specs.Claims.{Division}
use Rattle.session_text.specs.Claims.{Left, Right, Rejected, columns, LastLine, InColumns}
use Rattle.session_text.proofs.FieldLaws.{right-digits}

-- ---- the rejected cycles
module _ {v r s : List ℕ} (p : Rejected v r) (q : Rejected v s) where
  -- those of one list stand in the other, at places that rise
  at_other : (j : ℕ) → j < length r → (q.place (get_or r j 0 - 1) < length s) × (get_or s (q.place (get_or r j 0 - 1)) 0 ≡ get_or r j 0)
  at_other j h =
      let e = q.every (get_or r j 0 - 1) (p.judged j h) in
      (e.0, omega (arith, e.1, p.from_one j h))

rising-from : {v r : List ℕ} → Rejected v r → (i d : ℕ) → i + d < length r → get_or r i 0 + d ≤ get_or r (i + d) 0
rising-from {v} {r} p i zero h = let z : i + 0 ≡ i = omega arith in rw z (omega arith)
rising-from {v} {r} p i (suc d) h =
    let z : i + suc d ≡ suc (i + d) = omega arith in
    rw z (omega (arith, rising-from p i d (omega arith), p.rising (i + d) (omega arith)))

rising-apart : {v r : List ℕ} → Rejected v r → (i j : ℕ) → i < j → j < length r → get_or r i 0 < get_or r j 0
rising-apart {v} {r} p i j h l =
    let z : i + (j - i) ≡ j = omega arith in
    let e : get_or r i 0 + (j - i) ≤ get_or r j 0 = subst (λ (n : ℕ). get_or r i 0 + (j - i) ≤ get_or r n 0) z (rising-from p i (j - i) (omega arith)) in
    omega arith

-- place for place the first is at most the other
not-above : {v r s : List ℕ} (p : Rejected v r) (q : Rejected v s) (j : ℕ) → j < length s → (j < length r) × (get_or r j 0 ≤ get_or s j 0)
not-above {v} {r} {s} p q zero h =
    let e = at_other q p 0 h in
    let k = p.place (get_or s 0 0 - 1) in
    let inside : k < length r = e.0 in
    (omega arith, go (dec_lt 0 k))
  where
    go : Dec (0 < p.place (get_or s 0 0 - 1)) → get_or r 0 0 ≤ get_or s 0 0
    go (yes l) = omega (arith, at_other q p 0 h, rising-apart p 0 (p.place (get_or s 0 0 - 1)) l (at_other q p 0 h).0)
    go (no l) =
        let z : p.place (get_or s 0 0 - 1) ≡ 0 = omega (arith, l) in
        let e : get_or r 0 0 ≡ get_or s 0 0 = sym (ap (λ (n : ℕ). get_or r n 0) z) ∙ (at_other q p 0 h).1 in
        omega arith
not-above {v} {r} {s} p q (suc j) h = go (not-above p q j (omega arith)) (dec_lt j (p.place (get_or s (suc j) 0 - 1)))
  where
    k : ℕ
    k = p.place (get_or s (suc j) 0 - 1)

    here : (k < length r) × (get_or r k 0 ≡ get_or s (suc j) 0)
    here = at_other q p (suc j) h

    go : (j < length r) × (get_or r j 0 ≤ get_or s j 0) → Dec (j < k) → (suc j < length r) × (get_or r (suc j) 0 ≤ get_or s (suc j) 0)
    go ih (yes l) = (omega (arith, here.0), by (dec_lt (suc j) k))
      where
        by : Dec (suc j < k) → get_or r (suc j) 0 ≤ get_or s (suc j) 0
        by (yes m) = omega (arith, here.1, rising-apart p (suc j) k m here.0)
        by (no m) =
            let z : k ≡ suc j = omega (arith, l, m) in
            let e : get_or r (suc j) 0 ≡ get_or s (suc j) 0 = sym (ap (λ (n : ℕ). get_or r n 0) z) ∙ here.1 in
            omega arith
    go ih (no l) = absurd (by (dec_lt k j))
      where
        by : Dec (k < j) → ⊥
        by (yes m) = omega (arith, here.1, ih.1, q.rising j h, rising-apart p k j m ih.0)
        by (no m) =
            let z : k ≡ j = omega (arith, l, m) in
            let e : get_or r j 0 ≡ get_or s (suc j) 0 = sym (ap (λ (n : ℕ). get_or r n 0) z) ∙ here.1 in
            omega (arith, ih.1, q.rising j h)

longer : {v r s : List ℕ} → Rejected v r → Rejected v s → length s ≤ length r
longer {v} {r} {s} p q = go (length s) refl
  where
    go : (n : ℕ) → length s ≡ n → length s ≤ length r
    go zero e = omega arith
    go (suc n) e = omega (arith, (not-above p q n (omega arith)).0)

pub one_list : {v r s : List ℕ} → Rejected v r → Rejected v s → r ≡ s
one_list {v} {r} {s} p q =
    let a = longer p q in
    let b = longer q p in
    ext_get_or 0 r s (omega arith) (λ j h. let x = (not-above p q j (omega arith)).1 in let y = (not-above q p j h).1 in omega arith)

-- ---- fields
right-exact : {width n : ℕ} {s t : List ℕ} → Right width n s → Right width n t → s ≡ t
right-exact {width} {n} {s} {t} p q =
    let e : p.blanks ≡ q.blanks =
    omega (
      arith,
      ap length (right-digits p),
      ap length (right-digits q),
      p.wide,
      q.wide,
      length-append (replicate p.blanks 32) (digits n),
      length-append (replicate q.blanks 32) (digits n),
      length-replicate {A = ℕ} p.blanks 32,
      length-replicate {A = ℕ} q.blanks 32,
    ) in
    right-digits p ∙ ap (λ (i : ℕ). replicate i 32 ++ digits n) e ∙ sym (right-digits q)

left-exact : {width : ℕ} {text s t : List ℕ} → Left width text s → Left width text t → s ≡ t
left-exact {width} {text} {s} {t} p q =
    let e : p.blanks ≡ q.blanks =
    omega (
      arith,
      ap length p.filled,
      ap length q.filled,
      p.wide,
      q.wide,
      length-append text (replicate p.blanks 32),
      length-append text (replicate q.blanks 32),
      length-replicate {A = ℕ} p.blanks 32,
      length-replicate {A = ℕ} q.blanks 32,
    ) in
    p.filled ∙ ap (λ (i : ℕ). text ++ replicate i 32) e ∙ sym q.filled

-- whole part and remainder are one pair
division-exact : {cycles rejected w m w' m' : ℕ} → Division cycles rejected w m → Division cycles rejected w' m' → (w ≡ w') × (m ≡ m')
division-exact {cycles} {rejected} {w} {m} {w'} {m'} d e = go (dec_lt w w') (dec_lt w' w)
  where
    below : (a b : ℕ) → a < b → a * cycles + cycles ≤ b * cycles
    below a b h = omega (arith, mul-le-mul_right {m = suc a} {n = b} cycles (omega arith), suc-mul a cycles)

    go : Dec (w < w') → Dec (w' < w) → (w ≡ w') × (m ≡ m')
    go (yes h) b = absurd (omega (arith, below w w' h, d.equation, e.equation, d.below, e.below))
    go (no a) (yes h) = absurd (omega (arith, below w' w h, d.equation, e.equation, d.below, e.below))
    go (no a) (no b) =
        let z : w ≡ w' = omega (arith, a, b) in
        (z, omega (arith, d.equation, e.equation, ap (λ (n : ℕ). n * cycles) z))

-- ---- lines from their columns
columns-add : (page : List ℕ) (line from a b : ℕ) → columns page line from (a + b) ≡ columns page line from a ++ columns page line (from + a) b
columns-add page line from a b =
    let z : 81 * line + from + a ≡ 81 * line + (from + a) = omega arith in
    take-add a b (drop (81 * line + from) page)
    ∙ ap (λ (s : List ℕ). columns page line from a ++ take b s) (drop-drop a (81 * line + from) page ∙ ap (λ (n : ℕ). drop n page) z)

-- two pages with the same columns, and those after them, have the same of both
module _ (p q : List ℕ) (line : ℕ) where
  both : (from a b : ℕ) → columns p line from a ≡ columns q line from a → columns p line (from + a) b ≡ columns q line (from + a) b
      → columns p line from (a + b) ≡ columns q line from (a + b)
  both from a b e f = columns-add p line from a b ∙ ap₂ ◌++◌ e f ∙ sym (columns-add q line from a b)

pages_same : (n : ℕ) (p q : List ℕ) → length p ≡ 81 * n → length q ≡ 81 * n → ((i : ℕ) → i < n → columns p i 0 81 ≡ columns q i 0 81) → p ≡ q
pages_same zero [] [] a b h = refl
pages_same zero [] (y ∷ q) a b h = absurd (omega arith)
pages_same zero (x ∷ p) q a b h = absurd (omega arith)
pages_same (suc n) p q a b h =
    sym (take-append-drop 81 p)
    ∙ ap₂ ◌++◌ (h 0 (omega arith))
    (pages_same n (drop 81 p) (drop 81 q) (omega (arith, length-drop 81 p)) (omega (arith, length-drop 81 q)) (λ i l. next p i ∙ h (suc i) (omega arith) ∙ sym (next q i)))
    ∙ take-append-drop 81 q
  where
    next : (s : List ℕ) (i : ℕ) → columns (drop 81 s) i 0 81 ≡ columns s (suc i) 0 81
    next s i =
        let z : 81 + (81 * i + 0) ≡ 81 * suc i + 0 = omega arith in
        ap (take 81) (drop-drop (81 * i + 0) 81 s ∙ ap (λ (k : ℕ). drop k s) z)

-- ---- the page
module _ {name verdicts rejected p q : List ℕ} (c : InColumns name verdicts rejected p) (d : InColumns name verdicts rejected q) where
  abbrev n : ℕ
  n = (length rejected + 9) / 10

  title-same : columns p 0 0 81 ≡ columns q 0 0 81
  title-same =
      both p q 0 0 24 57 (left-exact c.graph-name d.graph-name)
      (both p q 0 24 10 47 (right-exact c.cycles d.cycles) (c.title-rest ∙ sym d.title-rest))

  cell_same : (j : ℕ) → j < 10 * n → columns p (1 + j / 10) (8 * (j % 10)) 8 ≡ columns q (1 + j / 10) (8 * (j % 10)) 8
  cell_same j h = go (dec_lt j (length rejected))
    where
      go : Dec (j < length rejected) → columns p (1 + j / 10) (8 * (j % 10)) 8 ≡ columns q (1 + j / 10) (8 * (j % 10)) 8
      go (yes l) = right-exact (c.cells j l) (d.cells j l)
      go (no l) = c.no_cells j (omega (arith, l)) h ∙ sym (d.no_cells j (omega (arith, l)) h)

  cell_at : (i j : ℕ) → i < n → j < 10 → columns p (1 + i) (8 * j) 8 ≡ columns q (1 + i) (8 * j) 8
  cell_at i j h l =
      let a : (10 * i + j) / 10 ≡ i = omega arith in
      let b : (10 * i + j) % 10 ≡ j = omega arith in
      rw (a, b) at (cell_same (10 * i + j) (omega arith))

  cells_same : (i k : ℕ) → i < n → k ≤ 10 → columns p (1 + i) 0 (8 * k) ≡ columns q (1 + i) 0 (8 * k)
  cells_same i zero h l = refl
  cells_same i (suc k) h l =
      let z : 8 * k + 8 ≡ 8 * suc k = omega arith in
      let f : 0 + 8 * k ≡ 8 * k = omega arith in
      rw (← z) (both p q (1 + i) 0 (8 * k) 8 (cells_same i k h (omega arith)) (rw f (cell_at i k h (omega arith))))

  line_same : (i : ℕ) → i < n → columns p (1 + i) 0 81 ≡ columns q (1 + i) 0 81
  line_same i h = both p q (1 + i) 0 80 1 (cells_same i 10 h (omega arith)) (c.line-ends i h ∙ sym (d.line-ends i h))

  rate-same : columns p (1 + n) 10 17 ≡ columns q (1 + n) 10 17
  rate-same = go (dec_lt 0 (length verdicts))
    where
      go : Dec (0 < length verdicts) → columns p (1 + n) 10 17 ≡ columns q (1 + n) 10 17
      go (yes some) =
          let x = c.last_line in
          let y = d.last_line in
          let e = division-exact (x.division some) (y.division some) in
          both p q (1 + n) 10 7 10
          (right-exact (x.whole-field some) (subst (λ (w : ℕ). Right 7 w (columns q (1 + n) 10 7)) (sym e.0) (y.whole-field some)))
          (right-exact (x.remainder-field some) (subst (λ (m : ℕ). Right 10 m (columns q (1 + n) 17 10)) (sym e.1) (y.remainder-field some)))
      go (no none) = let z : length verdicts ≡ 0 = omega (arith, none) in c.last_line.no_cycle z ∙ sym (d.last_line.no_cycle z)

  last-same : columns p (1 + n) 0 81 ≡ columns q (1 + n) 0 81
  last-same =
      both p q (1 + n) 0 10 71 (right-exact c.last_line.count d.last_line.count)
      (both p q (1 + n) 10 17 54 rate-same (c.last_line.rest ∙ sym d.last_line.rest))

  pub one-page : p ≡ q
  one-page = pages_same (2 + n) p q c.lines d.lines each
    where
      each : (i : ℕ) → i < 2 + n → columns p i 0 81 ≡ columns q i 0 81
      each zero h = title-same
      each (suc i) h = go (dec_lt i n)
        where
          same : (k : ℕ) → k ≡ suc i → columns p k 0 81 ≡ columns q k 0 81 → columns p (suc i) 0 81 ≡ columns q (suc i) 0 81
          same k e = subst (λ (m : ℕ). columns p m 0 81 ≡ columns q m 0 81) e

          go : Dec (i < n) → columns p (suc i) 0 81 ≡ columns q (suc i) 0 81
          go (yes l) = same (1 + i) (omega arith) (line_same i l)
          go (no l) = same (1 + n) (omega (arith, h, l)) last-same
