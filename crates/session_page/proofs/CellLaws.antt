-- The lines of rejected cycles, as they are written cycle by cycle. Assumes nothing.
use mathlib.Core.Path.{◌≡◌, refl, sym, ap, ap₂, ◌∙◌}
use mathlib.Core.Bool.{cond}
use mathlib.Core.List.{List, [], ◌∷◌, ◌++◌, append_assoc, append-nil}
use Prim.Native.Nat.{ℕ, zero, suc, ◌+◌, ◌-◌, ◌*◌, ◌/◌, ◌%◌, ◌<◌, ◌≤◌}
use native.Mathlib.Numerals.{add-one}
use native.Mathlib.Omega.{arith}
use native.Mathlib.Decide.{ℕ_discrete}
use borrow.Author.Tests.{eq-eqb, ne_eqb}
use lib.Dec.{eqb}
use lib.ListN.{length, get_or, take, length-append, get_or-append, replicate-append-replicate}
use lib.Seq.{get_or-append_seam, take-suc, length-take-le}
use Rattle.text.specs.Writer.{joined}
use Rattle.text.proofs.WriterLaws.{joined_same}
use Rattle.session_text.specs.Fields.{blanks, right}
use Rattle.session_text.specs.Pages.{rejected_from, rejected_of, cell, cell_line, cell_lines}
use Rattle.session_text.specs.Claims.{rest_blank}
use Rattle.session_text.proofs.CellLaws.{cell-number, cell_blank}
use Rattle.session_text.proofs.RejectedLaws.{rejected_yes, rejected_no, rejected-none, rejected_snoc}
use Rattle.session_page.specs.Private.Writers.{cell_text, cycle_text, cells_end}

-- ---- the end of the last line
pub cells-ended : (cells : ℕ) → cells % 10 ≡ 0 → cells_end cells ≡ []
unfolding cells_end
cells-ended cells e = rw (eq-eqb (cells % 10) 0 e)

pub cells_open : (cells : ℕ) → (cells % 10 ≡ 0 → ⊥) → cells_end cells ≡ rest_blank (8 * (cells % 10))
unfolding cells_end
cells_open cells d = rw (ne_eqb (cells % 10) 0 d)

-- ---- texts one after another
regroup : (a b c d : List ℕ) → (a ++ b) ++ (c ++ d) ≡ a ++ ((b ++ c) ++ d)
regroup a b c d = append_assoc a b (c ++ d) ∙ ap (λ (s : List ℕ). a ++ s) (sym (append_assoc b c d))

-- the text of these cells, as it stands before the end of the last line
unfoldable pub cells_text : List ℕ → List ℕ
cells_text cells = joined (λ j. cell_text j (get_or cells j 0)) (length cells)

pub cells-none : cells_text [] ≡ []
unfolding cells_text
cells-none = refl

cells-more : (cells : List ℕ) (cycle : ℕ) → cells_text (cells ++ (cycle ∷ [])) ≡ cells_text cells ++ cell_text (length cells) cycle
unfolding cells_text
cells-more cells cycle =
    let more = cells ++ (cycle ∷ []) in
    let f : ℕ → List ℕ = λ (j : ℕ). cell_text j (get_or more j 0) in
    let l : length more ≡ suc (length cells) = omega (arith, length-append cells (cycle ∷ [])) in
    ap (joined f) l
    ∙ ap₂ ◌++◌
    (joined_same f (λ j. cell_text j (get_or cells j 0)) (length cells) (λ i h. ap (cell_text i) (get_or-append cells (cycle ∷ []) 0 i h)))
    (ap (cell_text (length cells)) (get_or-append_seam cells cycle [] 0))

-- ---- lines of ten
module _ (rejected : List ℕ) where
  abbrev cells_of : ℕ → ℕ → List ℕ
  cells_of i j = cell rejected (10 * i + j)

  -- n cells, as full lines and the cells after them
  abbrev laid : ℕ → List ℕ
  laid n = joined (cell_line rejected) (n / 10) ++ joined (cells_of (n / 10)) (n % 10)

  laid_as : (n i j : ℕ) → n / 10 ≡ i → n % 10 ≡ j → laid n ≡ joined (cell_line rejected) i ++ joined (cells_of i) j
  laid_as n i j q r = rw (q, r)

  -- a line that is full
  full : (i : ℕ) (c : List ℕ) → c ≡ cells_of i 9
      → (joined (cell_line rejected) i ++ joined (cells_of i) 9) ++ (c ++ (10 ∷ [])) ≡ joined (cell_line rejected) (suc i) ++ []
  unfolding cell_line
  full i c e =
      ap (λ (s : List ℕ). (joined (cell_line rejected) i ++ joined (cells_of i) 9) ++ (s ++ (10 ∷ []))) e
      ∙ regroup (joined (cell_line rejected) i) (joined (cells_of i) 9) (cells_of i 9) (10 ∷ [])
      ∙ sym (append-nil (joined (cell_line rejected) (suc i)))

  -- and one that is not
  unfilled : (i j : ℕ) (c : List ℕ) → c ≡ cells_of i j
      → (joined (cell_line rejected) i ++ joined (cells_of i) j) ++ (c ++ []) ≡ joined (cell_line rejected) i ++ joined (cells_of i) (suc j)
  unfilled i j c e =
      ap (λ (s : List ℕ). (joined (cell_line rejected) i ++ joined (cells_of i) j) ++ s) (append-nil c ∙ e)
      ∙ append_assoc (joined (cell_line rejected) i) (joined (cells_of i) j) (cells_of i j)

  cell-is : (n i j : ℕ) → n < length rejected → n / 10 ≡ i → n % 10 ≡ j → right 8 (get_or rejected n 0) ≡ cells_of i j
  cell-is n i j h q r =
      let e : 10 * i + j ≡ n = omega (arith, q, r) in
      rw e (sym (cell-number rejected n h))

  one_more_lem : (n : ℕ) → n < length rejected → laid n ++ cell_text n (get_or rejected n 0) ≡ laid (suc n)
  unfolding cell_text
  one_more_lem n h = go (ℕ_discrete (n % 10) 9)
    where
      go : Dec (n % 10 ≡ 9) → laid n ++ (right 8 (get_or rejected n 0) ++ cond (eqb (n % 10) 9) (10 ∷ []) []) ≡ laid (suc n)
      go (yes e) =
          rw (eq-eqb (n % 10) 9 e)
          (ap (λ (s : List ℕ). s ++ (right 8 (get_or rejected n 0) ++ (10 ∷ []))) (laid_as n (n / 10) 9 refl e)
          ∙ full (n / 10) (right 8 (get_or rejected n 0)) (cell-is n (n / 10) 9 h refl e)
          ∙ sym (laid_as (suc n) (suc (n / 10)) 0 (omega (arith, e)) (omega (arith, e))))
      go (no d) =
          rw (ne_eqb (n % 10) 9 d)
          (unfilled (n / 10) (n % 10) (right 8 (get_or rejected n 0)) (cell-is n (n / 10) (n % 10) h refl refl)
          ∙ sym (laid_as (suc n) (n / 10) (suc (n % 10)) (omega (arith, d)) (omega (arith, d))))

  laid_out : (n : ℕ) → n ≤ length rejected → joined (λ j. cell_text j (get_or rejected j 0)) n ≡ laid n
  laid_out zero h = refl
  laid_out (suc n) h = ap (λ (s : List ℕ). s ++ cell_text n (get_or rejected n 0)) (laid_out n (omega arith)) ∙ one_more_lem n (omega arith)

  -- blank cells after the last
  blank_cells : (i j d : ℕ) → length rejected ≤ 10 * i + j → joined (cells_of i) (d + j) ≡ joined (cells_of i) j ++ blanks (8 * d)
  blank_cells i j zero h = let z : 0 + j ≡ j = omega arith in rw z (sym (append-nil (joined (cells_of i) j)))
  blank_cells i j (suc d) h =
      let z : suc d + j ≡ suc (d + j) = omega arith in
      let k : 8 * d + 8 ≡ 8 * suc d = omega arith in
      ap (joined (cells_of i)) z
      ∙ ap₂ ◌++◌ (blank_cells i j d h) (cell_blank rejected (10 * i + (d + j)) (omega arith))
      ∙ append_assoc (joined (cells_of i) j) (blanks (8 * d)) (blanks 8)
      ∙ ap (λ (s : List ℕ). joined (cells_of i) j ++ s) (replicate-append-replicate {A = ℕ} (8 * d) 8 32 ∙ ap blanks k)

  -- the last line, filled up
  filled : (i j : ℕ) → j ≤ 10 → length rejected ≤ 10 * i + j
      → (joined (cell_line rejected) i ++ joined (cells_of i) j) ++ rest_blank (8 * j) ≡ joined (cell_line rejected) (suc i)
  unfolding cell_line
  filled i j most h =
      let z : 10 - j + j ≡ 10 = omega arith in
      let k : 80 - 8 * j ≡ 8 * (10 - j) = omega arith in
      regroup (joined (cell_line rejected) i) (joined (cells_of i) j) (blanks (80 - 8 * j)) (10 ∷ [])
      ∙ ap (λ (s : List ℕ). joined (cell_line rejected) i ++ (s ++ (10 ∷ [])))
      (ap (λ (n : ℕ). joined (cells_of i) j ++ blanks n) k ∙ sym (blank_cells i j (10 - j) h) ∙ ap (joined (cells_of i)) z)

  -- THE LINES, from the cells and the end of the last line
  pub cells-lines : cells_text rejected ++ cells_end (length rejected) ≡ joined (cell_line rejected) (cell_lines (length rejected))
  unfolding cells_text cell_lines
  cells-lines = ap (λ (s : List ℕ). s ++ cells_end n) (laid_out n (omega arith)) ∙ go (ℕ_discrete (n % 10) 0)
    where
      n : ℕ
      n = length rejected

      go : Dec (n % 10 ≡ 0) → laid n ++ cells_end n ≡ joined (cell_line rejected) ((n + 9) / 10)
      go (yes e) =
          let q : (n + 9) / 10 ≡ n / 10 = omega (arith, e) in
          ap₂ ◌++◌ (laid_as n (n / 10) 0 refl e) (cells-ended n e)
          ∙ append-nil (joined (cell_line rejected) (n / 10) ++ [])
          ∙ append-nil (joined (cell_line rejected) (n / 10))
          ∙ ap (joined (cell_line rejected)) (sym q)
      go (no d) =
          let q : (n + 9) / 10 ≡ suc (n / 10) = omega (arith, d) in
          ap (λ (s : List ℕ). laid n ++ s) (cells_open n d)
          ∙ filled (n / 10) (n % 10) (omega arith) (omega arith)
          ∙ ap (joined (cell_line rejected)) (sym q)

-- ---- one cycle more, as a loop's turn writes it
cycle-rejected : (before verdict cycle : ℕ) → verdict ≡ 1 → cycle_text before verdict cycle ≡ cell_text before cycle
unfolding cycle_text
cycle-rejected before verdict cycle e = rw (eq-eqb verdict 1 e)

pub cycle-accepted : (before verdict cycle : ℕ) → (verdict ≡ 1 → ⊥) → cycle_text before verdict cycle ≡ []
unfolding cycle_text
cycle-accepted before verdict cycle d = rw (ne_eqb verdict 1 d)

-- the tenth cell ends its line, and no other
pub cycle_tenth : (before verdict cycle : ℕ) → verdict ≡ 1 → before % 10 ≡ 9 → cycle_text before verdict cycle ≡ right 8 cycle ++ (10 ∷ [])
unfolding cycle_text cell_text
cycle_tenth before verdict cycle e t = rw (eq-eqb verdict 1 e, eq-eqb (before % 10) 9 t)

pub cycle-other : (before verdict cycle : ℕ) → verdict ≡ 1 → (before % 10 ≡ 9 → ⊥) → cycle_text before verdict cycle ≡ right 8 cycle
unfolding cycle_text cell_text
cycle-other before verdict cycle e d = rw (eq-eqb verdict 1 e, ne_eqb (before % 10) 9 d) (append-nil (right 8 cycle))

module _ (v : List ℕ) (k : ℕ) (l : k < length v) where
  taken : rejected_of (take (k + 1) v) ≡ rejected_of (take k v) ++ rejected_from (1 + length (take k v)) (get_or v k 0 ∷ [])
  taken = ap rejected_of (rw (add-one k) (take-suc v k 0 l)) ∙ rejected_snoc 1 (take k v) (get_or v k 0)

  next-cycle : 1 + length (take k v) ≡ k + 1
  next-cycle = omega (arith, length-take-le k v (omega arith))

  pub cycle_text_lem : (cells : ℕ) → cells ≡ length (rejected_of (take k v))
      → cells_text (rejected_of (take (k + 1) v)) ≡ cells_text (rejected_of (take k v)) ++ cycle_text cells (get_or v k 0) (k + 1)
  cycle_text_lem cells e = ap cells_text taken ∙ go (ℕ_discrete (get_or v k 0) 1)
    where
      before : List ℕ
      before = rejected_of (take k v)

      go : Dec (get_or v k 0 ≡ 1)
          → cells_text (before ++ rejected_from (1 + length (take k v)) (get_or v k 0 ∷ [])) ≡ cells_text before ++ cycle_text cells (get_or v k 0) (k + 1)
      go (yes h) =
          rw (next-cycle, rejected_yes (k + 1) (get_or v k 0) [] h, rejected-none (suc (k + 1)), cycle-rejected cells (get_or v k 0) (k + 1) h, e)
          (cells-more before (k + 1))
      go (no d) =
          rw (rejected_no (1 + length (take k v)) (get_or v k 0) [] d, rejected-none (suc (1 + length (take k v))), cycle-accepted cells (get_or v k 0) (k + 1) d, append-nil before)
          (sym (append-nil (cells_text before)))
