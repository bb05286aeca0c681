-- What stands in the columns of the lines of rejected cycles. Assumes nothing.
use mathlib.Core.Path.{◌≡◌, refl, sym, ap, subst, ◌∙◌}
use mathlib.Core.List.{List, [], ◌∷◌, ◌++◌, append_assoc}
use Prim.Native.Nat.{ℕ, ◌+◌, ◌*◌, ◌<◌, ◌≤◌}
use native.Mathlib.Omega.{arith}
use native.Mathlib.Decide.{dec_lt}
use borrow.Author.Tests.{lt-ltb, le-ltb}
use lib.ListN.{length, get_or, length-append}
use Rattle.text.specs.Writer.{joined}
use Rattle.session_text.specs.Fields.{blanks, right}
use Rattle.session_text.specs.Pages.{cell, cell_line}
use Rattle.session_text.specs.Claims.{Right, columns}
use Rattle.session_text.proofs.FieldLaws.{widths}
use Rattle.session_text.proofs.PieceLaws.{piece_at_lem, joined_length, Split, split}

module _ (rejected : List ℕ) where
  pub cell-number : (j : ℕ) → j < length rejected → cell rejected j ≡ right 8 (get_or rejected j 0)
  unfolding cell
  cell-number j h = rw (lt-ltb j (length rejected) h)

  pub cell_blank : (j : ℕ) → length rejected ≤ j → cell rejected j ≡ blanks 8
  unfolding cell
  cell_blank j h = rw (le-ltb j (length rejected) h)

module _ (rejected : List ℕ) (small : (j : ℕ) → j < length rejected → get_or rejected j 0 ≤ 524288) where
  pub cell_field : (j : ℕ) → j < length rejected → Right 8 (get_or rejected j 0) (cell rejected j)
  cell_field j h =
      subst (Right 8 (get_or rejected j 0)) (sym (cell-number rejected j h)) (widths 8 (get_or rejected j 0) (omega arith) (omega (arith, small j h))).field

  cell-length : (j : ℕ) → length (cell rejected j) ≡ 8
  cell-length j = go (dec_lt j (length rejected))
    where
      go : Dec (j < length rejected) → length (cell rejected j) ≡ 8
      go (yes h) = (cell_field j h).wide
      go (no h) = ap length (cell_blank rejected j (omega (arith, h)))

  abbrev cells_of : ℕ → ℕ → List ℕ
  cells_of i j = cell rejected (10 * i + j)

  cells-length : (i n : ℕ) → length (joined (cells_of i) n) ≡ n * 8
  cells-length i n = joined_length 8 (cells_of i) (λ j. cell-length (10 * i + j)) n

  line-length : (i : ℕ) → length (cell_line rejected i) ≡ 81
  unfolding cell_line
  line-length i = omega (arith, length-append (joined (cells_of i) 10) (10 ∷ []), cells-length i 10)

  pub lines-length : (n : ℕ) → length (joined (cell_line rejected) n) ≡ n * 81
  lines-length n = joined_length 81 (cell_line rejected) line-length n

  -- their columns, where one line stands before them
  module _ (before after : List ℕ) (one : length before ≡ 81) (n i : ℕ) (h : i < n) where
    abbrev text : List ℕ
    text = before ++ (joined (cell_line rejected) n ++ after)

    abbrev front : List ℕ
    front = before ++ joined (cell_line rejected) i

    front_length : length front ≡ 81 * (1 + i)
    front_length = omega (arith, length-append before (joined (cell_line rejected) i), lines-length i, one)

    abbrev behind : List ℕ
    behind = (split (cell_line rejected) n i h).behind ++ after

    from-line : text ≡ front ++ (cell_line rejected i ++ behind)
    from-line =
        let s = split (cell_line rejected) n i h in
        ap (λ (t : List ℕ). before ++ (t ++ after)) s.is
        ∙ ap (λ (t : List ℕ). before ++ t) (append_assoc (joined (cell_line rejected) i) (cell_line rejected i ++ s.behind) after)
        ∙ ap (λ (t : List ℕ). before ++ (joined (cell_line rejected) i ++ t)) (append_assoc (cell_line rejected i) s.behind after)
        ∙ sym (append_assoc before (joined (cell_line rejected) i) (cell_line rejected i ++ behind))

    from-cells : text ≡ front ++ (joined (cells_of i) 10 ++ ((10 ∷ []) ++ behind))
    unfolding cell_line
    from-cells = from-line ∙ ap (λ (t : List ℕ). front ++ t) (append_assoc (joined (cells_of i) 10) (10 ∷ []) behind)

    pub lf_at_lem : columns text (1 + i) 80 1 ≡ 10 ∷ []
    lf_at_lem =
        ap (λ (p : List ℕ). columns p (1 + i) 80 1) (from-cells ∙ sym (append_assoc front (joined (cells_of i) 10) ((10 ∷ []) ++ behind)))
        ∙ piece_at_lem (front ++ joined (cells_of i) 10) (10 ∷ []) behind (81 * (1 + i) + 80) 1 (omega (arith, length-append front (joined (cells_of i) 10), front_length, cells-length i 10)) refl

    pub cell_at : (j : ℕ) → j < 10 → columns text (1 + i) (8 * j) 8 ≡ cell rejected (10 * i + j)
    cell_at j l =
        let s = split (cells_of i) 10 j l in
        let rest = s.behind ++ ((10 ∷ []) ++ behind) in
        let e : text ≡ (front ++ joined (cells_of i) j) ++ (cells_of i j ++ rest) =
        from-cells
        ∙ ap (λ (t : List ℕ). front ++ (t ++ ((10 ∷ []) ++ behind))) s.is
        ∙ ap (λ (t : List ℕ). front ++ t) (append_assoc (joined (cells_of i) j) (cells_of i j ++ s.behind) ((10 ∷ []) ++ behind))
        ∙ ap (λ (t : List ℕ). front ++ (joined (cells_of i) j ++ t)) (append_assoc (cells_of i j) s.behind ((10 ∷ []) ++ behind))
        ∙ sym (append_assoc front (joined (cells_of i) j) (cells_of i j ++ rest)) in
        ap (λ (p : List ℕ). columns p (1 + i) (8 * j) 8) e
        ∙ piece_at_lem (front ++ joined (cells_of i) j) (cells_of i j) rest (81 * (1 + i) + 8 * j) 8 (omega (arith, length-append front (joined (cells_of i) j), front_length, cells-length i j)) (cell-length (10 * i + j))
