-- What stands in the columns of the title line. Assumes nothing.
use mathlib.Core.Path.{◌≡◌, refl, sym, ap, ◌∙◌}
use mathlib.Core.List.{List, ◌++◌, append_assoc}
use Prim.Native.Nat.{ℕ, ◌≤◌}
use native.Mathlib.Omega.{arith}
use lib.ListN.{length, length-append}
use lib.Seq.{take_at}
use Rattle.session_text.specs.Fields.{left, right}
use Rattle.session_text.specs.Pages.{title}
use Rattle.session_text.specs.Claims.{Right, columns, rest_blank}
use Rattle.session_text.proofs.FieldLaws.{widths, left-length, row_is}
use Rattle.session_text.proofs.PieceLaws.{piece_at_lem}

module _ (name : List ℕ) (short : length name ≤ 24) (cycles : ℕ) (few : cycles ≤ 524288) where
  pub cycles-field : Right 10 cycles (right 10 cycles)
  cycles-field = (widths 10 cycles (omega arith) (omega arith)).field

  pub title-is : title name cycles ≡ left 24 name ++ (right 10 cycles ++ rest_blank 34)
  unfolding title
  title-is =
      row_is (left 24 name ++ right 10 cycles) 34 (omega (arith, length-append (left 24 name) (right 10 cycles), left-length 24 name short, cycles-field.wide))
      ∙ append_assoc (left 24 name) (right 10 cycles) (rest_blank 34)

  pub title-length : length (title name cycles) ≡ 81
  title-length =
      omega (
        arith,
        ap length title-is,
        length-append (left 24 name) (right 10 cycles ++ rest_blank 34),
        length-append (right 10 cycles) (rest_blank 34),
        left-length 24 name short,
        cycles-field.wide,
      )

  module _ (after : List ℕ) where
    abbrev page : List ℕ
    page = title name cycles ++ after

    apart : page ≡ left 24 name ++ (right 10 cycles ++ (rest_blank 34 ++ after))
    apart =
        ap (λ (s : List ℕ). s ++ after) title-is
        ∙ append_assoc (left 24 name) (right 10 cycles ++ rest_blank 34) after
        ∙ ap (λ (s : List ℕ). left 24 name ++ s) (append_assoc (right 10 cycles) (rest_blank 34) after)

    pub name-at : columns page 0 0 24 ≡ left 24 name
    name-at = ap (λ (p : List ℕ). columns p 0 0 24) apart ∙ take_at (left 24 name) (right 10 cycles ++ (rest_blank 34 ++ after)) 24 (left-length 24 name short)

    pub cycles-at : columns page 0 24 10 ≡ right 10 cycles
    cycles-at =
        ap (λ (p : List ℕ). columns p 0 24 10) apart
        ∙ piece_at_lem (left 24 name) (right 10 cycles) (rest_blank 34 ++ after) 24 10 (left-length 24 name short) cycles-field.wide

    pub rest_at : columns page 0 34 47 ≡ rest_blank 34
    rest_at =
        ap (λ (p : List ℕ). columns p 0 34 47) (apart ∙ sym (append_assoc (left 24 name) (right 10 cycles) (rest_blank 34 ++ after)))
        ∙ piece_at_lem (left 24 name ++ right 10 cycles) (rest_blank 34) after 34 47 (omega (arith, length-append (left 24 name) (right 10 cycles), left-length 24 name short, cycles-field.wide)) refl
