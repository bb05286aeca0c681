-- What stands in the columns of a session page, and how long it is. Assumes nothing.
use mathlib.Core.Path.{◌≡◌, refl, sym, ap, subst, ◌∙◌}
use mathlib.Core.List.{List, ◌++◌, append_assoc}
use Prim.Native.Nat.{ℕ, ◌+◌, ◌*◌, ◌/◌, ◌%◌, ◌<◌, ◌≤◌}
use native.Mathlib.Omega.{arith}
use lib.ListN.{length, get_or, length-append}
use Rattle.text.specs.Writer.{joined}
use Rattle.session_text.specs.Pages.{rejected_of, title, cell, cell_line, cell_lines, last_line, session_page}
use Rattle.session_text.specs.Claims.{Left, Right, columns, LastLine, InColumns}
use Rattle.session_text.proofs.FieldLaws.{left_is}
use Rattle.session_text.proofs.RejectedLaws.{rejected-most, each-most}
use Rattle.session_text.proofs.TitleLaws.{cycles-field, title-length, name-at, cycles-at, rest_at}
use Rattle.session_text.proofs.CellLaws.{cell_blank, cell_field, lines-length, lf_at_lem, cell_at}
use Rattle.session_text.proofs.LastLaws.{last-length, last-columns}

module _ (name verdicts : List ℕ) (short : length name ≤ 24) (few : length verdicts ≤ 524288) where
  abbrev rejected : List ℕ
  rejected = rejected_of verdicts

  abbrev n : ℕ
  n = (length rejected + 9) / 10

  pub small : (j : ℕ) → j < length rejected → get_or rejected j 0 ≤ 524288
  small j h = omega (arith, each-most 1 verdicts j h)

  abbrev first : List ℕ
  first = title name (length verdicts)

  abbrev middle : List ℕ
  middle = joined (cell_line rejected) n

  abbrev last : List ℕ
  last = last_line (length verdicts) (length rejected)

  page-is : session_page name verdicts ≡ first ++ (middle ++ last)
  unfolding session_page cell_lines
  page-is = refl

  before_last : length (first ++ middle) ≡ 81 * (1 + n)
  before_last = omega (arith, length-append first middle, title-length name short (length verdicts) few, lines-length rejected small n)

  pub page-length : length (session_page name verdicts) ≡ 81 * (2 + n)
  page-length =
      omega (
        arith,
        ap length (page-is ∙ sym (append_assoc first middle last)),
        length-append (first ++ middle) last,
        before_last,
        last-length (length verdicts) (length rejected) few (rejected-most 1 verdicts),
      )

  cells-columns : (j : ℕ) → j < 10 * n → columns (session_page name verdicts) (1 + j / 10) (8 * (j % 10)) 8 ≡ cell rejected j
  cells-columns j h =
      let e : 10 * (j / 10) + j % 10 ≡ j = omega arith in
      ap (λ (p : List ℕ). columns p (1 + j / 10) (8 * (j % 10)) 8) page-is
      ∙ cell_at rejected small first last (title-length name short (length verdicts) few) n (j / 10) (omega arith) (j % 10) (omega arith)
      ∙ ap (cell rejected) e

  pub in_columns : InColumns name verdicts rejected (session_page name verdicts)
  in_columns =
      record {
        graph-name = subst (Left 24 name) (sym (ap (λ (p : List ℕ). columns p 0 0 24) page-is ∙ name-at name short (length verdicts) few (middle ++ last))) (left_is 24 name short);
        cycles = subst (Right 10 (length verdicts)) (sym (ap (λ (p : List ℕ). columns p 0 24 10) page-is ∙ cycles-at name short (length verdicts) few (middle ++ last))) (cycles-field name short (length verdicts) few);
        title-rest = ap (λ (p : List ℕ). columns p 0 34 47) page-is ∙ rest_at name short (length verdicts) few (middle ++ last);
        cells = λ j h. subst (Right 8 (get_or rejected j 0)) (sym (cells-columns j (omega arith))) (cell_field rejected small j h);
        no_cells = λ j h l. cells-columns j l ∙ cell_blank rejected j h;
        line-ends = λ i h. ap (λ (p : List ℕ). columns p (1 + i) 80 1) page-is ∙ lf_at_lem rejected small first last (title-length name short (length verdicts) few) n i h;
        last_line = subst (λ (p : List ℕ). LastLine (length verdicts) (length rejected) p (1 + n)) (sym (page-is ∙ sym (append_assoc first middle last)))
            (last-columns (length verdicts) (length rejected) few (rejected-most 1 verdicts) (first ++ middle) (1 + n) before_last);
        lines = page-length;
      }
