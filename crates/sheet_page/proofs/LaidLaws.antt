-- A session page as a page: a run that is printable is laid out, or the buffer is too short for it. Assumes nothing.
use Rattle.std.specs.Prelude.{Result, Err}
use Rattle.std.specs.Result.{result_or}
use mathlib.Core.Path.{◌≡◌, refl, ap, ◌∙◌}
use mathlib.Core.Bool.{Bool, true, false}
use mathlib.Core.List.{List}
use Prim.Native.Nat.{ℕ, ◌≤◌}
use native.Mathlib.Decide.{dec_le}
use native.Mathlib.Omega.{arith}
use borrow.Author.Tests.{le-leb, lt-leb, lt-ltb, le-ltb}
use lib.ListN.{length}
use Rattle.trace.specs.Verdicts.{all_bits}
use Rattle.session_text.specs.Pages.{session_page}
use Rattle.session_text.specs.Claims.{Printable}
use Rattle.session_page.specs.declared.Cause as session
use Rattle.session_page.specs.LayOut.{is_printable, LaidEnd, laid_end, lay_out_of}
use Rattle.session_page.proofs.PrintableLaws.{is_graph_name_lem, not-bits}
use Rattle.page.specs.declared.Cause.TheVariants.{ShortBuffer}
use Rattle.page.specs.Pages.{PageEnd, page_end, page_of}

module _ (name verdicts out : List ℕ) (may : Printable name verdicts) (few : length verdicts ≤ 524288) where
  passes : is_printable name verdicts ≡ true
  unfolding is_printable
  passes = rw (is_graph_name_lem name may.named) (go (all_bits verdicts) refl)
    where
      go : (b : Bool) → all_bits verdicts ≡ b → b ≡ true
      go true e = refl
      go false e = absurd (not-bits name verdicts e may)

  abbrev page : LaidEnd → PageEnd
  page x = page_end (result_or x.answer (Err ShortBuffer)) x.page

  pub laid_page_lem : {r : Result ℕ session.Cause} {left : List ℕ} → laid_end r left ≡ lay_out_of name verdicts out → page_end (result_or r (Err ShortBuffer)) left ≡ page_of (session_page name verdicts) out
  unfolding lay_out_of page_of
  laid_page_lem e = ap page e ∙ go (dec_le (length (session_page name verdicts)) (length out))
    where
      go : Dec (length (session_page name verdicts) ≤ length out) → page (lay_out_of name verdicts out) ≡ page_of (session_page name verdicts) out
      go (yes l) =
          rw (
            le-ltb 524288 (length verdicts) few,
            passes,
            le-ltb (length out) (length (session_page name verdicts)) l,
            le-leb (length (session_page name verdicts)) (length out) l,
          )
      go (no l) =
          rw (
            le-ltb 524288 (length verdicts) few,
            passes,
            lt-ltb (length out) (length (session_page name verdicts)) (omega arith),
            lt-leb (length (session_page name verdicts)) (length out) (omega arith),
          )
