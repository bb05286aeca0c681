-- What lay_out answers and leaves in the lent buffer (document 02, No. 9). The first test that fails decides. Assumes
-- nothing.
use Rattle.std.specs.Prelude.{Result, Ok, Err, Bool, cond, not, ◌&&◌, List, ◌++◌, ℕ, leb, ltb, length, drop}
use Rattle.text.specs.declared.Refusal.{Refusal}
use Rattle.formula.specs.Classes.{name_bytes}
use Rattle.trace.specs.Verdicts.{all_bits}
use Rattle.session_text.specs.Pages.{session_page}
use Rattle.session_page.specs.declared.Cause.{Cause}
use Rattle.session_page.specs.declared.Cause.TheVariants.{TooManyCycles, ShortBuffer, NotPrintable}

-- the number and line of each cause: "1, first", "22, line 0, before 12"
unfoldable pub refusal_of : Cause → Refusal
refusal_of TooManyCycles = record { number = 1; line = 0 }
refusal_of ShortBuffer = record { number = 12; line = 0 }
refusal_of NotPrintable = record { number = 22; line = 0 }

-- a graph name is not "empty, over 24 bytes", and holds no "byte that is no letter, digit or `_`"
unfoldable pub is_graph_name : List ℕ → Bool
is_graph_name name = leb 1 (length name) && (leb (length name) 24 && name_bytes name)

-- and there is no "verdict byte above 1"
unfoldable pub is_printable : List ℕ → List ℕ → Bool
is_printable name verdicts = is_graph_name name && all_bits verdicts

-- the answer, and the buffer, which keeps its surplus and a refusal leaves as it was
pub record LaidEnd : Type 0 where
  pub answer : Result ℕ Cause
  pub page : List ℕ

abbrev pub laid_end : Result ℕ Cause → List ℕ → LaidEnd
laid_end r p = record { answer = r; page = p }

unfoldable pub lay_out_of : List ℕ → List ℕ → List ℕ → LaidEnd
lay_out_of name verdicts page =
    let text = session_page name verdicts in
    cond (ltb 524288 (length verdicts)) (laid_end (Err TooManyCycles) page)
    (cond (not (is_printable name verdicts)) (laid_end (Err NotPrintable) page)
    (cond (ltb (length page) (length text)) (laid_end (Err ShortBuffer) page)
    (laid_end (Ok (length text)) (text ++ drop (length text) page))))
