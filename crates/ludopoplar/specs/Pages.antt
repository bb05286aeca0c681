-- The call of document 02, No. 9, that lays out a session page: the return code, the buffer, and the page's length through
-- its pointer, which a refusal leaves as it was. Answer and buffer are those of lay_out's own definition. Assumes nothing.
use Rattle.std.specs.Prelude.{Result, Ok, Err, List, ℕ}
use Rattle.session_page.specs.declared.Cause.{Cause}
use Rattle.session_page.specs.LayOut.{refusal_of, lay_out_of}
use Rattle.ludopoplar.specs.Codes.{accepted_code, code_of}
use Rattle.ludopoplar.specs.Circuits.{Filled, filled}

unfoldable pub page_as : Result ℕ Cause → List ℕ → ℕ → Filled
page_as (Ok n) page before = filled accepted_code page n
page_as (Err cause) page before = filled (code_of (refusal_of cause)) page before

unfoldable pub session_page_call : List ℕ → List ℕ → List ℕ → ℕ → Filled
session_page_call name verdicts page before = let e = lay_out_of name verdicts page in page_as e.answer e.page before
