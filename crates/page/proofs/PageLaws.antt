-- A page in a lent buffer, as it is measured and written, the file of a netlist as a page, and the monitor's page by
-- the parts of its input. Assumes nothing.
use Rattle.std.specs.Prelude.{Result, Ok, Err}
use Rattle.std.specs.Result.{result_or}
use mathlib.Core.Path.{◌≡◌, refl, ap, ◌∙◌}
use mathlib.Core.Bool.{Bool, true, false, cond, not}
use mathlib.Core.List.{List, [], ◌∷◌, ◌++◌}
use Prim.Native.Nat.{ℕ, ◌≤◌, ◌<◌}
use native.Mathlib.Omega.{arith}
use borrow.Author.Tests.{lt-leb, le-leb}
use lib.Dec.{leb}
use lib.ListN.{length, drop}
use Rattle.text.specs.Writer.{top, Wrote}
use Rattle.text.proofs.WriterLaws.{measured, too_long, kept}
use Rattle.netlist.specs.Valid.{is_netlist}
use Rattle.graph.specs.Reading.{graph_of}
use Rattle.aiger.specs.Write.{WriteEnd, write_end, write_as}
use Rattle.aiger.specs.declared.Cause.{Cause as AigerCause}
use Rattle.aiger.specs.declared.Cause.TheVariants as aiger
use Rattle.page.specs.declared.Cause.TheVariants.{ShortBuffer}
use Rattle.page.specs.declared.InputFault.TheVariants.{TooLong}
use Rattle.page_text.specs.Parts.{graph_part, trace_part}
use Rattle.page_text.specs.Lines.{refused_line}
use Rattle.page.specs.Pages.{input_refusal, graph_page, trace_page, monitor_text, PageEnd, page_end, page_of}

-- ---- a text that was measured over no bytes is its page, refused or written
module _ (page out : List ℕ) {d : List ℕ} {need : ℕ} (small : length out < top) (dry : Wrote [] d 0 need page) where
  pub short-page : length (d ++ out) < need → page_end (Err ShortBuffer) (d ++ out) ≡ page_of page out
  unfolding page_of
  short-page h =
      let m = too_long out page small dry h in
      rw (m.1, lt-leb (length page) (length out) m.0)

  -- measuring leaves the buffer as it was
  pub as_was : d ++ out ≡ out
  as_was = go d (kept dry)
    where
      go : (l : List ℕ) → length l ≡ 0 → l ++ out ≡ out
      go [] h = refl
      go (x ∷ l) h = absurd (omega arith)

  pub whole-page : {r : List ℕ} {end : ℕ} → need ≤ length (d ++ out) → Wrote out r 0 end page → page_end (Ok end) r ≡ page_of page out
  unfolding page_of
  whole-page {r} {end} h wrote =
      let all : Wrote (d ++ out) r 0 end page = rw as_was wrote in
      let m = measured out page small dry h all in
      rw (m.1, m.2, le-leb (length page) (length out) m.0)

-- ---- the file of a netlist

-- the answer of a write, as that of a page
pub file-page : (file net out : List ℕ) {w : Result ℕ AigerCause} {t : List ℕ} → is_netlist net ≡ true → write_end w t ≡ write_as file net out
    → page_end (result_or w (Err ShortBuffer)) t ≡ page_of file out
unfolding write_as page_of
file-page file net out {w} {t} is e = ap page e ∙ rw is (go (leb (length file) (length out)))
  where
    page : WriteEnd → PageEnd
    page x = page_end (result_or x.answer (Err ShortBuffer)) x.text

    go : (b : Bool) → page (cond (not b) (write_end (Err aiger.ShortBuffer) out) (write_end (Ok (length file)) (file ++ drop (length file) out)))
        ≡ cond b (page_end (Ok (length file)) (file ++ drop (length file) out)) (page_end (Err ShortBuffer) out)
    go true = refl
    go false = refl

-- ---- the page of the monitor

module _ (s : List ℕ) where
  pub long-text : 65536 < length s → monitor_text s ≡ refused_line (input_refusal TooLong)
  unfolding monitor_text
  long-text h = rw (lt-leb (length s) 65536 h)

  pub short-text : length s ≤ 65536 → monitor_text s ≡ graph_page (graph_of (graph_part s)) (trace_page (trace_part s))
  unfolding monitor_text
  short-text h = rw (le-leb (length s) 65536 h)
