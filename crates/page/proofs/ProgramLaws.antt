-- What the programs need of a page: one that fits stands whole at the front of its buffer, and of an input no more
-- need be read than tells that it is too long. Assumes nothing.
use Rattle.std.specs.Prelude.{Result, Ok}
use Rattle.std.specs.Result.{result_unwrap_or}
use mathlib.Core.Path.{◌≡◌, refl, ap, ap₂, sym, ◌∙◌}
use mathlib.Core.List.{List, ◌++◌}
use Prim.Native.Nat.{ℕ, ◌≤◌}
use native.Mathlib.Decide.{dec_le}
use native.Mathlib.Omega.{arith}
use borrow.Author.Tests.{le-leb, lt-ltb}
use lib.ListN.{length, take, drop, length-take, length-append}
use lib.Seq.{take_at, take_all}
use Rattle.assertion.specs.Graph.{Graph}
use Rattle.graph.specs.Reading.{graph_of}
use Rattle.circuit.specs.Numbers.{numbers_of}
use Rattle.aiger.specs.Format.{file_of}
use Rattle.packed.specs.Format.{packed_of}
use Rattle.page.specs.declared.Cause.{Cause}
use Rattle.page.specs.Pages.{graph_page, monitor_text, aiger_text, packed_text, PageEnd, page_end, page_of}
use Rattle.page.proofs.PageLaws.{long-text}

-- a program prints the page `text` of its input, which k bytes settle: n bytes were read into a buffer of k, the page
-- went into a buffer of `most` bytes, and none is longer
module _ (text : List ℕ → List ℕ) (k most : ℕ) (cut : (s : List ℕ) → text (take k s) ≡ text s) (buffer : List ℕ) (n : ℕ) (out : List ℕ) {left : List ℕ} {r : Result ℕ Cause}
    (e : page_end r left ≡ page_of (text (take n buffer)) out) (fits : length (text (take n buffer)) ≤ most) (room : length out ≡ most) (whole : length buffer ≡ k) where
  abbrev page : List ℕ
  page = text (take n buffer)

  ends : page_end r left ≡ page_end (Ok (length page)) (page ++ drop (length page) out)
  unfolding page_of
  ends = e ∙ rw (le-leb (length page) (length out) (omega arith))

  -- the answer is the page's length, which stands first in the buffer
  pub printed : {end : ℕ} → end ≡ result_unwrap_or r 0
      → (end ≤ length left) × ((s : List ℕ) → take n buffer ≡ take (length buffer) s → take end left ≡ text s)
  printed {end} h =
      let same : end ≡ length page = h ∙ ap (λ (p : PageEnd). result_unwrap_or p.answer 0) ends in
      let all : left ≡ page ++ drop (length page) out = ap (λ (p : PageEnd). p.out) ends in (
        omega (arith, ap length all, length-append page (drop (length page) out)),
        λ s d.
            ap₂ take same all
            ∙ take_at page (drop (length page) out) (length page) refl
            ∙ ap text (d ∙ ap (λ (m : ℕ). take m s) whole)
            ∙ cut s,
      )

-- the first 65,537 bytes of an input give its page
pub monitor_cut : (s : List ℕ) → monitor_text (take 65537 s) ≡ monitor_text s
monitor_cut s = go (dec_le (length s) 65537)
  where
    go : Dec (length s ≤ 65537) → monitor_text (take 65537 s) ≡ monitor_text s
    go (yes h) = ap monitor_text (take_all 65537 s h)
    go (no h) = long-text (take 65537 s) (omega (arith, length-take 65537 s)) ∙ sym (long-text s (omega arith))

-- the first 32,769 bytes of a graph text give its page
graph-cut : (print : Graph → List ℕ) (s : List ℕ) → graph_page (graph_of (take 32769 s)) print ≡ graph_page (graph_of s) print
unfolding graph_of
graph-cut print s = go (dec_le (length s) 32769)
  where
    go : Dec (length s ≤ 32769) → graph_page (graph_of (take 32769 s)) print ≡ graph_page (graph_of s) print
    go (yes h) = ap (λ (t : List ℕ). graph_page (graph_of t) print) (take_all 32769 s h)
    go (no h) = rw (lt-ltb 32768 (length (take 32769 s)) (omega (arith, length-take 32769 s)), lt-ltb 32768 (length s) (omega arith))

pub aiger-cut : (s : List ℕ) → aiger_text (take 32769 s) ≡ aiger_text s
unfolding aiger_text
aiger-cut = graph-cut (λ g. file_of (numbers_of g))

pub packed-cut : (s : List ℕ) → packed_text (take 32769 s) ≡ packed_text s
unfolding packed_text
packed-cut = graph-cut (λ g. packed_of (numbers_of g))
