-- The page for a number of strokes: none is longer than 4,287 bytes, and put_page leaves it first in its buffer at each of
-- its ends. Assumes nothing.
use Rattle.std.specs.Prelude.{Result, Ok, Err}
use mathlib.Core.Path.{◌≡◌, refl, ap, ap₂, ◌∙◌}
use mathlib.Core.Bool.{Bool, true, false}
use mathlib.Core.List.{List, ◌++◌}
use Prim.Native.Nat.{ℕ, ◌≤◌}
use native.Mathlib.Nat.{zero-add}
use native.Mathlib.Omega.{arith}
use borrow.Author.Tests.{leb-true, le-leb}
use lib.Dec.{leb}
use lib.ListN.{length, take, drop, length-append}
use lib.Seq.{take_at}
use Rattle.text.specs.declared.Refusal.{Refusal}
use Rattle.text.specs.Numbers.{digits_of, digits}
use Rattle.text.specs.Writer.{Wrote}
use Rattle.text.proofs.NumberLaws.{and_both}
use Rattle.text.proofs.WriterLaws.{fits}
use Rattle.page_text.specs.Lines.{field, refused_line}
use Rattle.buffer_text.specs.Text.{buffer_text}
use Rattle.buffer_text.proofs.SizeLaws.{size-most}
use Rattle.buffer_graph.specs.declared.Cause.{Cause}
use Rattle.buffer_graph.specs.declared.Cause.TheVariants.{StrokesOutside}
use Rattle.buffer_graph.specs.Write.{refusal_of, is_inside, WriteEnd, write_end, write_of}
use Rattle.buffer_rule.specs.Page.{strokes_page}

text-fits : (k : ℕ) → is_inside k ≡ true → length (buffer_text k) ≤ 4287
unfolding is_inside
text-fits k h = let both = and_both (leb 1 k) (leb k 40) h in size-most k (leb-true 1 k both.0) (leb-true k 40 both.1)

line-size : length (refused_line (refusal_of StrokesOutside)) ≡ 13
unfolding refused_line field digits digits_of refusal_of
line-size = refl

stands-first : (page out : List ℕ) {left : List ℕ} {end : ℕ} → end ≡ length page → left ≡ page ++ drop (length page) out
    → (end ≤ length left) × (take end left ≡ page)
stands-first page out same all =
    (omega (arith, ap length all, length-append page (drop (length page) out)), ap₂ take same all ∙ take_at page (drop (length page) out) (length page) refl)

module _ (k : ℕ) (out : List ℕ) (room : length out ≡ 4287) {r : Result ℕ Cause} {left : List ℕ} (e : write_end r left ≡ write_of k out) where
  abbrev graph : List ℕ
  graph = buffer_text k

  ends-inside : is_inside k ≡ true → write_end r left ≡ write_end (Ok (length graph)) (graph ++ drop (length graph) out)
  unfolding write_of
  ends-inside h = e ∙ rw (h, le-leb (length graph) (length out) (omega (arith, text-fits k h)))

  ends_outside : is_inside k ≡ false → write_end r left ≡ write_end (Err StrokesOutside) out
  unfolding write_of
  ends_outside h = e ∙ rw h

  -- the text was written
  pub printed : {end : ℕ} → r ≡ Ok end → (end ≤ length left) × (take end left ≡ strokes_page k)
  unfolding strokes_page
  printed {end} h = by (is_inside k) refl
    where
      by : (t : Bool) → is_inside k ≡ t → (end ≤ length left) × (take end left ≡ strokes_page k)
      by true i =
          let is : r ≡ Ok (length graph) = ap (λ (w : WriteEnd). w.answer) (ends-inside i) in
          let same : end ≡ length graph = cc in
          rw i (stands-first graph out same (ap (λ (w : WriteEnd). w.text) (ends-inside i)))
      by false i =
          let is : r ≡ Err StrokesOutside = ap (λ (w : WriteEnd). w.answer) (ends_outside i) in
          let z : ◌≡◌ {A = ℕ} 0 1 = cc in absurd (omega arith)

  -- it was refused, and the line of that was written
  pub refused : {cause : Cause} {refusal : Refusal} {after : List ℕ} {end : ℕ} → r ≡ Err cause → refusal ≡ refusal_of cause
      → Wrote left after 0 end (refused_line refusal) → (end ≤ length after) × (take end after ≡ strokes_page k)
  unfolding strokes_page
  refused {cause} {refusal} {after} {end} h n w = by (is_inside k) refl
    where
      by : (t : Bool) → is_inside k ≡ t → (end ≤ length after) × (take end after ≡ strokes_page k)
      by true i =
          let is : r ≡ Ok (length graph) = ap (λ (x : WriteEnd). x.answer) (ends-inside i) in
          let z : ◌≡◌ {A = ℕ} 0 1 = cc in absurd (omega arith)
      by false i =
          let is : r ≡ Err StrokesOutside = ap (λ (x : WriteEnd). x.answer) (ends_outside i) in
          let same : cause ≡ StrokesOutside = cc in
          let as-was : left ≡ out = ap (λ (x : WriteEnd). x.text) (ends_outside i) in
          let line : List ℕ = refused_line (refusal_of StrokesOutside) in
          let put : Wrote out after 0 end line = rw (n, same, as-was) at w in
          rw i (stands-first line out (omega (arith, put.place, line-size)) (rw zero-add at (fits put (omega (arith, line-size)))))
