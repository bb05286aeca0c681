-- What write answers and leaves in the lent buffer (document 02, No. 6): 20 for a number of strokes outside 1 to 40, then 12
-- for a short buffer; else the graph's text stands first in the buffer, which keeps its surplus. Assumes nothing.
use Rattle.std.specs.Prelude.{Result, Ok, Err, Bool, cond, not, ◌&&◌, List, ◌++◌, ℕ, leb, length, drop}
use Rattle.text.specs.declared.Refusal.{Refusal}
use Rattle.buffer_text.specs.Text.{buffer_text}
use Rattle.buffer_graph.specs.declared.Cause.{Cause}
use Rattle.buffer_graph.specs.declared.Cause.TheVariants.{StrokesOutside, ShortBuffer}

-- the number and line of each cause: "k outside 1 to 40 is 20, line 0, before 12"
unfoldable pub refusal_of : Cause → Refusal
refusal_of StrokesOutside = record { number = 20; line = 0 }
refusal_of ShortBuffer = record { number = 12; line = 0 }

unfoldable pub is_inside : ℕ → Bool
is_inside strokes = leb 1 strokes && leb strokes 40

-- the answer, and the buffer, which a refusal leaves as it was
pub record WriteEnd : Type 0 where
  pub answer : Result ℕ Cause
  pub text : List ℕ

abbrev pub write_end : Result ℕ Cause → List ℕ → WriteEnd
write_end r t = record { answer = r; text = t }

unfoldable pub write_of : ℕ → List ℕ → WriteEnd
write_of strokes text =
    let graph = buffer_text strokes in
    cond (not (is_inside strokes)) (write_end (Err StrokesOutside) text)
    (cond (not (leb (length graph) (length text))) (write_end (Err ShortBuffer) text)
    (write_end (Ok (length graph)) (graph ++ drop (length graph) text)))
