-- What write answers and leaves in the lent buffer (document 02, No. 11): 24 for a number of edges outside 1 to 128, then 12
-- for a short buffer; else the graph's text stands first in the buffer, which keeps its surplus. Assumes nothing.
use Rattle.std.specs.Prelude.{Result, Ok, Err, Bool, cond, not, ◌&&◌, List, ◌++◌, ℕ, leb, length, drop}
use Rattle.text.specs.declared.Refusal.{Refusal}
use Rattle.dearest_text.specs.Dearest.{dearest_text}
use Rattle.dearest_graph.specs.declared.Cause.{Cause}
use Rattle.dearest_graph.specs.declared.Cause.TheVariants.{EdgesOutside, ShortBuffer}

-- the number and line of each cause: "E outside 1 to 128 is 24, line 0, before 12"
unfoldable pub refusal_of : Cause → Refusal
refusal_of EdgesOutside = record { number = 24; line = 0 }
refusal_of ShortBuffer = record { number = 12; line = 0 }

unfoldable pub is_inside : ℕ → Bool
is_inside edges = leb 1 edges && leb edges 128

-- the answer, and the buffer, which a refusal leaves as it was
pub record WriteEnd : Type 0 where
  pub answer : Result ℕ Cause
  pub text : List ℕ

abbrev pub write_end : Result ℕ Cause → List ℕ → WriteEnd
write_end r t = record { answer = r; text = t }

unfoldable pub write_of : ℕ → List ℕ → WriteEnd
write_of edges text =
    let graph = dearest_text edges in
    cond (not (is_inside edges)) (write_end (Err EdgesOutside) text)
    (cond (not (leb (length graph) (length text))) (write_end (Err ShortBuffer) text)
    (write_end (Ok (length graph)) (graph ++ drop (length graph) text)))
