-- The page of the program that prints the stroke buffer's graph (document 02, No. 6): its text for as many strokes as the
-- input says, or the line of the refusal. Assumes nothing.
use Rattle.std.specs.Prelude.{Option, Some, None, cond, ◌&&◌, List, ℕ, ◌+◌, eqb, length, get_or}
use Rattle.text.specs.Quoted.{byte}
use Rattle.text.specs.Numbers.{read_number}
use Rattle.page_text.specs.Lines.{refused_line}
use Rattle.buffer_text.specs.Text.{buffer_text}
use Rattle.buffer_graph.specs.declared.Cause.TheVariants.{StrokesOutside}
use Rattle.buffer_graph.specs.Write.{refusal_of, is_inside}

-- the number that was read at the input's start, where just an LF follows it; else 0, for which there is no graph
unfoldable pub line_number : List ℕ → Option (ℕ × ℕ) → ℕ
line_number input (Some (n, end)) = cond (eqb (get_or input end 0) (byte "\n") && eqb (length input) (end + 1)) n 0
line_number input None = 0

-- how many strokes the input says: the number whose numeral, ended by LF, is all of it
unfoldable pub strokes_of : List ℕ → ℕ
strokes_of input = line_number input (read_number input 0)

-- the graph's text for so many strokes; "k outside 1 to 40 is 20, line 0"
unfoldable pub strokes_page : ℕ → List ℕ
strokes_page k = cond (is_inside k) (buffer_text k) (refused_line (refusal_of StrokesOutside))

-- THE PAGE of an input
unfoldable pub rule_text : List ℕ → List ℕ
rule_text input = strokes_page (strokes_of input)
