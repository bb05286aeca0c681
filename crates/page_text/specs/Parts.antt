-- The two parts of the monitor program's input: graph, a line `T` (the first such line), trace. Assumes nothing.
use Rattle.std.specs.Prelude.{Bool, true, cond, ◌&&◌, List, [], ◌∷◌, ℕ, suc, ◌+◌, eqb, get_or, take, drop}
use Rattle.text.specs.Quoted.{byte}

-- how many bytes stand before the first line that is just `T` and its LF, or all where there is none; `starts`
-- tells whether a line starts here
unfoldable pub bytes_before : Bool → List ℕ → ℕ
bytes_before starts [] = 0
bytes_before starts (b ∷ s) =
    cond (starts && (eqb b (byte "T") && eqb (get_or s 0 0) (byte "\n"))) 0 (suc (bytes_before (eqb b (byte "\n")) s))

abbrev pub graph_length : List ℕ → ℕ
graph_length input = bytes_before true input

unfoldable pub graph_part : List ℕ → List ℕ
graph_part input = take (graph_length input) input

-- what stands after the line `T`; no `T`: the empty trace
unfoldable pub trace_part : List ℕ → List ℕ
trace_part input = drop (graph_length input + 2) input
