-- Build: graph text to the monitor's numbers, with the second output checked or without. Refused as the graph text is;
-- then with 11 where M would pass 4,095; then with 12 where the buffer is too short; else the numbers stand first in the
-- buffer, which keeps its surplus, and the number of gates made is answered. Assumes nothing.
use Rattle.std.specs.Prelude.{Result, Ok, Err, Bool, cond, not, List, ◌++◌, ℕ, ◌+◌, ◌*◌, leb, length, drop}
use Rattle.text.specs.declared.Refusal.{Refusal}
use Rattle.assertion.specs.Graph.{Bytes, Graph, signal_bits, constant_bits}
use Rattle.graph.specs.Reading as reading
use Rattle.graph.specs.Reading.{Outcome, refused, accepted, graph_of}
use Rattle.circuit.specs.Checked.{gates_with}
use Rattle.circuit.specs.Numbers.{numbers_with}
use Rattle.builder.specs.declared.Cause.{Cause}
use Rattle.builder.specs.declared.Cause.TheVariants.{GraphText, TooManyVariables, ShortBuffer}

-- the number and line of each cause
unfoldable pub refusal_of : Cause → Refusal
refusal_of (GraphText cause) = reading.refusal_of cause
refusal_of TooManyVariables = record { number = 11; line = 0 }
refusal_of ShortBuffer = record { number = 12; line = 0 }

-- M = I + L + A of the monitor of a graph, with checked or without
unfoldable pub variables_of : Bool → Graph → ℕ
variables_of checked g = (1 + signal_bits g) + (constant_bits g + 2 * length g.edges) + length (gates_with checked g)

-- what a build answers, and what it leaves
pub record BuildEnd : Type 0 where
  pub answer : Result ℕ Cause
  pub net : List ℕ

abbrev pub build_end : Result ℕ Cause → List ℕ → BuildEnd
build_end r n = record { answer = r; net = n }

unfoldable pub build_as : Bool → Outcome → List ℕ → BuildEnd
build_as checked (refused cause) net = build_end (Err (GraphText cause)) net
build_as checked (accepted g) net =
    let n = numbers_with checked g in
    cond (not (leb (variables_of checked g) 4095)) (build_end (Err TooManyVariables) net)
    (cond (not (leb (length n) (length net))) (build_end (Err ShortBuffer) net)
    (build_end (Ok (length (gates_with checked g))) (n ++ drop (length n) net)))

-- "Build is told whether to add it"
unfoldable pub build_of : Bool → Bytes → List ℕ → BuildEnd
build_of checked text net = build_as checked (graph_of text) net
