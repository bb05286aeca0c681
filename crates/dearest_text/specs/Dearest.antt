-- The dearest graph of E edges (document 02, No. 11): "E self-loops marked `t` on its one vertex `a`, labels `1`/`1`, and no
-- other line". Assumes nothing.
use Rattle.std.specs.Prelude.{ℕ, true, [], ◌∷◌, ◌++◌, replicate}
use Rattle.text.specs.Quoted.{bytes}
use Rattle.text.specs.Writer.{joined}
use Rattle.assertion.specs.Graph.{Bytes, truth, Edge, Graph}
use Rattle.assertion.specs.declared.Mode.TheVariants.{Unsaid}

-- ---- the text
unfoldable pub vertex_line : Bytes
vertex_line = bytes "V\ta\n"

unfoldable pub loop_line : Bytes
loop_line = bytes "E\ta\ta\tt\t1\t1\n"

unfoldable pub dearest_text : ℕ → Bytes
dearest_text edges = vertex_line ++ joined (λ _. loop_line) edges

-- ---- the graph
abbrev pub loop : Edge
loop =
    record {
      from = 0;
      to = 0;
      marked = true;
      antecedent = truth true;
      consequent = truth true;
      antecedent_text = bytes "1";
      consequent_text = bytes "1";
    }

unfoldable pub dearest_graph : ℕ → Graph
dearest_graph edges = record { mode = Unsaid; signals = []; constants = []; vertices = bytes "a" ∷ []; edges = replicate edges loop }
