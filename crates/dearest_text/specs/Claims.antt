-- What is claimed of graphs without operators, and of the dearest of them (document 02, No. 11). Assumes nothing.
use Rattle.std.specs.Prelude.{Ok, ℕ, ◌+◌, ◌-◌, ◌*◌, ◌≤◌, ◌≡◌, Bool, false, List, [], ◌∷◌, length}
use Rattle.assertion.specs.Graph.{Bytes, Expr, truth, signal, constant, neg, Edge, Graph}
use Rattle.graph.specs.Reading.{accepted, graph_of}
use Rattle.builder.specs.Build.{build_of}
use Rattle.dearest_text.specs.Dearest.{dearest_graph}

-- a formula without operators, so with none of `& ^ | =` and no `==`: `0` or `1`, a bit of a signal or of a constant, or `!` of
-- such a formula. Brackets leave no trace in an `Expr`
pub data NoOperator : Expr → Type 0 where
  is-truth : (b : Bool) → NoOperator (truth b)
  is_signal : (i : ℕ) → NoOperator (signal i)
  is-constant : (j : ℕ) → NoOperator (constant j)
  is-neg : {x : Expr} → NoOperator x → NoOperator (neg x)

abbrev pub NoOperators : List Edge → Type 0
NoOperators [] = Unit {0}
NoOperators (e ∷ es) = NoOperator e.antecedent × NoOperator e.consequent × NoOperators es

-- the text is accepted as the graph g, which has so many edges and no operators. Its mode, vertices, marks, names and widths
-- are any
pub record Operatorless (edges : ℕ) (text : Bytes) (g : Graph) : Type 0 where
  pub read : graph_of text ≡ accepted g
  pub count : length g.edges ≡ edges
  pub no_operators : NoOperators g.edges

-- THE CLAIM, of a text that was written for E edges
pub record Dearest (edges : ℕ) (text : Bytes) : Type 0 where
  -- "write the graph that costs just that": it is accepted as that graph, which has E edges and no operators
  pub graph : Operatorless edges text (dearest_graph edges)
  -- and build makes 10E − 2 gates of it, wherever it is lent the 24E + 2 numbers that are due
  pub built : (net : List ℕ) → 24 * edges + 2 ≤ length net → (build_of false text net).answer ≡ Ok (10 * edges - 2)
  -- "With checked left out, show that E edges (1 to 128) and no operators cost at most 10E − 2 gates"
  pub most : (other : Bytes) (g : Graph) (net : List ℕ) (made : ℕ) → Operatorless edges other g
      → (build_of false other net).answer ≡ Ok made → made ≤ 10 * edges - 2
