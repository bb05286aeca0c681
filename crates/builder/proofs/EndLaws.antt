-- The numbers stored are the monitor's, and what a build answers by cases. Assumes nothing.
use Rattle.std.specs.Prelude.{Ok, Err}
use mathlib.Core.Path.{◌≡◌, refl, sym, ap, subst, ◌∙◌}
use mathlib.Core.Bool.{Bool, true, false}
use mathlib.Core.List.{List, ◌++◌, append_assoc}
use Prim.Native.Nat.{ℕ, ◌+◌, ◌-◌, ◌*◌, ◌≤◌, ◌<◌}
use native.Mathlib.Nat.{add-zero}
use native.Mathlib.Omega.{arith}
use borrow.Author.Tests.{le-leb, lt-leb}
use lib.ListN.{length, drop}
use Rattle.assertion.specs.Graph.{Bytes, Graph, signal_bits, constant_bits}
use Rattle.graph.specs.Reading.{accepted, graph_of}
use Rattle.graph.specs.Held.{held_as, held_of}
use Rattle.graph.specs.Private.Steps.{Kept}
use Rattle.graph.specs.declared.CheckedGraph.{CheckedGraph}
use Rattle.circuit.specs.Build.{first_edge_latch, first_gate}
use Rattle.circuit.specs.Checked.{gates_with, outputs_with}
use Rattle.circuit.specs.Numbers.{constant_latches, operands, numbers_with}
use Rattle.circuit.specs.Count.{gate_formula_with}
use Rattle.circuit.proofs.CheckedCount.{count_with}
use Rattle.builder.specs.declared.Cause.TheVariants.{TooManyVariables, ShortBuffer}
use Rattle.builder.specs.Build.{variables_of, build_end, build_as}
use Rattle.builder.specs.Private.Edges.{GraphGood, Accepted}
use Rattle.builder.specs.Private.Monitor.{outputs_asked, front_of, edge_pairs, gates_in, front_in, numbers_in, monitor_edges}
use Rattle.builder.proofs.EdgeLaws.{chosen}
use Rattle.builder.proofs.BuildLaws.{gates-are, outputs-are, latches-are}
use Rattle.builder.proofs.LayoutLaws as layout
use Rattle.builder.proofs.GraphLaws as held

outputs-count : (checked : Bool) (g : Graph) → outputs_asked checked ≡ length (outputs_with checked g)
outputs-count true g = refl
outputs-count false g = refl

module _ (checked : Bool) (text : Bytes) {graph : Graph} (read : graph_of text ≡ accepted graph) where
  gates_in_lem : gates_in checked text (held_of text graph) ≡ gates_with checked graph
  unfolding gates_in held_of held_as first_edge_latch first_gate
  gates_in_lem = rw (held.edges-held text read) (sym (gates-are graph checked))

  numbers_in_lem : numbers_in checked text (held_of text graph) ≡ numbers_with checked graph
  unfolding numbers_in front_in front_of numbers_with held_of held_as first_edge_latch first_gate
  numbers_in_lem =
      let M = monitor_edges (signal_bits graph) (length graph.vertices) (chosen graph graph.edges) (first_edge_latch graph) (first_gate graph) in
      let E = edge_pairs M.happy M.condemned in
      let C = constant_latches (2 + signal_bits graph) (constant_bits graph) in
      let O = outputs_with checked graph in
      let G = operands (gates_with checked graph) in
      rw (gates_in_lem, held.edges-held text read, layout.second-is checked (signal_bits graph) (length graph.vertices) (chosen graph graph.edges) (first_edge_latch graph) (first_gate graph), ← outputs-are graph checked, outputs-count checked graph, latches-are graph, append_assoc C (E ++ O) G, append_assoc E O G, add-zero (2 + signal_bits graph))

held_fields : (text : Bytes) (g : CheckedGraph) (graph : Graph) → g ≡ held_of text graph → (g.signals ≡ signal_bits graph) × (g.constants ≡ constant_bits graph) × (g.edges ≡ length graph.edges)
unfolding held_of held_as
held_fields text g graph e = rw e (refl, refl, refl)

-- ---- what a build answers
module _ (checked : Bool) (graph : Graph) (net : List ℕ) where
  many_of : 4095 < variables_of checked graph → build_end (Err TooManyVariables) net ≡ build_as checked (accepted graph) net
  unfolding build_as
  many_of h = rw (lt-leb (variables_of checked graph) 4095 h)

  short_of : variables_of checked graph ≤ 4095 → length net < length (numbers_with checked graph) → build_end (Err ShortBuffer) net ≡ build_as checked (accepted graph) net
  unfolding build_as
  short_of h l = rw (le-leb (variables_of checked graph) 4095 h, lt-leb (length (numbers_with checked graph)) (length net) l)

  done_of : {r : ℕ} {out : List ℕ} → variables_of checked graph ≤ 4095 → length (numbers_with checked graph) ≤ length net → r ≡ length (gates_with checked graph) →
      out ≡ numbers_with checked graph ++ drop (length (numbers_with checked graph)) net → build_end (Ok r) out ≡ build_as checked (accepted graph) net
  unfolding build_as
  done_of h l c o = rw (le-leb (variables_of checked graph) 4095 h, le-leb (length (numbers_with checked graph)) (length net) l, c, o)

-- ---- by what the code holds
module _ (text : Bytes) (g : CheckedGraph) (a : Accepted text g) where
  pub good : GraphGood text g
  good = subst (GraphGood text) (sym a.held) (held.good text a.read)

  pub kept : Kept g
  kept = record { named-few = good.named; signals-few = good.signals; constants-few = good.constants; vertices-few = good.vertices; edges_few = good.edges }

  fields : (g.signals ≡ signal_bits a.graph) × (g.constants ≡ constant_bits a.graph) × (g.edges ≡ length a.graph.edges)
  fields = held_fields text g a.graph a.held

  same_graph : (graph : Graph) → graph_of text ≡ accepted graph → a.graph ≡ graph
  same_graph graph q = let r = a.read in cc

  module _ (checked : Bool) where
    gates_of_lem : gates_in checked text g ≡ gates_with checked a.graph
    gates_of_lem = rw a.held (gates_in_lem checked text a.read)

    numbers_of_lem : numbers_in checked text g ≡ numbers_with checked a.graph
    numbers_of_lem = rw a.held (numbers_in_lem checked text a.read)

    -- the counted gates are the gates
    pub counted : {r : ℕ} → ((graph : Graph) → graph_of text ≡ accepted graph → g ≡ held_of text graph → r ≡ gate_formula_with checked graph) → r ≡ length (gates_in checked text g)
    counted h = h a.graph a.read a.held ∙ sym (count_with checked a.graph (held.fits text a.read)) ∙ ap length (sym gates_of_lem)

    variables : variables_of checked a.graph ≡ (1 + g.signals) + (g.constants + 2 * g.edges) + length (gates_in checked text g)
    unfolding variables_of
    variables = omega (arith, fields.0, fields.1, fields.2, ap length gates_of_lem)

    pub size : length (numbers_in checked text g) ≡ 5 + outputs_asked checked + 2 * (g.constants + 2 * g.edges) + 2 * length (gates_in checked text g)
    size = omega (arith, layout.numbers-length checked text g good)

    module _ (net : List ℕ) {r : ℕ} (c : r ≡ length (gates_in checked text g)) (graph : Graph) (q : graph_of text ≡ accepted graph) where
      pub many : 4095 - (1 + g.signals + (g.constants + 2 * g.edges)) < r → build_end (Err TooManyVariables) net ≡ build_as checked (accepted graph) net
      many h = many_of checked graph net (rw (same_graph graph q) at (let w : 4095 < variables_of checked a.graph = omega (arith, variables) in w))

      pub short : {o : ℕ} → o ≡ outputs_asked checked → r ≤ 4095 - (1 + g.signals + (g.constants + 2 * g.edges)) → length net < 5 + o + 2 * (g.constants + 2 * g.edges) + 2 * r →
          build_end (Err ShortBuffer) net ≡ build_as checked (accepted graph) net
      short k h l =
          let few : variables_of checked a.graph ≤ 4095 = omega (arith, variables, good.signals, good.constants, good.edges) in
          let long : length net < length (numbers_with checked a.graph) = omega (arith, size, ap length numbers_of_lem) in
          short_of checked graph net (rw (same_graph graph q) at few) (rw (same_graph graph q) at long)

      pub done : {o made : ℕ} {out : List ℕ} → o ≡ outputs_asked checked → r ≤ 4095 - (1 + g.signals + (g.constants + 2 * g.edges)) → 5 + o + 2 * (g.constants + 2 * g.edges) + 2 * r ≤ length net →
          made ≡ length (gates_in checked text g) → out ≡ numbers_in checked text g ++ drop (length (numbers_in checked text g)) net → build_end (Ok made) out ≡ build_as checked (accepted graph) net
      done k h l m o =
          let few : variables_of checked a.graph ≤ 4095 = omega (arith, variables, good.signals, good.constants, good.edges) in
          let long : length (numbers_with checked a.graph) ≤ length net = omega (arith, size, ap length numbers_of_lem) in
          let all : _ ≡ length (gates_with checked a.graph) = m ∙ ap length gates_of_lem in
          done_of checked graph net (rw (same_graph graph q) at few) (rw (same_graph graph q) at long) (rw (same_graph graph q) at all) (rw (numbers_of_lem, same_graph graph q) at o)
