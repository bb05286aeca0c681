-- What the code holds of an accepted text is its graph with the terminal edges marked, and what circuit asks of
-- it. Assumes nothing.
use Rattle.std.specs.Prelude.{Ok}
use mathlib.Core.Path.{◌≡◌, refl, sym, ◌∙◌}
use mathlib.Core.Bool.{Bool, false}
use mathlib.Core.List.{List, [], ◌∷◌, ◌++◌}
use Prim.Native.Nat.{ℕ, zero, suc, ◌+◌, ◌≤◌, ◌<◌}
use native.Mathlib.Omega.{arith}
use borrow.Author.Tests.{le-ltb}
use lib.ListN.{length, get_or, take, drop, length-append, length-take, get_or-map}
use lib.Seq.{ext_get_or, get_or-take}
use Rattle.formula.specs.Grammar.{Tree, tree_of, depth_of}
use Rattle.assertion.specs.Graph as G
use Rattle.assertion.specs.Graph.{Bytes, Run, signals_from, constants_from, Expr, Name, Edge, Graph, bits_of, signal_bits, constant_bits}
use Rattle.graph.specs.Pieces.{Declared, placed}
use Rattle.graph.specs.Reading.{names_of, judged_tree, judged_formula, tree_expr, graph_of, accepted}
use Rattle.graph.specs.Meaning.{EachWidth, Named, bit_in, Means}
use Rattle.graph.specs.Meaning.Named.{a_signal, a-constant}
use Rattle.graph.specs.Meaning.Means.{one_bit, bit_at_index, compared, is_zero, is_one, inverted, bracketed, both, some, just_one, both-alike}
use Rattle.graph.specs.Held.{no_arc, held_as, held_of}
use Rattle.graph.specs.declared.Arc.{Arc}
use Rattle.graph.specs.Claims.{FormulaSound, EdgeSound}
use Rattle.graph.proofs.BitLaws.{bits-append, bits-some}
use Rattle.graph.proofs.HeldLaws.{sound}
use Rattle.circuit.proofs.Fits.{RunFits, Scoped, EdgeFits, AllFit, Fits}
use Rattle.builder.proofs.EdgeLaws.{from-length, with_mark, choose, chosen, length-chosen}
use Rattle.builder.specs.Private.Machine.{Bounded}
use Rattle.builder.specs.Private.Edges.{names_in, edge_in, edges_from, edges_in, ArcGood, GraphGood}

-- ---- formulas
module _ (ss cs : List Name) where
  bits_parted : (xs before : List Name) (x : Name) (after : List Name) → xs ≡ before ++ (x ∷ after) → bits_of before + x.width ≤ bits_of xs
  unfolding bits_of
  bits_parted xs before x after e = rw e (omega (arith, bits-append before (x ∷ after)))

  run_fits : (n : Bytes) (r : Run) (w : ℕ) → Named ss cs n r w → RunFits (bits_of ss) (bits_of cs) w r
  run_fits n r w (a_signal before after v e) = bits_parted ss before (record { name = n; width = v }) after e
  run_fits n r w (a-constant before after v e) = bits_parted cs before (record { name = n; width = v }) after e

  bit_scoped : (r : Run) (i w : ℕ) → RunFits (bits_of ss) (bits_of cs) w r → i < w → Scoped (bits_of ss) (bits_of cs) (bit_in r i)
  unfolding bit_in
  bit_scoped (signals_from j) i w h l = omega arith
  bit_scoped (constants_from j) i w h l = omega arith

  -- what a formula means names what there is
  scoped : (s : Bytes) (t : Tree) (x : Expr) → Means ss cs s t x → Scoped (bits_of ss) (bits_of cs) x
  scoped s t x (one_bit p n r d) = bit_scoped r 0 1 (run_fits (take n (drop p s)) r 1 d) (omega arith)
  scoped s t x (bit_at_index p n i w r d l) = bit_scoped r i w (run_fits (take n (drop p s)) r w d) l
  scoped s t x (compared p n q m w a b d e) = (run_fits (take n (drop p s)) a w d, run_fits (take m (drop q s)) b w e)
  scoped s t x is_zero = tt
  scoped s t x is_one = tt
  scoped s t x (inverted e y h) = scoped s e y h
  scoped s t x (bracketed e y h) = scoped s e y h
  scoped s t x (both e f y z h k) = (scoped s e y h, scoped s f z k)
  scoped s t x (some e f y z h k) = (scoped s e y h, scoped s f z k)
  scoped s t x (just_one e f y z h k) = (scoped s e y h, scoped s f z k)
  scoped s t x (both-alike e f y z h k) = (scoped s e y h, scoped s f z k)

  module _ (s : Bytes) (x : Expr) (f : FormulaSound ss cs s x) where
    fits-formula : Scoped (bits_of ss) (bits_of cs) x
    fits-formula = scoped s f.parse x f.means

    fine : judged_formula (placed 0 (ss ++ cs)) s ≡ (Ok tt)
    unfolding judged_tree
    fine = rw (f.parsed, le-ltb 16 (depth_of f.parse) f.shallow, f.names-known, f.widths_fit)

    means : tree_expr (bits_of ss) (placed 0 (ss ++ cs)) s (tree_of s) ≡ x
    unfolding tree_expr
    means = rw f.parsed (sym f.resolves)

-- the names of a graph keep to the limits
placed-bounded : (p : ℕ) (xs : List Name) → EachWidth xs → p + bits_of xs ≤ 69 → Bounded (placed p xs)
unfolding placed bits_of
placed-bounded p [] h l = tt
placed-bounded p (x ∷ xs) h l = (omega arith, h.0.most, placed-bounded (p + x.width) xs h.1 (omega arith))

-- ---- edges
module _ (text : Bytes) (ss cs : List Name) (vs : List Bytes) (t : Bool) (a : Arc) (e : Edge) (w : EdgeSound text ss cs vs t a e) where
  edge-held : edge_in text (placed 0 (ss ++ cs)) (bits_of ss) a ≡ with_mark t e
  unfolding edge_in
  edge-held =
      rw (
        w.from_is,
        w.to_is,
        w.terminal-is,
        w.antecedent-at.bytes,
        w.consequent-at.bytes,
        means ss cs e.antecedent_text e.antecedent w.antecedent_sound,
        means ss cs e.consequent_text e.consequent w.consequent_sound,
      )

  arc_good : ArcGood text (placed 0 (ss ++ cs)) (length vs) a
  arc_good =
      record {
        from = rw w.from_is w.from-known;
        fine = record {
          left = rw w.antecedent-at.bytes (fine ss cs e.antecedent_text e.antecedent w.antecedent_sound);
          right = rw w.consequent-at.bytes (fine ss cs e.consequent_text e.consequent w.consequent_sound);
        };
      }

  edge-fits : EdgeFits (bits_of ss) (bits_of cs) (length vs) e
  edge-fits =
      record {
        antecedent = fits-formula ss cs e.antecedent_text e.antecedent w.antecedent_sound;
        consequent = fits-formula ss cs e.consequent_text e.consequent w.consequent_sound;
        from = w.from-known;
        to = w.to-known;
      }

no_edge : Edge
no_edge = record { from = 0; to = 0; marked = false; antecedent = G.truth false; consequent = G.truth false; antecedent_text = []; consequent_text = [] }

from_at : (text : Bytes) (ns : List Declared) (s : ℕ) (arcs : List Arc) (d : Edge) (i : ℕ) → i < length arcs → get_or (edges_from text ns s arcs) i d ≡ edge_in text ns s (get_or arcs i no_arc)
from_at text ns s [] d i h = absurd (omega arith)
from_at text ns s (a ∷ arcs) d zero h = refl
from_at text ns s (a ∷ arcs) d (suc i) h = from_at text ns s arcs d i (omega arith)

all_fit : (s k v : ℕ) (es : List Edge) → ((i : ℕ) → i < length es → EdgeFits s k v (get_or es i no_edge)) → AllFit s k v es
all_fit s k v [] h = tt
all_fit s k v (e ∷ es) h = (h 0 (omega arith), all_fit s k v es (λ i l. h (suc i) (omega arith)))

-- ---- an accepted text
module _ (text : Bytes) {graph : Graph} (read : graph_of text ≡ accepted graph) where
  names-held : names_in text (held_of text graph) ≡ names_of graph
  unfolding held_of held_as
  names-held = (sound text read).names-held

  pub edges-held : edges_in text (held_of text graph) ≡ chosen graph graph.edges
  unfolding edges_in held_of held_as signal_bits
  edges-held =
      let w = sound text read in
      let arcs = (held_of text graph).arcs in
      let E = length graph.edges in
      let ns = names_of graph in
      let n : length (edges_from text ns (bits_of graph.signals) (take E arcs)) ≡ E = from-length text ns (bits_of graph.signals) (take E arcs) ∙ rw length-take (omega (arith, w.arcs-long, w.edges_few)) in
      let m : length (take E arcs) ≡ E = rw length-take (omega (arith, w.arcs-long, w.edges_few)) in
      rw names-held
      (ext_get_or (choose graph no_edge) (edges_from text ns (bits_of graph.signals) (take E arcs)) (chosen graph graph.edges) (n ∙ sym (length-chosen graph graph.edges))
      (λ i h.
      let h2 : i < E = omega (arith, n) in
      from_at text ns (bits_of graph.signals) (take E arcs) (choose graph no_edge) i (omega (arith, m))
      ∙ rw (get_or-take E arcs i no_arc h2)
      (edge-held text graph.signals graph.constants graph.vertices _ (get_or arcs i no_arc) (get_or graph.edges i no_edge) (w.edge_at i no_edge h2))
      ∙ sym (get_or-map (choose graph) graph.edges i no_edge)))

  pub bounded : Bounded (names_in text (held_of text graph))
  unfolding signal_bits constant_bits
  bounded =
      let w = sound text read in
      rw names-held (placed-bounded 0 (graph.signals ++ graph.constants) w.widths (omega (arith, w.signals-few, w.constants-few, bits-append graph.signals graph.constants)))

  pub good : GraphGood text (held_of text graph)
  unfolding held_of held_as signal_bits constant_bits
  good =
      let w = sound text read in
      record {
        each = λ i h. rw names-held
            (arc_good text graph.signals graph.constants graph.vertices _ (get_or (held_of text graph).arcs i no_arc) (get_or graph.edges i no_edge) (w.edge_at i no_edge h));
        bounded = bounded;
        named = omega (arith, bits-some (graph.signals ++ graph.constants) w.widths, bits-append graph.signals graph.constants, length-append graph.signals graph.constants);
        signals = w.signals-few;
        constants = w.constants-few;
        vertices = w.vertices-few;
        edges = w.edges_few;
        arcs = w.arcs-long;
      }

  pub fits : Fits graph
  unfolding signal_bits constant_bits
  fits =
      let w = sound text read in
      record {
        constants = w.constants-few;
        signals = w.signals-few;
        vertices = w.some-vertex;
        edges = all_fit (signal_bits graph) (constant_bits graph) (length graph.vertices) graph.edges
            (λ i h. edge-fits text graph.signals graph.constants graph.vertices _ (get_or (held_of text graph).arcs i no_arc) (get_or graph.edges i no_edge) (w.edge_at i no_edge h));
      }
