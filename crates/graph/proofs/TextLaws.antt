-- Laws of the lines of a text, read one after the other. Assumes nothing.
use Rattle.std.specs.Prelude.{Ok, Err}
use Prim.Native.Nat.{ℕ, ◌+◌, ◌≤◌, ◌<◌}
use mathlib.Core.Path.{◌≡◌, refl, sym, ap, ◌∙◌}
use mathlib.Core.List.{List, [], ◌∷◌}
use native.Mathlib.Numerals.{add-one}
use native.Mathlib.Omega.{arith}
use borrow.Author.Tests.{lt-ltb, le-ltb}
use lib.ListN.{length, drop, drop_of_length-le}
use lib.Seq.{drop-cons}
use Rattle.assertion.specs.Graph.{Bytes, Graph, signal_bits, constant_bits}
use Rattle.graph.specs.Pieces.{split, end_at, piece_at}
use Rattle.graph.specs.Records.{record_of}
use Rattle.graph.specs.Reading.{Step, fault, went, mode_lines, add, refused, finished, read_lines, nothing, graph_of}
use Rattle.graph.specs.Held.{line_start, line_of, answer_of, read_of}
use Rattle.graph.specs.Private.Steps.{records_of, written_of, Holds, Kept, Added, added_of}
use Rattle.graph.specs.declared.Fault.{Fault}
use Rattle.graph.specs.declared.Fault.TheVariants.{WrongShape}
use Rattle.graph.specs.declared.Cause.TheVariants.{TextTooLong, FaultyLine}
use Rattle.graph.specs.declared.CheckedGraph.{CheckedGraph}
use Rattle.graph.proofs.PieceLaws.{split-cut, split-last, split-some}
use Rattle.graph.proofs.BitLaws.{bits-some, each_left, each_right}
use Rattle.graph.proofs.ArrayLaws.{named-is, signals-are, constants-are, vertices-are, edges_are}
use Rattle.graph.proofs.HeldLaws.{Grown, line_step, nothing_grown}

-- ---- one line after the other
pub read_some : (graph : Graph) (n : ℕ) (l : Bytes) (ls : List Bytes) → (ls ≡ [] → ⊥) → {f : Fault} → add graph (record_of l) ≡ fault f → read_lines graph n (l ∷ ls) ≡ refused (FaultyLine f n)
unfolding read_lines
read_some graph n l [] h e = absurd (h refl)
read_some graph n l (x ∷ ls) h e = rw (e, read_lines)

pub read_next : (graph : Graph) (n : ℕ) (l : Bytes) (ls : List Bytes) → (ls ≡ [] → ⊥) → {more : Graph} → add graph (record_of l) ≡ went more → read_lines graph n (l ∷ ls) ≡ read_lines more (n + 1) ls
unfolding read_lines
read_next graph n l [] h e = absurd (h refl)
read_next graph n l (x ∷ ls) h e = rw (e, read_lines)

module _ (text : Bytes) (graph : Graph) (n at : ℕ) where
  lines_end : length text ≤ at → read_lines graph n (split 10 (drop at text)) ≡ finished graph
  unfolding read_lines split
  lines_end h = rw (drop_of_length-le text h)

  lines_unended : {end : ℕ} → at < length text → end ≡ end_at 10 text at → end ≡ length text → read_lines graph n (split 10 (drop at text)) ≡ refused (FaultyLine WrongShape n)
  unfolding read_lines
  lines_unended {end} l e z = rw (split-last 10 text at end e (omega arith), drop-cons text at 0 l)

  module _ {end : ℕ} (e : end ≡ end_at 10 text at) (l : end < length text) where
    lines-fault : {f : Fault} → add graph (record_of (piece_at 10 text at)) ≡ fault f → read_lines graph n (split 10 (drop at text)) ≡ refused (FaultyLine f n)
    lines-fault a =
        rw (split-cut 10 text at end e l) (read_some graph n (piece_at 10 text at) (split 10 (drop (end + 1) text)) (split-some 10 (drop (end + 1) text)) a)

    lines_next : {more : Graph} → add graph (record_of (piece_at 10 text at)) ≡ went more → read_lines graph n (split 10 (drop at text)) ≡ read_lines more (n + 1) (split 10 (drop (end + 1) text))
    lines_next a =
        rw (split-cut 10 text at end e l) (read_next graph n (piece_at 10 text at) (split 10 (drop (end + 1) text)) (split-some 10 (drop (end + 1) text)) a)

-- ---- before each line: the arrays hold the graph of the lines before it, and the result of the lines that
-- are left is the result of all
pub record Going (text : Bytes) (g : CheckedGraph) (at line : ℕ) : Type 0 where
  pub graph : Graph
  pub grown : Grown text graph
  pub arrays : g ≡ written_of text graph
  pub start : at ≡ line_start text (records_of graph)
  pub rest : read_lines graph line (split 10 (drop at text)) ≡ read_lines nothing 1 (split 10 text)

pub going_start : (text : Bytes) {g : CheckedGraph} → g ≡ written_of text nothing → Going text g 0 1
unfolding line_start mode_lines
going_start text h = record { graph = nothing; grown = nothing_grown text; arrays = h; start = refl; rest = refl }

-- what a step answered
added-fault : (text : Bytes) (g : CheckedGraph) (s : Step) {x : Added} {f : Fault} → x ≡ added_of text g s → x.judged ≡ Err f → s ≡ fault f
unfolding added_of
added-fault text g (fault k) e h = let j = ap (λ (a : Added). a.judged) e in cc
added-fault text g (went more) {x} {f} e h = let j : x.judged ≡ Ok tt = ap (λ (a : Added). a.judged) e in let z : ◌≡◌ {A = ℕ} 0 1 = cc in absurd (omega arith)

added-went : (text : Bytes) (g : CheckedGraph) (s : Step) {x : Added} → x ≡ added_of text g s → x.judged ≡ Ok tt → (more : Graph) × (s ≡ went more) × (x.graph ≡ written_of text more)
unfolding added_of
added-went text g (fault k) {x} e h = let j : x.judged ≡ Err k = ap (λ (a : Added). a.judged) e in let z : ◌≡◌ {A = ℕ} 0 1 = cc in absurd (omega arith)
added-went text g (went more) e h = (more, refl, ap (λ (a : Added). a.graph) e)

module _ (text : Bytes) (g : CheckedGraph) (at line : ℕ) (h : Going text g at line) where
  pub going_holds : Holds text g h.graph
  going_holds = record { arrays = h.arrays; names = h.grown.names; widths = h.grown.widths; vertices = h.grown.vertices }

  pub going_kept : Kept g
  unfolding signal_bits constant_bits
  going_kept =
      let w = h.grown in
      let ss = h.graph.signals in
      let cs = h.graph.constants in
      record {
        named-few = omega (
          arith,
          named-is text g h.graph going_holds,
          signals-are text g h.graph going_holds,
          constants-are text g h.graph going_holds,
          bits-some ss (each_left ss cs w.widths),
          bits-some cs (each_right ss cs w.widths),
        );
        signals-few = rw (signals-are text g h.graph going_holds) w.signals-few;
        constants-few = rw (constants-are text g h.graph going_holds) w.constants-few;
        vertices-few = rw (vertices-are text g h.graph going_holds) w.vertices-few;
        edges_few = rw (edges_are text g h.graph going_holds) w.edges_few;
      }

  this_line : line_of text (records_of h.graph) ≡ piece_at 10 text at
  unfolding line_of
  this_line = rw h.start

  module _ {end : ℕ} (e : end ≡ end_at 10 text at) (l : end < length text) {x : Added} (a : x ≡ added_of text g (add h.graph (record_of (line_of text (records_of h.graph))))) where
    pub going_next : x.judged ≡ Ok tt → Going text x.graph (end + 1) (line + 1)
    unfolding line_start
    going_next k =
        let w = added-went text g (add h.graph (record_of (line_of text (records_of h.graph)))) a k in
        let s = line_step text h.graph h.grown w.1 in
        record {
          graph = w.0;
          grown = s.grown;
          arrays = w.2;
          start = rw (s.count, add-one (records_of h.graph), ← h.start) (ap (λ (i : ℕ). i + 1) e);
          rest = sym (lines_next text h.graph line at e l (ap (λ (b : Bytes). add h.graph (record_of b)) (sym this_line) ∙ w.1)) ∙ h.rest;
        }

    going_fault : {f : Fault} → x.judged ≡ Err f → refused (FaultyLine f line) ≡ read_lines nothing 1 (split 10 text)
    going_fault k =
        let w = added-fault text g (add h.graph (record_of (line_of text (records_of h.graph)))) a k in
        sym (lines-fault text h.graph line at e l (ap (λ (b : Bytes). add h.graph (record_of b)) (sym this_line) ∙ w)) ∙ h.rest

-- ---- the answers
pub read-long : (text : Bytes) → 32768 < length text → Err TextTooLong ≡ read_of text
unfolding read_of graph_of answer_of
read-long text h = rw (lt-ltb 32768 (length text) h)

module _ (text : Bytes) (short : length text ≤ 32768) (g : CheckedGraph) (at line : ℕ) (h : Going text g at line) where
  whole : graph_of text ≡ read_lines nothing 1 (split 10 text)
  unfolding graph_of
  whole = rw (le-ltb 32768 (length text) short)

  pub read_unended : {end : ℕ} → at < length text → end ≡ end_at 10 text at → end ≡ length text → Err (FaultyLine WrongShape line) ≡ read_of text
  unfolding read_of answer_of
  read_unended l e z = ap (answer_of text) (sym (lines_unended text h.graph line at l e z) ∙ h.rest ∙ sym whole)

  pub read-fault : {end : ℕ} → end ≡ end_at 10 text at → end < length text → {x : Added} → x ≡ added_of text g (add h.graph (record_of (line_of text (records_of h.graph)))) → {f : Fault} → x.judged ≡ Err f → Err (FaultyLine f line) ≡ read_of text
  unfolding read_of answer_of
  read-fault e l a k = ap (answer_of text) (going_fault text g at line h e l a k ∙ sym whole)

  pub read_end_lem : length text ≤ at → answer_of text (finished h.graph) ≡ read_of text
  unfolding read_of
  read_end_lem l = ap (answer_of text) (sym (lines_end text h.graph line at l) ∙ h.rest ∙ sym whole)
