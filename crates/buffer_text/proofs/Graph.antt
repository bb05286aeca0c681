-- The graph that the stroke buffer's text is read as. Vertex 0 is `s`, and the vertex of count n is n + 1. No contract cites
-- this. Assumes nothing.
use Prim.Native.Nat.{ℕ, zero, suc, ◌+◌, ◌-◌}
use mathlib.Core.Bool.{Bool, true, false}
use mathlib.Core.List.{List, [], ◌∷◌, ◌++◌}
use lib.Dec.{eqb}
use Rattle.text.specs.Quoted.{byte, bytes}
use Rattle.text.specs.Numbers.{digits}
use Rattle.assertion.specs.Graph.{Bytes, Expr, truth, signal, neg, conj, same, Name, Edge, Graph}
use Rattle.assertion.specs.declared.Mode.TheVariants.{Unsaid}

-- ---- formulas, as trees and as they are written
pub record Spelled : Type 0 where
  pub tree : Expr
  pub text : Bytes

abbrev pub reset : Spelled
reset = record { tree = signal 0; text = bytes "reset" }

abbrev pub enq : Spelled
enq = record { tree = signal 1; text = bytes "enq" }

abbrev pub deq : Spelled
deq = record { tree = signal 2; text = bytes "deq" }

abbrev pub empty : Spelled
empty = record { tree = signal 3; text = bytes "empty" }

abbrev pub full : Spelled
full = record { tree = signal 4; text = bytes "full" }

abbrev pub always : Spelled
always = record { tree = truth true; text = bytes "1" }

-- `!a`, `a&b`, `a=b`
abbrev pub off : Spelled → Spelled
off a = record { tree = neg a.tree; text = byte "!" ∷ a.text }

abbrev pub both : Spelled → Spelled → Spelled
both a b = record { tree = conj a.tree b.tree; text = a.text ++ (byte "&" ∷ b.text) }

abbrev pub alike : Spelled → Spelled → Spelled
alike a b = record { tree = same a.tree b.tree; text = a.text ++ (byte "=" ∷ b.text) }

-- the consequents at 0, at k and between
abbrev pub none_flags : Spelled
none_flags = both empty (off full)

abbrev pub all_flags : Spelled
all_flags = both (off empty) full

abbrev pub some_flags : Spelled
some_flags = both (off empty) (off full)

-- ---- edges
abbrev pub edge : ℕ → ℕ → Spelled → Spelled → Edge
edge f t a c =
    record {
      from = f;
      to = t;
      marked = true;
      antecedent = a.tree;
      consequent = c.tree;
      antecedent_text = a.text;
      consequent_text = c.text;
    }

-- from count n to count m
abbrev pub counting : ℕ → ℕ → Spelled → Spelled → Edge
counting n m a c = edge (suc n) (suc m) a c

-- those from count n, told whether it is 0 and whether it is k
abbrev pub edges_of : Bool → Bool → ℕ → ℕ → List Edge
edges_of true w k n = counting n 1 enq none_flags ∷ counting n 0 (off enq) none_flags ∷ []
edges_of false true k n = counting n (k - 1) deq all_flags ∷ counting n k (off deq) all_flags ∷ []
edges_of false false k n =
    counting n (n + 1) (both enq (off deq)) some_flags ∷ counting n (n - 1) (both (off enq) deq) some_flags ∷ counting n n (alike enq deq) some_flags ∷ []

abbrev pub edges_at : ℕ → ℕ → List Edge
edges_at k n = edges_of (eqb n 0) (eqb n k) k n

-- those from the counts below m
abbrev pub edges_below : ℕ → ℕ → List Edge
edges_below k zero = []
edges_below k (suc m) = edges_below k m ++ edges_at k m

abbrev pub start : Edge
start = edge 0 1 reset always

-- ---- names
abbrev pub wire : Spelled → Name
wire a = record { name = a.text; width = 1 }

abbrev pub count_name : ℕ → Bytes
count_name n = byte "n" ∷ digits n

abbrev pub names_below : ℕ → List Bytes
names_below zero = []
names_below (suc m) = names_below m ++ (count_name m ∷ [])

-- ---- the graph
abbrev pub buffer_graph : ℕ → Graph
buffer_graph k =
    record {
      mode = Unsaid;
      signals = wire reset ∷ wire enq ∷ wire deq ∷ wire empty ∷ wire full ∷ [];
      constants = [];
      vertices = bytes "s" ∷ names_below (suc k);
      edges = start ∷ edges_below k (suc k);
    }
