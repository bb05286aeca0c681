-- The monitor of a graph: document 01's section "Building", clause by clause. Assumes nothing.
use Rattle.std.specs.Prelude.{ℕ, zero, suc, ◌+◌, ◌*◌, true, false, cond, List, [], ◌∷◌, ◌++◌, length, get_or, eqb}
use Rattle.netlist.specs.Literals.{literal_of}
use Rattle.assertion.specs.Graph.{Run, signals_from, constants_from, Expr, truth, signal, constant, neg, conj, disj, xor, same, alike, Edge, Graph, signal_bits, constant_bits, is_terminal}
use Rattle.circuit.specs.Gates.{lit, inv, Gate, gate, Piece, and_of, or_of, xor_of, same_of, after}

-- ---- variables: 0 is false; inputs are init, then the signal bits; latches are the constant bits, then
-- happy and condemned for each edge; then come the gates
abbrev pub init : ℕ
init = 1

abbrev pub signal_variable : ℕ → ℕ
signal_variable i = 2 + i

abbrev pub constant_variable : ℕ → ℕ → ℕ
constant_variable s j = 2 + s + j

-- the variable of the first edge's happy latch; its condemned latch is the next, and so on
unfoldable pub first_edge_latch : Graph → ℕ
first_edge_latch g = 2 + signal_bits g + constant_bits g

unfoldable pub first_gate : Graph → ℕ
first_gate g = first_edge_latch g + 2 * length g.edges

-- ---- an AND of literals in order, one gate for each further one; of none: literal 1
abbrev pub and_from : ℕ → ℕ → List ℕ → Piece
and_from n so [] = record { gates = []; out = so }
and_from n so (t ∷ ts) = record { gates = gate so t ∷ (and_from (suc n) (lit n) ts).gates; out = (and_from (suc n) (lit n) ts).out }

abbrev pub and_all : ℕ → List ℕ → Piece
and_all n [] = record { gates = []; out = literal_of 0 true }
and_all n (t ∷ ts) = and_from n t ts

-- ---- "`==` costs 3 gates a bit, bit 0 first, made as for `=`, then width − 1 more that join them in bit order"
-- the literal of bit i of a run, over s signal bits
unfoldable pub bit_literal : ℕ → Run → ℕ → ℕ
bit_literal s (signals_from j) i = lit (signal_variable (j + i))
bit_literal s (constants_from j) i = lit (constant_variable s (j + i))

-- gates that are added one after another, and the literals that they make
pub record Bits : Type 0 where
  pub gates : List Gate
  pub outs : List ℕ

-- 3 gates a bit, for w bits from bit i on
abbrev pub same_bits : ℕ → ℕ → Run → Run → ℕ → ℕ → Bits
same_bits s n a b i zero = record { gates = []; outs = [] }
same_bits s n a b i (suc w) =
    let p = same_of n (bit_literal s a i) (bit_literal s b i) in
    let r = same_bits s (n + 3) a b (suc i) w in
    record { gates = p.gates ++ r.gates; outs = p.out ∷ r.outs }

-- and the gates that join them
unfoldable pub alike_of : ℕ → ℕ → Run → Run → ℕ → Piece
alike_of s n a b w =
    let p = same_bits s n a b 0 w in
    let q = and_all (n + length p.gates) p.outs in
    record { gates = p.gates ++ q.gates; out = q.out }

-- ---- a formula over s signal bits: operands left to right before their operator
unfoldable pub formula : ℕ → ℕ → Expr → Piece
formula s n (truth b) = record { gates = []; out = literal_of 0 b }
formula s n (signal i) = record { gates = []; out = lit (signal_variable i) }
formula s n (constant j) = record { gates = []; out = lit (constant_variable s j) }
formula s n (neg a) = record { gates = (formula s n a).gates; out = inv (formula s n a).out }
formula s n (conj a b) = after and_of n (formula s n a) (formula s (n + length (formula s n a).gates) b)
formula s n (disj a b) = after or_of n (formula s n a) (formula s (n + length (formula s n a).gates) b)
formula s n (xor a b) = after xor_of n (formula s n a) (formula s (n + length (formula s n a).gates) b)
formula s n (same a b) = after same_of n (formula s n a) (formula s (n + length (formula s n a).gates) b)
formula s n (alike a b w) = alike_of s n a b w

-- a happy and a condemned literal, and gates that make some of them
pub record Two : Type 0 where
  pub happy : ℕ
  pub condemned : ℕ

pub record Pieces : Type 0 where
  pub gates : List Gate
  pub outs : List Two

-- ---- 1. for each edge: happy latch AND NOT init; condemned latch AND NOT init. l is the variable of the
-- first edge's happy latch.
abbrev pub masks : ℕ → ℕ → List Edge → Pieces
masks n l [] = record { gates = []; outs = [] }
masks n l (e ∷ es) =
    record {
      gates = gate (lit l) (literal_of init true) ∷ gate (lit (suc l)) (literal_of init true) ∷ (masks (suc (suc n)) (suc (suc l)) es).gates;
      outs = record { happy = lit n; condemned = lit (suc n) } ∷ (masks (suc (suc n)) (suc (suc l)) es).outs;
    }

-- ---- 2. for each vertex: OR of the incoming masked happy literals in edge order, init standing first at
-- the start vertex; then OR of the condemned ones
-- a further term takes one gate, NOT so-far AND NOT term, inverted
abbrev pub or_from : ℕ → ℕ → List ℕ → Piece
or_from n so [] = record { gates = []; out = so }
or_from n so (t ∷ ts) =
    record { gates = gate (inv so) (inv t) ∷ (or_from (suc n) (literal_of n true) ts).gates; out = (or_from (suc n) (literal_of n true) ts).out }

-- no term: 0; one term: itself
abbrev pub or_all : ℕ → List ℕ → Piece
or_all n [] = record { gates = []; out = literal_of 0 false }
or_all n (t ∷ ts) = or_from n t ts

-- the literals of the edges that go to the vertex v, in edge order
abbrev pub happy_terms : ℕ → List Edge → List Two → List ℕ
happy_terms v [] ms = []
happy_terms v (e ∷ es) [] = []
happy_terms v (e ∷ es) (m ∷ ms) = cond (eqb e.to v) (m.happy ∷ happy_terms v es ms) (happy_terms v es ms)

abbrev pub condemned_terms : ℕ → List Edge → List Two → List ℕ
condemned_terms v [] ms = []
condemned_terms v (e ∷ es) [] = []
condemned_terms v (e ∷ es) (m ∷ ms) = cond (eqb e.to v) (m.condemned ∷ condemned_terms v es ms) (condemned_terms v es ms)

abbrev pub with_init : ℕ → List ℕ → List ℕ
with_init v ts = cond (eqb v 0) (lit init ∷ ts) ts

unfoldable pub happy_or : ℕ → ℕ → List Edge → List Two → Piece
happy_or n v es ms = or_all n (with_init v (happy_terms v es ms))

unfoldable pub condemned_or : ℕ → ℕ → List Edge → List Two → Piece
condemned_or n v es ms = or_all n (condemned_terms v es ms)

-- the vertices v, v + 1, .., k of them
abbrev pub vertex_pieces : ℕ → List Edge → List Two → ℕ → ℕ → Pieces
vertex_pieces n es ms v zero = record { gates = []; outs = [] }
vertex_pieces n es ms v (suc k) =
    let h = happy_or n v es ms in
    let d = condemned_or (n + length h.gates) v es ms in
    let r = vertex_pieces (n + length h.gates + length d.gates) es ms (suc v) k in
    record { gates = h.gates ++ (d.gates ++ r.gates); outs = record { happy = h.out; condemned = d.out } ∷ r.outs }

-- ---- 3. for each edge, with the literals of its from-vertex: antecedent a, then consequent c; then
-- p = a AND happy; happy-now = p AND c; q = p AND NOT c; r = a AND condemned; the last gate is NOT q AND
-- NOT r, and condemned-now is its inverse. m is the variable of p.
abbrev pub token_gates : ℕ → ℕ → ℕ → Two → List Gate
token_gates m a c w =
    gate a w.happy
    ∷ gate (lit m) c
    ∷ gate (lit m) (inv c)
    ∷ gate a w.condemned
    ∷ gate (inv (lit (suc (suc m)))) (inv (lit (suc (suc (suc m)))))
    ∷ []

pub record EdgePiece : Type 0 where
  pub gates : List Gate
  pub outs : Two

unfoldable pub edge_piece : ℕ → ℕ → Two → Edge → EdgePiece
edge_piece s n w e =
    let p = formula s n e.antecedent in
    let q = formula s (n + length p.gates) e.consequent in
    let m = n + length p.gates + length q.gates in
    record {
      gates = p.gates ++ (q.gates ++ token_gates m p.out q.out w);
      outs = record { happy = lit (suc m); condemned = literal_of (suc (suc (suc (suc m)))) true };
    }

abbrev pub edge_pieces : ℕ → ℕ → List Two → List Edge → Pieces
edge_pieces s n vs [] = record { gates = []; outs = [] }
edge_pieces s n vs (e ∷ es) =
    let p = edge_piece s n (get_or vs e.from (record { happy = 0; condemned = 0 })) e in
    let r = edge_pieces s (n + length p.gates) vs es in
    record { gates = p.gates ++ r.gates; outs = p.outs ∷ r.outs }

-- ---- 4. accept: AND of NOT condemned-now over terminal edges in order; none: literal 1
abbrev pub accept_terms : Graph → List Edge → List Two → List ℕ
accept_terms g [] ms = []
accept_terms g (e ∷ es) [] = []
accept_terms g (e ∷ es) (m ∷ ms) = cond (is_terminal g e) (inv m.condemned ∷ accept_terms g es ms) (accept_terms g es ms)

-- ---- all gates, in order
unfoldable pub masked : Graph → Pieces
masked g = masks (first_gate g) (first_edge_latch g) g.edges

unfoldable pub gathered : Graph → Pieces
gathered g = vertex_pieces (first_gate g + length (masked g).gates) g.edges (masked g).outs 0 (length g.vertices)

unfoldable pub judged : Graph → Pieces
judged g =
    edge_pieces (signal_bits g) (first_gate g + length (masked g).gates + length (gathered g).gates) (gathered g).outs g.edges

unfoldable pub accepted : Graph → Piece
accepted g =
    and_all (first_gate g + length (masked g).gates + length (gathered g).gates + length (judged g).gates) (accept_terms g g.edges (judged g).outs)

unfoldable pub gates_of : Graph → List Gate
gates_of g = (masked g).gates ++ ((gathered g).gates ++ ((judged g).gates ++ (accepted g).gates))
