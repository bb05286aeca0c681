-- What the private functions promise that run the words of a formula, and that count gates. Assumes
-- nothing.
use Rattle.std.specs.Prelude.{Option, Some, None, ◌≡◌, Bool, true, false, cond, List, [], ◌∷◌, ◌++◌, ℕ, zero, suc, ◌+◌, ◌-◌, ◌*◌, ◌≤◌, ◌/◌, ◌%◌, eqb, ltb, length, get_or, take, drop, replicate, sum_by, count_by}
use Rattle.std.specs.List.{list_any, range_with_len}
use Rattle.netlist.specs.Literals.{literal_of}
use Rattle.netlist.specs.declared.literals.Literal.{Literal}
use Rattle.assertion.specs.Graph.{Bytes}
use Rattle.formula.specs.Classes.{pick}
use Rattle.formula.specs.Reading.{formula_of}
use Rattle.formula.specs.declared.Formula.{Formula}
use Rattle.graph.specs.Pieces.{Declared, place_in, width_in}
use Rattle.graph.specs.Private.Steps.{listed, name_found}
use Rattle.graph.specs.declared.Arc.{Arc}
use Rattle.graph.specs.declared.CheckedGraph.{CheckedGraph}
use Rattle.circuit.specs.Gates.{lit, inv, Gate, Piece, and_of, or_of, xor_of, same_of}
use Rattle.circuit.specs.Build.{Bits}
use Rattle.builder.specs.Private.Adding.{Added}
use Rattle.builder.specs.Private.Terms.{accept_of}
use Rattle.builder.specs.declared.gates.Gates.{Gates}
use Rattle.builder.specs.declared.names.Names.{Names}

-- the names that the code holds
abbrev pub named : Names → List Declared
named n = listed n.text.now n.symbols.now n.total

-- ---- one word of a formula
-- a literal without gates
abbrev pub plain : ℕ → Piece
plain l = record { gates = []; out = l }

-- each name stands for at most 16 bits, of 69 in all
abbrev pub Bounded : List Declared → Type 0
Bounded [] = Unit {0}
Bounded (d ∷ ds) = (d.place + d.width ≤ 69) × (d.width ≤ 16) × Bounded ds

-- bit i of a name: the bits of signals and constants follow one another from variable 2 on
abbrev pub bit_at : ℕ → ℕ → ℕ
bit_at place i = lit (2 + place + i)

unfoldable pub name_literal : List Declared → Bytes → ℕ → ℕ → ℕ
name_literal ns s w i = bit_at (place_in (name_found ns s w)) i

-- `==` of the names whose first bits have the places p and q: for w bits from bit i on three gates each, of which the
-- last tells that they differ
abbrev pub differ_bits : ℕ → ℕ → ℕ → ℕ → ℕ → Bits
differ_bits n p q i zero = record { gates = []; outs = [] }
differ_bits n p q i (suc w) =
    let x = xor_of n (bit_at p i) (bit_at q i) in
    let r = differ_bits (n + 3) p q (suc i) w in
    record { gates = x.gates ++ r.gates; outs = x.out ∷ r.outs }

-- then none of them differs: the chain of accept, with each a term
unfoldable pub alike_made : ℕ → ℕ → ℕ → ℕ → Piece
alike_made n p q w =
    let d = differ_bits n p q 0 w in
    let a = accept_of (n + length d.gates) (replicate w 1) d.outs in
    record { gates = d.gates ++ a.gates; out = a.out }

-- two names compared, by their word
unfoldable pub compared_by : List Declared → Bytes → ℕ → ℕ → Piece
compared_by ns s w n =
    let l = name_found ns s ((w - 16777216) / 4096) in
    alike_made n (place_in l) (place_in (name_found ns s (w % 4096))) (width_in l)

-- `&`, `|`, `^`, `=`
unfoldable pub operated : ℕ → ℕ → ℕ → ℕ → Piece
operated b n x y = pick (eqb b 38) (and_of n x y) (pick (eqb b 124) (or_of n x y) (pick (eqb b 94) (xor_of n x y) (same_of n x y)))

-- `0`, `1`, `!`, an operator; x and y are the literals on top of the stack, y the topmost
unfoldable pub byte_made : ℕ → ℕ → ℕ → ℕ → Piece
byte_made b n x y =
    pick (eqb b 48) (plain (literal_of 0 false))
    (pick (eqb b 49) (plain (literal_of 0 true))
    (pick (eqb b 33) (plain (inv y)) (operated b n x y)))

-- a name, a byte, one bit of a name, two names compared
unfoldable pub word_made : List Declared → Bytes → ℕ → ℕ → ℕ → ℕ → Piece
word_made ns s w n x y =
    pick (ltb w 4096) (plain (name_literal ns s w 0))
    (pick (ltb w 8192) (byte_made (w - 4096) n x y)
    (pick (ltb w 16777216) (plain (name_literal ns s (w % 4096) (w / 8192 - 1)))
    (compared_by ns s w n)))

-- how many literals a word takes from the stack
unfoldable pub taken_by : ℕ → ℕ
taken_by b = pick (eqb b 48) 0 (pick (eqb b 49) 0 (pick (eqb b 33) 1 2))

unfoldable pub taken : ℕ → ℕ
taken w = pick (ltb w 4096) 0 (pick (ltb w 8192) (taken_by (w - 4096)) 0)

-- ---- words one after another over a stack, the topmost literal first
pub record Ran : Type 0 where
  pub gates : List Gate
  pub stack : List ℕ

unfoldable pub ran : List Declared → Bytes → List ℕ → List ℕ → ℕ → Ran
ran ns s [] st n = record { gates = []; stack = st }
ran ns s (w ∷ ws) st n =
    let p = word_made ns s w n (get_or st 1 0) (get_or st 0 0) in
    let r = ran ns s ws (p.out ∷ drop (taken w) st) (n + length p.gates) in
    record { gates = p.gates ++ r.gates; stack = r.stack }

-- at the bottom stand two literals that no word takes
abbrev pub program : List Declared → Bytes → List ℕ → ℕ → Ran
program ns s ws n = ran ns s ws (0 ∷ 0 ∷ []) n

-- the gates of words were stored, and the literal is the topmost of the stack
pub record Ended (s t : Gates) (l : Literal) (p : Ran) : Type 0 where
  pub gates : Added s t p.gates
  pub top : l.0 ≡ get_or p.stack 0 0

-- from a stack of h literals no word takes those two, and at the end there is one more
abbrev pub Enough : ℕ → List ℕ → Type 0
Enough h [] = 3 ≤ h
Enough h (w ∷ ws) = (taken w + 2 ≤ h) × Enough (h + 1 - taken w) ws

-- the stack that the first h elements of an array are
unfoldable pub stack_of : List ℕ → ℕ → List ℕ
stack_of array zero = []
stack_of array (suc h) = get_or array h 0 ∷ stack_of array h

-- ---- gates counted
-- the gates of a byte: 1 for `&` or `|`, 3 for `^` or `=`
unfoldable pub byte_gates : ℕ → ℕ
byte_gates b = pick (eqb b 38) 1 (pick (eqb b 124) 1 (pick (eqb b 94) 3 (pick (eqb b 61) 3 0)))

-- of a word: `==` of so many bits has 4 for each, less 1
unfoldable pub word_gates : List Declared → Bytes → ℕ → ℕ
word_gates ns s w =
    pick (ltb w 4096) 0
    (pick (ltb w 8192) (byte_gates (w - 4096))
    (pick (ltb w 16777216) 0 (4 * (width_in (name_found ns s ((w - 16777216) / 4096))) - 1)))

-- the gates of a field, and of an edge's two formulas; ns are the names
unfoldable pub read_gates : List Declared → Bytes → Option Formula → ℕ
read_gates ns s (Some f) = sum_by (word_gates ns s) (take f.count f.words)
read_gates ns s None = 0

unfoldable pub field_gates : Bytes → List Declared → ℕ → ℕ → ℕ
field_gates text ns at n = read_gates ns (take n (drop at text)) (formula_of (take n (drop at text)))

unfoldable pub arc_gates : Bytes → List Declared → Arc → ℕ
arc_gates text ns a = field_gates text ns a.left a.lefts + field_gates text ns a.right a.rights

-- an edge goes to the vertex v
abbrev pub is_reached : List Arc → ℕ → Bool
is_reached arcs v = list_any (λ a. eqb a.to v) arcs

-- how many of the vertices from the first on have an incoming edge
abbrev pub reached_from : List Arc → ℕ → ℕ → ℕ
reached_from arcs first vertices = count_by (is_reached arcs) (range_with_len first (vertices - first))

-- how many edges are terminal
abbrev pub terminals_of : List Arc → ℕ
terminals_of arcs = count_by (λ a. a.terminal) arcs

-- the count of gates by the arrays, with checked or without
unfoldable pub gates_by : Bool → Bytes → CheckedGraph → ℕ
gates_by checked text g =
    let arcs = take g.edges g.arcs in
    let t = terminals_of arcs in
    7 * g.edges + (g.edges - reached_from arcs 1 g.vertices) + (g.edges - reached_from arcs 0 g.vertices) + (t - 1)
    + sum_by (arc_gates text (listed text g.names g.named)) arcs + cond checked (2 * t - 1) 0
