-- The graph of a text, or why it is refused: over 32,768 bytes; then the first faulty line, in it the
-- lowest number; then no vertex. Assumes nothing.
use Rattle.std.specs.Prelude.{Option, is_some, Result, Ok, Err, ℕ, ◌+◌, ◌-◌, Bool, true, false, ◌&&◌, List, [], ◌∷◌, ◌++◌, eqb, ltb, leb, length, take, drop}
use Rattle.text.specs.Quoted.{byte}
use Rattle.text.specs.declared.Refusal.{Refusal}
use Rattle.formula.specs.Classes.{pick}
use Rattle.formula.specs.Grammar.{Tree, name, bit_of, bit, not, group, join, Parsed, none, tree, tree_of, depth_of}
use Rattle.formula.specs.Grammar as tree
use Rattle.assertion.specs.Graph as G
use Rattle.assertion.specs.Graph.{Bytes, Run, signals_from, constants_from, Expr, Name, Edge, Graph, signal_bits, constant_bits, truth, neg, conj, disj, xor, same}
use Rattle.assertion.specs.declared.Mode.{Mode}
use Rattle.assertion.specs.declared.Mode.TheVariants.{Unsaid, Terminal, Strong}
use Rattle.graph.specs.Pieces.{split, place_of, look_up, Declared, placed, look_up_name, place_in, width_in}
use Rattle.graph.specs.Records.{Record, shapeless, mode, signal, constant, vertex, edge, record_of}
use Rattle.graph.specs.declared.Fault.{Fault}
use Rattle.graph.specs.declared.Fault.TheVariants.{WrongShape, WrongOrder, TooMany, NameRepeated, UnknownVertex, NotFormula, TooDeep, UnknownName, WrongWidth}
use Rattle.graph.specs.declared.FoundName.{FoundName}
use Rattle.graph.specs.declared.Cause.{Cause}
use Rattle.graph.specs.declared.Cause.TheVariants.{TextTooLong, FaultyLine, NoVertex}

-- ---- numbers of the table
-- the number of a line's fault
unfoldable pub fault_number : Fault → ℕ
fault_number WrongShape = 2
fault_number WrongOrder = 3
fault_number TooMany = 4
fault_number NameRepeated = 5
fault_number UnknownVertex = 6
fault_number NotFormula = 7
fault_number TooDeep = 8
fault_number UnknownName = 9
fault_number WrongWidth = 19

-- the number and line of each cause
unfoldable pub refusal_of : Cause → Refusal
refusal_of TextTooLong = record { number = 1; line = 0 }
refusal_of (FaultyLine fault line) = record { number = fault_number fault; line = line }
refusal_of NoVertex = record { number = 10; line = 0 }

-- ---- formulas: trees with their names looked up
-- signals and constants share one list of names; the bits of the constants follow those of the signals
abbrev pub names_of : Graph → List Declared
names_of g = placed 0 (g.signals ++ g.constants)

-- the name of n bytes from the place p of the field s on, looked up
abbrev pub found_at : List Declared → Bytes → ℕ → ℕ → Option FoundName
found_at ns s p n = look_up_name (take n (drop p s)) ns

-- each name of a tree, given by its place in the field s, is in the list
unfoldable pub known : List Declared → Bytes → Tree → Bool
known ns s (name p n) = is_some (found_at ns s p n)
known ns s (bit_of p n i) = is_some (found_at ns s p n)
known ns s (tree.alike p n q m) = is_some (found_at ns s p n) && is_some (found_at ns s q m)
known ns s (bit b) = true
known ns s (not e) = known ns s e
known ns s (group e) = known ns s e
known ns s (join b e e2) = pick (known ns s e) (known ns s e2) false

-- a name by itself has one bit, one bit of a name is below its width, and `==` has equal widths
unfoldable pub fits : List Declared → Bytes → Tree → Bool
fits ns s (name p n) = eqb (width_in (found_at ns s p n)) 1
fits ns s (bit_of p n i) = ltb i (width_in (found_at ns s p n))
fits ns s (tree.alike p n q m) = eqb (width_in (found_at ns s p n)) (width_in (found_at ns s q m))
fits ns s (bit b) = true
fits ns s (not e) = fits ns s e
fits ns s (group e) = fits ns s e
fits ns s (join b e e2) = pick (fits ns s e) (fits ns s e2) false

-- `&`, `|`, `^`, `=`
unfoldable pub joined : ℕ → Expr → Expr → Expr
joined b x y = pick (eqb b (byte "&")) (conj x y) (pick (eqb b (byte "|")) (disj x y) (pick (eqb b (byte "^")) (xor x y) (same x y)))

-- of the bits the first are the signals', m of them, and the others the constants'
unfoldable pub symbol : ℕ → ℕ → Expr
symbol m i = pick (ltb i m) (G.signal i) (G.constant (i - m))

-- the run of bits whose first is at the place i
unfoldable pub run_of : ℕ → ℕ → Run
run_of m i = pick (ltb i m) (signals_from i) (constants_from (i - m))

-- bit n of a name stands n places after its first
unfoldable pub resolved : ℕ → List Declared → Bytes → Tree → Expr
resolved m ns s (name p n) = symbol m (place_in (found_at ns s p n))
resolved m ns s (bit_of p n i) = symbol m (place_in (found_at ns s p n) + i)
resolved m ns s (tree.alike p n q k) =
    G.alike (run_of m (place_in (found_at ns s p n))) (run_of m (place_in (found_at ns s q k))) (width_in (found_at ns s p n))
resolved m ns s (bit b) = truth (eqb b (byte "1"))
resolved m ns s (not e) = neg (resolved m ns s e)
resolved m ns s (group e) = resolved m ns s e
resolved m ns s (join b e e2) = joined b (resolved m ns s e) (resolved m ns s e2)

-- not of the grammar; depth over 16; an unknown name; a wrong width; none of these
unfoldable pub judged_tree : List Declared → Bytes → Parsed → Result Unit Fault
judged_tree ns s none = Err NotFormula
judged_tree ns s (tree e) =
    pick (ltb 16 (depth_of e)) (Err TooDeep) (pick (known ns s e) (pick (fits ns s e) (Ok tt) (Err WrongWidth)) (Err UnknownName))

abbrev pub judged_formula : List Declared → Bytes → Result Unit Fault
judged_formula ns s = judged_tree ns s (tree_of s)

unfoldable pub tree_expr : ℕ → List Declared → Bytes → Parsed → Expr
tree_expr m ns s none = truth false
tree_expr m ns s (tree e) = resolved m ns s e

-- the formula of a field in a graph with these signals and constants
abbrev pub expr_of : Graph → Bytes → Expr
expr_of g s = tree_expr (signal_bits g) (names_of g) s (tree_of s)

-- of two judgements the fault of the lower number
unfoldable pub lower : Result Unit Fault → Result Unit Fault → Result Unit Fault
lower (Ok tt) b = b
lower (Err f) (Ok tt) = Err f
lower (Err f) (Err k) = Err (pick (leb (fault_number f) (fault_number k)) f k)

-- ---- one record after another
pub data Step : Type 0 where
  fault : Fault → Step
  went : Graph → Step

-- how many lines say the mode
unfoldable pub mode_lines : Mode → ℕ
mode_lines Unsaid = 0
mode_lines Terminal = 1
mode_lines Strong = 1

-- a line has come already
unfoldable pub add_mode : Graph → Mode → Step
add_mode g m =
    pick (ltb 0 (mode_lines g.mode + length g.signals + length g.constants + length g.vertices + length g.edges)) (fault WrongOrder)
    (went (record { mode = m; signals = g.signals; constants = g.constants; vertices = g.vertices; edges = g.edges }))

abbrev pub sized_name : Bytes → ℕ → Name
sized_name n w = record { name = n; width = w }

-- a constant, a vertex or an edge has come already; the bits would pass 63; the name has come
unfoldable pub add_signal : Graph → Bytes → ℕ → Step
add_signal g n w =
    pick (ltb 0 (length g.constants + length g.vertices + length g.edges)) (fault WrongOrder)
    (pick (ltb 63 (signal_bits g + w)) (fault TooMany)
    (pick (is_some (look_up_name n (names_of g))) (fault NameRepeated)
    (went (record { mode = g.mode; signals = g.signals ++ (sized_name n w ∷ []); constants = g.constants; vertices = g.vertices; edges = g.edges }))))

-- a vertex or an edge has come already; the bits would pass 6; the name has come
unfoldable pub add_constant : Graph → Bytes → ℕ → Step
add_constant g n w =
    pick (ltb 0 (length g.vertices + length g.edges)) (fault WrongOrder)
    (pick (ltb 6 (constant_bits g + w)) (fault TooMany)
    (pick (is_some (look_up_name n (names_of g))) (fault NameRepeated)
    (went (record { mode = g.mode; signals = g.signals; constants = g.constants ++ (sized_name n w ∷ []); vertices = g.vertices; edges = g.edges }))))

unfoldable pub add_vertex : Graph → Bytes → Step
add_vertex g n =
    pick (ltb 0 (length g.edges)) (fault WrongOrder)
    (pick (leb 64 (length g.vertices)) (fault TooMany)
    (pick (is_some (look_up n g.vertices)) (fault NameRepeated)
    (went (record { mode = g.mode; signals = g.signals; constants = g.constants; vertices = g.vertices ++ (n ∷ []); edges = g.edges }))))

-- an edge with its vertices by their places and its formulas as trees
unfoldable pub edge_of : Graph → ℕ → ℕ → Bool → Bytes → Bytes → Edge
edge_of g from to marked a c =
    record {
      from = from;
      to = to;
      marked = marked;
      antecedent = expr_of g a;
      consequent = expr_of g c;
      antecedent_text = a;
      consequent_text = c;
    }

-- an edge, unless its formulas have a fault
unfoldable pub unless_faulty : Result Unit Fault → Graph → Edge → Step
unless_faulty (Ok tt) g e = went (record { mode = g.mode; signals = g.signals; constants = g.constants; vertices = g.vertices; edges = g.edges ++ (e ∷ []) })
unless_faulty (Err f) g e = fault f

-- a fault of either formula, the lower number first
unfoldable pub judge_edge : Graph → ℕ → ℕ → Bool → Bytes → Bytes → Step
judge_edge g from to marked a c =
    unless_faulty (lower (judged_formula (names_of g) a) (judged_formula (names_of g) c)) g (edge_of g from to marked a c)

-- 128 have come; a vertex is not known
unfoldable pub add_edge : Graph → Bytes → Bytes → Bool → Bytes → Bytes → Step
add_edge g f t marked a c =
    pick (leb 128 (length g.edges)) (fault TooMany)
    (pick (is_some (look_up f g.vertices))
    (pick (is_some (look_up t g.vertices))
    (judge_edge g (place_of f g.vertices) (place_of t g.vertices) marked a c)
    (fault UnknownVertex))
    (fault UnknownVertex))

unfoldable pub add : Graph → Record → Step
add g shapeless = fault WrongShape
add g (mode m) = add_mode g m
add g (signal n w) = add_signal g n w
add g (constant n w) = add_constant g n w
add g (vertex n) = add_vertex g n
add g (edge f t marked a c) = add_edge g f t marked a c

-- ---- the whole text
pub data Outcome : Type 0 where
  refused : Cause → Outcome
  accepted : Graph → Outcome

unfoldable pub finished : Graph → Outcome
finished g = pick (eqb (length g.vertices) 0) (refused NoVertex) (accepted g)

-- The first faulty line decides. What stands after the last LF is a line without LF, if it is anything,
-- and of no record's shape.
unfoldable pub read_lines : Graph → ℕ → List Bytes → Outcome
read_lines g n [] = finished g
read_lines g n (last ∷ []) = elim last [ [] ↦ finished g | b ∷ bs ↦ refused (FaultyLine WrongShape n) ]
read_lines g n (line ∷ next ∷ more) =
    elim (add g (record_of line)) [ fault f ↦ refused (FaultyLine f n) | went g2 ↦ read_lines g2 (n + 1) (next ∷ more) ]

abbrev pub nothing : Graph
nothing = record { mode = Unsaid; signals = []; constants = []; vertices = []; edges = [] }

-- lines count from 1
unfoldable pub graph_of : Bytes → Outcome
graph_of text = pick (ltb 32768 (length text)) (refused TextTooLong) (read_lines nothing 1 (split 10 text))
