-- What reading a graph text answers: the checked graph by places in the text. Record k of the text, from
-- 0, is its line k + 1, and the mode, signals, constants, vertices and edges follow one another, so each
-- array is given by the lines of its records. Assumes nothing.
use Rattle.std.specs.Prelude.{ℕ, zero, suc, ◌+◌, ◌*◌, ◌-◌, ◌/◌, ◌%◌, Bool, false, List, [], ◌∷◌, ◌++◌, length, take, drop, replicate, Result, Ok, Err}
use Rattle.assertion.specs.Graph.{Bytes, Name, Edge, Graph, signal_bits, constant_bits, is_terminal}
use Rattle.graph.specs.Pieces.{up_to, end_at, piece_at, Declared}
use Rattle.graph.specs.Reading.{mode_lines, Outcome, refused, accepted, graph_of}
use Rattle.graph.specs.declared.Arc.{Arc}
use Rattle.graph.specs.declared.CheckedGraph.{CheckedGraph}
use Rattle.graph.specs.declared.Cause.{Cause}

-- ---- places: a text is cut at LF (10), a line at tabs (9)
-- where line n of a text starts, n from 0, and its bytes
unfoldable pub line_start : Bytes → ℕ → ℕ
line_start text zero = 0
line_start text (suc n) = end_at 10 text (line_start text n) + 1

unfoldable pub line_of : Bytes → ℕ → Bytes
line_of text n = piece_at 10 text (line_start text n)

-- where field k of a line starts, k from 0, and how many bytes it has
unfoldable pub field_start : Bytes → ℕ → ℕ
field_start line zero = 0
field_start line (suc k) = end_at 9 line (field_start line k) + 1

unfoldable pub field_length : Bytes → ℕ → ℕ
field_length line k = up_to 9 (drop (field_start line k) line)

-- where field k of line n stands in the text
unfoldable pub field_at : Bytes → ℕ → ℕ → ℕ
field_at text n k = line_start text n + field_start (line_of text n) k

-- ---- the arrays
-- the word of a signal or a constant: where its name starts; its length, below 16; the place of its first bit, below
-- 128; and its width, below 32
unfoldable pub symbol_word : ℕ → ℕ → ℕ → ℕ → ℕ
symbol_word start n place w = start * 65536 + n * 4096 + place * 32 + w

-- signals and constants whose first is line n and whose first bit has the place p: a name is field 1, and the bits
-- of each follow those before it
unfoldable pub symbols_of : Bytes → ℕ → ℕ → List Name → List ℕ
symbols_of text n p [] = []
symbols_of text n p (x ∷ xs) = symbol_word (field_at text n 1) (field_length (line_of text n) 1) p x.width ∷ symbols_of text (n + 1) (p + x.width) xs

-- the places of the vertices' names in count lines from line n on: a name is field 1
unfoldable pub name_places : Bytes → ℕ → ℕ → List ℕ
name_places text n zero = []
name_places text n (suc count) = field_at text n 1 ∷ name_places text (n + 1) count

-- an edge, terminal or not, with the places and lengths of its formulas, which are fields 4 and 5 of line n
unfoldable pub arc_of : Bytes → ℕ → Bool → Edge → Arc
arc_of text n terminal e =
    record {
      from = e.from;
      to = e.to;
      terminal = terminal;
      left = field_at text n 4;
      lefts = field_length (line_of text n) 4;
      right = field_at text n 5;
      rights = field_length (line_of text n) 5;
    }

-- edges whose first is line n, by a test for the terminal ones
unfoldable pub arcs_of : (Edge → Bool) → Bytes → ℕ → List Edge → List Arc
arcs_of t text n [] = []
arcs_of t text n (e ∷ es) = arc_of text n (t e) e ∷ arcs_of t text (n + 1) es

-- an element of an array that no edge fills
abbrev pub no_arc : Arc
no_arc = record { from = 0; to = 0; terminal = false; left = 0; lefts = 0; right = 0; rights = 0 }

-- a signal or a constant by its word
unfoldable pub declared_in : Bytes → ℕ → Declared
declared_in text y = record { name = take (y / 4096 % 16) (drop (y / 65536) text); place = y / 32 % 128; width = y % 32 }

-- an array of n elements, of which the first are given
unfoldable pub filled : {A : Type 0} → ℕ → A → List A → List A
filled n d xs = xs ++ replicate (n - length xs) d

-- the graph g of a text, by places, with a test for the terminal edges
unfoldable pub held_as : (Edge → Bool) → Bytes → Graph → CheckedGraph
held_as t text g =
    let first = mode_lines g.mode in
    let named = length g.signals + length g.constants in
    record {
      mode = g.mode;
      named = named;
      signals = signal_bits g;
      constants = constant_bits g;
      vertices = length g.vertices;
      edges = length g.edges;
      names = filled 69 0 (symbols_of text first 0 (g.signals ++ g.constants));
      points = filled 64 0 (name_places text (first + named) (length g.vertices));
      arcs = filled 128 no_arc (arcs_of t text (first + named + length g.vertices) g.edges);
    }

unfoldable pub held_of : Bytes → Graph → CheckedGraph
held_of text g = held_as (is_terminal g) text g

-- ---- the answer
unfoldable pub answer_of : Bytes → Outcome → Result CheckedGraph Cause
answer_of text (accepted g) = Ok (held_of text g)
answer_of text (refused cause) = Err cause

unfoldable pub read_of : Bytes → Result CheckedGraph Cause
read_of text = answer_of text (graph_of text)
