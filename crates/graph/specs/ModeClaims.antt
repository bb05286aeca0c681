-- What the contract of read_graph claims of `M` lines and terminal edges, by the bytes of the text. `graph_of` stands
-- here for the graph of a text, or its refusal, where two texts are compared and where the answer is tied, by `held_of`
-- too, to the graph of which the other theorems speak; how it reads an `M` line or a mark is not used. Assumes nothing.
use Rattle.std.specs.Prelude.{ℕ, ◌+◌, ◌-◌, ◌≤◌, ◌<◌, ◌≡◌, ◌⊎◌, true, Result, Ok, Err, [], ◌∷◌, ◌++◌, length, get_or, drop}
use Prim.Native.Char.{code}
use Rattle.text.specs.Lines.{StartsLine}
use Rattle.assertion.specs.Graph.{Bytes, Graph, signal_bits, constant_bits}
use Rattle.assertion.specs.declared.Mode.{Mode}
use Rattle.assertion.specs.declared.Mode.TheVariants.{Unsaid, Terminal, Strong}
use Rattle.graph.specs.Reading.{Outcome, refused, accepted, refusal_of, graph_of}
use Rattle.graph.specs.Held.{no_arc, held_of}
use Rattle.graph.specs.Claims.{breaks, IsField, EdgeLine}
use Rattle.graph.specs.declared.Fault.{Fault}
use Rattle.graph.specs.declared.Cause.{Cause}
use Rattle.graph.specs.declared.Cause.TheVariants.{FaultyLine, NoVertex}
use Rattle.graph.specs.declared.CheckedGraph.{CheckedGraph}

-- ---- `M` lines
-- the words
pub data ModeWord : Bytes → Mode → Type 0 where
  terminal : ModeWord (code "t" ∷ code "e" ∷ code "r" ∷ code "m" ∷ code "i" ∷ code "n" ∷ code "a" ∷ code "l" ∷ []) Terminal
  strong : ModeWord (code "s" ∷ code "t" ∷ code "r" ∷ code "o" ∷ code "n" ∷ code "g" ∷ []) Strong

-- after these bytes stands a line that is `M`, a tab and a word, with its LF, and after that the others
pub record ModeLine (text before word after : Bytes) : Type 0 where
  pub bytes : text ≡ before ++ (code "M" ∷ code "\t" ∷ (word ++ (code "\n" ∷ after)))
  pub starts : StartsLine before
  pub one_line : (left right : Bytes) → word ≡ left ++ (code "\n" ∷ right) → ⊥

-- what the first line says
pub data FirstLine (text : Bytes) : Mode → Type 0 where
  says : (word after : Bytes) (m : Mode) → ModeWord word m → ModeLine text [] word after → FirstLine text m
  silent : ((word after : Bytes) → ModeLine text [] word after → ⊥) → FirstLine text Unsaid

-- the answer refuses the line after these bytes with this number
pub record RefusedHere (before : Bytes) (number : ℕ) (r : Result CheckedGraph Cause) : Type 0 where
  pub cause : Cause
  pub outcome : r ≡ Err cause
  pub refusal : refusal_of cause ≡ record { number = number; line = breaks before + 1 }

-- the answer refuses the line after these bytes with this number; or these bytes by themselves are refused for one of
-- their lines, and the answer refuses that line alike
pub data RefusedAfter (before : Bytes) (number : ℕ) (r : Result CheckedGraph Cause) : Type 0 where
  here : (cause : Cause) → r ≡ Err cause → refusal_of cause ≡ record { number = number; line = breaks before + 1 } → RefusedAfter before number r
  earlier : (f : Fault) (n : ℕ) → n ≤ breaks before → graph_of before ≡ refused (FaultyLine f n) → r ≡ Err (FaultyLine f n) → RefusedAfter before number r

-- the outcome of a text with an `M` line before it: no other line is judged otherwise, and it counts as a line
pub data Moved (m : Mode) : Outcome → Outcome → Type 0 where
  taken : (g : Graph) → Moved m (accepted g) (accepted (record { mode = m; signals = g.signals; constants = g.constants; vertices = g.vertices; edges = g.edges }))
  later : (f : Fault) (n : ℕ) → Moved m (refused (FaultyLine f n)) (refused (FaultyLine f (n + 1)))
  vertexless : Moved m (refused NoVertex) (refused NoVertex)

-- ---- marks
pub data IsMark (m : ℕ) : Type 0 where
  t_mark : m ≡ code "t" → IsMark m
  dash : m ≡ code "-" → IsMark m

-- a text with an edge of this mark: what stands before its line, its vertices, and all that follows the mark
abbrev pub edge_text : Bytes → Bytes → Bytes → Bytes → ℕ → Bytes
edge_text before from to rest m = before ++ (code "E" ∷ code "\t" ∷ (from ++ (code "\t" ∷ (to ++ (code "\t" ∷ m ∷ code "\t" ∷ rest)))))

-- ---- terminal edges
-- the mark of edge i stands two bytes before its antecedent
abbrev pub mark_at : Bytes → CheckedGraph → ℕ → ℕ
mark_at text g i = get_or text ((get_or g.arcs i no_arc).left - 2) 0

-- edge i is terminal for one of three reasons
pub data Chosen (text : Bytes) (g : CheckedGraph) (i : ℕ) : Type 0 where
  mode-strong : g.mode ≡ Strong → Chosen text g i
  mark_t : mark_at text g i ≡ code "t" → Chosen text g i
  no_mark : g.mode ≡ Unsaid → ((j : ℕ) → j < g.edges → mark_at text g j ≡ code "-") → Chosen text g i

-- the antecedent stands behind `E`, two fields and the mark, and from it on there are as many LF as edges are left,
-- this one counted; the mark is `t` or `-`; and the edge is terminal where there is a reason
pub record EdgeChosen (text : Bytes) (g : CheckedGraph) (i : ℕ) : Type 0 where
  pub behind : EdgeLine text (get_or g.arcs i no_arc).left
  pub own_line : breaks (drop (get_or g.arcs i no_arc).left text) ≡ g.edges - i
  pub mark : (mark_at text g i ≡ code "t") ⊎ (mark_at text g i ≡ code "-")
  pub reason : (get_or g.arcs i no_arc).terminal ≡ true → Chosen text g i
  pub chosen : Chosen text g i → (get_or g.arcs i no_arc).terminal ≡ true

-- a graph is answered: it is accepted, and given with its mode, its counts and its edges by their places
pub record Answered (text : Bytes) (g : Graph) (r : Result CheckedGraph Cause) : Type 0 where
  pub graph : CheckedGraph
  pub checked : r ≡ Ok graph
  pub held : graph ≡ held_of text g
  pub mode : graph.mode ≡ g.mode
  pub named : graph.named ≡ length g.signals + length g.constants
  pub signals : graph.signals ≡ signal_bits g
  pub constants : graph.constants ≡ constant_bits g
  pub vertices : graph.vertices ≡ length g.vertices
  pub edges : graph.edges ≡ length g.edges

-- THE CLAIM of the answer r to a text
pub record ModeMeans (text : Bytes) (r : Result CheckedGraph Cause) : Type 0 where
  -- what is claimed of the graph of the text is claimed of the answer
  pub accepts : (g : Graph) → graph_of text ≡ accepted g → Answered text g r
  pub refuses : (cause : Cause) → graph_of text ≡ refused cause → r ≡ Err cause
  -- the bytes of an `M` line count
  pub too_long : 32768 < length text → (cause : Cause) × (r ≡ Err cause) × (refusal_of cause ≡ record { number = 1; line = 0 })
  pub first_line_is : (graph : CheckedGraph) → r ≡ Ok graph → FirstLine text graph.mode
  pub edges-chosen : (graph : CheckedGraph) → r ≡ Ok graph → (i : ℕ) → i < graph.edges → EdgeChosen text graph i
  -- "Another `M` line is 3; another word is 2"
  pub another : (before word after : Bytes) (m : Mode) → ModeLine text before word after → ModeWord word m → (before ≡ [] → ⊥) → length text ≤ 32768 → RefusedAfter before 3 r
  pub other_word : (before word after : Bytes) → ModeLine text before word after → ((m : Mode) → ModeWord word m → ⊥) → length text ≤ 32768 → RefusedAfter before 2 r
  -- no word; and a last line that begins with `M` and has no LF
  pub no_word : (before after : Bytes) → StartsLine before → text ≡ before ++ (code "M" ∷ code "\n" ∷ after) → length text ≤ 32768 → RefusedAfter before 2 r
  pub no_lf : (before rest : Bytes) → StartsLine before → text ≡ before ++ (code "M" ∷ rest) → ((left right : Bytes) → rest ≡ left ++ (code "\n" ∷ right) → ⊥) → length text ≤ 32768 → RefusedAfter before 2 r
  -- a mark never decides what is refused
  pub mark-free : (before from to rest : Bytes) (m other : ℕ) → StartsLine before → IsField from → IsField to → IsMark m → IsMark other → text ≡ edge_text before from to rest m → length text ≤ 32768 → (cause : Cause) → graph_of (edge_text before from to rest other) ≡ refused cause → r ≡ Err cause
  -- the other lines are judged as without it
  pub unseen : (word after : Bytes) (m : Mode) → ModeLine text [] word after → ModeWord word m → FirstLine after Unsaid → length text ≤ 32768 → Moved m (graph_of after) (graph_of text)
