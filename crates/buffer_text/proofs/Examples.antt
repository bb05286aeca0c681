-- The request's cases, worked: texts, and the verdict bytes of traces by the graph that a text is read as. Assumes nothing.
use Prim.Native.Nat.{ℕ, ◌≤◌}
use mathlib.Core.Path.{◌≡◌, refl, ap, ◌∙◌}
use mathlib.Core.List.{List, [], ◌∷◌}
use lib.Dec.{lit≤}
use Rattle.text.specs.Quoted.{bytes}
use Rattle.text.specs.Numbers.{digits, digits_of}
use Rattle.assertion.specs.Graph.{Cycle, input, is_init}
use Rattle.assertion.specs.Paths.{since_init, bytes_of, verdicts}
use Rattle.graph.specs.Reading.{Outcome, refused, accepted, graph_of}
use Rattle.buffer_text.specs.Text.{heading, vertex_line, start_line, edge_line, count_lines, buffer_text}
use Rattle.buffer_text.proofs.TextLaws.{graph}
use Rattle.buffer_text.proofs.BufferLaws.{buffer_rejects}
use Rattle.buffer_text.proofs.BufferLaws as laws

-- ---- texts: of one stroke, where no count is between; and the edges of a count between, with two digits
text_of_one : buffer_text 1
    ≡ bytes "S\treset\nS\tenq\nS\tdeq\nS\tempty\nS\tfull\nV\ts\nV\tn0\nV\tn1\nE\ts\tn0\tt\treset\t1\nE\tn0\tn1\tt\tenq\tempty&!full\nE\tn0\tn0\tt\t!enq\tempty&!full\nE\tn1\tn0\tt\tdeq\t!empty&full\nE\tn1\tn1\tt\t!deq\t!empty&full\n"
unfolding heading vertex_line start_line edge_line count_lines buffer_text digits digits_of
text_of_one = refl

lines_of_ten : count_lines 12 10
    ≡ bytes "E\tn10\tn11\tt\tenq&!deq\t!empty&!full\nE\tn10\tn9\tt\t!enq&deq\t!empty&!full\nE\tn10\tn10\tt\tenq=deq\t!empty&!full\n"
unfolding edge_line count_lines digits digits_of
lines_of_ten = refl

-- ---- traces: init, reset, enq, deq, empty, full
abbrev judged_by : Outcome → List Cycle → List ℕ
judged_by (accepted g) cs = verdicts g [] cs
judged_by (refused cause) cs = []

abbrev bytes_for : ℕ → List Cycle → List ℕ
bytes_for k cs = judged_by (graph_of (buffer_text k)) cs

bytes_for_lem : (k : ℕ) → 1 ≤ k → k ≤ 40 → (cs : List Cycle) → bytes_for k cs ≡ bytes_of (λ xs. buffer_rejects k (since_init xs)) [] cs
bytes_for_lem k h l cs = ap (λ (o : Outcome). judged_by o cs) (graph k h l) ∙ laws.bytes k h [] cs

-- flags right
trace_1 : bytes_for 1 (bytes "110000" ∷ bytes "000010" ∷ []) ≡ 0 ∷ 0 ∷ []
unfolding input is_init
trace_1 = rw (bytes_for_lem 1 (lit≤ tt) (lit≤ tt))

trace_2 : bytes_for 1 (bytes "110000" ∷ bytes "001010" ∷ bytes "000001" ∷ []) ≡ 0 ∷ 0 ∷ 0 ∷ []
unfolding input is_init
trace_2 = rw (bytes_for_lem 1 (lit≤ tt) (lit≤ tt))

trace_3 : bytes_for 1 (bytes "110000" ∷ bytes "001010" ∷ bytes "000010" ∷ []) ≡ 0 ∷ 0 ∷ 1 ∷ []
unfolding input is_init
trace_3 = rw (bytes_for_lem 1 (lit≤ tt) (lit≤ tt))

-- once wrong, every later cycle is rejected
trace_4 : bytes_for 1 (bytes "110000" ∷ bytes "000000" ∷ bytes "000010" ∷ []) ≡ 0 ∷ 1 ∷ 1 ∷ []
unfolding input is_init
trace_4 = rw (bytes_for_lem 1 (lit≤ tt) (lit≤ tt))

-- reset is low at the init
trace_5 : bytes_for 1 (bytes "100000" ∷ bytes "000000" ∷ bytes "000000" ∷ []) ≡ 0 ∷ 0 ∷ 0 ∷ []
unfolding input is_init
trace_5 = rw (bytes_for_lem 1 (lit≤ tt) (lit≤ tt))

-- no init
trace_6 : bytes_for 1 (bytes "000000" ∷ bytes "000001" ∷ []) ≡ 0 ∷ 0 ∷ []
unfolding input is_init
trace_6 = rw (bytes_for_lem 1 (lit≤ tt) (lit≤ tt))

-- enq and deq at 0: the listing goes up
trace_7 : bytes_for 1 (bytes "110000" ∷ bytes "001110" ∷ bytes "000001" ∷ []) ≡ 0 ∷ 0 ∷ 0 ∷ []
unfolding input is_init
trace_7 = rw (bytes_for_lem 1 (lit≤ tt) (lit≤ tt))

trace_15 : bytes_for 1 (bytes "110000" ∷ bytes "001110" ∷ bytes "000010" ∷ []) ≡ 0 ∷ 0 ∷ 1 ∷ []
unfolding input is_init
trace_15 = rw (bytes_for_lem 1 (lit≤ tt) (lit≤ tt))

-- deq alone at 0 stays
trace_8 : bytes_for 2 (bytes "110000" ∷ bytes "000110" ∷ bytes "000010" ∷ []) ≡ 0 ∷ 0 ∷ 0 ∷ []
unfolding input is_init
trace_8 = rw (bytes_for_lem 2 (lit≤ tt) (lit≤ tt))

-- enq and deq at k: the listing goes down
trace_9 : bytes_for 2 (bytes "110000" ∷ bytes "001010" ∷ bytes "001000" ∷ bytes "001101" ∷ bytes "000000" ∷ []) ≡ 0 ∷ 0 ∷ 0 ∷ 0 ∷ 0 ∷ []
unfolding input is_init
trace_9 = rw (bytes_for_lem 2 (lit≤ tt) (lit≤ tt))

trace_10 : bytes_for 2 (bytes "110000" ∷ bytes "001010" ∷ bytes "001000" ∷ bytes "001101" ∷ bytes "000001" ∷ []) ≡ 0 ∷ 0 ∷ 0 ∷ 0 ∷ 1 ∷ []
unfolding input is_init
trace_10 = rw (bytes_for_lem 2 (lit≤ tt) (lit≤ tt))

trace_11 : bytes_for 2 (bytes "110000" ∷ bytes "001010" ∷ bytes "001110" ∷ bytes "000010" ∷ []) ≡ 0 ∷ 0 ∷ 1 ∷ 1 ∷ []
unfolding input is_init
trace_11 = rw (bytes_for_lem 2 (lit≤ tt) (lit≤ tt))

-- a new init
trace_12 : bytes_for 1 (bytes "110000" ∷ bytes "000001" ∷ bytes "110000" ∷ bytes "000010" ∷ []) ≡ 0 ∷ 1 ∷ 0 ∷ 0 ∷ []
unfolding input is_init
trace_12 = rw (bytes_for_lem 1 (lit≤ tt) (lit≤ tt))

trace_13 : bytes_for 1 (bytes "110000" ∷ bytes "000001" ∷ bytes "100000" ∷ bytes "000001" ∷ []) ≡ 0 ∷ 1 ∷ 0 ∷ 0 ∷ []
unfolding input is_init
trace_13 = rw (bytes_for_lem 1 (lit≤ tt) (lit≤ tt))

-- reset is not read again
trace_14 : bytes_for 3 (bytes "110000" ∷ bytes "011010" ∷ bytes "000000" ∷ []) ≡ 0 ∷ 0 ∷ 0 ∷ []
unfolding input is_init
trace_14 = rw (bytes_for_lem 3 (lit≤ tt) (lit≤ tt))
