-- The text of the stroke buffer's graph (document 02, No. 6), "after the counting graph of source document 001, section 5",
-- for a buffer of k strokes. Assumes nothing.
use Rattle.std.specs.Prelude.{ℕ, ◌+◌, ◌-◌, cond, ◌++◌, eqb}
use Rattle.text.specs.Quoted.{bytes}
use Rattle.text.specs.Numbers.{digits}
use Rattle.text.specs.Writer.{joined}
use Rattle.assertion.specs.Graph.{Bytes}

-- "Signals are `reset`, `enq`, `deq`, `empty`, `full`"; "there is no `M` line"; "Vertices are `s`, .."
unfoldable pub heading : Bytes
heading = bytes "S\treset\nS\tenq\nS\tdeq\nS\tempty\nS\tfull\nV\ts\n"

-- ".. then `n` with each count"
unfoldable pub vertex_line : ℕ → Bytes
vertex_line n = bytes "V\tn" ++ (digits n ++ bytes "\n")

-- "The start vertex has one edge, `reset`/`1`, to the vertex of count 0"
unfoldable pub start_line : Bytes
start_line = bytes "E\ts\tn0\tt\treset\t1\n"

-- from count n to count m, the labels with the tab between them; "each edge is marked `t`"
unfoldable pub edge_line : ℕ → ℕ → Bytes → Bytes
edge_line n m labels = bytes "E\tn" ++ (digits n ++ (bytes "\tn" ++ (digits m ++ (bytes "\tt\t" ++ (labels ++ bytes "\n")))))

-- the listing's edges from count n, "at each in the listing's order", incr, decr, stay, by its tests: 0, then k, then else;
-- "labels are the listing's, in these names, without outer brackets"; "where its prose and listing differ, the listing
-- decides": at 0 it goes up on `enq` whatever `deq`, at k down on `deq` whatever `enq`
unfoldable pub count_lines : ℕ → ℕ → Bytes
count_lines k n =
    cond (eqb n 0) (edge_line n 1 (bytes "enq\tempty&!full") ++ edge_line n 0 (bytes "!enq\tempty&!full"))
    (cond (eqb n k) (edge_line n (k - 1) (bytes "deq\t!empty&full") ++ edge_line n k (bytes "!deq\t!empty&full"))
    (edge_line n (n + 1) (bytes "enq&!deq\t!empty&!full")
    ++ (edge_line n (n - 1) (bytes "!enq&deq\t!empty&!full") ++ edge_line n n (bytes "enq=deq\t!empty&!full"))))

-- "then come the listing's edges, from-counts rising", from 0 to k
unfoldable pub buffer_text : ℕ → Bytes
buffer_text k = heading ++ (joined vertex_line (k + 1) ++ (start_line ++ joined (count_lines k) (k + 1)))
