-- `put_count` meets its contract: by the listing's three cases. Assumes nothing.
use mathlib.Core.Path.{◌≡◌}
use mathlib.Core.List.{List}
use Prim.Native.Nat.{ℕ, ◌+◌, ◌-◌}
use borrow.Author.Rules.{rules}
use borrow.Author.Tests.{eq-eqb, ne_eqb}
use Rattle.text.specs.Quoted.{bytes}
use Rattle.text.specs.declared.writer.Writer.{Writer}
use Rattle.text.specs.Writer.{Writes}
use Rattle.text.proofs.WritingLaws.{then}
use Rattle.buffer_text.specs.Text.{edge_line, count_lines}
use Rattle.buffer_graph.proofs.lines.put_count.Goals as goal

-- the lines at 0, at k and between, one after the other
module _ (k n : ℕ) {l m r : Writer} where
  at_0 : n ≡ 0 → Writes l m (edge_line n 1 (bytes "enq\tempty&!full")) → Writes m r (edge_line n 0 (bytes "!enq\tempty&!full"))
      → Writes l r (count_lines k n)
  unfolding count_lines
  at_0 e incr stay = rw (eq-eqb n 0 e) (then incr stay)

  module _ (some : n ≡ 0 → ⊥) where
    at_k : n ≡ k → Writes l m (edge_line n (k - 1) (bytes "deq\t!empty&full")) → Writes m r (edge_line n k (bytes "!deq\t!empty&full"))
        → Writes l r (count_lines k n)
    unfolding count_lines
    at_k e decr stay = rw (ne_eqb n 0 some, eq-eqb n k e) (then decr stay)

    between : {o : Writer} → (n ≡ k → ⊥)
        → Writes l m (edge_line n (n + 1) (bytes "enq&!deq\t!empty&!full"))
        → Writes m o (edge_line n (n - 1) (bytes "!enq&deq\t!empty&!full"))
        → Writes o r (edge_line n n (bytes "enq=deq\t!empty&!full"))
        → Writes l r (count_lines k n)
    unfolding count_lines
    between d incr decr stay = rw (ne_eqb n 0 some, ne_eqb n k d) (then incr (then decr stay))

pub returns-then-n-eq0 : goal.returns-then-n-eq0
returns-then-n-eq0 c =
    at_0 _ _ c.if-n-eq0.true c.put_edge.ensures c.put_edge-then-n-eq0.ensures

pub returns-then-n-k : goal.returns-then-n-k
returns-then-n-k c =
    at_k _ _ c.if-n-eq0.false c.if-n-k.true c.put_edge-then-n-k.ensures c.put_edge-then-n-k-2.ensures

pub returns-else-n-k : goal.returns-else-n-k
returns-else-n-k c =
    between _ _ c.if-n-eq0.false c.if-n-k.false c.put_edge-else-n-k.ensures c.put_edge-else-n-k-2.ensures c.put_edge-else-n-k-3.ensures
