-- What is claimed of the stroke buffer's graph (document 02, No. 6): which cycles it rejects, by the listing's count. Assumes
-- nothing.
use Rattle.std.specs.Prelude.{Ok, ℕ, ◌+◌, ◌-◌, ◌*◌, ◌≤◌, ◌≡◌, Bool, true, false, not, cond, ◌&&◌, ◌||◌, List, [], ◌∷◌, eqb, length}
use Rattle.std.specs.Bool.{beq}
use Rattle.assertion.specs.Lists.{any}
use Rattle.assertion.specs.Graph.{Bytes, Graph, Cycle, input, holds}
use Rattle.assertion.specs.Paths.{Latest, Rejected}
use Rattle.graph.specs.Reading.{accepted, graph_of}
use Rattle.builder.specs.Build.{variables_of, build_of}

-- ---- the signals in a cycle; its input 0 is init
abbrev pub is_reset : Cycle → Bool
is_reset c = input c 1

abbrev pub is_enq : Cycle → Bool
is_enq c = input c 2

abbrev pub is_deq : Cycle → Bool
is_deq c = input c 3

abbrev pub is_empty : Cycle → Bool
is_empty c = input c 4

abbrev pub is_full : Cycle → Bool
is_full c = input c 5

-- ---- the listing, in a cycle before which the count is n, from 0 to k; k is at least 1
-- the count after it: at 0 up on enq; at k down on deq; else up on enq alone and down on deq alone
abbrev pub count_after : ℕ → ℕ → Cycle → ℕ
count_after k n c =
    cond (eqb n 0) (cond (is_enq c) 1 0)
    (cond (eqb n k) (cond (is_deq c) (k - 1) k)
    (cond (is_enq c && not (is_deq c)) (n + 1) (cond (not (is_enq c) && is_deq c) (n - 1) n)))

-- "an edge of the listing could be taken": one of the antecedents holds
abbrev pub can_move : ℕ → ℕ → Cycle → Bool
can_move k n c =
    cond (eqb n 0) (is_enq c || not (is_enq c))
    (cond (eqb n k) (is_deq c || not (is_deq c))
    ((is_enq c && not (is_deq c)) || ((not (is_enq c) && is_deq c) || beq (is_enq c) (is_deq c))))

-- "Flags are judged against the count before their cycle": `empty` says that it is 0, and `full` that it is k
abbrev pub flags_wrong : ℕ → ℕ → Cycle → Bool
flags_wrong k n c = not (beq (is_empty c) (eqb n 0) && beq (is_full c) (eqb n k))

-- ---- the same of cycles one after another: "each time", and "at least once"
abbrev pub moves_from : ℕ → ℕ → List Cycle → Bool
moves_from k n [] = true
moves_from k n (c ∷ cs) = can_move k n c && moves_from k (count_after k n c) cs

abbrev pub wrong_from : ℕ → ℕ → List Cycle → Bool
wrong_from k n [] = false
wrong_from k n (c ∷ cs) = flags_wrong k n c || wrong_from k (count_after k n c) cs

-- the last of these cycles is rejected: "a latest init exists, `reset` was high in that cycle, and from the cycle after it up
-- to now an edge of the listing could be taken each time and the flags were wrong at least once against the listing's
-- count"; "`reset` is not read again until an init"
pub record BufferRejected (k : ℕ) (cs : List Cycle) : Type 0 where
  pub init : Latest cs
  pub was_reset : is_reset init.first ≡ true
  pub moves : moves_from k 0 init.later ≡ true
  pub wrong : wrong_from k 0 init.later ≡ true

-- THE CLAIM, of a text that was written for k strokes
pub record StrokeBuffer (k : ℕ) (text : Bytes) : Type 0 where
  -- it is accepted as a graph
  pub graph : Graph
  pub read : graph_of text ≡ accepted graph
  -- "on any trace a cycle is rejected exactly when": by settings and paths, as demand 3 counts it
  pub only_when : (cs : List Cycle) → Rejected graph cs → BufferRejected k cs
  pub whenever : (cs : List Cycle) → BufferRejected k cs → Rejected graph cs
  -- from the vertex of each count n, whose place is n + 1 since that of `s` is 0, an edge can be taken in every cycle
  pub never_stuck : (n : ℕ) → n ≤ k → (c : Cycle) → any (λ e. eqb e.from (n + 1) && holds [] c e.antecedent) graph.edges ≡ true
  -- with checked left out, build makes 36k + 13 gates of it wherever it is lent the 84k + 40 numbers that are due; M is
  -- 42k + 23
  pub built : (net : List ℕ) → 84 * k + 40 ≤ length net → (build_of false text net).answer ≡ Ok (36 * k + 13)
  pub variables : variables_of false graph ≡ 42 * k + 23
