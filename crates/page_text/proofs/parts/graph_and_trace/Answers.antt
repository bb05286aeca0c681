-- `graph_and_trace` meets its contract. Assumes nothing.
use mathlib.Core.Path.{◌≡◌, ◌∙◌}
use mathlib.Core.Logic.{◌⊎◌, inl, inr}
use Prim.Native.Nat.{◌+◌, ◌<◌, ◌≤◌}
use native.Mathlib.Omega.{arith}
use borrow.Author.Rules.{part_to_end}
use lib.ListN.{length}
use Rattle.page_text.specs.Parts.{graph_part}
use Rattle.page_text.proofs.PartLaws.{trace-at}
use Rattle.page_text.proofs.parts.graph_and_trace.Goals as goal
use Rattle.page_text.proofs.parts.graph_and_trace.Goals.{then-end-input, else-end-input}

pub returns-clause-graph : goal.returns-clause-graph
unfolding graph_part
returns-clause-graph c = rw c.graph_length-end.ensures.value

pub returns-clause-trace : goal.returns-clause-trace
returns-clause-trace c =
    let s = c.args.input.now in
    let end = c.graph_length-end.result in
    let at = c.if-end-input.at in
    let b : ((end < length s) × (at ≡ end + 2)) ⊎ ((length s ≤ end) × (at ≡ end)) =
    elim c.if-end-input.branch [ then-end-input w ↦ inl (omega arith, omega arith) | else-end-input w ↦ inr (omega arith, omega arith) ] in
    part_to_end s at ∙ (trace-at s at c.graph_length-end.ensures.value b (λ w. w) (λ w. w)).part
