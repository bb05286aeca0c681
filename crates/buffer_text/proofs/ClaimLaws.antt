-- THE CLAIM on the stroke buffer's text. Assumes nothing.
use Prim.Native.Nat.{ℕ, ◌≤◌}
use Rattle.buffer_text.specs.Text.{buffer_text}
use Rattle.buffer_text.specs.Claims.{StrokeBuffer}
use Rattle.buffer_text.proofs.Graph.{buffer_graph}
use Rattle.buffer_text.proofs.BufferLaws.{only_when, whenever, never_stuck}
use Rattle.buffer_text.proofs.TextLaws.{graph}
use Rattle.buffer_text.proofs.CostLaws.{built, variables}

pub buffer : (k : ℕ) → 1 ≤ k → k ≤ 40 → StrokeBuffer k (buffer_text k)
buffer k h l =
    record {
      graph = buffer_graph k;
      read = graph k h l;
      only_when = only_when k h;
      whenever = whenever k h;
      never_stuck = never_stuck k h;
      built = built k h l;
      variables = variables k h l;
    }
