-- What write answers and leaves at each of its ends, and that it is what its contract claims. Assumes nothing.
use Rattle.std.specs.Prelude.{Result, Ok, Err, IfOk}
use mathlib.Core.Path.{◌≡◌, sym, subst}
use mathlib.Core.List.{List, ◌++◌}
use Prim.Native.Nat.{ℕ, ◌<◌, ◌≤◌}
use native.Mathlib.Nat.{zero-add}
use native.Mathlib.Omega.{arith}
use lib.ListN.{length, take, drop}
use lib.Seq.{take_at}
use Rattle.text.specs.Writer.{top, Wrote}
use Rattle.text.proofs.WriterLaws.{fits}
use Rattle.buffer_text.specs.Text.{buffer_text}
use Rattle.buffer_text.specs.Claims.{StrokeBuffer}
use Rattle.buffer_text.proofs.ClaimLaws.{buffer}
use Rattle.buffer_graph.specs.declared.Cause.{Cause}
use Rattle.buffer_graph.specs.declared.Cause.TheVariants.{StrokesOutside, ShortBuffer}
use Rattle.buffer_graph.specs.Write.{write_end, write_of}
use Rattle.buffer_graph.proofs.WriteLaws.{due_for, bytes_due_lem, outside, too_short, written}

module _ (strokes : ℕ) (before : List ℕ) where
  abbrev graph : List ℕ
  graph = buffer_text strokes

  abbrev due : ℕ
  due = due_for strokes

  -- what write promises of an answer and what it leaves
  abbrev Ends : Result ℕ Cause → List ℕ → Type 0
  Ends r after = (write_end r after ≡ write_of strokes before) × IfOk r (λ n. StrokeBuffer strokes (take n after))

  pub ends_outside : (1 ≤ strokes → strokes ≤ 40 → ⊥) → Ends (Err StrokesOutside) before
  ends_outside h = (sym (outside strokes before h), tt)

  module _ (some : 1 ≤ strokes) (few : strokes ≤ 40) where
    pub ends-short : length before < length graph → Ends (Err ShortBuffer) before
    ends-short l = (sym (too_short strokes before some few (rw (bytes_due_lem strokes some few) at l)), tt)

    -- what stands first in the buffer is the graph's text
    first : StrokeBuffer strokes (take due (graph ++ drop due before))
    first = subst (StrokeBuffer strokes) (sym (take_at graph (drop due before) _ (bytes_due_lem strokes some few))) (buffer strokes some few)

    pub ends-written : {end : ℕ} {after : List ℕ} → length before < top → length graph ≤ length before → Wrote before after 0 end graph → Ends (Ok end) after
    ends-written {end} {after} small l w =
        let d : length graph ≡ due = bytes_due_lem strokes some few in
        let e : end ≡ due = omega (arith, w.place, small, d) in
        let f : after ≡ graph ++ drop due before = rw (zero-add, d) at (fits w (omega arith)) in
        rw (e, f) (sym (written strokes before some few (rw d at l)), first)
