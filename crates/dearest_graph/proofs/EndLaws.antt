-- What write answers and leaves at each of its ends, and that it is what its contract claims. Assumes nothing.
use Rattle.std.specs.Prelude.{Result, Ok, Err, IfOk}
use mathlib.Core.Path.{◌≡◌, sym, subst}
use mathlib.Core.List.{List, ◌++◌}
use Prim.Native.Nat.{ℕ, ◌+◌, ◌*◌, ◌<◌, ◌≤◌}
use native.Mathlib.Nat.{zero-add}
use native.Mathlib.Omega.{arith}
use lib.ListN.{length, take, drop}
use lib.Seq.{take_at}
use Rattle.text.specs.Writer.{top, Wrote}
use Rattle.text.proofs.WriterLaws.{fits}
use Rattle.dearest_text.specs.Dearest.{dearest_text}
use Rattle.dearest_text.specs.Claims.{Dearest}
use Rattle.dearest_text.proofs.DearestLaws.{dearest}
use Rattle.dearest_graph.specs.declared.Cause.{Cause}
use Rattle.dearest_graph.specs.declared.Cause.TheVariants.{EdgesOutside, ShortBuffer}
use Rattle.dearest_graph.specs.Write.{write_end, write_of}
use Rattle.dearest_graph.proofs.WriteLaws.{bytes_due_lem, outside, too_short, written}

module _ (edges : ℕ) (before : List ℕ) where
  abbrev graph : List ℕ
  graph = dearest_text edges

  -- what write promises of an answer and what it leaves
  abbrev Ends : Result ℕ Cause → List ℕ → Type 0
  Ends r after = (write_end r after ≡ write_of edges before) × IfOk r (λ n. Dearest edges (take n after))

  pub ends_outside : (1 ≤ edges → edges ≤ 128 → ⊥) → Ends (Err EdgesOutside) before
  ends_outside h = (sym (outside edges before h), tt)

  module _ (some : 1 ≤ edges) (few : edges ≤ 128) where
    pub ends-short : length before < 4 + 12 * edges → Ends (Err ShortBuffer) before
    ends-short l = (sym (too_short edges before some few l), tt)

    -- what stands first in the buffer is the graph's text
    first : Dearest edges (take (4 + 12 * edges) (graph ++ drop (4 + 12 * edges) before))
    first = subst (Dearest edges) (sym (take_at graph (drop (4 + 12 * edges) before) _ (bytes_due_lem edges))) (dearest edges few some)

    pub ends-written : {end : ℕ} {after : List ℕ} → length before < top → 4 + 12 * edges ≤ length before → Wrote before after 0 end graph → Ends (Ok end) after
    ends-written {end} {after} small l w =
        let e : end ≡ 4 + 12 * edges = omega (arith, w.place, small, bytes_due_lem edges) in
        let f : after ≡ graph ++ drop (4 + 12 * edges) before = rw (zero-add, bytes_due_lem edges) at (fits w (omega (arith, bytes_due_lem edges))) in
        rw (e, f) (sym (written edges before some few l), first)
