-- What the reader's answer tells of widths. Assumes nothing.
use Rattle.graph.specs.declared.Cause.{Cause}
use Rattle.std.specs.Prelude.{Result}
use mathlib.Core.Path.{◌≡◌, sym, subst}
use Prim.Native.Nat.{ℕ, ◌+◌, ◌≤◌, ◌<◌}
use lib.ListN.{take}
use Rattle.assertion.specs.Graph.{Bytes}
use Rattle.graph.specs.Held.{read_of}
use Rattle.graph.specs.Claims.{widths_of, SymbolAt}
use Rattle.graph.specs.ModeClaims.{RefusedHere, RefusedAfter}
use Rattle.graph.specs.WidthClaims.{WidthMeans}
use Rattle.graph.specs.declared.CheckedGraph.{CheckedGraph}
use Rattle.graph.proofs.AnswerLaws.{CheckedText, checked-text}
use Rattle.graph.proofs.WidthTextLaws.{signal_width, constant-width, vertex-width}
use Rattle.graph.proofs.SymbolTextLaws.{signal_most, constant_most, signal_again, constant_again, signal_taken, constant-taken, vertex-alone}
use Rattle.graph.proofs.VertexTextLaws.{vertex-taken}

module _ (text : Bytes) (g : CheckedGraph) (c : CheckedText text g) where
  answered-symbol : (i : ℕ) → i < g.named → SymbolAt text g i
  answered-symbol i l = subst (λ (x : CheckedGraph). SymbolAt text x i) (sym c.arrays) (c.graph_sound.symbol-at i (rw c.named-is at l))

  answered-bits : g.signals + g.constants ≡ widths_of (take g.named g.names)
  answered-bits = rw (c.signals-are, c.constants-are, c.named-is, c.arrays) c.graph_sound.bits_of_all

  answered-signals : g.signals ≤ 63
  answered-signals = rw c.signals-are c.graph_sound.signals-few

  answered-constants : g.constants ≤ 6
  answered-constants = rw c.constants-are c.graph_sound.constants-few

pub width-means : (text : Bytes) {r : Result CheckedGraph Cause} → r ≡ read_of text → WidthMeans text r
width-means text {r} e =
    record {
      symbols = λ g h. answered-symbol text g (checked-text text e h);
      bits_of_all = λ g h. answered-bits text g (checked-text text e h);
      few-signals = λ g h. answered-signals text g (checked-text text e h);
      few-constants = λ g h. answered-constants text g (checked-text text e h);
      signal_width = λ before name rest after l n s. subst (RefusedAfter before 2) (sym e) (signal_width text before name rest after l n s);
      constant-width = λ before name rest after l n s. subst (RefusedAfter before 2) (sym e) (constant-width text before name rest after l n s);
      vertex-width = λ before name rest after l s. subst (RefusedAfter before 2) (sym e) (vertex-width text before name rest after l s);
      signal_most = λ before name field after w g n none l s. subst (RefusedHere before 4) (sym e) (signal_most text before name field after w g n none l s);
      constant_most = λ before name field after w g n l s. subst (RefusedHere before 4) (sym e) (constant_most text before name field after w g n l s);
      signal_again = λ before name field after w g n none l h s. subst (RefusedHere before 5) (sym e) (signal_again text before name field after w g n none l h s);
      constant_again = λ before name field after w g n l h s. subst (RefusedHere before 5) (sym e) (constant_again text before name field after w g n l h s);
      signal_taken = signal_taken text;
      constant-taken = constant-taken text;
      vertex-first = vertex-alone;
      vertex-taken = vertex-taken text;
    }
