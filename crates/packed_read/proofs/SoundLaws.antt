-- What is taken is a packed file: the numbers that were read are a netlist, and the text is its file. Assumes nothing.
use mathlib.Core.Path.{◌≡◌, ap, ap₂, ◌∙◌}
use mathlib.Core.Bool.{Bool, true, false}
use mathlib.Core.List.{List, ◌∷◌, ◌++◌}
use Prim.Native.Nat.{ℕ, suc, ◌+◌, ◌≤◌, ◌<◌}
use native.Mathlib.Nat.{zero-add}
use lib.ListN.{length}
use Rattle.text.specs.Writer.{joined}
use Rattle.netlist.specs.Literals.{literal_of}
use Rattle.aiger.specs.Format.{output_line}
use Rattle.packed.specs.Format.{packed_header, packed_latch, packed_gate, packed_with}
use Rattle.aiger_lines.specs.Fields.{fields_of}
use Rattle.aiger_lines.specs.Blocks.{rows}
use Rattle.aiger_lines.specs.Heads.{head_at}
use Rattle.aiger_lines.proofs.PlaceLaws.{At, at_join, at_joined, whole-at}
use Rattle.aiger_lines.proofs.HeadLaws.{HeadAt, head_at_lem}
use Rattle.aiger_lines.proofs.TextLaws.{OutputRead, misformed, output_sound}
use Rattle.aiger_lines.proofs.RunLaws.{head_rows}
use Rattle.aiger_lines.proofs.LayoutLaws.{net_of}
use Rattle.aiger_lines.proofs.NetLaws.{Laid, Says, Gates, laid, laid_netlist}
use Rattle.packed_read.specs.Files.{body_of, read_packed}
use Rattle.packed_read.specs.Claims.{IsPacked}
use Rattle.packed_read.proofs.RunLaws.{EachByte}
use Rattle.packed_read.proofs.TextLaws.{LatchRead, GateRead, latch_sound, gate_sound}
use Rattle.packed_read.proofs.BodyLaws.{Body, body_read}

module _ (s : List ℕ) (bytes : EachByte s) (m i l o a q : ℕ) (ks : List ℕ) (b : Body s m i l o a q ks) where
  -- ---- line by line, and gate by gate

  latch_step : (k : ℕ) → k < l
      → LatchRead s (literal_of m true) (literal_of (i + 1 + k) false) (b.latches.F k) (b.latches.P k) (b.latches.N k) (b.latches.F (suc k)) (b.latches.P (suc k))
  latch_step k h = latch_sound s _ _ _ _ _ (literal_of m true) (literal_of (i + 1 + k) false) (rw zero-add at (b.latches.steps k h))

  output_step : (k : ℕ) → k < o → OutputRead s (literal_of m true) (b.outputs.F k) (b.outputs.P k) (b.outputs.N k) (b.outputs.F (suc k)) (b.outputs.P (suc k))
  output_step k h = output_sound _ _ _ _ s _ (literal_of m true) (b.outputs.steps k h)

  gate_step : (k : ℕ) → k < a → GateRead s (literal_of (i + l + 1 + k) false) (b.gates.F k) (b.gates.P k) (b.gates.N k) (b.gates.F (suc k)) (b.gates.P (suc k))
  gate_step k h = gate_sound s _ _ _ _ _ (literal_of (i + l + 1 + k) false) (λ j g. bytes j) (rw zero-add at (b.gates.steps k h))

  -- ---- the netlist

  abbrev net : List ℕ
  net = net_of m i l o a b.latches.N b.outputs.N b.gates.N

  t : Laid net b.latches.N b.outputs.N b.gates.N
  t =
      laid m i l o a b.latches.N b.outputs.N b.gates.N
      record {
        latches = λ k h. (latch_step k h).says.two;
        outputs = λ k h. (output_step k h).one;
        gates = λ k h. (gate_step k h).two;
      }

  says : Says net b.latches.N b.outputs.N b.latches.F
  says =
      record {
        start = b.latches.first-free;
        latches = λ k h. (latch_step k h).says;
        outputs = λ k h. (output_step k h).within;
      }

  gates : Gates net b.gates.N
  gates =
      record {
        below = λ k h. (gate_step k h).below;
        order = λ k h. (gate_step k h).order;
      }

  -- ---- the text

  module _ (h : HeadAt 105 s m i l o a q) where
    explicit : ℕ → Bool
    explicit k = misformed (fields_of s 0 (b.latches.P k))

    latches-at : At s q (joined (packed_latch net explicit) l) b.p1
    unfolding packed_latch explicit
    latches-at =
        let start : b.latches.P 0 ≤ length s = rw b.latches.first-place h.at.inside in
        rw (b.latches.first-place, b.latches.last-place) at (at_joined {s = s} (packed_latch net explicit) b.latches.P l start (λ k g. rw (t.next k g, t.reset k g) (latch_step k g).at))

    outputs-at : At s b.p1 (joined (output_line net) o) b.p2
    unfolding output_line
    outputs-at =
        let start : b.outputs.P 0 ≤ length s = rw b.outputs.first-place latches-at.inside in
        rw (b.outputs.first-place, b.outputs.last-place) at (at_joined {s = s} (output_line net) b.outputs.P o start (λ k g. rw (t.output k g) (output_step k g).at))

    gates_at_lem : At s b.p2 (joined (packed_gate net) a) b.p3
    unfolding packed_gate
    gates_at_lem =
        let start : b.gates.P 0 ≤ length s = rw b.gates.first-place outputs-at.inside in
        rw (b.gates.first-place, b.gates.last-place) at (at_joined {s = s} (packed_gate net) b.gates.P a start (λ k g. rw (t.first k g, t.second k g) (gate_step k g).at))

    text : s ≡ packed_with net explicit
    unfolding packed_with packed_header
    text = whole-at _ b.p3 (at_join h.at (at_join latches-at (at_join outputs-at gates_at_lem))) b.end

    is-packed : (ns : List ℕ) → ns ≡ m ∷ i ∷ l ∷ o ∷ a ∷ ks → IsPacked s ns
    is-packed ns n =
        let all : ns ≡ net = n ∙ ap (λ (x : List ℕ). m ∷ i ∷ l ∷ o ∷ a ∷ x) (b.numbers ∙ ap₂ ◌++◌ b.latches.numbers (ap₂ ◌++◌ b.outputs.numbers b.gates.numbers)) in
        rw all (record { netlist = laid_netlist net h.ok t says gates; exact = t.size; explicit = explicit; is = text })

-- SOUND
pub sound : (s ns : List ℕ) (free q : ℕ) → EachByte s → read_packed s ≡ rows ns free q → IsPacked s ns
unfolding read_packed
sound s ns free q bytes h =
    head_rows _ (head_at 105 s) (body_of s) ns free q h
    (λ m i l o a r ks x y n. is-packed s bytes m i l o a r ks (body_read s m i l o a r ks free q y) (head_at_lem 105 s m i l o a r x) ns n)
