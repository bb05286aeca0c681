-- `outline` meets its contract. Assumes nothing.
use mathlib.Core.Path.{◌≡◌, sym, ◌∙◌}
use mathlib.Core.Bool.{Bool, true, ◌&&◌}
use mathlib.Core.List.{List}
use Prim.Native.Nat.{ℕ, ◌<◌, ◌≤◌}
use native.Mathlib.Omega.{arith}
use lib.Dec.{leb}
use lib.ListN.{length}
use borrow.Author.Tests.{le-leb, lt-leb, not-true, not-false}
use Rattle.netlist.specs.Layout.{maximum, input_count, latch_count, output_count, gate_count, size_of}
use Rattle.netlist.specs.Lanes.{each}
use Rattle.netlist.specs.Valid.{header_ok, latch_ok, free_count, output_ok, is_outline}
use Rattle.netlist.proofs.LiteralLaws.{made}
use Rattle.netlist.proofs.ValidLaws.{header}
use borrow.Author.Rules.{rules}
use Rattle.netlist.specs.declared.header.Header.{Header}
use Rattle.netlist.proofs.valid.outline.Goals as goal

-- what is left to test where the header is right
abbrev Long : List ℕ → Bool
Long net = leb (size_of net) (length net)

abbrev Outputs : List ℕ → Bool
Outputs net = each (output_count net) (output_ok net)

abbrev Latches : List ℕ → Bool
Latches net = each (latch_count net) (latch_ok net) && leb (free_count net (latch_count net)) 6

split : (net : List ℕ) → leb 5 (length net) ≡ true
    → header_ok (maximum net) (input_count net) (latch_count net) (output_count net) (gate_count net) ≡ true
    → is_outline net ≡ (Long net && (Outputs net && Latches net))
unfolding is_outline
split net e1 e2 = rw (e1, e2)

-- what is said of the five numbers as a header is said of those of the buffer
limits : (h : Header) (net : List ℕ) {b : Bool} → h.maximum ≡ maximum net → h.inputs ≡ input_count net → h.latches ≡ latch_count net
    → h.outputs ≡ output_count net → h.gates ≡ gate_count net → header_ok h.maximum h.inputs h.latches h.outputs h.gates ≡ b
    → header_ok (maximum net) (input_count net) (latch_count net) (output_count net) (gate_count net) ≡ b
limits h net m i l o a e = rw (← m, ← i, ← l, ← o, ← a) e

pub returns-then-net-lt-HEADER : goal.returns-then-net-lt-HEADER
unfolding is_outline
returns-then-net-lt-HEADER c = rw (lt-leb 5 _ c.if-net-lt-HEADER.true)

pub returns-then-not-is_within_limits : goal.returns-then-not-is_within_limits
unfolding is_outline
returns-then-not-is_within_limits c =
    let h = c.of-header.ensures in
    let e = limits c.of-header.result c.args.net.now h.maximum h.inputs h.latches h.outputs h.gates (sym c.is_within_limits.ensures ∙ not-true _ c.if-not-is_within_limits.true-raw) in
    rw (le-leb 5 _ c.if-net-lt-HEADER.false, e)

pub returns-then-net-size : goal.returns-then-net-size
returns-then-net-size c =
    let h = c.of-header.ensures in
    let e = limits c.of-header.result c.args.net.now h.maximum h.inputs h.latches h.outputs h.gates (sym c.is_within_limits.ensures ∙ not-false _ c.if-not-is_within_limits.false-raw) in
    let short : length c.args.net.now < size_of c.args.net.now = omega (arith, h.latches, h.outputs, h.gates, c.size.ensures, c.if-net-size.true) in
    sym (split c.args.net.now (le-leb 5 _ c.if-net-lt-HEADER.false) e ∙ rw (lt-leb _ _ short))

pub outputs_ok-requires : goal.outputs_ok-requires
outputs_ok-requires c =
    let h = c.of-header.ensures in
    let e = limits c.of-header.result c.args.net.now h.maximum h.inputs h.latches h.outputs h.gates (sym c.is_within_limits.ensures ∙ not-false _ c.if-not-is_within_limits.false-raw) in
    let v = header _ _ _ _ _ e in
    let last = made _ true (omega (arith, v, h.maximum)) c.literal-last.ensures in
    let long : size_of c.args.net.now ≤ length c.args.net.now = omega (arith, h.latches, h.outputs, h.gates, c.size.ensures, c.if-net-size.false) in
    record {
      at_value = (omega (arith, c.output_at.ensures, h.latches), rw (← h.maximum) last);
      count_in_bounds = omega (arith, h.latches, h.outputs, c.output_at.ensures, long);
    }

pub returns-then-not-outputs_ok : goal.returns-then-not-outputs_ok
returns-then-not-outputs_ok c =
    let h = c.of-header.ensures in
    let e = limits c.of-header.result c.args.net.now h.maximum h.inputs h.latches h.outputs h.gates (sym c.is_within_limits.ensures ∙ not-false _ c.if-not-is_within_limits.false-raw) in
    let long : size_of c.args.net.now ≤ length c.args.net.now = omega (arith, h.latches, h.outputs, h.gates, c.size.ensures, c.if-net-size.false) in
    let o = rw h.outputs at (sym c.outputs_ok.ensures ∙ not-true _ c.if-not-outputs_ok.true-raw) in
    sym (split c.args.net.now (le-leb 5 _ c.if-net-lt-HEADER.false) e ∙ rw (le-leb _ _ long, o))

pub overflow_add-header : goal.overflow_add-header
overflow_add-header c =
    let h = c.of-header.ensures in
    let e = limits c.of-header.result c.args.net.now h.maximum h.inputs h.latches h.outputs h.gates (sym c.is_within_limits.ensures ∙ not-false _ c.if-not-is_within_limits.false-raw) in
    let v = header _ _ _ _ _ e in
    omega (arith, v, h.inputs)

pub latches_ok-requires : goal.latches_ok-requires
latches_ok-requires c =
    let h = c.of-header.ensures in
    let e = limits c.of-header.result c.args.net.now h.maximum h.inputs h.latches h.outputs h.gates (sym c.is_within_limits.ensures ∙ not-false _ c.if-not-is_within_limits.false-raw) in
    let v = header _ _ _ _ _ e in
    let last = made _ true (omega (arith, v, h.maximum)) c.literal-last.ensures in
    let long : size_of c.args.net.now ≤ length c.args.net.now = omega (arith, h.latches, h.outputs, h.gates, c.size.ensures, c.if-net-size.false) in
    record {
      first_value = (omega (arith, h.inputs), rw (← h.maximum) last);
      count_in_bounds = (omega (arith, h.latches, long), omega (arith, v, h.inputs, h.latches));
    }

pub returns : goal.returns
returns c =
    let h = c.of-header.ensures in
    let e = limits c.of-header.result c.args.net.now h.maximum h.inputs h.latches h.outputs h.gates (sym c.is_within_limits.ensures ∙ not-false _ c.if-not-is_within_limits.false-raw) in
    let long : size_of c.args.net.now ≤ length c.args.net.now = omega (arith, h.latches, h.outputs, h.gates, c.size.ensures, c.if-net-size.false) in
    let o = rw h.outputs at (sym c.outputs_ok.ensures ∙ not-false _ c.if-not-outputs_ok.false-raw) in
    rw h.latches at c.latches_ok.ensures ∙ sym (split c.args.net.now (le-leb 5 _ c.if-net-lt-HEADER.false) e ∙ rw (le-leb _ _ long, o))
