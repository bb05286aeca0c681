-- Of a text whose lines were read, the numbers are loose, and the text is a file of them. Assumes nothing.
use mathlib.Core.Path.{◌≡◌, refl, sym, ap₂, ◌∙◌, subst}
use mathlib.Core.Bool.{Bool, true, false}
use mathlib.Core.List.{List}
use Prim.Native.Nat.{ℕ, zero, suc, ◌+◌, ◌-◌, ◌*◌, ◌≤◌, ◌<◌}
use native.Mathlib.Nat.{zero-add}
use native.Mathlib.Omega.{arith}
use lib.ListN.{length, get_or, replicate, length-replicate}
use Rattle.text.specs.Writer.{joined}
use Rattle.text.proofs.WriterLaws.{joined_same}
use Rattle.netlist.specs.Layout.{maximum, input_count, latch_count, output_count, gate_count, latch_variable}
use Rattle.netlist.specs.Literals.{literal_of}
use Rattle.netlist.specs.Valid.{header_ok}
use Rattle.netlist.proofs.ValidLaws.{Header, header}
use Rattle.gate_order.specs.Loose.{first_gate, left_of, right_of, Once}
use Rattle.gate_order.proofs.LooseLaws.{Within, loose_ok}
use Rattle.gate_order.proofs.OrderLaws.{once-all}
use Rattle.aiger.specs.Rows.{header_row, gate_row}
use Rattle.aiger.specs.Format.{input_line, latch_line, output_line}
use Rattle.aiger_lines.specs.Fields.{fields_of}
use Rattle.aiger_lines.proofs.PlaceLaws.{At, at_join, at_joined, whole-at}
use Rattle.aiger_lines.proofs.TextLaws.{OutputRead, misformed, output_sound}
use Rattle.aiger_lines.proofs.LayoutLaws.{pair_at}
use Rattle.aiger_lines.proofs.NetLaws.{Laid, Says, laid_outline}
use Rattle.aiger_read.specs.Lines.{undefined}
use Rattle.aiger_read.specs.Claims.{IsFile, file_to, gate_lines, file_by}
use Rattle.aiger_read.proofs.TextLaws.{InputRead, LatchRead, input_sound, latch_sound}
use Rattle.aiger_read.proofs.GateLaws.{Ran, ran}
use Rattle.aiger_read.proofs.BodyLaws.{Body}

-- what never changes
constant : (F : ℕ → ℕ) (n : ℕ) → ((k : ℕ) → k < n → F (suc k) ≡ F k) → F n ≡ F 0
constant F zero h = refl
constant F (suc n) h = h n (omega arith) ∙ constant F n (λ k l. h k (omega arith))

module _
    (s net : List ℕ)
    (ok : header_ok (maximum net) (input_count net) (latch_count net) (output_count net) (gate_count net) ≡ true)
    (q : ℕ)
    (head : At s 0 (header_row (maximum net) (input_count net) (latch_count net) (output_count net) (gate_count net)) q)
    (rest : List ℕ)
    (b : Body s (maximum net) (input_count net) (latch_count net) (output_count net) (gate_count net) q rest)
    (t : Laid net b.latches.N b.outputs.N (λ k. pair_at b.n4 (2 * k)))
  where
    limits : Header (maximum net) (input_count net) (latch_count net) (output_count net) (gate_count net)
    limits = header (maximum net) (input_count net) (latch_count net) (output_count net) (gate_count net) ok

    sum : first_gate net + gate_count net ≡ maximum net + 1
    sum = omega (arith, limits.sum)

    input_step : (k : ℕ) → k < input_count net → InputRead s (literal_of (1 + k) false) (b.inputs.F k) (b.inputs.P k) (b.inputs.N k) (b.inputs.F (suc k)) (b.inputs.P (suc k))
    input_step k h = input_sound s _ _ _ _ _ (literal_of (1 + k) false) (rw zero-add at (b.inputs.steps k h))

    latch_step : (k : ℕ) → k < latch_count net
        → LatchRead s (literal_of (maximum net) true) (literal_of (latch_variable net k) false) (b.latches.F k) (b.latches.P k) (b.latches.N k) (b.latches.F (suc k)) (b.latches.P (suc k))
    latch_step k h = latch_sound s _ _ _ _ _ (literal_of (maximum net) true) (literal_of (latch_variable net k) false) (rw zero-add at (b.latches.steps k h))

    output_step : (k : ℕ) → k < output_count net → OutputRead s (literal_of (maximum net) true) (b.outputs.F k) (b.outputs.P k) (b.outputs.N k) (b.outputs.F (suc k)) (b.outputs.P (suc k))
    output_step k h = output_sound _ _ _ _ s _ (literal_of (maximum net) true) (b.outputs.steps k h)

    -- ---- the text

    explicit : ℕ → Bool
    explicit k = misformed (fields_of s 1 (b.latches.P k))

    inputs-at : At s q (joined input_line (input_count net)) b.p1
    unfolding input_line
    inputs-at =
        let start : b.inputs.P 0 ≤ length s = rw b.inputs.first-place head.inside in
        rw (b.inputs.first-place, b.inputs.last-place) at (at_joined {s = s} input_line b.inputs.P (input_count net) start (λ k h. (input_step k h).at))

    latches-at : At s b.p1 (joined (latch_line net explicit) (latch_count net)) b.p2
    unfolding latch_line explicit
    latches-at =
        let start : b.latches.P 0 ≤ length s = rw b.latches.first-place inputs-at.inside in
        rw (b.latches.first-place, b.latches.last-place) at (at_joined {s = s} (latch_line net explicit) b.latches.P (latch_count net) start (λ k h. rw (t.next k h, t.reset k h) (latch_step k h).at))

    outputs-at : At s b.p2 (joined (output_line net) (output_count net)) b.p3
    unfolding output_line
    outputs-at =
        let start : b.outputs.P 0 ≤ length s = rw b.outputs.first-place latches-at.inside in
        rw (b.outputs.first-place, b.outputs.last-place) at (at_joined {s = s} (output_line net) b.outputs.P (output_count net) start (λ k h. rw (t.output k h) (output_step k h).at))

    -- ---- the gates

    gates : Ran s (first_gate net) (maximum net) (gate_count net) (replicate (2 * gate_count net) undefined) (gate_count net) b.f3 b.p3 b.n4 b.f4 b.p4
    gates =
        ran s (first_gate net) (maximum net) (gate_count net) limits.small sum (replicate (2 * gate_count net) undefined) (gate_count net) _ b.f3 b.p3 b.n4 b.f4 b.p4
        (length-replicate (2 * gate_count net) undefined) b.gates

    once : Once net gates.order
    once =
        record {
          inside = λ k l. let i = gates.apart.inside k l in (i.0, omega (arith, sum, i.1));
          once = gates.apart.once;
        }

    -- the operands of a gate are those that its line has
    operands : (x : ℕ) → first_gate net ≤ x → x < first_gate net + gate_count net
        → (get_or b.n4 (2 * (x - first_gate net)) 0 ≡ left_of net x) × (get_or b.n4 (2 * (x - first_gate net) + 1) 0 ≡ right_of net x)
    operands x l u = let k : x - first_gate net < gate_count net = omega arith in (sym (t.first (x - first_gate net) k), sym (t.second (x - first_gate net) k))

    gates_at_lem : At s b.p3 (gate_lines net gates.order) b.p4
    unfolding gate_lines
    gates_at_lem =
        subst (λ (u : List ℕ). At s b.p3 u b.p4)
        (joined_same _ _ (length gates.order)
        (λ k l.
        let i = once.inside k l in
        let o = operands (get_or gates.order k 0) i.0 i.1 in
        ap₂ (gate_row (literal_of (get_or gates.order k 0) false)) o.0 o.1))
        (gates.at outputs-at.inside)

    within : (k : ℕ) → k < gate_count net → Within net k
    within k l =
        let w = once-all net gates.order once gates.size (first_gate net + k) (omega arith) (omega arith) in
        let n : first_gate net + k - first_gate net ≡ k = omega arith in
        let f = gates.fits w.0 w.1 in
        (rw (w.2, n, ← (t.first k l)) at f.0, rw (w.2, n, ← (t.second k l)) at f.1)

    text : s ≡ file_by net explicit gates.order
    unfolding file_by file_to
    text = whole-at _ b.p4 (at_join (at_join head (at_join inputs-at (at_join latches-at outputs-at))) gates_at_lem) b.end

    -- ---- the netlist

    first-free : b.latches.F 0 ≡ 0
    first-free = b.latches.first-free ∙ sym b.inputs.last-free ∙ constant b.inputs.F (input_count net) (λ k h. (input_step k h).free) ∙ b.inputs.first-free

    says : Says net b.latches.N b.outputs.N b.latches.F
    says =
        record {
          start = first-free;
          latches = λ k h. (latch_step k h).says;
          outputs = λ k h. (output_step k h).within;
        }

    pub is-file : IsFile s net
    is-file =
        record {
          numbers = loose_ok net (laid_outline net ok t says) within;
          exact = t.size;
          explicit = explicit;
          order = gates.order;
          once = once;
          all = gates.size;
          is = text;
        }
