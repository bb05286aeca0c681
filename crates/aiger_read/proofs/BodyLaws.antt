-- The lines after the header are read just where each kind of line is, in order. Assumes nothing.
use mathlib.Core.Path.{◌≡◌, ap, ◌∙◌}
use mathlib.Core.Bool.{true, false}
use mathlib.Core.List.{List, ◌++◌, append-nil}
use Prim.Native.Nat.{ℕ, ◌+◌, ◌*◌}
use lib.ListN.{length, replicate}
use Rattle.netlist.specs.Literals.{literal_of}
use Rattle.aiger_lines.specs.declared.Fault.{Fault}
use Rattle.aiger_lines.specs.Lines.{Row}
use Rattle.aiger_lines.specs.Blocks.{Rows, rows, failed, behind, and_then, rows_of, end_of}
use Rattle.aiger_lines.proofs.RunLaws.{Run, run_of, then_rows, end_rows}
use Rattle.aiger_lines.proofs.NetLaws.{output_rows}
use Rattle.aiger_read.specs.Lines.{input_at, latch_at, undefined}
use Rattle.aiger_read.specs.Files.{gate_rows, body_of}

abbrev pub input_rows : List ℕ → ℕ → ℕ → ℕ → Row
input_rows s k = input_at s (literal_of (1 + k) false)

abbrev pub latch_rows : List ℕ → ℕ → ℕ → ℕ → ℕ → ℕ → Row
latch_rows s m i k = latch_at s (literal_of m true) (literal_of (i + 1 + k) false)

-- the gates, of which none is defined at first
abbrev pub gate_block : List ℕ → ℕ → ℕ → ℕ → ℕ → ℕ → ℕ → ℕ → Rows
gate_block s m i l o a free p = gate_rows s (i + l + 1) m a (i + l + o + 2) (replicate (2 * a) undefined) free p

-- the four kinds of lines, from p to the end of the text
pub record Body (s : List ℕ) (m i l o a p : ℕ) (ns : List ℕ) : Type 0 where
  pub n1 : List ℕ
  pub n2 : List ℕ
  pub n3 : List ℕ
  pub n4 : List ℕ
  pub f1 : ℕ
  pub f2 : ℕ
  pub f3 : ℕ
  pub f4 : ℕ
  pub p1 : ℕ
  pub p2 : ℕ
  pub p3 : ℕ
  pub p4 : ℕ
  pub inputs : Run (input_rows s) i 0 0 p n1 f1 p1
  pub latches : Run (latch_rows s m i) l 0 f1 p1 n2 f2 p2
  pub outputs : Run (output_rows s m) o 0 f2 p2 n3 f3 p3
  pub gates : gate_block s m i l o a f3 p3 ≡ rows n4 f4 p4
  pub end : p4 ≡ length s
  pub numbers : ns ≡ n1 ++ (n2 ++ (n3 ++ n4))

pub body_read : (s : List ℕ) (m i l o a p : ℕ) (ns : List ℕ) (f q : ℕ) → body_of s m i l o a p ≡ rows ns f q → Body s m i l o a p ns
unfolding body_of
body_read s m i l o a p ns f q h =
    then_rows _ _ _ ns f q h
    (λ n1 f1 p1 k1 e1 h1 s1.
    then_rows _ _ _ k1 f q h1
    (λ n2 f2 p2 k2 e2 h2 s2.
    then_rows _ _ _ k2 f q h2
    (λ n3 f3 p3 k3 e3 h3 s3.
    then_rows _ _ _ k3 f q h3
    (λ n4 f4 p4 k4 e4 h4 s4.
    let e = end_rows s _ f4 p4 k4 f q h4 in
    record {
      n1 = n1;
      n2 = n2;
      n3 = n3;
      n4 = n4;
      f1 = f1;
      f2 = f2;
      f3 = f3;
      f4 = f4;
      p1 = p1;
      p2 = p2;
      p3 = p3;
      p4 = p4;
      inputs = run_of (input_rows s) i 0 2 0 p n1 f1 p1 e1;
      latches = run_of (latch_rows s m i) l 0 (i + 2) f1 p1 n2 f2 p2 e2;
      outputs = run_of (output_rows s m) o 0 (i + l + 2) f2 p2 n3 f3 p3 e3;
      gates = e4;
      end = e.0;
      numbers =
          s1
          ∙ ap (λ (x : List ℕ). n1 ++ x)
          (s2 ∙ ap (λ (x : List ℕ). n2 ++ x) (s3 ∙ ap (λ (x : List ℕ). n3 ++ x) (s4 ∙ ap (λ (x : List ℕ). n4 ++ x) e.1 ∙ append-nil n4)));
    }))))

-- the gates from p on, and the end of the text
abbrev pub gates_to_end : List ℕ → ℕ → ℕ → ℕ → ℕ → ℕ → ℕ → ℕ → Rows
gates_to_end s m i l o a free p = and_then (gate_block s m i l o a free p) (λ f q. end_of s (i + l + o + a + 2) f q)

-- and back: inputs, latches and outputs, one kind after the other, and then the gates
pub body_made : (s : List ℕ) (m i l o a : ℕ) (n1 n2 n3 : List ℕ) (p f1 p1 f2 p2 f3 p3 : ℕ)
    → rows_of (input_rows s) i 0 2 0 p ≡ rows n1 f1 p1
    → rows_of (latch_rows s m i) l 0 (i + 2) f1 p1 ≡ rows n2 f2 p2
    → rows_of (output_rows s m) o 0 (i + l + 2) f2 p2 ≡ rows n3 f3 p3
    → body_of s m i l o a p ≡ behind n1 (behind n2 (behind n3 (gates_to_end s m i l o a f3 p3)))
unfolding body_of and_then
body_made s m i l o a n1 n2 n3 p f1 p1 f2 p2 f3 p3 e1 e2 e3 = rw (e1, e2, e3)

-- or up to a fault among the inputs, the latches or the outputs
module _ (s : List ℕ) (m i l o a p0 : ℕ) (e : Fault) (line : ℕ) where
  pub inputs_faulty : rows_of (input_rows s) i 0 2 0 p0 ≡ failed e line → body_of s m i l o a p0 ≡ failed e line
  unfolding body_of and_then
  inputs_faulty h = rw h

  module _ (n1 : List ℕ) (f1 q1 : ℕ) (e1 : rows_of (input_rows s) i 0 2 0 p0 ≡ rows n1 f1 q1) where
    pub latches_faulty : rows_of (latch_rows s m i) l 0 (i + 2) f1 q1 ≡ failed e line → body_of s m i l o a p0 ≡ failed e line
    unfolding body_of and_then behind
    latches_faulty h = rw (e1, h)

    pub outputs_faulty : (n2 : List ℕ) (f2 q2 : ℕ) → rows_of (latch_rows s m i) l 0 (i + 2) f1 q1 ≡ rows n2 f2 q2
        → rows_of (output_rows s m) o 0 (i + l + 2) f2 q2 ≡ failed e line → body_of s m i l o a p0 ≡ failed e line
    unfolding body_of and_then behind
    outputs_faulty n2 f2 q2 e2 h = rw (e1, e2, h)
