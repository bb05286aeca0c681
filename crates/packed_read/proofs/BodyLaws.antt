-- What follows the header is read just where latches, outputs and gates are, in order. Assumes nothing.
use mathlib.Core.Path.{◌≡◌, ap, ◌∙◌}
use mathlib.Core.Bool.{true, false}
use mathlib.Core.List.{List, ◌++◌, append-nil}
use Prim.Native.Nat.{ℕ, ◌+◌}
use lib.ListN.{length}
use Rattle.netlist.specs.Literals.{literal_of}
use Rattle.aiger_lines.specs.declared.Fault.{Fault}
use Rattle.aiger_lines.specs.Lines.{Row}
use Rattle.aiger_lines.specs.Blocks.{Rows, rows, failed, behind, and_then, rows_of, end_of}
use Rattle.aiger_lines.proofs.RunLaws.{Run, run_of, then_rows, end_rows, failed-rows}
use Rattle.aiger_lines.proofs.NetLaws.{output_rows}
use Rattle.packed_read.specs.Lines.{latch_at, gate_at}
use Rattle.packed_read.specs.Files.{in_bytes, body_of}

abbrev pub latch_rows : List ℕ → ℕ → ℕ → ℕ → ℕ → ℕ → Row
latch_rows s m i k = latch_at s (literal_of m true) (literal_of (i + 1 + k) false)

abbrev pub gate_rows : List ℕ → ℕ → ℕ → ℕ → ℕ → ℕ → Row
gate_rows s i l k = gate_at s (literal_of (i + l + 1 + k) false)

-- latches, outputs and gates, from p to the end of the text
pub record Body (s : List ℕ) (m i l o a p : ℕ) (ns : List ℕ) : Type 0 where
  pub n1 : List ℕ
  pub n2 : List ℕ
  pub n3 : List ℕ
  pub f1 : ℕ
  pub f2 : ℕ
  pub f3 : ℕ
  pub p1 : ℕ
  pub p2 : ℕ
  pub p3 : ℕ
  pub latches : Run (latch_rows s m i) l 0 0 p n1 f1 p1
  pub outputs : Run (output_rows s m) o 0 f1 p1 n2 f2 p2
  pub gates : Run (gate_rows s i l) a 0 f2 p2 n3 f3 p3
  pub end : p3 ≡ length s
  pub numbers : ns ≡ n1 ++ (n2 ++ n3)

bytes-rows : (x : Rows) (ns : List ℕ) (f q : ℕ) → in_bytes x ≡ rows ns f q → x ≡ rows ns f q
unfolding in_bytes
bytes-rows (rows ms g r) ns f q h = h
bytes-rows (failed e line) ns f q h = absurd (failed-rows h)

pub body_read : (s : List ℕ) (m i l o a p : ℕ) (ns : List ℕ) (f q : ℕ) → body_of s m i l o a p ≡ rows ns f q → Body s m i l o a p ns
unfolding body_of
body_read s m i l o a p ns f q h =
    then_rows _ _ _ ns f q h
    (λ n1 f1 p1 k1 e1 h1 s1.
    then_rows _ _ _ k1 f q h1
    (λ n2 f2 p2 k2 e2 h2 s2.
    then_rows _ _ _ k2 f q (bytes-rows _ k2 f q h2)
    (λ n3 f3 p3 k3 e3 h3 s3.
    let e = end_rows s _ f3 p3 k3 f q h3 in
    record {
      n1 = n1;
      n2 = n2;
      n3 = n3;
      f1 = f1;
      f2 = f2;
      f3 = f3;
      p1 = p1;
      p2 = p2;
      p3 = p3;
      latches = run_of (latch_rows s m i) l 0 2 0 p n1 f1 p1 e1;
      outputs = run_of (output_rows s m) o 0 (l + 2) f1 p1 n2 f2 p2 e2;
      gates = run_of (gate_rows s i l) a 0 0 f2 p2 n3 f3 p3 e3;
      end = e.0;
      numbers =
          s1
          ∙ ap (λ (x : List ℕ). n1 ++ x) (s2 ∙ ap (λ (x : List ℕ). n2 ++ x) (s3 ∙ ap (λ (x : List ℕ). n3 ++ x) e.1 ∙ append-nil n3));
    })))

-- ---- and back, kind by kind

-- the gates from p on, and the end of the text; and the outputs before them
abbrev pub gates_to_end : List ℕ → ℕ → ℕ → ℕ → ℕ → ℕ → Rows
gates_to_end s i l a free p = and_then (rows_of (gate_rows s i l) a 0 0 free p) (λ f q. end_of s 0 f q)

abbrev pub outputs_to_end : List ℕ → ℕ → ℕ → ℕ → ℕ → ℕ → ℕ → ℕ → Rows
outputs_to_end s m i l o a free p = and_then (rows_of (output_rows s m) o 0 (l + 2) free p) (λ f q. in_bytes (gates_to_end s i l a f q))

module _ (s : List ℕ) (m i l o a p : ℕ) where
  pub latches_made : (ns : List ℕ) (f q : ℕ) → rows_of (latch_rows s m i) l 0 2 0 p ≡ rows ns f q → body_of s m i l o a p ≡ behind ns (outputs_to_end s m i l o a f q)
  unfolding body_of and_then
  latches_made ns f q e = rw e

  pub latches-fault : (e : Fault) (line : ℕ) → rows_of (latch_rows s m i) l 0 2 0 p ≡ failed e line → body_of s m i l o a p ≡ failed e line
  unfolding body_of and_then
  latches-fault e line h = rw h

  pub outputs_made : (free : ℕ) (ns : List ℕ) (f q : ℕ) → rows_of (output_rows s m) o 0 (l + 2) free p ≡ rows ns f q → outputs_to_end s m i l o a free p ≡ behind ns (in_bytes (gates_to_end s i l a f q))
  unfolding and_then
  outputs_made free ns f q e = rw e

  pub outputs_faulty : (free : ℕ) (e : Fault) (line : ℕ) → rows_of (output_rows s m) o 0 (l + 2) free p ≡ failed e line → outputs_to_end s m i l o a free p ≡ failed e line
  unfolding and_then
  outputs_faulty free e line h = rw h
