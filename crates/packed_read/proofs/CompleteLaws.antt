-- Every packed file of a netlist is taken, and gives the netlist's numbers; where a latch, an output or a gate has a
-- fault, or something stands behind it, it is refused for that. Assumes nothing.
use mathlib.Core.Path.{◌≡◌, refl, sym, ap, ◌∙◌}
use mathlib.Core.Bool.{Bool, true, false}
use mathlib.Core.List.{List, [], ◌∷◌, ◌++◌, append_assoc}
use Prim.Native.Nat.{ℕ, suc, ◌+◌, ◌*◌, ◌<◌}
use native.Mathlib.Omega.{arith}
use lib.ListN.{length, get_or}
use Rattle.text.specs.Writer.{joined}
use Rattle.netlist.specs.Layout.{maximum, input_count, latch_count, output_count, gate_count, next_at, reset_at, operands_at, size_of, latch_variable, gate_variable}
use Rattle.netlist.specs.Literals.{literal_of}
use Rattle.netlist.specs.Valid.{free_count, is_netlist}
use Rattle.netlist.proofs.ValidLaws.{Valid, valid, outline_of}
use Rattle.aiger.specs.Format.{output_line}
use Rattle.packed.specs.Format.{packed_header, packed_latch, packed_gate, packed_with}
use Rattle.aiger_lines.specs.declared.Fault.{Fault}
use Rattle.aiger_lines.specs.declared.Fault.TheVariants.{WrongShape}
use Rattle.aiger_lines.specs.Lines.{row, fault}
use Rattle.aiger_lines.specs.Blocks.{Rows, rows, failed, behind, rows_of}
use Rattle.aiger_lines.specs.Heads.{on_head}
use Rattle.aiger_lines.proofs.PlaceLaws.{At, at_split, at-whole}
use Rattle.aiger_lines.proofs.RunLaws.{to_end, past_end, no_end}
use Rattle.aiger_lines.proofs.LayoutLaws.{pair_at, one_at, made}
use Rattle.aiger_lines.proofs.NetLaws.{complete_run, faulty_run, output_rows, own-small, within, reset-small, net-head, net_latch, outputs-run, outputs-fault}
use Rattle.packed_read.specs.Files.{in_bytes, body_of, read_packed}
use Rattle.packed_read.specs.Claims.{IsPacked, to_latch, to_output, to_gate}
use Rattle.packed_read.proofs.TextLaws.{latch_is, gate_complete}
use Rattle.packed_read.proofs.BodyLaws.{latch_rows, gate_rows, gates_to_end, outputs_to_end, latches_made, latches-fault, outputs_made, outputs_faulty}

module _ (s net : List ℕ) (explicit : ℕ → Bool) (is : is_netlist net ≡ true) where
  abbrev v : Valid net
  v = valid net is

  abbrev heads : List ℕ
  heads = maximum net ∷ input_count net ∷ latch_count net ∷ output_count net ∷ gate_count net ∷ []

  abbrev latch_pair : ℕ → List ℕ
  latch_pair k = pair_at net (5 + 2 * k)

  abbrev output_one : ℕ → List ℕ
  output_one k = one_at net (5 + 2 * latch_count net + k)

  abbrev gate_pair : ℕ → List ℕ
  gate_pair k = pair_at net (5 + 2 * latch_count net + output_count net + 2 * k)

  abbrev frees : ℕ
  frees = free_count net (latch_count net)

  -- ---- latch k and gate k
  latch_run : (k x y : ℕ) → k < latch_count net → At s x (packed_latch net explicit k) y
      → latch_rows s (maximum net) (input_count net) k (free_count net k) x ≡ row (latch_pair k) (free_count net (suc k)) y
  unfolding packed_latch
  latch_run k x y h b =
      latch_is s (free_count net k) x y (explicit k) (literal_of (maximum net) true) (literal_of (latch_variable net k) false) (get_or net (next_at k) 0) (get_or net (reset_at k) 0)
      (within net (outline_of net is) (get_or net (next_at k) 0) (v.nexts k h)).1 (reset-small net (outline_of net is) k h) b
      ∙ net_latch net (outline_of net is) k y h

  gate-run : (f k x y : ℕ) → k < gate_count net → At s x (packed_gate net k) y → gate_rows s (input_count net) (latch_count net) k f x ≡ row (gate_pair k) f y
  unfolding packed_gate
  gate-run f k x y h b =
      gate_complete s f x y (literal_of (gate_variable net k) false) (get_or net (operands_at net k) 0) (get_or net (operands_at net k + 1) 0)
      (omega (arith, own-small net (outline_of net is) (gate_variable net k) (omega (arith, v.sum, v.small)))) (v.below k h) (v.order k h) b

  -- ---- a text that is a file up to latch k
  record Parts (k : ℕ) (more : List ℕ) : Type 0 where
    p0 : ℕ
    p1 : ℕ
    header : read_packed s ≡ behind heads (body_of s (maximum net) (input_count net) (latch_count net) (output_count net) (gate_count net) p0)
    latches : At s p0 (joined (packed_latch net explicit) k) p1
    rest : At s p1 more (length s)

  parts : (k : ℕ) (more : List ℕ) → s ≡ to_latch net explicit k ++ more → Parts k more
  unfolding to_latch read_packed packed_header on_head
  parts k more e =
      let h = packed_header (maximum net) (input_count net) (latch_count net) (output_count net) (gate_count net) in
      let t = joined (packed_latch net explicit) k in
      let a = at_split (h ++ t) more (at-whole ((h ++ t) ++ more) e) in
      let b = at_split h t a.0 in
      record {
        p0 = 0 + length h;
        p1 = 0 + length (h ++ t);
        header = rw (net-head net (outline_of net is) 105 s (0 + length h) b.0);
        latches = b.1;
        rest = a.1;
      }

  -- latch k has a fault
  pub latch_fault : (e : Fault) (k : ℕ) (more : List ℕ) → s ≡ to_latch net explicit k ++ more → k < latch_count net
      → ((p : ℕ) → At s p more (length s) → latch_rows s (maximum net) (input_count net) k (free_count net k) p ≡ fault e) → read_packed s ≡ failed e (2 + k)
  unfolding behind free_count
  latch_fault e k more t l bad =
      let w = parts k more t in
      let b =
      latches-fault s (maximum net) (input_count net) (latch_count net) (output_count net) (gate_count net) w.p0 e (2 + k)
      (faulty_run s (latch_rows s (maximum net) (input_count net)) (packed_latch net explicit) latch_pair (free_count net) e k (latch_count net) 2 w.p0 w.p1 l w.latches
      (λ j x y i c. latch_run j x y (omega arith) c) (bad w.p1 w.rest)) in
      w.header ∙ rw b

  -- ---- up to the outputs: these are read, and then what follows
  up_to-outputs : (more : List ℕ) (x : Rows) → s ≡ to_latch net explicit (latch_count net) ++ more
      → ((p : ℕ) → At s p more (length s) → outputs_to_end s (maximum net) (input_count net) (latch_count net) (output_count net) (gate_count net) frees p ≡ x)
      → read_packed s ≡ behind heads (behind (joined latch_pair (latch_count net)) x)
  unfolding free_count
  up_to-outputs more x t then =
      let w = parts (latch_count net) more t in
      let b =
      latches_made s (maximum net) (input_count net) (latch_count net) (output_count net) (gate_count net) w.p0 (joined latch_pair (latch_count net)) frees w.p1
      (complete_run s (latch_rows s (maximum net) (input_count net)) (packed_latch net explicit) latch_pair (free_count net) (latch_count net) 2 w.p0 w.p1 w.latches latch_run) in
      w.header ∙ rw (b, then w.p1 w.rest)

  -- a text up to output k is one up to the outputs
  to-outputs : (k : ℕ) (more : List ℕ) → s ≡ to_output net explicit k ++ more → s ≡ to_latch net explicit (latch_count net) ++ (joined (output_line net) k ++ more)
  unfolding to_output
  to-outputs k more e = e ∙ append_assoc (to_latch net explicit (latch_count net)) (joined (output_line net) k) more

  -- output k has a fault
  pub output-fault : (e : Fault) (k : ℕ) (more : List ℕ) → s ≡ to_output net explicit k ++ more → k < output_count net
      → ((f p : ℕ) → At s p more (length s) → output_rows s (maximum net) k f p ≡ fault e) → read_packed s ≡ failed e (latch_count net + 2 + k)
  unfolding behind
  output-fault e k more t l bad =
      up_to-outputs (joined (output_line net) k ++ more) (failed e (latch_count net + 2 + k)) (to-outputs k more t)
      (λ p a.
      let w = at_split (joined (output_line net) k) more a in
      outputs_faulty s (maximum net) (input_count net) (latch_count net) (output_count net) (gate_count net) p frees e (latch_count net + 2 + k)
      (outputs-fault net (outline_of net is) s e k frees p (p + length (joined (output_line net) k)) (latch_count net + 2) l w.0 (bad frees _ w.1)))

  -- ---- up to the gates: these are read, and then the end
  up_to-gates : (more : List ℕ) (x : Rows) → s ≡ to_output net explicit (output_count net) ++ more
      → ((p : ℕ) → At s p more (length s) → gates_to_end s (input_count net) (latch_count net) (gate_count net) frees p ≡ x)
      → read_packed s ≡ behind heads (behind (joined latch_pair (latch_count net)) (behind (joined output_one (output_count net)) (in_bytes x)))
  up_to-gates more x t then =
      up_to-outputs (joined (output_line net) (output_count net) ++ more) (behind (joined output_one (output_count net)) (in_bytes x)) (to-outputs (output_count net) more t)
      (λ p a.
      let w = at_split (joined (output_line net) (output_count net)) more a in
      let q = p + length (joined (output_line net) (output_count net)) in
      outputs_made s (maximum net) (input_count net) (latch_count net) (output_count net) (gate_count net) p frees (joined output_one (output_count net)) frees q
      (outputs-run net (outline_of net is) s frees p q (latch_count net + 2) w.0)
      ∙ rw (then q w.1))

  to-gates : (k : ℕ) (more : List ℕ) → s ≡ to_gate net explicit k ++ more → s ≡ to_output net explicit (output_count net) ++ (joined (packed_gate net) k ++ more)
  unfolding to_gate
  to-gates k more e = e ∙ append_assoc (to_output net explicit (output_count net)) (joined (packed_gate net) k) more

  -- gate k has a fault
  pub gate-fault : (e : Fault) (k : ℕ) (more : List ℕ) → s ≡ to_gate net explicit k ++ more → k < gate_count net
      → ((f p : ℕ) → At s p more (length s) → gate_rows s (input_count net) (latch_count net) k f p ≡ fault e) → read_packed s ≡ failed e 0
  unfolding behind in_bytes
  gate-fault e k more t l bad =
      up_to-gates (joined (packed_gate net) k ++ more) (failed e (0 + k)) (to-gates k more t)
      (λ p a.
      let w = at_split (joined (packed_gate net) k) more a in
      no_end s _ _ e (0 + k)
      (faulty_run s (gate_rows s (input_count net) (latch_count net)) (packed_gate net) gate_pair (λ _. frees) e k (gate_count net) 0 p _ l w.0
      (λ j x y i c. gate-run frees j x y (omega arith) c) (bad frees _ w.1)))

  -- ---- the whole
  whole : packed_with net explicit ≡ to_gate net explicit (gate_count net)
  unfolding packed_with to_gate to_output to_latch
  whole =
      let t = joined (packed_latch net explicit) (latch_count net) in
      let u = joined (output_line net) (output_count net) in
      let g = joined (packed_gate net) (gate_count net) in
      let h = packed_header (maximum net) (input_count net) (latch_count net) (output_count net) (gate_count net) in
      sym (append_assoc (h ++ t) u g ∙ append_assoc h t (u ++ g))

  gates-run : (p q : ℕ) → At s p (joined (packed_gate net) (gate_count net)) q
      → rows_of (gate_rows s (input_count net) (latch_count net)) (gate_count net) 0 0 frees p ≡ rows (joined gate_pair (gate_count net)) frees q
  gates-run p q a = complete_run s (gate_rows s (input_count net) (latch_count net)) (packed_gate net) gate_pair (λ _. frees) (gate_count net) 0 p q a (gate-run frees)

  file_read_lem : s ≡ packed_with net explicit → length net ≡ size_of net → (free q : ℕ) × (read_packed s ≡ rows net free q)
  unfolding behind in_bytes to_gate
  file_read_lem e size =
      let r =
      up_to-gates (joined (packed_gate net) (gate_count net)) (rows (joined gate_pair (gate_count net)) frees (length s)) (e ∙ whole)
      (λ p a. to_end s _ _ _ frees (length s) (gates-run p (length s) a) refl) in
      (frees, length s, r ∙ ap (λ (x : List ℕ). rows x frees (length s)) (sym (made net size)))

  -- and something behind it
  pub file-extra : (more : List ℕ) → s ≡ packed_with net explicit ++ more → 0 < length more → read_packed s ≡ failed WrongShape 0
  unfolding behind in_bytes
  file-extra more e some =
      let g = joined (packed_gate net) (gate_count net) in
      up_to-gates (g ++ more) (failed WrongShape 0) (to-gates (gate_count net) more (e ∙ ap (λ (x : List ℕ). x ++ more) whole))
      (λ p a.
      let w = at_split g more a in
      past_end s _ 0 _ frees (p + length g) (gates-run p (p + length g) w.0) (λ (z : p + length g ≡ length s). absurd (omega (arith, w.1.place))))

-- COMPLETE
pub complete : (text net : List ℕ) → IsPacked text net → (free q : ℕ) × (read_packed text ≡ rows net free q)
complete text net f = file_read_lem text net f.explicit f.netlist f.is f.exact
