-- Every file is read as its numbers; where its header, an input, a latch, an output or a gate has a fault, or
-- something stands behind it, it is refused at that line. Assumes nothing.
use mathlib.Core.Path.{◌≡◌, refl, sym, ap, ap₂, ◌∙◌}
use mathlib.Core.Bool.{Bool, true, false}
use mathlib.Core.List.{List, [], ◌∷◌, ◌++◌, append_assoc}
use Prim.Native.Nat.{ℕ, suc, ◌+◌, ◌-◌, ◌*◌, ◌≤◌, ◌<◌}
use native.Mathlib.Omega.{arith}
use lib.ListN.{length, get_or, replicate, length-replicate, get_or-replicate}
use Rattle.text.specs.Writer.{joined}
use Rattle.text.proofs.WriterLaws.{joined_same}
use Rattle.netlist.specs.Layout.{maximum, input_count, latch_count, output_count, gate_count, next_at, reset_at, size_of, latch_variable}
use Rattle.netlist.specs.Literals.{literal_of}
use Rattle.netlist.specs.Valid.{header_ok, free_count, is_outline}
use Rattle.netlist.proofs.LiteralLaws.{literal-inverted}
use Rattle.netlist.proofs.ValidLaws.{Outline, outline}
use Rattle.gate_order.specs.Loose.{first_gate, left_of, right_of, is_loose, Once}
use Rattle.gate_order.proofs.LooseLaws.{loose_outline, loose-within}
use Rattle.gate_order.proofs.OrderLaws.{once-all}
use Rattle.aiger.specs.Rows.{header_row}
use Rattle.aiger.specs.Format.{input_line, latch_line, output_line}
use Rattle.aiger_lines.specs.declared.Fault.{Fault}
use Rattle.aiger_lines.specs.declared.Fault.TheVariants.{WrongShape, OutOfLimits}
use Rattle.aiger_lines.specs.Lines.{row, fault}
use Rattle.aiger_lines.specs.Blocks.{Rows, rows, failed, behind, rows_of}
use Rattle.aiger_lines.specs.Heads.{on_head}
use Rattle.aiger_lines.proofs.PlaceLaws.{At, at_split, at-whole}
use Rattle.aiger_lines.proofs.FieldLaws.{Small}
use Rattle.aiger_lines.proofs.HeadLaws.{head-fault, head-none}
use Rattle.aiger_lines.proofs.RunLaws.{to_end, past_end, no_end}
use Rattle.aiger_lines.proofs.LayoutLaws.{pair_at, one_at, made}
use Rattle.aiger_lines.proofs.NetLaws.{joined-none, complete_run, faulty_run, output_rows, own-small, within, reset-small, net-head, net_latch, outputs-run, outputs-fault}
use Rattle.aiger_read.specs.Lines.{undefined, gate_at}
use Rattle.aiger_read.specs.Files.{gate_rows, body_of, file_read}
use Rattle.aiger_read.specs.Claims.{IsFile, to_input, to_latch, file_to, gate_lines, file_by, line_of_output, line_of_gate}
use Rattle.aiger_read.proofs.TextLaws.{input_complete, latch_complete}
use Rattle.aiger_read.proofs.GateLaws.{whole_pairs, Apart, stored_by, stored_length, stored_own, read-order, order-fault}
use Rattle.aiger_read.proofs.BodyLaws.{input_rows, latch_rows, gate_block, gates_to_end, body_made, inputs_faulty, latches_faulty, outputs_faulty}

-- a header out of limits that stands there, and none
pub header-fault : (s : List ℕ) (m i l o a q : ℕ) → At s 0 (header_row m i l o a) q → Small (m ∷ i ∷ l ∷ o ∷ a ∷ []) → header_ok m i l o a ≡ false → file_read s ≡ failed OutOfLimits 1
unfolding file_read header_row on_head
header-fault s m i l o a q stands few e = rw (head-fault 97 s m i l o a q stands few e)

pub header-none : (s : List ℕ) → ((m i l o a q : ℕ) → Small (m ∷ i ∷ l ∷ o ∷ a ∷ []) → At s 0 (header_row m i l o a) q → ⊥) → file_read s ≡ failed WrongShape 1
unfolding file_read header_row on_head
header-none s none = rw (head-none 97 s none)

module _ (s loose : List ℕ) (explicit : ℕ → Bool) (is : is_loose loose ≡ true) where
  out : is_outline loose ≡ true
  out = loose_outline loose is

  v : Outline loose
  v = outline loose out

  abbrev heads : List ℕ
  heads = maximum loose ∷ input_count loose ∷ latch_count loose ∷ output_count loose ∷ gate_count loose ∷ []

  abbrev latch_pair : ℕ → List ℕ
  latch_pair k = pair_at loose (5 + 2 * k)

  abbrev frees : ℕ
  frees = free_count loose (latch_count loose)

  -- ---- input k and latch k, and all of them
  input-run : (k x y : ℕ) → k < input_count loose → At s x (input_line k) y → input_rows s k 0 x ≡ row [] 0 y
  unfolding input_line
  input-run k x y h b = input_complete s 0 x y (literal_of (1 + k) false) (own-small loose out (1 + k) (omega (arith, v.few))) b

  inputs-run : (p q line : ℕ) → At s p (joined input_line (input_count loose)) q → rows_of (input_rows s) (input_count loose) 0 line 0 p ≡ rows [] 0 q
  inputs-run p q line a =
      let r = complete_run s (input_rows s) input_line (λ _. []) (λ _. 0) (input_count loose) line p q a input-run in
      rw (joined-none (λ _. []) (input_count loose) (λ k h. refl)) at r

  latch_run : (k x y : ℕ) → k < latch_count loose → At s x (latch_line loose explicit k) y
      → latch_rows s (maximum loose) (input_count loose) k (free_count loose k) x ≡ row (latch_pair k) (free_count loose (suc k)) y
  unfolding latch_line
  latch_run k x y h b =
      latch_complete s (free_count loose k) x y (explicit k) (literal_of (maximum loose) true) (literal_of (latch_variable loose k) false) (get_or loose (next_at k) 0) (get_or loose (reset_at k) 0)
      (own-small loose out (latch_variable loose k) (omega (arith, v.sum, v.small))) (within loose out (get_or loose (next_at k) 0) (v.nexts k h)).1 (reset-small loose out k h) b
      ∙ net_latch loose out k y h

  latches-run : (p q line : ℕ) → At s p (joined (latch_line loose explicit) (latch_count loose)) q
      → rows_of (latch_rows s (maximum loose) (input_count loose)) (latch_count loose) 0 line 0 p ≡ rows (joined latch_pair (latch_count loose)) frees q
  unfolding free_count
  latches-run p q line a = complete_run s (latch_rows s (maximum loose) (input_count loose)) (latch_line loose explicit) latch_pair (free_count loose) (latch_count loose) line p q a latch_run

  -- ---- a text that is a file up to the line of input k, of latch k, of output k
  record InputParts (k : ℕ) (more : List ℕ) : Type 0 where
    p0 : ℕ
    p1 : ℕ
    header : file_read s ≡ behind heads (body_of s (maximum loose) (input_count loose) (latch_count loose) (output_count loose) (gate_count loose) p0)
    inputs : At s p0 (joined input_line k) p1
    rest : At s p1 more (length s)

  record LatchParts (k : ℕ) (more : List ℕ) : Type 0 where
    front : InputParts (input_count loose) (joined (latch_line loose explicit) k ++ more)
    p2 : ℕ
    latches : At s front.p1 (joined (latch_line loose explicit) k) p2
    rest : At s p2 more (length s)

  record Parts (k : ℕ) (more : List ℕ) : Type 0 where
    front : LatchParts (latch_count loose) (joined (output_line loose) k ++ more)
    p3 : ℕ
    outputs : At s front.p2 (joined (output_line loose) k) p3
    rest : At s p3 more (length s)

  input-parts : (k : ℕ) (more : List ℕ) → s ≡ to_input loose k ++ more → InputParts k more
  unfolding to_input file_read header_row on_head
  input-parts k more e =
      let h = header_row (maximum loose) (input_count loose) (latch_count loose) (output_count loose) (gate_count loose) in
      let t = joined input_line k in
      let a = at_split (h ++ t) more (at-whole ((h ++ t) ++ more) e) in
      let b = at_split h t a.0 in
      record {
        p0 = 0 + length h;
        p1 = 0 + length (h ++ t);
        header = rw (net-head loose out 97 s (0 + length h) b.0);
        inputs = b.1;
        rest = a.1;
      }

  latch_parts : (k : ℕ) (more : List ℕ) → s ≡ to_latch loose explicit k ++ more → LatchParts k more
  unfolding to_latch
  latch_parts k more e =
      let t = joined (latch_line loose explicit) k in
      let w = input-parts (input_count loose) (t ++ more) (e ∙ append_assoc (to_input loose (input_count loose)) t more) in
      let a = at_split t more w.rest in
      record { front = w; p2 = w.p1 + length t; latches = a.0; rest = a.1 }

  -- a file up to output k is one up to the outputs, and then their lines
  file-outputs : (k : ℕ) → file_to loose explicit k ≡ to_latch loose explicit (latch_count loose) ++ joined (output_line loose) k
  unfolding file_to to_latch to_input
  file-outputs k =
      let h = header_row (maximum loose) (input_count loose) (latch_count loose) (output_count loose) (gate_count loose) in
      let t1 = joined input_line (input_count loose) in
      let t2 = joined (latch_line loose explicit) (latch_count loose) in
      let t3 = joined (output_line loose) k in
      sym (append_assoc (h ++ t1) t2 t3 ∙ append_assoc h t1 (t2 ++ t3))

  parts : (k : ℕ) (more : List ℕ) → s ≡ file_to loose explicit k ++ more → Parts k more
  parts k more e =
      let t = joined (output_line loose) k in
      let w = latch_parts (latch_count loose) (t ++ more) (e ∙ ap (λ (x : List ℕ). x ++ more) (file-outputs k) ∙ append_assoc (to_latch loose explicit (latch_count loose)) t more) in
      let a = at_split t more w.rest in
      record { front = w; p3 = w.p2 + length t; outputs = a.0; rest = a.1 }

  -- the line of input k, of latch k, of output k has a fault
  pub input-fault : (e : Fault) (k : ℕ) (more : List ℕ) → s ≡ to_input loose k ++ more → k < input_count loose
      → ((p : ℕ) → At s p more (length s) → input_rows s k 0 p ≡ fault e) → file_read s ≡ failed e (2 + k)
  unfolding behind
  input-fault e k more is-text l bad =
      let w = input-parts k more is-text in
      let b =
      inputs_faulty s (maximum loose) (input_count loose) (latch_count loose) (output_count loose) (gate_count loose) w.p0 e (2 + k)
      (faulty_run s (input_rows s) input_line (λ _. []) (λ _. 0) e k (input_count loose) 2 w.p0 w.p1 l w.inputs
      (λ j x y i c. input-run j x y (omega arith) c) (bad w.p1 w.rest)) in
      w.header ∙ rw b

  pub latch_fault : (e : Fault) (k : ℕ) (more : List ℕ) → s ≡ to_latch loose explicit k ++ more → k < latch_count loose
      → ((p : ℕ) → At s p more (length s) → latch_rows s (maximum loose) (input_count loose) k (free_count loose k) p ≡ fault e) → file_read s ≡ failed e (input_count loose + 2 + k)
  unfolding behind free_count
  latch_fault e k more is-text l bad =
      let w = latch_parts k more is-text in
      let u = w.front in
      let b =
      latches_faulty s (maximum loose) (input_count loose) (latch_count loose) (output_count loose) (gate_count loose) u.p0 e (input_count loose + 2 + k) [] 0 u.p1
      (inputs-run _ _ _ u.inputs)
      (faulty_run s (latch_rows s (maximum loose) (input_count loose)) (latch_line loose explicit) latch_pair (free_count loose) e k (latch_count loose) (input_count loose + 2) u.p1 w.p2 l w.latches
      (λ j x y i c. latch_run j x y (omega arith) c) (bad w.p2 w.rest)) in
      u.header ∙ rw b

  pub file-fault : (e : Fault) (k : ℕ) (more : List ℕ) → s ≡ file_to loose explicit k ++ more → k < output_count loose
      → ((f p : ℕ) → At s p more (length s) → output_rows s (maximum loose) k f p ≡ fault e) → file_read s ≡ failed e (line_of_output loose k)
  unfolding behind
  file-fault e k more is-text l bad =
      let w = parts k more is-text in
      let u = w.front.front in
      let b =
      outputs_faulty s (maximum loose) (input_count loose) (latch_count loose) (output_count loose) (gate_count loose) u.p0 e (line_of_output loose k) [] 0 u.p1
      (inputs-run _ _ _ u.inputs) _ frees w.front.p2 (latches-run _ _ _ w.front.latches)
      (outputs-fault loose out s e k frees _ _ _ l w.outputs (bad frees _ w.rest)) in
      u.header ∙ rw b

  -- ---- a text that is a file up to the gates: these are read, and then the end
  up_to-gates : (more : List ℕ) (x : Rows) → s ≡ file_to loose explicit (output_count loose) ++ more
      → ((p : ℕ) → At s p more (length s) → gates_to_end s (maximum loose) (input_count loose) (latch_count loose) (output_count loose) (gate_count loose) frees p ≡ x)
      → file_read s ≡ behind heads (behind [] (behind (joined latch_pair (latch_count loose)) (behind (joined (λ k. one_at loose (5 + 2 * latch_count loose + k)) (output_count loose)) x)))
  up_to-gates more x is-text then =
      let w = parts (output_count loose) more is-text in
      let u = w.front.front in
      let b =
      body_made s (maximum loose) (input_count loose) (latch_count loose) (output_count loose) (gate_count loose) [] _ _ u.p0 0 u.p1 frees w.front.p2 frees w.p3
      (inputs-run _ _ _ u.inputs) (latches-run _ _ _ w.front.latches) (outputs-run loose out s frees _ _ _ w.outputs) in
      u.header ∙ rw (b, then w.p3 w.rest)

  -- ---- the lines of gates, in an order of some or all
  module _ (order : List ℕ) (once : Once loose order) where
    sum : first_gate loose + gate_count loose ≡ maximum loose + 1
    sum = omega (arith, v.sum)

    apart : Apart (first_gate loose) (maximum loose) order
    apart = record { inside = λ k h. let i = once.inside k h in (i.0, omega (arith, i.1, sum)); once = once.once }

    abbrev pub none : List ℕ
    none = replicate (2 * gate_count loose) undefined

    long : length none ≡ 2 * gate_count loose
    long = length-replicate (2 * gate_count loose) undefined

    -- what the lines of the order leave
    abbrev pub stored : List ℕ
    stored = stored_by (first_gate loose) (left_of loose) (right_of loose) none order

    fits : (k : ℕ) → k < length order → (left_of loose (get_or order k 0) ≤ literal_of (maximum loose) true) × (right_of loose (get_or order k 0) ≤ literal_of (maximum loose) true)
    fits k h = let i = once.inside k h in loose-within loose is (get_or order k 0 - first_gate loose) (omega arith)

    fresh : (k : ℕ) → k < length order → get_or none (2 * (get_or order k 0 - first_gate loose)) 0 ≡ undefined
    fresh k h = let i = once.inside k h in get_or-replicate (2 * gate_count loose) (2 * (get_or order k 0 - first_gate loose)) undefined 0 (omega arith)

    -- the operands of a gate whose line was read
    operands : (k : ℕ) → k < length order
        → (get_or stored (2 * (get_or order k 0 - first_gate loose)) 0 ≡ left_of loose (get_or order k 0)) × (get_or stored (2 * (get_or order k 0 - first_gate loose) + 1) 0 ≡ right_of loose (get_or order k 0))
    operands k h = stored_own (first_gate loose) (left_of loose) (right_of loose) (maximum loose) (gate_count loose) sum none order long apart k h

    -- a variable that has none yet has no line
    pub still_fresh : (x : ℕ) → get_or stored (2 * (x - first_gate loose)) 0 ≡ undefined → (k : ℕ) → k < length order → get_or order k 0 ≡ x → ⊥
    still_fresh x u k h e = omega (arith, rw e at (operands k h).0, rw e at (fits k h).0, literal-inverted (maximum loose), v.small)

    stored_pairs : length order ≡ gate_count loose → stored ≡ joined (λ k. pair_at loose (5 + 2 * latch_count loose + output_count loose + 2 * k)) (gate_count loose)
    stored_pairs whole =
        sym (whole_pairs stored (gate_count loose) (stored_length (first_gate loose) (left_of loose) (right_of loose) none order ∙ long))
        ∙ joined_same (λ k. pair_at stored (2 * k)) (λ k. pair_at loose (5 + 2 * latch_count loose + output_count loose + 2 * k)) (gate_count loose)
        (λ k h.
        let w = once-all loose order once whole (first_gate loose + k) (omega arith) (omega arith) in
        let n : first_gate loose + k - first_gate loose ≡ k = omega arith in
        let o = rw (w.2, n) at (operands w.0 w.1) in
        ap₂ (λ (x y : ℕ). x ∷ y ∷ []) o.0 o.1)

    gates-run : length order ≡ gate_count loose → (f p q : ℕ) → At s p (gate_lines loose order) q
        → gate_block s (maximum loose) (input_count loose) (latch_count loose) (output_count loose) (gate_count loose) f p ≡ rows (joined (λ k. pair_at loose (5 + 2 * latch_count loose + output_count loose + 2 * k)) (gate_count loose)) f q
    unfolding gate_lines gate_rows
    gates-run whole f p q a =
        let line = input_count loose + latch_count loose + output_count loose + 2 in
        let n : gate_count loose ≡ length order + 0 = omega arith in
        let r = read-order s (first_gate loose) (maximum loose) (gate_count loose) v.small sum (left_of loose) (right_of loose) none order long apart fits fresh 0 line f p q a in
        ap (λ (c : ℕ). gate_rows s (first_gate loose) (maximum loose) c line none f p) n ∙ r ∙ ap (λ (x : List ℕ). rows x f q) (stored_pairs whole)

    -- the line behind those of the order has a fault
    pub gate-fault : (e : Fault) (more : List ℕ) → s ≡ file_by loose explicit order ++ more → length order < gate_count loose
        → ((f p : ℕ) → At s p more (length s) → gate_at s (first_gate loose) (maximum loose) stored f p ≡ fault e) → file_read s ≡ failed e (line_of_gate loose (length order))
    unfolding behind file_by gate_lines
    gate-fault e more is-text l bad =
        up_to-gates (gate_lines loose order ++ more) (failed e (line_of_gate loose (length order))) (is-text ∙ append_assoc (file_to loose explicit (output_count loose)) (gate_lines loose order) more)
        (λ p a.
        let w = at_split (gate_lines loose order) more a in
        no_end s _ _ e (line_of_gate loose (length order))
        (order-fault s (first_gate loose) (maximum loose) (gate_count loose) v.small sum (left_of loose) (right_of loose) none order long apart fits fresh (gate_count loose) _ frees _ _ e l w.0 (bad frees _ w.1)))

    -- ---- the whole
    module _ (whole : length order ≡ gate_count loose) where
      file_read_lem : s ≡ file_by loose explicit order → length loose ≡ size_of loose → (free q : ℕ) × (file_read s ≡ rows loose free q)
      unfolding behind file_by
      file_read_lem e size =
          let r =
          up_to-gates (gate_lines loose order) (rows (joined (λ k. pair_at loose (5 + 2 * latch_count loose + output_count loose + 2 * k)) (gate_count loose)) frees (length s)) e
          (λ p a. to_end s _ _ _ frees (length s) (gates-run whole frees _ _ a) refl) in
          (frees, length s, r ∙ ap (λ (x : List ℕ). rows x frees (length s)) (sym (made loose size)))

      -- and something behind it
      pub file-extra : (more : List ℕ) → s ≡ file_by loose explicit order ++ more → 0 < length more
          → file_read s ≡ failed WrongShape (input_count loose + latch_count loose + output_count loose + gate_count loose + 2)
      unfolding behind file_by
      file-extra more e some =
          let g = gate_lines loose order in
          let n = input_count loose + latch_count loose + output_count loose + gate_count loose + 2 in
          up_to-gates (g ++ more) (failed WrongShape n) (e ∙ append_assoc (file_to loose explicit (output_count loose)) g more)
          (λ p a.
          let w = at_split g more a in
          past_end s _ n _ frees (p + length g) (gates-run whole frees _ _ w.0) (λ (z : p + length g ≡ length s). absurd (omega (arith, w.1.place))))

pub complete : (text loose : List ℕ) → IsFile text loose → (free q : ℕ) × (file_read text ≡ rows loose free q)
complete text loose f = file_read_lem text loose f.explicit f.numbers f.order f.once f.all f.is f.exact
