-- The counts of a header, and a pass over the gates. Assumes nothing.
use Rattle.std.specs.Prelude.{Err, Result, Ok}
use mathlib.Core.Path.{◌≡◌, refl, sym, ap, ◌∙◌}
use mathlib.Core.List.{List, append_assoc}
use Prim.Native.Nat.{ℕ, suc, ◌+◌, ◌-◌, ◌≤◌, ◌<◌}
use native.Mathlib.Omega.{arith}
use borrow.Rule.Slice.PartMut.{mid_of, post_of, put_mid, same_len_mid, Post-is, mid_len}
use lib.ListN.{length, take, drop}
use lib.Seq.{sets-eq}
use Rattle.netlist.proofs.ValidLaws.{header}
use Rattle.aiger_lines.specs.declared.Fault.{Fault}
use Rattle.aiger_lines.specs.declared.Head.{Head}
use Rattle.aiger_lines.specs.declared.Cursor.{Cursor}
use Rattle.aiger_lines.specs.Lines.{Row, row, fault}
use Rattle.aiger_lines.specs.Blocks.{Rows, rows, failed, on_row}
use Rattle.aiger_lines.specs.Heads.{head_at}
use Rattle.aiger_lines.specs.Private.Steps.{head_in, Took}
use Rattle.aiger_lines.proofs.HeadLaws.{head_at_lem}
use Rattle.aiger_read.specs.Lines.{gate_at}
use Rattle.aiger_read.specs.Files.{gate_rows}
use Rattle.aiger_read.specs.Private.Steps.{gate_in, Filled, Headed}

-- ---- the header

-- its counts add up
pub headed : (second : ℕ) (s : List ℕ) (r : Result Head Fault) (h : Head) → head_in r ≡ head_at second s → r ≡ Ok h → Headed h
unfolding head_in
headed second s r h is e =
    let w = head_at_lem second s h.variables h.inputs h.latches h.outputs h.gates h.next (sym is ∙ ap head_in e) in
    let k = header h.variables h.inputs h.latches h.outputs h.gates w.ok in
    (k.sum, omega (arith, k.output, k.most), k.small)

-- ---- gates

-- the operands are put back where they stand in the netlist
pub filled-took : (x : Rows) (net ops : List ℕ) (place k : ℕ) (r : Result Cursor (Fault × ℕ)) → place + k ≤ length net → length ops ≡ length (mid_of place (place + k - place) net)
    → Filled x ops place r → Took x net (put_mid place (place + k - place) net ops) place r
unfolding Filled Took
filled-took (rows os free q) net ops place k r h n t =
    let m : length os ≡ k = ap length (sym t.1) ∙ n ∙ mid_len place (place + k) net h ∙ omega arith in
    let d : post_of place (place + k - place) net ≡ drop (place + length os) net = rw m (Post-is place (place + k) net (omega arith)) in
    (t.0, rw (t.1, d) (sym (sets-eq os net place (rw m h) ∙ append_assoc (take place net) os (drop (place + length os) net))))
filled-took (failed e line) net ops place k r h n t = (t, same_len_mid place (place + k - place) net ops n)

-- after k lines: what is read of the rest is read of the whole
pub record Filling (s : List ℕ) (first m count line : ℕ) (ops₀ : List ℕ) (f p₀ : ℕ) (ops : List ℕ) (k p : ℕ) : Type 0 where
  pub within : k ≤ count
  pub same : length ops ≡ length ops₀
  pub rest : gate_rows s first m (count - k) (line + k) ops f p ≡ gate_rows s first m count line ops₀ f p₀

module _ (s : List ℕ) (first m count line : ℕ) (ops₀ : List ℕ) (f p₀ : ℕ) where
  pub filling_start : Filling s first m count line ops₀ f p₀ ops₀ 0 p₀
  filling_start =
      let a : count - 0 ≡ count = omega arith in
      let b : line + 0 ≡ line = omega arith in
      record { within = omega arith; same = refl; rest = rw (a, b) }

  module _ {ops : List ℕ} {k p : ℕ} (g : Filling s first m count line ops₀ f p₀ ops k p) where
    -- there is a line more
    step : k < count → (x : Row) → gate_at s first m ops f p ≡ x
        → on_row x (λ more f' q. gate_rows s first m (count - (k + 1)) (line + k + 1) more f' q) (λ e. failed e (line + k)) ≡ gate_rows s first m count line ops₀ f p₀
    unfolding gate_rows
    step h x e =
        let c : count - k ≡ suc (count - (k + 1)) = omega arith in
        rw (← e) (rw (c, gate_rows) at g.rest)

    module _ (h : k < count) (r : Result ℕ Fault) (after : List ℕ) (is : gate_in f r after ≡ gate_at s first m ops f p) where
      pub filling_next : (q : ℕ) → r ≡ Ok q → length after ≡ length ops → Filling s first m count line ops₀ f p₀ after (k + 1) q
      unfolding gate_in on_row
      filling_next q e n =
          let l : line + k + 1 ≡ line + (k + 1) = omega arith in
          record {
            within = omega arith;
            same = n ∙ g.same;
            rest = rw l at (step h (row after f q) (rw e at (sym is)));
          }

      pub filling_fault : (place : ℕ) (b : Fault × ℕ) → (e : Fault) × (r ≡ Err e) × (b ≡ (e, line + k)) → Filled (gate_rows s first m count line ops₀ f p₀) after place (Err b)
      unfolding gate_in on_row Filled
      filling_fault place b w = rw (← step h (fault w.0) (rw w.1 at (sym is))) (ap (λ (c : Fault × ℕ). Err c) w.2)

    pub filling_done : count ≤ k → (place : ℕ) {n : ℕ} → n ≡ place + length ops
        → Filled (gate_rows s first m count line ops₀ f p₀) ops place (Ok (record { free = f; at = p; place = n }))
    unfolding gate_rows Filled
    filling_done h place e =
        let c : count - k ≡ 0 = omega arith in
        let d : rows ops f p ≡ gate_rows s first m count line ops₀ f p₀ = rw (c, gate_rows) at g.rest in
        rw (← d) (ap (λ (n : ℕ). Ok (record { free = f; at = p; place = n })) e, refl)
