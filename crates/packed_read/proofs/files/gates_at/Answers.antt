-- `gates_at` meets its contract. Assumes nothing.
use mathlib.Core.Path.{◌≡◌, refl}
use mathlib.Core.Bool.{false}
use Prim.Native.Nat.{◌+◌}
use borrow.Author.Rules.{rules}
use Rattle.std.specs.Prelude.{Err}
use Rattle.netlist.specs.Literals.{literal_of}
use Rattle.aiger_lines.proofs.PassLaws.{took_then, took-failed, took_end, took-extra, told_good, told_bad}
use Rattle.packed_read.specs.Lines.{gate_at}
use Rattle.packed_read.specs.Private.Steps.{gates_of}
use Rattle.packed_read.proofs.PassLaws.{took-bytes, fault-bytes}
use Rattle.packed_read.proofs.files.gates_at.Goals as goal

pub returns-in_err-end : goal.returns-in_err-end
unfolding gates_of
returns-in_err-end c =
    let h = c.args.head in
    let r : c.from_residual.result ≡ Err c.in_err-end.field-0.0 = search rules in
    let t = c.block_at.ensures.took (λ k. gate_at c.args.s.now (literal_of (h.inputs + h.latches + 1 + k) false)) (λ k f p r i j l q. search rules) in
    let w = told_bad c.block_at.result (λ e. (e.0, 0)) c.map_err.ensures.cases (λ g p. search rules) (λ e q. search rules) _ c.in_err-end.was in
    rw r (fault-bytes _ _ _ _ w.0 c.in_err-end.field-0.0 (took-failed _ _ _ _ _ _ w.0 t w.1) w.2)

pub returns-then-end-s : goal.returns-then-end-s
unfolding gates_of
returns-then-end-s c =
    let h = c.args.head in
    let t = c.block_at.ensures.took (λ k. gate_at c.args.s.now (literal_of (h.inputs + h.latches + 1 + k) false)) (λ k f p r i j l q. search rules) in
    let w = told_good c.block_at.result (λ e. (e.0, 0)) c.map_err.ensures.cases (λ g p. search rules) (λ e q. search rules) _ c.in_ok-end.was in
    took-bytes _ _ _ _ _ (took_then _ _ _ _ _ _ _ _ _ t w (took_end _ _ _ _ c.if-end-s.true))

pub returns-else-end-s : goal.returns-else-end-s
unfolding gates_of
returns-else-end-s c =
    let h = c.args.head in
    let t = c.block_at.ensures.took (λ k. gate_at c.args.s.now (literal_of (h.inputs + h.latches + 1 + k) false)) (λ k f p r i j l q. search rules) in
    let w = told_good c.block_at.result (λ e. (e.0, 0)) c.map_err.ensures.cases (λ g p. search rules) (λ e q. search rules) _ c.in_ok-end.was in
    fault-bytes _ _ _ _ _ _ (took_then _ _ _ _ _ _ _ _ _ t w (took-extra _ _ _ _ _ _ _ c.if-end-s.false refl)) refl
