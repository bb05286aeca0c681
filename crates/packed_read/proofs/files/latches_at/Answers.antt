-- `latches_at` meets its contract. Assumes nothing.
use mathlib.Core.Path.{◌≡◌}
use mathlib.Core.Bool.{true, false}
use Prim.Native.Nat.{◌+◌}
use native.Mathlib.Omega.{arith}
use borrow.Author.Rules.{rules}
use Rattle.std.specs.Prelude.{Err}
use Rattle.netlist.specs.Literals.{literal_of}
use Rattle.netlist.proofs.LiteralLaws.{made}
use Rattle.aiger_lines.proofs.PassLaws.{took_then, took-failed, within-past}
use Rattle.packed_read.specs.Lines.{latch_at}
use Rattle.packed_read.specs.Private.Steps.{latches_of, outputs_of, gates_of}
use Rattle.packed_read.specs.Files.{body_of}
use Rattle.packed_read.proofs.files.latches_at.Goals as goal

pub outputs_at-requires : goal.outputs_at-requires
outputs_at-requires c =
    let pre = c.requires in
    (pre, omega (arith, within-past c.block_at.ensures.within c.in_ok-next.was, pre.0))

pub returns-in_err-next : goal.returns-in_err-next
unfolding latches_of body_of
returns-in_err-next c =
    let h = c.args.head in
    let r : c.from_residual.result ≡ Err c.in_err-next.field-0.0 = search rules in
    let t = c.block_at.ensures.took (λ k. latch_at c.args.s.now c.literal-last.result.0 (literal_of (h.inputs + 1 + k) false)) (λ k f p r i j l q. search rules) in
    let last : c.literal-last.result.0 ≡ literal_of h.variables true = made _ true (omega (arith, c.requires.2)) c.literal-last.ensures in
    rw r (took-failed _ _ _ _ _ _ _ (rw last at t) c.in_err-next.was)

pub returns : goal.returns
unfolding latches_of body_of outputs_of gates_of
returns c =
    let h = c.args.head in
    let t = c.block_at.ensures.took (λ k. latch_at c.args.s.now c.literal-last.result.0 (literal_of (h.inputs + 1 + k) false)) (λ k f p r i j l q. search rules) in
    let last : c.literal-last.result.0 ≡ literal_of h.variables true = made _ true (omega (arith, c.requires.2)) c.literal-last.ensures in
    took_then _ _ _ _ _ _ _ _ _ (rw last at t) c.in_ok-next.was c.outputs_at.ensures
