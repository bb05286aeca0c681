-- `outputs_at` meets its contract. Assumes nothing.
use mathlib.Core.Path.{◌≡◌}
use mathlib.Core.Bool.{true}
use native.Mathlib.Omega.{arith}
use borrow.Author.Rules.{rules}
use Rattle.std.specs.Prelude.{Err}
use Rattle.netlist.specs.Literals.{literal_of}
use Rattle.netlist.proofs.LiteralLaws.{made}
use Rattle.aiger_lines.specs.Lines.{output_at}
use Rattle.aiger_lines.proofs.PassLaws.{took_then, took-failed, within-past}
use Rattle.aiger_read.specs.Private.Steps.{outputs_of}
use Rattle.aiger_read.proofs.files.outputs_at.Goals as goal

pub gates_at-requires : goal.gates_at-requires
gates_at-requires c =
    let pre = c.requires in
    (pre.0, omega (arith, within-past c.block_at.ensures.within c.in_ok-next.was, pre.0, pre.1))

pub returns-in_err-next : goal.returns-in_err-next
unfolding outputs_of
returns-in_err-next c =
    let r : c.from_residual.result ≡ Err c.in_err-next.field-0.0 = search rules in
    let t = c.block_at.ensures.took (λ k. output_at c.args.s.now c.literal-last.result.0) (λ k f p r i j l q. search rules) in
    let last : c.literal-last.result.0 ≡ literal_of c.args.head.variables true = made _ true (omega (arith, c.requires.0.2)) c.literal-last.ensures in
    rw r (took-failed _ _ _ _ _ _ _ (rw last at t) c.in_err-next.was)

pub returns : goal.returns
unfolding outputs_of
returns c =
    let t = c.block_at.ensures.took (λ k. output_at c.args.s.now c.literal-last.result.0) (λ k f p r i j l q. search rules) in
    let last : c.literal-last.result.0 ≡ literal_of c.args.head.variables true = made _ true (omega (arith, c.requires.0.2)) c.literal-last.ensures in
    took_then _ _ _ _ _ _ _ _ _ (rw last at t) c.in_ok-next.was c.gates_at.ensures
