-- `inputs_at` meets its contract. Assumes nothing.
use mathlib.Core.Path.{◌≡◌}
use mathlib.Core.Bool.{false}
use Prim.Native.Nat.{◌+◌}
use borrow.Author.Rules.{rules}
use Rattle.std.specs.Prelude.{Err}
use Rattle.netlist.specs.Literals.{literal_of}
use Rattle.aiger_lines.proofs.PassLaws.{took_then, took-failed, within-past}
use Rattle.aiger_read.specs.Lines.{input_at}
use Rattle.aiger_read.specs.Files.{body_of}
use Rattle.aiger_read.specs.Private.Steps.{inputs_of, latches_of, outputs_of, gates_of, gate_block}
use Rattle.aiger_read.proofs.files.inputs_at.Goals as goal

pub latches_at-requires : goal.latches_at-requires
latches_at-requires c =
    let w = within-past c.block_at.ensures.within c.in_ok-next.was in
    search rules

pub returns-in_err-next : goal.returns-in_err-next
unfolding inputs_of body_of
returns-in_err-next c =
    let r : c.from_residual.result ≡ Err c.in_err-next.field-0.0 = search rules in
    let t = c.block_at.ensures.took (λ k. input_at c.args.s.now (literal_of (1 + k) false)) (λ k f p r i j l q. search rules) in
    rw r (took-failed _ _ _ _ _ _ _ t c.in_err-next.was)

pub returns : goal.returns
unfolding inputs_of body_of latches_of outputs_of gates_of gate_block
returns c =
    let t = c.block_at.ensures.took (λ k. input_at c.args.s.now (literal_of (1 + k) false)) (λ k f p r i j l q. search rules) in
    took_then _ _ _ _ _ _ _ _ _ t c.in_ok-next.was c.latches_at.ensures
