-- `gate_lines` meets its contract: what is read of the lines that are left is read of all. Assumes nothing.
use mathlib.Core.Path.{◌≡◌, refl}
use Prim.Native.Nat.{◌+◌}
use borrow.Author.Rules.{rules}
use Rattle.std.specs.Prelude.{Err}
use Rattle.aiger_lines.proofs.PassLaws.{told_good, told_bad}
use Rattle.aiger_read.specs.Private.Steps.{gate_block}
use Rattle.aiger_read.proofs.PassLaws.{filling_start, filling_next, filling_fault, filling_done}
use Rattle.aiger_read.proofs.files.gate_lines.Goals as goal

pub loop-k-init : goal.loop-k-init
loop-k-init c = filling_start _ _ _ _ _ _ _ _

pub returns-in_err-at : goal.returns-in_err-at
unfolding gate_block
returns-in_err-at c =
    let r : c.from_residual.result ≡ Err c.in_err-at.field-0.0 = search rules in
    let w = told_bad c.gate_line.result (λ e. (e, c.args.head.inputs + c.args.head.latches + c.args.head.outputs + 2 + c.loop-k.k-counter)) c.map_err.ensures.cases (λ g p. search rules) (λ e q. search rules) _ c.in_err-at.was in
    rw r (filling_fault _ _ _ _ _ _ _ _ c.loop-k.invariant c.loop-k-test.true _ _ (c.gate_line.ensures _) _ _ w)

pub loop-k-preserved : goal.loop-k-preserved
loop-k-preserved c =
    let w = told_good c.gate_line.result (λ e. (e, c.args.head.inputs + c.args.head.latches + c.args.head.outputs + 2 + c.loop-k.k-counter)) c.map_err.ensures.cases (λ g p. search rules) (λ e q. search rules) _ c.in_ok-at.was in
    filling_next _ _ _ _ _ _ _ _ c.loop-k.invariant c.loop-k-test.true _ _ (c.gate_line.ensures _) _ w c.gate_line.auto.ops

pub returns : goal.returns
unfolding gate_block
returns c = filling_done _ _ _ _ _ _ _ _ c.loop-k.invariant c.loop-k-test.false _ refl
