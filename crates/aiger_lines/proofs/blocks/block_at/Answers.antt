-- `block_at` meets its contract: what is taken of the lines that are left is taken of the whole block. Assumes nothing.
use mathlib.Core.Path.{◌≡◌}
use native.Mathlib.Omega.{arith}
use borrow.Author.Rules.{rules}
use Rattle.std.specs.Prelude.{Err}
use Rattle.aiger_lines.specs.Private.Steps.{Within}
use Rattle.aiger_lines.proofs.PassLaws.{going_start, going_next, going_fault, going_done, within-past}
use Rattle.aiger_lines.proofs.blocks.block_at.Goals as goal

pub loop-k-init : goal.loop-k-init
loop-k-init g c = record { within = omega arith; bound = omega arith; going = λ at reads. going_start _ _ _ _ _ }

pub line_step-requires-clause-bounds : goal.line_step-requires-clause-bounds
line_step-requires-clause-bounds g c = omega (arith, c.loop-k.invariant.bound, c.loop-k.invariant.within, c.requires.bounds)

pub returns-in_err-cursor-clause-took : goal.returns-in_err-cursor-clause-took
returns-in_err-cursor-clause-took g c = λ at reads.
    let r : c.from_residual.result ≡ Err c.in_err-cursor.field-0.0 = search rules in
    let t = c.line_step.ensures.took _ (λ r f p. reads c.loop-k.k c.loop-k.cursor.free c.loop-k.cursor.at r c.loop-k-test.true f p) in
    rw r (going_fault _ _ _ _ _ _ _ (c.loop-k.invariant.going at reads) c.loop-k-test.true _ _ t _ c.in_err-cursor.was)

pub returns-in_err-cursor-clause-within : goal.returns-in_err-cursor-clause-within
unfolding Within
returns-in_err-cursor-clause-within g c =
    let r : c.from_residual.result ≡ Err c.in_err-cursor.field-0.0 = search rules in
    rw r tt

pub loop-k-preserved : goal.loop-k-preserved
loop-k-preserved g c =
    record {
      within = omega (arith, c.loop-k-test.true);
      bound = omega (arith, c.loop-k.invariant.bound, within-past c.line_step.ensures.within c.in_ok-cursor.was);
      going = λ at reads.
          let t = c.line_step.ensures.took _ (λ r f p. reads c.loop-k.k c.loop-k.cursor.free c.loop-k.cursor.at r c.loop-k-test.true f p) in
          going_next _ _ _ _ _ _ _ (c.loop-k.invariant.going at reads) c.loop-k-test.true _ _ t _ c.in_ok-cursor.was;
    }

pub returns-clause-took : goal.returns-clause-took
returns-clause-took g c = λ at reads. going_done _ _ _ _ _ _ _ (c.loop-k.invariant.going at reads) c.loop-k-test.false

pub returns-clause-within : goal.returns-clause-within
unfolding Within
returns-clause-within g c = omega (arith, c.loop-k.invariant.bound, c.loop-k.invariant.within)
