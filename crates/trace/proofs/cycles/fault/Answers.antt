-- `trace::cycles::fault` meets its contract: what is left of the trace has the same first wrong line as the whole. Assumes nothing.
use mathlib.Core.Path.{refl, sym, ◌∙◌}
use native.Mathlib.Omega.{arith}
use borrow.Author.Tests.{not-true, not-false}
use borrow.Author.Rules.{rules}
use Rattle.trace.specs.Traces.{fault_of}
use Rattle.trace.proofs.TraceLaws.{fault-none, fault-last, fault-here, fault-line, fault_col}
use Rattle.trace.proofs.LineLaws.{trace-means}
use Rattle.trace.proofs.cycles.fault.Goals as goal
use Rattle.trace.proofs.cycles.fault.Goals.{then-col-n, else-col-n}

pub loop-b-init : goal.loop-b-init
unfolding fault_of
loop-b-init c = (search rules, search rules, refl)

pub returns-then-not-fits_line : goal.returns-then-not-fits_line
returns-then-not-fits_line c = record { value = sym (fault-here _ _ _ _ _ c.loop-b-test.true (sym c.fits_line.ensures ∙ not-true _ c.if-not-fits_line.true-raw)) ∙ c.loop-b.invariant.2; trace = trace-means _ _ }

pub loop-b-preserved : goal.loop-b-preserved
loop-b-preserved c =
    let t = c.loop-b-test.true in
    let f = sym c.fits_line.ensures ∙ not-false _ c.if-not-fits_line.false-raw in
    elim c.if-col-n.branch [
      | then-col-n w ↦ (omega arith, omega arith, rw (w.line-is, w.col-is) (sym (fault-line c.args.n c.loop-b.line c.loop-b.col c.loop-b.b-index c.args.trace.now t f w.if-col-n.true) ∙ c.loop-b.invariant.2))
      | else-col-n w ↦ (omega arith, omega arith, rw (w.line-is, w.col-is) (sym (fault_col c.args.n c.loop-b.line c.loop-b.col c.loop-b.b-index c.args.trace.now t f w.if-col-n.false) ∙ c.loop-b.invariant.2))
    ]

pub returns-then-col-eq0 : goal.returns-then-col-eq0
returns-then-col-eq0 c = record { value = sym (fault-none _ _ _ _ _ c.loop-b-test.false c.if-col-eq0.true) ∙ c.loop-b.invariant.2; trace = trace-means _ _ }

pub returns-else-col-eq0 : goal.returns-else-col-eq0
returns-else-col-eq0 c = record { value = sym (fault-last _ _ _ _ _ c.loop-b-test.false c.if-col-eq0.false) ∙ c.loop-b.invariant.2; trace = trace-means _ _ }
