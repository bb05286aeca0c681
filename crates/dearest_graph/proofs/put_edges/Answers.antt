-- `put_edges` meets its contract: after n turns the lines of n edges are written. Assumes nothing.
use native.Mathlib.Nat.{le_antisymm}
use native.Mathlib.Omega.{arith}
use Rattle.text.proofs.WritingLaws.{none, more}
use Rattle.dearest_text.specs.Dearest.{loop_line}
use Rattle.dearest_graph.proofs.put_edges.Goals as goal

pub loop-init : goal.loop-init
loop-init c = none c.args.text.now (omega (arith, c.well_formed))

pub loop-preserved : goal.loop-preserved
unfolding loop_line
loop-preserved c = more (λ _. loop_line) c.loop.counter c.loop.invariant c.bytes.ensures

pub returns : goal.returns
returns c = rw (le_antisymm c.loop.auto.counter-end c.loop-test.false) at c.loop.invariant
