-- `simulator::cycle::spread` meets its contract. Assumes nothing.
use borrow.Author.Tests.{eq-eqb, ne_eqb}
use Rattle.netlist.specs.Meaning.{bit_of}
use Rattle.simulator.proofs.cycle.spread.Goals as goal

pub returns-then-b-eq49 : goal.returns-then-b-eq49
unfolding bit_of
returns-then-b-eq49 c = rw (eq-eqb c.args.b 49 c.if-b-eq49.true)

pub returns-else-b-eq49 : goal.returns-else-b-eq49
unfolding bit_of
returns-else-b-eq49 c = rw (ne_eqb c.args.b 49 c.if-b-eq49.false)
