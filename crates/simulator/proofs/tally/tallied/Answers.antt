-- `simulator::tally::tallied` meets its contract. Assumes nothing.
use native.Mathlib.Omega.{arith}
use Rattle.calls.specs.Tallies.{counted}
use Rattle.calls.proofs.TallyLaws.{room_fits}
use Rattle.netlist.proofs.EachLaws.{bit_byte, bit_most}
use Rattle.simulator.proofs.tally.tallied.Goals as goal

pub overflow_add-result : goal.overflow_add-result
overflow_add-result c = omega (arith, (room_fits _ _ c.requires).0)

pub overflow_add-result-2 : goal.overflow_add-result-2
overflow_add-result-2 c = omega (arith, (room_fits _ _ c.requires).1, bit_most)

pub overflow_add-result-3 : goal.overflow_add-result-3
overflow_add-result-3 c = omega (arith, (room_fits _ _ c.requires).2, bit_most)

pub returns : goal.returns
unfolding counted
returns c = rw (c.from-rejected.ensures, bit_byte, c.is_rejected.ensures, c.from-checked.ensures, bit_byte, c.is_checked.ensures)
