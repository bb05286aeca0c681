-- `simulator::cycle::latches_move` meets its contract: the latches passed have moved, and the rest are as they were. Assumes nothing.
use mathlib.Core.Path.{◌≡◌}
use Prim.Native.Nat.{◌+◌, ◌*◌, ◌≤◌}
use native.Mathlib.Omega.{arith}
use lib.ListN.{length}
use Rattle.netlist.specs.Meaning.{words}
use Rattle.netlist.proofs.ValidLaws.{valid}
use Rattle.simulator.proofs.CycleLaws.{moved, moved_zero, moved_more}
use Rattle.simulator.proofs.cycle.latches_move.Goals as goal

pub loop-j-init : goal.loop-j-init
loop-j-init c = moved_zero words _ _ _

pub overflow_mul-i : goal.overflow_mul-i
overflow_mul-i c = let long' : 5 + 2 * c.args.count ≤ length c.args.net.now = let v = valid c.args.net.now c.requires.net_value in omega (arith, v.long) in omega (arith, long')

pub overflow_add-i : goal.overflow_add-i
overflow_add-i c = let long' : 5 + 2 * c.args.count ≤ length c.args.net.now = let v = valid c.args.net.now c.requires.net_value in omega (arith, v.long) in omega (arith, long')

pub offset_bounds-net-i : goal.offset_bounds-net-i
offset_bounds-net-i c = let long' : 5 + 2 * c.args.count ≤ length c.args.net.now = let v = valid c.args.net.now c.requires.net_value in omega (arith, v.long) in omega (arith, long')

pub bounds-net-i : goal.bounds-net-i
bounds-net-i c = let long' : 5 + 2 * c.args.count ≤ length c.args.net.now = let v = valid c.args.net.now c.requires.net_value in omega (arith, v.long) in omega (arith, long')

pub word_of-requires : goal.word_of-requires
word_of-requires c =
    omega (arith, c.requires, (valid _ c.requires.net_value).nexts c.loop-j.j (omega (arith, c.requires, c.loop-j-test.true)))

pub loop-j-preserved : goal.loop-j-preserved
loop-j-preserved c =
    let step = moved_more words c.args.net.now c.args.values.now c.args.latches.now c.loop-j.j (omega arith) in
    rw (c.loop-j.invariant, c.word_of.ensures) step

pub returns : goal.returns
unfolding moved
returns c =
    let e : c.loop-j.j ≡ c.args.count = omega arith in
    rw e at c.loop-j.invariant
