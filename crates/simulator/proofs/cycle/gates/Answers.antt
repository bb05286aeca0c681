-- `simulator::cycle::gates` meets its contract: the words of the gates passed stand in front, and the rest is as it was. Assumes nothing.
use mathlib.Core.Path.{◌≡◌}
use Prim.Native.Nat.{◌+◌, ◌*◌, ◌≤◌}
use native.Mathlib.Omega.{arith}
use lib.ListN.{length}
use Rattle.netlist.specs.Meaning.{words}
use Rattle.netlist.proofs.ValidLaws.{valid}
use Rattle.simulator.proofs.CycleLaws.{Ordered, ordered, buffer, buffer-zero, buffer-more}
use Rattle.simulator.proofs.cycle.gates.Goals as goal

pub loop-g-init : goal.loop-g-init
loop-g-init c = buffer-zero words _ _ _ _

pub overflow_mul-i : goal.overflow_mul-i
overflow_mul-i c = let long' : c.args.at + 2 * c.args.count ≤ length c.args.net.now = let v = valid c.args.net.now c.requires.net_value in omega (arith, v.long) in omega (arith, long')

pub overflow_add-i : goal.overflow_add-i
overflow_add-i c = let long' : c.args.at + 2 * c.args.count ≤ length c.args.net.now = let v = valid c.args.net.now c.requires.net_value in omega (arith, v.long) in omega (arith, long')

pub offset_bounds-net-i : goal.offset_bounds-net-i
offset_bounds-net-i c = let long' : c.args.at + 2 * c.args.count ≤ length c.args.net.now = let v = valid c.args.net.now c.requires.net_value in omega (arith, v.long) in omega (arith, long')

pub bounds-net-i : goal.bounds-net-i
bounds-net-i c = let long' : c.args.at + 2 * c.args.count ≤ length c.args.net.now = let v = valid c.args.net.now c.requires.net_value in omega (arith, v.long) in omega (arith, long')

pub word_of-a-requires : goal.word_of-a-requires
unfolding Ordered
word_of-a-requires c =
    omega (arith, ((ordered _ (valid _ c.requires.net_value) _ _ _ c.requires.at_value c.requires.first_value c.requires.count_value) c.loop-g.g c.loop-g-test.true).0)

pub overflow_add-i-in-loop-g : goal.overflow_add-i-in-loop-g
overflow_add-i-in-loop-g c = let long' : c.args.at + 2 * c.args.count ≤ length c.args.net.now = let v = valid c.args.net.now c.requires.net_value in omega (arith, v.long) in omega (arith, long')

pub offset_bounds-net-i-in-loop-g : goal.offset_bounds-net-i-in-loop-g
offset_bounds-net-i-in-loop-g c = let long' : c.args.at + 2 * c.args.count ≤ length c.args.net.now = let v = valid c.args.net.now c.requires.net_value in omega (arith, v.long) in omega (arith, long')

pub bounds-net-i-in-loop-g : goal.bounds-net-i-in-loop-g
bounds-net-i-in-loop-g c = let long' : c.args.at + 2 * c.args.count ≤ length c.args.net.now = let v = valid c.args.net.now c.requires.net_value in omega (arith, v.long) in omega (arith, long')

pub word_of-b-requires : goal.word_of-b-requires
unfolding Ordered
word_of-b-requires c =
    omega (arith, ((ordered _ (valid _ c.requires.net_value) _ _ _ c.requires.at_value c.requires.first_value c.requires.count_value) c.loop-g.g c.loop-g-test.true).1)

pub loop-g-preserved : goal.loop-g-preserved
loop-g-preserved c =
    let t = c.loop-g-test.true in
    let a = c.word_of-a.ensures in
    let b = c.word_of-b.ensures in
    let step = buffer-more words c.args.net.now c.args.at c.args.first c.args.values.now c.loop-g.g c.args.count t c.requires.count_in_bounds ((ordered _ (valid _ c.requires.net_value) _ _ _ c.requires.at_value c.requires.first_value c.requires.count_value)) in
    rw (a, b, c.loop-g.invariant) step

pub returns : goal.returns
unfolding buffer
returns c =
    let e : c.loop-g.g ≡ c.args.count = omega arith in
    rw e at c.loop-g.invariant
