-- `simulator::running::run_cycles` meets its contract: what is still to run gives what the whole run gives. Assumes nothing.
use mathlib.Core.Path.{◌≡◌, refl, ◌∙◌}
use mathlib.Core.List.{List}
use Prim.Native.Nat.{ℕ, ◌+◌, ◌-◌}
use native.Mathlib.Omega.{arith}
use lib.ListN.{length, take, drop}
use borrow.Author.Rules.{rules}
use Rattle.simulator.specs.Run.{verdict_of}
use Rattle.simulator.specs.declared.outcome.Verdict.{Verdict}
use Rattle.simulator.proofs.RunLaws.{asked, length_part, ready, bytes_enough, going_start, going_line, going_place, going_room, going_next, going_done}
use Rattle.simulator.proofs.running.run_cycles.Goals as goal

-- the verdict over the bytes from place s to place n is that over the first n, where s is 0
whole : (v : List ℕ) (s n : ℕ) {r : Verdict} → r ≡ verdict_of (take (n - s) (drop s v)) → s ≡ 0 → r ≡ verdict_of (take n v)
whole v s n h z = let e : n - s ≡ n = omega arith in rw (e, z) at h

pub loop-k-init : goal.loop-k-init
loop-k-init c =
    let a = asked _ _ _ _ _ _ _ _ c.requires c.of-n.ensures.inputs refl in
    let n = c.new-reader.ensures in
    (a, rw n.2 (going_start _ _ _ _ _ _ _ _ a), cc, n.1)

pub advance-words-requires : goal.advance-words-requires
advance-words-requires c =
    let i = c.loop-k.invariant in
    let p = ready _ _ _ _ _ _ _ _ i.0 in
    let h = going_line _ _ _ _ _ _ _ _ _ _ _ _ _ _ i.1 i.0 c.loop-k-test.true in
    let e : length c.next_cycle-cycle.result.now ≡ c.of-n.result.inputs = rw (c.next_cycle-cycle.ensures.cycle, i.2, i.3) (length_part c.args.trace.now c.loop-k.reader.at c.of-n.result.inputs (omega arith)) in
    record { net_value = p.netlist; cycle_len = e ∙ i.0.inputs; net_in_bounds = rw i.1.latches-length p.latches; net_in_bounds_2 = rw i.1.values_length p.values }

pub bounds-verdicts-k : goal.bounds-verdicts-k
bounds-verdicts-k c =
    let i = c.loop-k.invariant in
    let t = c.loop-k-test.true in
    let e = i.1.verdicts-length in
    let b = bytes_enough _ _ _ _ _ _ _ _ i.0 in
    omega arith

pub tallied-total-requires : goal.tallied-total-requires
tallied-total-requires c = going_room _ _ _ _ _ _ _ _ _ _ _ _ _ _ c.loop-k.invariant.1 c.loop-k-test.true

pub loop-k-preserved : goal.loop-k-preserved
loop-k-preserved c =
    let i = c.loop-k.invariant in
    let t = c.loop-k-test.true in
    let m = c.next_cycle-cycle.ensures.moved in
    let e : c.next_cycle-cycle.new.self.at ≡ c.loop-k.reader.at + (c.of-n.result.inputs + 1) = going_place _ _ _ _ _ _ _ _ _ _ _ _ _ _ i.1 i.0 t _ (rw (i.2, i.3) at m.2) in
    let a = c.advance-words in (
      i.0,
      rw e (going_next _ _ _ _ _ _ _ _ _ _ _ _ _ _ i.1 i.0 t c.next_cycle-cycle.result.now (rw (i.2, i.3) at c.next_cycle-cycle.ensures.cycle)
          a.result.accept a.result.checked _ _ a.ensures.0 a.ensures.1 a.ensures.2 a.ensures.3 (search rules) (search rules) c.verdict_byte.result c.verdict_byte.ensures c.tallied-total.result c.tallied-total.ensures),
      cc,
      m.1 ∙ i.3,
    )

pub returns : goal.returns
returns c =
    going_done _ _ _ _ _ _ _ _ _ _ _ _ _ _ c.loop-k.invariant.1 c.loop-k.invariant.0 c.loop-k-test.false c.verdict-judged.result (whole _ _ _ c.verdict-judged.ensures (omega arith))
