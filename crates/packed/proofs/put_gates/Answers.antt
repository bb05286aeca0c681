-- `put_gates` meets its contract: after k turns the runs of the first k gates are written. Assumes nothing.
use native.Mathlib.Nat.{le_antisymm}
use native.Mathlib.Omega.{arith}
use borrow.Author.Rules.{rules}
use Rattle.text.proofs.WritingLaws.{more}
use Rattle.netlist.proofs.ValidLaws.{valid}
use Rattle.packed.specs.Format.{packed_gate}
use Rattle.packed.proofs.FormatLaws.{gate-ordered}
use Rattle.packed.proofs.put_gates.Goals as goal

pub overflow_add-from : goal.overflow_add-from
overflow_add-from c =
    let v = valid _ c.requires.net_value.0 in
    search rules

pub overflow_add-first : goal.overflow_add-first
overflow_add-first c =
    let v = valid _ c.requires.net_value.0 in
    search rules

pub put_gate-requires : goal.put_gate-requires
put_gate-requires c = let p = gate-ordered _ _ _ c.loop-k.k c.requires.net_value.0 (omega arith) c.requires.from_value.0 c.requires.from_value.1 in record { from_in_bounds = p.0; from_bound = p.1 }

pub loop-k-preserved : goal.loop-k-preserved
unfolding packed_gate
loop-k-preserved c =
    (search rules, more _ c.loop-k.k c.loop-k.invariant.1 (rw (c.requires.from_value.0, c.requires.from_value.1) at c.put_gate.ensures))

pub returns : goal.returns
returns c = rw (le_antisymm c.loop-k.invariant.0 c.loop-k-test.false) at c.loop-k.invariant.1
