-- `operands_ok` meets its contract. Assumes nothing.
use mathlib.Core.Path.{◌≡◌, sym}
use Prim.Native.Nat.{◌+◌, ◌*◌}
use native.Mathlib.Omega.{arith}
use borrow.Author.Count.{below_none, below_more}
use Rattle.netlist.specs.Layout.{operands_at}
use Rattle.netlist.proofs.EachLaws.{each_all, each-not}
use Rattle.aiger_order.proofs.LimitLaws.{left_out, right-out, both_in}
use borrow.Author.Rules.{rules}
use Rattle.aiger_order.proofs.limits.operands_ok.Goals as goal

pub loop-k-init : goal.loop-k-init
loop-k-init c = (search rules, below_none _)

pub returns-then-loose-place : goal.returns-then-loose-place
returns-then-loose-place c =
    let placed' : c.args.at + 2 * c.loop-k.k ≡ operands_at c.args.loose.now c.loop-k.k = omega arith in sym (each-not _ _ c.loop-k.k c.loop-k-test.true (left_out _ _ _ _ (placed') c.requires.at_value.1 c.if-loose-place.true))

pub returns-then-loose-place-2 : goal.returns-then-loose-place-2
returns-then-loose-place-2 c =
    let placed' : c.args.at + 2 * c.loop-k.k ≡ operands_at c.args.loose.now c.loop-k.k = omega arith in sym (each-not _ _ c.loop-k.k c.loop-k-test.true (right-out _ _ _ _ (placed') c.requires.at_value.1 c.if-loose-place-2.true))

pub loop-k-preserved : goal.loop-k-preserved
loop-k-preserved c =
    let placed' : c.args.at + 2 * c.loop-k.k ≡ operands_at c.args.loose.now c.loop-k.k = omega arith in let e = both_in _ _ _ _ (placed') c.requires.at_value.1 c.if-loose-place.false c.if-loose-place-2.false in
    (search rules, below_more _ _ c.loop-k.invariant.1 e)

pub returns : goal.returns
returns c =
    sym (each_all _ _ (λ j h. c.loop-k.invariant.1 j (omega arith)))
