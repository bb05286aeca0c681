-- `outputs_ok` meets its contract. Assumes nothing.
use mathlib.Core.Path.{◌≡◌, sym}
use mathlib.Core.Bool.{true, false}
use native.Mathlib.Omega.{arith}
use borrow.Author.Count.{below_none, below_more}
use borrow.Author.Tests.{le-leb, lt-leb}
use borrow.Author.Rules.{rules}
use Rattle.netlist.specs.Valid.{is_within, output_ok}
use Rattle.netlist.proofs.EachLaws.{each_all, each-not}
use Rattle.netlist.proofs.valid.outputs_ok.Goals as goal

pub loop-k-init : goal.loop-k-init
loop-k-init c = (search rules, below_none _)

pub returns-then-net-at : goal.returns-then-net-at
unfolding output_ok is_within
returns-then-net-at c =
    let p = c.requires.at_value in
    let e : output_ok c.args.net.now c.loop-k.k ≡ false = rw (← p.0, ← p.1) (lt-leb _ _ c.if-net-at.true) in
    sym (each-not _ _ c.loop-k.k c.loop-k-test.true e)

pub loop-k-preserved : goal.loop-k-preserved
unfolding output_ok is_within
loop-k-preserved c =
    let p = c.requires.at_value in
    let e : output_ok c.args.net.now c.loop-k.k ≡ true = rw (← p.0, ← p.1) (le-leb _ _ c.if-net-at.false) in
    (search rules, below_more _ _ c.loop-k.invariant.1 e)

pub returns : goal.returns
returns c =
    sym (each_all _ _ (λ j h. c.loop-k.invariant.1 j (omega arith)))
