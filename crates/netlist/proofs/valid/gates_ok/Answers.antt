-- `gates_ok` meets its contract. Assumes nothing.
use mathlib.Core.Path.{◌≡◌, sym}
use mathlib.Core.Bool.{true, false}
use native.Mathlib.Omega.{arith}
use borrow.Author.Count.{below_none, below_more}
use borrow.Author.Tests.{not-true, not-false}
use borrow.Author.Rules.{rules}
use Rattle.netlist.specs.Valid.{gate_ok}
use Rattle.netlist.proofs.EachLaws.{each_all, each-not}
use Rattle.netlist.proofs.valid.gates_ok.Goals as goal

pub loop-k-init : goal.loop-k-init
loop-k-init c = (search rules, below_none _)

pub returns-then-not-gate_ok : goal.returns-then-not-gate_ok
unfolding gate_ok
returns-then-not-gate_ok c =
    let p = c.requires.at_value in
    let e : gate_ok c.args.net.now c.loop-k.k ≡ false = rw (← p.0, ← p.1, ← c.gate_ok.ensures) (not-true _ c.if-not-gate_ok.true-raw) in
    sym (each-not _ _ c.loop-k.k c.loop-k-test.true e)

pub loop-k-preserved : goal.loop-k-preserved
unfolding gate_ok
loop-k-preserved c =
    let p = c.requires.at_value in
    let e : gate_ok c.args.net.now c.loop-k.k ≡ true = rw (← p.0, ← p.1, ← c.gate_ok.ensures) (not-false _ c.if-not-gate_ok.false-raw) in
    (search rules, below_more _ _ c.loop-k.invariant.1 e)

pub returns : goal.returns
returns c =
    sym (each_all _ _ (λ j h. c.loop-k.invariant.1 j (omega arith)))
