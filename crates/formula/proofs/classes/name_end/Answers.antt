-- `name_end` meets its contract. The loop's invariant: what is passed and the name bytes that are left make up
-- the whole. Assumes nothing.
use mathlib.Core.Path.{sym, ◌∙◌}
use native.Mathlib.Omega.{arith}
use native.Mathlib.Decide.{dec_lt}
use lib.ListN.{length}
use borrow.Author.Tests.{not-true, not-false}
use Rattle.formula.proofs.Runs.{run_end_lem, run_stop, run_step}
use Rattle.formula.proofs.classes.name_end.Goals as goal

pub returns-then-not-in_name : goal.returns-then-not-in_name
returns-then-not-in_name c =
    omega (arith, run_stop c.args.s.now c.loop-i.i c.loop-i-test.true (sym c.in_name.ensures ∙ not-true c.in_name.result c.if-not-in_name.true-raw))

pub loop-i-preserved : goal.loop-i-preserved
loop-i-preserved c =
    omega (arith, run_step c.args.s.now c.loop-i.i c.loop-i-test.true (sym c.in_name.ensures ∙ not-false c.in_name.result c.if-not-in_name.false-raw))

pub returns : goal.returns
returns c =
    let s = c.args.s.now in
    let m = c.max.ensures in
    elim (dec_lt (length s) c.args.at) [
      | yes l ↦ omega (arith, run_end_lem s c.args.at (omega arith))
      | no n ↦ let e = c.loop-i.auto.i-end (omega arith) in omega (arith, run_end_lem s c.loop-i.i c.loop-i-test.false)
    ]
