-- `latches_ok` meets its contract. Assumes nothing.
use Prim.Native.Nat.{ℕ, ◌+◌}
use mathlib.Core.Path.{◌≡◌, refl, sym, ap, ap₂, ◌∙◌}
use mathlib.Core.Bool.{Bool, ◌&&◌}
use native.Mathlib.Omega.{arith}
use lib.Dec.{leb}
use borrow.Author.Count.{below_none, below_more}
use borrow.Author.Tests.{not-true, not-false}
use borrow.Author.Rules.{rules}
use Rattle.netlist.specs.Valid.{latch_ok, free_count}
use Rattle.netlist.proofs.EachLaws.{each_all, each-not}
use Rattle.netlist.proofs.ValidLaws.{free_more, free-most}
use Rattle.netlist.proofs.valid.latches_ok.Goals as goal

pub loop-k-init : goal.loop-k-init
unfolding free_count
loop-k-init c = (search rules, refl, below_none _)

pub returns-then-not-latch_ok : goal.returns-then-not-latch_ok
returns-then-not-latch_ok c =
    let e = each-not _ _ c.loop-k.k c.loop-k-test.true (sym c.latch_ok.ensures ∙ not-true _ c.if-not-latch_ok.true-raw) in
    sym (ap (λ (t : Bool). t && leb (free_count c.args.net.now c.args.count) 6) e)

pub overflow_add-uninitialised : goal.overflow_add-uninitialised
overflow_add-uninitialised c =
    let m = free-most c.args.net.now (c.loop-k.k + 1) in
    let e = free_more c.args.net.now c.loop-k.k in
    omega (arith, c.free-uninitialised.ensures)

pub loop-k-preserved : goal.loop-k-preserved
loop-k-preserved c =
    let n = c.args.net.now in (
      search rules,
      ap₂ (λ (a b : ℕ). a + b) c.loop-k.invariant.1 c.free-uninitialised.ensures ∙ sym (free_more n c.loop-k.k),
      below_more _ _ c.loop-k.invariant.2 (sym c.latch_ok.ensures ∙ not-false _ c.if-not-latch_ok.false-raw),
    )

pub returns : goal.returns
returns c =
    let n = c.args.net.now in
    let k : c.loop-k.k ≡ c.args.count = omega arith in
    let f : c.loop-k.uninitialised ≡ free_count n c.args.count = c.loop-k.invariant.1 ∙ ap (free_count n) k in
    ap (λ (x : ℕ). leb x 6) f
    ∙ sym (ap (λ (t : Bool). t && leb (free_count n c.args.count) 6) (each_all (latch_ok n) c.args.count (λ j h. c.loop-k.invariant.2 j (omega arith))))
