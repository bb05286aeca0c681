-- `simulator::latches::starts` meets its contract: the words of the first k latches stand in front. Assumes nothing.
use mathlib.Core.Path.{◌≡◌, refl, sym}
use Prim.Native.Nat.{◌+◌, ◌*◌}
use native.Mathlib.Omega.{arith}
use lib.ListN.{get_or, set}
use borrow.Author.Rules.{rules}
use Rattle.simulator.proofs.StartLaws.{started, started-zero, started-more, start_word, free-none, free_yes, free_no}
use Rattle.simulator.proofs.latches.starts.Goals as goal
use Rattle.simulator.proofs.latches.starts.Goals.{else-reset-gt1, then-reset-gt1}

pub loop-k-init : goal.loop-k-init
loop-k-init c = (search rules, sym (free-none _), started-zero _ _)

pub loop-k-preserved : goal.loop-k-preserved
loop-k-preserved c =
    let net = c.args.net.now in
    let w = start_word net c.loop-k.k c.loop-k.j c.start_word.result (get_or net (5 + 2 * c.loop-k.k + 1) 0) refl c.loop-k.invariant.1 c.start_word.ensures in
    let step : set c.loop-k.latches c.loop-k.k c.start_word.result ≡ started net c.args.latches.now (c.loop-k.k + 1) =
    rw (c.loop-k.invariant.2, w) (started-more net c.args.latches.now c.loop-k.k (omega arith)) in
    elim c.if-reset-gt1.branch [ then-reset-gt1 w ↦ let h = free_yes net c.loop-k.k w.if-reset-gt1.true in (omega arith, omega arith, step) | else-reset-gt1 w ↦ let h = free_no net c.loop-k.k w.if-reset-gt1.false in (omega arith, omega arith, step) ]

pub returns : goal.returns
unfolding started
returns c =
    let e : c.loop-k.k ≡ c.args.count = omega arith in
    rw e at c.loop-k.invariant.2
