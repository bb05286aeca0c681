-- `bench::places::are_places` meets its contract. Assumes nothing.
use mathlib.Core.Path.{◌≡◌, sym, ◌∙◌}
use mathlib.Core.Bool.{true}
use native.Mathlib.Omega.{arith}
use borrow.Author.Tests.{not-true, not-false}
use borrow.Author.Count.{below_more}
use Rattle.netlist.proofs.EachLaws.{each_all, each-not}
use Rattle.bench_turns.specs.Parts.{part_of}
use Rattle.bench_turns.specs.Numbers.{waiting_of, is_place}
use Rattle.bench.proofs.places.are_places.Goals as goal

pub loop-k-init : goal.loop-k-init
loop-k-init c = λ j l. absurd (omega arith)

pub waiting-requires : goal.waiting-requires
waiting-requires c = (c.loop-k-test.true, c.requires)

pub returns-then-not-is_place : goal.returns-then-not-is_place
returns-then-not-is_place c =
    let e = rw (c.part_of.ensures, c.waiting.ensures, c.part_of-in-loop-k.ensures) at (sym c.is_place.ensures ∙ not-true _ c.if-not-is_place.true-raw) in
    sym (each-not (λ j. is_place (part_of j c.args.nets.now) (waiting_of j c.args.bench.now) (part_of j c.args.queues.now)) 8 c.loop-k.k c.loop-k-test.true e)

pub loop-k-preserved : goal.loop-k-preserved
loop-k-preserved c =
    let e = rw (c.part_of.ensures, c.waiting.ensures, c.part_of-in-loop-k.ensures) at (sym c.is_place.ensures ∙ not-false _ c.if-not-is_place.false-raw) in
    below_more (λ j. is_place (part_of j c.args.nets.now) (waiting_of j c.args.bench.now) (part_of j c.args.queues.now) ≡ true) c.loop-k.k c.loop-k.invariant e

pub returns : goal.returns
returns c =
    let n = c.loop-k-test.false in
    sym (each_all (λ j. is_place (part_of j c.args.nets.now) (waiting_of j c.args.bench.now) (part_of j c.args.queues.now)) 8 (λ j h. c.loop-k.invariant j (omega arith)))
