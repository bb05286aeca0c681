-- `build_monitor` meets its contract. Assumes nothing.
use native.Mathlib.Omega.{arith}
use Rattle.builder.proofs.EndLaws as ends
use Rattle.builder.proofs.build_monitor.Goals as goal

pub gate_count-gates-requires : goal.gate_count-gates-requires
gate_count-gates-requires c =
    ((ends.good c.args.text.now c.args.g c.requires).bounded, ends.kept c.args.text.now c.args.g c.requires)

pub overflow_mul-latches : goal.overflow_mul-latches
overflow_mul-latches c = let w = ends.good c.args.text.now c.args.g c.requires in omega (arith, w.edges)

pub overflow_add-latches : goal.overflow_add-latches
overflow_add-latches c = let w = ends.good c.args.text.now c.args.g c.requires in omega (arith, w.edges, w.constants)

pub overflow_add-inputs : goal.overflow_add-inputs
overflow_add-inputs c = let w = ends.good c.args.text.now c.args.g c.requires in omega (arith, w.signals)

pub overflow_add-inputs-2 : goal.overflow_add-inputs-2
overflow_add-inputs-2 c = let w = ends.good c.args.text.now c.args.g c.requires in omega (arith, w.edges, w.constants, w.signals)

pub overflow_sub-inputs : goal.overflow_sub-inputs
overflow_sub-inputs c = let w = ends.good c.args.text.now c.args.g c.requires in omega (arith, w.edges, w.constants, w.signals)

pub returns-then-inputs-latches : goal.returns-then-inputs-latches
returns-then-inputs-latches c =
    λ graph q. let a = c.args in
    ends.many a.text.now a.g c.requires a.checked a.net.now (ends.counted a.text.now a.g c.requires a.checked c.gate_count-gates.ensures) graph q c.if-inputs-latches.true

pub overflow_mul-latches-2 : goal.overflow_mul-latches-2
overflow_mul-latches-2 c = let w = ends.good c.args.text.now c.args.g c.requires in omega (arith, w.edges, w.constants)

pub overflow_add-output_count-2 : goal.overflow_add-output_count-2
overflow_add-output_count-2 c = let w = ends.good c.args.text.now c.args.g c.requires in omega (arith, w.edges, w.constants)

pub overflow_mul-gates : goal.overflow_mul-gates
overflow_mul-gates c = omega (arith, c.if-inputs-latches.false)

pub overflow_add-output_count-3 : goal.overflow_add-output_count-3
overflow_add-output_count-3 c = let w = ends.good c.args.text.now c.args.g c.requires in omega (arith, c.if-inputs-latches.false, w.edges, w.constants)

pub returns-then-net-output_count : goal.returns-then-net-output_count
returns-then-net-output_count c =
    λ graph q. let a = c.args in
    ends.short a.text.now a.g c.requires a.checked a.net.now (ends.counted a.text.now a.g c.requires a.checked c.gate_count-gates.ensures) graph q c.output_count.ensures.0 c.if-inputs-latches.false c.if-net-output_count.true

pub put_numbers-requires : goal.put_numbers-requires
put_numbers-requires c =
    let a = c.args in
    let w = ends.good a.text.now a.g c.requires in
    let k = ends.counted a.text.now a.g c.requires a.checked c.gate_count-gates.ensures in
    (w, omega (arith, ends.size a.text.now a.g c.requires a.checked, k, c.if-net-output_count.false, c.output_count.ensures.0), omega (arith, k, c.if-inputs-latches.false, w.signals, w.constants, w.edges))

pub returns : goal.returns
returns c =
    λ graph q. let a = c.args in
    ends.done a.text.now a.g c.requires a.checked a.net.now (ends.counted a.text.now a.g c.requires a.checked c.gate_count-gates.ensures) graph q c.output_count.ensures.0 c.if-inputs-latches.false c.if-net-output_count.false c.put_numbers.ensures.1 c.put_numbers.ensures.0
