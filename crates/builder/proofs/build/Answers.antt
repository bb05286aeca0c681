-- `build` meets its contract: it is refused as the graph text is, or else as its monitor is. Assumes nothing.
use Rattle.std.proofs.lemmas.Result.{err_from_is_err_and}
use Rattle.graph.proofs.AnswerLaws.{checked-text, refused-text}
use Rattle.builder.specs.Build.{build_as, build_of}
use Rattle.builder.proofs.DemandLaws.{build_means}
use Rattle.builder.proofs.build.Goals as goal

pub build_monitor-requires : goal.build_monitor-requires
build_monitor-requires c =
    let t = checked-text c.args.graph.now c.read_graph.ensures.value c.in_ok-g.was in
    record { graph = t.graph; read = t.accepts; held = t.arrays }

pub returns-in_err-g : goal.returns-in_err-g
unfolding build_of build_as
returns-in_err-g c =
    let e = refused-text c.args.graph.now c.read_graph.ensures.value c.in_err-g.was in
    let r = err_from_is_err_and c.from_residual.result c.from_residual.ensures.1 in
    record { net_after = rw (e, r.1, r.2); demand = build_means _ _ _ }

pub returns : goal.returns
unfolding build_of
returns c =
    let t = checked-text c.args.graph.now c.read_graph.ensures.value c.in_ok-g.was in
    record { net_after = rw t.accepts (c.build_monitor.ensures t.graph t.accepts); demand = build_means _ _ _ }
